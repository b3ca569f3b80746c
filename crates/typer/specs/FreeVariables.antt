-- Whether a variable stands free in a term: it occurs, also in a :pattern, where neither a binder of the term nor one of these
-- names binds it (SMT-LIB 2.6, section 3.6).
use Rattle.std.specs.Prelude.{ℕ, Bool, false, not, ◌||◌, ◌==◌, List, [], ◌∷◌, ◌++◌, map}
use Rattle.std.specs.List.{list_any}
use Rattle.sort_store.specs.Tree.{Sort}
use Rattle.term_store.specs.declared.parts.Pattern.{Pattern}
use Rattle.term_store.specs.declared.parts.Pattern.TheVariants as patterns
use Rattle.term_store.specs.Term.{PlainTerm, PlainNode, Terms, Cases, Note, Notes, term, lit, var, app, let_in, quant, match_on, ann, no_terms, more_terms, no_cases, more_cases, named, pattern, other, no_notes, more_notes}

abbrev pub is_one_of : List ℕ → ℕ → Bool
is_one_of names name = list_any (λ n. n == name) names

abbrev pub pattern_names : Pattern → List ℕ
pattern_names (patterns.Var n) = n ∷ []
pattern_names (patterns.Con d n vs) = vs

abbrev mutual
  pub has_free : List ℕ → PlainTerm → Bool
  has_free bound (term u s x) = node_has_free bound x

  pub node_has_free : List ℕ → PlainNode → Bool
  node_has_free bound (lit k n) = false
  node_has_free bound (var n) = not (is_one_of bound n)
  node_has_free bound (app f ts) = any_has_free bound ts
  node_has_free bound (let_in vs ts b) = any_has_free bound ts || has_free (bound ++ vs) b
  node_has_free bound (quant all vs b) = has_free (bound ++ map (λ v. v.0) vs) b
  node_has_free bound (match_on t cs) = has_free bound t || any_case_has_free bound cs
  node_has_free bound (ann b ns) = has_free bound b || any_note_has_free bound ns

  pub any_has_free : List ℕ → Terms (Unit {0}) Sort → Bool
  any_has_free bound no_terms = false
  any_has_free bound (more_terms t ts) = has_free bound t || any_has_free bound ts

  pub any_case_has_free : List ℕ → Cases (Unit {0}) Sort → Bool
  any_case_has_free bound no_cases = false
  any_case_has_free bound (more_cases p t cs) = has_free (bound ++ pattern_names p) t || any_case_has_free bound cs

  pub any_note_has_free : List ℕ → Notes (Unit {0}) Sort → Bool
  any_note_has_free bound no_notes = false
  any_note_has_free bound (more_notes n ns) = note_has_free bound n || any_note_has_free bound ns

  pub note_has_free : List ℕ → Note (Unit {0}) Sort → Bool
  note_has_free bound (named d n) = false
  note_has_free bound (pattern ts) = any_has_free bound ts
  note_has_free bound (other k v) = false
