-- Each term has exactly one outcome. The symbols of a term and the sorts of its variables declare no name.
use Rattle.std.proofs.Common.{◌≡◌, ℕ, zero, suc, arith, ◌≤◌, ◌==◌, Bool, true, false, List, [], ◌∷◌, ◌++◌, codes, map, Option, Some, None, ◌⊎◌, inl, inr, refl, unwrap_or}
use Rattle.std.proofs.lemmas.Bool.{cases_Bool}
use Rattle.std.specs.List.{list_any}
use Rattle.std.specs.Str.{bytes_eq}
use Rattle.lex_core.specs.declared.place.Place.{Place}
use Rattle.lex_core.specs.declared.token.Tok.{Tok}
use Rattle.sig_table.specs.declared.theories.Theories.{Theories}
use Rattle.sig_table.specs.declared.code.Code.TheVariants.{NoRank, NumberTooLarge, WrongIndex, AmbiguousConstructor, WrongNamedTerm, WrongQualifiedSort, WrongTermSort, WrongBranchSort, SortTooLarge}
use Rattle.judgement.specs.Judging.{Judging, Lawful, DeclaresNone, check, declare, done, find, names, ◌>>=◌}
use Rattle.judgement.proofs.JudgementLaws.{lawful-done, lawful-check, lawful-declare, lawful-find, lawful-names, lawful-then, lawful-then_given, option_decided, value_once, value_or_fault, never_both, fault_once}
use Rattle.judgement.proofs.NamesKept.{none-done, none-check, none-find, none-then}
use Rattle.term_grammar.specs.Syntax.{Identifier, symbol, indexed, Qualified, unqualified, qualified, qualified_at, SortedSymbol, Term, constant, qualified_term, application, let_in, for_all, there_exists, match_with, annotated, term_at, Terms, no_terms, with_term, Bindings, no_bindings, with_binding, Cases, no_cases, with_case, pattern_at, symbol_pattern, constructor_pattern, Notes, no_notes, with_note, Note, named_note, pattern_note, attribute_note}
use Rattle.term_grammar.specs.Syntax as syntax
use Rattle.sort_store.specs.CoreRanks.{bool}
use Rattle.sort_store.specs.Tree.{Sort, node_count}
use Rattle.theory_core.proofs.SortsDecided.{sort_decided}
use Rattle.term_store.specs.Term.{PlainTerm, plain_sort}
use Rattle.term_store.specs.Term as typed
use Rattle.theory_bv.specs.declared.index.Index.{Index}
use Rattle.theory_bv.specs.Indices.{greatest}
use Rattle.theory_bv.specs.Ranks.{HasBvBadIndex, IsBvTooWide}
use Rattle.typer.specs.BitVectors.{HasBitsRank, width_of}
use Rattle.term_store.specs.Command.{PlainConstructor, PlainDatatype}
use Rattle.dt_rules.specs.PatternRules as pattern_rules
use Rattle.dt_rules.proofs.CoverageTests.{covers_decided}
use Rattle.dt_rules.proofs.PatternLaws.{lawful_pattern}
use Rattle.typer.specs.MatchRules.{AreSmall, Instance, IsBranchSort, instance_of, judge_small, judge_typed_pattern, pattern_sorts, pattern_variables}
use Rattle.typer.specs.SortSymbols.{is_text, or_else}
use Rattle.typer.specs.FunctionSymbols.{Signature, Function, theory, bits, declared, function_of, indexed_function, tested, tester_of, text_of, HasRank, is_ambiguous, is_fun_in_use, judge_result}
use Rattle.typer.specs.FreeVariables.{has_free, is_one_of}
use Rattle.typer.specs.RankRules.{judge_rank}
use Rattle.typer.specs.SortRules.{only_numeral}
use Rattle.typer.specs.TermRules.{Case, HasDivisor, IsNarrow, TakesIndices, MayBeNamed, PlainNote, first_sort, judge_case, judge_cases, judge_covered, literal_sort, number_after, bound, bound_sort, quantified, judge_binding, judge_bindings, judge_quantifier, judge_sorted, judge_variables, judge_name, judge_note, judge_notes, judge_function, judge_head, judge_indexed_by, judge_indexed_theory, judge_symbol, judge_application, judge_asked, identifier_of, judge_literal, judge_literal_sort, judge_term, judge_terms, Elaborates, TermFault}
use Rattle.typer.proofs.BitsRanks.{bad_index_decided, too_wide_decided, bits_rank_decided, bits_result_decided, bits_result_once}
use Rattle.typer.proofs.HeadSteps.{no_divisor, zero_divisor, divisor}
use Rattle.typer.proofs.RankDecisions.{theory_rank_decided, theory_result_decided, theory_result_once, instance_decided, instance_result_decided, instance_result_once}
use Rattle.typer.proofs.SortLaws.{at_most, lawful-sort, none-sort}

is_false : (b : Bool) → (b ≡ false) ⊎ (b ≡ false → ⊥)
is_false true = inr (λ e. cc)
is_false false = inl refl

all_false : (a b c : Bool) → ((a ≡ false) × (b ≡ false) × (c ≡ false)) ⊎ ((a ≡ false) × (b ≡ false) × (c ≡ false) → ⊥)
all_false true b c = inr (λ h. (let e = h.0 in cc))
all_false false true c = inr (λ h. (let e = h.1 in cc))
all_false false false true = inr (λ h. (let e = h.2 in cc))
all_false false false false = inl (refl, refl, refl)

not_decided : {P : Type 0} → P ⊎ (P → ⊥) → (P → ⊥) ⊎ ((P → ⊥) → ⊥)
not_decided (inl p) = inr (λ n. n p)
not_decided (inr n) = inl n

-- the rule on ranks, where it is decided which result sorts there are
module _ (rank : Sort → Type 0) (some : ((s : Sort) × rank s) ⊎ (((s : Sort) × rank s) → ⊥)) (each : (s : Sort) → rank s ⊎ (rank s → ⊥)) (at : ℕ) where
  one_or_none : ((s u : Sort) → rank s → rank u → s ≡ u) → ((s : Sort) × rank s × ((u : Sort) → rank u → u ≡ s)) ⊎ ((s : Sort) → rank s → ⊥)
  one_or_none once = elim some [ inl h ↦ inl (h.0, h.1, λ u r. once u h.0 r h.1) | inr n ↦ inr (λ s r. n (s, r)) ]

  abbrev result_checked : Sort → Judging Sort
  result_checked r = check (node_count r ≤ 1000) SortTooLarge at >>= (λ _. done r)

  abbrev given_result : Judging Sort
  given_result = find rank NoRank at >>= result_checked

  lawful-given : ((s u : Sort) → rank s → rank u → s ≡ u) → Lawful given_result
  lawful-given once = lawful-then (find rank NoRank at) result_checked (lawful-find rank NoRank at (one_or_none once))
      (λ r. lawful-then (check (node_count r ≤ 1000) SortTooLarge at) (λ _. done r) (lawful-check _ _ _ (at_most (node_count r) 1000)) (λ _. lawful-done r))

  lawful-rank : (ambiguous : Bool) → (ambiguous ≡ false → (s u : Sort) → rank s → rank u → s ≡ u) → (asked : Option Sort) → Lawful (judge_rank rank ambiguous at asked)
  lawful-rank ambiguous once None =
      lawful-then (check ((s : Sort) × rank s) NoRank at) (λ _. check (ambiguous ≡ false) AmbiguousConstructor at >>= (λ _. given_result)) (lawful-check _ _ _ some)
      (λ _. lawful-then_given (check (ambiguous ≡ false) AmbiguousConstructor at) (λ _. given_result) (lawful-check _ _ _ (is_false ambiguous)) (λ before x s h. lawful-given (once h.0) s))
  lawful-rank ambiguous once (Some asked) =
      lawful-then (check ((s : Sort) × rank s) NoRank at) (λ _. check (rank asked) WrongQualifiedSort at >>= (λ _. done asked)) (lawful-check _ _ _ some)
      (λ _. lawful-then (check (rank asked) WrongQualifiedSort at) (λ _. done asked) (lawful-check _ _ _ (each asked)) (λ _. lawful-done asked))

none-rank : (rank : Sort → Type 0) (ambiguous : Bool) (at : ℕ) (asked : Option Sort) → DeclaresNone (judge_rank rank ambiguous at asked)
none-rank rank ambiguous at None = none-then _ _ (none-check _ _ _) (λ _. none-then _ _ (none-check _ _ _) (λ _. none-then _ _ (none-find _ _ _) (λ r. none-then _ _ (none-check _ _ _) (λ _. none-done _))))
none-rank rank ambiguous at (Some asked) = none-then _ _ (none-check _ _ _) (λ _. none-then _ _ (none-check _ _ _) (λ _. none-done _))

-- no argument and no `as`
bare_decided : (args : List PlainTerm) (asked : Option Sort) → ((args ≡ []) × (asked ≡ None)) ⊎ ((args ≡ []) × (asked ≡ None) → ⊥)
bare_decided [] None = inl (refl, refl)
bare_decided [] (Some s) = inr (λ h. (let e = h.1 in cc))
bare_decided (t ∷ ts) asked = inr (λ h. (let e = h.0 in cc))

-- the rule on the rank of each kind of function symbol
module _ (theories : Theories) (at : ℕ) (args : List Sort) (asked : Option Sort) where
  abbrev bits_rank : List ℕ → List Index → Judging Sort
  bits_rank text is = judge_rank (HasBitsRank text is args) false at asked

  lawful-result : (f : Function) → Lawful (judge_result theories f at args asked)
  lawful-result (theory text) =
      lawful-rank (HasRank theories (theory text) args) (theory_rank_decided theories text args) (theory_result_decided theories text args) at false (λ _. theory_result_once theories text args) asked
  lawful-result (bits text is) =
      lawful-then (check (HasBvBadIndex text is (map width_of args) → ⊥) WrongIndex at) (λ _. check (IsBvTooWide text is (map width_of args) → ⊥) NumberTooLarge at >>= (λ _. bits_rank text is))
      (lawful-check _ _ _ (not_decided (bad_index_decided text is args)))
      (λ _. lawful-then (check (IsBvTooWide text is (map width_of args) → ⊥) NumberTooLarge at) (λ _. bits_rank text is) (lawful-check _ _ _ (not_decided (too_wide_decided text is args)))
      (λ _. lawful-rank (HasBitsRank text is args) (bits_rank_decided text is args) (bits_result_decided text is args) at false (λ _. bits_result_once text is args) asked))
  lawful-result (declared f) =
      lawful-rank (HasRank theories (declared f) args) (instance_decided f args) (instance_result_decided f args) at (is_ambiguous (declared f)) (λ e s u. instance_result_once f args s u e) asked

  none-result : (f : Function) → DeclaresNone (judge_result theories f at args asked)
  none-result (theory text) = none-rank _ _ _ asked
  none-result (bits text is) = none-then _ _ (none-check _ _ _) (λ _. none-then _ _ (none-check _ _ _) (λ _. none-rank _ _ _ asked))
  none-result (declared f) = none-rank _ _ _ asked

module _ (signature : Signature) (is : List Tok) where
  divisor_decided : HasDivisor signature is ⊎ (HasDivisor signature is → ⊥)
  divisor_decided = by (only_numeral is) refl
    where
      by : (o : Option Tok) → only_numeral is ≡ o → HasDivisor signature is ⊎ (HasDivisor signature is → ⊥)
      by None e = inr (no_divisor signature is e)
      by (Some i) e = elim (cases_Bool (bytes_eq (text_of signature i.name) (codes "0"))) [ inl z ↦ inr (zero_divisor signature is i e z) | inr z ↦ inl (divisor signature is i e z) ]

  indices_decided : (f : Function) → TakesIndices signature f is ⊎ (TakesIndices signature f is → ⊥)
  indices_decided (theory text) = divisor_decided
  indices_decided (bits text indices) = inl tt
  indices_decided (declared f) = inl tt

module _ (signature : Signature) (vars : List (ℕ × Sort)) where
  lawful-function : (f : Function) (at : ℕ) (args : List Sort) (asked : Option Sort) (name : ℕ) (indices : List ℕ) → Lawful (judge_function signature f at args asked name indices)
  lawful-function f at args asked name indices = lawful-then _ _ (lawful-result signature.theories at args asked f) (λ r. lawful-done _)

  lawful-head : (at : ℕ) (args : List Sort) (asked : Option Sort) (name : ℕ) → Lawful (judge_head signature at args asked name)
  lawful-head at args asked name = lawful-then _ _ (lawful-find _ _ _ (option_decided (function_of signature name))) (λ f. lawful-function f at args asked name [])

  lawful-indexed_theory : (at : ℕ) (args : List Sort) (asked : Option Sort) (name : ℕ) (is : List Tok) → Lawful (judge_indexed_theory signature at args asked name is)
  lawful-indexed_theory at args asked name is =
      lawful-then _ _ (lawful-find _ _ _ (option_decided (indexed_function signature name is)))
      (λ f. lawful-then (check (TakesIndices signature f is) WrongIndex at) (λ _. judge_function signature f at args asked name (map (λ i. i.name) is)) (lawful-check _ _ _ (indices_decided signature is f)) (λ _. lawful-function f at args asked name _))

  lawful-indexed_by : (b : Bool) (at : ℕ) (args : List Sort) (asked : Option Sort) (name : ℕ) (is : List Tok) → Lawful (judge_indexed_by b signature at args asked name is)
  lawful-indexed_by true at args asked name is =
      lawful-then _ _ (lawful-find _ _ _ (option_decided (tested signature is))) (λ c. lawful-then _ _ (lawful-result signature.theories at args asked (declared (tester_of c.1))) (λ r. lawful-done _))
  lawful-indexed_by false at args asked name is = lawful-indexed_theory at args asked name is

  lawful-symbol : (o : Option Sort) (at : ℕ) (args : List PlainTerm) (asked : Option Sort) (name : ℕ) → Lawful (judge_symbol signature o at args asked name)
  lawful-symbol (Some s) at args asked name = lawful-then _ _ (lawful-check _ _ _ (bare_decided args asked)) (λ _. lawful-done _)
  lawful-symbol None at args asked name = lawful-then _ _ (lawful-head at (map plain_sort args) asked name) (λ h. lawful-done _)

  lawful-application : (i : Identifier) (at : ℕ) (args : List PlainTerm) (asked : Option Sort) → Lawful (judge_application signature vars at args asked i)
  lawful-application (symbol t) at args asked = lawful-symbol (bound vars t.name) at args asked t.name
  lawful-application (indexed _ t is) at args asked = lawful-then _ _ (lawful-indexed_by (is_text signature.texts (codes "is") t.name) at (map plain_sort args) asked t.name is) (λ h. lawful-done _)

  lawful-asked : (q : Qualified) → Lawful (judge_asked signature q)
  lawful-asked (unqualified i) = lawful-done _
  lawful-asked (qualified _ i s) = lawful-then _ _ (lawful-sort signature.texts signature.declarations signature.theories [] s) (λ t. lawful-done _)

  lawful-literal : (t : Tok) → Lawful (judge_literal signature t)
  lawful-literal t =
      lawful-then (judge_literal_sort signature t) (λ s. done (typed.term tt s (typed.lit t.kind t.name)))
      (lawful-then _ _ (lawful-find _ _ _ (option_decided (literal_sort signature.theories (text_of signature t.name) t.kind)))
      (λ s. lawful-then (check (IsNarrow s) NumberTooLarge t.at) (λ _. done s) (lawful-check _ _ _ (at_most (unwrap_or (width_of s) 0) greatest)) (λ _. lawful-done s)))
      (λ s. lawful-done _)

  none-function : (f : Function) (at : ℕ) (args : List Sort) (asked : Option Sort) (name : ℕ) (indices : List ℕ) → DeclaresNone (judge_function signature f at args asked name indices)
  none-function f at args asked name indices = none-then _ _ (none-result signature.theories at args asked f) (λ r. none-done _)

  none-indexed_by : (b : Bool) (at : ℕ) (args : List Sort) (asked : Option Sort) (name : ℕ) (is : List Tok) → DeclaresNone (judge_indexed_by b signature at args asked name is)
  none-indexed_by true at args asked name is = none-then _ _ (none-find _ _ _) (λ c. none-then _ _ (none-result signature.theories at args asked (declared (tester_of c.1))) (λ r. none-done _))
  none-indexed_by false at args asked name is = none-then _ _ (none-find _ _ _) (λ f. none-then _ _ (none-check _ _ _) (λ _. none-function f at args asked name _))

  none-symbol : (o : Option Sort) (at : ℕ) (args : List PlainTerm) (asked : Option Sort) (name : ℕ) → DeclaresNone (judge_symbol signature o at args asked name)
  none-symbol (Some s) at args asked name = none-then _ _ (none-check _ _ _) (λ _. none-done _)
  none-symbol None at args asked name = none-then _ _ (none-then _ _ (none-find _ _ _) (λ f. none-function f at (map plain_sort args) asked name [])) (λ h. none-done _)

  pub none-application : (i : Identifier) (at : ℕ) (args : List PlainTerm) (asked : Option Sort) → DeclaresNone (judge_application signature vars at args asked i)
  none-application (symbol t) at args asked = none-symbol (bound vars t.name) at args asked t.name
  none-application (indexed _ t is) at args asked =
      none-then _ _ (none-indexed_by (is_text signature.texts (codes "is") t.name) at (map plain_sort args) asked t.name is) (λ h. none-done _)

  pub none-asked : (q : Qualified) → DeclaresNone (judge_asked signature q)
  none-asked (unqualified i) = none-done _
  none-asked (qualified _ i s) = none-then _ _ (none-sort signature.texts signature.declarations signature.theories [] s) (λ t. none-done _)

-- the productions that hold terms, by the judgements of their parts
lawful-binding : (repeated : Bool) (x : Tok) (value : Judging PlainTerm) → Lawful value → Lawful (judge_binding repeated x value)
lawful-binding repeated x value h = lawful-then _ _ (lawful-check _ _ _ (is_false repeated)) (λ _. lawful-then _ _ h (λ u. lawful-done _))

lawful-quantifier : (all : Bool) (at : ℕ) (variables : Judging (List (ℕ × Sort))) (body : List (ℕ × Sort) → Judging PlainTerm) → Lawful variables → ((vs : List (ℕ × Sort)) → Lawful (body vs)) → Lawful (judge_quantifier all at variables body)
lawful-quantifier all at variables body h k =
    lawful-then _ _ h (λ vs. lawful-then _ _ (k vs) (λ u. lawful-then (check (plain_sort u ≡ bool) WrongTermSort at) (λ _. done (quantified all vs u)) (lawful-check _ _ _ (sort_decided (plain_sort u) bool)) (λ _. lawful-done _)))

all_small : (ss : List Sort) → AreSmall ss ⊎ (AreSmall ss → ⊥)
all_small [] = inl (λ k d l. absurd (omega (arith, l)))
all_small (s ∷ ss) = by (at_most (node_count s) 1000) (all_small ss)
  where
    by : ((node_count s ≤ 1000) ⊎ (node_count s ≤ 1000 → ⊥)) → (AreSmall ss ⊎ (AreSmall ss → ⊥)) → AreSmall (s ∷ ss) ⊎ (AreSmall (s ∷ ss) → ⊥)
    by (inl h) (inl k) = inl all
      where
        all : AreSmall (s ∷ ss)
        all zero d l = h
        all (suc i) d l = k i d (omega (arith, l))
    by (inr n) k = inr (λ h. n (h zero s (omega arith)))
    by (inl h) (inr n) = inr (λ k. n (λ i d l. k (suc i) d (omega (arith, l))))

branch_sort : (first : Option Sort) (s : Sort) → IsBranchSort first s ⊎ (IsBranchSort first s → ⊥)
branch_sort None s = inl tt
branch_sort (Some first) s = sort_decided s first

-- the parts of a match
lawful-typed_pattern : (i : Instance) (p : syntax.Pattern) → Lawful (judge_typed_pattern i p)
lawful-typed_pattern i p =
    lawful-then _ _ (lawful_pattern i.0 p)
    (λ q. lawful-then (judge_small (pattern_at p) (pattern_sorts i q)) (λ _. done q) (lawful-then _ _ (lawful-check _ _ _ (all_small (pattern_sorts i q))) (λ _. lawful-done _)) (λ _. lawful-done _))

none-variables_of : (ns : List ℕ) (vs : List Tok) → DeclaresNone (pattern_rules.judge_variables ns vs)
none-variables_of ns [] = none-done _
none-variables_of ns (v ∷ vs) = none-then _ _ (none-check _ _ _) (λ _. none-variables_of (ns ++ v.name ∷ []) vs)

none-pattern_constant : (t : Tok) (o : Option PlainConstructor) → DeclaresNone (pattern_rules.judge_constant t o)
none-pattern_constant t None = none-done _
none-pattern_constant t (Some c) = none-then _ _ (none-check _ _ _) (λ _. none-done _)

none-pattern : (t : PlainDatatype) (p : syntax.Pattern) → DeclaresNone (pattern_rules.judge_pattern t p)
none-pattern t (symbol_pattern s) = none-pattern_constant s (pattern_rules.constructor_named t s.name)
none-pattern t (constructor_pattern at s vs) = none-then _ _ (none-find _ _ _) (λ c. none-then _ _ (none-check _ _ _) (λ _. none-then _ _ (none-variables_of [] vs) (λ ns. none-done _)))

pub none-typed_pattern : (i : Instance) (p : syntax.Pattern) → DeclaresNone (judge_typed_pattern i p)
none-typed_pattern i p = none-then _ _ (none-pattern i.0 p) (λ q. none-then (judge_small (pattern_at p) (pattern_sorts i q)) (λ _. done q) (none-then _ _ (none-check _ _ _) (λ _. none-done _)) (λ _. none-done _))

lawful-case : (i : Instance) (s : Sort) (first : Option Sort) (p : syntax.Pattern) (at : ℕ) (branch : List (ℕ × Sort) → Judging PlainTerm) → ((own : List (ℕ × Sort)) → Lawful (branch own)) → Lawful (judge_case i s first p at branch)
lawful-case i s first p at branch h =
    lawful-then _ _ (lawful-typed_pattern i p) (λ q. lawful-then _ _ (h (pattern_variables i s q))
    (λ u. lawful-then (check (IsBranchSort first (plain_sort u)) WrongBranchSort at) (λ _. done (q, u)) (lawful-check _ _ _ (branch_sort first (plain_sort u))) (λ _. lawful-done _)))

lawful-covered : (at : ℕ) (t : PlainDatatype) (u : PlainTerm) (cs : List Case) → Lawful (judge_covered at t u cs)
lawful-covered at t u cs =
    lawful-then _ _ (lawful-check _ _ _ (covers_decided (map (λ (c : Case). c.0) cs) t)) (λ _. lawful-then _ _ (lawful-find _ _ _ (option_decided (first_sort cs))) (λ s. lawful-done _))

module _ (signature : Signature) where
  lawful-sorted : (name : ℕ) (raw : syntax.Sort) → Lawful (judge_sorted signature name raw)
  lawful-sorted name raw = lawful-then _ _ (lawful-sort signature.texts signature.declarations signature.theories [] raw) (λ s. lawful-done _)

  lawful-variables : (vs : List SortedSymbol) → Lawful (judge_variables signature vs)
  lawful-variables [] = lawful-done _
  lawful-variables (v ∷ vs) = lawful-then _ _ (lawful-sorted v.name.name v.sort) (λ w. lawful-then _ _ (lawful-variables vs) (λ ws. lawful-done _))

  none-sorted : (name : ℕ) (raw : syntax.Sort) → DeclaresNone (judge_sorted signature name raw)
  none-sorted name raw = none-then _ _ (none-sort signature.texts signature.declarations signature.theories [] raw) (λ s. none-done _)

  pub none-variables : (vs : List SortedSymbol) → DeclaresNone (judge_variables signature vs)
  none-variables [] = none-done _
  none-variables (v ∷ vs) = none-then _ _ (none-sorted v.name.name v.sort) (λ w. none-then _ _ (none-variables vs) (λ ws. none-done _))

  abbrev with_name : PlainTerm → Tok → List ℕ → Judging PlainNote
  with_name u t seen = declare t.name >>= (λ _. done (typed.named (number_after signature seen) t.name))

  lawful-name : (u : PlainTerm) (t : Tok) → Lawful (judge_name signature u t)
  lawful-name u t =
      lawful-then names (λ seen. check (MayBeNamed signature seen u t.name) WrongNamedTerm t.at >>= (λ _. with_name u t seen)) lawful-names
      (λ seen. lawful-then (check (MayBeNamed signature seen u t.name) WrongNamedTerm t.at) (λ _. with_name u t seen)
      (lawful-check _ _ _ (all_false (has_free [] u) (is_fun_in_use signature t.name) (is_one_of seen t.name))) (λ _. lawful-then _ _ (lawful-declare t.name) (λ _. lawful-done _)))

  mutual
    pub lawful-term : (t : Term) (vars : List (ℕ × Sort)) → Lawful (judge_term signature vars t)
    lawful-term (constant t) vars = lawful-literal signature vars t
    lawful-term (qualified_term q) vars = lawful-then _ _ (lawful-asked signature vars q) (λ asked. lawful-application signature vars (identifier_of q) (qualified_at q) [] asked)
    lawful-term (application at q ts) vars = lawful-then _ _ (lawful-asked signature vars q) (λ asked. lawful-then _ _ (lawful-terms ts vars) (λ args. lawful-application signature vars (identifier_of q) at args asked))
    lawful-term (let_in at bs u) vars = lawful-then _ _ (lawful-bindings bs vars []) (λ cs. lawful-then _ _ (lawful-term u (vars ++ map bound_sort cs)) (λ v. lawful-done _))
    lawful-term (for_all at vs u) vars = lawful-quantifier true (term_at u) (judge_variables signature vs) (λ ws. judge_term signature (vars ++ ws) u) (lawful-variables vs) (λ ws. lawful-term u (vars ++ ws))
    lawful-term (there_exists at vs u) vars = lawful-quantifier false (term_at u) (judge_variables signature vs) (λ ws. judge_term signature (vars ++ ws) u) (lawful-variables vs) (λ ws. lawful-term u (vars ++ ws))
    lawful-term (match_with at u cs) vars =
        lawful-then _ _ (lawful-term u vars) (λ v. lawful-then _ _ (lawful-find _ _ _ (option_decided (instance_of signature.datatypes (plain_sort v))))
        (λ i. lawful-then _ _ (lawful-cases cs vars i (plain_sort v) None) (λ ds. lawful-covered at i.0 v ds)))
    lawful-term (annotated at u ns) vars = lawful-then _ _ (lawful-term u vars) (λ v. lawful-then _ _ (lawful-notes ns vars v) (λ ms. lawful-done _))

    pub lawful-terms : (ts : Terms) (vars : List (ℕ × Sort)) → Lawful (judge_terms signature vars ts)
    lawful-terms no_terms vars = lawful-done _
    lawful-terms (with_term t ts) vars = lawful-then _ _ (lawful-term t vars) (λ u. lawful-then _ _ (lawful-terms ts vars) (λ us. lawful-done _))

    lawful-bindings : (bs : Bindings) (vars : List (ℕ × Sort)) (others : List ℕ) → Lawful (judge_bindings signature vars others bs)
    lawful-bindings no_bindings vars others = lawful-done _
    lawful-bindings (with_binding at x t bs) vars others = lawful-then _ _ (lawful-binding (list_any (λ n. n == x.name) others) x (judge_term signature vars t) (lawful-term t vars)) (λ c. lawful-then _ _ (lawful-bindings bs vars (others ++ x.name ∷ [])) (λ cs. lawful-done _))

    lawful-cases : (cs : Cases) (vars : List (ℕ × Sort)) (i : Instance) (s : Sort) (first : Option Sort) → Lawful (judge_cases signature vars i s first cs)
    lawful-cases no_cases vars i s first = lawful-done _
    lawful-cases (with_case at p u cs) vars i s first =
        lawful-then _ _ (lawful-case i s first p (term_at u) (λ own. judge_term signature (vars ++ own) u) (λ own. lawful-term u (vars ++ own)))
        (λ c. lawful-then _ _ (lawful-cases cs vars i s (or_else first (Some (plain_sort c.1)))) (λ ds. lawful-done _))

    lawful-notes : (ns : Notes) (vars : List (ℕ × Sort)) (u : PlainTerm) → Lawful (judge_notes signature vars u ns)
    lawful-notes no_notes vars u = lawful-done _
    lawful-notes (with_note n ns) vars u = lawful-then _ _ (lawful-note n vars u) (λ m. lawful-then _ _ (lawful-notes ns vars u) (λ ms. lawful-done _))

    lawful-note : (n : Note) (vars : List (ℕ × Sort)) (u : PlainTerm) → Lawful (judge_note signature vars u n)
    lawful-note (named_note t) vars u = lawful-name u t
    lawful-note (pattern_note ts) vars u = lawful-then _ _ (lawful-terms ts vars) (λ us. lawful-done _)
    lawful-note (attribute_note a) vars u = lawful-done _

module _ (signature : Signature) (vars : List (ℕ × Sort)) (before : List ℕ) where
  -- the laws of the two readings
  pub elaborated_once : (t : Term) (u v : PlainTerm) (after later : List ℕ) → Elaborates signature vars before t u after → Elaborates signature vars before t v later → (u ≡ v) × (after ≡ later)
  elaborated_once t u v after later h k = value_once _ (lawful-term signature t vars) before u v after later h k

  pub term_or_fault : (t : Term) (u : PlainTerm) (after : List ℕ) (place : Place) → Elaborates signature vars before t u after → TermFault signature vars before t place → ⊥
  term_or_fault t u after place h k = never_both _ (lawful-term signature t vars) before u after place h k

  pub fault_of_term_once : (t : Term) (p q : Place) → TermFault signature vars before t p → TermFault signature vars before t q → p ≡ q
  fault_of_term_once t p q h k = fault_once _ (lawful-term signature t vars) before p q h k

  pub term_decided : (t : Term) → ((u : PlainTerm) × (after : List ℕ) × Elaborates signature vars before t u after) ⊎ ((place : Place) × TermFault signature vars before t place)
  term_decided t = value_or_fault _ (lawful-term signature t vars) before
