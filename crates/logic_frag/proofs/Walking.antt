-- The terms of a command are those that a walk from part to part comes to.
use Rattle.std.proofs.Common.{◌≡◌, ℕ, suc, ◌+◌, ◌≤◌, ◌<◌, List, [], ◌∷◌, ◌++◌, map, refl, sym, ap, subst, ◌∙◌, inl, inr, append_assoc, arith, Bool, zero, length, get_or}
use Rattle.std.specs.Prelude.{◌↔◌, ◌⊎◌, IsTrue, Result, Ok, Err, IfOk}
use Rattle.sort_store.specs.Tree as sorts
use Rattle.std.specs.List.{flat_map, Contains}
use Rattle.std.proofs.lemmas.Grind.{flat_map-append}
use Rattle.sort_store.specs.Tree.{Sort, NumberedSort}
use Rattle.term_store.specs.Command.{PlainCommand, PlainDef}
use Rattle.term_store.specs.Command as command
use Rattle.term_store.specs.NumberedNodes.{terms}
use Rattle.term_store.specs.declared.parts.Pattern.{Pattern}
use Rattle.term_store.specs.declared.parts.Pattern.TheVariants as patterns
use Rattle.term_store.specs.Term.{PlainTerm, PlainNode, Terms, Cases, term, lit, var, app, let_in, quant, match_on, ann, no_terms, more_terms, no_cases, more_cases, NumberedTerm, node_of, node_tree, tree, trees}
use Rattle.logic_frag.specs.FragmentRules.{HasTerm}
use Rattle.logic_frag.specs.IntegerTerms.{each_seen_in}
use Rattle.logic_frag.specs.Occurrences.{Occurrence, Scope, no_variables, quantified, seen_in, occurrences, occurrences_below, occurrences_each, occurrences_cases, occurrences_in, occurrences_in_body, with_let, with_quantified, with_matched, with_pattern}
use Rattle.logic_frag.specs.ScopeFrames.{with_names}
use Rattle.logic_frag.specs.declared.seen.Seen.{Seen}
use Rattle.logic_frag.specs.SeenTerms.{occurrence}
use Rattle.logic_frag.specs.Walk.{each_case_seen_in, parts_of, all_at, all_in, body_seen, pattern_names, roots_of, HasAny}
use Rattle.logic_frag.specs.Weights.{term_size, node_size, terms_size, cases_size}

-- the terms below are those of the parts

append_none : (xs : List Occurrence) → xs ++ [] ≡ xs
append_none [] = refl
append_none (x ∷ xs) = ap (λ z. x ∷ z) (append_none xs)

each_all : (scope : Scope) (ts : Terms (Unit {0}) Sort) → occurrences_each scope ts ≡ all_in (each_seen_in scope ts)
each_all scope no_terms = refl
each_all scope (more_terms t ts) = ap (λ z. occurrences scope t ++ z) (each_all scope ts)

cases_all : (scope : Scope) (cs : Cases (Unit {0}) Sort) → occurrences_cases scope cs ≡ all_in (each_case_seen_in scope cs)
cases_all scope no_cases = refl
cases_all scope (more_cases p t cs) = ap (λ z. occurrences (with_pattern p scope) t ++ z) (cases_all scope cs)

below_all : (scope : Scope) (x : PlainNode) → occurrences_below scope x ≡ all_in (parts_of scope x)
below_all scope (lit k n) = refl
below_all scope (var n) = refl
below_all scope (app f ts) = each_all scope ts
below_all scope (let_in vs ts b) =
    let body = occurrences (with_let vs ts scope scope) b in
    ap (λ z. z ++ body) (each_all scope ts) ∙ ap (λ z. all_in (each_seen_in scope ts) ++ z) (sym (append_none body))
    ∙ sym (flat_map-append all_at (each_seen_in scope ts) (seen_in (with_let vs ts scope scope) b ∷ []))
below_all scope (quant all-of vs b) = sym (append_none (occurrences (with_quantified vs scope) b))
below_all scope (match_on t cs) = ap (λ z. occurrences scope t ++ z) (cases_all scope cs)
below_all scope (ann b ns) = sym (append_none (occurrences scope b))

terms_all : (ts : List PlainTerm) → flat_map (occurrences no_variables) ts ≡ all_in (map (seen_in no_variables) ts)
terms_all [] = refl
terms_all (t ∷ ts) = ap (λ z. occurrences no_variables t ++ z) (terms_all ts)

bodies_all : (ds : List PlainDef) → flat_map occurrences_in_body ds ≡ all_in (map body_seen ds)
bodies_all [] = refl
bodies_all (d ∷ ds) = ap (λ z. occurrences_in_body d ++ z) (bodies_all ds)

command_all : (c : PlainCommand) → occurrences_in c ≡ all_in (roots_of c)
command_all (command.assert t) = sym (append_none (occurrences no_variables t))
command_all (command.check_sat_assuming ts) = terms_all ts
command_all (command.define_fun d) = sym (append_none (occurrences_in_body d))
command_all (command.define_fun_rec d) = sym (append_none (occurrences_in_body d))
command_all (command.define_funs_rec ds) = bodies_all ds
command_all (command.get_value ts) = terms_all ts
command_all _ = refl

-- terms of a kind among others

module _ (Kind : Occurrence → Type 0) where
  any_first : (xs ys : List Occurrence) → HasAny Kind xs → HasAny Kind (xs ++ ys)
  any_first [] ys h = absurd h
  any_first (x ∷ xs) ys (inl h) = inl h
  any_first (x ∷ xs) ys (inr h) = inr (any_first xs ys h)

  any_second : (xs ys : List Occurrence) → HasAny Kind ys → HasAny Kind (xs ++ ys)
  any_second [] ys h = h
  any_second (x ∷ xs) ys h = inr (any_second xs ys h)

  any_cases : (xs ys : List Occurrence) → HasAny Kind (xs ++ ys) → HasAny Kind xs ⊎ HasAny Kind ys
  any_cases [] ys h = inr h
  any_cases (x ∷ xs) ys (inl h) = inl (inl h)
  any_cases (x ∷ xs) ys (inr h) = elim (any_cases xs ys h) [
    | inl first ↦ inl (inr first)
    | inr second ↦ inr second
  ]

  -- a term that is not of the kind gives way to its parts
  pub any_left : (rest : List Occurrence) (scope : Scope) (t : PlainTerm) (x : PlainNode) → ((o : Occurrence) → o ≡ seen_in scope t → Kind o → ⊥) → occurrences scope t ≡ seen_in scope t ∷ occurrences_below scope x
      → HasAny Kind (all_in (rest ++ seen_in scope t ∷ [])) → HasAny Kind (all_in (rest ++ parts_of scope x))
  any_left rest scope t x unkind e h = elim (any_cases (all_in rest) (all_in (seen_in scope t ∷ [])) (subst (HasAny Kind) (flat_map-append all_at rest (seen_in scope t ∷ [])) h)) [
    | inl first ↦ subst (HasAny Kind) (sym (flat_map-append all_at rest (parts_of scope x))) (any_first (all_in rest) (all_in (parts_of scope x)) first)
    | inr second ↦ elim (subst (HasAny Kind) (append_none (occurrences scope t) ∙ e) second) [
      | inl it ↦ absurd (unkind (seen_in scope t) refl it)
      | inr below ↦ subst (HasAny Kind) (sym (flat_map-append all_at rest (parts_of scope x))) (any_second (all_in rest) (all_in (parts_of scope x)) (subst (HasAny Kind) (below_all scope x) below))
    ]
  ]

  pub any_before : (rest : List Occurrence) (scope : Scope) (t : PlainTerm) (x : PlainNode) → occurrences scope t ≡ seen_in scope t ∷ occurrences_below scope x
      → HasAny Kind (all_in (rest ++ parts_of scope x)) → HasAny Kind (all_in (rest ++ seen_in scope t ∷ []))
  any_before rest scope t x e h = elim (any_cases (all_in rest) (all_in (parts_of scope x)) (subst (HasAny Kind) (flat_map-append all_at rest (parts_of scope x)) h)) [
    | inl first ↦ subst (HasAny Kind) (sym (flat_map-append all_at rest (seen_in scope t ∷ []))) (any_first (all_in rest) (all_in (seen_in scope t ∷ [])) first)
    | inr second ↦
        let below = subst (HasAny Kind) (sym (below_all scope x)) second in
        let here = subst (HasAny Kind) (sym (append_none (occurrences scope t) ∙ e)) (inr below) in
        subst (HasAny Kind) (sym (flat_map-append all_at rest (seen_in scope t ∷ []))) (any_second (all_in rest) (all_in (seen_in scope t ∷ [])) here)
  ]

  pub any_here : (rest : List Occurrence) (scope : Scope) (t : PlainTerm) (x : PlainNode) → occurrences scope t ≡ seen_in scope t ∷ occurrences_below scope x → Kind (seen_in scope t) → HasAny Kind (all_in (rest ++ seen_in scope t ∷ []))
  any_here rest scope t x e k =
      let here = subst (HasAny Kind) (sym (append_none (occurrences scope t) ∙ e)) (inl k) in
      subst (HasAny Kind) (sym (flat_map-append all_at rest (seen_in scope t ∷ []))) (any_second (all_in rest) (all_in (seen_in scope t ∷ [])) here)

-- the sizes of some terms together
abbrev pub sizes : List Occurrence → ℕ
sizes [] = 0
sizes (o ∷ os) = term_size o.its + sizes os

pub sizes-append : (xs ys : List Occurrence) → sizes (xs ++ ys) ≡ sizes xs + sizes ys
sizes-append [] ys = omega arith
sizes-append (x ∷ xs) ys = omega (arith, sizes-append xs ys)

each_size : (scope : Scope) (ts : Terms (Unit {0}) Sort) → sizes (each_seen_in scope ts) ≡ terms_size ts
each_size scope no_terms = refl
each_size scope (more_terms t ts) = omega (arith, each_size scope ts)

cases_all_size : (scope : Scope) (cs : Cases (Unit {0}) Sort) → sizes (each_case_seen_in scope cs) ≡ cases_size cs
cases_all_size scope no_cases = refl
cases_all_size scope (more_cases p t cs) = omega (arith, cases_all_size scope cs)

parts_size : (scope : Scope) (x : PlainNode) → sizes (parts_of scope x) ≤ node_size x
parts_size scope (lit k n) = omega arith
parts_size scope (var n) = omega arith
parts_size scope (app f ts) = omega (arith, each_size scope ts)
parts_size scope (let_in vs ts b) = omega (arith, sizes-append (each_seen_in scope ts) (seen_in (with_let vs ts scope scope) b ∷ []), each_size scope ts)
parts_size scope (quant all-of vs b) = omega arith
parts_size scope (match_on t cs) = omega (arith, cases_all_size scope cs)
parts_size scope (ann b ns) = omega arith

pub parts_smaller : (rest : List Occurrence) (scope other : Scope) (s : Sort) (x : PlainNode) → sizes (rest ++ parts_of scope x) < sizes (rest ++ seen_in other (term tt s x) ∷ [])
parts_smaller rest scope other s x = omega (arith, sizes-append rest (parts_of scope x), sizes-append rest (seen_in other (term tt s x) ∷ []), parts_size scope x)

-- variables by their names alone
pub names_quantified : (vs : List (ℕ × Sort)) (scope : Scope) → with_names (map (λ (v : ℕ × Sort). v.0) vs) scope ≡ with_quantified vs scope
names_quantified [] scope = refl
names_quantified (v ∷ vs) scope = names_quantified vs (quantified v.0 scope)

pub names_matched : (p : Pattern) (scope : Scope) → with_matched (pattern_names p) scope ≡ with_pattern p scope
names_matched (patterns.Var n) scope = refl
names_matched (patterns.Con d n vs) scope = refl

-- lists that grow at their end
pub pushed_on : (xs ys : List Occurrence) (o : Occurrence) → (xs ++ o ∷ []) ++ ys ≡ xs ++ (o ∷ ys)
pushed_on xs ys o = append_assoc xs (o ∷ []) ys

pub nothing_pushed : (xs : List Occurrence) → xs ++ [] ≡ xs
nothing_pushed xs = append_none xs

pub each_listed : (scope : Scope) (ts : List NumberedTerm) → each_seen_in scope (trees (terms ts)) ≡ map (seen_in scope) (map tree ts)
each_listed scope [] = refl
each_listed scope (t ∷ ts) = ap (λ z. seen_in scope (tree t) ∷ z) (each_listed scope ts)

pub let_pushed : (xs ys zs : List Occurrence) → (xs ++ ys) ++ zs ≡ xs ++ (ys ++ zs)
let_pushed xs ys zs = append_assoc xs ys zs

pub ruleset pushed_words = (pushed_on, nothing_pushed, each_listed, let_pushed, names_quantified, names_matched)

term_first : (scope : Scope) (n : NumberedTerm) → occurrences scope (tree n) ≡ seen_in scope (tree n) ∷ occurrences_below scope (node_tree (node_of n))
term_first scope (term n s x) = refl

-- the last of the pending terms gives way to its parts
module _ (Kind : Occurrence → Type 0) (rest old : List Occurrence) (scope : Scope) (n : NumberedTerm) (popped : old ≡ rest ++ seen_in scope (tree n) ∷ []) where
  pub here_any : Kind (seen_in scope (tree n)) → HasAny Kind (all_in old)
  here_any k = subst (λ x. HasAny Kind (all_in x)) (sym popped) (any_here Kind rest scope (tree n) (node_tree (node_of n)) (term_first scope n) k)

  pub still_any : (new : List Occurrence) → new ≡ rest ++ parts_of scope (node_tree (node_of n)) → (Kind (seen_in scope (tree n)) → ⊥) → HasAny Kind (all_in new) ↔ HasAny Kind (all_in old)
  still_any new pushed unkind = (
    λ h. subst (λ x. HasAny Kind (all_in x)) (sym popped) (any_before Kind rest scope (tree n) (node_tree (node_of n)) (term_first scope n) (subst (λ x. HasAny Kind (all_in x)) pushed h)),
    λ h. subst (λ x. HasAny Kind (all_in x)) (sym pushed) (any_left Kind rest scope (tree n) (node_tree (node_of n)) (λ o e k. unkind (subst Kind e k)) (term_first scope n) (subst (λ x. HasAny Kind (all_in x)) popped h)),
  )

pub pending_smaller : (rest old new : List Occurrence) (scope : Scope) (n : NumberedTerm) → old ≡ rest ++ seen_in scope (tree n) ∷ [] → new ≡ rest ++ parts_of scope (node_tree (node_of n)) → sizes new < sizes old
pending_smaller rest old new scope (term n s x) popped pushed = omega (arith, ap sizes popped, ap sizes pushed, parts_smaller rest scope scope (sorts.tree s) (node_tree x))

-- one of the terms of a command

any_contained : (Kind : Occurrence → Type 0) (xs : List Occurrence) → HasAny Kind xs → (x : Occurrence) × Contains xs x × Kind x
any_contained Kind [] h = absurd h
any_contained Kind (x ∷ xs) (inl k) = (x, (0, omega arith, refl), k)
any_contained Kind (x ∷ xs) (inr h) =
    let later = any_contained Kind xs h in
    let at = later.1 in
    (later.0, (suc at.0, omega (arith, at.1), at.2), later.2)

contained_any : (Kind : Occurrence → Type 0) (xs : List Occurrence) (k : ℕ) (x : Occurrence) → k < length xs → get_or xs k x ≡ x → Kind x → HasAny Kind xs
contained_any Kind [] k x l e h = absurd (omega (arith, l))
contained_any Kind (y ∷ xs) zero x l e h = inl (subst Kind (sym e) h)
contained_any Kind (y ∷ xs) (suc k) x l e h = inr (contained_any Kind xs k x (omega (arith, l)) e h)

pub any_has_term : (Kind : Occurrence → Type 0) (c : PlainCommand) → HasAny Kind (all_in (roots_of c)) ↔ HasTerm c Kind
any_has_term Kind c = (
  λ h. let found = any_contained Kind (occurrences_in c) (subst (HasAny Kind) (sym (command_all c)) h) in record { its = found.0; contained = found.1; kind = found.2 },
  λ h. let at = h.contained in subst (HasAny Kind) (command_all c) (contained_any Kind (occurrences_in c) at.0 h.its at.1 at.2 h.kind),
)

pub command_answer : {E : Type 0} (Kind : Occurrence → Type 0) (c : PlainCommand) (roots : List Occurrence) (r : Result Bool E) → roots ≡ roots_of c
    → IfOk r (λ b. IsTrue b ↔ HasAny Kind (all_in roots)) → IfOk r (λ b. IsTrue b ↔ HasTerm c Kind)
command_answer Kind c roots (Ok b) e h =
    let known = any_has_term Kind c in
    (λ t. known.0 (subst (λ x. HasAny Kind (all_in x)) e (h.0 t)), λ k. h.1 (subst (λ x. HasAny Kind (all_in x)) (sym e) (known.1 k)))
command_answer Kind c roots (Err e) same h = tt

map-push : (xs : List Seen) (s : Seen) → map occurrence (xs ++ s ∷ []) ≡ map occurrence xs ++ occurrence s ∷ []
map-push [] s = refl
map-push (x ∷ xs) s = ap (λ z. occurrence x ∷ z) (map-push xs s)

pub popped_seen : (old rest : List Seen) (s : Seen) → old ≡ rest ++ s ∷ [] → map occurrence old ≡ map occurrence rest ++ occurrence s ∷ []
popped_seen old rest s e = ap (map occurrence) e ∙ map-push rest s
