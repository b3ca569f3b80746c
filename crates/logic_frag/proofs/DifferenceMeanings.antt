-- The tests of difference logic mean what its rules say.
use Rattle.std.proofs.Common.{◌≡◌, ℕ, suc, zero, Bool, true, false, ◌||◌, ◌&&◌, not, ◌==◌, if◌then◌else◌, List, [], ◌∷◌, IsTrue, Option, Some, None, slice_get, refl, sym, ap, subst, ◌∙◌, inl, inr, rules}
use Rattle.std.specs.Prelude.{◌↔◌, ◌⊎◌, codes, Result, Ok, Err, IfOk}
use Rattle.std.specs.List.{list_all, All, Contains}
use Rattle.std.proofs.lemmas.Bool.{cases_Bool, eqb-true, eq-eqb}
use Rattle.std.proofs.lemmas.List.Elements.{All-nil, All-cons, All-head, All-tail}
use Rattle.std.proofs.lemmas.List.Folds.{list_any-from_Any, Any-from_list_any}
use Rattle.sort_store.specs.Tree.{Sort}
use Rattle.sort_store.specs.declared.head.DeclNo.{DeclNo}
use Rattle.term_store.specs.Command.{PlainDef}
use Rattle.term_store.specs.declared.parts.Fun.{Fun}
use Rattle.term_store.specs.declared.parts.Fun.TheVariants as fun
use Rattle.term_store.specs.Term.{PlainTerm, Terms, term, lit, var, app, let_in, quant, match_on, ann, no_terms, more_terms, plain_sort}
use Rattle.logic_frag.specs.declared.logic.ArrayPart.TheVariants as arrays
use Rattle.logic_frag.specs.DifferenceTests.{has_int, is_absent, is_own, is_declared_only, is_unknown, is_unknown_at, is_atom, is_coefficient, pair_term, is_shifted, is_offset_named, is_offset, is_difference_named, is_difference, is_side, is_difference_and, is_difference_pair, are_comparable, is_relation, is_outside_application, is_outside_named, is_other_integer, is_outside}
use Rattle.logic_frag.specs.Following.{AppliesLower, body_of, constant_body, next_of}
use Rattle.logic_frag.specs.IntegerTerms.{HasSortInt, each_seen_in, TermApplies, StandsForApplication, IsCoefficient, IsDeclaredOnly, IsUnknown, IsAtomVariable, IsOffset, IsSide, IsDifference, AreComparable, relations, IsOtherComparison, IsOtherInteger, IsDivisibility, IsOutsideDifference}
use Rattle.logic_frag.specs.IntegerTests.{theory_text, is_text, is_zero_text, is_missing, coefficient}
use Rattle.logic_frag.specs.Occurrences.{Occurrence, Scope, no_variables, let_variable, quantified, matched, seen_in, let_value, is_quantified}
use Rattle.logic_frag.specs.SortSearch.{is_element}
use Rattle.logic_frag.specs.StandsFor.{Context, definition_at}
use Rattle.logic_frag.specs.Weights.{end_of}
use Rattle.logic_frag.proofs.IntegerMeanings.{applied_last, coefficient_known, is_end, known_coefficient, named_text, text_named}
use Rattle.logic_frag.proofs.OtherArrays.{both_are, both_true, is_int, not_decides}
use Rattle.logic_frag.proofs.Standing.{ends}

or_cases : (a b : Bool) → IsTrue (a || b) → IsTrue a ⊎ IsTrue b
or_cases true b h = inl refl
or_cases false b h = inr h

or_left : (a b : Bool) → IsTrue a → IsTrue (a || b)
or_left true b h = refl
or_left false b h = cc

or_right : (a b : Bool) → IsTrue b → IsTrue (a || b)
or_right true b h = refl
or_right false b h = h

-- two tests that decide give one that decides both, or one of both
and_decides : (a b : Bool) (P Q : Type 0) → (IsTrue a ↔ P) → (IsTrue b ↔ Q) → IsTrue (a && b) ↔ (P × Q)
and_decides a b P Q p q = (λ h. let both = both_true a b h in (p.0 both.0, q.0 both.1), λ h. both_are a b (p.1 h.0) (q.1 h.1))

or_decides : (a b : Bool) (P Q : Type 0) → (IsTrue a ↔ P) → (IsTrue b ↔ Q) → IsTrue (a || b) ↔ (P ⊎ Q)
or_decides a b P Q p q = (to, from)
  where
    to : IsTrue (a || b) → P ⊎ Q
    to h = elim (or_cases a b h) [ inl x ↦ inl (p.0 x) | inr y ↦ inr (q.0 y) ]

    from : P ⊎ Q → IsTrue (a || b)
    from h = elim h [ inl x ↦ or_left a b (p.1 x) | inr y ↦ or_right a b (q.1 y) ]

int_test : (o : Occurrence) → IsTrue (has_int o) ↔ HasSortInt o
int_test o = (is_int (plain_sort o.its), λ e. subst (λ s. IsTrue (is_element arrays.Ints s)) (sym e) refl)

all_decides : (test : Occurrence → Bool) (P : Occurrence → Type 0) → ((o : Occurrence) → IsTrue (test o) ↔ P o) → (os : List Occurrence) → IsTrue (list_all test os) ↔ All P os
all_decides test P d os = (to os, from os)
  where
    to : (xs : List Occurrence) → IsTrue (list_all test xs) → All P xs
    to [] h = All-nil P
    to (x ∷ xs) h = let both = both_true (test x) (list_all test xs) h in All-cons P x xs ((d x).0 both.0) (to xs both.1)

    from : (xs : List Occurrence) → All P xs → IsTrue (list_all test xs)
    from [] h = refl
    from (x ∷ xs) h = both_are (test x) (list_all test xs) ((d x).1 (All-head P x xs h)) (from xs (All-tail P x xs h))

quantified_no_value : (scope : Scope) (n : ℕ) → is_quantified scope n ≡ true → let_value scope n ≡ None
quantified_no_value no_variables n h = cc
quantified_no_value (let_variable m t outer scope) n h = hidden (n == m) (quantified_no_value scope n) h
  where
    hidden : (same : Bool) → (is_quantified scope n ≡ true → let_value scope n ≡ None) → (if same then false else is_quantified scope n) ≡ true → (if same then Some (seen_in outer t) else let_value scope n) ≡ None
    hidden true further e = cc
    hidden false further e = further e
quantified_no_value (quantified m scope) n h = bound (n == m) (quantified_no_value scope n) h
  where
    bound : (same : Bool) → (is_quantified scope n ≡ true → let_value scope n ≡ None) → (if same then true else is_quantified scope n) ≡ true → (if same then None else let_value scope n) ≡ None
    bound true further e = refl
    bound false further e = further e
quantified_no_value (matched m scope) n h = bound (n == m) (quantified_no_value scope n) h
  where
    bound : (same : Bool) → (is_quantified scope n ≡ true → let_value scope n ≡ None) → (if same then false else is_quantified scope n) ≡ true → (if same then None else let_value scope n) ≡ None
    bound true further e = refl
    bound false further e = further e

absent_test : (o : Option PlainDef) → IsTrue (is_absent o) ↔ (o ≡ None)
absent_test None = (λ h. refl, λ h. refl)
absent_test (Some d) = (λ h. cc, λ h. cc)

own_test : (own : List DeclNo) (d : DeclNo) → IsTrue (is_own own d) ↔ Contains own d
own_test own d = (to, λ at. list_any-from_Any (λ (e : DeclNo). d.0 == e.0) own (at.0, d, at.1, at.2, eq-eqb d.0 d.0 refl))
  where
    to : IsTrue (is_own own d) → Contains own d
    to h =
        let any = Any-from_list_any (λ (e : DeclNo). d.0 == e.0) own h in
        let same : any.1 ≡ d = ap (λ (k : ℕ). record { 0 = k }) (sym (eqb-true d.0 any.1.0 any.4)) in
        subst (Contains own) same (any.0, any.2, any.3)

-- the names of relations
relation_of : (name : Option (List ℕ)) → IsTrue (is_relation name) → (at : ℕ) × (text : List ℕ) × (slice_get relations at ≡ Some text) × (is_text name text ≡ true)
relation_of name h = elim (or_cases (is_text name (codes "=") || (is_text name (codes "distinct") || is_text name (codes "<"))) (is_text name (codes "<=") || (is_text name (codes ">") || is_text name (codes ">="))) h) [
  | inl front ↦ elim (or_cases (is_text name (codes "=")) (is_text name (codes "distinct") || is_text name (codes "<")) front) [
    | inl x ↦ (0, codes "=", refl, x)
    | inr more ↦ elim (or_cases (is_text name (codes "distinct")) (is_text name (codes "<")) more) [ inl x ↦ (1, codes "distinct", refl, x) | inr x ↦ (2, codes "<", refl, x) ]
  ]
  | inr back ↦ elim (or_cases (is_text name (codes "<=")) (is_text name (codes ">") || is_text name (codes ">=")) back) [
    | inl x ↦ (3, codes "<=", refl, x)
    | inr more ↦ elim (or_cases (is_text name (codes ">")) (is_text name (codes ">=")) more) [ inl x ↦ (4, codes ">", refl, x) | inr x ↦ (5, codes ">=", refl, x) ]
  ]
]

relation_at : (at : ℕ) (text : List ℕ) → slice_get relations at ≡ Some text → IsTrue (is_relation (Some text))
relation_at zero text e = let it : codes "=" ≡ text = cc in subst (λ x. IsTrue (is_relation (Some x))) it refl
relation_at (suc zero) text e = let it : codes "distinct" ≡ text = cc in subst (λ x. IsTrue (is_relation (Some x))) it refl
relation_at (suc (suc zero)) text e = let it : codes "<" ≡ text = cc in subst (λ x. IsTrue (is_relation (Some x))) it refl
relation_at (suc (suc (suc zero))) text e = let it : codes "<=" ≡ text = cc in subst (λ x. IsTrue (is_relation (Some x))) it refl
relation_at (suc (suc (suc (suc zero)))) text e = let it : codes ">" ≡ text = cc in subst (λ x. IsTrue (is_relation (Some x))) it refl
relation_at (suc (suc (suc (suc (suc zero))))) text e = let it : codes ">=" ≡ text = cc in subst (λ x. IsTrue (is_relation (Some x))) it refl
relation_at (suc (suc (suc (suc (suc (suc at)))))) text e = cc

module _ (context : Context) (lower : AppliesLower context.kept) where
  declared_last : (f : Fun) → IsDeclaredOnly context f → body_of context.kept f ≡ None
  declared_last fun.Theory h = absurd h
  declared_last (fun.Tester d) h = absurd h
  declared_last (fun.Declared d) h = ap constant_body h.0

  declared_test : (f : Fun) → IsTrue (is_declared_only context f) ↔ IsDeclaredOnly context f
  declared_test fun.Theory = search rules
  declared_test (fun.Tester d) = search rules
  declared_test (fun.Declared d) =
      and_decides (is_absent (definition_at context.kept d)) (not (is_own context.own d)) (definition_at context.kept d ≡ None) (Contains context.own d → ⊥) (absent_test (definition_at context.kept d)) (not_decides (is_own context.own d) (Contains context.own d) (own_test context.own d))

  unknown_test : (scope : Scope) (t : PlainTerm) → IsTrue (is_unknown context scope t) ↔ IsUnknown context scope t
  unknown_test scope (term u s (app f no_terms)) = declared_test f.fun
  unknown_test scope (term u s (app f (more_terms t ts))) = search rules
  unknown_test scope (term u s (var n)) = (λ h. h, λ h. h)
  unknown_test scope (term u s (lit k n)) = search rules
  unknown_test scope (term u s (let_in vs ts b)) = search rules
  unknown_test scope (term u s (quant q vs b)) = search rules
  unknown_test scope (term u s (match_on t cs)) = search rules
  unknown_test scope (term u s (ann b ns)) = search rules

  unknown_last : (scope : Scope) (t : PlainTerm) → IsUnknown context scope t → next_of context.kept scope t ≡ None
  unknown_last scope (term u s (app f no_terms)) h = declared_last f.fun h
  unknown_last scope (term u s (app f (more_terms t ts))) h = absurd h
  unknown_last scope (term u s (var n)) h = quantified_no_value scope n h
  unknown_last scope (term u s (lit k n)) h = absurd h
  unknown_last scope (term u s (let_in vs ts b)) h = absurd h
  unknown_last scope (term u s (quant q vs b)) h = absurd h
  unknown_last scope (term u s (match_on t cs)) h = absurd h
  unknown_last scope (term u s (ann b ns)) h = absurd h

  atom_test : (o : Occurrence) → IsTrue (is_atom context o) ↔ IsAtomVariable context o
  atom_test o = (to, from)
    where
      to : IsTrue (is_atom context o) → IsAtomVariable context o
      to h =
          let last = end_of context.kept o in
          let both = both_true (has_int o) (is_unknown_at context last) h in
          record { unknown = last; stands = (ends context o lower).stands; is_unknown = (unknown_test last.scope last.its).0 both.1; of_int = (int_test o).0 both.0 }

      from : IsAtomVariable context o → IsTrue (is_atom context o)
      from k =
          let it = is_end context lower o k.unknown k.stands (unknown_last k.unknown.scope k.unknown.its k.is_unknown) in
          both_are (has_int o) (is_unknown_at context (end_of context.kept o)) ((int_test o).1 k.of_int) (subst (λ x. IsTrue (is_unknown_at context x)) it ((unknown_test k.unknown.scope k.unknown.its).1 k.is_unknown))

  coefficient_test : (o : Occurrence) → IsTrue (is_coefficient context o) ↔ IsCoefficient context o
  coefficient_test o = decided (coefficient context o) refl
    where
      decided : (c : Option Bool) → coefficient context o ≡ c → IsTrue (not (is_missing c)) ↔ IsCoefficient context o
      decided None e = (λ h. cc, λ p. let s : None ≡ Some (is_zero_text p.0) = sym e ∙ coefficient_known context lower o p.0 p.1 in cc)
      decided (Some z) e = (λ h. let back = known_coefficient context lower o z e in (back.0, back.1), λ p. refl)

  shifted_test : (a b : Occurrence) → IsTrue (is_shifted context a b) ↔ (IsAtomVariable context a × IsCoefficient context b)
  shifted_test a b = and_decides (is_atom context a) (is_coefficient context b) (IsAtomVariable context a) (IsCoefficient context b) (atom_test a) (coefficient_test b)

  -- applications to two arguments

  record IsPair (scope : Scope) (t : PlainTerm) (named : Option (List ℕ) → Occurrence → Occurrence → Bool) : Type 0 where
    name : Option (List ℕ)
    first : Occurrence
    second : Occurrence
    applies : (text : List ℕ) → is_text name text ≡ true → TermApplies context scope t text (first ∷ second ∷ [])
    passes : named name first second ≡ true

  pair_found : (named : Option (List ℕ) → Occurrence → Occurrence → Bool) (scope : Scope) (t : PlainTerm) → pair_term named context.texts scope t ≡ true → IsPair scope t named
  pair_found named scope (term u s (app f (more_terms a (more_terms b no_terms)))) e =
      record { name = theory_text context.texts f; first = seen_in scope a; second = seen_in scope b; applies = λ text h. let known = text_named context.texts f.fun f.name text h in (known.0, known.1, refl); passes = e }
  pair_found named scope (term u s (app f no_terms)) e = cc
  pair_found named scope (term u s (app f (more_terms a no_terms))) e = cc
  pair_found named scope (term u s (app f (more_terms a (more_terms b (more_terms c ts))))) e = cc
  pair_found named scope (term u s (lit k n)) e = cc
  pair_found named scope (term u s (var n)) e = cc
  pair_found named scope (term u s (let_in vs ts b)) e = cc
  pair_found named scope (term u s (quant q vs b)) e = cc
  pair_found named scope (term u s (match_on t cs)) e = cc
  pair_found named scope (term u s (ann b ns)) e = cc

  pair_there : (named : Option (List ℕ) → Occurrence → Occurrence → Bool) (scope : Scope) (t : PlainTerm) (text : List ℕ) (a b : Occurrence) → TermApplies context scope t text (a ∷ b ∷ []) → pair_term named context.texts scope t ≡ named (Some text) a b
  pair_there named scope (term u s (app f (more_terms x (more_terms y no_terms)))) text a b h =
      let e : a ∷ b ∷ [] ≡ seen_in scope x ∷ seen_in scope y ∷ [] = h.2 in
      let p : seen_in scope x ≡ a = cc in
      let q : seen_in scope y ≡ b = cc in
      ap (λ z. named z (seen_in scope x) (seen_in scope y)) (named_text context.texts f.fun f.name text h.0 h.1) ∙ ap (λ z. named (Some text) z (seen_in scope y)) p ∙ ap (named (Some text) a) q
  pair_there named scope (term u s (app f no_terms)) text a b h = let e : a ∷ b ∷ [] ≡ [] = h.2 in cc
  pair_there named scope (term u s (app f (more_terms x no_terms))) text a b h = let e : a ∷ b ∷ [] ≡ seen_in scope x ∷ [] = h.2 in cc
  pair_there named scope (term u s (app f (more_terms x (more_terms y (more_terms z ts))))) text a b h = let e : a ∷ b ∷ [] ≡ seen_in scope x ∷ seen_in scope y ∷ seen_in scope z ∷ each_seen_in scope ts = h.2 in cc
  pair_there named scope (term u s (lit k n)) text a b h = absurd h
  pair_there named scope (term u s (var n)) text a b h = absurd h
  pair_there named scope (term u s (let_in vs ts c)) text a b h = absurd h
  pair_there named scope (term u s (quant q vs c)) text a b h = absurd h
  pair_there named scope (term u s (match_on t cs)) text a b h = absurd h
  pair_there named scope (term u s (ann c ns)) text a b h = absurd h

  -- what stands for such an application
  pair_stands : (named : Option (List ℕ) → Occurrence → Occurrence → Bool) (o : Occurrence) (text : List ℕ) (a b : Occurrence) → StandsForApplication context o text (a ∷ b ∷ [])
      → pair_term named context.texts (end_of context.kept o).scope (end_of context.kept o).its ≡ named (Some text) a b
  pair_stands named o text a b h =
      let e = h.application in
      let it = is_end context lower o e h.stands (applied_last context lower e.scope e.its text (a ∷ b ∷ []) h.applies) in
      ap (λ (x : Occurrence). pair_term named context.texts x.scope x.its) (sym it) ∙ pair_there named e.scope e.its text a b h.applies

  stands_pair : (o : Occurrence) (named : Option (List ℕ) → Occurrence → Occurrence → Bool) (pair : IsPair (end_of context.kept o).scope (end_of context.kept o).its named) (text : List ℕ) → is_text pair.name text ≡ true
      → StandsForApplication context o text (pair.first ∷ pair.second ∷ [])
  stands_pair o named pair text e = record { application = end_of context.kept o; stands = (ends context o lower).stands; applies = pair.applies text e }

  offset_found : (o a b : Occurrence) (name : Option (List ℕ)) → ((text : List ℕ) → is_text name text ≡ true → StandsForApplication context o text (a ∷ b ∷ [])) → is_offset_named context name a b ≡ true → IsOffset context o
  offset_found o a b name stand e = elim (cases_Bool (is_text name (codes "+"))) [
    | inl plus ↦
        let either : IsTrue (is_shifted context a b || is_shifted context b a) = sym (ap (λ (c : Bool). if c then is_shifted context a b || is_shifted context b a else if is_text name (codes "-") then is_shifted context a b else false) plus) ∙ e in
        elim (or_cases (is_shifted context a b) (is_shifted context b a) either) [
          | inl x ↦ let both = (shifted_test a b).0 x in record { variable = a; offset = b; is_variable = both.0; is_offset = both.1; is_sum = inl (stand (codes "+") plus) }
          | inr y ↦ let both = (shifted_test b a).0 y in record { variable = b; offset = a; is_variable = both.0; is_offset = both.1; is_sum = inr (inl (stand (codes "+") plus)) }
        ]
    | inr other ↦
        let rest : (if is_text name (codes "-") then is_shifted context a b else false) ≡ true = sym (ap (λ (c : Bool). if c then is_shifted context a b || is_shifted context b a else if is_text name (codes "-") then is_shifted context a b else false) other) ∙ e in
        elim (cases_Bool (is_text name (codes "-"))) [
          | inl minus ↦
              let both = (shifted_test a b).0 (sym (ap (λ (c : Bool). if c then is_shifted context a b else false) minus) ∙ rest) in
              record { variable = a; offset = b; is_variable = both.0; is_offset = both.1; is_sum = inr (inr (stand (codes "-") minus)) }
          | inr neither ↦ let s : false ≡ true = sym (ap (λ (c : Bool). if c then is_shifted context a b else false) neither) ∙ rest in cc
        ]
  ]

  offset_test : (o : Occurrence) → IsTrue (is_offset context o) ↔ IsOffset context o
  offset_test o = (to, from)
    where
      to : IsTrue (is_offset context o) → IsOffset context o
      to h =
          let pair = pair_found (is_offset_named context) (end_of context.kept o).scope (end_of context.kept o).its h in
          offset_found o pair.first pair.second pair.name (stands_pair o (is_offset_named context) pair) pair.passes

      from : IsOffset context o → IsTrue (is_offset context o)
      from k = elim k.is_sum [
        | inl first ↦ pair_stands (is_offset_named context) o (codes "+") k.variable k.offset first ∙ or_left (is_shifted context k.variable k.offset) (is_shifted context k.offset k.variable) ((shifted_test k.variable k.offset).1 (k.is_variable, k.is_offset))
        | inr more ↦ elim more [
          | inl second ↦ pair_stands (is_offset_named context) o (codes "+") k.offset k.variable second ∙ or_right (is_shifted context k.offset k.variable) (is_shifted context k.variable k.offset) ((shifted_test k.variable k.offset).1 (k.is_variable, k.is_offset))
          | inr minus ↦ pair_stands (is_offset_named context) o (codes "-") k.variable k.offset minus ∙ (shifted_test k.variable k.offset).1 (k.is_variable, k.is_offset)
        ]
      ]

  atoms_test : (a b : Occurrence) → IsTrue (is_atom context a && is_atom context b) ↔ (IsAtomVariable context a × IsAtomVariable context b)
  atoms_test a b = and_decides (is_atom context a) (is_atom context b) (IsAtomVariable context a) (IsAtomVariable context b) (atom_test a) (atom_test b)

  difference_found : (o a b : Occurrence) (name : Option (List ℕ)) → ((text : List ℕ) → is_text name text ≡ true → StandsForApplication context o text (a ∷ b ∷ [])) → is_difference_named context name a b ≡ true → IsDifference context o
  difference_found o a b name stand e = elim (cases_Bool (is_text name (codes "-"))) [
    | inl minus ↦
        let both = (atoms_test a b).0 (sym (ap (λ (c : Bool). if c then is_atom context a && is_atom context b else false) minus) ∙ e) in
        record { first = a; second = b; is_first = both.0; is_second = both.1; minus = stand (codes "-") minus }
    | inr other ↦ let s : false ≡ true = sym (ap (λ (c : Bool). if c then is_atom context a && is_atom context b else false) other) ∙ e in cc
  ]

  difference_test : (o : Occurrence) → IsTrue (is_difference context o) ↔ IsDifference context o
  difference_test o = (to, from)
    where
      to : IsTrue (is_difference context o) → IsDifference context o
      to h =
          let pair = pair_found (is_difference_named context) (end_of context.kept o).scope (end_of context.kept o).its h in
          difference_found o pair.first pair.second pair.name (stands_pair o (is_difference_named context) pair) pair.passes

      from : IsDifference context o → IsTrue (is_difference context o)
      from k = pair_stands (is_difference_named context) o (codes "-") k.first k.second k.minus ∙ (atoms_test k.first k.second).1 (k.is_first, k.is_second)

  side_test : (o : Occurrence) → IsTrue (is_side context o) ↔ IsSide context o
  side_test o =
      or_decides (is_atom context o) (is_coefficient context o || is_offset context o) (IsAtomVariable context o) (IsCoefficient context o ⊎ IsOffset context o) (atom_test o)
      (or_decides (is_coefficient context o) (is_offset context o) (IsCoefficient context o) (IsOffset context o) (coefficient_test o) (offset_test o))

  sides_test : (os : List Occurrence) → IsTrue (list_all (is_side context) os) ↔ All (IsSide context) os
  sides_test os = all_decides (is_side context) (IsSide context) side_test os

  or_false : (b : Bool) (P : Type 0) → (IsTrue b ↔ P) → IsTrue (b || false) ↔ P
  or_false true P d = d
  or_false false P d = d

  difference_and_test : (a b : Occurrence) → IsTrue (is_difference_and context a b) ↔ (IsDifference context a × IsCoefficient context b)
  difference_and_test a b = and_decides (is_difference context a) (is_coefficient context b) (IsDifference context a) (IsCoefficient context b) (difference_test a) (coefficient_test b)

  two_comparable : (a b : Occurrence) → IsTrue (list_all (is_side context) (a ∷ b ∷ []) || is_difference_pair context a b) ↔ AreComparable context (a ∷ b ∷ [])
  two_comparable a b = (to, from)
    where
      to : IsTrue (list_all (is_side context) (a ∷ b ∷ []) || is_difference_pair context a b) → AreComparable context (a ∷ b ∷ [])
      to h = elim (or_cases (list_all (is_side context) (a ∷ b ∷ [])) (is_difference_pair context a b) h) [
        | inl sides ↦ let first = both_true (is_side context a) (list_all (is_side context) (b ∷ [])) sides in let second = both_true (is_side context b) true first.1 in inl ((side_test a).0 first.0, (side_test b).0 second.0)
        | inr pair ↦ elim (or_cases (is_difference_and context a b) (is_difference_and context b a) pair) [
          | inl x ↦ let both = (difference_and_test a b).0 x in inr (inl (both.0, both.1))
          | inr y ↦ let both = (difference_and_test b a).0 y in inr (inr (both.1, both.0))
        ]
      ]

      from : AreComparable context (a ∷ b ∷ []) → IsTrue (list_all (is_side context) (a ∷ b ∷ []) || is_difference_pair context a b)
      from h = elim h [
        | inl sides ↦ or_left (list_all (is_side context) (a ∷ b ∷ [])) (is_difference_pair context a b) (both_are (is_side context a) (list_all (is_side context) (b ∷ [])) ((side_test a).1 sides.0) (both_are (is_side context b) true ((side_test b).1 sides.1) refl))
        | inr pair ↦ or_right (list_all (is_side context) (a ∷ b ∷ [])) (is_difference_pair context a b) (elim pair [
          | inl x ↦ or_left (is_difference_and context a b) (is_difference_and context b a) ((difference_and_test a b).1 (x.0, x.1))
          | inr y ↦ or_right (is_difference_and context a b) (is_difference_and context b a) ((difference_and_test b a).1 (y.1, y.0))
        ])
      ]

  comparable_test : (scope : Scope) (ts : Terms (Unit {0}) Sort) → IsTrue (are_comparable context scope ts) ↔ AreComparable context (each_seen_in scope ts)
  comparable_test scope no_terms = or_false (list_all (is_side context) []) (All (IsSide context) []) (sides_test [])
  comparable_test scope (more_terms a no_terms) = or_false (list_all (is_side context) (seen_in scope a ∷ [])) (All (IsSide context) (seen_in scope a ∷ [])) (sides_test (seen_in scope a ∷ []))
  comparable_test scope (more_terms a (more_terms b no_terms)) = two_comparable (seen_in scope a) (seen_in scope b)
  comparable_test scope (more_terms a (more_terms b (more_terms c ts))) =
      let os = seen_in scope a ∷ seen_in scope b ∷ seen_in scope c ∷ each_seen_in scope ts in
      or_false (list_all (is_side context) os) (All (IsSide context) os) (sides_test os)

  -- the rule on an application

  outside_found : (scope : Scope) (t : PlainTerm) (name : Option (List ℕ)) (ts : Terms (Unit {0}) Sort) → ((text : List ℕ) → is_text name text ≡ true → TermApplies context scope t text (each_seen_in scope ts))
      → IsTrue (is_outside_application context scope name ts) → IsDivisibility context (seen_in scope t) ⊎ IsOtherComparison context (seen_in scope t)
  outside_found scope t name ts applies h =
      let args = each_seen_in scope ts in
      elim (or_cases (is_text name (codes "divisible")) (is_relation name && (list_all has_int args && not (are_comparable context scope ts))) h) [
        | inl divisible ↦ inl (args, applies (codes "divisible") divisible)
        | inr comparison ↦
            let outer = both_true (is_relation name) (list_all has_int args && not (are_comparable context scope ts)) comparison in
            let inner = both_true (list_all has_int args) (not (are_comparable context scope ts)) outer.1 in
            let relation = relation_of name outer.0 in
            inr (record {
              args = args;
              at = relation.0;
              name = relation.1;
              is_relation = relation.2;
              applies = applies relation.1 relation.3;
              on_int = (all_decides has_int HasSortInt int_test args).0 inner.0;
              not_comparable = (not_decides (are_comparable context scope ts) (AreComparable context args) (comparable_test scope ts)).0 inner.1;
            })
      ]

  named_found : (scope : Scope) (t : PlainTerm) → IsTrue (is_outside_named context scope t) → IsDivisibility context (seen_in scope t) ⊎ IsOtherComparison context (seen_in scope t)
  named_found scope (term u s (app f ts)) h = outside_found scope (term u s (app f ts)) (theory_text context.texts f) ts (λ text e. let known = text_named context.texts f.fun f.name text e in (known.0, known.1, refl)) h
  named_found scope (term u s (lit k n)) h = cc
  named_found scope (term u s (var n)) h = cc
  named_found scope (term u s (let_in vs ts b)) h = cc
  named_found scope (term u s (quant q vs b)) h = cc
  named_found scope (term u s (match_on t cs)) h = cc
  named_found scope (term u s (ann b ns)) h = cc

  divisible_there : (scope : Scope) (t : PlainTerm) (args : List Occurrence) → TermApplies context scope t (codes "divisible") args → IsTrue (is_outside_named context scope t)
  divisible_there scope (term u s (app f ts)) args h = ap (λ x. is_outside_application context scope x ts) (named_text context.texts f.fun f.name (codes "divisible") h.0 h.1)
  divisible_there scope (term u s (lit k n)) args h = absurd h
  divisible_there scope (term u s (var n)) args h = absurd h
  divisible_there scope (term u s (let_in vs ts b)) args h = absurd h
  divisible_there scope (term u s (quant q vs b)) args h = absurd h
  divisible_there scope (term u s (match_on t cs)) args h = absurd h
  divisible_there scope (term u s (ann b ns)) args h = absurd h

  comparison_there : (scope : Scope) (t : PlainTerm) (text : List ℕ) (args : List Occurrence) → TermApplies context scope t text args → IsTrue (is_relation (Some text)) → All HasSortInt args → (AreComparable context args → ⊥) → IsTrue (is_outside_named context scope t)
  comparison_there scope (term u s (app f ts)) text args h relation ints unlike =
      let mine = each_seen_in scope ts in
      let named = named_text context.texts f.fun f.name text h.0 h.1 in
      let is_relation_here = subst (λ x. IsTrue (is_relation x)) (sym named) relation in
      let all_int = (all_decides has_int HasSortInt int_test mine).1 (subst (All HasSortInt) h.2 ints) in
      let other = (not_decides (are_comparable context scope ts) (AreComparable context mine) (comparable_test scope ts)).1 (λ k. unlike (subst (AreComparable context) (sym h.2) k)) in
      or_right (is_text (theory_text context.texts f) (codes "divisible")) (is_relation (theory_text context.texts f) && (list_all has_int mine && not (are_comparable context scope ts)))
      (both_are (is_relation (theory_text context.texts f)) (list_all has_int mine && not (are_comparable context scope ts)) is_relation_here (both_are (list_all has_int mine) (not (are_comparable context scope ts)) all_int other))
  comparison_there scope (term u s (lit k n)) text args h relation ints unlike = absurd h
  comparison_there scope (term u s (var n)) text args h relation ints unlike = absurd h
  comparison_there scope (term u s (let_in vs ts b)) text args h relation ints unlike = absurd h
  comparison_there scope (term u s (quant q vs b)) text args h relation ints unlike = absurd h
  comparison_there scope (term u s (match_on t cs)) text args h relation ints unlike = absurd h
  comparison_there scope (term u s (ann b ns)) text args h relation ints unlike = absurd h

  other_integer_found : (o : Occurrence) → IsTrue (is_other_integer context o) → IsOtherInteger context o
  other_integer_found o h =
      let outer = both_true (has_int o) (not (is_side context o) && not (is_difference context o)) h in
      let inner = both_true (not (is_side context o)) (not (is_difference context o)) outer.1 in
      record { of_int = (int_test o).0 outer.0; no_side = (not_decides (is_side context o) (IsSide context o) (side_test o)).0 inner.0; no_difference = (not_decides (is_difference context o) (IsDifference context o) (difference_test o)).0 inner.1 }

  other_integer_there : (o : Occurrence) → IsOtherInteger context o → IsTrue (is_other_integer context o)
  other_integer_there o k =
      both_are (has_int o) (not (is_side context o) && not (is_difference context o)) ((int_test o).1 k.of_int)
      (both_are (not (is_side context o)) (not (is_difference context o)) ((not_decides (is_side context o) (IsSide context o) (side_test o)).1 k.no_side) ((not_decides (is_difference context o) (IsDifference context o) (difference_test o)).1 k.no_difference))

  pub outside : (scope : Scope) (t : PlainTerm) → IsTrue (is_outside context scope t) ↔ IsOutsideDifference context (seen_in scope t)
  outside scope t = (to, from)
    where
      to : IsTrue (is_outside context scope t) → IsOutsideDifference context (seen_in scope t)
      to h = elim (or_cases (is_other_integer context (seen_in scope t)) (is_outside_named context scope t) h) [
        | inl other ↦ inl (other_integer_found (seen_in scope t) other)
        | inr named ↦ inr (named_found scope t named)
      ]

      from : IsOutsideDifference context (seen_in scope t) → IsTrue (is_outside context scope t)
      from h = elim h [
        | inl other ↦ or_left (is_other_integer context (seen_in scope t)) (is_outside_named context scope t) (other_integer_there (seen_in scope t) other)
        | inr named ↦ or_right (is_other_integer context (seen_in scope t)) (is_outside_named context scope t) (elim named [
          | inl divisible ↦ divisible_there scope t divisible.0 divisible.1
          | inr k ↦ comparison_there scope t k.name k.args k.applies (relation_at k.at k.name k.is_relation) k.on_int k.not_comparable
        ])
      ]

  -- the answer of the test, as the rule has it
  pub outside_answer : {E : Type 0} (scope : Scope) (t : PlainTerm) (r : Result Bool E) → IfOk r (λ b. b ≡ is_outside context scope t) → IfOk r (λ b. IsTrue b ↔ IsOutsideDifference context (seen_in scope t))
  outside_answer scope t (Ok b) e = subst (λ x. IsTrue x ↔ IsOutsideDifference context (seen_in scope t)) (sym e) (outside scope t)
  outside_answer scope t (Err e) h = tt
