-- Each rule is decided: a command breaks it, or does not.
use Rattle.std.proofs.Common.{◌≡◌, ℕ, ◌<◌, Bool, true, false, List, [], ◌∷◌, IsTrue, Option, length, refl, inl, inr, arith}
use Rattle.std.specs.Prelude.{◌↔◌, ◌⊎◌}
use Rattle.std.specs.List.{list_any}
use Rattle.sig_table.specs.declared.code.Code.{Code}
use Rattle.sig_table.specs.declared.code.Code.TheVariants as code
use Rattle.sort_store.specs.Tree.{Sort}
use Rattle.term_store.specs.Command.{PlainCommand, PlainDef}
use Rattle.term_store.specs.Command as command
use Rattle.logic_frag.specs.declared.logic.NumPart.{NumPart}
use Rattle.logic_frag.specs.declared.logic.NumPart.TheVariants as ints
use Rattle.logic_frag.specs.ArraySorts.{IsOtherArray}
use Rattle.logic_frag.specs.DifferenceTests.{is_outside}
use Rattle.logic_frag.specs.Following.{AppliesLower}
use Rattle.logic_frag.specs.FragmentRules.{BreaksRule, DeclaresDatatype, DeclaresFunction, DeclaresSort, DefinesRecursively, HasSort, HasTerm, IsFirstBroken, IsQuantifier, context_of, fragment_codes}
use Rattle.logic_frag.specs.IntegerTerms.{IsNonlinear, IsOutsideDifference}
use Rattle.logic_frag.specs.IntegerTests.{is_nonlinear}
use Rattle.logic_frag.specs.Logics.{Description}
use Rattle.logic_frag.specs.Occurrences.{Occurrence, occurrences_in}
use Rattle.logic_frag.specs.SortSearch.{command_has_array}
use Rattle.logic_frag.specs.StandsFor.{Context}
use Rattle.logic_frag.specs.Quantifiers.{is_quantifier}
use Rattle.logic_frag.proofs.DifferenceMeanings.{outside}
use Rattle.logic_frag.proofs.FirstBroken.{some_first}
use Rattle.logic_frag.proofs.FoundTerms.{has_term, quantifier_decides}
use Rattle.logic_frag.proofs.IntegerMeanings.{nonlinear}
use Rattle.logic_frag.proofs.OtherArrays.{has_array_sort}

abbrev IsDecided : Type 0 → Type 0
IsDecided P = P ⊎ (P → ⊥)

by_test : (b : Bool) (P : Type 0) → (IsTrue b ↔ P) → IsDecided P
by_test true P d = inl (d.0 refl)
by_test false P d = inr (λ p. let e : false ≡ true = d.1 p in cc)

both : (P Q : Type 0) → IsDecided P → IsDecided Q → IsDecided (P × Q)
both P Q (inl p) (inl q) = inl (p, q)
both P Q (inl p) (inr n) = inr (λ h. n h.1)
both P Q (inr n) q = inr (λ h. n h.0)

-- what a logic allows

is_false : (b : Bool) → IsDecided (b ≡ false)
is_false true = inr (λ e. cc)
is_false false = inl refl

is_linear : (part : NumPart) → IsDecided (part ≡ ints.Linear)
is_linear ints.Absent = inr (λ e. cc)
is_linear ints.Linear = inl refl
is_linear ints.Difference = inr (λ e. cc)
is_linear ints.Any = inr (λ e. cc)

is_difference : (part : NumPart) → IsDecided (part ≡ ints.Difference)
is_difference ints.Absent = inr (λ e. cc)
is_difference ints.Linear = inr (λ e. cc)
is_difference ints.Difference = inl refl
is_difference ints.Any = inr (λ e. cc)

-- what a command declares

some_items : (ss : List Sort) → IsDecided (0 < length ss)
some_items [] = inr (λ l. absurd (omega (arith, l)))
some_items (s ∷ ss) = inl (omega arith)

declares_sort : (c : PlainCommand) → IsDecided (DeclaresSort c)
declares_sort (command.declare_sort d n a) = inl tt
declares_sort _ = inr (λ h. h)

declares_function : (c : PlainCommand) → IsDecided (DeclaresFunction c)
declares_function (command.declare_fun d n args r) = some_items args
declares_function _ = inr (λ h. h)

declares_datatype : (c : PlainCommand) → IsDecided (DeclaresDatatype c)
declares_datatype (command.declare_datatype t) = inl tt
declares_datatype (command.declare_datatypes ts) = inl tt
declares_datatype _ = inr (λ h. h)

defines_recursively : (c : PlainCommand) → IsDecided (DefinesRecursively c)
defines_recursively (command.define_fun_rec d) = inl tt
defines_recursively (command.define_funs_rec ds) = inl tt
defines_recursively _ = inr (λ h. h)

-- what a command has

has_quantifier : (c : PlainCommand) → IsDecided (HasTerm c (λ o. IsQuantifier o.its))
has_quantifier c =
    let test = λ (o : Occurrence). is_quantifier o.its in
    by_test (list_any test (occurrences_in c)) (HasTerm c (λ o. IsQuantifier o.its)) (has_term test (λ o. IsQuantifier o.its) (λ o. quantifier_decides o.its) c)

module _ (context : Context) (lower : AppliesLower context.kept) (c : PlainCommand) where
  has_nonlinear : IsDecided (HasTerm c (IsNonlinear context))
  has_nonlinear =
      let test = λ (o : Occurrence). is_nonlinear context o.scope o.its in
      by_test (list_any test (occurrences_in c)) (HasTerm c (IsNonlinear context)) (has_term test (IsNonlinear context) (λ o. nonlinear context lower o.scope o.its) c)

  has_outside : IsDecided (HasTerm c (IsOutsideDifference context))
  has_outside =
      let test = λ (o : Occurrence). is_outside context o.scope o.its in
      by_test (list_any test (occurrences_in c)) (HasTerm c (IsOutsideDifference context)) (has_term test (IsOutsideDifference context) (λ o. outside context lower o.scope o.its) c)

has_other_array : (l : Description) (c : PlainCommand) → IsDecided (HasSort c (IsOtherArray l.arrays))
has_other_array l c =
    by_test (command_has_array l.arrays c) (HasSort c (IsOtherArray l.arrays)) (has_array_sort l.arrays c)

pub rule_decided : (l : Description) (texts : List (List ℕ)) (kept : List PlainDef) (c : PlainCommand) → AppliesLower kept → (code : Code) → BreaksRule l (context_of texts kept c) c code ⊎ (BreaksRule l (context_of texts kept c) c code → ⊥)
rule_decided l texts kept c lower code.QuantifierOutsideLogic = both (l.q ≡ false) (HasTerm c (λ o. IsQuantifier o.its)) (is_false l.q) (has_quantifier c)
rule_decided l texts kept c lower code.SortOutsideLogic = both (l.s ≡ false) (DeclaresSort c) (is_false l.s) (declares_sort c)
rule_decided l texts kept c lower code.FunctionOutsideLogic = both (l.f ≡ false) (DeclaresFunction c) (is_false l.f) (declares_function c)
rule_decided l texts kept c lower code.NotLinear =
    let context = context_of texts kept c in
    both (l.ints ≡ ints.Linear) (HasTerm c (IsNonlinear context)) (is_linear l.ints) (has_nonlinear context lower c)
rule_decided l texts kept c lower code.NotDifference =
    let context = context_of texts kept c in
    both (l.ints ≡ ints.Difference) (HasTerm c (IsOutsideDifference context)) (is_difference l.ints) (has_outside context lower c)
rule_decided l texts kept c lower code.ArrayOutsideLogic = has_other_array l c
rule_decided l texts kept c lower code.DatatypeOutsideLogic = both (l.d ≡ false) (DeclaresDatatype c) (is_false l.d) (declares_datatype c)
rule_decided l texts kept c lower code.RecursionOutsideLogic = both (l.r ≡ false) (DefinesRecursively c) (is_false l.r) (defines_recursively c)
rule_decided l texts kept c lower _ = inr (λ h. h)

pub some_first_rule : (l : Description) (texts : List (List ℕ)) (kept : List PlainDef) (c : PlainCommand) → AppliesLower kept → (answer : Option Code) × IsFirstBroken (BreaksRule l (context_of texts kept c) c) fragment_codes answer
some_first_rule l texts kept c lower = some_first (BreaksRule l (context_of texts kept c) c) (rule_decided l texts kept c lower) fragment_codes
