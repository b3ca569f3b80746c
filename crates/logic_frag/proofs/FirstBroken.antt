-- The first rule that is broken: there is none exactly where no rule is broken, and it is one alone.
use Rattle.std.proofs.Common.{◌≡◌, ◌-◌, ◌≤◌, Bool, true, false, List, [], ◌∷◌, length, take, drop, get_or, IsTrue, Option, Some, None, refl, sym, subst, ◌∙◌, inl, inr, arith}
use Rattle.std.specs.Prelude.{◌↔◌, ◌⊎◌, Result, Ok, Err, IfOk}
use Rattle.std.proofs.lemmas.List.{take_all}
use Rattle.sig_table.specs.declared.code.Code.{Code}
use Rattle.sig_table.specs.declared.code.Code.TheVariants as code
use Rattle.term_store.specs.Command.{PlainCommand}
use Rattle.logic_frag.specs.FragmentRules.{BreaksRule, InLogic, IsFirstBroken, fragment_codes}
use Rattle.logic_frag.specs.Logics.{Description}
use Rattle.logic_frag.specs.StandsFor.{Context}

-- the answer to a rule that holds of some logics alone
pub with_premise : {E : Type 0} (P Q : Type 0) (r : Result Bool E) → P → IfOk r (λ b. IsTrue b ↔ Q) → IfOk r (λ b. IsTrue b ↔ (P × Q))
with_premise P Q (Ok b) p h = (λ t. (p, h.0 t), λ k. h.1 k.1)
with_premise P Q (Err e) p h = tt

-- a rule that is not broken leaves the answer to the codes behind it
pub passed_on : {E : Type 0} (Broken : Code → Type 0) (cs : List Code) (c : Code) (b : Bool) (r : Result (Option Code) E) → 1 ≤ length cs → (IsTrue b ↔ Broken (get_or cs 0 c)) → b ≡ false
    → IfOk r (λ answer. IsFirstBroken Broken (take (length cs - 1) (drop 1 cs)) answer) → IfOk r (λ answer. IsFirstBroken Broken cs answer)
passed_on Broken [] c b r l d f h = absurd (omega (arith, l))
passed_on Broken (x ∷ cs) c b (Ok answer) l d f h = inr (λ broken. let e : true ≡ false = sym (d.1 broken) ∙ f in cc, subst (λ rest. IsFirstBroken Broken rest answer) (take_all (length (x ∷ cs) - 1) cs (omega arith)) h)
passed_on Broken (x ∷ cs) c b (Err e) l d f h = tt

abbrev NoneOf : (Code → Type 0) → List Code → Type 0
NoneOf Broken [] = Unit {0}
NoneOf Broken (c ∷ cs) = (Broken c → ⊥) × NoneOf Broken cs

first_none : (Broken : Code → Type 0) (cs : List Code) (answer : Option Code) → IsFirstBroken Broken cs answer → answer ≡ None → NoneOf Broken cs
first_none Broken [] answer h e = tt
first_none Broken (c ∷ cs) answer (inl h) e = let s : None ≡ Some c = sym e ∙ h.1 in cc
first_none Broken (c ∷ cs) answer (inr h) e = (h.0, first_none Broken cs answer h.1 e)

none_first : (Broken : Code → Type 0) (cs : List Code) (answer : Option Code) → IsFirstBroken Broken cs answer → NoneOf Broken cs → answer ≡ None
none_first Broken [] answer h n = h
none_first Broken (c ∷ cs) answer (inl h) n = absurd (n.0 h.0)
none_first Broken (c ∷ cs) answer (inr h) n = none_first Broken cs answer h.1 n.1

first_once : (Broken : Code → Type 0) (cs : List Code) (a b : Option Code) → IsFirstBroken Broken cs a → IsFirstBroken Broken cs b → a ≡ b
first_once Broken [] a b p q = p ∙ sym q
first_once Broken (c ∷ cs) a b (inl p) (inl q) = p.1 ∙ sym q.1
first_once Broken (c ∷ cs) a b (inl p) (inr q) = absurd (q.0 p.0)
first_once Broken (c ∷ cs) a b (inr p) (inl q) = absurd (p.0 q.0)
first_once Broken (c ∷ cs) a b (inr p) (inr q) = first_once Broken cs a b p.1 q.1

-- of rules that are decided
pub some_first : (Broken : Code → Type 0) → ((c : Code) → Broken c ⊎ (Broken c → ⊥)) → (cs : List Code) → (answer : Option Code) × IsFirstBroken Broken cs answer
some_first Broken decided [] = (None, refl)
some_first Broken decided (c ∷ cs) = elim (decided c) [
  | inl broken ↦ (Some c, inl (broken, refl))
  | inr unbroken ↦ let rest = some_first Broken decided cs in (rest.0, inr (unbroken, rest.1))
]

module _ (l : Description) (context : Context) (c : PlainCommand) where
  none_broken : NoneOf (BreaksRule l context c) fragment_codes → InLogic l context c
  none_broken n code.QuantifierOutsideLogic b = n.0 b
  none_broken n code.SortOutsideLogic b = n.1.0 b
  none_broken n code.FunctionOutsideLogic b = n.1.1.0 b
  none_broken n code.NotLinear b = n.1.1.1.0 b
  none_broken n code.NotDifference b = n.1.1.1.1.0 b
  none_broken n code.ArrayOutsideLogic b = n.1.1.1.1.1.0 b
  none_broken n code.DatatypeOutsideLogic b = n.1.1.1.1.1.1.0 b
  none_broken n code.RecursionOutsideLogic b = n.1.1.1.1.1.1.1.0 b
  none_broken n _ b = b

  unbroken : InLogic l context c → NoneOf (BreaksRule l context c) fragment_codes
  unbroken h =
      (h code.QuantifierOutsideLogic, (h code.SortOutsideLogic, (h code.FunctionOutsideLogic, (h code.NotLinear, (h code.NotDifference, (h code.ArrayOutsideLogic, (h code.DatatypeOutsideLogic, (h code.RecursionOutsideLogic, tt))))))))

  pub none_in_logic : (answer : Option Code) → IsFirstBroken (BreaksRule l context c) fragment_codes answer → (answer ≡ None) ↔ InLogic l context c
  none_in_logic answer h = (λ e. none_broken (first_none (BreaksRule l context c) fragment_codes answer h e), λ k. none_first (BreaksRule l context c) fragment_codes answer h (unbroken k))

  pub one_first : (a b : Option Code) → IsFirstBroken (BreaksRule l context c) fragment_codes a → IsFirstBroken (BreaksRule l context c) fragment_codes b → a ≡ b
  one_first a b p q = first_once (BreaksRule l context c) fragment_codes a b p q
