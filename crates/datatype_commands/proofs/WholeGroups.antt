-- A group as a whole, from what its check answers.
use Rattle.std.proofs.Common.{◌≡◌, ℕ, zero, suc, ◌<◌, List, [], ◌∷◌, length, get_or, Ok, Err, refl, ap, sym, subst, arith}
use Rattle.sig_table.specs.declared.code.Code.TheVariants.{NotWellFounded, UnfoldingTooLarge}
use Rattle.judgement.specs.Judging.{Judging, check}
use Rattle.dt_rules.specs.Answers.{Answers}
use Rattle.dt_rules.specs.declared.error.DtError.{DtError}
use Rattle.dt_rules.specs.declared.error.DtError.TheVariants as group_error
use Rattle.dt_rules.specs.declared.error.TyError.TheVariants as error
use Rattle.dt_rules.specs.Groups.{known, own_sort}
use Rattle.dt_rules.specs.Judgement.{IsAccepted, IsUnsettledAt, Judges}
use Rattle.dt_rules.specs.Unfolding.{IsSettled, IsTooWide}
use Rattle.term_store.specs.Command.{PlainDatatype}
use Rattle.typer.proofs.TermSteps.{first_fails, first_is}
use Rattle.datatype_commands.specs.GroupRules.{judge_settled, judge_whole}
use Rattle.datatype_commands.specs.declared.symbols.DatatypeSymbol.{DatatypeSymbol}

module _ (ts group : List PlainDatatype) where
  abbrev SettledRule : DatatypeSymbol → PlainDatatype → Judging (Unit {0})
  SettledRule s t = check (IsSettled ts group (own_sort t)) NotWellFounded s.name.at

  -- all that are left are settled
  settled_all : (ss : List DatatypeSymbol) (left : List PlainDatatype) → ((k : ℕ) (d : PlainDatatype) → k < length left → IsSettled ts group (own_sort (get_or left k d))) → Answers (Ok tt) (judge_settled ts group ss left)
  settled_all [] left h = λ before. (refl, refl)
  settled_all (s ∷ ss) [] h = λ before. (refl, refl)
  settled_all (s ∷ ss) (t ∷ left) h = first_is {B = Unit {0}} (SettledRule s t) (λ u. judge_settled ts group ss left) tt (Ok tt) (λ before. (h 0 t (omega arith), refl)) (settled_all ss left (λ k d l. h (suc k) d (omega (arith, l))))

  -- the one at a place is the first that is not
  settled_up_to : (ss : List DatatypeSymbol) (left : List PlainDatatype) (i : ℕ) (s : DatatypeSymbol) (its : PlainDatatype) → i < length left → length ss ≡ length left → s ≡ get_or ss i s → its ≡ get_or left i its
      → (IsSettled ts group (own_sort its) → ⊥) → ((k : ℕ) (d : PlainDatatype) → k < i → IsSettled ts group (own_sort (get_or left k d)))
      → Answers {A = Unit {0}} (Err (error.Fault (record { code = NotWellFounded; at = s.name.at }))) (judge_settled ts group ss left)
  settled_up_to ss [] i s its l each at here not h = absurd (omega (arith, l))
  settled_up_to [] (t ∷ left) i s its l each at here not h = absurd (omega (arith, each))
  settled_up_to (x ∷ ss) (t ∷ left) zero s its l each at here not h =
      first_fails {B = Unit {0}} (SettledRule x t) (λ u. judge_settled ts group ss left) (error.Fault (record { code = NotWellFounded; at = s.name.at }))
      (λ before. ((λ settled. not (subst (λ (y : PlainDatatype). IsSettled ts group (own_sort y)) (sym here) settled)), ap (λ (y : DatatypeSymbol). record { code = NotWellFounded; at = y.name.at }) at))
  settled_up_to (x ∷ ss) (t ∷ left) (suc i) s its l each at here not h =
      first_is {B = Unit {0}} (SettledRule x t) (λ u. judge_settled ts group ss left) tt (Err (error.Fault (record { code = NotWellFounded; at = s.name.at }))) (λ before. (h 0 t (omega arith), refl))
      (settled_up_to ss left i s its (omega (arith, l)) (omega (arith, each)) at here not (λ k d b. h (suc k) d (omega (arith, b))))

inside : (xs : List PlainDatatype) (k : ℕ) (d : PlainDatatype) → k < length xs → get_or xs k (get_or xs k d) ≡ get_or xs k d
inside [] k d l = absurd (omega (arith, l))
inside (x ∷ xs) zero d l = refl
inside (x ∷ xs) (suc k) d l = inside xs k d (omega (arith, l))

module _ (kept : List PlainDatatype) (at : ℕ) (ss : List DatatypeSymbol) (group : List PlainDatatype) where
  abbrev Narrow : Judging (Unit {0})
  Narrow = check (IsTooWide (known kept group) group → ⊥) UnfoldingTooLarge at

  abbrev Settled : Unit {0} → Judging (Unit {0})
  Settled u = judge_settled (known kept group) group ss group

  pub whole_right : IsAccepted (known kept group) group → Answers (Ok tt) (judge_whole kept at ss group)
  whole_right accepted =
      first_is {B = Unit {0}} Narrow Settled tt (Ok tt) (λ before. (accepted.narrow, refl)) (settled_all (known kept group) group ss group (λ k d l. accepted.settled (get_or group k d) (k, l, inside group k d l)))

  pub whole_too_wide : IsTooWide (known kept group) group → Answers {A = Unit {0}} (Err (error.Fault (record { code = UnfoldingTooLarge; at = at }))) (judge_whole kept at ss group)
  whole_too_wide wide = first_fails {B = Unit {0}} Narrow Settled (error.Fault (record { code = UnfoldingTooLarge; at = at })) (λ before. ((λ narrow. narrow wide), refl))

  pub whole_unsettled : (i : ℕ) (s : DatatypeSymbol) → length ss ≡ length group → s ≡ get_or ss i s → IsUnsettledAt (known kept group) group i
      → Answers {A = Unit {0}} (Err (error.Fault (record { code = NotWellFounded; at = s.name.at }))) (judge_whole kept at ss group)
  whole_unsettled i s each here u =
      first_is {B = Unit {0}} Narrow Settled tt (Err (error.Fault (record { code = NotWellFounded; at = s.name.at }))) (λ before. (u.narrow, refl))
      (settled_up_to (known kept group) group ss group i s u.first.its u.first.inside each here u.first.at u.first.unsettled u.first.before)

-- what the check of a group answers, by its error
pub too_wide_of : (e : DtError) (ts group : List PlainDatatype) → e ≡ group_error.TooWide → Judges (Err e) ts group → IsTooWide ts group
too_wide_of e ts group is h = subst (λ (x : DtError). Judges (Err x) ts group) is h

pub unsettled_of : (e : DtError) (i : ℕ) (ts group : List PlainDatatype) → e ≡ group_error.NotSettled i → Judges (Err e) ts group → IsUnsettledAt ts group i
unsettled_of e i ts group is h = subst (λ (x : DtError). Judges (Err x) ts group) is h
