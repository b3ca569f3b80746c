-- A number looked up among the datatypes of the group and those declared before.
use Rattle.std.proofs.Common.{◌≡◌, ℕ, zero, suc, ◌<◌, ◌≤◌, ◌==◌, Bool, true, false, List, [], ◌∷◌, ◌++◌, length, drop, get_or, map, Option, Some, if◌then◌else◌, ap, sym, ◌∙◌, refl, arith, nat_eq}
use Rattle.std.specs.Option.{option_map}
use Rattle.term_store.specs.Command.{PlainDatatype, plain_datatype}
use Rattle.term_store.specs.declared.command.Datatype.{Datatype}
use Rattle.term_store.specs.Definitions.{datatype_in}
use Rattle.dt_rules.specs.Groups.{numbered}

-- the datatype of a number, by its trees
pub numbered_plain : (ts : List Datatype) (n : ℕ) → option_map plain_datatype (datatype_in ts n) ≡ numbered (map plain_datatype ts) n
numbered_plain [] n = refl
numbered_plain (t ∷ ts) n = by (n == t.no.0) (numbered_plain ts n)
  where
    by : (b : Bool) → option_map plain_datatype (datatype_in ts n) ≡ numbered (map plain_datatype ts) n
        → option_map plain_datatype (if b then Some t else datatype_in ts n) ≡ (if b then Some (plain_datatype t) else numbered (map plain_datatype ts) n)
    by true e = refl
    by false e = e

module _ (n : ℕ) (before : List PlainDatatype) where
  abbrev among : List Datatype → Option PlainDatatype
  among ts = numbered (map plain_datatype ts ++ before) n

  pub known_here : (ts : List Datatype) (k : ℕ) (t : Datatype) → k < length ts → t ≡ get_or ts k t → nat_eq n t.no.0 ≡ true → Some (plain_datatype t) ≡ numbered (map plain_datatype (drop k ts) ++ before) n
  known_here [] k t l at test = absurd (omega (arith, l))
  known_here (x ∷ ts) zero t l at test =
      sym (ap (λ b. if b then Some (plain_datatype x) else among ts) (ap (λ (z : Datatype). nat_eq n z.no.0) (sym at) ∙ test) ∙ ap (λ z. Some (plain_datatype z)) (sym at))
  known_here (x ∷ ts) (suc k) t l at test = known_here ts k t (omega (arith, l)) at test

  pub known_on : (ts : List Datatype) (k : ℕ) (t : Datatype) → k < length ts → t ≡ get_or ts k t → nat_eq n t.no.0 ≡ false
      → numbered (map plain_datatype (drop (suc k) ts) ++ before) n ≡ numbered (map plain_datatype (drop k ts) ++ before) n
  known_on [] k t l at test = absurd (omega (arith, l))
  known_on (x ∷ ts) zero t l at test = sym (ap (λ b. if b then Some (plain_datatype x) else among ts) (ap (λ (z : Datatype). nat_eq n z.no.0) (sym at) ∙ test))
  known_on (x ∷ ts) (suc k) t l at test = known_on ts k t (omega (arith, l)) at test

  pub known_end : (ts : List Datatype) (k : ℕ) → length ts ≤ k → numbered (map plain_datatype (drop k ts) ++ before) n ≡ numbered before n
  known_end [] zero l = refl
  known_end [] (suc k) l = refl
  known_end (x ∷ ts) zero l = absurd (omega (arith, l))
  known_end (x ∷ ts) (suc k) l = known_end ts k (omega (arith, l))

pub ruleset known_words = (numbered_plain, known_here, known_on, known_end)
