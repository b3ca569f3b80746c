-- A group of one datatype whose constructors have no fields is ready, and a new store has no repeats.
use Rattle.std.proofs.Common.{◌≡◌, ℕ, zero, suc, List, [], ◌∷◌, ◌++◌, map, Some, refl, eq-eqb, ap, sym, ◌∙◌, subst, arith, nat_eq, true, if◌then◌else◌}
use Rattle.std.specs.List.{Contains}
use Rattle.sort_store.specs.Interned.{HasNoRepeats}
use Rattle.term_store.specs.Command.{PlainConstructor, PlainDatatype, PlainField, plain_datatype, plain_constructor, plain_field}
use Rattle.term_store.specs.declared.command.Constructor.{Constructor}
use Rattle.term_store.specs.declared.command.Datatype.{Datatype}
use Rattle.term_store.specs.Definitions.{Definitions, no_definitions}
use Rattle.dt_rules.specs.Groups.{numbered, IsReadyGroup}
use Rattle.dt_rules.proofs.Lists.{map_contains}

same_nat : (n : ℕ) → nat_eq n n ≡ true
same_nat n = eq-eqb n n refl

only : {X : Type 0} (x y : X) → Contains (x ∷ []) y → x ≡ y
only x y (zero, l, e) = e
only x y (suc k, l, e) = absurd (omega (arith, l))

pub one_constant : (cs : List Constructor) (d : Constructor) (c : Constructor) → cs ≡ [] ++ d ∷ [] → d.fields ≡ [] → Contains cs c → c.fields ≡ []
one_constant cs d c e none has = ap (λ (z : Constructor). z.fields) (sym (only d c (subst (λ z. Contains z c) e has))) ∙ none

-- the constructors have no fields, by their trees
plain_constants : (t : Datatype) → ((c : Constructor) → Contains t.constructors c → c.fields ≡ []) → (c : PlainConstructor) → Contains (map plain_constructor t.constructors) c → c.fields ≡ []
plain_constants t constants c has =
    let (d, in_t, same) = map_contains plain_constructor t.constructors c has in
    ap (λ (z : PlainConstructor). z.fields) (sym same) ∙ ap (map plain_field) (constants d in_t)

pub ready_constants : (kept : Definitions) (group : List Datatype) (t : Datatype) → kept ≡ no_definitions → group ≡ t ∷ [] → ((c : Constructor) → Contains t.constructors c → c.fields ≡ [])
    → IsReadyGroup (map plain_datatype kept.datatypes) (map plain_datatype group)
ready_constants kept group t none one constants =
    subst (λ (z : Definitions). IsReadyGroup (map plain_datatype z.datatypes) (map plain_datatype group)) (sym none) (subst (λ z. IsReadyGroup [] (map plain_datatype z)) (sym one) (record {
      apart = λ u c. subst (λ (z : PlainDatatype). numbered (plain_datatype t ∷ []) z.no.0 ≡ Some z) (only (plain_datatype t) u c)
          (ap (λ b. if b then Some (plain_datatype t) else numbered [] t.no.0) (same_nat t.no.0));
      fields = λ u c f in_known in_u in_c. absurd (by u c f (only (plain_datatype t) u in_known) in_u in_c);
    }))
  where
    by : (u : PlainDatatype) (c : PlainConstructor) (f : PlainField) → plain_datatype t ≡ u → Contains u.constructors c → Contains c.fields f → ⊥
    by u c f e in_u in_c = let h = subst (λ z. Contains z f) (plain_constants t constants c (subst (λ (z : PlainDatatype). Contains z.constructors c) (sym e) in_u)) in_c in omega (arith, h.1)

pub none_repeated : HasNoRepeats []
none_repeated = record { distinct = λ i j t p q. cc }
