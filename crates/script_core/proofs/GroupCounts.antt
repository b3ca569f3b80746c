-- How many names a group of datatypes has.
use Rattle.std.proofs.Common.{◌≡◌, ℕ, zero, suc, ◌+◌, ◌<◌, List, [], ◌∷◌, length, map, take, slice_index_or, refl, ap, sym, ◌∙◌, arith, length-append}
use Rattle.std.proofs.lemmas.List.{length-map}
use Rattle.term_store.specs.Command.{PlainConstructor, PlainDatatype, plain_constructor, plain_datatype, plain_field}
use Rattle.term_store.specs.Declarations.{datatype, joined, of_constructor, of_group, parts_of, selector_of}
use Rattle.term_store.specs.declared.command.Constructor.{Constructor}
use Rattle.term_store.specs.declared.command.Datatype.{Datatype}

-- the parts of constructors, and those of datatypes
abbrev pub parts_count : List Constructor → ℕ
parts_count [] = 0
parts_count (c ∷ cs) = suc (length c.fields) + parts_count cs

abbrev pub group_count : List Datatype → ℕ
group_count [] = 0
group_count (t ∷ ts) = parts_count t.constructors + group_count ts

-- one more
pub parts_next : (cs : List Constructor) (i next : ℕ) (c : Constructor) (count named fields total : ℕ) → next ≡ i + 1 → i < length cs → c ≡ slice_index_or cs i c → fields ≡ length c.fields → count ≡ parts_count (take i cs) → named ≡ count + 1
    → total ≡ named + fields → total ≡ parts_count (take next cs)
parts_next cs i next c count named fields total is few at all so_far one both =
    omega (arith, both, one, so_far, all, step cs i few at) ∙ ap (λ (n : ℕ). parts_count (take n cs)) (next_is ∙ sym is)
  where
    next_is : suc i ≡ i + 1
    next_is = omega arith

    step : (cs : List Constructor) (i : ℕ) → i < length cs → c ≡ slice_index_or cs i c → parts_count (take (suc i) cs) ≡ parts_count (take i cs) + 1 + length c.fields
    step [] i few at = absurd (omega (arith, few))
    step (d ∷ cs) zero few at = omega (arith, ap (λ (x : Constructor). length x.fields) at)
    step (d ∷ cs) (suc i) few at = omega (arith, step cs i (omega (arith, few)) at)

pub group_next : (ts : List Datatype) (i next : ℕ) (t : Datatype) (start count parts total : ℕ) → next ≡ i + 1 → i < length ts → t ≡ slice_index_or ts i t → parts ≡ parts_count t.constructors → count ≡ start + group_count (take i ts)
    → total ≡ count + parts → total ≡ start + group_count (take next ts)
group_next ts i next t start count parts total is few at own so_far both =
    omega (arith, both, own, so_far, step ts i few at) ∙ ap (λ (n : ℕ). start + group_count (take n ts)) (next_is ∙ sym is)
  where
    next_is : suc i ≡ i + 1
    next_is = omega arith

    step : (ts : List Datatype) (i : ℕ) → i < length ts → t ≡ slice_index_or ts i t → group_count (take (suc i) ts) ≡ group_count (take i ts) + parts_count t.constructors
    step [] i few at = absurd (omega (arith, few))
    step (u ∷ ts) zero few at = omega (arith, ap (λ (x : Datatype). parts_count x.constructors) at)
    step (u ∷ ts) (suc i) few at = omega (arith, step ts i (omega (arith, few)) at)

-- the names of the declarations are as many
pub parts_counted : (owner : PlainDatatype) (cs : List Constructor) → length (joined (map (of_constructor owner) (map plain_constructor cs))) ≡ parts_count cs
parts_counted owner [] = refl
parts_counted owner (c ∷ cs) =
    omega (arith, length-append (of_constructor owner (plain_constructor c)) (joined (map (of_constructor owner) (map plain_constructor cs))), selectors (plain_constructor c), length-map c.fields plain_field, parts_counted owner cs)
  where
    selectors : (p : PlainConstructor) → length (map (selector_of owner p) p.fields) ≡ length p.fields
    selectors p = length-map p.fields (selector_of owner p)

all_parts_counted : (ts : List Datatype) → length (joined (map parts_of (map plain_datatype ts))) ≡ group_count ts
all_parts_counted [] = refl
all_parts_counted (t ∷ ts) =
    omega (arith, length-append (parts_of (plain_datatype t)) (joined (map parts_of (map plain_datatype ts))), parts_counted (plain_datatype t) t.constructors, all_parts_counted ts)

pub group_counted : (ts : List Datatype) → length (of_group (map plain_datatype ts)) ≡ length ts + group_count ts
group_counted ts =
    omega (arith, length-append (map datatype (map plain_datatype ts)) (joined (map parts_of (map plain_datatype ts))), length-map (map plain_datatype ts) datatype, length-map ts plain_datatype, all_parts_counted ts)

-- all are counted
pub take_all : {X : Type 0} (xs : List X) (n : ℕ) → n ≡ length xs → take n xs ≡ xs
take_all [] zero e = refl
take_all [] (suc n) e = absurd (omega (arith, e))
take_all (x ∷ xs) zero e = absurd (omega (arith, e))
take_all (x ∷ xs) (suc n) e = ap (λ ys. x ∷ ys) (take_all xs n (omega (arith, e)))
