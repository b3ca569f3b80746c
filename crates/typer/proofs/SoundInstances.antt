-- Instances of sound schemas at sound values are sound.
use Rattle.std.proofs.Common.{◌≡◌, ℕ, zero, suc, ◌+◌, List, [], ◌∷◌, length, refl, ap, sym, subst, arith}
use Rattle.std.specs.List.{All}
use Rattle.sort_store.specs.declared.head.Head.TheVariants as head
use Rattle.sort_store.specs.Tree.{Sort, sort, SortList, no_sorts, more_sorts, sorts}
use Rattle.sort_store.specs.Instance.{inst, insts}
use Rattle.term_store.specs.Declarations.{Declaration}
use Rattle.term_store.specs.SoundTerms.{sort_count, IsDatatype, IsSoundSort, AreSoundSorts}

pub count_of_sorts : (ts : List Sort) → sort_count (sorts ts) ≡ length ts
count_of_sorts [] = refl
count_of_sorts (t ∷ ts) = omega (arith, count_of_sorts ts)

-- an instance has as many arguments as its schema
count_of_insts : (values : List Sort) (ts : SortList) → sort_count (insts values ts) ≡ sort_count ts
count_of_insts values no_sorts = refl
count_of_insts values (more_sorts t ts) = ap (λ n. n + 1) (count_of_insts values ts)

module _ (script : List Declaration) (params : ℕ) where
  -- each of some sorts is sound
  abbrev pub AreSound : List Sort → Type 0
  AreSound ts = AreSoundSorts script params (sorts ts)

  pub all_sound : (ts : List Sort) → AreSound ts → All (IsSoundSort script params) ts
  all_sound [] s i other l = absurd (omega (arith, l))
  all_sound (t ∷ ts) s zero other l = s.0
  all_sound (t ∷ ts) s (suc i) other l = all_sound ts s.1 i other (omega (arith, l))

  pub are_sound : (ts : List Sort) → All (IsSoundSort script params) ts → AreSound ts
  are_sound [] s = tt
  are_sound (t ∷ ts) s = (s zero t (omega arith), are_sound ts (λ i other l. s (suc i) other (omega (arith, l))))

  mutual
    pub instance_sound : (values : List Sort) (t : Sort) → AreSound values → IsSoundSort script (length values) t → IsSoundSort script params (inst values t)
    instance_sound values (sort (head.Param i) ts) a s = all_sound values a i _ s.0
    instance_sound values (sort head.Bool ts) a s = (tt, instances_sound values ts a s.1)
    instance_sound values (sort head.Int ts) a s = (tt, instances_sound values ts a s.1)
    instance_sound values (sort head.Array ts) a s = (tt, instances_sound values ts a s.1)
    instance_sound values (sort (head.BitVec m) ts) a s = (tt, instances_sound values ts a s.1)
    instance_sound values (sort (head.Free number name) ts) a s = (tt, instances_sound values ts a s.1)
    instance_sound values (sort (head.Data number name) ts) a s = (subst (IsDatatype script number) (sym (count_of_insts values ts)) s.0, instances_sound values ts a s.1)

    pub instances_sound : (values : List Sort) (ts : SortList) → AreSound values → AreSoundSorts script (length values) ts → AreSoundSorts script params (insts values ts)
    instances_sound values no_sorts a s = tt
    instances_sound values (more_sorts t ts) a s = (instance_sound values t a s.0, instances_sound values ts a s.1)
