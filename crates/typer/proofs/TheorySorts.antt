-- Each rank of Ints and of ArraysEx has a sort of its theory.
use Rattle.std.proofs.Common.{zero, List, [], ◌∷◌, map, inl, inr, sym, subst, arith}
use Rattle.sort_store.specs.declared.head.Head.TheVariants as head
use Rattle.sort_store.specs.Tree.{Sort, sort}
use Rattle.sort_store.specs.Instance.{inst}
use Rattle.sort_store.specs.Ranks.{Arguments, each, many, Rank, AreArguments, IsInstance}
use Rattle.term_store.specs.SoundTerms.{IsTheorySort, HasTheorySort}
use Rattle.theory_core.specs.IntsRanks.{ints_symbols}
use Rattle.theory_core.specs.ArraysRanks.{arrays_symbols}
use Rattle.typer.proofs.RankTables.{EachRank}

abbrev schemas : Arguments → List Sort
schemas (each ss) = ss
schemas (many attribute s) = s ∷ []

-- a schema of the rank is a sort of a theory
abbrev pub HasTheorySchema : Rank → Type 0
HasTheorySchema rank = HasTheorySort (rank.result ∷ schemas rank.arguments)

pub ints_schemas : EachRank HasTheorySchema ints_symbols
unfolding ints_symbols
ints_schemas = (inl tt, (inl tt, (inl tt, (inl tt, (inl tt, (inl tt, (inl tt, (inr (inl tt), (inr (inl tt), (inr (inl tt), (inr (inl tt), (inr (inl tt), tt))))))))))))

pub arrays_schemas : EachRank HasTheorySchema arrays_symbols
unfolding arrays_symbols
arrays_schemas = (inr (inl tt), (inl tt, tt))

module _ (values : List Sort) where
  theory_instance : (t : Sort) → IsTheorySort t → IsTheorySort (inst values t)
  theory_instance (sort head.Int ts) h = tt
  theory_instance (sort head.Array ts) h = tt
  theory_instance (sort (head.BitVec m) ts) h = tt
  theory_instance (sort head.Bool ts) h = absurd h
  theory_instance (sort (head.Free number name) ts) h = absurd h
  theory_instance (sort (head.Data number name) ts) h = absurd h
  theory_instance (sort (head.Param i) ts) h = absurd h

  theory_instances : (ts : List Sort) → HasTheorySort ts → HasTheorySort (map (inst values) ts)
  theory_instances [] h = absurd h
  theory_instances (t ∷ ts) (inl h) = inl (theory_instance t h)
  theory_instances (t ∷ ts) (inr h) = inr (theory_instances ts h)

  theory_arguments : (a : Arguments) (args : List Sort) → HasTheorySort (schemas a) → AreArguments a values args → HasTheorySort args
  theory_arguments (each ss) args h e = subst HasTheorySort (sym e) (theory_instances ss h)
  theory_arguments (many attribute s) [] h e = absurd (omega (arith, e.0))
  theory_arguments (many attribute s) (t ∷ ts) (inl h) e = inl (subst IsTheorySort (sym (e.1 zero t (omega arith))) (theory_instance s h))
  theory_arguments (many attribute s) (t ∷ ts) (inr h) e = absurd h

-- an instance of such a rank has a sort of a theory
pub theory_sort : (rank : Rank) (args : List Sort) (t : Sort) → HasTheorySchema rank → IsInstance rank args t → HasTheorySort (t ∷ args)
theory_sort rank args t (inl h) i = inl (subst IsTheorySort (sym i.gives) (theory_instance i.values rank.result h))
theory_sort rank args t (inr h) i = inr (theory_arguments i.values rank.arguments args h i.takes)
