-- Which sorts stand in a command, and which array sorts a logic has (SMT-LIB 2.6, theory declaration ArraysEx).
use Rattle.std.specs.Prelude.{◌≡◌, List, [], ◌∷◌, ◌++◌, map}
use Rattle.std.specs.List.{flat_map}
use Rattle.sort_store.specs.declared.head.Head.TheVariants as head
use Rattle.sort_store.specs.Tree.{Sort, sort, SortList, no_sorts, more_sorts, sorts}
use Rattle.term_store.specs.Command.{PlainCommand, PlainConstructor, PlainDatatype, PlainDef, PlainField}
use Rattle.term_store.specs.Command as command
use Rattle.term_store.specs.Term.{PlainTerm, term, quant, plain_sort}
use Rattle.logic_frag.specs.declared.logic.ArrayPart.{ArrayPart}
use Rattle.logic_frag.specs.declared.logic.ArrayPart.TheVariants as arrays
use Rattle.logic_frag.specs.Occurrences.{Occurrence, occurrences_in}
use Rattle.logic_frag.specs.IntegerTerms.{int}

-- the sort and the sorts in it
abbrev mutual
  pub sorts_in : Sort → List Sort
  sorts_in (sort h ts) = sort h ts ∷ sorts_in_each ts

  pub sorts_in_each : SortList → List Sort
  sorts_in_each no_sorts = []
  sorts_in_each (more_sorts t ts) = sorts_in t ++ sorts_in_each ts

-- the sorts of the variables that a term binds by a quantifier
abbrev pub quantified_sorts : PlainTerm → List Sort
quantified_sorts (term u s (quant all vs b)) = map (λ v. v.1) vs
quantified_sorts _ = []

-- the sort of a term, and those of the variables that it quantifies
abbrev pub sorts_at : Occurrence → List Sort
sorts_at o = plain_sort o.its ∷ quantified_sorts o.its

abbrev pub constructor_sorts : PlainConstructor → List Sort
constructor_sorts c = map (λ (f : PlainField). f.sort) c.fields

abbrev pub field_sorts : PlainDatatype → List Sort
field_sorts t = flat_map constructor_sorts t.constructors

abbrev pub signature_sorts : PlainDef → List Sort
signature_sorts d = map (λ v. v.1) d.params ++ d.result ∷ []

-- the sorts that a command declares functions or fields with
abbrev pub declared_sorts : PlainCommand → List Sort
declared_sorts (command.declare_const d n s) = s ∷ []
declared_sorts (command.declare_fun d n args r) = args ++ r ∷ []
declared_sorts (command.declare_datatype t) = field_sorts t
declared_sorts (command.declare_datatypes ts) = flat_map field_sorts ts
declared_sorts (command.define_fun d) = signature_sorts d
declared_sorts (command.define_fun_rec d) = signature_sorts d
declared_sorts (command.define_funs_rec ds) = flat_map signature_sorts ds
declared_sorts _ = []

-- the sorts of a command, those of its terms among them; define-sort has none
abbrev pub command_sorts : PlainCommand → List Sort
command_sorts c = flat_map sorts_in (declared_sorts c ++ flat_map sorts_at (occurrences_in c))

abbrev pub IsBitVector : Sort → Type 0
IsBitVector (sort (head.BitVec m) no_sorts) = Unit {0}
IsBitVector _ = ⊥

abbrev pub AreBitVectors : SortList → Type 0
AreBitVectors (more_sorts s (more_sorts t no_sorts)) = IsBitVector s × IsBitVector t
AreBitVectors _ = ⊥

-- an array sort other than (Array Int Int), or than those of bit vectors
abbrev pub IsOtherArray : ArrayPart → Sort → Type 0
IsOtherArray arrays.Ints (sort head.Array ts) = ts ≡ sorts (int ∷ int ∷ []) → ⊥
IsOtherArray arrays.Bits (sort head.Array ts) = AreBitVectors ts → ⊥
IsOtherArray part s = ⊥
