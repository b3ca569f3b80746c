-- The rules of the fragment of a logic: for each code when a command breaks its rule.
use Rattle.std.specs.Prelude.{◌≡◌, ◌⊎◌, ℕ, ◌<◌, false, List, [], ◌∷◌, length, map, Option, Some, None}
use Rattle.std.specs.List.{Contains}
use Rattle.sig_table.specs.declared.code.Code.{Code}
use Rattle.sig_table.specs.declared.code.Code.TheVariants as code
use Rattle.sort_store.specs.Tree.{Sort}
use Rattle.term_store.specs.Command.{PlainCommand, PlainDef}
use Rattle.term_store.specs.Command as command
use Rattle.term_store.specs.Term.{PlainTerm, term, quant}
use Rattle.logic_frag.specs.declared.logic.NumPart.TheVariants as ints
use Rattle.logic_frag.specs.Logics.{Description}
use Rattle.logic_frag.specs.Occurrences.{Occurrence, occurrences_in}
use Rattle.logic_frag.specs.StandsFor.{Context}
use Rattle.logic_frag.specs.IntegerTerms.{IsNonlinear, IsOutsideDifference}
use Rattle.logic_frag.specs.ArraySorts.{IsOtherArray, command_sorts}

-- the command has a term of the kind
pub record HasTerm (c : PlainCommand) (Kind : Occurrence → Type 0) : Type 0 where
  pub its : Occurrence
  pub contained : Contains (occurrences_in c) its
  pub kind : Kind its

-- the command has a sort of the kind
pub record HasSort (c : PlainCommand) (Kind : Sort → Type 0) : Type 0 where
  pub its : Sort
  pub contained : Contains (command_sorts c) its
  pub kind : Kind its

abbrev pub IsQuantifier : PlainTerm → Type 0
IsQuantifier (term u s (quant all vs b)) = Unit {0}
IsQuantifier _ = ⊥

abbrev pub DeclaresSort : PlainCommand → Type 0
DeclaresSort (command.declare_sort d n a) = Unit {0}
DeclaresSort _ = ⊥

-- a function with arguments
abbrev pub DeclaresFunction : PlainCommand → Type 0
DeclaresFunction (command.declare_fun d n args r) = 0 < length args
DeclaresFunction _ = ⊥

abbrev pub DeclaresDatatype : PlainCommand → Type 0
DeclaresDatatype (command.declare_datatype t) = Unit {0}
DeclaresDatatype (command.declare_datatypes ts) = Unit {0}
DeclaresDatatype _ = ⊥

abbrev pub DefinesRecursively : PlainCommand → Type 0
DefinesRecursively (command.define_fun_rec d) = Unit {0}
DefinesRecursively (command.define_funs_rec ds) = Unit {0}
DefinesRecursively _ = ⊥

abbrev pub own_definitions : PlainCommand → List PlainDef
own_definitions (command.define_fun d) = d ∷ []
own_definitions (command.define_fun_rec d) = d ∷ []
own_definitions (command.define_funs_rec ds) = ds
own_definitions _ = []

-- what the terms of the command are judged with
abbrev pub context_of : List (List ℕ) → List PlainDef → PlainCommand → Context
context_of texts kept c = record { texts = texts; kept = kept; own = map (λ (d : PlainDef). d.no) (own_definitions c) }

-- the command breaks the rule of the code
abbrev pub BreaksRule : Description → Context → PlainCommand → Code → Type 0
BreaksRule l context c code.QuantifierOutsideLogic = (l.q ≡ false) × HasTerm c (λ o. IsQuantifier o.its)
BreaksRule l context c code.SortOutsideLogic = (l.s ≡ false) × DeclaresSort c
BreaksRule l context c code.FunctionOutsideLogic = (l.f ≡ false) × DeclaresFunction c
BreaksRule l context c code.NotLinear = (l.ints ≡ ints.Linear) × HasTerm c (IsNonlinear context)
BreaksRule l context c code.NotDifference = (l.ints ≡ ints.Difference) × HasTerm c (IsOutsideDifference context)
BreaksRule l context c code.ArrayOutsideLogic = HasSort c (IsOtherArray l.arrays)
BreaksRule l context c code.DatatypeOutsideLogic = (l.d ≡ false) × DeclaresDatatype c
BreaksRule l context c code.RecursionOutsideLogic = (l.r ≡ false) × DefinesRecursively c
BreaksRule l context c _ = ⊥

-- the rules in the order of their codes
abbrev pub fragment_codes : List Code
fragment_codes =
    code.QuantifierOutsideLogic ∷
    code.SortOutsideLogic ∷
    code.FunctionOutsideLogic ∷
    code.NotLinear ∷
    code.NotDifference ∷
    code.ArrayOutsideLogic ∷
    code.DatatypeOutsideLogic ∷
    code.RecursionOutsideLogic ∷ []

-- the answer is the first of these codes whose rule is broken, and none where none is
abbrev pub IsFirstBroken : (Code → Type 0) → List Code → Option Code → Type 0
IsFirstBroken Broken [] answer = answer ≡ None
IsFirstBroken Broken (c ∷ cs) answer = (Broken c × (answer ≡ Some c)) ⊎ ((Broken c → ⊥) × IsFirstBroken Broken cs answer)

-- no rule is broken
abbrev pub InLogic : Description → Context → PlainCommand → Type 0
InLogic l context c = (code : Code) → BreaksRule l context c code → ⊥
