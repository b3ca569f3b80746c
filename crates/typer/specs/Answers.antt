-- What a call that judges sorts answers.
use Rattle.std.specs.Prelude.{ℕ, List, map, Option, option_map, Result, Ok, Err, ⊤}
use Rattle.std.specs.Prelude.{Vec}
use Rattle.std.specs.Global.{Global}
use Rattle.judgement.specs.Judging.{Judging, well_sorted, ill_sorted}
use Rattle.sort_store.specs.declared.head.Head.{Head}
use Rattle.sort_store.specs.Tree.{Sort, NumberedSort, no_sorts, sort, tree}
use Rattle.sig_table.specs.declared.code.Code.{Code}
use Rattle.sig_table.specs.declared.code.Code.TheVariants.{SortTooLarge}
use Rattle.sort_store.specs.declared.error.SortError.{SortError}
use Rattle.sort_store.specs.declared.error.SortError.TheVariants as store
pub use Rattle.dt_rules.specs.Answers.{Answers}
use Rattle.dt_rules.specs.declared.error.TyError.{TyError}
use Rattle.dt_rules.specs.declared.error.TyError.TheVariants as error
use Rattle.term_store.specs.declared.parts.Applied.{Applied}
use Rattle.term_store.specs.Term.{NumberedTerm, PlainTerm, plain_var}
use Rattle.term_store.specs.Term as terms
use Rattle.typer.specs.declared.head.TypedHead.{TypedHead}
use Rattle.typer.specs.declared.typed.TypedTerm.{TypedTerm}
use Rattle.typer.specs.declared.typed.TypedTerms.{TypedTerms}
use Rattle.typer.specs.declared.typed.TypedBinding.{TypedBinding}
use Rattle.typer.specs.declared.typed.TypedCase.{TypedCase}
use Rattle.typer.specs.declared.typed.TypedCases.{TypedCases}
use Rattle.typer.specs.declared.typed.TypedPattern.{TypedPattern}
use Rattle.term_store.specs.declared.parts.Pattern.{Pattern}
use Rattle.term_store.specs.declared.term.Note.{Note}
use Rattle.typer.specs.TermRules.{Binding, Case, PlainNote}
use Rattle.typer.specs.Typed.{binding_tree, case_tree, case_trees, plain_note}

-- A thing that may declare names: Ok has the value after these names that the command has declared, with those that
-- it has declared then; a fault comes after the names before.
abbrev pub Meets : {A : Type 0} → Result A TyError → Judging A → List ℕ → List ℕ → Type 0
Meets (Ok x) J before after = J before (well_sorted x after)
Meets (Err (error.Fault place)) J before after = J before (ill_sorted place)
Meets (Err error.NoMemory) J before after = ⊤

-- the trees of the sorts of an answer
abbrev pub tree_answer : Result NumberedSort TyError → Result Sort TyError
tree_answer (Ok r) = Ok (tree r)
tree_answer (Err e) = Err e

-- the sort of a sort symbol without arguments
abbrev pub constant_answer : Result Head TyError → Result Sort TyError
constant_answer (Ok h) = Ok (sort h no_sorts)
constant_answer (Err e) = Err e

abbrev pub trees_answer : Result (Vec NumberedSort Global) TyError → Result (List Sort) TyError
trees_answer (Ok v) = Ok (map tree v.items)
trees_answer (Err e) = Err e

-- the fault with this code at a byte
abbrev pub fault_at : Code → ℕ → TyError
fault_at code at = error.Fault (record { code = code; at = at })

-- the fault of a sort that the store did not make
abbrev pub fault_of_store : SortError → ℕ → TyError
fault_of_store store.TooLarge at = fault_at SortTooLarge at
fault_of_store store.NoMemory at = error.NoMemory

-- the trees of typed terms and of their parts
abbrev pub term_answer : Result NumberedTerm TyError → Result PlainTerm TyError
term_answer (Ok t) = Ok (terms.tree t)
term_answer (Err e) = Err e

abbrev pub typed_answer : Result TypedTerm TyError → Result PlainTerm TyError
typed_answer (Ok typed) = Ok (terms.tree typed.term)
typed_answer (Err e) = Err e

abbrev pub typed_answers : Result TypedTerms TyError → Result (List PlainTerm) TyError
typed_answers (Ok typed) = Ok (map terms.tree typed.terms.items)
typed_answers (Err e) = Err e

abbrev pub head_answer : Result TypedHead TyError → Result (Applied × Sort) TyError
head_answer (Ok head) = Ok (head.applied, tree head.sort)
head_answer (Err e) = Err e

abbrev pub asked_answer : Result (Option NumberedSort) TyError → Result (Option Sort) TyError
asked_answer (Ok asked) = Ok (option_map tree asked)
asked_answer (Err e) = Err e

abbrev pub variable_answer : Result (ℕ × NumberedSort) TyError → Result (ℕ × Sort) TyError
variable_answer (Ok var) = Ok (plain_var var)
variable_answer (Err e) = Err e

abbrev pub variables_answer : Result (Vec (ℕ × NumberedSort) Global) TyError → Result (List (ℕ × Sort)) TyError
variables_answer (Ok vars) = Ok (map plain_var vars.items)
variables_answer (Err e) = Err e

abbrev pub bindings_answer : Result (Vec TypedBinding Global) TyError → Result (List Binding) TyError
bindings_answer (Ok bindings) = Ok (map binding_tree bindings.items)
bindings_answer (Err e) = Err e

-- what has these sorts where it is made
abbrev pub sorts_answer : {A : Type 0} → List Sort → Result A TyError → Result (List Sort) TyError
sorts_answer ss (Ok x) = Ok ss
sorts_answer ss (Err e) = Err e

-- a case of a match
abbrev pub case_answer : Result TypedCase TyError → Result Case TyError
case_answer (Ok c) = Ok (case_tree c)
case_answer (Err e) = Err e

abbrev pub cases_answer : Result TypedCases TyError → Result (List Case) TyError
cases_answer (Ok cases) = Ok (case_trees cases)
cases_answer (Err e) = Err e

abbrev pub pattern_answer : Result TypedPattern TyError → Result Pattern TyError
pattern_answer (Ok p) = Ok p.pattern
pattern_answer (Err e) = Err e

abbrev pub note_answer : Result Note TyError → Result PlainNote TyError
note_answer (Ok note) = Ok (plain_note note)
note_answer (Err e) = Err e

abbrev pub notes_answer : Result (Vec Note Global) TyError → Result (List PlainNote) TyError
notes_answer (Ok notes) = Ok (map plain_note notes.items)
notes_answer (Err e) = Err e
