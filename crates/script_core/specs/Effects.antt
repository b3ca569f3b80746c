-- What the parts of a command answer, and what they lead to.
use Rattle.std.specs.Prelude.{◌≡◌, ℕ, ◌<◌, Bool, false, IsTrue, List, [], ◌∷◌, length, map, Some, Result, Ok, Err}
use Rattle.std.specs.List.{All}
use Rattle.sig_table.specs.declared.code.Code.TheVariants.{WrongCommandForm}
use Rattle.judgement.specs.Judging.{Judging, find, ill_sorted, well_sorted}
use Rattle.sort_store.specs.Interned.{Grows}
use Rattle.sort_store.specs.Tree.{NumberedSort, tree}
use Rattle.sort_store.specs.Tree as sorts
use Rattle.term_grammar.specs.Syntax.{Sort, Sorts, Term}
use Rattle.datatype_commands.specs.Answers.{HaveNames}
use Rattle.cmd_grammar.specs.Commands.{Command, FunDec, declare_const, declare_datatype, declare_datatypes, declare_fun, declare_sort, define_fun, define_fun_rec, define_funs_rec, define_sort, echo, exit, get_info, get_option, reset, set_info, set_logic, set_option}
use Rattle.typer.specs.SortRules.{judge_sort, judge_sorts}
use Rattle.typer.specs.TermRules.{judge_term}
use Rattle.term_store.specs.declared.command.TypedCommand.{TypedCommand}
use Rattle.term_store.specs.Command.{plain_command}
use Rattle.term_store.specs.Term.{NumberedTerm, plain_var, tree as term_tree}
use Rattle.typer.specs.FunctionSymbols.{first_number}
use Rattle.typer.specs.Ready.{IsReadySchema}
use Rattle.dt_rules.specs.declared.error.TyError.{TyError}
use Rattle.dt_rules.specs.declared.error.TyError.TheVariants as ty
use Rattle.script_core.specs.Checking.{environment_of}
use Rattle.script_core.specs.declared.definitions.FunHeader.{FunHeader}
use Rattle.script_core.specs.declared.scope.Scope.{Scope}
use Rattle.script_core.specs.declared.scope.StepError.{StepError}
use Rattle.script_core.specs.declared.scope.StepError.TheVariants as error
use Rattle.script_core.specs.Environment.{Environment, signature_from}
use Rattle.script_core.specs.Rules.{Header, judge_parts, unchanging}

-- Ok has what the judgement leads to, a broken rule is its fault, and want of memory says nothing. The command has declared some
-- names before, and then these.
abbrev pub Meets : {A B : Type 0} → Judging B → (A → B) → Result A StepError → List ℕ → List ℕ → Type 0
Meets J value (Ok x) before after = J before (well_sorted (value x) after)
Meets J value (Err (error.Broken place)) before after = J before (ill_sorted place)
Meets J value (Err error.NoMemory) before after = Unit {0}

-- the same of what declares no name, where none is declared
abbrev pub Answers : {A B : Type 0} → Judging B → (A → B) → Result A StepError → Type 0
Answers J value result = Meets J value result [] []

-- the command, whose list begins at a byte, is kept as the typed command, leads from old to new and has declared these names, or
-- breaks a rule
abbrev pub MeetsParts : Environment → ℕ → Command → Result TypedCommand StepError → Environment → List ℕ → Type 0
MeetsParts old at command result new after = Meets (judge_parts old at command) (λ c. (plain_command c, new)) result [] after

abbrev pub AnswersParts : Environment → ℕ → Command → Result TypedCommand StepError → Environment → Type 0
AnswersParts old at command result new = MeetsParts old at command result new []

-- the same of a command that changes nothing
abbrev pub AnswersUnchanging : ℕ → Command → Result TypedCommand StepError → Type 0
AnswersUnchanging at command result = Answers (find (λ c. unchanging command ≡ Some c) WrongCommandForm at) plain_command result

-- the sort of a raw sort under the parameters of the command, the sorts of some raw sorts, and the typed term of a term in which
-- variables are bound, where the first name that the command declares has this number
abbrev pub AnswersSort : Environment → List ℕ → Sort → Result NumberedSort StepError → Type 0
AnswersSort env params s result = Answers (judge_sort env.names env.declarations env.theories params s) tree result

abbrev pub AnswersSorts : Environment → Sorts → Result (List NumberedSort) StepError → Type 0
AnswersSorts env ss result = Answers (judge_sorts env.names env.declarations env.theories [] ss) (λ rs. map tree rs) result

abbrev pub MeetsTerm : ℕ → Environment → List (ℕ × sorts.Sort) → Term → Result NumberedTerm StepError → List ℕ → List ℕ → Type 0
MeetsTerm first env vars t result before after = Meets (judge_term (signature_from first env) vars t) term_tree result before after

-- the names that the command has declared so far, and the number of the first one
abbrev pub seen_by : Scope → List ℕ
seen_by scope = scope.world.seen.items

abbrev pub first_of : Scope → ℕ
first_of scope = first_number scope.world

-- no name is declared
abbrev pub DeclaresNoName : Scope → Scope → Type 0
DeclaresNoName old new = (seen_by new ≡ seen_by old) × (first_of new ≡ first_of old)

-- names count from the next number on, and none is declared yet
abbrev pub CountsNames : Scope → Type 0
CountsNames scope = first_of scope ≡ scope.next

abbrev pub BeginsNames : Scope → Type 0
BeginsNames scope = (seen_by scope ≡ []) × CountsNames scope

-- a header by the trees of its sorts
abbrev pub plain_header : FunHeader → Header
plain_header h = record { no = h.no; name = h.name; params = map plain_var h.params; result = tree h.result }

-- the sorts of variables may stand in a declaration, and so may those of a header
abbrev pub AreReadyVars : Scope → List (ℕ × NumberedSort) → Type 0
AreReadyVars scope vars = All (IsReadySchema scope.world.names scope.world.sorts 0) (map (λ v. v.1) vars)

pub record IsReadyHeader (scope : Scope) (h : FunHeader) : Type 0 where
  pub params : AreReadyVars scope h.params
  pub result : IsReadySchema scope.world.names scope.world.sorts 0 h.result

-- why a command is not accepted whose sort or term has no sort
abbrev pub step_error_of : TyError → StepError
step_error_of (ty.Fault place) = error.Broken place
step_error_of ty.NoMemory = error.NoMemory

-- the store of sorts has grown, and all else is as it was
pub record OnlySortsGrow (old new : Scope) : Type 0 where
  pub others : new ≡ record old { world = record old.world { sorts = new.world.sorts } }
  pub grows : Grows old.world.sorts new.world.sorts

-- nothing has changed that the rules look at
abbrev pub IsSameTo : Scope → Scope → Type 0
IsSameTo old new = environment_of new.world.names new ≡ environment_of old.world.names old

-- the names of the functions are in the table
abbrev pub AreNamed : List (List ℕ) → List FunDec → Type 0
AreNamed texts [] = Unit {0}
AreNamed texts (f ∷ fs) = (f.name.name < length texts) × AreNamed texts fs

-- the name that the command declares is in the table
abbrev pub IsDeclaredNamed : List (List ℕ) → Command → Type 0
IsDeclaredNamed texts (declare_const n s) = n.name < length texts
IsDeclaredNamed texts (declare_fun n ss s) = n.name < length texts
IsDeclaredNamed texts (declare_datatype n d) = n.name < length texts
IsDeclaredNamed texts (declare_datatypes ss ds) = HaveNames texts ss
IsDeclaredNamed texts (declare_sort n a) = n.name < length texts
IsDeclaredNamed texts (define_sort n ps s) = n.name < length texts
IsDeclaredNamed texts (define_fun f) = f.name.name < length texts
IsDeclaredNamed texts (define_fun_rec f) = f.name.name < length texts
IsDeclaredNamed texts (define_funs_rec fs ts) = AreNamed texts fs
IsDeclaredNamed texts command = Unit {0}

-- A logic is set where the command needs one, and none where it sets one.
abbrev pub IsInMode : Bool → Command → Type 0
IsInMode logic (set_logic n) = logic ≡ false
IsInMode logic (set_option a) = Unit {0}
IsInMode logic (set_info a) = Unit {0}
IsInMode logic (get_option k) = Unit {0}
IsInMode logic (get_info k) = Unit {0}
IsInMode logic (echo t) = Unit {0}
IsInMode logic reset = Unit {0}
IsInMode logic exit = Unit {0}
IsInMode logic command = IsTrue logic
