-- A typed command (SMT-LIB 2.6, section 4.2) by its trees: its terms and sorts without the numbers of their entries, and
-- the values of its attributes without the bytes at which they stood.
use Rattle.std.specs.Prelude.{ℕ, Bool, List, map, Option}
use Rattle.lex_core.specs.declared.token.Tok.{Tok}
use Rattle.sexp_core.specs.Sexp.{Sexp}
use Rattle.sort_store.specs.declared.head.DeclNo.{DeclNo}
use Rattle.sort_store.specs.Tree.{Sort}
use Rattle.sort_store.specs.Tree as sorts
use Rattle.term_store.specs.declared.command.Constructor.{Constructor}
use Rattle.term_store.specs.declared.command.Datatype.{Datatype}
use Rattle.term_store.specs.declared.command.Def.{Def}
use Rattle.term_store.specs.declared.command.Field.{Field}
use Rattle.term_store.specs.declared.command.TypedCommand.{TypedCommand}
use Rattle.term_store.specs.declared.command.TypedCommand.TheVariants as command
use Rattle.term_store.specs.Term.{PlainTerm, tree, plain_var}
use Rattle.term_store.specs.Value.{unplaced_value}

pub record PlainField : Type 0 where
  pub no : DeclNo
  pub name : ℕ
  pub sort : Sort

pub record PlainConstructor : Type 0 where
  pub no : DeclNo
  pub name : ℕ
  pub fields : List PlainField

pub record PlainDatatype : Type 0 where
  pub no : DeclNo
  pub name : ℕ
  pub params : List ℕ
  pub constructors : List PlainConstructor

pub record PlainDef : Type 0 where
  pub no : DeclNo
  pub name : ℕ
  pub params : List (ℕ × Sort)
  pub result : Sort
  pub body : PlainTerm
  pub recursive : Bool

-- one case for each command
pub data PlainCommand : Type 0 where
  assert : PlainTerm → PlainCommand
  check_sat : PlainCommand
  check_sat_assuming : List PlainTerm → PlainCommand
  declare_const : DeclNo → ℕ → Sort → PlainCommand
  declare_datatype : PlainDatatype → PlainCommand
  declare_datatypes : List PlainDatatype → PlainCommand
  declare_fun : DeclNo → ℕ → List Sort → Sort → PlainCommand
  declare_sort : DeclNo → ℕ → ℕ → PlainCommand
  define_fun : PlainDef → PlainCommand
  define_fun_rec : PlainDef → PlainCommand
  define_funs_rec : List PlainDef → PlainCommand
  define_sort : ℕ → List ℕ → Sort → PlainCommand
  echo : ℕ → PlainCommand
  exit : PlainCommand
  get_assertions : PlainCommand
  get_assignment : PlainCommand
  get_info : ℕ → PlainCommand
  get_model : PlainCommand
  get_option : ℕ → PlainCommand
  get_proof : PlainCommand
  get_unsat_assumptions : PlainCommand
  get_unsat_core : PlainCommand
  get_value : List PlainTerm → PlainCommand
  pop : ℕ → PlainCommand
  push : ℕ → PlainCommand
  reset : PlainCommand
  reset_assertions : PlainCommand
  set_info : ℕ → Option (Sexp Tok) → PlainCommand
  set_logic : ℕ → PlainCommand
  set_option : ℕ → Option (Sexp Tok) → PlainCommand

abbrev pub plain_field : Field → PlainField
plain_field f = record { no = f.no; name = f.name; sort = sorts.tree f.sort }

abbrev pub plain_constructor : Constructor → PlainConstructor
plain_constructor c = record { no = c.no; name = c.name; fields = map plain_field c.fields }

abbrev pub plain_datatype : Datatype → PlainDatatype
plain_datatype t = record { no = t.no; name = t.name; params = t.params; constructors = map plain_constructor t.constructors }

abbrev pub plain_def : Def → PlainDef
plain_def d = record { no = d.no; name = d.name; params = map plain_var d.params; result = sorts.tree d.result; body = tree d.body; recursive = d.recursive }

abbrev pub plain_command : TypedCommand → PlainCommand
plain_command (command.Assert t) = assert (tree t)
plain_command command.CheckSat = check_sat
plain_command (command.CheckSatAssuming ts) = check_sat_assuming (map tree ts)
plain_command (command.DeclareConst d n s) = declare_const d n (sorts.tree s)
plain_command (command.DeclareDatatype t) = declare_datatype (plain_datatype t)
plain_command (command.DeclareDatatypes ts) = declare_datatypes (map plain_datatype ts)
plain_command (command.DeclareFun d n args r) = declare_fun d n (map sorts.tree args) (sorts.tree r)
plain_command (command.DeclareSort d n a) = declare_sort d n a
plain_command (command.DefineFun d) = define_fun (plain_def d)
plain_command (command.DefineFunRec d) = define_fun_rec (plain_def d)
plain_command (command.DefineFunsRec ds) = define_funs_rec (map plain_def ds)
plain_command (command.DefineSort n ps s) = define_sort n ps (sorts.tree s)
plain_command (command.Echo t) = echo t
plain_command command.Exit = exit
plain_command command.GetAssertions = get_assertions
plain_command command.GetAssignment = get_assignment
plain_command (command.GetInfo k) = get_info k
plain_command command.GetModel = get_model
plain_command (command.GetOption k) = get_option k
plain_command command.GetProof = get_proof
plain_command command.GetUnsatAssumptions = get_unsat_assumptions
plain_command command.GetUnsatCore = get_unsat_core
plain_command (command.GetValue ts) = get_value (map tree ts)
plain_command (command.Pop n) = pop n
plain_command (command.Push n) = push n
plain_command command.Reset = reset
plain_command command.ResetAssertions = reset_assertions
plain_command (command.SetInfo k v) = set_info k (unplaced_value v)
plain_command (command.SetLogic n) = set_logic n
plain_command (command.SetOption k v) = set_option k (unplaced_value v)
