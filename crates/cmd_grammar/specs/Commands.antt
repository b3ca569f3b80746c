-- The abstract syntax of commands (SMT-LIB 2.6, section 3.9). A number beside a part is the byte of the parenthesis that
-- begins it.
use Rattle.std.specs.Prelude.{ℕ, List}
use Rattle.lex_core.specs.declared.token.Tok.{Tok}
use Rattle.term_grammar.specs.Syntax.{Sort, Sorts, SortedSymbol, Term, Terms, Attribute}

-- ( symbol numeral )
pub record SortDec : Type 0 where
  pub at : ℕ
  pub name : Tok
  pub arity : Tok

-- ( symbol selector* )
pub record ConstructorDec : Type 0 where
  pub at : ℕ
  pub name : Tok
  pub selectors : List SortedSymbol

-- ( con_dec+ ) | ( par ( symbol+ ) ( con_dec+ ) )
pub data DataDec : Type 0 where
  plain_data : ℕ → List ConstructorDec → DataDec
  parametric_data : ℕ → List Tok → List ConstructorDec → DataDec

-- ( symbol ( variable* ) sort )
pub record FunDec : Type 0 where
  pub at : ℕ
  pub name : Tok
  pub params : List SortedSymbol
  pub result : Sort

-- symbol ( variable* ) sort term
pub record FunDef : Type 0 where
  pub name : Tok
  pub params : List SortedSymbol
  pub result : Sort
  pub body : Term

-- symbol | ( not symbol ). The token of `not` is kept: it is the function symbol of the literal read as a term.
pub data Literal : Type 0 where
  positive : Tok → Literal
  negative : ℕ → Tok → Tok → Literal

-- One case for each command.
pub data Command : Type 0 where
  assert : Term → Command
  check_sat : Command
  check_sat_assuming : List Literal → Command
  declare_const : Tok → Sort → Command
  declare_datatype : Tok → DataDec → Command
  declare_datatypes : List SortDec → List DataDec → Command
  declare_fun : Tok → Sorts → Sort → Command
  declare_sort : Tok → Tok → Command
  define_fun : FunDef → Command
  define_fun_rec : FunDef → Command
  define_funs_rec : List FunDec → Terms → Command
  define_sort : Tok → List Tok → Sort → Command
  echo : Tok → Command
  exit : Command
  get_assertions : Command
  get_assignment : Command
  get_info : Tok → Command
  get_model : Command
  get_option : Tok → Command
  get_proof : Command
  get_unsat_assumptions : Command
  get_unsat_core : Command
  get_value : Terms → Command
  pop : Tok → Command
  push : Tok → Command
  reset : Command
  reset_assertions : Command
  set_info : Attribute → Command
  set_logic : Tok → Command
  set_option : Attribute → Command

-- a command, and the byte where it begins
pub record CommandAt : Type 0 where
  pub at : ℕ
  pub command : Command
