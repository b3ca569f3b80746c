-- The texts of the names of commands, which the grammar tells by their numbers.
use Rattle.std.specs.Prelude.{codes}
use Rattle.cmd_grammar.specs.declared.command_word.TheConstants.{ASSERT, CHECK_SAT, CHECK_SAT_ASSUMING, DECLARE_CONST, DECLARE_DATATYPE, DECLARE_DATATYPES, DECLARE_FUN, DECLARE_SORT, DEFINE_FUN, DEFINE_FUN_REC, DEFINE_FUNS_REC, DEFINE_SORT, ECHO, EXIT, GET_ASSERTIONS, GET_ASSIGNMENT, GET_INFO, GET_MODEL, GET_OPTION, GET_PROOF, GET_UNSAT_ASSUMPTIONS, GET_UNSAT_CORE, GET_VALUE, POP, PUSH, RESET, RESET_ASSERTIONS, SET_INFO, SET_LOGIC, SET_OPTION}
use Rattle.term_grammar.specs.WordNumbers.{IsWord}

-- the names of the commands
pub record CommandNames : Type 0 where
  pub assert : IsWord ASSERT (codes "assert")
  pub check_sat : IsWord CHECK_SAT (codes "check-sat")
  pub check_sat_assuming : IsWord CHECK_SAT_ASSUMING (codes "check-sat-assuming")
  pub declare_const : IsWord DECLARE_CONST (codes "declare-const")
  pub declare_datatype : IsWord DECLARE_DATATYPE (codes "declare-datatype")
  pub declare_datatypes : IsWord DECLARE_DATATYPES (codes "declare-datatypes")
  pub declare_fun : IsWord DECLARE_FUN (codes "declare-fun")
  pub declare_sort : IsWord DECLARE_SORT (codes "declare-sort")
  pub define_fun : IsWord DEFINE_FUN (codes "define-fun")
  pub define_fun_rec : IsWord DEFINE_FUN_REC (codes "define-fun-rec")
  pub define_funs_rec : IsWord DEFINE_FUNS_REC (codes "define-funs-rec")
  pub define_sort : IsWord DEFINE_SORT (codes "define-sort")
  pub echo : IsWord ECHO (codes "echo")
  pub exit : IsWord EXIT (codes "exit")
  pub get_assertions : IsWord GET_ASSERTIONS (codes "get-assertions")
  pub get_assignment : IsWord GET_ASSIGNMENT (codes "get-assignment")
  pub get_info : IsWord GET_INFO (codes "get-info")
  pub get_model : IsWord GET_MODEL (codes "get-model")
  pub get_option : IsWord GET_OPTION (codes "get-option")
  pub get_proof : IsWord GET_PROOF (codes "get-proof")
  pub get_unsat_assumptions : IsWord GET_UNSAT_ASSUMPTIONS (codes "get-unsat-assumptions")
  pub get_unsat_core : IsWord GET_UNSAT_CORE (codes "get-unsat-core")
  pub get_value : IsWord GET_VALUE (codes "get-value")
  pub pop : IsWord POP (codes "pop")
  pub push : IsWord PUSH (codes "push")
  pub reset : IsWord RESET (codes "reset")
  pub reset_assertions : IsWord RESET_ASSERTIONS (codes "reset-assertions")
  pub set_info : IsWord SET_INFO (codes "set-info")
  pub set_logic : IsWord SET_LOGIC (codes "set-logic")
  pub set_option : IsWord SET_OPTION (codes "set-option")
