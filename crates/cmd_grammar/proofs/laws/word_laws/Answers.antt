use Rattle.std.proofs.Common.{refl}
use Rattle.cmd_grammar.proofs.laws.word_laws.Goals as goal

pub returns : goal.returns
returns c = record {
  assert = refl;
  check_sat = refl;
  check_sat_assuming = refl;
  declare_const = refl;
  declare_datatype = refl;
  declare_datatypes = refl;
  declare_fun = refl;
  declare_sort = refl;
  define_fun = refl;
  define_fun_rec = refl;
  define_funs_rec = refl;
  define_sort = refl;
  echo = refl;
  exit = refl;
  get_assertions = refl;
  get_assignment = refl;
  get_info = refl;
  get_model = refl;
  get_option = refl;
  get_proof = refl;
  get_unsat_assumptions = refl;
  get_unsat_core = refl;
  get_value = refl;
  pop = refl;
  push = refl;
  reset = refl;
  reset_assertions = refl;
  set_info = refl;
  set_logic = refl;
  set_option = refl;
}
