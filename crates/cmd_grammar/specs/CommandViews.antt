-- What the view of a command shows: one line for each command.
use Rattle.cmd_grammar.specs.declared.command_kind.RawCommandKind.{RawCommandKind}
use Rattle.cmd_grammar.specs.declared.command_kind.RawCommandKind.TheVariants as kind
use Rattle.cmd_grammar.specs.Commands.{Command, assert, check_sat, check_sat_assuming, declare_const, declare_datatype, declare_datatypes, declare_fun, declare_sort, define_fun, define_fun_rec, define_funs_rec, define_sort, echo, exit, get_assertions, get_assignment, get_info, get_model, get_option, get_proof, get_unsat_assumptions, get_unsat_core, get_value, pop, push, reset, reset_assertions, set_info, set_logic, set_option}
use Rattle.cmd_grammar.specs.DeclarationViews.{fun_def_seen}

abbrev pub command_from : RawCommandKind → Command
command_from (kind.Assert t) = assert t
command_from kind.CheckSat = check_sat
command_from (kind.CheckSatAssuming ls) = check_sat_assuming ls
command_from (kind.DeclareConst n s) = declare_const n s
command_from (kind.DeclareDatatype n d) = declare_datatype n d
command_from (kind.DeclareDatatypes ss ds) = declare_datatypes ss ds
command_from (kind.DeclareFun n ss r) = declare_fun n ss r
command_from (kind.DeclareSort n a) = declare_sort n a
command_from (kind.DefineFun f) = define_fun (fun_def_seen f)
command_from (kind.DefineFunRec f) = define_fun_rec (fun_def_seen f)
command_from (kind.DefineFunsRec fs bs) = define_funs_rec fs bs
command_from (kind.DefineSort n ps s) = define_sort n ps s
command_from (kind.Echo t) = echo t
command_from kind.Exit = exit
command_from kind.GetAssertions = get_assertions
command_from kind.GetAssignment = get_assignment
command_from (kind.GetInfo k) = get_info k
command_from kind.GetModel = get_model
command_from (kind.GetOption k) = get_option k
command_from kind.GetProof = get_proof
command_from kind.GetUnsatAssumptions = get_unsat_assumptions
command_from kind.GetUnsatCore = get_unsat_core
command_from (kind.GetValue ts) = get_value ts
command_from (kind.Pop n) = pop n
command_from (kind.Push n) = push n
command_from kind.Reset = reset
command_from kind.ResetAssertions = reset_assertions
command_from (kind.SetInfo a) = set_info a
command_from (kind.SetLogic n) = set_logic n
command_from (kind.SetOption a) = set_option a
