-- The words that begin commands, told by the numbers that they have in every table of names.
use Rattle.std.specs.Prelude.{ℕ, ◌==◌, if◌then◌else◌}
use Rattle.lex_core.specs.declared.token.Tok.{Tok}
use Rattle.cmd_grammar.specs.declared.command_word.TheConstants.{ASSERT, CHECK_SAT, CHECK_SAT_ASSUMING, DECLARE_CONST, DECLARE_DATATYPE, DECLARE_DATATYPES, DECLARE_FUN, DECLARE_SORT, DEFINE_FUN, DEFINE_FUN_REC, DEFINE_FUNS_REC, DEFINE_SORT, ECHO, EXIT, GET_ASSERTIONS, GET_ASSIGNMENT, GET_INFO, GET_MODEL, GET_OPTION, GET_PROOF, GET_UNSAT_ASSUMPTIONS, GET_UNSAT_CORE, GET_VALUE, POP, PUSH, RESET, RESET_ASSERTIONS, SET_INFO, SET_LOGIC, SET_OPTION}
use Rattle.cmd_grammar.specs.declared.command_word.CommandWord.{CommandWord}
use Rattle.cmd_grammar.specs.declared.command_word.CommandWord.TheVariants as command
use Rattle.term_grammar.specs.Words.{reserved_kind}

abbrev pub third_ten : ℕ → CommandWord
third_ten n =
    if n == GET_UNSAT_ASSUMPTIONS then command.GetUnsatAssumptions
    else if n == GET_UNSAT_CORE then command.GetUnsatCore
    else if n == GET_VALUE then command.GetValue
    else if n == POP then command.Pop
    else if n == PUSH then command.Push
    else if n == RESET then command.Reset
    else if n == RESET_ASSERTIONS then command.ResetAssertions
    else if n == SET_INFO then command.SetInfo
    else if n == SET_LOGIC then command.SetLogic
    else if n == SET_OPTION then command.SetOption
    else command.Other

abbrev pub second_ten : ℕ → CommandWord
second_ten n =
    if n == DEFINE_FUNS_REC then command.DefineFunsRec
    else if n == DEFINE_SORT then command.DefineSort
    else if n == ECHO then command.Echo
    else if n == EXIT then command.Exit
    else if n == GET_ASSERTIONS then command.GetAssertions
    else if n == GET_ASSIGNMENT then command.GetAssignment
    else if n == GET_INFO then command.GetInfo
    else if n == GET_MODEL then command.GetModel
    else if n == GET_OPTION then command.GetOption
    else if n == GET_PROOF then command.GetProof
    else third_ten n

abbrev pub first_ten : ℕ → CommandWord
first_ten n =
    if n == ASSERT then command.Assert
    else if n == CHECK_SAT then command.CheckSat
    else if n == CHECK_SAT_ASSUMING then command.CheckSatAssuming
    else if n == DECLARE_CONST then command.DeclareConst
    else if n == DECLARE_DATATYPE then command.DeclareDatatype
    else if n == DECLARE_DATATYPES then command.DeclareDatatypes
    else if n == DECLARE_FUN then command.DeclareFun
    else if n == DECLARE_SORT then command.DeclareSort
    else if n == DEFINE_FUN then command.DefineFun
    else if n == DEFINE_FUN_REC then command.DefineFunRec
    else second_ten n

-- the command that a word begins, by its number
abbrev pub command_begun_by : Tok → CommandWord
command_begun_by t = if reserved_kind t.kind then first_ten t.name else command.Other
