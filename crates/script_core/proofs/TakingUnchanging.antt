-- Commands that change nothing.
use Rattle.std.proofs.Common.{◌≡◌, ℕ, false, List, [], Some, Result, Ok, Err, refl, sym, inl}
use Rattle.std.proofs.lemmas.Bool.{false≢true}
use Rattle.lex_core.specs.declared.token.Tok.{Tok}
use Rattle.sig_table.specs.declared.code.Code.TheVariants.{WrongCommandForm}
use Rattle.judgement.specs.Judging.{Judging, ◌>>=◌, done, find}
use Rattle.term_grammar.specs.Syntax.{Attribute, Sort, Sorts, Term, Terms}
use Rattle.cmd_grammar.specs.declared.fun_dec.RawFunDef.{RawFunDef}
use Rattle.cmd_grammar.specs.declared.command_kind.RawCommandKind.{RawCommandKind}
use Rattle.cmd_grammar.specs.declared.command_kind.RawCommandKind.TheVariants as kind
use Rattle.cmd_grammar.specs.Commands.{FunDec, Literal}
use Rattle.cmd_grammar.specs.CommandViews.{command_from}
use Rattle.term_store.specs.declared.command.TypedCommand.{TypedCommand}
use Rattle.term_store.specs.Command.{PlainCommand, plain_command}
use Rattle.script_core.specs.declared.scope.StepError.{StepError}
use Rattle.script_core.specs.declared.scope.StepError.TheVariants as error
use Rattle.script_core.specs.Effects.{Answers, AnswersParts, AnswersUnchanging}
use Rattle.script_core.specs.Environment.{Environment}
use Rattle.script_core.specs.Rules.{declares_group, unchanging}

-- the environment stays beside the typed command
with_same : (part : Judging PlainCommand) (env : Environment) (r : Result TypedCommand StepError) → Answers part plain_command r → Answers {B = PlainCommand × Environment} (part >>= λ c. done (c, env)) (λ c. (plain_command c, env)) r
with_same part env (Ok command) h = (plain_command command, [], h, (refl, refl))
with_same part env (Err (error.Broken place)) h = inl h
with_same part env (Err error.NoMemory) h = tt

-- a command that is none of those that change something or have parts to judge
pub unchanging_answer : (env : Environment) (at : ℕ) (k : RawCommandKind) (r : Result TypedCommand StepError) → declares_group (command_from k) ≡ false
    → ((t : Term) → k ≡ kind.Assert t → ⊥) → ((ls : List Literal) → k ≡ kind.CheckSatAssuming ls → ⊥) → ((n : Tok) (s : Sort) → k ≡ kind.DeclareConst n s → ⊥)
    → ((n : Tok) (ss : Sorts) (s : Sort) → k ≡ kind.DeclareFun n ss s → ⊥) → ((n a : Tok) → k ≡ kind.DeclareSort n a → ⊥) → ((n : Tok) (ps : List Tok) (s : Sort) → k ≡ kind.DefineSort n ps s → ⊥)
    → ((n : Tok) → k ≡ kind.Push n → ⊥) → ((n : Tok) → k ≡ kind.Pop n → ⊥) → ((n : Tok) → k ≡ kind.SetLogic n → ⊥) → ((a : Attribute) → k ≡ kind.SetOption a → ⊥)
    → ((ts : Terms) → k ≡ kind.GetValue ts → ⊥) → ((f : RawFunDef) → k ≡ kind.DefineFun f → ⊥) → ((f : RawFunDef) → k ≡ kind.DefineFunRec f → ⊥) → ((fs : List FunDec) (bs : Terms) → k ≡ kind.DefineFunsRec fs bs → ⊥) → (k ≡ kind.Reset → ⊥) → (k ≡ kind.ResetAssertions → ⊥) → AnswersUnchanging at (command_from k) r → AnswersParts env at (command_from k) r env
unchanging_answer env at (kind.Assert t) r plain no_assert no_assuming no_const no_fun no_sort no_define no_push no_pop no_logic no_option no_value no_function no_recursive no_group no_reset no_assertions h = absurd (no_assert t refl)
unchanging_answer env at (kind.CheckSatAssuming ls) r plain no_assert no_assuming no_const no_fun no_sort no_define no_push no_pop no_logic no_option no_value no_function no_recursive no_group no_reset no_assertions h = absurd (no_assuming ls refl)
unchanging_answer env at (kind.DeclareConst n s) r plain no_assert no_assuming no_const no_fun no_sort no_define no_push no_pop no_logic no_option no_value no_function no_recursive no_group no_reset no_assertions h = absurd (no_const n s refl)
unchanging_answer env at (kind.DeclareFun n ss s) r plain no_assert no_assuming no_const no_fun no_sort no_define no_push no_pop no_logic no_option no_value no_function no_recursive no_group no_reset no_assertions h = absurd (no_fun n ss s refl)
unchanging_answer env at (kind.DeclareDatatype n d) r plain no_assert no_assuming no_const no_fun no_sort no_define no_push no_pop no_logic no_option no_value no_function no_recursive no_group no_reset no_assertions h = absurd (false≢true (sym plain))
unchanging_answer env at (kind.DeclareDatatypes ss ds) r plain no_assert no_assuming no_const no_fun no_sort no_define no_push no_pop no_logic no_option no_value no_function no_recursive no_group no_reset no_assertions h = absurd (false≢true (sym plain))
unchanging_answer env at (kind.DeclareSort n a) r plain no_assert no_assuming no_const no_fun no_sort no_define no_push no_pop no_logic no_option no_value no_function no_recursive no_group no_reset no_assertions h = absurd (no_sort n a refl)
unchanging_answer env at (kind.DefineSort n ps s) r plain no_assert no_assuming no_const no_fun no_sort no_define no_push no_pop no_logic no_option no_value no_function no_recursive no_group no_reset no_assertions h = absurd (no_define n ps s refl)
unchanging_answer env at (kind.Push n) r plain no_assert no_assuming no_const no_fun no_sort no_define no_push no_pop no_logic no_option no_value no_function no_recursive no_group no_reset no_assertions h = absurd (no_push n refl)
unchanging_answer env at (kind.Pop n) r plain no_assert no_assuming no_const no_fun no_sort no_define no_push no_pop no_logic no_option no_value no_function no_recursive no_group no_reset no_assertions h = absurd (no_pop n refl)
unchanging_answer env at (kind.SetLogic n) r plain no_assert no_assuming no_const no_fun no_sort no_define no_push no_pop no_logic no_option no_value no_function no_recursive no_group no_reset no_assertions h = absurd (no_logic n refl)
unchanging_answer env at (kind.SetOption a) r plain no_assert no_assuming no_const no_fun no_sort no_define no_push no_pop no_logic no_option no_value no_function no_recursive no_group no_reset no_assertions h = absurd (no_option a refl)
unchanging_answer env at (kind.GetValue ts) r plain no_assert no_assuming no_const no_fun no_sort no_define no_push no_pop no_logic no_option no_value no_function no_recursive no_group no_reset no_assertions h = absurd (no_value ts refl)
unchanging_answer env at (kind.DefineFun f) r plain no_assert no_assuming no_const no_fun no_sort no_define no_push no_pop no_logic no_option no_value no_function no_recursive no_group no_reset no_assertions h = absurd (no_function f refl)
unchanging_answer env at (kind.DefineFunRec f) r plain no_assert no_assuming no_const no_fun no_sort no_define no_push no_pop no_logic no_option no_value no_function no_recursive no_group no_reset no_assertions h = absurd (no_recursive f refl)
unchanging_answer env at (kind.DefineFunsRec fs bs) r plain no_assert no_assuming no_const no_fun no_sort no_define no_push no_pop no_logic no_option no_value no_function no_recursive no_group no_reset no_assertions h = absurd (no_group fs bs refl)
unchanging_answer env at kind.Reset r plain no_assert no_assuming no_const no_fun no_sort no_define no_push no_pop no_logic no_option no_value no_function no_recursive no_group no_reset no_assertions h = absurd (no_reset refl)
unchanging_answer env at kind.ResetAssertions r plain no_assert no_assuming no_const no_fun no_sort no_define no_push no_pop no_logic no_option no_value no_function no_recursive no_group no_reset no_assertions h = absurd (no_assertions refl)
unchanging_answer env at k r plain no_assert no_assuming no_const no_fun no_sort no_define no_push no_pop no_logic no_option no_value no_function no_recursive no_group no_reset no_assertions h = with_same (find (λ c. unchanging (command_from k) ≡ Some c) WrongCommandForm at) env r h
