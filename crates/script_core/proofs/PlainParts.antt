-- A command that declares no datatype is kept as one that declares none, and leaves the script as it was.
use Rattle.std.proofs.Common.{◌≡◌, ℕ, Bool, true, false, List, [], Some, Result, Ok, Err, refl, ap, sym, ◌∙◌, append-nil}
use Rattle.std.proofs.lemmas.Bool.{false≢true}
use Rattle.std.specs.Prelude.{IfOk, OnErr}
use Rattle.lex_core.specs.declared.token.Tok.{Tok}
use Rattle.sig_table.specs.declared.code.Code.TheVariants.{WrongCommandForm}
use Rattle.judgement.specs.Judging.{◌>>=◌, done, find, well_sorted}
use Rattle.cmd_grammar.specs.Commands.{Command, assert, check_sat, check_sat_assuming, declare_const, declare_datatype, declare_datatypes, declare_fun, declare_sort, define_fun, define_fun_rec, define_funs_rec, define_sort, echo, exit, get_assertions, get_assignment, get_info, get_model, get_option, get_proof, get_unsat_assumptions, get_unsat_core, get_value, pop, push, reset, reset_assertions, set_info, set_logic, set_option}
use Rattle.cmd_grammar.specs.CommandViews.{command_from}
use Rattle.cmd_grammar.specs.Commands.{DataDec, SortDec}
use Rattle.cmd_grammar.specs.declared.command_kind.RawCommandKind.{RawCommandKind}
use Rattle.cmd_grammar.specs.declared.command_kind.RawCommandKind.TheVariants as raw_kind
use Rattle.term_store.specs.Command.{PlainCommand, plain_command}
use Rattle.term_store.specs.Command as typed
use Rattle.term_store.specs.Script.{Kept}
use Rattle.term_store.specs.declared.command.TypedCommand.{TypedCommand}
use Rattle.term_store.specs.declared.command.TypedCommand.TheVariants as kept
use Rattle.script_core.specs.declared.scope.StepError.{StepError}
use Rattle.script_core.specs.Effects.{MeetsParts}
use Rattle.script_core.specs.Environment.{Environment}
use Rattle.script_core.specs.Keeping.{KeepsEarlier, group_in, with_datatypes}
use Rattle.script_core.specs.Rules.{declares_group, judge_parts, unchanging}
use Rattle.script_core.proofs.KeptNumbers.{same_earlier}

abbrev declares_datatype : PlainCommand → Bool
declares_datatype (typed.declare_datatype t) = true
declares_datatype (typed.declare_datatypes ts) = true
declares_datatype command = false

no_group_in : (c : TypedCommand) → declares_datatype (plain_command c) ≡ false → group_in c ≡ []
no_group_in (kept.DeclareDatatype t) e = absurd (false≢true (sym e))
no_group_in (kept.DeclareDatatypes ts) e = absurd (false≢true (sym e))
no_group_in c e = refl

same_kind : (c d : PlainCommand) (new made : Environment) → ◌≡◌ {A = PlainCommand × Environment} (c, new) (d, made) → declares_datatype d ≡ false → declares_datatype c ≡ false
same_kind c d new made e h = ap (λ (p : PlainCommand × Environment). declares_datatype p.0) e ∙ h

unchanging_plain : (raw : Command) (c d : PlainCommand) → Some c ≡ Some d → declares_datatype c ≡ false → declares_datatype d ≡ false
unchanging_plain raw c d e h = let same : c ≡ d = cc in ap declares_datatype (sym same) ∙ h

found_plain : (raw : Command) (d : PlainCommand) → unchanging raw ≡ Some d → declares_datatype d ≡ false
found_plain check_sat d e = unchanging_plain check_sat _ d e refl
found_plain (echo t) d e = unchanging_plain (echo t) _ d e refl
found_plain exit d e = unchanging_plain exit _ d e refl
found_plain get_assertions d e = unchanging_plain get_assertions _ d e refl
found_plain get_assignment d e = unchanging_plain get_assignment _ d e refl
found_plain (get_info k) d e = unchanging_plain (get_info k) _ d e refl
found_plain get_model d e = unchanging_plain get_model _ d e refl
found_plain (get_option k) d e = unchanging_plain (get_option k) _ d e refl
found_plain get_proof d e = unchanging_plain get_proof _ d e refl
found_plain get_unsat_assumptions d e = unchanging_plain get_unsat_assumptions _ d e refl
found_plain get_unsat_core d e = unchanging_plain get_unsat_core _ d e refl
found_plain (set_info a) d e = unchanging_plain (set_info a) _ d e refl
found_plain raw d e = cc

others_plain : (env : Environment) (at : ℕ) (raw : Command) (c : PlainCommand) (new : Environment) (before after : List ℕ)
    → ◌>>=◌ {B = PlainCommand × Environment} (find (λ d. unchanging raw ≡ Some d) WrongCommandForm at) (λ d. done (d, env)) before (well_sorted (c, new) after) → declares_datatype c ≡ false
others_plain env at raw c new before after (d, between, found, (e, f)) = same_kind c d new env e (found_plain raw d found.0)

-- the typed command declares no datatype
parts_plain : (env : Environment) (at : ℕ) (raw : Command) (c : PlainCommand) (new : Environment) (before after : List ℕ) → declares_group raw ≡ false → judge_parts env at raw before (well_sorted (c, new) after) → declares_datatype c ≡ false
parts_plain env at (assert t) c new before after p (u, between, h, (e, f)) = same_kind c _ new _ e refl
parts_plain env at (check_sat_assuming ls) c new before after p (us, between, h, (e, f)) = same_kind c _ new _ e refl
parts_plain env at (declare_const n s) c new before after p (w, start, k, (result, later, h, (e, f))) = same_kind c _ new _ e refl
parts_plain env at (declare_datatype n d) c new before after p h = absurd (false≢true (sym p))
parts_plain env at (declare_datatypes ss ds) c new before after p h = absurd (false≢true (sym p))
parts_plain env at (declare_fun n ss s) c new before after p (w, start, k, (args, between, given, (result, later, h, (e, f)))) = same_kind c _ new _ e refl
parts_plain env at (declare_sort n a) c new before after p (w, start, k, (v, later, h, (e, f))) = same_kind c _ new _ e refl
parts_plain env at (define_sort n ps s) c new before after p (w, start, k, (v, between, apart, (body, later, h, (e, f)))) = same_kind c _ new _ e refl
parts_plain env at (define_fun raw) c new before after p (h, start, j, (w, named, declared, (u, later, k, (e, f)))) = same_kind c _ new _ e refl
parts_plain env at (define_fun_rec raw) c new before after p (h, start, j, (w, named, declared, (u, later, k, (e, f)))) = same_kind c _ new _ e refl
parts_plain env at (define_funs_rec fs ts) c new before after p (hs, start, headed, (w, named, declared, (ds, later, j, (e, f)))) = same_kind c _ new _ e refl
parts_plain env at (get_value ts) c new before after p (us, between, h, (e, f)) = same_kind c _ new _ e refl
parts_plain env at (set_logic n) c new before after p (e, f) = same_kind c _ new _ e refl
parts_plain env at (set_option a) c new before after p (e, f) = same_kind c _ new _ e refl
parts_plain env at (push n) c new before after p (e, f) = same_kind c _ new _ e refl
parts_plain env at (pop n) c new before after p (e, f) = same_kind c _ new _ e refl
parts_plain env at reset c new before after p (e, f) = same_kind c _ new _ e refl
parts_plain env at reset_assertions c new before after p (e, f) = same_kind c _ new _ e refl
parts_plain env at raw c new before after p h = others_plain env at raw c new before after h

-- with no datatype more
pub with_none : (script : Kept) → with_datatypes script [] ≡ script
with_none script = ap (λ ds. record { commands = script.commands; defs = record { defs = script.defs.defs; datatypes = ds } }) (append-nil script.defs.datatypes)

-- so the script has no datatype more
pub plain_script : (env new : Environment) (at : ℕ) (raw : Command) (r : Result TypedCommand StepError) (after : List ℕ) (old script : Kept) → declares_group raw ≡ false → MeetsParts env at raw r new after → script ≡ old
    → IfOk r (λ c. script ≡ with_datatypes old (group_in c))
plain_script env new at raw (Ok c) after old script p parts same =
    same ∙ (sym (with_none old) ∙ ap (with_datatypes old) (sym (no_group_in c (parts_plain env at raw (plain_command c) new [] after p parts))))
plain_script env new at raw (Err e) after old script p parts same = tt

pub plain_earlier : (r : Result TypedCommand StepError) (n : ℕ) (old script : Kept) → script ≡ old → OnErr r (KeepsEarlier n old script)
plain_earlier (Ok c) n old script same = tt
plain_earlier (Err e) n old script same = same_earlier old script n same

-- a command by its view
pub plain_view : (k : RawCommandKind) → ((n : Tok) (d : DataDec) → k ≡ raw_kind.DeclareDatatype n d → ⊥) → ((ss : List SortDec) (ds : List DataDec) → k ≡ raw_kind.DeclareDatatypes ss ds → ⊥) → declares_group (command_from k) ≡ false
plain_view (raw_kind.DeclareDatatype n d) single group = absurd (single n d refl)
plain_view (raw_kind.DeclareDatatypes ss ds) single group = absurd (group ss ds refl)
plain_view k single group = refl

-- what holds in any case holds after an error
pub after_error : {A E : Type 0} (r : Result A E) (P : Type 0) → P → OnErr r P
after_error (Ok x) P h = tt
after_error (Err e) P h = h
