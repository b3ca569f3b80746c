-- A logic is set where a command names terms.
use Rattle.std.proofs.Common.{◌≡◌, ℕ, List, [], ◌∷◌, Some, refl, ap, sym, ◌∙◌, subst}
use Rattle.std.specs.Option.{IsSome}
use Rattle.judgement.specs.Judging.{◌>>=◌, done, find, well_sorted}
use Rattle.sig_table.specs.declared.code.Code.TheVariants.{WrongCommandForm}
use Rattle.cmd_grammar.specs.Commands.{Command, assert, check_sat_assuming, declare_const, declare_datatype, declare_datatypes, declare_fun, declare_sort, define_fun, define_fun_rec, define_funs_rec, define_sort, get_value, pop, push, reset, reset_assertions, set_logic, set_option}
use Rattle.term_store.specs.Command.{PlainCommand}
use Rattle.script_core.specs.Environment.{Environment}
use Rattle.script_core.specs.Rules.{Header, judge_mode, judge_parts, named_by, unchanging, with_header, with_headers}
use Rattle.script_core.proofs.StepNumbers.{unchanging_quiet}

-- the environment that a command leads to has the logic of before
same_logic : (env new made : Environment) (c d : PlainCommand) → ◌≡◌ {A = PlainCommand × Environment} (c, new) (d, made) → IsSome made.logic → IsSome new.logic
same_logic env new made c d e h = subst (λ (x : Environment). IsSome x.logic) (sym (ap (λ (p : PlainCommand × Environment). p.1) e)) h

-- .. or the command names no term
no_name : (env new made : Environment) (c d : PlainCommand) → ◌≡◌ {A = PlainCommand × Environment} (c, new) (d, made) → named_by d ≡ [] → (named_by c ≡ [] → ⊥) → IsSome new.logic
no_name env new made c d e none some = absurd (some (ap (λ (p : PlainCommand × Environment). named_by p.0) e ∙ none))

headers_logic : (env : Environment) (hs : List Header) → IsSome env.logic → IsSome (with_headers env hs).logic
headers_logic env [] h = h
headers_logic env (x ∷ hs) h = headers_logic (with_header env x) hs h

found_logic : (env : Environment) (raw : Command) (at : ℕ) (c : PlainCommand) (new : Environment) (before after : List ℕ)
    → ◌>>=◌ {B = PlainCommand × Environment} (find (λ d. unchanging raw ≡ Some d) WrongCommandForm at) (λ d. done (d, env)) before (well_sorted (c, new) after) → (named_by c ≡ [] → ⊥) → IsSome new.logic
found_logic env raw at c new before after (d, between, found, (e, f)) some = no_name env new _ c _ e (unchanging_quiet raw d found.0).2 some

pub logic_of_parts : (env : Environment) (at : ℕ) (raw : Command) (c : PlainCommand) (new : Environment) (first second before after : List ℕ) → judge_mode env at raw first (well_sorted tt second)
    → judge_parts env at raw before (well_sorted (c, new) after) → (named_by c ≡ [] → ⊥) → IsSome new.logic
logic_of_parts env at (assert t) c new first second before after mode (u, between, h, (e, f)) some = same_logic env new _ c _ e mode.0
logic_of_parts env at (check_sat_assuming ls) c new first second before after mode (us, between, h, (e, f)) some = same_logic env new _ c _ e mode.0
logic_of_parts env at (declare_const n s) c new first second before after mode (w, start, k, (result, later, h, (e, f))) some = no_name env new _ c _ e refl some
logic_of_parts env at (declare_fun n ss s) c new first second before after mode (w, start, k, (args, between, given, (result, later, h, (e, f)))) some = no_name env new _ c _ e refl some
logic_of_parts env at (declare_datatype n d) c new first second before after mode (t, start, j, (e, f)) some = no_name env new _ c _ e refl some
logic_of_parts env at (declare_datatypes ss ds) c new first second before after mode (group, start, j, (e, f)) some = no_name env new _ c _ e refl some
logic_of_parts env at (declare_sort n a) c new first second before after mode (w, start, k, (v, later, h, (e, f))) some = no_name env new _ c _ e refl some
logic_of_parts env at (define_sort n ps s) c new first second before after mode (w, start, k, (v, between, apart, (body, later, h, (e, f)))) some = no_name env new _ c _ e refl some
logic_of_parts env at (define_fun raw) c new first second before after mode (h, start, j, (w, named, declared, (u, later, k, (e, f)))) some = same_logic env new _ c _ e mode.0
logic_of_parts env at (define_fun_rec raw) c new first second before after mode (h, start, j, (w, named, declared, (u, later, k, (e, f)))) some = same_logic env new _ c _ e mode.0
logic_of_parts env at (define_funs_rec fs ts) c new first second before after mode (hs, start, headed, (w, named, declared, (ds, later, j, (e, f)))) some = same_logic env new _ c _ e (headers_logic env hs mode.0)
logic_of_parts env at (get_value ts) c new first second before after mode (us, between, h, (e, f)) some = same_logic env new _ c _ e mode.0
logic_of_parts env at (set_logic n) c new first second before after mode (e, f) some = no_name env new _ c _ e refl some
logic_of_parts env at (set_option a) c new first second before after mode (e, f) some = no_name env new _ c _ e refl some
logic_of_parts env at (push n) c new first second before after mode (e, f) some = no_name env new _ c _ e refl some
logic_of_parts env at (pop n) c new first second before after mode (e, f) some = no_name env new _ c _ e refl some
logic_of_parts env at reset c new first second before after mode (e, f) some = no_name env new _ c _ e refl some
logic_of_parts env at reset_assertions c new first second before after mode (e, f) some = no_name env new _ c _ e refl some
logic_of_parts env at raw c new first second before after mode h some = found_logic env raw at c new before after h some
