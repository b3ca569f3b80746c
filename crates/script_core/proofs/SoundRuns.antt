-- The commands of every text are sound, those before a refusal too.
use Rattle.std.proofs.Common.{◌≡◌, ℕ, ◌-◌, ◌<◌, ◌^◌, Bool, List, [], ◌∷◌, ◌++◌, length, map, refl, ap, sym, ◌∙◌, subst, inl, inr, arith}
use Rattle.std.specs.List.{All, Contains}
use Rattle.std.proofs.lemmas.List.{length-map}
use Rattle.std.proofs.lemmas.List.Elements.{All-weaker, Contains-append_left, Contains-append_right}
use Rattle.lex_core.proofs.NameNumbers.{table_kept}
use Rattle.lex_core.specs.NameTable.{IsNameTable, with_text}
use Rattle.lex_core.specs.Token.{Token}
use Rattle.sexp_core.specs.Sexp.{FlatToken, Opening, Closing, Word, Sexp, flat}
use Rattle.judgement.specs.Judging.{well_sorted}
use Rattle.term_grammar.specs.Reads.{byte_of}
use Rattle.term_store.specs.Command.{PlainCommand, PlainDatatype, plain_command, plain_datatype, plain_def}
use Rattle.term_store.specs.Declarations.{Declaration, declared_by, declared_in, number_given}
use Rattle.term_store.specs.declared.command.TypedCommand.{TypedCommand}
use Rattle.term_store.specs.Script.{Kept, commands_of}
use Rattle.term_store.specs.SoundScript.{AreSoundCommands, IsSound, IsSoundCommand, IsSoundDatatype, IsSoundDeclaration, KeepsDeclared, KeepsLevels}
use Rattle.datatype_commands.specs.KnownDatatypes.{KnowsDatatypes}
use Rattle.dt_rules.specs.Groups.{numbered}
use Rattle.typer.proofs.LiveDeclarations.{Each, all_of_each, each_of_all}
use Rattle.typer.specs.Declarations.{depth}
use Rattle.typer.specs.FunctionSymbols.{datatypes_of}
use Rattle.typer.specs.Soundness.{IsSoundInstance}
use Rattle.script_core.specs.declared.refusal.Refusal.{Refusal}
use Rattle.script_core.specs.Acceptance.{Refuses, Sofar}
use Rattle.script_core.specs.Environment.{Environment, signature_in, start}
use Rattle.script_core.specs.Keeping.{KeepsBelow, KeepsDefined, KeepsEarlier, datatypes_in, defined_in}
use Rattle.script_core.specs.Numbering.{numbered_sexp, table_after}
use Rattle.script_core.specs.Rules.{judge_parts, named_by, with_defined, with_names_given}
use Rattle.script_core.specs.Steps.{Cause, ListSteps, Run, Runs, after_command, all_taken, broken, exited, stopped, with_names}
use Rattle.script_core.proofs.KeptNumbers.{datatypes_below, declared_found, each_kept, kept_below}
use Rattle.script_core.proofs.SoundNumbers.{ascend_below, ascend_from, distinct_numbers}
use Rattle.script_core.proofs.SoundNamed.{IsSoundEnv, names_depth, names_live, names_symbols}
use Rattle.script_core.proofs.SoundSteps.{Declares, IsSoundStep, parts_step}
use Rattle.script_core.proofs.StepNumbers.{AreNumberedFrom, declared_split, own_by, parts_begin, parts_numbered, run_numbered}

-- the table stays one after more tokens
table_stays : (tokens : List (FlatToken Token)) (texts : List (List ℕ)) → IsNameTable texts → IsNameTable (table_after texts tokens)
table_stays [] texts h = h
table_stays (Opening at ∷ tokens) texts h = table_stays tokens texts h
table_stays (Closing ∷ tokens) texts h = table_stays tokens texts h
table_stays (Word token ∷ tokens) texts h = table_stays tokens (with_text texts token.name) (table_kept texts token.name h)

each_append : {X : Type 0} (P : X → Type 0) (xs ys : List X) → Each P xs → Each P ys → Each P (xs ++ ys)
each_append P [] ys h k = k
each_append P (x ∷ xs) ys h k = (h.0, each_append P xs ys h.1 k)

-- what an accepted command says of itself and of what it leads to
record IsSoundList (script : List Declaration) (env : Environment) (c : PlainCommand) (after : Environment) : Type 0 where
  leads : IsSoundEnv script after
  levels : (cs : List PlainCommand) → KeepsLevels (depth after.declarations) cs → KeepsLevels (depth env.declarations) (c ∷ cs)
  declarations : Each (IsSoundDeclaration script) (declared_by c)
  command : IsSoundCommand script c

-- the named terms are live
with_names_live : (script : List Declaration) (env : Environment) (c : PlainCommand) (made : Environment) → IsSoundStep script env c made → AreNumberedFrom made.next (named_by c) → Declares script c
    → IsSoundList script env c (with_names_given made (defined_in (named_by c)))
with_names_live script env c made s numbered declares = record {
  leads = names_live script made.next (named_by c) made numbered s.names (λ d h. declares d (subst (λ (ds : List Declaration). Contains ds d) (sym (declared_split c)) (Contains-append_right (own_by c) (named_by c) d h))) s.leads;
  levels = λ cs h. s.levels cs (subst (λ (n : ℕ). KeepsLevels n cs) (names_depth made (defined_in (named_by c))) h);
  declarations = subst (Each (IsSoundDeclaration script)) (sym (declared_split c)) (each_append (IsSoundDeclaration script) (own_by c) (named_by c) s.declarations (names_symbols script made.next (named_by c) numbered s.names));
  command = s.command;
}

list_step : (script : List Declaration) (env : Environment) (t : Sexp Token) (c : PlainCommand) (new : Environment) → IsSoundEnv script env → ListSteps env t c new → Declares script c → IsSoundList script env c new
list_step script env t c new sound (declared, (raw, between, reads, (made, later, (v, second, mode, (own, third, parts, (w, fourth, fragment, (g, i)))), (e, f)))) declares =
    let named : IsSoundEnv script (with_names env t) = record {
      signature = record { table = table_stays (flat t) env.names sound.signature.table; sorts = sound.signature.sorts; funs = sound.signature.funs; datatypes = sound.signature.datatypes };
      below = sound.below;
    } in
    let begins = parts_begin (with_names env t) _ raw _ between second reads mode in
    let numbered = (parts_numbered (with_names env t) _ raw own.0 own.1 third (subst (λ (ns : List ℕ). judge_parts (with_names env t) (byte_of (numbered_sexp (with_names env t).names t)) raw ns (well_sorted own third)) begins parts)).named in
    let same : c ≡ own.0 = ap (λ (p : PlainCommand × Environment). p.0) e ∙ ap (λ (p : PlainCommand × Environment). p.0) g in
    let known = subst (Declares script) same declares in
    let s = with_names_live script (with_names env t) own.0 own.1 (parts_step script (with_names env t) named _ raw own.0 own.1 between second second third mode parts known) numbered known in
    subst (λ (p : PlainCommand × Environment). IsSoundList script env p.0 p.1) (sym e)
    (subst (λ (p : PlainCommand × Environment). IsSoundList script env p.0 (with_defined (with_names env t) p.0 p.1)) (sym g)
    (record { leads = record { signature = s.leads.signature; below = s.leads.below }; levels = s.levels; declarations = s.declarations; command = s.command }))

-- The commands of a run are sound, and it leads to a sound signature, where the script declares all that they declare.
pub record IsSoundRun (script : List Declaration) (env : Environment) (run : Run) : Type 0 where
  pub levels : KeepsLevels (depth env.declarations) run.commands
  pub declarations : Each (IsSoundDeclaration script) (declared_in run.commands)
  pub each : Each (IsSoundCommand script) run.commands
  pub leads : IsSoundEnv script run.env

-- the script declares what the commands declare
abbrev pub DeclaresAll : List Declaration → List PlainCommand → Type 0
DeclaresAll script commands = (d : Declaration) → Contains (declared_in commands) d → Contains script d

no_commands : (script : List Declaration) (env : Environment) (cause : Cause) → IsSoundEnv script env → IsSoundRun script env (stopped env cause)
no_commands script env cause sound = record { levels = tt; declarations = tt; each = tt; leads = sound }

one_command : (script : List Declaration) (env after : Environment) (c : PlainCommand) (rest : Run) → IsSoundList script env c after → IsSoundRun script after rest → IsSoundRun script env (after_command c rest)
one_command script env after c rest s others = record {
  levels = s.levels rest.commands others.levels;
  declarations = each_append (IsSoundDeclaration script) (declared_by c) (declared_in rest.commands) s.declarations others.declarations;
  each = (s.command, others.each);
  leads = others.leads;
}

first_declared : (script : List Declaration) (c : PlainCommand) (commands : List PlainCommand) → DeclaresAll script (c ∷ commands) → Declares script c
first_declared script c commands all d h = all d (Contains-append_left (declared_by c) (declared_in commands) d h)

others_declared : (script : List Declaration) (c : PlainCommand) (commands : List PlainCommand) → DeclaresAll script (c ∷ commands) → DeclaresAll script commands
others_declared script c commands all d h = all d (Contains-append_right (declared_by c) (declared_in commands) d h)

run_sound : (script : List Declaration) (ts : List (Sexp Token)) (env : Environment) (run : Run) → Runs env ts run → IsSoundEnv script env → DeclaresAll script run.commands → IsSoundRun script env run
run_sound script [] env run e sound all = subst (IsSoundRun script env) (sym e) (no_commands script env all_taken sound)
run_sound script (t ∷ ts) env run (inl (place, fault, e)) sound all = subst (IsSoundRun script env) (sym e) (no_commands script env (broken place) sound)
run_sound script (t ∷ ts) env run (inr (inl (c, after, steps, exits, e))) sound all =
    let known = subst (λ (r : Run). DeclaresAll script r.commands) e all in
    let s = list_step script env t c after sound steps (first_declared script c [] known) in
    subst (IsSoundRun script env) (sym e) (one_command script env after c (stopped after exited) s (no_commands script after exited s.leads))
run_sound script (t ∷ ts) env run (inr (inr (c, after, steps, goes, rest, runs, e))) sound all =
    let known = subst (λ (r : Run). DeclaresAll script r.commands) e all in
    let s = list_step script env t c after sound steps (first_declared script c rest.commands known) in
    subst (IsSoundRun script env) (sym e) (one_command script env after c rest s (run_sound script ts after rest runs s.leads (others_declared script c rest.commands known)))

start_sound : (script : List Declaration) → IsSoundEnv script start
start_sound script = record { signature = record { table = record { fixed = refl; distinct = refl }; sorts = all_of_each _ [] tt; funs = all_of_each _ [] tt; datatypes = all_of_each _ [] tt }; below = all_of_each _ [] tt }

from_start : (ts : List (Sexp Token)) (run : Run) → Runs start ts run → IsSoundRun (declared_in run.commands) start run
from_start ts run runs = run_sound (declared_in run.commands) ts start run runs (start_sound (declared_in run.commands)) (λ d h. h)

pub commands_sound : (ts : List (Sexp Token)) (run : Run) → Runs start ts run → AreSoundCommands run.commands
commands_sound ts run runs =
    let script = declared_in run.commands in
    let r = from_start ts run runs in record {
      levels = r.levels;
      numbers = distinct_numbers 0 _ (ascend_from 0 _ run.env.next (run_numbered ts start run runs));
      declarations = all_of_each (IsSoundDeclaration script) script r.declarations;
      each = all_of_each (IsSoundCommand script) run.commands r.each;
    }

pub sofar_sound : (bytes : List ℕ) (ended : Bool) (cs : List PlainCommand) → Sofar bytes ended cs → AreSoundCommands cs
sofar_sound bytes ended cs x = subst AreSoundCommands (sym x.accepted) (commands_sound x.judged.lists x.run x.judged.runs)

pub refuses_sound : (bytes : List ℕ) (ended : Bool) (cs : List PlainCommand) (r : Refusal) → Refuses bytes ended cs r → AreSoundCommands cs
refuses_sound bytes ended cs r x = subst AreSoundCommands (sym x.accepted) (commands_sound x.judged.lists x.run x.judged.runs)

-- what a script that holds the commands of a run keeps of them
defs_of : (script : Kept) (run : Run) → commands_of script ≡ run.commands → KeepsDefined script → map plain_def script.defs.defs ≡ defined_in (declared_in run.commands)
defs_of script run same keeps = keeps.defs ∙ ap (λ (cs : List PlainCommand). defined_in (declared_in cs)) same

datatypes_kept : (script : Kept) (run : Run) → commands_of script ≡ run.commands → KeepsDefined script → map plain_datatype script.defs.datatypes ≡ datatypes_in (declared_in run.commands)
datatypes_kept script run same keeps = keeps.datatypes ∙ ap (λ (cs : List PlainCommand). datatypes_in (declared_in cs)) same

-- a script that holds the commands of a run, and keeps their definitions and datatypes
pub script_sound : (script : Kept) (ts : List (Sexp Token)) (run : Run) → Runs start ts run → commands_of script ≡ run.commands → KeepsDefined script → length (commands_of script) < 2 ^ 32 - 1 → IsSound script
script_sound script ts run runs same keeps few =
    let declared = declared_in run.commands in
    let kept = each_kept script.defs declared 0 (defs_of script run same keeps) (datatypes_kept script run same keeps) (ascend_from 0 _ run.env.next (run_numbered ts start run runs)) in record {
      few = omega (arith, few, length-map script.commands plain_command);
      commands_sound = subst AreSoundCommands (sym same) (commands_sound ts run runs);
      kept = subst (λ (cs : List PlainCommand). All (KeepsDeclared script.defs) (declared_in cs)) (sym same) (all_of_each (KeepsDeclared script.defs) declared kept);
    }

-- all that is kept has a number below the next one
pub run_below : (script : Kept) (ts : List (Sexp Token)) (run : Run) → Runs start ts run → commands_of script ≡ run.commands → KeepsDefined script → KeepsBelow run.env.next script.defs
run_below script ts run runs same keeps =
    kept_below script.defs (declared_in run.commands) 0 run.env.next (defs_of script run same keeps) (datatypes_kept script run same keeps) (run_numbered ts start run runs)

-- the datatypes that the run has declared are known after it
pub known_datatypes : (script : Kept) (ts : List (Sexp Token)) (run : Run) → Runs start ts run → commands_of script ≡ run.commands → KeepsDefined script → run.env.datatypes ≡ datatypes_of script → KnowsDatatypes (signature_in run.env)
known_datatypes script ts run runs same keeps are =
    let declared = declared_in run.commands in
    let numbers = run_numbered ts start run runs in
    let signature = (from_start ts run runs).leads.signature in
    let those : run.env.datatypes ≡ datatypes_in declared = are ∙ datatypes_kept script run same keeps in record {
      script = declared;
      sorts = signature.sorts;
      fields = All-weaker (IsSoundInstance declared) (IsSoundDatatype declared) (λ t h. h.fields) run.env.datatypes signature.datatypes;
      kept = λ t c. ap (λ (us : List PlainDatatype). numbered us t.no.0) those ∙ declared_found declared 0 (ascend_from 0 _ run.env.next numbers) t c;
      below = subst (All (λ (t : PlainDatatype). t.no.0 < run.env.next)) (sym those) (all_of_each (λ (t : PlainDatatype). t.no.0 < run.env.next) (datatypes_in declared) (datatypes_below declared 0 run.env.next numbers));
    }

-- a script with the same commands, which keeps for them what it kept
pub earlier_sound : (old new : Kept) (ts : List (Sexp Token)) (run : Run) → Runs start ts run → commands_of old ≡ run.commands → KeepsEarlier run.env.next old new → IsSound old → IsSound new
earlier_sound old new ts run runs same earlier sound =
    let commands : commands_of new ≡ commands_of old = ap (map plain_command) earlier.commands in
    let declared = declared_in (commands_of old) in
    let below = subst (λ (cs : List PlainCommand). Each (λ (n : ℕ). n < run.env.next) (map number_given (declared_in cs))) (sym same) (ascend_below 0 _ run.env.next (run_numbered ts start run runs)) in record {
      few = subst (λ (cs : List TypedCommand). length cs < 2 ^ 32 - 1) (sym earlier.commands) sound.few;
      commands_sound = subst AreSoundCommands (sym commands) sound.commands_sound;
      kept = subst (λ (cs : List PlainCommand). All (KeepsDeclared new.defs) (declared_in cs)) (sym commands)
          (all_of_each (KeepsDeclared new.defs) declared (still_kept declared below (each_of_all (KeepsDeclared old.defs) declared sound.kept)));
    }
  where
    still_kept : (ds : List Declaration) → Each (λ (n : ℕ). n < run.env.next) (map number_given ds) → Each (KeepsDeclared old.defs) ds → Each (KeepsDeclared new.defs) ds
    still_kept [] low h = tt
    still_kept (d ∷ ds) low h = (earlier.kept d low.0 h.0, still_kept ds low.1 h.1)
