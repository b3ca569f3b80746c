-- The script of a checker is sound after each list.
use Rattle.std.proofs.Common.{◌≡◌, ℕ, ◌-◌, ◌<◌, ◌^◌, List, [], ◌∷◌, length, Option, Some, None, Result, Ok, Err, sym, subst, arith, refl}
use Rattle.std.specs.Prelude.{IfOk, IfSome, OnErr}
use Rattle.lex_core.specs.NameTable.{IsNameTable}
use Rattle.lex_core.specs.Token.{Token, token_of}
use Rattle.lex_core.specs.declared.token.Tok.{Tok}
use Rattle.sexp_core.specs.Sexp.{Sexp}
use Rattle.datatype_commands.specs.KnownDatatypes.{KnowsDatatypes}
use Rattle.term_store.specs.Script.{Kept, empty_script}
use Rattle.term_store.specs.SoundScript.{IsSound}
use Rattle.script_core.specs.declared.checker.Checker.{Checker}
use Rattle.script_core.specs.declared.refusal.Progress.{Progress}
use Rattle.script_core.specs.declared.refusal.Stop.{Stop}
use Rattle.script_core.specs.Checking.{Awaits, Follows, TakesTree, accepted_by, environment_of}
use Rattle.script_core.specs.Keeping.{KeepsBelow, KeepsEarlier}
use Rattle.script_core.specs.Environment.{signature_in, start}
use Rattle.script_core.specs.Steps.{all_taken}
use Rattle.script_core.proofs.FollowingTokens.{list_runs}
use Rattle.script_core.proofs.SoundRuns.{earlier_sound, known_datatypes, run_below, script_sound}
use Rattle.script_core.proofs.TakingTokens.{IsTaken, some_of}

pub empty_sound : (script : Kept) → script ≡ empty_script → IsSound script
empty_sound script e = subst IsSound (sym e) (script_sound empty_script [] (record { commands = []; env = start; cause = all_taken }) refl refl (record { defs = refl; datatypes = refl }) (omega arith))

pub list_sound : (tokens : List Token) (c n : Checker) (tok : Tok) (o : Option (Sexp Tok)) (t : Sexp Tok) (r : Result Progress Stop) → Awaits tokens (token_of c.scope.world.names tok ∷ []) c → IsNameTable c.scope.world.names
    → tok.name < length c.scope.world.names → o ≡ Some t → (c.builder.1 ≡ None → IfSome o (IsTaken c tok)) → IsSound c.scope.world.script → length (accepted_by n) < 2 ^ 32 - 1
    → IfOk r (λ goes. TakesTree c.scope t goes n.scope) → OnErr r (KeepsEarlier c.scope.next c.scope.world.script n.scope.world.script) → IsSound n.scope.world.script
list_sound tokens c n tok o t (Ok goes) w table named e tree sound few takes same =
    let taken = some_of (IsTaken c tok) o t e (tree w.follows.no_error) in
    let runs = list_runs tokens c n tok t goes w table named taken.1 takes in
    script_sound n.scope.world.script runs.0 runs.1 runs.2 runs.3 (takes.keeps w.follows.keeps) few
list_sound tokens c n tok o t (Err stop) w table named e tree sound few takes earlier = earlier_sound c.scope.world.script n.scope.world.script w.follows.lists _ w.follows.runs refl earlier sound

-- all that the checker keeps has a number below the next one
pub follows_below : (known : List (List ℕ)) (tokens : List Token) (c : Checker) → Follows known tokens c → KeepsBelow c.scope.next c.scope.world.script.defs
follows_below known tokens c f = run_below c.scope.world.script f.lists _ f.runs refl f.keeps

-- the datatypes that the checker has declared are known, whatever the table of names
pub known_under : (known : List (List ℕ)) (tokens : List Token) (c : Checker) → Follows known tokens c → (names : List (List ℕ)) → KnowsDatatypes (signature_in (environment_of names c.scope))
known_under known tokens c f names =
    let knows = known_datatypes c.scope.world.script f.lists _ f.runs refl f.keeps refl in
    record { script = knows.script; sorts = knows.sorts; fields = knows.fields; kept = knows.kept; below = knows.below }
