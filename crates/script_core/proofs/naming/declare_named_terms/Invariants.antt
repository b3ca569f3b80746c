use Rattle.std.proofs.Common.{◌≡◌, map, take}
use Rattle.term_store.specs.Command.{plain_def}
use Rattle.script_core.specs.Checking.{IsReadyScope, environment_of}
use Rattle.script_core.specs.Effects.{seen_by}
use Rattle.script_core.specs.Rules.{with_names_given}
use Rattle.script_core.proofs.naming.declare_named_terms.Given as goal

-- the named terms so far are live
abbrev pub invariant-loop-def : goal.invariant-loop-def
invariant-loop-def l = record {
  effect : environment_of l.fn.scope.world.names l.scope ≡ with_names_given (environment_of l.fn.scope.world.names l.fn.scope) (map plain_def (take l.def-index l.named));
  names : l.scope.world.names ≡ l.fn.scope.world.names;
  script : l.scope.world.script ≡ l.fn.scope.world.script;
  seen : seen_by l.scope ≡ seen_by l.fn.scope;
  logic : l.scope.logic ≡ l.fn.scope.logic;
  stands : IsReadyScope l.scope;
}
