use Rattle.std.proofs.Common.{◌≡◌, length, map}
use Rattle.std.specs.List.{All}
use Rattle.term_store.specs.Command.{plain_def}
use Rattle.script_core.specs.Checking.{IsReadyScope, environment_of}
use Rattle.script_core.specs.Effects.{IsReadyHeader, IsSameTo, first_of, plain_header, seen_by}
use Rattle.script_core.specs.RuleAnswers.{terms_left}
use Rattle.script_core.proofs.TakingGroups.{members}
use Rattle.script_core.proofs.TakingLists.{Onward}
use Rattle.script_core.proofs.definitions.members_of.Given as goal

-- what the members that are left have as outcome, all have it with the definitions so far before it
abbrev pub invariant-loop-header : goal.invariant-loop-header
invariant-loop-header l = record {
  onward : Onward (members (first_of l.fn.scope) (environment_of l.fn.scope.world.names l.fn.scope) l.at) tt (map plain_header l.headers, l.bodies) tt (map plain_header l.left, terms_left l.next) (map plain_def l.defs)
      (seen_by l.fn.scope) (seen_by l.scope);
  first : first_of l.scope ≡ first_of l.fn.scope;
  ready : All (IsReadyHeader l.scope) l.left;
  same : IsSameTo l.fn.scope l.scope;
  script : l.scope.world.script ≡ l.fn.scope.world.script;
  stands : IsReadyScope l.scope;
}

abbrev pub decreases-loop-header : goal.decreases-loop-header
decreases-loop-header l = length l.left
