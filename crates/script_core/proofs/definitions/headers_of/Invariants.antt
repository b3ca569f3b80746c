use Rattle.std.proofs.Common.{◌≡◌, [], length, map}
use Rattle.std.specs.Option.{IsSome}
use Rattle.std.specs.List.{All}
use Rattle.script_core.specs.Checking.{IsReadyScope, environment_of}
use Rattle.script_core.specs.Effects.{AreNamed, DeclaresNoName, IsReadyHeader, plain_header}
use Rattle.script_core.specs.RuleAnswers.{fun_decs_left}
use Rattle.script_core.specs.Rules.{judge_headers, with_headers}
use Rattle.script_core.proofs.TakingLists.{Onward}
use Rattle.script_core.proofs.definitions.headers_of.Given as goal

-- what the declarations that are left have as outcome after those so far, all have it, and the functions so far are live
abbrev pub invariant-loop-next : goal.invariant-loop-next
invariant-loop-next l = let start = environment_of l.fn.scope.world.names l.fn.scope in record {
  onward : Onward judge_headers start l.declarations (with_headers start (map plain_header l.headers)) (fun_decs_left l.next) (map plain_header l.headers) [] [];
  reached : environment_of l.fn.scope.world.names l.scope ≡ with_headers start (map plain_header l.headers);
  ready : All (IsReadyHeader l.scope) l.headers;
  named : AreNamed l.fn.scope.world.names (fun_decs_left l.next);
  logic : IsSome l.scope.logic;
  names : l.scope.world.names ≡ l.fn.scope.world.names;
  unnamed : DeclaresNoName l.fn.scope l.scope;
  script : l.scope.world.script ≡ l.fn.scope.world.script;
  stands : IsReadyScope l.scope;
}

abbrev pub decreases-loop-next : goal.decreases-loop-next
decreases-loop-next l = length (fun_decs_left l.next)
