use Rattle.std.proofs.Common.{◌≡◌, ◌++◌, map, take}
use Rattle.script_core.specs.Checking.{IsReadyScope}
use Rattle.script_core.specs.Effects.{IsSameTo, first_of, seen_by}
use Rattle.script_core.specs.declared.definitions.FunHeader.{FunHeader}
use Rattle.script_core.proofs.definitions.declare_names.Given as goal

-- the names of the headers so far are declared
abbrev pub invariant-loop-header : goal.invariant-loop-header
invariant-loop-header l = record {
  seen : seen_by l.scope ≡ seen_by l.fn.scope ++ map (λ (h : FunHeader). h.name) (take l.header-index l.headers);
  first : first_of l.scope ≡ first_of l.fn.scope;
  same : IsSameTo l.fn.scope l.scope;
  names : l.scope.world.names ≡ l.fn.scope.world.names;
  sorts : l.scope.world.sorts ≡ l.fn.scope.world.sorts;
  script : l.scope.world.script ≡ l.fn.scope.world.script;
  stands : IsReadyScope l.scope;
}
