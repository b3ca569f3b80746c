use Rattle.std.proofs.Common.{◌+◌, ◌∙◌, arith}
use Rattle.script_core.proofs.TakingParts.{names_on}
use Rattle.script_core.proofs.naming.declare_named_terms.Goals as goal

pub loop-def-preserved : goal.loop-def-preserved
loop-def-preserved c = let l = c.loop-def in record {
  effect = names_on c.args.scope.now l.scope c.declare_named.new.scope c.args.named.now l.def-index (l.def-index + 1) c.def-item.result (omega arith) c.loop-def-test.true c.def-item.is l.invariant.names l.invariant.effect c.in_ok-declare_named.ensures.effect;
  names = c.declare_named.ensures.names ∙ l.invariant.names;
  script = c.declare_named.ensures.script ∙ l.invariant.script;
  seen = c.declare_named.ensures.seen ∙ l.invariant.seen;
  logic = c.declare_named.ensures.logic ∙ l.invariant.logic;
  stands = c.declare_named.ensures.stands;
}
