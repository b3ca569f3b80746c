use Rattle.typer.specs.Declarations.{declarations_of}
use Rattle.datatype_commands.specs.Answers.{HasReadyParts}
use Rattle.datatype_commands.proofs.LiveParts.{datatype_live, datatypes_stay, first_one, later_ones, symbols_more}
use Rattle.datatype_commands.proofs.live.declare_parts.Goals as goal

pub declare_datatype-requires-clause-schema : goal.declare_datatype-requires-clause-schema
declare_datatype-requires-clause-schema c = let l = c.loop-datatype in first_one (HasReadyParts l.world) l.left.now c.in-Some.others.now c.in-Some.datatype.now c.in-Some.ensures.cases.0 l.invariant.schema

pub loop-datatype-preserved : goal.loop-datatype-preserved
loop-datatype-preserved c = let a = c.args in let l = c.loop-datatype in let e = c.in_ok-declare_datatype.ensures in let new = c.declare_datatype.new.world in record {
  effect = datatype_live (declarations_of l.world.scopes) l.left.now c.in-Some.others.now c.in-Some.datatype.now _ _ c.in-Some.ensures.cases.0 e.effect l.invariant.effect;
  schema = datatypes_stay l.world new c.in-Some.others.now e.others (later_ones (HasReadyParts l.world) l.left.now c.in-Some.others.now c.in-Some.datatype.now c.in-Some.ensures.cases.0 l.invariant.schema);
  others = symbols_more a.world.now l.world new l.invariant.others e.others;
  ready = e.ready;
}
