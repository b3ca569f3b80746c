use Rattle.std.proofs.Common.{length}
use Rattle.term_store.specs.Command.{plain_datatype}
use Rattle.typer.specs.Declarations.{declarations_of}
use Rattle.datatype_commands.specs.Answers.{IsReadyPart}
use Rattle.datatype_commands.proofs.LiveParts.{later_ones, own_stays, parts_stay, selector_live}
use Rattle.datatype_commands.proofs.TakingSymbols.{scopes_more}
use Rattle.datatype_commands.proofs.live.declare_selectors.Goals as goal

pub loop-field-preserved : goal.loop-field-preserved
loop-field-preserved c = let a = c.args in let l = c.loop-field in let e = c.in_ok-declare_selector.ensures in let n = length a.datatype.now.params in let new = c.declare_selector.new.world in record {
  effect = selector_live (declarations_of l.world.scopes) (plain_datatype a.datatype.now) l.left.now c.in-Some.others.now c.in-Some.field.now _ _ c.in-Some.ensures.cases.0 e.effect l.invariant.effect;
  own = own_stays l.world new a.datatype.now a.own.now e.others l.invariant.own;
  schema = parts_stay l.world new n c.in-Some.others.now e.others (later_ones (IsReadyPart l.world n) l.left.now c.in-Some.others.now c.in-Some.field.now c.in-Some.ensures.cases.0 l.invariant.schema);
  others = scopes_more a.world.now l.world new l.invariant.others e.others;
  ready = e.ready;
}
