use Rattle.std.proofs.Common.{Some, ap, ◌∙◌}
use Rattle.cmd_grammar.proofs.Fields.{field_at}
use Rattle.cmd_grammar.proofs.datatype_dec.RawSelectors.get.Goals as goal

pub returns-in_default : goal.returns-in_default
returns-in_default c = field_at c.self.inside.fields c.args.self.now c.args.i _ _ c.self.view_is c.get.ensures c.in_default.is

pub returns : goal.returns
returns c = ap Some c.selector.ensures ∙ field_at c.self.inside.fields c.args.self.now c.args.i _ _ c.self.view_is c.get.ensures c.in-Some.is
