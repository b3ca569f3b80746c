use Rattle.std.proofs.Common.{[], sym}
use Rattle.cmd_grammar.specs.Commands.{plain_data}
use Rattle.cmd_grammar.specs.DeclarationReads.{read_data_dec}
use Rattle.cmd_grammar.proofs.ReadAll.{seen_at_end}
use Rattle.cmd_grammar.proofs.datatype_dec.read_data_decs.Goals as goal

pub invariant_of-result : goal.invariant_of-result
invariant_of-result c = (seen_at_end read_data_dec (plain_data 0 []) c.args.trees c.loop-next.next c.loop-next.invariant c.in_default.is).0

pub returns : goal.returns
returns c = sym (seen_at_end read_data_dec (plain_data 0 []) c.args.trees c.loop-next.next c.loop-next.invariant c.in_default.is).1
