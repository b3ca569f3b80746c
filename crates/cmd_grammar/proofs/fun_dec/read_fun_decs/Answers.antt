use Rattle.std.proofs.Common.{[], sym}
use Rattle.term_grammar.specs.Reads.{no_token}
use Rattle.term_grammar.specs.Syntax.{named_sort, symbol}
use Rattle.cmd_grammar.specs.DeclarationReads.{fun_dec, read_fun_dec}
use Rattle.cmd_grammar.proofs.ReadAll.{seen_at_end}
use Rattle.cmd_grammar.proofs.fun_dec.read_fun_decs.Goals as goal

pub invariant_of-result : goal.invariant_of-result
invariant_of-result c = (seen_at_end read_fun_dec (fun_dec 0 no_token [] (named_sort (symbol no_token))) c.args.trees c.loop-next.next c.loop-next.invariant c.in_default.is).0

pub returns : goal.returns
returns c = sym (seen_at_end read_fun_dec (fun_dec 0 no_token [] (named_sort (symbol no_token))) c.args.trees c.loop-next.next c.loop-next.invariant c.in_default.is).1
