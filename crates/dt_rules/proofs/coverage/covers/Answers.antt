use Rattle.std.proofs.Common.{ap, map}
use Rattle.term_store.specs.Command.{plain_constructor, plain_datatype}
use Rattle.dt_rules.proofs.CoverageTests.{covered_by_variable, covered_by_patterns}
use Rattle.dt_rules.proofs.coverage.covers.Goals as goal

pub returns-then-has_variable : goal.returns-then-has_variable
returns-then-has_variable c = covered_by_variable c.args.patterns.now (plain_datatype c.args.datatype.now) c.has_variable.result c.if-has_variable.true c.if-has_variable.ensures

pub returns-else-has_variable : goal.returns-else-has_variable
returns-else-has_variable c =
    covered_by_patterns c.args.patterns.now (plain_datatype c.args.datatype.now) c.have_patterns.result c.as_slice.result.now c.if-has_variable.ensures c.have_patterns.ensures (ap (map plain_constructor) c.as_slice.ensures)
