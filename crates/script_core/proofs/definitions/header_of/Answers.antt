use Rattle.std.proofs.Common.{◌∙◌, sym}
use Rattle.script_core.proofs.TakingDefinitions.{header_ready, header_right}
use Rattle.script_core.proofs.definitions.header_of.Goals as goal

pub returns-clause-answer : goal.returns-clause-answer
returns-clause-answer c =
    header_right c.args.scope.now c.variables_of.new.scope c.sort_of.new.scope c.args.name.now c.args.params.now c.args.sort c.in_ok-params.params c.in_ok-result.result
    (sym c.is_fun_in_use.ensures ∙ c.if-is_fun_in_use.false) c.in_ok-params.ensures.answer c.variables_of.ensures.grown c.in_ok-result.ensures.answer c.sort_of.ensures.grown

pub returns-clause-schema : goal.returns-clause-schema
returns-clause-schema c = header_ready c.variables_of.new.scope c.sort_of.new.scope _ c.sort_of.ensures.grown c.in_ok-params.ensures.schema c.in_ok-result.ensures.schema
