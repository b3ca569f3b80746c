use Rattle.std.proofs.Common.{◌∙◌, ap, true}
use Rattle.std.proofs.lemmas.Result.{err_from_is_err_and}
use Rattle.term_store.specs.Term.{tree}
use Rattle.script_core.specs.Checking.{environment_of}
use Rattle.script_core.specs.Effects.{first_of, plain_header, seen_by}
use Rattle.script_core.specs.Rules.{defined}
use Rattle.script_core.proofs.TakingDefinitions.{header_bound}
use Rattle.script_core.proofs.TakingGroups.{member_broken, member_right}
use Rattle.script_core.proofs.definitions.member_of.Goals as goal

pub body_of-requires-clause-vars : goal.body_of-requires-clause-vars
body_of-requires-clause-vars c = header_bound c.args.scope.now c.args.header.now c.requires.ready

pub returns-in_err-body-clause-answer : goal.returns-in_err-body-clause-answer
returns-in_err-body-clause-answer c =
    let p = err_from_is_err_and c.from_residual.result c.from_residual.ensures.1 in rw (p.1, p.2)
    (member_broken (first_of c.args.scope.now) (environment_of c.args.scope.now.world.names c.args.scope.now) (plain_header c.args.header.now) c.args.body c.in_err-body.field-0.0 (seen_by c.args.scope.now) (seen_by c.body_of.new.scope) c.in_err-body.ensures.answer)

pub returns-clause-answer : goal.returns-clause-answer
returns-clause-answer c =
    member_right (first_of c.args.scope.now) (environment_of c.args.scope.now.world.names c.args.scope.now) (plain_header c.args.header.now) c.args.body c.in_ok-body.body c.definition.result (seen_by c.args.scope.now) (seen_by c.body_of.new.scope) c.in_ok-body.ensures.answer
    (c.definition.ensures ∙ ap (λ h. defined (plain_header h) true (tree c.in_ok-body.body)) c.in_ok-copy.ensures.ok)
