use Rattle.std.proofs.Common.{◌∙◌, Err, Ok, ap, map}
use Rattle.std.proofs.lemmas.Result.{err_from_is_err_and}
use Rattle.script_core.specs.Checking.{environment_of}
use Rattle.script_core.specs.Effects.{first_of, plain_header, seen_by}
use Rattle.script_core.specs.RuleAnswers.{terms_left}
use Rattle.script_core.proofs.TakingGroups.{member_moved, members_broken, members_onward, members_short, members_taken, others_ready}
use Rattle.script_core.proofs.TakingParts.{no_items}
use Rattle.script_core.proofs.definitions.members_of.Goals as goal

pub returns-in_default-next-clause-answer : goal.returns-in_default-next-clause-answer
returns-in_default-next-clause-answer c =
    let scope = c.args.scope.now in let l = c.loop-header in rw c.broken.ensures
    (members_short (first_of scope) (environment_of scope.world.names scope) c.args.at (map plain_header c.args.headers.now, c.args.bodies.now) l.left.now (terms_left l.next) c.in-Some.header.now c.in-Some.others.now l.defs
    (seen_by scope) (seen_by l.scope) c.in-Some.ensures.cases.0 (ap terms_left c.in_default-next.is) l.invariant.onward)

pub returns-in_err-def-clause-answer : goal.returns-in_err-def-clause-answer
returns-in_err-def-clause-answer c =
    let scope = c.args.scope.now in let env = environment_of scope.world.names scope in let l = c.loop-header in let later = seen_by c.member_of.new.scope in
    let p = err_from_is_err_and c.from_residual.result c.from_residual.ensures.1 in rw (p.1, p.2)
    (members_broken (first_of scope) env c.args.at (map plain_header c.args.headers.now, c.args.bodies.now) l.left.now (terms_left l.next)
    c.in-Some.header.now c.in-Some.others.now c.in-Some-next.body c.in-Some-next.rest l.defs (seen_by scope) (seen_by l.scope) c.in-Some.ensures.cases.0 (ap terms_left c.in-Some-next.is) l.invariant.onward c.in_err-def.field-0.0 later later
    (member_moved (first_of scope) (first_of l.scope) env (environment_of l.scope.world.names l.scope) (plain_header c.in-Some.header.now) c.in-Some-next.body (Err c.in_err-def.field-0.0) (seen_by l.scope) later l.invariant.first l.invariant.same c.in_err-def.ensures.answer))

pub loop-header-preserved : goal.loop-header-preserved
loop-header-preserved c =
    let scope = c.args.scope.now in let env = environment_of scope.world.names scope in let l = c.loop-header in let later = seen_by c.member_of.new.scope in record {
      onward = members_onward (first_of scope) env c.args.at (map plain_header c.args.headers.now, c.args.bodies.now) l.left.now (terms_left l.next)
          c.in-Some.header.now c.in-Some.others.now c.in-Some-next.body c.in-Some-next.rest l.defs (seen_by scope) (seen_by l.scope) c.in-Some.ensures.cases.0 (ap terms_left c.in-Some-next.is) l.invariant.onward
          c.in_ok-def.def c.push.new.self c.split-next-in-Some.result later
          (member_moved (first_of scope) (first_of l.scope) env (environment_of l.scope.world.names l.scope) (plain_header c.in-Some.header.now) c.in-Some-next.body (Ok c.in_ok-def.def) (seen_by l.scope) later l.invariant.first l.invariant.same c.in_ok-def.ensures.answer)
          c.in-Ok.ensures.ok c.split-next-in-Some.ensures;
      first = c.member_of.ensures.first ∙ l.invariant.first;
      ready = others_ready l.scope c.member_of.new.scope l.left.now c.in-Some.header.now c.in-Some.others.now c.in-Some.ensures.cases.0 c.member_of.ensures.same c.member_of.ensures.grows l.invariant.ready;
      same = c.member_of.ensures.same ∙ l.invariant.same;
      script = c.member_of.ensures.script ∙ l.invariant.script;
      stands = c.member_of.ensures.stands;
    }

pub returns-clause-answer : goal.returns-clause-answer
returns-clause-answer c =
    let scope = c.args.scope.now in let l = c.loop-header in
    members_taken (first_of scope) (environment_of scope.world.names scope) c.args.at (map plain_header c.args.headers.now, c.args.bodies.now) l.left.now (terms_left l.next) l.defs (seen_by scope) (seen_by l.scope)
    (no_items l.left.now c.in_default.ensures.cases) l.invariant.onward
