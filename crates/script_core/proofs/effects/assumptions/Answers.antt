use Rattle.std.proofs.Common.{◌∙◌, ap, refl}
use Rattle.std.proofs.lemmas.Result.{err_from_is_err_and}
use Rattle.script_core.specs.Checking.{environment_of}
use Rattle.script_core.specs.Effects.{seen_by}
use Rattle.script_core.specs.RuleAnswers.{literals_left}
use Rattle.script_core.proofs.TakingLiterals.{env_at, literals_broken, literals_onward, literals_start, literals_taken}
use Rattle.script_core.proofs.effects.assumptions.Goals as goal

pub loop-next-init : goal.loop-next-init
loop-next-init c = record {
  onward = literals_start (environment_of c.args.scope.now.world.names c.args.scope.now) c.args.literals.now c.split-next.result c.new-terms.result (seen_by c.args.scope.now) c.split-next.ensures c.new-terms.ensures c.requires.begins.0;
  counts = c.requires.begins.1;
  same = refl;
  script = refl;
  stands = c.requires.stands;
}

pub returns-in_err-term-clause-answer : goal.returns-in_err-term-clause-answer
returns-in_err-term-clause-answer c =
    let names = c.args.scope.now.world.names in
    let here = c.loop-next.scope in
    let p = err_from_is_err_and c.from_residual.result c.from_residual.ensures.1 in rw (p.1, p.2)
    (literals_broken (environment_of names c.args.scope.now) (environment_of here.world.names here) c.args.literals.now (literals_left c.loop-next.next) c.in-Some.first c.in-Some.rest c.term.result c.loop-next.terms (seen_by here)
    c.loop-next.invariant.same (ap literals_left c.in-Some.is) c.term.ensures c.loop-next.invariant.onward c.args.at (environment_of names c.bool_term.new.scope) c.in_err-term.field-0.0 (seen_by c.bool_term.new.scope)
    c.in_err-term.ensures.answer)

pub loop-next-preserved : goal.loop-next-preserved
loop-next-preserved c =
    let here = c.loop-next.scope in record {
      onward = literals_onward (environment_of c.args.scope.now.world.names c.args.scope.now) (environment_of here.world.names here) c.args.literals.now (literals_left c.loop-next.next) c.in-Some.first c.in-Some.rest
          c.term.result c.loop-next.terms (seen_by here) c.loop-next.invariant.same (ap literals_left c.in-Some.is) c.term.ensures c.loop-next.invariant.onward c.split-next-in-Some.result c.in_ok-term.term c.push.new.self
          (seen_by c.bool_term.new.scope) c.split-next-in-Some.ensures c.in_ok-term.ensures.answer c.in-Ok.ensures.ok;
      counts = c.bool_term.ensures.counts;
      same = c.bool_term.ensures.same ∙ c.loop-next.invariant.same;
      script = c.bool_term.ensures.script ∙ c.loop-next.invariant.script;
      stands = c.bool_term.ensures.stands;
    }

pub returns-clause-answer : goal.returns-clause-answer
returns-clause-answer c = let names = c.args.scope.now.world.names in
    literals_taken (environment_of names c.args.scope.now) (environment_of names c.loop-next.scope) c.args.at c.args.literals.now (literals_left c.loop-next.next) c.loop-next.terms (seen_by c.loop-next.scope) (ap literals_left c.in_default.is)
    c.loop-next.invariant.onward (env_at names c.args.scope.now c.loop-next.scope refl c.loop-next.invariant.same)
