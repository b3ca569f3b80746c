use Rattle.std.proofs.Common.{◌∙◌, ap, refl}
use Rattle.std.proofs.lemmas.Result.{err_from_is_err_and}
use Rattle.script_core.specs.Checking.{environment_of}
use Rattle.script_core.specs.Effects.{first_of, seen_by}
use Rattle.script_core.specs.RuleAnswers.{terms_left}
use Rattle.script_core.proofs.TakingLiterals.{env_at}
use Rattle.script_core.proofs.TakingTerms.{terms_broken, terms_onward, terms_start, terms_taken}
use Rattle.script_core.proofs.effects.values.Goals as goal

pub loop-next-init : goal.loop-next-init
loop-next-init c = record {
  onward = terms_start (environment_of c.args.scope.now.world.names c.args.scope.now) c.args.terms.now c.split-next.result c.new-made.result (seen_by c.args.scope.now) c.split-next.ensures c.new-made.ensures c.requires.begins.0;
  first = c.requires.begins.1;
  same = refl;
  script = refl;
  stands = c.requires.stands;
}

pub returns-in_err-term-clause-answer : goal.returns-in_err-term-clause-answer
returns-in_err-term-clause-answer c =
    let names = c.args.scope.now.world.names in
    let l = c.loop-next in
    let p = err_from_is_err_and c.from_residual.result c.from_residual.ensures.1 in rw (p.1, p.2)
    (terms_broken (environment_of names c.args.scope.now) (environment_of l.scope.world.names l.scope) (first_of l.scope) c.args.terms.now (terms_left l.next) c.in-Some.first c.in-Some.rest l.made (seen_by l.scope)
    l.invariant.same l.invariant.first (ap terms_left c.in-Some.is) l.invariant.onward c.args.at (environment_of names c.term_of.new.scope) c.in_err-term.field-0.0 (seen_by c.term_of.new.scope) c.in_err-term.ensures.answer)

pub loop-next-preserved : goal.loop-next-preserved
loop-next-preserved c =
    let l = c.loop-next in record {
      onward = terms_onward (environment_of c.args.scope.now.world.names c.args.scope.now) (environment_of l.scope.world.names l.scope) (first_of l.scope) c.args.terms.now (terms_left l.next) c.in-Some.first c.in-Some.rest l.made (seen_by l.scope)
          l.invariant.same l.invariant.first (ap terms_left c.in-Some.is) l.invariant.onward c.split-next-in-Some.result c.in_ok-term.term c.push.new.self (seen_by c.term_of.new.scope) c.split-next-in-Some.ensures c.in_ok-term.ensures.answer c.in-Ok.ensures.ok;
      first = c.term_of.ensures.first ∙ l.invariant.first;
      same = c.term_of.ensures.same ∙ l.invariant.same;
      script = c.term_of.ensures.script ∙ l.invariant.script;
      stands = c.term_of.ensures.stands;
    }

pub returns-clause-answer : goal.returns-clause-answer
returns-clause-answer c = let names = c.args.scope.now.world.names in
    terms_taken (environment_of names c.args.scope.now) (environment_of names c.loop-next.scope) c.args.at c.args.terms.now (terms_left c.loop-next.next) c.loop-next.made (seen_by c.loop-next.scope) (ap terms_left c.in_default.is)
    c.loop-next.invariant.onward (env_at names c.args.scope.now c.loop-next.scope refl c.loop-next.invariant.same)
