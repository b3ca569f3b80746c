use Rattle.std.proofs.Common.{◌==◌, ◌∙◌, ap, sym}
use Rattle.std.specs.List.{list_any}
use Rattle.script_core.specs.RuleAnswers.{tokens_left}
use Rattle.script_core.proofs.TakingParts.{names_onward, params_broken, params_onward}
use Rattle.script_core.proofs.effects.params_of.Goals as goal

pub loop-next-preserved : goal.loop-next-preserved
loop-next-preserved c =
    let left = tokens_left c.loop-next.next in record {
      onward = params_onward c.loop-next.names c.push.new.self c.args.params.now left c.in-Some.first c.in-Some.rest c.split-next-in-Some.result
          (ap tokens_left c.in-Some.is) c.split-next-in-Some.ensures (ap (λ ns. list_any (λ n. n == c.in-Some.first.name) ns) (sym c.as_slice.ensures) ∙ sym c.if-is_repeated.ensures)
          c.in-Ok.ensures.ok c.loop-next.invariant.onward;
      names = names_onward c.loop-next.names c.push.new.self c.args.params.now left c.in-Some.first c.in-Some.rest c.split-next-in-Some.result
          (ap tokens_left c.in-Some.is) c.split-next-in-Some.ensures c.in-Ok.ensures.ok c.loop-next.invariant.names;
    }

pub returns-then-is_repeated-clause-answer : goal.returns-then-is_repeated-clause-answer
returns-then-is_repeated-clause-answer c =
    rw c.broken.ensures (params_broken c.loop-next.names c.args.params.now (tokens_left c.loop-next.next) c.in-Some.first c.in-Some.rest (ap tokens_left c.in-Some.is)
    (ap (λ ns. list_any (λ n. n == c.in-Some.first.name) ns) (sym c.as_slice.ensures) ∙ sym c.if-is_repeated.ensures) c.loop-next.invariant.onward)
