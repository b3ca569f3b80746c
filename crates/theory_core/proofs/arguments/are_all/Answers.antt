use Rattle.std.proofs.Common.{◌≡◌, ◌<◌, true, length, ap, ◌∙◌, refl, arith}
use Rattle.sort_store.specs.Tree.{tree}
use Rattle.theory_core.specs.Arguments.{basic_sort}
use Rattle.theory_core.proofs.ArgumentTests.{all_from, all_at}
use Rattle.theory_core.proofs.arguments.are_all.Goals as goal

pub returns-then-not-is_basic : goal.returns-then-not-is_basic
returns-then-not-is_basic c = (
  λ f. cc,
  λ h.
      let lt : c.loop-arg.arg-index < length c.args.args.now = omega arith in
      let e : tree c.arg-item.result ≡ basic_sort c.args.basic = ap tree c.arg-item.is ∙ all_at c.args.args.now (basic_sort c.args.basic) c.loop-arg.arg-index c.arg-item.result h lt in
      let t : c.is_basic.result ≡ true = c.is_basic.ensures.1 e in
      cc,
)

pub returns : goal.returns
returns c = (λ f. all_from c.args.args.now (basic_sort c.args.basic) (λ k d l. c.loop-arg.invariant k d (omega arith)), λ h. refl)
