use Rattle.std.proofs.Common.{map, sym, ◌∙◌, subst, arith}
use Rattle.std.proofs.lemmas.Bool.{false≢true}
use Rattle.std.specs.List.{Contains}
use Rattle.sort_store.specs.Tree.{tree}
use Rattle.sort_store.proofs.GrownStores.{grows_more}
use Rattle.dt_rules.proofs.UnsettledLists.{first_at, listed_more}
use Rattle.dt_rules.proofs.check.first_listed.Goals as goal

pub loop-i-preserved : goal.loop-i-preserved
loop-i-preserved c =
    let unsettled = map tree c.args.unsettled.now in record {
      grows = grows_more _ _ _ c.loop-i.invariant.grows c.own_sort.ensures.grows;
      distinct = λ h. c.own_sort.ensures.distinct (c.loop-i.invariant.distinct h);
      none = listed_more c.args.group.now unsettled c.loop-i.i c.index-group-i.result (omega arith) c.index-group-i.is
          (λ has. false≢true (sym c.if-is_listed.false ∙ c.is_listed.ensures.1 (subst (Contains unsettled) (sym c.in-Ok.ensures.tree) has))) c.loop-i.invariant.none;
    }

pub returns-then-is_listed-clause-found : goal.returns-then-is_listed-clause-found
returns-then-is_listed-clause-found c =
    let unsettled = map tree c.args.unsettled.now in
    first_at c.args.group.now unsettled c.loop-i.i c.index-group-i.result (omega arith) c.index-group-i.is (subst (Contains unsettled) c.in-Ok.ensures.tree (c.is_listed.ensures.0 c.if-is_listed.true)) c.loop-i.invariant.none

pub returns-clause-none : goal.returns-clause-none
returns-clause-none c = λ k d below within has. c.loop-i.invariant.none k d (omega (arith, below, c.loop-i-test.false)) within has
