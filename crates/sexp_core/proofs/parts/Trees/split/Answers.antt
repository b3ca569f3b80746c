use Rattle.std.proofs.Common.{arith}
use Rattle.sexp_core.proofs.FirstSexp.{after_atom, begins_before, count_fits, inner_laid_out, others_laid_out, split_list, looked_at, same_sexps, few_sexps}
use Rattle.sexp_core.proofs.parts.Trees.split.Goals as goal

pub invariant_of-others : goal.invariant_of-others
invariant_of-others c = after_atom c.self.inside.from _ _ (looked_at _ _ _ _ _ c.self.invariant c.in-Some.ensures.cases.0 c.in-Atom.is)

pub overflow_sub-count : goal.overflow_sub-count
overflow_sub-count c = omega (arith, begins_before c.self.inside.from _ _ _ (looked_at _ _ _ _ _ c.self.invariant c.in-Some.ensures.cases.0 c.in-Open.is))

pub overflow_sub-count-in-Open : goal.overflow_sub-count-in-Open
overflow_sub-count-in-Open c = omega (arith, begins_before c.self.inside.from _ _ _ (looked_at _ _ _ _ _ c.self.invariant c.in-Some.ensures.cases.0 c.in-Open.is))

pub split_at-requires : goal.split_at-requires
split_at-requires c = count_fits c.self.inside.from _ _ _ (looked_at _ _ _ _ _ c.self.invariant c.in-Some.ensures.cases.0 c.in-Open.is)

pub invariant_of-parts : goal.invariant_of-parts
invariant_of-parts c = rw c.split_at.ensures.front (inner_laid_out c.self.inside.from _ _ _ (looked_at _ _ _ _ _ c.self.invariant c.in-Some.ensures.cases.0 c.in-Open.is))

pub invariant_of-others-in-Open : goal.invariant_of-others-in-Open
invariant_of-others-in-Open c = rw c.split_at.ensures.back (others_laid_out c.self.inside.from _ _ _ (looked_at _ _ _ _ _ c.self.invariant c.in-Some.ensures.cases.0 c.in-Open.is))

pub returns-in-Open-clause-first : goal.returns-in-Open-clause-first
returns-in-Open-clause-first c =
    let e = split_list c.self.inside.from _ _ _ (looked_at _ _ _ _ _ c.self.invariant c.in-Some.ensures.cases.0 c.in-Open.is) in
    rw (c.split_at.ensures.front, c.split_at.ensures.back)
    (same_sexps _ _ _ _ _ _ _ c.self.view_is c.in-Some.ensures.cases.0 c.in-Open.is e)

pub returns-in-Atom-clause-few : goal.returns-in-Atom-clause-few
returns-in-Atom-clause-few c = few_sexps c.self.inside.from _ _ c.self.invariant c.self.view_is

pub returns-in-Open-clause-few : goal.returns-in-Open-clause-few
returns-in-Open-clause-few c = few_sexps c.self.inside.from _ _ c.self.invariant c.self.view_is
