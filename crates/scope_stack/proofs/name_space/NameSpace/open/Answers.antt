use Rattle.std.proofs.Common.{◌≡◌, ap, sym, ◌∙◌, subst, ◌++◌, length, replicate}
use Rattle.std.proofs.lemmas.Result.{on_ok_weaker}
use Rattle.scope_stack.specs.Levels.{opened}
use Rattle.scope_stack.specs.LevelStarts.{AreStarts}
use Rattle.scope_stack.proofs.LevelsInOneList.{opened_is, opened_space, on_both}
use Rattle.scope_stack.proofs.name_space.NameSpace.open.Goals as goal

pub invariant_of-self : goal.invariant_of-self
invariant_of-self g c =
    let starts = λ (p : c.push_starts.new.starts.items ≡ c.self.inside.starts.items ++ replicate c.args.n c.len.result).
    subst (λ ms. AreStarts 0 ms (length c.self.inside.scoped.entries)) (ap (λ k. c.self.inside.starts.items ++ replicate c.args.n k) (sym c.len.ensures.len) ∙ sym p)
    (opened_is c.self.inside.starts.items c.self.inside.scoped.entries c.args.n c.self.invariant).starts in
    on_both c.push_starts.result c.push_starts.ensures.ok c.push_starts.ensures.err starts
    (λ p. subst (λ ms. AreStarts 0 ms (length c.self.inside.scoped.entries)) (sym p) c.self.invariant)

pub returns-clause-ok : goal.returns-clause-ok
returns-clause-ok g c =
    on_ok_weaker c.push_starts.result (λ p.
    opened_space c.self.inside.starts.items c.self.inside.scoped.entries c.self.inside.globals.entries c.args.n c.push_starts.new.starts.items c.self.invariant
    (p ∙ ap (λ k. c.self.inside.starts.items ++ replicate c.args.n k) c.len.ensures.len)
    ∙ ap (opened c.args.n) c.self.view_is)
    c.push_starts.ensures.ok
