use Rattle.std.proofs.Common.{◌≡◌, ◌<◌, ◌-◌, ap, sym, ◌∙◌, length, arith}
use Rattle.scope_stack.specs.Levels.{closed}
use Rattle.scope_stack.proofs.LevelsInOneList.{closed_is, closed_space, length-pushed}
use Rattle.scope_stack.proofs.name_space.NameSpace.close.Goals as goal

pub overflow_sub-depth : goal.overflow_sub-depth
overflow_sub-depth g c =
    let d : length c.args.self.now.pushed ≡ length c.self.inside.starts.items = ap (λ s. length s.pushed) (sym c.self.view_is) ∙ length-pushed 0 c.self.inside.starts.items c.self.inside.scoped.entries in
    omega arith

pub invariant_of-self : goal.invariant_of-self
invariant_of-self g c =
    let d : length c.args.self.now.pushed ≡ length c.self.inside.starts.items = ap (λ s. length s.pushed) (sym c.self.view_is) ∙ length-pushed 0 c.self.inside.starts.items c.self.inside.scoped.entries in
    let l : c.len.result - c.args.n < length c.self.inside.starts.items = omega arith in
    let k = closed_is c.self.inside.starts.items c.self.inside.scoped.entries (c.len.result - c.args.n) c.index.result.now c.self.invariant l c.index.ensures in
    rw (c.truncate-2.ensures.items, c.truncate.ensures.entries) k.starts

pub returns : goal.returns
returns g c =
    let d : length c.args.self.now.pushed ≡ length c.self.inside.starts.items = ap (λ s. length s.pushed) (sym c.self.view_is) ∙ length-pushed 0 c.self.inside.starts.items c.self.inside.scoped.entries in
    let l : c.len.result - c.args.n < length c.self.inside.starts.items = omega arith in
    let j : c.len.result - c.args.n ≡ length c.self.inside.starts.items - c.args.n = omega arith in
    closed_space c.self.inside.starts.items c.self.inside.scoped.entries c.self.inside.globals.entries (c.len.result - c.args.n) c.index.result.now c.args.n c.truncate-2.new.self.items c.truncate.new.self.entries c.self.invariant l c.index.ensures j c.truncate-2.ensures.items c.truncate.ensures.entries
    ∙ ap (closed c.args.n) c.self.view_is
