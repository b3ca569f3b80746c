use Rattle.std.proofs.Common.{◌≤◌, false, ap, sym, ◌∙◌, subst, [], ◌∷◌, length, length-append, arith}
use Rattle.std.proofs.lemmas.Result.{on_ok_weaker}
use Rattle.scope_stack.specs.Levels.{is_name, found, declared, levels_of}
use Rattle.scope_stack.specs.LevelStarts.{AreStarts, first_of, pushed_of}
use Rattle.scope_stack.proofs.LevelsInOneList.{absent_scoped, absent_global, starts_more, with_last_is, length-pushed, on_both}
use Rattle.scope_stack.proofs.name_space.NameSpace.declare.Goals as goal

pub put-requires : goal.put-requires
put-requires g c = absent_global (is_name c.args.name) c.self.inside.starts.items c.self.inside.scoped.entries c.self.inside.globals.entries (ap (found c.args.name) c.self.view_is ∙ c.requires)

pub put-requires-2 : goal.put-requires-2
put-requires-2 g c = absent_scoped (is_name c.args.name) c.self.inside.starts.items c.self.inside.scoped.entries c.self.inside.globals.entries (ap (found c.args.name) c.self.view_is ∙ c.requires)

pub invariant_of-self-2 : goal.invariant_of-self-2
invariant_of-self-2 g c =
    on_both c.put-2.result c.put-2.ensures.ok c.put-2.ensures.err
    (λ p.
    let n : length c.self.inside.scoped.entries ≤ length c.put-2.new.declarations.entries = omega (arith, ap length p, length-append c.self.inside.scoped.entries ((c.args.name, c.args.entry) ∷ [])) in
    starts_more 0 c.self.inside.starts.items (length c.self.inside.scoped.entries) _ c.self.invariant n)
    (λ p. subst (λ es. AreStarts 0 c.self.inside.starts.items (length es)) (sym p) c.self.invariant)

pub returns-clause-ok : goal.returns-clause-ok
returns-clause-ok g c =
    on_ok_weaker c.put-2.result (λ p.
    ap (λ es. levels_of (first_of c.self.inside.starts.items es) (pushed_of c.self.inside.starts.items es) c.self.inside.globals.entries) p
    ∙ with_last_is c.self.inside.starts.items c.self.inside.scoped.entries c.self.inside.globals.entries (c.args.name, c.args.entry) c.self.invariant
    ∙ ap (declared false (c.args.name, c.args.entry)) c.self.view_is
    ∙ ap (λ b. declared b (c.args.name, c.args.entry) c.args.self.now) (sym c.if-global.false))
    c.put-2.ensures.ok

pub returns-clause-depth : goal.returns-clause-depth
returns-clause-depth g c = length-pushed 0 c.self.inside.starts.items c.put-2.new.declarations.entries ∙ sym (length-pushed 0 c.self.inside.starts.items c.self.inside.scoped.entries) ∙ ap (λ s. length s.pushed) c.self.view_is
