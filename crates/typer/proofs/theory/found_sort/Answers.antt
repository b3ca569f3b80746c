use Rattle.std.proofs.Common.{subst, length, map}
use Rattle.sort_store.specs.Tree.{tree}
use Rattle.theory_core.specs.Answers.{IsWithin}
use Rattle.typer.proofs.TheoryRankSteps.{argument_interned, element_is_told, tree_at, on_interned}
use Rattle.typer.proofs.theory.found_sort.Goals as goal

pub returns-in-Arg-clause-interned : goal.returns-in-Arg-clause-interned
returns-in-Arg-clause-interned c =
    argument_interned c.args.sorts.now c.args.args.now c.args.found c.in-Arg.i c.index-args-i.result c.copy_of.result c.requires.interned c.in-Arg.is c.requires.within c.index-args-i.is c.copy_of.ensures.ok

pub returns-in-Element-clause-told : goal.returns-in-Element-clause-told
returns-in-Element-clause-told c =
    element_is_told (map tree c.args.args.now) c.args.found c.in-Element.i c.index-args-i-in-Element.result c.element_sort.result c.in-Element.is
    (tree_at c.args.args.now c.in-Element.i c.index-args-i-in-Element.result (subst (λ g. IsWithin g (length c.args.args.now)) c.in-Element.is c.requires.within) c.index-args-i-in-Element.is) c.element_sort.ensures.element

pub returns-in-Element-clause-interned : goal.returns-in-Element-clause-interned
returns-in-Element-clause-interned c =
    c.element_sort.ensures.interned c.args.sorts.now (on_interned c.args.sorts.now c.args.args.now c.in-Element.i c.index-args-i-in-Element.result c.requires.interned (subst (λ g. IsWithin g (length c.args.args.now)) c.in-Element.is c.requires.within) c.index-args-i-in-Element.is)
