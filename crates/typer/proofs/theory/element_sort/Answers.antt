use Rattle.std.proofs.Common.{◌≡◌, Option, None, Some, sym, ap, ◌∙◌}
use Rattle.std.specs.Option.{option_copied}
use Rattle.sort_store.specs.Tree.{NumberedSort}
use Rattle.typer.proofs.TheoryRankSteps.{array_parts, element_told, element_interned}
use Rattle.typer.proofs.theory.element_sort.Goals as goal

none_is_no_element : (x : NumberedSort) → ◌≡◌ {A = Option NumberedSort} None (Some x) → ⊥
none_is_no_element x e = cc

pub unreachable-requires : goal.unreachable-requires
unreachable-requires c =
    let p = array_parts c.args.sort.now c.requires.0 c.requires.1 c.requires.2 in
    none_is_no_element p.0 (sym (ap option_copied c.in-None.is) ∙ c.arg.ensures ∙ p.1)

pub returns-clause-element : goal.returns-clause-element
returns-clause-element c =
    element_told c.args.sort.now c.in-Some.element.now (sym (ap option_copied c.in-Some.is) ∙ c.arg.ensures) c.copy_of.result c.copy_of.ensures.ok c.requires.0 c.requires.1 c.requires.2

pub returns-clause-interned : goal.returns-clause-interned
returns-clause-interned c store h =
    element_interned c.args.sort.now c.in-Some.element.now (sym (ap option_copied c.in-Some.is) ∙ c.arg.ensures) c.copy_of.result c.copy_of.ensures.ok store h
