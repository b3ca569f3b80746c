use Rattle.std.specs.Prelude.{map}
use Rattle.std.proofs.Common.{◌≡◌, ◌+◌, [], ◌∷◌, ◌++◌, length, ap, ◌∙◌, arith, rules}
use Rattle.sexp_core.specs.declared.tree.Item.TheVariants as item
use Rattle.sexp_core.specs.Sexp.{list}
use Rattle.sexp_core.specs.Parts.{moved_item}
use Rattle.sexp_core.proofs.MovedItems.{laid_out_skips, copied_items, length-copied, copied_sexp}
use Rattle.sexp_core.proofs.parts.Trees.list.Goals as goal

pub copy_items-requires-clause-within : goal.copy_items-requires-clause-within
copy_items-requires-clause-within c = laid_out_skips _ _ c.self.invariant

-- the items that were made
made : (c : goal.In_ok-copy_items)
    → c.copy_items.new.out.items ≡ item.Open (length c.self.inside.items.now + 1) c.args.at ∷ map (moved_item c.self.inside.from) c.self.inside.items.now
made c =
    let first : c.push.new.self.items ≡ item.Open (length c.self.inside.items.now + 1) c.args.at ∷ [] = search (rules, c.in_ok-push.ensures.items, c.new-items.ensures.items) in
    c.in_ok-copy_items.ensures ∙ ap (λ is. is ++ map (moved_item c.self.inside.from) c.self.inside.items.now) first

pub invariant_of-result : goal.invariant_of-result
invariant_of-result c = (
  list c.args.at c.args.self.now,
  copied_items _ _ _ _ _ c.self.invariant c.self.view_is (made c),
  omega (arith, length-copied _ _ _ _ _ c.self.invariant c.self.view_is (made c), c.if-len.false),
)

pub returns : goal.returns
returns c = copied_sexp _ _ _ _ _ c.self.invariant c.self.view_is (made c)
