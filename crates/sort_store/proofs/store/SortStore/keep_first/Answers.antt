use Rattle.std.proofs.Common.{sym, subst, ap, ◌∙◌, map, take}
use Rattle.std.specs.Map.{values_of}
use Rattle.sort_store.specs.Tree.{tree}
use Rattle.sort_store.specs.SortKeys.{IsKeyedStore}
use Rattle.sort_store.proofs.KeyedStores.{first_keyed, first_view}
use Rattle.sort_store.proofs.store.SortStore.keep_first.Goals as goal

pub invariant_of-self : goal.invariant_of-self
invariant_of-self c = subst IsKeyedStore (sym c.truncate.ensures.entries) (first_keyed c.args.len c.self.inside.table.entries c.self.invariant)

pub returns : goal.returns
returns c = ap (λ z. map tree (values_of z)) c.truncate.ensures.entries ∙ first_view c.args.len c.self.inside.table.entries ∙ ap (take c.args.len) c.self.view_is
