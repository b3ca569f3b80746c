use Rattle.std.proofs.Common.{◌≡◌, map}
use Rattle.std.specs.Option.{IfSome}
use Rattle.sort_store.specs.Tree.{tree, sort, sorts}
use Rattle.sort_store.specs.Interned.{IsInterned}
use Rattle.sort_store.proofs.KeyedStores.{found_words, missing_words, some_first, some_second}
use Rattle.sort_store.proofs.store.SortStore.find_interned.Goals as goal
use Rattle.sort_store.proofs.store.SortStore.find_interned.Goals.{After-find}

found : (c : After-find) → IfSome c.find.result (λ r. (tree r.now ≡ sort c.args.key.now.head (sorts (map tree c.args.args.now))) × IsInterned c.args.self.now r.now)
found c = found_words c.args.self.now c.self.inside.table.entries c.args.key.now c.args.args.now c.find.result c.self.view_is c.self.invariant c.requires.interned c.requires.numbers c.find.ensures.found

pub returns-clause-found : goal.returns-clause-found
returns-clause-found c = some_first (λ r. tree r.now ≡ sort c.args.key.now.head (sorts (map tree c.args.args.now))) (λ r. IsInterned c.args.self.now r.now) c.find.result (found c)

pub returns-clause-interned : goal.returns-clause-interned
returns-clause-interned c = some_second (λ r. tree r.now ≡ sort c.args.key.now.head (sorts (map tree c.args.args.now))) (λ r. IsInterned c.args.self.now r.now) c.find.result (found c)

pub returns-clause-missing : goal.returns-clause-missing
returns-clause-missing c =
    missing_words c.args.self.now c.self.inside.table.entries c.args.key.now c.args.args.now c.find.result c.self.view_is c.self.invariant c.requires.interned c.requires.numbers c.find.ensures.missing
