use Rattle.std.proofs.Common.{rules}
use Rattle.std.specs.Cmp.Lexicographic.{slice_cmp}
use Rattle.std.specs.Ordering.{nat_cmp}
use Rattle.std.proofs.lemmas.Fn.{always_returns_same}
use Rattle.sig_table.proofs.table.Table.search.Goals as goal

-- the closure compares a row's name with the name that is looked for
pub returns-clause-place : goal.returns-clause-place
returns-clause-place g c =
    rw (← c.self.view_is)
    (c.binary_search_by.ensures.position (λ r. slice_cmp nat_cmp r.name c.args.name.now) (always_returns_same _ _ _ (λ a r f called. search rules)))
