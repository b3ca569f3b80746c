use Rattle.std.proofs.Common.{◌≡◌, Some, None, Option, sym}
use Rattle.std.specs.Option.{option_copied, IfSome, IfNone}
use Rattle.std.specs.Borrow.{Bor}
use Rattle.std.specs.Map.{lookup}
use Rattle.std.proofs.Common.{List}
use Rattle.sort_store.specs.contracts.sort_key.SortKeyPartialEq.TheImpl.{eq-value}
use Rattle.sort_store.specs.declared.sort_key.SortKey.{SortKey}
use Rattle.sort_store.specs.Tree.{NumberedSort}
use Rattle.sort_store.specs.SortKeys.{MapsTo, LacksKey}
use Rattle.sort_store.proofs.KeyLookup.{has_from_lookup, lacks_from_lookup}
use Rattle.sort_store.proofs.sort_key.find.Goals as goal

some_case : (es : List (SortKey × NumberedSort)) (key : SortKey) (o : Option (Bor NumberedSort)) → option_copied o ≡ lookup (eq-value.it key) es → IfSome o (λ r. MapsTo es key r.now)
some_case es key None e = tt
some_case es key (Some r) e = has_from_lookup es key r.now (sym e)

none_case : (es : List (SortKey × NumberedSort)) (key : SortKey) (o : Option (Bor NumberedSort)) → option_copied o ≡ lookup (eq-value.it key) es → IfNone o (LacksKey es key)
none_case es key None e = lacks_from_lookup es key (sym e)
none_case es key (Some r) e = tt

pub returns-clause-found : goal.returns-clause-found
returns-clause-found c = some_case c.args.table.now.entries c.args.key.now c.get.result c.get.ensures.value

pub returns-clause-missing : goal.returns-clause-missing
returns-clause-missing c = none_case c.args.table.now.entries c.args.key.now c.get.result c.get.ensures.value
