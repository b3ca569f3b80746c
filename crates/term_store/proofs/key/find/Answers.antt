use Rattle.std.proofs.Common.{◌≡◌, Some, None, Option, sym}
use Rattle.std.specs.Option.{option_copied, IfSome, IfNone}
use Rattle.std.specs.Borrow.{Bor}
use Rattle.std.specs.Map.{lookup}
use Rattle.term_store.specs.contracts.key.TermKeyPartialEq.TheImpl.{eq-value}
use Rattle.term_store.specs.declared.key.TermKey.{TermKey}
use Rattle.term_store.specs.Term.{NumberedTerm}
use Rattle.term_store.specs.TermKeys.{Entries, MapsTo, LacksKey}
use Rattle.term_store.proofs.KeyLookup.{maps_from_lookup, lacks_from_lookup}
use Rattle.term_store.proofs.key.find.Goals as goal

some_case : (es : Entries) (key : TermKey) (o : Option (Bor NumberedTerm)) → option_copied o ≡ lookup (eq-value.it key) es → IfSome o (λ t. MapsTo es key t.now)
some_case es key None e = tt
some_case es key (Some t) e = maps_from_lookup es key t.now (sym e)

none_case : (es : Entries) (key : TermKey) (o : Option (Bor NumberedTerm)) → option_copied o ≡ lookup (eq-value.it key) es → IfNone o (LacksKey es key)
none_case es key None e = lacks_from_lookup es key (sym e)
none_case es key (Some t) e = tt

pub returns-clause-found : goal.returns-clause-found
returns-clause-found c = some_case c.args.table.now.entries c.args.key.now c.get.result c.get.ensures.value

pub returns-clause-missing : goal.returns-clause-missing
returns-clause-missing c = none_case c.args.table.now.entries c.args.key.now c.get.result c.get.ensures.value
