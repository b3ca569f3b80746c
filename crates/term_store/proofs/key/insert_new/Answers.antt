use Rattle.std.proofs.Common.{◌∙◌}
use Rattle.indexmap.proofs.CallerLemmas.{insert_entry-new}
use Rattle.term_store.specs.contracts.key.TermKeyPartialEq.TheImpl.{eq-value}
use Rattle.term_store.proofs.KeyLookup.{lookup_from_lacks}
use Rattle.term_store.proofs.key.insert_new.Goals as goal

pub returns-clause-ok : goal.returns-clause-ok
returns-clause-ok c =
    c.in_ok-insert.ensures.entries ∙ insert_entry-new eq-value.it c.args.table.now c.args.key c.args.term (lookup_from_lacks c.args.table.now.entries c.args.key c.requires)
