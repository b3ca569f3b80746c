-- A script lends its definitions: it ends with those that are left behind the reference.
use Rattle.std.specs.Borrow.{Lends, MutBor, Fml}
use Rattle.term_store.specs.contracts.defs.Defs as defs
use Rattle.term_store.specs.contracts.script.Script.{the_row}
use Rattle.term_store.specs.Definitions.{Definitions}
use Rattle.term_store.specs.Script.{Kept}

abbrev pub LendsDefs : MutBor Kept → MutBor Definitions → Fml
LendsDefs s r = Lends the_row defs.the_row s r (λ d. record { commands = s.now.commands; defs = d })
