use Rattle.std.proofs.Common.{◌∙◌, ap, sym}
use Rattle.lex_core.proofs.ReservedWords.{found_any}
use Rattle.lex_core.specs.Spelling.{is_reserved}
use Rattle.sig_table.specs.Reserved.{reserved_rows}
use Rattle.sig_table.specs.Row.{codes_of}
use Rattle.lex_core.proofs.simple.is_reserved.Goals as goal

pub returns : goal.returns
unfolding is_reserved
returns c = c.is_some.ensures ∙ found_any c.args.text.now reserved_rows c.find.result (ap (codes_of c.args.text.now) (sym c.reserved.ensures) ∙ c.find.ensures)
