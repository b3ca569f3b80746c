use Rattle.std.proofs.Common.{◌∙◌, sym}
use Rattle.lex_core.proofs.ReservedWords.{symbol_word_from}
use Rattle.lex_core.proofs.simple.is_symbol_word.Goals as goal

pub returns-then-not-is_digit : goal.returns-then-not-is_digit
returns-then-not-is_digit c =
    c.are_symbol_bytes.ensures ∙ symbol_word_from c.args.text.now c.in-Some.first.now c.in-Some.ensures.value (sym c.is_digit.ensures ∙ c.if-not-is_digit.true)
