use Rattle.std.proofs.Common.{◌≡◌, length, ap, sym, ◌∙◌, arith}
use Rattle.lex_core.proofs.NameNumbers.{number_again, number_within, table_kept, text_found}
use Rattle.lex_core.specs.NameTable.{number_of, texts_of}
use Rattle.lex_core.proofs.names.Names.intern.Goals as goal

pub overflow_cast-result : goal.overflow_cast-result
overflow_cast-result c = let k = number_within c.args.text.now (texts_of c.self.inside.texts) in
    let same : length (texts_of c.self.inside.texts) ≡ length c.args.self.now = ap length c.self.view_is in
    omega (arith, c.in-Ok.ensures.number, c.requires)

pub invariant_of-self-2 : goal.invariant_of-self-2
invariant_of-self-2 c = rw c.in-Ok.ensures.texts (table_kept _ _ c.self.invariant)

pub returns-clause-again : goal.returns-clause-again
returns-clause-again c =
    c.in-Ok.ensures.number ∙ sym (number_again (texts_of c.self.inside.texts) c.args.text.now) ∙ ap (number_of c.args.text.now) (sym c.in-Ok.ensures.texts)

pub returns-clause-text : goal.returns-clause-text
returns-clause-text c = rw (c.in-Ok.ensures.texts, c.in-Ok.ensures.number) (text_found (texts_of c.self.inside.texts) c.args.text.now)
