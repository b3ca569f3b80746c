use Rattle.std.proofs.Common.{ℕ, List, [], get_or, ap, sym, ◌∙◌, Bor}
use Rattle.lex_core.proofs.NameNumbers.{texts_more}
use Rattle.lex_core.specs.NameTable.{texts_of, with_text}
use Rattle.lex_core.proofs.names.add_texts.Goals as goal

pub loop-text-preserved : goal.loop-text-preserved
loop-text-preserved c =
    let none : Bor (List ℕ) = record { ref_ptr = (0, 0); now = [] } in
    let text : List ℕ = (get_or c.args.more.now c.loop-text.text-index none).now in
    c.in_ok-add_text.ensures.texts ∙ ap (λ ts. with_text ts text) c.loop-text.invariant
    ∙ sym (texts_more (λ text. text.now) (texts_of c.args.texts.now) c.args.more.now c.loop-text.text-index none c.loop-text-test.true)
