use Rattle.std.proofs.Common.{arith, ap, sym, ◌∙◌, Ok}
use Rattle.sexp_core.specs.Parts.{whole}
use Rattle.term_grammar.proofs.FormSizes.{form_size, term_form-size}
use Rattle.term_grammar.proofs.judge.+terms.Goals as goal

pub judge_term-judge_terms-requires : goal.judge_term-judge_terms-requires
judge_term-judge_terms-requires t c =
    let h = term_form-size (whole c.args.tree.now) in
    let e = ap form_size (sym c.term_form.ensures ∙ c.in_ok-term_form.was ∙ ap Ok c.in-Application.is) in
    (omega (arith, h, e), tt)

pub judge_term-judge_notes-requires : goal.judge_term-judge_notes-requires
judge_term-judge_notes-requires t c =
    let h = term_form-size (whole c.args.tree.now) in
    let e = ap form_size (sym c.term_form.ensures ∙ c.in_ok-term_form.was ∙ ap Ok c.in-Annotated.is) in
    (omega (arith, h, e), tt)
