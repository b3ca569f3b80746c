use Rattle.std.proofs.Common.{refl, ap, Ok, Err, arith, length}
use Rattle.sexp_core.specs.Sexp.{list}
use Rattle.sexp_core.specs.Tokens.{flat_tok}
use Rattle.sexp_core.proofs.TokensTaken.{opening_step, atom_step, inner_step, unmatched_step, outermost_step, whole_list, length-whole_list, is_word}
use Rattle.sexp_core.proofs.builder.step.Goals as goal

pub returns-in-Ok : goal.returns-in-Ok
returns-in-Ok c = opening_step _ _ _ _ _ _ (Ok tt) c.requires.inside (rw c.in-Open.is refl) c.in-Ok.ensures

pub returns-in-Err : goal.returns-in-Err
returns-in-Err c = opening_step _ _ _ _ _ _ (Err c.in-Err.e) c.requires.inside (rw c.in-Open.is refl) c.in-Err.ensures

pub invariant_of-result : goal.invariant_of-result
invariant_of-result c =
    let f = rw c.in-Ok-true.field-0-test at c.in-Ok-true.ensures in
    let x = whole_list _ _ _ _ (flat_tok c.args.tok) _ c.requires.inside f in
    (list x.0.0 x.0.1, rw c.replace-whole.ensures.value x.3, rw (c.replace-whole.ensures.value, x.3) (omega (arith, length-whole_list x.0.0 x.0.1, ap length x.1, c.args.items.now.ok.0, c.requires.room)))

pub returns-in-Ok-true : goal.returns-in-Ok-true
returns-in-Ok-true c =
    let f = rw c.in-Ok-true.field-0-test at c.in-Ok-true.ensures in
    let e = outermost_step _ _ _ _ _ _ c.requires.inside (rw c.in-Close.is refl) f in
    rw (c.replace-whole.ensures.value, c.replace-whole.ensures.after, c.new.ensures.items) e

pub returns-in-Ok-false : goal.returns-in-Ok-false
returns-in-Ok-false c = inner_step _ _ _ _ _ _ c.requires.inside (rw c.in-Close.is refl) (rw c.in-Ok-false.field-0-test at c.in-Ok-false.ensures)

pub returns-in-Err-end_list : goal.returns-in-Err-end_list
returns-in-Err-end_list c = unmatched_step _ _ _ _ _ _ c.in-Err-end_list.e c.requires.inside (rw c.in-Close.is refl) c.in-Err-end_list.ensures

pub returns-in-Ok-add_atom : goal.returns-in-Ok-add_atom
returns-in-Ok-add_atom c = atom_step _ _ _ _ _ _ c.args.tok (Ok tt) c.requires.inside (is_word c.args.tok c.in-Numeral.is) refl c.in-Ok-add_atom.ensures

pub returns-in-Err-add_atom : goal.returns-in-Err-add_atom
returns-in-Err-add_atom c = atom_step _ _ _ _ _ _ c.args.tok (Err c.in-Err-add_atom.e) c.requires.inside (is_word c.args.tok c.in-Numeral.is) refl c.in-Err-add_atom.ensures
