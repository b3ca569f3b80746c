use Rattle.std.proofs.Common.{refl, arith, ap, length, rules}
use Rattle.std.proofs.lemmas.Grind.{common_steps}
use Rattle.sexp_core.proofs.OpenListItems.{length-open_places, not_full}
use Rattle.sexp_core.proofs.builder.begin_list.Goals as goal

pub returns-then-len-eq-MAX_DEPTH : goal.returns-then-len-eq-MAX_DEPTH
returns-then-len-eq-MAX_DEPTH c = λ fs h. rw c.fault.ensures (refl, omega (arith, length-open_places fs, ap length h.starts, c.args.starts.now.ok.0), h)

pub returns-then-is_err : goal.returns-then-is_err
returns-then-is_err c = λ fs h. (not_full fs _ _ _ h (search rules), record { items = h.items; starts = grind (arith, common_steps, h.starts) })

pub returns-then-is_err-2 : goal.returns-then-is_err-2
returns-then-is_err-2 c = λ fs h. (not_full fs _ _ _ h (search rules), record { items = grind (arith, common_steps, h.items); starts = grind (arith, common_steps, h.starts) })

pub returns : goal.returns
returns c = λ fs h. (not_full fs _ _ _ h (search rules), record { items = grind (arith, common_steps, h.items); starts = grind (arith, common_steps, h.starts, h.items) })
