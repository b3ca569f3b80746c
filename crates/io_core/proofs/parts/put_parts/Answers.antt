use Rattle.std.proofs.Common.{◌≡◌, ℕ, ◌+◌, ◌<◌, length, List, [], ◌++◌, drop, get_or, arith, sym, ◌∙◌, ap, append_assoc}
use Rattle.std.proofs.lemmas.Result.{err_from_is_err_and}
use Rattle.io_core.proofs.KnownBytes.{appends_twice}
use Rattle.io_core.specs.declared.parts.Part.{Part}
use Rattle.io_core.specs.declared.parts.Part.TheVariants.{Text}
use Rattle.io_core.specs.Parts.{part_text, parts_text}
use Rattle.io_core.proofs.TextOfParts.{parts_from, front_then}
use Rattle.io_core.proofs.parts.put_parts.Goals as goal

-- what a look-up past the end answers
abbrev no_part : Part
no_part = Text (record { ref_ptr = (0, 0); now = [] })

-- all the text, from the part at the index on
text_from : (ps : List Part) (i : ℕ) (front : List ℕ) → i < length ps → parts_text ps ≡ front ++ parts_text (drop i ps)
    → parts_text ps ≡ front ++ (part_text (get_or ps i no_part) ++ parts_text (drop (i + 1) ps))
text_from ps i front h e = e ∙ ap (λ l. front ++ l) (parts_from ps i no_part h)

pub returns-in_err-put_part-clause-bytes : goal.returns-in_err-put_part-clause-bytes
returns-in_err-put_part-clause-bytes g c =
    let p = err_from_is_err_and c.from_residual.result c.from_residual.ensures.1 in
    let done = c.loop-part.invariant.so_far in
    rw (p.1, text_from c.args.parts.now c.loop-part.part-index done.0 (omega arith) done.1)
    (front_then _ _ _ done.0 _ (parts_text (drop (c.loop-part.part-index + 1) c.args.parts.now)) done.2 c.in_err-put_part.ensures.bytes)

pub loop-part-preserved : goal.loop-part-preserved
loop-part-preserved g c = let done = c.loop-part.invariant.so_far in record {
  so_far = (
    done.0 ++ part_text (get_or c.args.parts.now c.loop-part.part-index no_part),
    text_from c.args.parts.now c.loop-part.part-index done.0 (omega arith) done.1 ∙ sym (append_assoc done.0 _ _),
    appends_twice _ _ _ _ _ done.2 c.in_ok-put_part.ensures.bytes,
  );
  unflushed = c.in_ok-put_part.ensures.unflushed ∙ c.loop-part.invariant.unflushed;
  later = omega (arith, c.in_ok-put_part.ensures.cause.later, c.loop-part.invariant.later);
}
