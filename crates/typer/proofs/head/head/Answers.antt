use Rattle.std.proofs.Common.{[], map, subst, sym, Ok, Err}
use Rattle.std.specs.Option.{option_map}
use Rattle.sort_store.specs.Tree.{Sort, tree}
use Rattle.theory_core.specs.TheorySymbols.{form_of}
use Rattle.theory_bv.specs.Symbols as bv
use Rattle.theory_bv.specs.Symbols.{IsWrittenWith}
use Rattle.typer.specs.Answers.{Answers, head_answer}
use Rattle.typer.specs.BitVectors.{bits_form, judge_bits}
use Rattle.typer.specs.Declarations.{fun_declaration}
use Rattle.typer.specs.FunctionSymbols.{bits, declared, if_plain, judge_theory, signature_of, text_of, theory}
use Rattle.typer.proofs.BitsSteps.{plain_written}
use Rattle.typer.proofs.ReadyKept.{grown}
use Rattle.typer.proofs.HeadSteps.{with_symbol, without_symbol, is_written, not_written, theory_means, bits_means, live_means, symbol_step, symbol_unknown, head_made, entry_ready}
use Rattle.typer.proofs.head.head.Goals as goal

pub returns-in-Ok-clause-answer : goal.returns-in-Ok-clause-answer
returns-in-Ok-clause-answer c =
    symbol_step c.args.world.now c.args.name c.args.at (map tree c.args.args.now) (option_map tree c.args.asked.now) (theory (text_of (signature_of c.args.world.now) c.args.name)) (head_answer (Ok c.theory_symbol.result))
    (theory_means c.args.world.now c.args.name (is_written if_plain (form_of c.args.world.now.theories) c.text_of-text.result.now (text_of (signature_of c.args.world.now) c.args.name) c.text_of-text.ensures c.theory_form.result c.theory_form.ensures c.is_plain.result c.is_plain.ensures (theory (text_of (signature_of c.args.world.now) c.args.name)) c.if-is_plain.true))
    (with_symbol (signature_of c.args.world.now) (theory (text_of (signature_of c.args.world.now) c.args.name)) c.args.at (map tree c.args.args.now) (option_map tree c.args.asked.now) c.args.name [] (tree c.in-Ok.sort) _
    (subst (λ z. Answers (Ok (tree c.in-Ok.sort)) (judge_theory c.args.world.now.theories z c.args.at (map tree c.args.args.now) (option_map tree c.args.asked.now))) c.text_of-text.ensures c.in-Ok.ensures.answer)
    (head_made c.theory_symbol.result (theory (text_of (signature_of c.args.world.now) c.args.name)) c.args.name [] c.in-Ok.sort (c.theory_symbol.ensures.symbol (text_of (signature_of c.args.world.now) c.args.name)) c.theory_symbol.ensures.sort))

pub returns-in-Err-clause-answer : goal.returns-in-Err-clause-answer
returns-in-Err-clause-answer c =
    symbol_step c.args.world.now c.args.name c.args.at (map tree c.args.args.now) (option_map tree c.args.asked.now) (theory (text_of (signature_of c.args.world.now) c.args.name)) (Err c.in-Err.error)
    (theory_means c.args.world.now c.args.name (is_written if_plain (form_of c.args.world.now.theories) c.text_of-text.result.now (text_of (signature_of c.args.world.now) c.args.name) c.text_of-text.ensures c.theory_form.result c.theory_form.ensures c.is_plain.result c.is_plain.ensures (theory (text_of (signature_of c.args.world.now) c.args.name)) c.if-is_plain.true))
    (without_symbol (signature_of c.args.world.now) (theory (text_of (signature_of c.args.world.now) c.args.name)) c.args.at (map tree c.args.args.now) (option_map tree c.args.asked.now) c.args.name [] c.in-Err.error
    (subst (λ z. Answers {A = Sort} (Err c.in-Err.error) (judge_theory c.args.world.now.theories z c.args.at (map tree c.args.args.now) (option_map tree c.args.asked.now))) c.text_of-text.ensures c.in-Err.ensures.answer))

pub bits_sort-requires-clause-written : goal.bits_sort-requires-clause-written
bits_sort-requires-clause-written c =
    subst (λ z. IsWrittenWith (bv.form_of z) []) (sym c.text_of-text.ensures) (plain_written c.args.world.now.theories (text_of (signature_of c.args.world.now) c.args.name) (bits (text_of (signature_of c.args.world.now) c.args.name) [])
    (is_written if_plain (bits_form c.args.world.now.theories) c.text_of-text.result.now (text_of (signature_of c.args.world.now) c.args.name) c.text_of-text.ensures c.bits_form.result c.bits_form.ensures c.is_plain-2.result c.is_plain-2.ensures (bits (text_of (signature_of c.args.world.now) c.args.name) []) c.if-is_plain-2.true))

pub returns-in-Ok-bits_sort-clause-answer : goal.returns-in-Ok-bits_sort-clause-answer
returns-in-Ok-bits_sort-clause-answer c =
    symbol_step c.args.world.now c.args.name c.args.at (map tree c.args.args.now) (option_map tree c.args.asked.now) (bits (text_of (signature_of c.args.world.now) c.args.name) []) (head_answer (Ok c.theory_symbol-in-Ok-bits_sort.result))
    (bits_means c.args.world.now c.args.name
    (not_written if_plain (form_of c.args.world.now.theories) c.text_of-text.result.now (text_of (signature_of c.args.world.now) c.args.name) c.text_of-text.ensures c.theory_form.result c.theory_form.ensures c.is_plain.result c.is_plain.ensures (theory (text_of (signature_of c.args.world.now) c.args.name)) c.if-is_plain.false)
    (is_written if_plain (bits_form c.args.world.now.theories) c.text_of-text.result.now (text_of (signature_of c.args.world.now) c.args.name) c.text_of-text.ensures c.bits_form.result c.bits_form.ensures c.is_plain-2.result c.is_plain-2.ensures (bits (text_of (signature_of c.args.world.now) c.args.name) []) c.if-is_plain-2.true))
    (with_symbol (signature_of c.args.world.now) (bits (text_of (signature_of c.args.world.now) c.args.name) []) c.args.at (map tree c.args.args.now) (option_map tree c.args.asked.now) c.args.name [] (tree c.in-Ok-bits_sort.sort) _
    (subst (λ z. Answers (Ok (tree c.in-Ok-bits_sort.sort)) (judge_bits z [] c.args.at (map tree c.args.args.now) (option_map tree c.args.asked.now))) c.text_of-text.ensures c.in-Ok-bits_sort.ensures.answer)
    (head_made c.theory_symbol-in-Ok-bits_sort.result (bits (text_of (signature_of c.args.world.now) c.args.name) []) c.args.name [] c.in-Ok-bits_sort.sort (c.theory_symbol-in-Ok-bits_sort.ensures.symbol (text_of (signature_of c.args.world.now) c.args.name)) c.theory_symbol-in-Ok-bits_sort.ensures.sort))

pub returns-in-Err-bits_sort-clause-answer : goal.returns-in-Err-bits_sort-clause-answer
returns-in-Err-bits_sort-clause-answer c =
    symbol_step c.args.world.now c.args.name c.args.at (map tree c.args.args.now) (option_map tree c.args.asked.now) (bits (text_of (signature_of c.args.world.now) c.args.name) []) (Err c.in-Err-bits_sort.error)
    (bits_means c.args.world.now c.args.name
    (not_written if_plain (form_of c.args.world.now.theories) c.text_of-text.result.now (text_of (signature_of c.args.world.now) c.args.name) c.text_of-text.ensures c.theory_form.result c.theory_form.ensures c.is_plain.result c.is_plain.ensures (theory (text_of (signature_of c.args.world.now) c.args.name)) c.if-is_plain.false)
    (is_written if_plain (bits_form c.args.world.now.theories) c.text_of-text.result.now (text_of (signature_of c.args.world.now) c.args.name) c.text_of-text.ensures c.bits_form.result c.bits_form.ensures c.is_plain-2.result c.is_plain-2.ensures (bits (text_of (signature_of c.args.world.now) c.args.name) []) c.if-is_plain-2.true))
    (without_symbol (signature_of c.args.world.now) (bits (text_of (signature_of c.args.world.now) c.args.name) []) c.args.at (map tree c.args.args.now) (option_map tree c.args.asked.now) c.args.name [] c.in-Err-bits_sort.error
    (subst (λ z. Answers {A = Sort} (Err c.in-Err-bits_sort.error) (judge_bits z [] c.args.at (map tree c.args.args.now) (option_map tree c.args.asked.now))) c.text_of-text.ensures c.in-Err-bits_sort.ensures.answer))

pub live_sort-requires-clause-ready : goal.live_sort-requires-clause-ready
live_sort-requires-clause-ready c = entry_ready c.args.world.now c.args.name c.in-Some.entry.now c.requires.ready (sym c.in-Some.ensures)

pub returns-in-Ok-live_sort-clause-answer : goal.returns-in-Ok-live_sort-clause-answer
returns-in-Ok-live_sort-clause-answer c =
    symbol_step c.args.world.now c.args.name c.args.at (map tree c.args.args.now) (option_map tree c.args.asked.now) (declared (fun_declaration c.in-Some.entry.now)) (head_answer (Ok c.live_symbol.result))
    (live_means c.args.world.now c.args.name _
    (not_written if_plain (form_of c.args.world.now.theories) c.text_of-text.result.now (text_of (signature_of c.args.world.now) c.args.name) c.text_of-text.ensures c.theory_form.result c.theory_form.ensures c.is_plain.result c.is_plain.ensures (theory (text_of (signature_of c.args.world.now) c.args.name)) c.if-is_plain.false)
    (not_written if_plain (bits_form c.args.world.now.theories) c.text_of-text.result.now (text_of (signature_of c.args.world.now) c.args.name) c.text_of-text.ensures c.bits_form.result c.bits_form.ensures c.is_plain-2.result c.is_plain-2.ensures (bits (text_of (signature_of c.args.world.now) c.args.name) []) c.if-is_plain-2.false) (sym c.in-Some.ensures))
    (with_symbol (signature_of c.args.world.now) (declared (fun_declaration c.in-Some.entry.now)) c.args.at (map tree c.args.args.now) (option_map tree c.args.asked.now) c.args.name [] (tree c.in-Ok-live_sort.sort) _ c.in-Ok-live_sort.ensures.answer
    (head_made c.live_symbol.result (declared (fun_declaration c.in-Some.entry.now)) c.args.name [] c.in-Ok-live_sort.sort c.live_symbol.ensures.symbol c.live_symbol.ensures.sort))

pub returns-in-Err-live_sort-clause-answer : goal.returns-in-Err-live_sort-clause-answer
returns-in-Err-live_sort-clause-answer c =
    symbol_step c.args.world.now c.args.name c.args.at (map tree c.args.args.now) (option_map tree c.args.asked.now) (declared (fun_declaration c.in-Some.entry.now)) (Err c.in-Err-live_sort.error)
    (live_means c.args.world.now c.args.name _
    (not_written if_plain (form_of c.args.world.now.theories) c.text_of-text.result.now (text_of (signature_of c.args.world.now) c.args.name) c.text_of-text.ensures c.theory_form.result c.theory_form.ensures c.is_plain.result c.is_plain.ensures (theory (text_of (signature_of c.args.world.now) c.args.name)) c.if-is_plain.false)
    (not_written if_plain (bits_form c.args.world.now.theories) c.text_of-text.result.now (text_of (signature_of c.args.world.now) c.args.name) c.text_of-text.ensures c.bits_form.result c.bits_form.ensures c.is_plain-2.result c.is_plain-2.ensures (bits (text_of (signature_of c.args.world.now) c.args.name) []) c.if-is_plain-2.false) (sym c.in-Some.ensures))
    (without_symbol (signature_of c.args.world.now) (declared (fun_declaration c.in-Some.entry.now)) c.args.at (map tree c.args.args.now) (option_map tree c.args.asked.now) c.args.name [] c.in-Err-live_sort.error c.in-Err-live_sort.ensures.answer)

pub returns-in-None-clause-answer : goal.returns-in-None-clause-answer
returns-in-None-clause-answer c =
    symbol_unknown c.args.world.now c.args.name c.args.at (map tree c.args.args.now) (option_map tree c.args.asked.now) c.fault.result
    (live_means c.args.world.now c.args.name _
    (not_written if_plain (form_of c.args.world.now.theories) c.text_of-text.result.now (text_of (signature_of c.args.world.now) c.args.name) c.text_of-text.ensures c.theory_form.result c.theory_form.ensures c.is_plain.result c.is_plain.ensures (theory (text_of (signature_of c.args.world.now) c.args.name)) c.if-is_plain.false)
    (not_written if_plain (bits_form c.args.world.now.theories) c.text_of-text.result.now (text_of (signature_of c.args.world.now) c.args.name) c.text_of-text.ensures c.bits_form.result c.bits_form.ensures c.is_plain-2.result c.is_plain-2.ensures (bits (text_of (signature_of c.args.world.now) c.args.name) []) c.if-is_plain-2.false) (sym c.in-None.ensures)) c.fault.ensures

pub returns-in-Ok-clause-ready : goal.returns-in-Ok-clause-ready
returns-in-Ok-clause-ready c = grown c.args.world.now c.theory_sort.new.sorts c.in-Ok.ensures.grows c.in-Ok.ensures.distinct c.requires.ready

pub returns-in-Err-clause-ready : goal.returns-in-Err-clause-ready
returns-in-Err-clause-ready c = grown c.args.world.now c.theory_sort.new.sorts c.in-Err.ensures.grows c.in-Err.ensures.distinct c.requires.ready

pub returns-in-Ok-bits_sort-clause-ready : goal.returns-in-Ok-bits_sort-clause-ready
returns-in-Ok-bits_sort-clause-ready c = grown c.args.world.now c.bits_sort.new.sorts c.in-Ok-bits_sort.ensures.grows c.in-Ok-bits_sort.ensures.distinct c.requires.ready

pub returns-in-Err-bits_sort-clause-ready : goal.returns-in-Err-bits_sort-clause-ready
returns-in-Err-bits_sort-clause-ready c = grown c.args.world.now c.bits_sort.new.sorts c.in-Err-bits_sort.ensures.grows c.in-Err-bits_sort.ensures.distinct c.requires.ready

pub returns-in-Ok-live_sort-clause-ready : goal.returns-in-Ok-live_sort-clause-ready
returns-in-Ok-live_sort-clause-ready c = grown c.args.world.now c.live_sort.new.sorts c.in-Ok-live_sort.ensures.grows c.in-Ok-live_sort.ensures.distinct c.requires.ready

pub returns-in-Err-live_sort-clause-ready : goal.returns-in-Err-live_sort-clause-ready
returns-in-Err-live_sort-clause-ready c = grown c.args.world.now c.live_sort.new.sorts c.in-Err-live_sort.ensures.grows c.in-Err-live_sort.ensures.distinct c.requires.ready
