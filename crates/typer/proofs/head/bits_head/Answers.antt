use Rattle.std.proofs.Common.{List, map, subst, sym, ◌∙◌, Err, Ok}
use Rattle.std.specs.Option.{option_map}
use Rattle.lex_core.specs.declared.token.Tok.{Tok}
use Rattle.sort_store.specs.Tree.{Sort, tree}
use Rattle.typer.specs.Answers.{Answers, head_answer}
use Rattle.typer.specs.BitVectors.{index_of, judge_bits}
use Rattle.typer.specs.FunctionSymbols.{bits, signature_of, text_of}
use Rattle.typer.proofs.ReadyKept.{grown}
use Rattle.typer.proofs.BitsSteps.{bits_moved, no_indices}
use Rattle.typer.proofs.IndexLists.{none_empty}
use Rattle.typer.proofs.HeadSteps.{index_head, takes_indices, without_symbol}
use Rattle.typer.proofs.head.bits_head.Goals as goal

pub returns-then-is_empty-clause-answer : goal.returns-then-is_empty-clause-answer
returns-then-is_empty-clause-answer c =
    let text = text_of (signature_of c.args.world.now) c.args.name in
    let indices = map (index_of c.args.world.now.names) c.args.toks.now in
    takes_indices c.args.world.now c.args.name c.args.at (map tree c.args.args.now) (option_map tree c.args.asked.now) c.args.toks.now (bits text indices) (Err c.fault.result) tt
    (without_symbol (signature_of c.args.world.now) (bits text indices) c.args.at (map tree c.args.args.now) (option_map tree c.args.asked.now) c.args.name (map (λ (i : Tok). i.name) c.args.toks.now) c.fault.result
    (subst (λ (is : List Tok). Answers {A = Sort} (Err c.fault.result) (judge_bits text (map (index_of c.args.world.now.names) is) c.args.at (map tree c.args.args.now) (option_map tree c.args.asked.now)))
    (sym (none_empty c.args.toks.now (sym c.is_empty.ensures ∙ c.if-is_empty.true)))
    (no_indices c.args.world.now.theories text c.args.at (map tree c.args.args.now) (option_map tree c.args.asked.now) c.fault.result c.requires.written c.fault.ensures)))

pub returns-in-Ok-clause-answer : goal.returns-in-Ok-clause-answer
returns-in-Ok-clause-answer c =
    let text = text_of (signature_of c.args.world.now) c.args.name in
    let indices = map (index_of c.args.world.now.names) c.args.toks.now in
    takes_indices c.args.world.now c.args.name c.args.at (map tree c.args.args.now) (option_map tree c.args.asked.now) c.args.toks.now (bits text indices) (head_answer c.with_indices.result) tt
    (index_head c.with_indices.result c.theory_symbol.result (bits text indices) c.args.name c.args.toks.now c.in-Ok.sort (signature_of c.args.world.now) c.args.at (map tree c.args.args.now) (option_map tree c.args.asked.now)
    c.with_indices.ensures.symbol c.with_indices.ensures.sort c.with_indices.ensures.err (c.theory_symbol.ensures.symbol text) c.theory_symbol.ensures.sort
    (bits_moved (Ok (tree c.in-Ok.sort)) c.args.at (map tree c.args.args.now) (option_map tree c.args.asked.now) c.text_of-text.result.now text c.deref.result.now indices c.text_of-text.ensures
    (c.deref.ensures.value ∙ c.in_ok-indices.ensures.ok) c.in-Ok.ensures.answer))

pub returns-clause-answer : goal.returns-clause-answer
returns-clause-answer c =
    let text = text_of (signature_of c.args.world.now) c.args.name in
    let indices = map (index_of c.args.world.now.names) c.args.toks.now in
    takes_indices c.args.world.now c.args.name c.args.at (map tree c.args.args.now) (option_map tree c.args.asked.now) c.args.toks.now (bits text indices) (Err c.in-Err.error) tt
    (without_symbol (signature_of c.args.world.now) (bits text indices) c.args.at (map tree c.args.args.now) (option_map tree c.args.asked.now) c.args.name (map (λ (i : Tok). i.name) c.args.toks.now) c.in-Err.error
    (bits_moved (Err c.in-Err.error) c.args.at (map tree c.args.args.now) (option_map tree c.args.asked.now) c.text_of-text.result.now text c.deref.result.now indices c.text_of-text.ensures
    (c.deref.ensures.value ∙ c.in_ok-indices.ensures.ok) c.in-Err.ensures.answer))

pub returns-in-Ok-clause-ready : goal.returns-in-Ok-clause-ready
returns-in-Ok-clause-ready c = grown c.args.world.now c.bits_sort.new.sorts c.in-Ok.ensures.grows c.in-Ok.ensures.distinct c.requires.ready

pub returns-clause-ready : goal.returns-clause-ready
returns-clause-ready c = grown c.args.world.now c.bits_sort.new.sorts c.in-Err.ensures.grows c.in-Err.ensures.distinct c.requires.ready
