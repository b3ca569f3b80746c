use Rattle.std.proofs.Common.{◌∙◌, List, map, subst}
use Rattle.std.specs.Option.{option_map}
use Rattle.lex_core.specs.declared.token.Tok.{Tok}
use Rattle.sort_store.specs.Tree.{tree}
use Rattle.theory_core.specs.TheorySymbols.{form_of}
use Rattle.typer.specs.Answers.{Answers, head_answer}
use Rattle.typer.specs.BitVectors.{bits_form, index_of}
use Rattle.typer.specs.FunctionSymbols.{bits, if_indexed, signature_of, text_of, theory}
use Rattle.typer.specs.TermRules.{judge_indexed_function}
use Rattle.typer.proofs.BitsSteps.{indexed_form}
use Rattle.typer.proofs.HeadSteps.{indexed_bits_means, indexed_step, indexed_theory_means, is_written, not_written}
use Rattle.typer.proofs.head.theory_head.Goals as goal

pub returns-then-is_indexed-clause-answer : goal.returns-then-is_indexed-clause-answer
returns-then-is_indexed-clause-answer c =
    indexed_step c.args.world.now c.args.name c.args.at (map tree c.args.args.now) (option_map tree c.args.asked.now) c.args.indices.now (theory (text_of (signature_of c.args.world.now) c.args.name)) (head_answer c.divisible_head.result)
    (indexed_theory_means c.args.world.now c.args.name c.args.at (map tree c.args.args.now) (option_map tree c.args.asked.now) c.args.indices.now
    (is_written if_indexed (form_of c.args.world.now.theories) c.text_of-text.result.now (text_of (signature_of c.args.world.now) c.args.name) c.text_of-text.ensures c.theory_form.result c.theory_form.ensures c.is_indexed.result c.is_indexed.ensures (theory (text_of (signature_of c.args.world.now) c.args.name)) c.if-is_indexed.true))
    c.divisible_head.ensures.answer

pub bits_head-requires-clause-written : goal.bits_head-requires-clause-written
bits_head-requires-clause-written c =
    indexed_form _ (bits (text_of (signature_of c.args.world.now) c.args.name) (map (index_of c.args.world.now.names) c.args.indices.now))
    (is_written if_indexed (bits_form c.args.world.now.theories) c.text_of-text.result.now (text_of (signature_of c.args.world.now) c.args.name) c.text_of-text.ensures c.bits_form.result c.bits_form.ensures c.is_indexed-2.result c.is_indexed-2.ensures (bits (text_of (signature_of c.args.world.now) c.args.name) (map (index_of c.args.world.now.names) c.args.indices.now)) c.if-is_indexed-2.true)

pub returns-then-is_indexed-2-clause-answer : goal.returns-then-is_indexed-2-clause-answer
returns-then-is_indexed-2-clause-answer c =
    indexed_step c.args.world.now c.args.name c.args.at (map tree c.args.args.now) (option_map tree c.args.asked.now) c.args.indices.now (bits (text_of (signature_of c.args.world.now) c.args.name) (map (index_of c.args.world.now.names) c.args.indices.now)) (head_answer c.bits_head.result)
    (indexed_bits_means c.args.world.now c.args.name c.args.at (map tree c.args.args.now) (option_map tree c.args.asked.now) c.args.indices.now
    (not_written if_indexed (form_of c.args.world.now.theories) c.text_of-text.result.now (text_of (signature_of c.args.world.now) c.args.name) c.text_of-text.ensures c.theory_form.result c.theory_form.ensures c.is_indexed.result c.is_indexed.ensures (theory (text_of (signature_of c.args.world.now) c.args.name)) c.if-is_indexed.false)
    (is_written if_indexed (bits_form c.args.world.now.theories) c.text_of-text.result.now (text_of (signature_of c.args.world.now) c.args.name) c.text_of-text.ensures c.bits_form.result c.bits_form.ensures c.is_indexed-2.result c.is_indexed-2.ensures (bits (text_of (signature_of c.args.world.now) c.args.name) (map (index_of c.args.world.now.names) c.args.indices.now)) c.if-is_indexed-2.true))
    (subst (λ (is : List Tok). Answers (head_answer c.bits_head.result) (judge_indexed_function (signature_of c.args.world.now) (bits (text_of (signature_of c.args.world.now) c.args.name) (map (index_of c.args.world.now.names) is)) c.args.at (map tree c.args.args.now) (option_map tree c.args.asked.now) c.args.name is))
    (c.deref.ensures.value ∙ c.in_ok-toks.ensures.ok) c.bits_head.ensures.answer)
