use Rattle.std.proofs.Common.{◌≡◌, take, map}
use Rattle.std.specs.List.{fold}
use Rattle.lex_core.specs.NameTable.{texts_of, with_text}
use Rattle.lex_core.proofs.names.add_texts.Given as goal

abbrev pub invariant-loop-text : goal.invariant-loop-text
invariant-loop-text l = texts_of l.texts ≡ fold with_text (texts_of l.fn.texts) (map (λ text. text.now) (take l.text-index l.more))
