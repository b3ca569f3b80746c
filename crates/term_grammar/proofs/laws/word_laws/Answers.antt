use Rattle.std.proofs.Common.{refl}
use Rattle.term_grammar.proofs.laws.word_laws.Goals as goal

pub returns : goal.returns
returns c = record {
  annotation = refl;
  underscore = refl;
  as_word = refl;
  exists = refl;
  forall = refl;
  let_word = refl;
  match_word = refl;
  par = refl;
  named = refl;
  pattern = refl;
  global_declarations = refl;
  true_symbol = refl;
  false_symbol = refl;
  not_symbol = refl;
}
