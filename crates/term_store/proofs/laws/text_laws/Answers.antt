use Rattle.term_store.proofs.TextDepths.{sort_nesting}
use Rattle.term_store.proofs.laws.text_laws.Goals as goal

pub returns : goal.returns
returns c = sort_nesting
