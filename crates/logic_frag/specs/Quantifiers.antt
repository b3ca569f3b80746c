-- Whether a term is a quantifier, as a test.
use Rattle.std.specs.Prelude.{Bool, true, false}
use Rattle.term_store.specs.Term.{PlainTerm, term, quant}

abbrev pub is_quantifier : PlainTerm → Bool
is_quantifier (term u s (quant all vs b)) = true
is_quantifier _ = false
