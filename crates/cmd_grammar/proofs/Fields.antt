-- The fields of a constructor as variables.
use Rattle.std.proofs.Common.{◌≡◌, ℕ, zero, suc, List, [], ◌∷◌, length, slice_get, Option, option_map, refl, ap, sym, ◌∙◌}
use Rattle.term_grammar.specs.declared.binder.RawVariable.{RawVariable}
use Rattle.term_grammar.specs.Syntax.{SortedSymbol}
use Rattle.term_grammar.specs.TermViews.{each_variable}
use Rattle.cmd_grammar.specs.DeclarationViews.{variable_seen}

pub fields_count : (vs : List SortedSymbol) → length (each_variable vs) ≡ length vs
fields_count [] = refl
fields_count (v ∷ vs) = ap suc (fields_count vs)

field_seen : (vs : List SortedSymbol) (i : ℕ) → option_map variable_seen (slice_get (each_variable vs) i) ≡ slice_get vs i
field_seen [] i = refl
field_seen (v ∷ vs) zero = refl
field_seen (v ∷ vs) (suc i) = field_seen vs i

-- the field at an index, as the code finds it
pub field_at : (vs ws : List SortedSymbol) (i : ℕ) (o p : Option RawVariable) → vs ≡ ws → o ≡ slice_get (each_variable vs) i → o ≡ p → option_map variable_seen p ≡ slice_get ws i
field_at vs ws i o p q e k = sym (ap (option_map variable_seen) k) ∙ ap (option_map variable_seen) e ∙ field_seen vs i ∙ ap (λ xs. slice_get xs i) q

pub ruleset fields = (fields_count)
