-- The texts of the words that the grammar tells by their numbers.
use Rattle.std.specs.Prelude.{◌≡◌, ℕ, List, Some, codes, slice_get}
use Rattle.lex_core.specs.NameTable.{fixed_texts}
use Rattle.term_grammar.specs.declared.words.TheConstants.{ANNOTATION, UNDERSCORE, AS, EXISTS, FORALL, LET, MATCH, PAR, NAMED, PATTERN, GLOBAL_DECLARATIONS, TRUE, FALSE, NOT}

-- the word of a number in every table of names
abbrev pub IsWord : ℕ → List ℕ → Type 0
IsWord n text = slice_get fixed_texts n ≡ Some text

-- the words of the productions of sorts, terms and declarations
pub record SyntaxWords : Type 0 where
  pub annotation : IsWord ANNOTATION (codes "!")
  pub underscore : IsWord UNDERSCORE (codes "_")
  pub as_word : IsWord AS (codes "as")
  pub exists : IsWord EXISTS (codes "exists")
  pub forall : IsWord FORALL (codes "forall")
  pub let_word : IsWord LET (codes "let")
  pub match_word : IsWord MATCH (codes "match")
  pub par : IsWord PAR (codes "par")
  pub named : IsWord NAMED (codes ":named")
  pub pattern : IsWord PATTERN (codes ":pattern")
  pub global_declarations : IsWord GLOBAL_DECLARATIONS (codes ":global-declarations")
  pub true_symbol : IsWord TRUE (codes "true")
  pub false_symbol : IsWord FALSE (codes "false")
  pub not_symbol : IsWord NOT (codes "not")
