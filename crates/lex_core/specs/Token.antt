-- A token as contracts see it: its kind, its name as bytes and the offset of its first byte.
use Rattle.std.specs.Prelude.{ℕ, ◌<◌, List, [], ◌∷◌, ◌++◌, length, Option, Some, None, slice_index_or}
use Rattle.lex_core.specs.declared.lexer.Fed.{Fed}
use Rattle.lex_core.specs.declared.token.Tok.{Tok}
use Rattle.lex_core.specs.declared.token.TokKind.{TokKind}

pub record Token : Type 0 where
  pub kind : TokKind
  pub name : List ℕ
  pub at : ℕ

-- the token with its name as bytes, under a table of texts
abbrev pub token_of : List (List ℕ) → Tok → Token
token_of texts tok = record { kind = tok.kind; name = slice_index_or texts tok.name []; at = tok.at }

-- the token in the option
abbrev pub option_tokens : List (List ℕ) → Option Tok → List Token
option_tokens texts None = []
option_tokens texts (Some tok) = token_of texts tok ∷ []

-- the tokens of one byte, in order
abbrev pub fed_tokens : List (List ℕ) → Fed → List Token
fed_tokens texts fed = option_tokens texts fed.first ++ option_tokens texts fed.second

-- the name is one of the table
abbrev pub IsInterned : List (List ℕ) → Option Tok → Type 0
IsInterned texts None = Unit {0}
IsInterned texts (Some tok) = tok.name < length texts

-- the tokens in the option, in order
abbrev pub option_items : Option Tok → List Tok
option_items None = []
option_items (Some tok) = tok ∷ []

-- each name is one of the table
abbrev pub AllInterned : List (List ℕ) → List Tok → Type 0
AllInterned texts [] = Unit {0}
AllInterned texts (tok ∷ toks) = (tok.name < length texts) × AllInterned texts toks
