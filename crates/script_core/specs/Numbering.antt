-- The numbers of names: a table of names begins with the fixed texts, and each name that is new in the text comes last in it.
-- So the text alone gives each of its names a number.
use Rattle.std.specs.Prelude.{ℕ, List, [], ◌∷◌}
use Rattle.lex_core.specs.NameTable.{number_of, with_text}
use Rattle.lex_core.specs.Token.{Token}
use Rattle.lex_core.specs.declared.token.Tok.{Tok}
use Rattle.sexp_core.specs.Sexp.{Sexp, FlatToken, Opening, Closing, Word, map_sexp}

-- the table after some more tokens
abbrev pub table_after : List (List ℕ) → List (FlatToken Token) → List (List ℕ)
table_after texts [] = texts
table_after texts (Opening at ∷ tokens) = table_after texts tokens
table_after texts (Closing ∷ tokens) = table_after texts tokens
table_after texts (Word token ∷ tokens) = table_after (with_text texts token.name) tokens

-- the token with its name as the number that it has in the table
abbrev pub numbered : List (List ℕ) → Token → Tok
numbered texts token = record { kind = token.kind; name = number_of token.name texts; at = token.at }

abbrev pub numbered_sexp : List (List ℕ) → Sexp Token → Sexp Tok
numbered_sexp texts t = map_sexp (numbered texts) t
