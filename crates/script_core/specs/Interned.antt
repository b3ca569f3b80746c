-- Names of a tree that are in a table of names.
use Rattle.std.specs.Prelude.{ℕ, ◌<◌, List, [], ◌∷◌, length}
use Rattle.lex_core.specs.Token.{Token, token_of}
use Rattle.lex_core.specs.declared.token.Tok.{Tok}
use Rattle.sexp_core.specs.Sexp.{Sexp, FlatToken, Opening, Closing, Word, map_sexp}

-- each name is in the table
abbrev pub AreInterned : List (List ℕ) → List (FlatToken Tok) → Type 0
AreInterned texts [] = Unit {0}
AreInterned texts (Opening at ∷ tokens) = AreInterned texts tokens
AreInterned texts (Closing ∷ tokens) = AreInterned texts tokens
AreInterned texts (Word tok ∷ tokens) = (tok.name < length texts) × AreInterned texts tokens

-- the tree with its names as texts
abbrev pub sexp_of : List (List ℕ) → Sexp Tok → Sexp Token
sexp_of texts t = map_sexp (token_of texts) t
