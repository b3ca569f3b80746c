-- What s-expressions keep of the tokens of the lexer, with name numbers or with texts.
use Rattle.std.specs.Prelude.{ℕ, List, map}
use Rattle.lex_core.specs.declared.token.TokKind.{TokKind}
use Rattle.lex_core.specs.declared.token.TokKind.TheVariants as kind
use Rattle.lex_core.specs.declared.token.Tok.{Tok}
use Rattle.lex_core.specs.Token.{Token}
use Rattle.sexp_core.specs.Sexp.{FlatToken, Opening, Closing, Word}

-- a token of a kind, at a byte, that is the given atom if it is no parenthesis
abbrev pub flat_of : {A : Type 0} → TokKind → ℕ → A → FlatToken A
flat_of kind.Open at a = Opening at
flat_of kind.Close at a = Closing
flat_of kind.Numeral at a = Word a
flat_of kind.Decimal at a = Word a
flat_of kind.Hexadecimal at a = Word a
flat_of kind.Binary at a = Word a
flat_of kind.Str at a = Word a
flat_of kind.Symbol at a = Word a
flat_of kind.Reserved at a = Word a
flat_of kind.Keyword at a = Word a

abbrev pub flat_tok : Tok → FlatToken Tok
flat_tok t = flat_of t.kind t.at t

abbrev pub flat_token : Token → FlatToken Token
flat_token t = flat_of t.kind t.at t

abbrev pub flat_toks : List Tok → List (FlatToken Tok)
flat_toks ts = map flat_tok ts

abbrev pub flat_tokens : List Token → List (FlatToken Token)
flat_tokens ts = map flat_token ts
