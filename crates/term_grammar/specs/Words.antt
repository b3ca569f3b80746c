-- The words of the grammar, told by the numbers that they have in every table of names.
use Rattle.std.specs.Prelude.{ℕ, Bool, true, false, ◌&&◌, ◌||◌, ◌==◌, if◌then◌else◌}
use Rattle.lex_core.specs.declared.token.TokKind.{TokKind}
use Rattle.lex_core.specs.declared.token.TokKind.TheVariants as kind
use Rattle.lex_core.specs.declared.token.Tok.{Tok}
use Rattle.term_grammar.specs.declared.words.TheConstants.{ANNOTATION, EXISTS, FORALL, LET, MATCH}
use Rattle.term_grammar.specs.declared.words.TermWord.{TermWord}
use Rattle.term_grammar.specs.declared.words.TermWord.TheVariants as word

abbrev pub symbol_kind : TokKind → Bool
symbol_kind kind.Symbol = true
symbol_kind _ = false

abbrev pub keyword_kind : TokKind → Bool
keyword_kind kind.Keyword = true
keyword_kind _ = false

abbrev pub reserved_kind : TokKind → Bool
reserved_kind kind.Reserved = true
reserved_kind _ = false

-- an index is a numeral or a symbol
abbrev pub index_kind : TokKind → Bool
index_kind kind.Numeral = true
index_kind kind.Symbol = true
index_kind _ = false

-- numeral | decimal | hexadecimal | binary | string
abbrev pub constant_kind : TokKind → Bool
constant_kind kind.Numeral = true
constant_kind kind.Decimal = true
constant_kind kind.Hexadecimal = true
constant_kind kind.Binary = true
constant_kind kind.Str = true
constant_kind _ = false

abbrev pub numeral_kind : TokKind → Bool
numeral_kind kind.Numeral = true
numeral_kind _ = false

abbrev pub string_kind : TokKind → Bool
string_kind kind.Str = true
string_kind _ = false

abbrev pub is_numeral : Tok → Bool
is_numeral t = numeral_kind t.kind

abbrev pub is_string : Tok → Bool
is_string t = string_kind t.kind

abbrev pub is_symbol : Tok → Bool
is_symbol t = symbol_kind t.kind

abbrev pub is_keyword : Tok → Bool
is_keyword t = keyword_kind t.kind

abbrev pub is_index : Tok → Bool
is_index t = index_kind t.kind

abbrev pub is_constant : Tok → Bool
is_constant t = constant_kind t.kind

-- the reserved word of this number
abbrev pub is_reserved : ℕ → Tok → Bool
is_reserved n t = reserved_kind t.kind && (t.name == n)

-- the word of a production of terms with this number
abbrev pub word_numbered : ℕ → TermWord
word_numbered n =
    if n == LET then word.Let
    else if n == FORALL then word.Forall
    else if n == EXISTS then word.Exists
    else if n == MATCH then word.Match
    else if n == ANNOTATION then word.Annotation
    else word.Other

abbrev pub begins_with : Tok → TermWord
begins_with t = if reserved_kind t.kind then word_numbered t.name else word.Other

-- the keyword of this number
abbrev pub is_key : ℕ → Tok → Bool
is_key n t = keyword_kind t.kind && (t.name == n)

-- constant | symbol
abbrev pub is_value_token : Tok → Bool
is_value_token t = is_constant t || is_symbol t
