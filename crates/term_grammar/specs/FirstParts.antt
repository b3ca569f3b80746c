-- The first of some s-expressions, by its form, and the others.
use Rattle.std.specs.Prelude.{Bool, true, false, List, [], ◌∷◌, Option, Some, None, option_and_then, if◌then◌else◌}
use Rattle.lex_core.specs.declared.token.Tok.{Tok}
use Rattle.sexp_core.specs.Sexp.{Sexp, atom, list, Sexps, nil, cons}
use Rattle.sexp_core.specs.declared.parts.Part.{Part}
use Rattle.sexp_core.specs.declared.parts.Part.TheVariants as part
use Rattle.term_grammar.specs.Words.{is_symbol}

infixl 10 ◌>>=◌
abbrev pub ◌>>=◌ : {A B : Type 0} → Option A → (A → Option B) → Option B
o >>= f = option_and_then f o

-- the tree as a part
abbrev pub part_of : Sexp Tok → Part
part_of (atom t) = part.Atom t
part_of (list at ts) = part.List at ts

-- tokens as trees
abbrev pub atoms : List Tok → Sexps Tok
atoms [] = nil
atoms (t ∷ ts) = cons (atom t) (atoms ts)

-- any tree, and the others
abbrev pub any_first : Sexps Tok → Option (Part × Sexps Tok)
any_first nil = None
any_first (cons t ts) = Some (part_of t, ts)

-- a token, and the others
abbrev pub token_first : Sexps Tok → Option (Tok × Sexps Tok)
token_first (cons (atom t) ts) = Some (t, ts)
token_first _ = None

-- a symbol, and the others
abbrev pub symbol_first : Sexps Tok → Option (Tok × Sexps Tok)
symbol_first (cons (atom t) ts) = if is_symbol t then Some (t, ts) else None
symbol_first _ = None

-- the parts of a list, and the others
abbrev pub list_first : Sexps Tok → Option (Sexps Tok × Sexps Tok)
list_first (cons (list at us) ts) = Some (us, ts)
list_first _ = None

abbrev pub is_empty : Sexps Tok → Bool
is_empty nil = true
is_empty (cons t ts) = false

-- a condition on the way
abbrev pub guard : Bool → Option (Unit {0})
guard true = Some tt
guard false = None
