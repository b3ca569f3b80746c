-- A list of parts, read from its first part on.
use Rattle.std.specs.Prelude.{◌≡◌, List, [], ◌∷◌, Option, Some, None}
use Rattle.lex_core.specs.declared.token.Tok.{Tok}
use Rattle.sexp_core.specs.Sexp.{Sexp, Sexps, nil, cons}

-- the first part and the others
abbrev pub SplitsList : {A B : Type 0} → (B → List A) → B → Option (A × B) → Type 0
SplitsList parts b None = parts b ≡ []
SplitsList parts b (Some p) = parts b ≡ p.0 ∷ parts p.1

-- the parts of such an option
abbrev pub unsplit_list : {A B : Type 0} → (B → List A) → Option (A × B) → List A
unsplit_list parts None = []
unsplit_list parts (Some p) = p.0 ∷ parts p.1

-- the parts of a list of tokens are the tokens
abbrev pub each_token : List Tok → List Tok
each_token ts = ts

-- the s-expressions as a list
abbrev pub each_sexpr : Sexps Tok → List (Sexp Tok)
each_sexpr nil = []
each_sexpr (cons t ts) = t ∷ each_sexpr ts
