-- Trees that stand one after the other, each read by itself.
use Rattle.std.specs.Prelude.{◌≡◌, ℕ, List, [], ◌∷◌, Option, Some, None, Result, Ok, is_ok, IsTrue}
use Rattle.std.specs.List.{list_all}
use Rattle.lex_core.specs.declared.token.Tok.{Tok}
use Rattle.sexp_core.specs.Sexp.{Sexp, Sexps, nil, cons}
use Rattle.term_grammar.specs.Reads.{made_of_two}

-- the trees as a list
abbrev pub each_tree : Sexps Tok → List (Sexp Tok)
each_tree nil = []
each_tree (cons t ts) = t ∷ each_tree ts

-- what the trees read as; the first fault counts
abbrev pub read_all : {A : Type 0} → (Sexp Tok → Result A ℕ) → Sexps Tok → Result (List A) ℕ
read_all read nil = Ok []
read_all read (cons t ts) = made_of_two ◌∷◌ (read t) (read_all read ts)

-- each of the trees reads
abbrev pub EachReads : {A : Type 0} → (Sexp Tok → Result A ℕ) → Sexps Tok → Type 0
EachReads read ts = IsTrue (list_all (λ t. is_ok (read t)) (each_tree ts))

-- an option of the first part and the others, where a part is seen by a function
abbrev pub SplitsBy : {A B : Type 0} → (A → B) → List B → Option (A × List B) → Type 0
SplitsBy seen ps None = ps ≡ []
SplitsBy seen ps (Some p) = ps ≡ seen p.0 ∷ p.1
