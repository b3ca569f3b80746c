-- S-expressions over any kind of atom, and their tokens.
use Rattle.std.specs.Prelude.{ℕ, ◌+◌, List, [], ◌∷◌, ◌++◌}

-- An s-expression is an atom, or a list of s-expressions with the byte of its opening parenthesis.
mutual
  pub data Sexp (A : Type 0) : Type 0 where
    atom : A → Sexp A
    list : ℕ → Sexps A → Sexp A

  pub data Sexps (A : Type 0) : Type 0 where
    nil : Sexps A
    cons : Sexp A → Sexps A → Sexps A

-- What an s-expression keeps of a token. Of a closing parenthesis it does not keep the byte.
pub data FlatToken (A : Type 0) : Type 0 where
  Opening : ℕ → FlatToken A
  Closing : FlatToken A
  Word : A → FlatToken A

-- the tokens of an s-expression
abbrev mutual
  pub flat : {A : Type 0} → Sexp A → List (FlatToken A)
  flat (atom a) = Word a ∷ []
  flat (list at ts) = Opening at ∷ (flat_all ts ++ Closing ∷ [])

  pub flat_all : {A : Type 0} → Sexps A → List (FlatToken A)
  flat_all nil = []
  flat_all (cons t ts) = flat t ++ flat_all ts

-- the same s-expression with each atom replaced
abbrev mutual
  pub map_sexp : {A B : Type 0} → (A → B) → Sexp A → Sexp B
  map_sexp f (atom a) = atom (f a)
  map_sexp f (list at ts) = list at (map_sexps f ts)

  pub map_sexps : {A B : Type 0} → (A → B) → Sexps A → Sexps B
  map_sexps f nil = nil
  map_sexps f (cons t ts) = cons (map_sexp f t) (map_sexps f ts)

abbrev pub map_flat : {A B : Type 0} → (A → B) → FlatToken A → FlatToken B
map_flat f (Opening at) = Opening at
map_flat f Closing = Closing
map_flat f (Word a) = Word (f a)

abbrev pub append : {A : Type 0} → Sexps A → Sexps A → Sexps A
append nil us = us
append (cons t ts) us = cons t (append ts us)

-- how many s-expressions there are
abbrev pub count_of : {A : Type 0} → Sexps A → ℕ
count_of nil = 0
count_of (cons t ts) = count_of ts + 1
