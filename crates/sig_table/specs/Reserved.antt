-- The 43 reserved words of the lexicon, ascending by their bytes, numbered from 1.
use Rattle.std.specs.Prelude.{ℕ, ◌+◌, List, [], ◌∷◌, codes}
use Rattle.sig_table.specs.Row.{Row}

abbrev pub reserved_words : List (List ℕ)
reserved_words =
    codes "!" ∷
    codes "BINARY" ∷
    codes "DECIMAL" ∷
    codes "HEXADECIMAL" ∷
    codes "NUMERAL" ∷
    codes "STRING" ∷
    codes "_" ∷
    codes "as" ∷
    codes "assert" ∷
    codes "check-sat" ∷
    codes "check-sat-assuming" ∷
    codes "declare-const" ∷
    codes "declare-datatype" ∷
    codes "declare-datatypes" ∷
    codes "declare-fun" ∷
    codes "declare-sort" ∷
    codes "define-fun" ∷
    codes "define-fun-rec" ∷
    codes "define-funs-rec" ∷
    codes "define-sort" ∷
    codes "echo" ∷
    codes "exists" ∷
    codes "exit" ∷
    codes "forall" ∷
    codes "get-assertions" ∷
    codes "get-assignment" ∷
    codes "get-info" ∷
    codes "get-model" ∷
    codes "get-option" ∷
    codes "get-proof" ∷
    codes "get-unsat-assumptions" ∷
    codes "get-unsat-core" ∷
    codes "get-value" ∷
    codes "let" ∷
    codes "match" ∷
    codes "par" ∷
    codes "pop" ∷
    codes "push" ∷
    codes "reset" ∷
    codes "reset-assertions" ∷
    codes "set-info" ∷
    codes "set-logic" ∷
    codes "set-option" ∷ []

-- rows of these names with codes that count up
abbrev pub numbered_from : ℕ → List (List ℕ) → List Row
numbered_from n [] = []
numbered_from n (name ∷ names) = record { name = name; code = n } ∷ numbered_from (n + 1) names

abbrev pub reserved_rows : List Row
reserved_rows = numbered_from 1 reserved_words
