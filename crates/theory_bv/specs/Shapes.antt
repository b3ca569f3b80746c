-- The table of the code: each symbol with the number of its shape, and the declaration of each shape.
use Rattle.std.specs.Prelude.{ℕ, ◌==◌, if◌then◌else◌, List, [], ◌∷◌, codes}
use Rattle.sig_table.specs.Row.{Row}
use Rattle.theory_bv.specs.declared.shape.Shape.{Shape}
use Rattle.theory_bv.specs.declared.shape.Shape.TheVariants.{Concatenation, Extraction, Unary, Binary, Associative, Predicate, Comparison, Repetition, Extension, Rotation, Literal}
use Rattle.theory_bv.specs.Declarations.{Declaration, concatenation, extraction, unary, binary, associative, predicate, comparison, repetition, extension, rotation, literal}

abbrev pub shape_declaration : Shape → Declaration
shape_declaration Concatenation = concatenation
shape_declaration Extraction = extraction
shape_declaration Unary = unary
shape_declaration Binary = binary
shape_declaration Associative = associative
shape_declaration Predicate = predicate
shape_declaration Comparison = comparison
shape_declaration Repetition = repetition
shape_declaration Extension = extension
shape_declaration Rotation = rotation
shape_declaration Literal = literal

-- the shape with a number
abbrev pub shape_numbered : ℕ → Shape
shape_numbered n =
    if n == 0 then Concatenation
    else if n == 1 then Extraction
    else if n == 2 then Unary
    else if n == 3 then Binary
    else if n == 4 then Associative
    else if n == 5 then Predicate
    else if n == 6 then Comparison
    else if n == 7 then Repetition
    else if n == 8 then Extension
    else if n == 9 then Rotation
    else Literal

abbrev pub row : List ℕ → ℕ → Row
row name number = record { name = name; code = number }

-- the symbols in ascending order of their bytes
abbrev pub bv_rows : List Row
bv_rows =
    row (codes "bvadd") 4 ∷
    row (codes "bvand") 4 ∷
    row (codes "bvashr") 3 ∷
    row (codes "bvcomp") 6 ∷
    row (codes "bvlshr") 3 ∷
    row (codes "bvmul") 4 ∷
    row (codes "bvnand") 3 ∷
    row (codes "bvneg") 2 ∷
    row (codes "bvnor") 3 ∷
    row (codes "bvnot") 2 ∷
    row (codes "bvor") 4 ∷
    row (codes "bvsdiv") 3 ∷
    row (codes "bvsge") 5 ∷
    row (codes "bvsgt") 5 ∷
    row (codes "bvshl") 3 ∷
    row (codes "bvsle") 5 ∷
    row (codes "bvslt") 5 ∷
    row (codes "bvsmod") 3 ∷
    row (codes "bvsrem") 3 ∷
    row (codes "bvsub") 3 ∷
    row (codes "bvudiv") 3 ∷
    row (codes "bvuge") 5 ∷
    row (codes "bvugt") 5 ∷
    row (codes "bvule") 5 ∷
    row (codes "bvult") 5 ∷
    row (codes "bvurem") 3 ∷
    row (codes "bvxnor") 3 ∷
    row (codes "bvxor") 4 ∷
    row (codes "concat") 0 ∷
    row (codes "extract") 1 ∷
    row (codes "repeat") 7 ∷
    row (codes "rotate_left") 9 ∷
    row (codes "rotate_right") 9 ∷
    row (codes "sign_extend") 8 ∷
    row (codes "zero_extend") 8 ∷ []
