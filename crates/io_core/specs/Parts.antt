-- A text that is put in parts.
use Rattle.std.specs.Prelude.{ℕ, List, [], ◌∷◌, ◌++◌, decimal}
use Rattle.io_core.specs.declared.parts.Part.{Part}
use Rattle.io_core.specs.declared.parts.Part.TheVariants.{Text, Number}

-- the bytes of one part: its text as it is, or its number in decimal
abbrev pub part_text : Part → List ℕ
part_text (Text text) = text.now
part_text (Number n) = decimal n

-- the bytes of all the parts, in their order
abbrev pub parts_text : List Part → List ℕ
parts_text [] = []
parts_text (part ∷ parts) = part_text part ++ parts_text parts
