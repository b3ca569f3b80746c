-- The named terms of a command: each declares its name, with the number that comes next.
use Rattle.std.specs.Prelude.{◌≡◌, ℕ, ◌+◌, List, [], ◌∷◌, ◌++◌, length}
use Rattle.term_store.specs.Declarations.{Declaration, sort_symbol, function_symbol, datatype, constructor_of, selector_of, definition, term_name}
use Rattle.typer.specs.FunctionSymbols.{Signature}

-- the name of a named term
abbrev pub name_given : Declaration → ℕ
name_given (term_name d n t) = n
name_given (sort_symbol d n a) = n
name_given (function_symbol d n args r) = n
name_given (datatype t) = t.name
name_given (constructor_of t c) = c.name
name_given (selector_of t c f) = f.name
name_given (definition d) = d.name

-- a named term with the number that comes after these names
abbrev pub IsNamedAfter : Signature → List ℕ → Declaration → Type 0
IsNamedAfter signature seen (term_name d n t) = d.0 ≡ signature.first + length seen
IsNamedAfter signature seen _ = ⊥

-- named terms one after the other, and the names that the command has declared before them and after them
abbrev pub AreNamedAfter : Signature → List ℕ → List Declaration → List ℕ → Type 0
AreNamedAfter signature before [] after = after ≡ before
AreNamedAfter signature before (d ∷ ds) after = IsNamedAfter signature before d × AreNamedAfter signature (before ++ name_given d ∷ []) ds after
