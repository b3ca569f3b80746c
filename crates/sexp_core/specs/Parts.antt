-- The first of some s-expressions.
use Rattle.std.specs.Prelude.{◌≡◌, ℕ, ◌+◌, ◌-◌, ◌≤◌, Option, Some, None, ⊤}
use Rattle.lex_core.specs.declared.token.Tok.{Tok}
use Rattle.sexp_core.specs.Sexp.{Sexp, Sexps, atom, list, nil, cons}
use Rattle.sexp_core.specs.declared.tree.Item.{Item}
use Rattle.sexp_core.specs.declared.tree.Item.TheVariants as item
use Rattle.sexp_core.specs.declared.parts.Part.{Part}
use Rattle.sexp_core.specs.declared.parts.Part.TheVariants as part

-- the s-expression that a part is
abbrev pub whole : Part → Sexp Tok
whole (part.Atom t) = atom t
whole (part.List at ts) = list at ts

-- an option of the first s-expression and the others
abbrev pub Splits : Sexps Tok → Option (Part × Sexps Tok) → Type 0
Splits ts None = ts ≡ nil
Splits ts (Some p) = ts ≡ cons (whole p.0) p.1

-- the s-expressions of such an option
abbrev pub unsplit : Option (Part × Sexps Tok) → Sexps Tok
unsplit None = nil
unsplit (Some p) = cons (whole p.0) p.1

-- an item among s-expressions that begin at a place, moved to the parts of a list that begins at 0
abbrev pub moved_item : ℕ → Item → Item
moved_item from (item.Open skip at) = item.Open (skip - from + 1) at
moved_item from (item.Atom t) = item.Atom t

-- the skip number of an item lies between two places
abbrev pub SkipsWithin : ℕ → ℕ → Item → Type 0
SkipsWithin low high (item.Open skip at) = (low ≤ skip) × (skip ≤ high)
SkipsWithin low high (item.Atom t) = ⊤
