-- Lists that are open, the innermost first: the byte of each parenthesis, and the s-expressions read in it so far.
use Rattle.std.specs.Prelude.{ℕ, ◌+◌, ◌≡◌, List, [], ◌∷◌, ◌++◌, length, take, drop, get_or, reverse}
use Rattle.lex_core.specs.declared.token.Tok.{Tok}
use Rattle.sexp_core.specs.declared.tree.Item.{Item}
use Rattle.sexp_core.specs.declared.tree.Item.TheVariants as item
use Rattle.sexp_core.specs.Sexp.{Sexp, Sexps, nil, cons, FlatToken, Opening, flat_all, append}
use Rattle.sexp_core.specs.Items.{items_all, sexps_of}

abbrev pub OpenList : Type 0 → Type 0
OpenList A = ℕ × Sexps A

-- one more s-expression in the innermost list
abbrev pub add_sexp : {A : Type 0} → Sexp A → List (OpenList A) → List (OpenList A)
add_sexp t [] = []
add_sexp t (f ∷ fs) = (f.0, append f.1 (cons t nil)) ∷ fs

-- the tokens of the open lists
abbrev pub open_tokens : {A : Type 0} → List (OpenList A) → List (FlatToken A)
open_tokens [] = []
open_tokens (f ∷ fs) = open_tokens fs ++ Opening f.0 ∷ flat_all f.1

-- the items of the open lists; an open list has no skip number yet
abbrev pub open_items : List (OpenList Tok) → List Item
open_items [] = []
open_items (f ∷ fs) = open_items fs ++ item.Open 0 f.0 ∷ items_all (length (open_items fs) + 1) f.1

-- where the open lists begin, the outermost first
abbrev pub open_places : List (OpenList Tok) → List ℕ
open_places [] = []
open_places (f ∷ fs) = open_places fs ++ length (open_items fs) ∷ []

-- the byte of an item that begins a list
abbrev pub opening_byte : Item → ℕ
opening_byte (item.Open skip at) = at
opening_byte (item.Atom t) = 0

abbrev pub lists_at : List ℕ → List Item → List (OpenList Tok)
lists_at [] is = []
lists_at (o ∷ os) is = (opening_byte (get_or is o (item.Open 0 0)), sexps_of (drop (o + 1) is) (o + 1)) ∷ lists_at os (take o is)

-- the open lists that items stand for, by the places where they begin
abbrev pub open_lists : List ℕ → List Item → List (OpenList Tok)
open_lists os is = lists_at (reverse os) is

-- the items and the places are those of these open lists
pub record Represents (fs : List (OpenList Tok)) (is : List Item) (os : List ℕ) : Type 0 where
  pub items : is ≡ open_items fs
  pub starts : os ≡ open_places fs

-- the items and the places are those of some open lists
abbrev pub AreOpenLists : List ℕ → List Item → Type 0
AreOpenLists os is = (fs : List (OpenList Tok)) × (is ≡ open_items fs) × (os ≡ open_places fs)
