-- The table of a store leads from keys to terms. A key tells the kind of a node, one of its names, and
-- numbers of terms in it; terms that have all these alike are told apart by an ordinal.
use Rattle.std.specs.Prelude.{◌≡◌, ℕ, suc, ◌<◌, ◌≤◌, List, [], ◌∷◌, ◌++◌, map, length, Some, slice_get}
use Rattle.std.specs.List.{All}
use Rattle.std.specs.Map.{values_of}
use Rattle.sort_store.specs.Tree.{Sort, NumberedSort}
use Rattle.term_store.specs.declared.key.TermKey.{TermKey}
use Rattle.term_store.specs.declared.key.TermKind.{TermKind}
use Rattle.term_store.specs.declared.key.TermKind.TheVariants as kind
use Rattle.term_store.specs.declared.parts.Pattern.{Pattern}
use Rattle.term_store.specs.declared.term.TermNode.{TermNode}
use Rattle.term_store.specs.Term.{NumberedTerm, PlainTerm, node_of, tree}
use Rattle.term_store.specs.Interned.{IsStore}
use Rattle.term_store.specs.Outline.{Outline, NoteOutline, naming, patterns, attribute, literal, variable, applied, bound, quantified, matched, annotated, outline, IsMadeOf}
use Rattle.term_store.specs.CanonicalText.{first_name}

abbrev pub kind_of : Outline → TermKind
kind_of (literal k n) = kind.Lit
kind_of (variable n) = kind.Var
kind_of (applied f ts) = kind.App
kind_of (bound vs ts b) = kind.Let
kind_of (quantified all vs b) = kind.Quant
kind_of (matched t cs) = kind.Match
kind_of (annotated b ns) = kind.Ann

abbrev pub first_var : List (ℕ × Sort) → ℕ
first_var [] = 0
first_var (v ∷ vs) = v.0

abbrev pub name_of_first : List NoteOutline → ℕ
name_of_first [] = 0
name_of_first (naming d n ∷ ns) = n
name_of_first (patterns ts ∷ ns) = 0
name_of_first (attribute k v ∷ ns) = k

-- the name of a literal, a variable or a function symbol, and else the first one
abbrev pub name_in : Outline → ℕ
name_in (literal k n) = n
name_in (variable n) = n
name_in (applied f ts) = f.name
name_in (bound vs ts b) = first_name vs
name_in (quantified all vs b) = first_var vs
name_in (matched t cs) = 0
name_in (annotated b ns) = name_of_first ns

abbrev pub case_numbers : List (Pattern × ℕ) → List ℕ
case_numbers [] = []
case_numbers (c ∷ cs) = c.1 ∷ case_numbers cs

-- the indices of a function symbol, and the numbers of terms
abbrev pub numbers_in : Outline → List ℕ
numbers_in (literal k n) = []
numbers_in (variable n) = []
numbers_in (applied f ts) = f.indices ++ ts
numbers_in (bound vs ts b) = ts ++ b ∷ []
numbers_in (quantified all vs b) = b ∷ []
numbers_in (matched t cs) = t ∷ case_numbers cs
numbers_in (annotated b ns) = b ∷ []

-- the key is one of a node with this outline
pub record IsKeyFor (key : TermKey) (o : Outline) : Type 0 where
  pub kinds : key.kind ≡ kind_of o
  pub names : key.name ≡ name_in o
  pub counted : key.numbers.items ≡ numbers_in o

-- all but the ordinals are the same
pub record IsAlike (a b : TermKey) : Type 0 where
  pub kinds : a.kind ≡ b.kind
  pub names : a.name ≡ b.name
  pub counted : a.numbers.items ≡ b.numbers.items

pub record IsSameKey (a b : TermKey) : Type 0 where
  pub alike : IsAlike a b
  pub ordinals : a.ordinal ≡ b.ordinal

abbrev pub Entries : Type 0
Entries = List (TermKey × NumberedTerm)

-- an entry like the key that has this ordinal
pub record HasOrdinal (entries : Entries) (key : TermKey) (n : ℕ) : Type 0 where
  pub place : ℕ
  pub entry : TermKey × NumberedTerm
  pub stands : slice_get entries place ≡ Some entry
  pub alike : IsAlike key entry.0
  pub ordinal : entry.0.ordinal ≡ n

-- the term stands at a key that is the same
pub record MapsTo (entries : Entries) (key : TermKey) (t : NumberedTerm) : Type 0 where
  pub place : ℕ
  pub entry : TermKey × NumberedTerm
  pub stands : slice_get entries place ≡ Some entry
  pub same : IsSameKey key entry.0
  pub value : entry.1 ≡ t

-- no key is the same
abbrev pub LacksKey : Entries → TermKey → Type 0
LacksKey entries key = (k : ℕ) (e : TermKey × NumberedTerm) → slice_get entries k ≡ Some e → IsSameKey key e.0 → ⊥

-- one that is alike, with the ordinal before it, precedes the place
abbrev pub FollowsAlike : Entries → ℕ → TermKey → Type 0
FollowsAlike entries k key = (n : ℕ) → key.ordinal ≡ suc n → (h : HasOrdinal entries key n) × (h.place < k)

pub record IsKeyedStore (entries : Entries) : Type 0 where
  pub stored : IsStore (values_of entries)
  pub keyed : All (λ (e : TermKey × NumberedTerm). IsKeyFor e.0 (outline (node_of e.1))) entries
  -- no key stands at two places
  pub single : (j k : ℕ) (d e : TermKey × NumberedTerm) → slice_get entries j ≡ Some d → slice_get entries k ≡ Some e → IsSameKey d.0 e.0 → j ≡ k
  -- ordinals go up from 0 among those that are alike
  pub ordered : (k : ℕ) (e : TermKey × NumberedTerm) → slice_get entries k ≡ Some e → FollowsAlike entries k e.0

-- the trees of a store
abbrev pub stored_trees : Entries → List PlainTerm
stored_trees entries = map tree (values_of entries)

-- no entry that is like the key and has a lower ordinal is made of these
abbrev pub LacksBelow : Entries → TermKey → TermNode → NumberedSort → Type 0
LacksBelow entries key x s = (k : ℕ) (e : TermKey × NumberedTerm) → slice_get entries k ≡ Some e → IsAlike key e.0 → e.0.ordinal < key.ordinal → IsMadeOf e.1 x s → ⊥

-- the search for a term made of these has come to this key
pub record SearchedTo (entries : Entries) (key : TermKey) (x : TermNode) (s : NumberedSort) : Type 0 where
  pub below : LacksBelow entries key x s
  pub follows : FollowsAlike entries (length entries) key

-- a key for a new term
pub record IsNewKey (entries : Entries) (key : TermKey) (o : Outline) : Type 0 where
  pub key_for : IsKeyFor key o
  pub lacks : LacksKey entries key
  pub follows : FollowsAlike entries (length entries) key

-- no entry is made of these
abbrev pub LacksMade : Entries → TermNode → NumberedSort → Type 0
LacksMade entries x s = (k : ℕ) (t : NumberedTerm) → slice_get (values_of entries) k ≡ Some t → IsMadeOf t x s → ⊥
