-- What a table of names holds: its texts in the order of their numbers.
use Rattle.std.specs.Prelude.{◌≡◌, ℕ, Bool, true, not, ◌&&◌, IsTrue, List, [], ◌∷◌, ◌++◌, if◌then◌else◌, codes, take, map, Vec}
use Rattle.std.specs.Global.{Global}
use Rattle.std.specs.List.{list_any, position_or_len}
use Rattle.std.specs.Str.{bytes_eq}
use Rattle.indexmap.specs.IndexSet.{IndexSet}
use Rattle.lex_core.specs.Spelling.{reserved_words}

-- the number of a text: where it stands, or after all others
abbrev pub number_of : List ℕ → List (List ℕ) → ℕ
number_of text texts = position_or_len (bytes_eq text) texts

-- the texts with this one among them
abbrev pub with_text : List (List ℕ) → List ℕ → List (List ℕ)
with_text texts text = if list_any (bytes_eq text) texts then texts else texts ++ text ∷ []

-- the texts that every table has at the same numbers
abbrev pub fixed_texts : List (List ℕ)
fixed_texts =
    [] ∷ (reserved_words ++ codes ":named" ∷ codes ":pattern" ∷ codes ":global-declarations"
    ∷ codes "true" ∷ codes "false" ∷ codes "not" ∷ codes "=>" ∷ codes "and" ∷ codes "or" ∷ codes "xor" ∷ codes "="
    ∷ codes "distinct" ∷ codes "ite" ∷ [])

-- the table begins with the fixed texts
abbrev pub BeginsFixed : List (List ℕ) → Type 0
BeginsFixed texts = take 57 texts ≡ fixed_texts

-- no text stands twice
abbrev pub no_repeats : List (List ℕ) → Bool
no_repeats [] = true
no_repeats (text ∷ texts) = not (list_any (bytes_eq text) texts) && no_repeats texts

-- what every table keeps
pub record IsNameTable (texts : List (List ℕ)) : Type 0 where
  pub fixed : BeginsFixed texts
  pub distinct : IsTrue (no_repeats texts)

-- the texts that a set of byte vectors holds
abbrev pub texts_of : {S : Type 0} → IndexSet (Vec ℕ Global) S → List (List ℕ)
texts_of set = map (λ text. text.items) set.keys
