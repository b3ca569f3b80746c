-- When two lists are equal once each item is replaced, as loops over both find out.
use Rattle.std.proofs.Common.{◌≡◌, ℕ, suc, zero, ◌<◌, List, [], ◌∷◌, length, get_or, map, refl, ap, sym, ◌∙◌, arith}
use Rattle.sexp_core.specs.declared.tree.Item.{Item}
use Rattle.sort_store.specs.Tree.{Sort, NumberedSort}
use Rattle.sort_store.specs.Tree as sorts
use Rattle.term_store.specs.declared.parts.Pattern.{Pattern}
use Rattle.term_store.specs.declared.term.Note.{Note as ProgramNote}
use Rattle.term_store.specs.NumberedNodes.{terms, cases, numbered_note, numbered_notes}
use Rattle.term_store.specs.Outline.{NoteOutline, numbers, case_outline, case_outlines, note_outline, note_outlines}
use Rattle.term_store.specs.Term.{NumberedTerm, number, plain_var}
use Rattle.term_store.specs.Value.{unplaced_item}

-- f x and f y for the items x and y at each place
abbrev pub SameBelow : {X Y : Type 0} → (X → Y) → ℕ → List X → List X → Type 0
SameBelow {X} f n xs ys = (k : ℕ) (d e : X) → k < n → f (get_or xs k d) ≡ f (get_or ys k e)

pub map_from_each : {X Y : Type 0} (f : X → Y) (xs ys : List X) → length xs ≡ length ys → SameBelow f (length xs) xs ys → map f xs ≡ map f ys
map_from_each f [] [] l g = refl
map_from_each f [] (y ∷ ys) l g = absurd (omega arith)
map_from_each f (x ∷ xs) [] l g = absurd (omega arith)
map_from_each f (x ∷ xs) (y ∷ ys) l g =
    let h = g 0 x x (omega arith) in
    let r = map_from_each f xs ys (omega arith) (λ k d e b. g (suc k) d e (omega arith)) in
    cc

map_rest : {X Y : Type 0} (f : X → Y) (x y : X) (xs ys : List X) → map f (x ∷ xs) ≡ map f (y ∷ ys) → map f xs ≡ map f ys
map_rest f x y xs ys s = cc

pub map_length : {X Y : Type 0} (f : X → Y) (xs ys : List X) → map f xs ≡ map f ys → length xs ≡ length ys
map_length f [] [] s = refl
map_length f [] (y ∷ ys) s = cc
map_length f (x ∷ xs) [] s = cc
map_length f (x ∷ xs) (y ∷ ys) s = ap suc (map_length f xs ys (map_rest f x y xs ys s))

pub map_at : {X Y : Type 0} (f : X → Y) (xs ys : List X) (i : ℕ) (d e : X) → i < length xs → map f xs ≡ map f ys → f (get_or xs i d) ≡ f (get_or ys i e)
map_at f [] ys i d e l s = absurd (omega arith)
map_at f (x ∷ xs) [] i d e l s = cc
map_at f (x ∷ xs) (y ∷ ys) zero d e l s = cc
map_at f (x ∷ xs) (y ∷ ys) (suc i) d e l s = map_at f xs ys i d e (omega arith) (map_rest f x y xs ys s)

-- names
map_same : (xs : List ℕ) → map (λ x. x) xs ≡ xs
map_same [] = refl
map_same (x ∷ xs) = ap (λ z. x ∷ z) (map_same xs)

pub names_from_each : (xs ys : List ℕ) → length xs ≡ length ys → ((k : ℕ) (d e : ℕ) → k < length xs → get_or xs k d ≡ get_or ys k e) → xs ≡ ys
names_from_each xs ys l g = sym (map_same xs) ∙ map_from_each (λ x. x) xs ys l g ∙ map_same ys

pub names_length : (xs ys : List ℕ) → xs ≡ ys → length xs ≡ length ys
names_length xs ys s = ap length s

pub names_at : (xs ys : List ℕ) (i : ℕ) (d e : ℕ) → i < length xs → xs ≡ ys → get_or xs i d ≡ get_or ys i e
names_at xs ys i d e l s = map_at (λ x. x) xs ys i d e l (ap (map (λ x. x)) s)

pub ruleset name_words = (names_from_each, names_length, names_at)

-- numbers of terms
pub numbers-terms : (xs : List NumberedTerm) → numbers (terms xs) ≡ map number xs
numbers-terms [] = refl
numbers-terms (x ∷ xs) = ap (λ z. number x ∷ z) (numbers-terms xs)

pub numbers_from_each : (xs ys : List NumberedTerm) → length xs ≡ length ys → ((k : ℕ) (d e : NumberedTerm) → k < length xs → number (get_or xs k d) ≡ number (get_or ys k e)) → numbers (terms xs) ≡ numbers (terms ys)
numbers_from_each xs ys l g = numbers-terms xs ∙ map_from_each number xs ys l g ∙ sym (numbers-terms ys)

pub numbers_length : (xs ys : List NumberedTerm) → numbers (terms xs) ≡ numbers (terms ys) → length xs ≡ length ys
numbers_length xs ys s = map_length number xs ys (sym (numbers-terms xs) ∙ s ∙ numbers-terms ys)

pub numbers_at : (xs ys : List NumberedTerm) (i : ℕ) (d e : NumberedTerm) → i < length xs → numbers (terms xs) ≡ numbers (terms ys) → number (get_or xs i d) ≡ number (get_or ys i e)
numbers_at xs ys i d e l s = map_at number xs ys i d e l (sym (numbers-terms xs) ∙ s ∙ numbers-terms ys)

pub ruleset number_words = (numbers_from_each, numbers_length, numbers_at)

-- variables with their sorts
pub var_same : (a b : ℕ × NumberedSort) → a.0 ≡ b.0 → sorts.tree a.1 ≡ sorts.tree b.1 → plain_var a ≡ plain_var b
var_same a b p q = ap (λ n. (n, sorts.tree a.1)) p ∙ ap (λ (s : Sort). (b.0, s)) q

pub var_name : (a b : ℕ × NumberedSort) → plain_var a ≡ plain_var b → a.0 ≡ b.0
var_name a b e = ap (λ (p : ℕ × Sort). p.0) e

pub var_sort : (a b : ℕ × NumberedSort) → plain_var a ≡ plain_var b → sorts.tree a.1 ≡ sorts.tree b.1
var_sort a b e = ap (λ (p : ℕ × Sort). p.1) e

pub case_same : (a b : Pattern × NumberedTerm) → a.0 ≡ b.0 → number a.1 ≡ number b.1 → case_outline a ≡ case_outline b
case_same a b p q = ap (λ (x : Pattern). (x, number a.1)) p ∙ ap (λ n. (b.0, n)) q

pub case_pattern : (a b : Pattern × NumberedTerm) → case_outline a ≡ case_outline b → a.0 ≡ b.0
case_pattern a b e = ap (λ (p : Pattern × ℕ). p.0) e

pub case_number : (a b : Pattern × NumberedTerm) → case_outline a ≡ case_outline b → number a.1 ≡ number b.1
case_number a b e = ap (λ (p : Pattern × ℕ). p.1) e

pub ruleset pair_words = (var_same, var_name, var_sort, case_same, case_pattern, case_number)

pub vars_from_each : (xs ys : List (ℕ × NumberedSort)) → length xs ≡ length ys → ((k : ℕ) (d e : ℕ × NumberedSort) → k < length xs → plain_var (get_or xs k d) ≡ plain_var (get_or ys k e)) → map plain_var xs ≡ map plain_var ys
vars_from_each xs ys l g = map_from_each plain_var xs ys l g

pub vars_length : (xs ys : List (ℕ × NumberedSort)) → map plain_var xs ≡ map plain_var ys → length xs ≡ length ys
vars_length xs ys s = map_length plain_var xs ys s

pub vars_at : (xs ys : List (ℕ × NumberedSort)) (i : ℕ) (d e : ℕ × NumberedSort) → i < length xs → map plain_var xs ≡ map plain_var ys → plain_var (get_or xs i d) ≡ plain_var (get_or ys i e)
vars_at xs ys i d e l s = map_at plain_var xs ys i d e l s

pub ruleset var_words = (vars_from_each, vars_length, vars_at)

-- cases of a match
pub outlines-cases : (xs : List (Pattern × NumberedTerm)) → case_outlines (cases xs) ≡ map case_outline xs
outlines-cases [] = refl
outlines-cases (x ∷ xs) = ap (λ z. case_outline x ∷ z) (outlines-cases xs)

pub cases_from_each : (xs ys : List (Pattern × NumberedTerm)) → length xs ≡ length ys → ((k : ℕ) (d e : Pattern × NumberedTerm) → k < length xs → case_outline (get_or xs k d) ≡ case_outline (get_or ys k e)) → case_outlines (cases xs) ≡ case_outlines (cases ys)
cases_from_each xs ys l g = outlines-cases xs ∙ map_from_each case_outline xs ys l g ∙ sym (outlines-cases ys)

pub cases_length : (xs ys : List (Pattern × NumberedTerm)) → case_outlines (cases xs) ≡ case_outlines (cases ys) → length xs ≡ length ys
cases_length xs ys s = map_length case_outline xs ys (sym (outlines-cases xs) ∙ s ∙ outlines-cases ys)

pub cases_at : (xs ys : List (Pattern × NumberedTerm)) (i : ℕ) (d e : Pattern × NumberedTerm) → i < length xs → case_outlines (cases xs) ≡ case_outlines (cases ys) → case_outline (get_or xs i d) ≡ case_outline (get_or ys i e)
cases_at xs ys i d e l s = map_at case_outline xs ys i d e l (sym (outlines-cases xs) ∙ s ∙ outlines-cases ys)

pub ruleset case_words = (cases_from_each, cases_length, cases_at)

-- attributes
abbrev outline_of_note : ProgramNote → NoteOutline
outline_of_note n = note_outline (numbered_note n)

pub outlines-notes : (xs : List ProgramNote) → note_outlines (numbered_notes xs) ≡ map outline_of_note xs
outlines-notes [] = refl
outlines-notes (x ∷ xs) = ap (λ z. outline_of_note x ∷ z) (outlines-notes xs)

pub notes_from_each : (xs ys : List ProgramNote) → length xs ≡ length ys → ((k : ℕ) (d e : ProgramNote) → k < length xs → note_outline (numbered_note (get_or xs k d)) ≡ note_outline (numbered_note (get_or ys k e)))
    → note_outlines (numbered_notes xs) ≡ note_outlines (numbered_notes ys)
notes_from_each xs ys l g = outlines-notes xs ∙ map_from_each outline_of_note xs ys l g ∙ sym (outlines-notes ys)

pub notes_length : (xs ys : List ProgramNote) → note_outlines (numbered_notes xs) ≡ note_outlines (numbered_notes ys) → length xs ≡ length ys
notes_length xs ys s = map_length outline_of_note xs ys (sym (outlines-notes xs) ∙ s ∙ outlines-notes ys)

pub notes_at : (xs ys : List ProgramNote) (i : ℕ) (d e : ProgramNote) → i < length xs → note_outlines (numbered_notes xs) ≡ note_outlines (numbered_notes ys) → note_outline (numbered_note (get_or xs i d)) ≡ note_outline (numbered_note (get_or ys i e))
notes_at xs ys i d e l s = map_at outline_of_note xs ys i d e l (sym (outlines-notes xs) ∙ s ∙ outlines-notes ys)

pub ruleset note_words = (notes_from_each, notes_length, notes_at)

-- items of a value
pub items_from_each : (xs ys : List Item) → length xs ≡ length ys → ((k : ℕ) (d e : Item) → k < length xs → unplaced_item (get_or xs k d) ≡ unplaced_item (get_or ys k e)) → map unplaced_item xs ≡ map unplaced_item ys
items_from_each xs ys l g = map_from_each unplaced_item xs ys l g

pub items_length : (xs ys : List Item) → map unplaced_item xs ≡ map unplaced_item ys → length xs ≡ length ys
items_length xs ys s = map_length unplaced_item xs ys s

pub items_at : (xs ys : List Item) (i : ℕ) (d e : Item) → i < length xs → map unplaced_item xs ≡ map unplaced_item ys → unplaced_item (get_or xs i d) ≡ unplaced_item (get_or ys i e)
items_at xs ys i d e l s = map_at unplaced_item xs ys i d e l s

pub ruleset item_words = (items_from_each, items_length, items_at)
