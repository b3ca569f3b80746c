-- The numbers of texts in a table: found, kept, and different for different texts.
use Rattle.std.proofs.Common.{zero, suc, ◌≡◌, ℕ, ◌+◌, ◌-◌, subst, Bool, true, false, ◌||◌, not, cond, List, [], ◌∷◌, ◌++◌, Some, None, map, length, refl, sym, ◌∙◌, ap, arith, take, drop, get_or, ◌<◌, ◌≤◌, ◌&&◌, nat_le, inl, inr, length-append}
use Rattle.std.specs.List.{list_any, position_or_len, position, fold}
use Rattle.std.specs.Str.{bytes_eq}
use Rattle.std.specs.Prelude.{nat_lt}
use Rattle.std.proofs.lemmas.Bool.{cond_both, or_parts, and_parts, not-true, not-false, cases_Bool, and_from, and_right, le-leb, lt-leb, false_from_ne_true}
use Rattle.std.proofs.lemmas.List.{map-append, take_more, take-append-drop, take-append-le, length-take, get_or_push}
use Rattle.std.specs.Prelude.{slice_get}
use Rattle.std.proofs.lemmas.Option.{slice_get-get_or}
use Rattle.std.proofs.lemmas.List.Folds.{list_any_at}
use Rattle.std.proofs.lemmas.Slice.Eq.{bytes_eq-Decides}
use Rattle.std.proofs.lemmas.Grind.{fold-append, get_or_tail}
use Rattle.lex_core.specs.NameTable.{BeginsFixed, IsNameTable, fixed_texts, no_repeats, number_of, with_text}
use Rattle.lex_core.specs.Spelling.{is_reserved, reserved_words}

pub number_map : {V : Type 0} (f : V → List ℕ) (text : List ℕ) (keys : List V) → number_of text (map f keys) ≡ position_or_len (λ k. bytes_eq text (f k)) keys
number_map f text [] = refl
number_map f text (k ∷ keys) = ap (λ n. cond (not (bytes_eq text (f k))) (1 + n) 0) (number_map f text keys)

pub any_map : {V : Type 0} (f : V → List ℕ) (text : List ℕ) (keys : List V) → list_any (bytes_eq text) (map f keys) ≡ list_any (λ k. bytes_eq text (f k)) keys
any_map f text [] = refl
any_map f text (k ∷ keys) = ap (λ t. bytes_eq text (f k) || t) (any_map f text keys)

position_some : {V : Type 0} (p : V → Bool) (keys : List V) (i : ℕ) → position p keys ≡ Some i → i ≡ position_or_len p keys
position_some p keys i h =
    cond_both (nat_lt (position_or_len p keys) (length keys)) (Some (position_or_len p keys)) None (λ o. o ≡ Some i → i ≡ position_or_len p keys) (λ _ e. cc) (λ _ e. cc) h

none_found : {V : Type 0} (p : V → Bool) (keys : List V) → list_any p keys ≡ false → position_or_len p keys ≡ length keys
none_found p [] h = refl
none_found p (k ∷ keys) h =
    let parts = or_parts (p k) (list_any p keys) h in
    rw (parts.0) (ap (λ n. 1 + n) (none_found p keys parts.1) ∙ omega arith)

-- a text that is found
pub number_found : {V : Type 0} (f : V → List ℕ) (text : List ℕ) (keys : List V) (i : ℕ) → position (λ k. bytes_eq text (f k)) keys ≡ Some i → i ≡ number_of text (map f keys)
number_found f text keys i h = position_some (λ k. bytes_eq text (f k)) keys i h ∙ sym (number_map f text keys)

pub texts_found : {V : Type 0} (f : V → List ℕ) (text : List ℕ) (keys : List V) → list_any (λ k. bytes_eq text (f k)) keys ≡ true → map f keys ≡ with_text (map f keys) text
texts_found f text keys h = rw (any_map f text keys, h) refl

-- a text that is new
pub number_new : {V : Type 0} (f : V → List ℕ) (text : List ℕ) (keys : List V) → list_any (λ k. bytes_eq text (f k)) keys ≡ false → length keys ≡ number_of text (map f keys)
number_new f text keys h = sym (number_map f text keys ∙ none_found (λ k. bytes_eq text (f k)) keys h)

pub texts_new : {V : Type 0} (f : V → List ℕ) (text : List ℕ) (keys : List V) (key : V) → f key ≡ text → list_any (λ k. bytes_eq text (f k)) keys ≡ false → map f (keys ++ key ∷ []) ≡ with_text (map f keys) text
texts_new f text keys key e h = rw (any_map f text keys, h) (map-append f keys (key ∷ []) ∙ ap (λ t. map f keys ++ t ∷ []) e)

-- one more text
pub texts_more : {V : Type 0} (f : V → List ℕ) (before : List (List ℕ)) (texts : List V) (i : ℕ) (d : V) → i < length texts
    → fold with_text before (map f (take (i + 1) texts)) ≡ with_text (fold with_text before (map f (take i texts))) (f (get_or texts i d))
texts_more f before texts i d h =
    ap (λ xs. fold with_text before (map f xs)) (take_more texts i d h)
    ∙ ap (fold with_text before) (map-append f (take i texts) (get_or texts i d ∷ []))
    ∙ fold-append with_text before (map f (take i texts)) (f (get_or texts i d) ∷ [])

-- a text is among the first words exactly where its number is small
number_among : (text : List ℕ) (words more : List (List ℕ)) → list_any (bytes_eq text) words ≡ true → number_of text (words ++ more) < length words
number_among text [] more h = cc
number_among text (word ∷ words) more h =
    cond_both (not (bytes_eq text word)) (1 + number_of text (words ++ more)) 0 (λ n. n < length (word ∷ words))
    (λ no. let other = not-true (bytes_eq text word) no in let k = number_among text words more (rw other at h) in omega arith)
    (λ yes. omega arith)

number_past : (text : List ℕ) (words more : List (List ℕ)) → list_any (bytes_eq text) words ≡ false → length words ≤ number_of text (words ++ more)
number_past text [] more h = omega arith
number_past text (word ∷ words) more h =
    let parts = or_parts (bytes_eq text word) (list_any (bytes_eq text) words) h in
    let k = number_past text words more parts.1 in
    rw (parts.0) (omega arith)

abbrev is_small : ℕ → Bool
is_small n = nat_le 1 n && nat_le n 43

small_reserved : (text : List ℕ) (more : List (List ℕ)) → is_small (number_of text ([] ∷ (reserved_words ++ more))) ≡ list_any (bytes_eq text) reserved_words
small_reserved [] more = refl
small_reserved (b ∷ bs) more =
    let n = number_of (b ∷ bs) (reserved_words ++ more) in
    elim (cases_Bool (list_any (bytes_eq (b ∷ bs)) reserved_words)) [
      | inl among ↦ (let k : n < 43 = number_among (b ∷ bs) reserved_words more among in
          let small : is_small (1 + n) ≡ true = and_from (nat_le 1 (1 + n)) (nat_le (1 + n) 43) (le-leb 1 (1 + n) (omega arith)) (le-leb (1 + n) 43 (omega arith)) in small ∙ sym among)
      | inr past ↦ (let k : 43 ≤ n = number_past (b ∷ bs) reserved_words more past in
          let large : is_small (1 + n) ≡ false = and_right (nat_le 1 (1 + n)) (nat_le (1 + n) 43) (lt-leb (1 + n) 43 (omega arith)) in large ∙ sym past)
    ]

-- the number of a text says whether it is reserved
pub reserved_number : (texts : List (List ℕ)) (text : List ℕ) → BeginsFixed texts → (nat_le 1 (number_of text texts) && nat_le (number_of text texts) 43) ≡ is_reserved text
unfolding is_reserved
reserved_number texts text h =
    let e : texts ≡ fixed_texts ++ drop 57 texts = sym (take-append-drop 57 texts) ∙ ap (λ xs. xs ++ drop 57 texts) h in
    ap (λ ts. is_small (number_of text ts)) e ∙ small_reserved text (drop 44 fixed_texts ++ drop 57 texts)

-- a new text leaves the fixed ones
pub fixed_kept : (texts : List (List ℕ)) (text : List ℕ) → BeginsFixed texts → BeginsFixed (with_text texts text)
fixed_kept texts text h =
    let long : 57 ≤ length texts = omega (arith, length-take 57 texts, ap length h) in
    cond_both (list_any (bytes_eq text) texts) texts (texts ++ text ∷ []) BeginsFixed (λ _. h) (λ _. take-append-le 57 texts (text ∷ []) long ∙ h)

pub number_within : (text : List ℕ) (texts : List (List ℕ)) → number_of text texts ≤ length texts
number_within text [] = omega arith
number_within text (t ∷ texts) =
    let k = number_within text texts in
    cond_both (not (bytes_eq text t)) (1 + number_of text texts) 0 (λ n. n ≤ length (t ∷ texts)) (λ _. omega arith) (λ _. omega arith)

number_found_at : (text : List ℕ) (texts : List (List ℕ)) → list_any (bytes_eq text) texts ≡ true
    → (get_or texts (number_of text texts) [] ≡ text) × (number_of text texts < length texts)
number_found_at text [] h = cc
number_found_at text (t ∷ texts) h =
    cond_both (not (bytes_eq text t)) (1 + number_of text texts) 0 (λ n. (get_or (t ∷ texts) n [] ≡ text) × (n < length (t ∷ texts)))
    (λ no. let other = not-true (bytes_eq text t) no in
    let k = number_found_at text texts (rw other at h) in
    let below : 0 < 1 + number_of text texts = omega arith in
    let back : (1 + number_of text texts) - 1 ≡ number_of text texts = omega arith in
    (get_or_tail t texts (1 + number_of text texts) [] below ∙ ap (λ n. get_or texts n []) back ∙ k.0, omega arith))
    (λ same. (sym ((bytes_eq-Decides text t).0 (not-false (bytes_eq text t) same)), omega arith))

-- the text stands at its number
pub text_at_number : (texts : List (List ℕ)) (text : List ℕ)
    → (get_or (with_text texts text) (number_of text texts) [] ≡ text) × (number_of text texts < length (with_text texts text))
text_at_number texts text = elim (cases_Bool (list_any (bytes_eq text) texts)) [
  | inl found ↦ rw found (number_found_at text texts found)
  | inr absent ↦ (let last = none_found (bytes_eq text) texts absent in
      let P : ℕ → Type 0 = λ n. (get_or (with_text texts text) n [] ≡ text) × (n < length (with_text texts text)) in
      subst P (sym last) (rw absent (get_or_push texts text [] (length texts) refl, omega (arith, length-append texts (text ∷ [])))))
]

number_last : (text : List ℕ) (texts : List (List ℕ)) → list_any (bytes_eq text) texts ≡ false → number_of text (texts ++ text ∷ []) ≡ length texts
number_last text [] h = rw ((bytes_eq-Decides text text).1 refl) refl
number_last text (t ∷ texts) h =
    let parts = or_parts (bytes_eq text t) (list_any (bytes_eq text) texts) h in
    rw (parts.0) (ap (λ n. 1 + n) (number_last text texts parts.1) ∙ omega arith)

pub text_found : (texts : List (List ℕ)) (text : List ℕ) → slice_get (with_text texts text) (number_of text texts) ≡ Some text
text_found texts text =
    let k = text_at_number texts text in slice_get-get_or (with_text texts text) (number_of text texts) [] k.1 ∙ ap (λ t. Some t) k.0

-- once it is there, a text keeps its number
pub number_again : (texts : List (List ℕ)) (text : List ℕ) → number_of text (with_text texts text) ≡ number_of text texts
number_again texts text = elim (cases_Bool (list_any (bytes_eq text) texts)) [
  | inl found ↦ rw found refl
  | inr absent ↦ (let last = none_found (bytes_eq text) texts absent in rw (absent, last) (number_last text texts absent))
]

-- no text twice
eq_either_way : (s t : List ℕ) → bytes_eq s t ≡ false → bytes_eq t s ≡ false
eq_either_way s t h =
    false_from_ne_true (bytes_eq t s) λ same. let back : bytes_eq s t ≡ true = (bytes_eq-Decides s t).1 (sym ((bytes_eq-Decides t s).0 same)) in cc

any_push : (s t : List ℕ) (texts : List (List ℕ)) → list_any (bytes_eq s) texts ≡ false → bytes_eq s t ≡ false → list_any (bytes_eq s) (texts ++ t ∷ []) ≡ false
any_push s t [] h k = rw k refl
any_push s t (x ∷ texts) h k = let parts = or_parts (bytes_eq s x) (list_any (bytes_eq s) texts) h in rw (parts.0) (any_push s t texts parts.1 k)

no_repeats_push : (texts : List (List ℕ)) (text : List ℕ) → no_repeats texts ≡ true → list_any (bytes_eq text) texts ≡ false → no_repeats (texts ++ text ∷ []) ≡ true
no_repeats_push [] text h k = refl
no_repeats_push (t ∷ texts) text h k =
    let parts = and_parts (not (list_any (bytes_eq t) texts)) (no_repeats texts) h in
    let apart = or_parts (bytes_eq text t) (list_any (bytes_eq text) texts) k in
    rw (any_push t text texts (not-true (list_any (bytes_eq t) texts) parts.0) (eq_either_way text t apart.0)) (no_repeats_push texts text parts.1 apart.1)

no_repeats_kept : (texts : List (List ℕ)) (text : List ℕ) → no_repeats texts ≡ true → no_repeats (with_text texts text) ≡ true
no_repeats_kept texts text h = elim (cases_Bool (list_any (bytes_eq text) texts)) [
  | inl found ↦ rw found h
  | inr absent ↦ rw absent (no_repeats_push texts text h absent)
]

-- a table stays one
pub table_kept : (texts : List (List ℕ)) (text : List ℕ) → IsNameTable texts → IsNameTable (with_text texts text)
table_kept texts text h = record { fixed = fixed_kept texts text h.fixed; distinct = no_repeats_kept texts text h.distinct }

-- the number of the text at a place is that place
pub number_at : (texts : List (List ℕ)) (i : ℕ) → no_repeats texts ≡ true → i < length texts → number_of (get_or texts i []) texts ≡ i
number_at [] i h k = absurd (omega arith)
number_at (t ∷ texts) zero h k = rw ((bytes_eq-Decides t t).1 refl) refl
number_at (t ∷ texts) (suc i) h k =
    let text = get_or texts i [] in
    let parts = and_parts (not (list_any (bytes_eq t) texts)) (no_repeats texts) h in
    let below : i < length texts = omega arith in
    let other : bytes_eq t text ≡ false = false_from_ne_true (bytes_eq t text)
    λ same. let among : list_any (bytes_eq t) texts ≡ true = list_any_at (bytes_eq t) texts i [] below same in let absent = not-true (list_any (bytes_eq t) texts) parts.0 in cc in
    rw (eq_either_way t text other) (ap (λ n. 1 + n) (number_at texts i parts.1 below) ∙ omega arith)

-- different places hold different texts
pub number_unique : (texts : List (List ℕ)) (i j : ℕ) → no_repeats texts ≡ true → i < length texts → j < length texts → get_or texts i [] ≡ get_or texts j [] → i ≡ j
number_unique texts i j h k l same = sym (number_at texts i h k) ∙ ap (λ text. number_of text texts) same ∙ number_at texts j h l
