-- What the class of a word says of its bytes, and back.
use Rattle.std.proofs.Common.{◌≡◌, ℕ, Bool, true, false, ◌==◌, ◌&&◌, not, List, [], ◌∷◌, ◌++◌, ◌⊎◌, refl, ◌∙◌, ap, subst, append_assoc, append-nil, Some, None, inl, inr}
use Rattle.std.specs.List.{list_all}
use Rattle.std.proofs.lemmas.Bool.{cond_both, and_parts, eqb-true, false_from_ne_true, not-true}
use Rattle.lex_core.specs.Bytes.{is_binary_digit, is_digit, is_hex_digit, is_letter, is_symbol_byte, is_symbol_mark}
use Rattle.lex_core.specs.LexerSteps.{step}
use Rattle.lex_core.specs.Spelling.{IsUnfinishedWord, WordSpells, is_numeral, is_reserved, is_symbol_word, nonempty_all}
use Rattle.lex_core.specs.WordClasses.{class_from, is_live, kind_at, next_class}
use Rattle.lex_core.specs.declared.token.TokKind.{TokKind}
use Rattle.lex_core.specs.declared.token.TokKind.TheVariants.{Binary, Close, Decimal, Hexadecimal, Keyword, Numeral, Open, Reserved, Str, Symbol}
use Rattle.lex_core.specs.declared.word.WordClass.{WordClass}
use Rattle.lex_core.specs.declared.word.WordClass.TheVariants.{BinaryDigits, BinaryPrefix, Colon, DecimalPoint, Digits, Empty, Fraction, Hash, HexDigits, HexPrefix, Invalid, KeywordBytes, SymbolBytes, Zero}

-- the bytes of a word of this class
abbrev pub InClass : WordClass → List ℕ → Type 0
InClass Empty bs = bs ≡ []
InClass Zero bs = bs ≡ 48 ∷ []
InClass Digits bs = (first : ℕ) × (rest : List ℕ) × (bs ≡ first ∷ rest) × ((first == 48) ≡ false) × (is_digit first ≡ true) × (list_all is_digit rest ≡ true)
InClass DecimalPoint bs = (whole : List ℕ) × (bs ≡ whole ++ 46 ∷ []) × (is_numeral whole ≡ true)
InClass Fraction bs = WordSpells Decimal bs
InClass Hash bs = bs ≡ 35 ∷ []
InClass HexPrefix bs = bs ≡ 35 ∷ 120 ∷ []
InClass HexDigits bs = WordSpells Hexadecimal bs
InClass BinaryPrefix bs = bs ≡ 35 ∷ 98 ∷ []
InClass BinaryDigits bs = WordSpells Binary bs
InClass SymbolBytes bs = is_symbol_word bs ≡ true
InClass Colon bs = bs ≡ 58 ∷ []
InClass KeywordBytes bs = WordSpells Keyword bs
InClass Invalid bs = Unit {0}

pub all_push : (p : ℕ → Bool) (bs : List ℕ) (b : ℕ) → list_all p bs ≡ true → p b ≡ true → list_all p (bs ++ b ∷ []) ≡ true
all_push p [] b h k = rw k refl
all_push p (c ∷ cs) b h k = let parts = and_parts (p c) (list_all p cs) h in rw (parts.0) (all_push p cs b parts.1 k)

some_push : (p : ℕ → Bool) (bs : List ℕ) (b : ℕ) → nonempty_all p bs ≡ true → p b ≡ true → nonempty_all p (bs ++ b ∷ []) ≡ true
some_push p [] b h k = rw k refl
some_push p (c ∷ cs) b h k = let parts = and_parts (p c) (list_all p cs) h in rw (parts.0) (all_push p cs b parts.1 k)

symbol_word_push : (bs : List ℕ) (b : ℕ) → is_symbol_word bs ≡ true → is_symbol_byte b ≡ true → is_symbol_word (bs ++ b ∷ []) ≡ true
symbol_word_push [] b h k = cc
symbol_word_push (c ∷ cs) b h k =
    let parts = and_parts (not (is_digit c)) (is_symbol_byte c && list_all is_symbol_byte cs) h in
    let more = and_parts (is_symbol_byte c) (list_all is_symbol_byte cs) parts.1 in
    rw (parts.0, more.0) (all_push is_symbol_byte cs b more.1 k)

digits_numeral : (first : ℕ) (rest : List ℕ) → (first == 48) ≡ false → is_digit first ≡ true → list_all is_digit rest ≡ true → is_numeral (first ∷ rest) ≡ true
digits_numeral first rest other digit all = rw (other, digit) all

push_same : (b : ℕ) {xs ys : List ℕ} → xs ≡ ys → xs ++ b ∷ [] ≡ ys ++ b ∷ []
push_same b e = ap (λ xs. xs ++ b ∷ []) e

pub in_class_next : (class : WordClass) (bs : List ℕ) (b : ℕ) → InClass class bs → InClass (next_class class b) (bs ++ b ∷ [])
in_class_next Empty bs b h =
    let here : bs ++ b ∷ [] ≡ b ∷ [] = push_same b h in
    let P : WordClass → Type 0 = λ class. InClass class (bs ++ b ∷ []) in
    cond_both (b == 48) _ _ P (λ yes. here ∙ ap (λ x. x ∷ []) (eqb-true b 48 yes)) λ not0.
    cond_both (is_digit b) _ _ P (λ yes. (b, [], here, not0, yes, refl)) λ no_digit.
    cond_both (b == 35) _ _ P (λ yes. here ∙ ap (λ x. x ∷ []) (eqb-true b 35 yes)) λ _.
    cond_both (b == 58) _ _ P (λ yes. here ∙ ap (λ x. x ∷ []) (eqb-true b 58 yes)) λ _.
    cond_both (is_symbol_byte b) _ _ P (λ yes. rw (here, no_digit, yes) refl) λ _. tt
in_class_next Zero bs b h =
    cond_both (b == 46) DecimalPoint Invalid (λ class. InClass class (bs ++ b ∷ []))
    (λ yes. (48 ∷ [], push_same b h ∙ ap (λ x. 48 ∷ x ∷ []) (eqb-true b 46 yes), refl)) λ _. tt
in_class_next Digits bs b h =
    let P : WordClass → Type 0 = λ class. InClass class (bs ++ b ∷ []) in
    cond_both (is_digit b) _ _ P (λ yes. (h.0, h.1 ++ b ∷ [], push_same b h.2, h.3, h.4, all_push is_digit h.1 b h.5 yes)) λ _.
    cond_both (b == 46) _ _ P (λ yes. (bs, ap (λ x. bs ++ x ∷ []) (eqb-true b 46 yes), rw (h.2) (digits_numeral h.0 h.1 h.3 h.4 h.5))) λ _. tt
in_class_next DecimalPoint bs b h =
    cond_both (is_digit b) Fraction Invalid (λ class. InClass class (bs ++ b ∷ []))
    (λ yes. (h.0, b ∷ [], push_same b h.1 ∙ append_assoc h.0 (46 ∷ []) (b ∷ []), h.2, rw yes refl)) λ _. tt
in_class_next Fraction bs b h =
    cond_both (is_digit b) Fraction Invalid (λ class. InClass class (bs ++ b ∷ []))
    (λ yes. (h.0, h.1 ++ b ∷ [], push_same b h.2 ∙ append_assoc h.0 (46 ∷ h.1) (b ∷ []), h.3, some_push is_digit h.1 b h.4 yes)) λ _. tt
in_class_next Hash bs b h =
    let P : WordClass → Type 0 = λ class. InClass class (bs ++ b ∷ []) in
    cond_both (b == 120) _ _ P (λ yes. push_same b h ∙ ap (λ x. 35 ∷ x ∷ []) (eqb-true b 120 yes)) λ _.
    cond_both (b == 98) _ _ P (λ yes. push_same b h ∙ ap (λ x. 35 ∷ x ∷ []) (eqb-true b 98 yes)) λ _. tt
in_class_next HexPrefix bs b h =
    cond_both (is_hex_digit b) HexDigits Invalid (λ class. InClass class (bs ++ b ∷ [])) (λ yes. (b ∷ [], push_same b h, rw yes refl)) λ _. tt
in_class_next HexDigits bs b h =
    cond_both (is_hex_digit b) HexDigits Invalid (λ class. InClass class (bs ++ b ∷ []))
    (λ yes. (h.0 ++ b ∷ [], push_same b h.1, some_push is_hex_digit h.0 b h.2 yes)) λ _. tt
in_class_next BinaryPrefix bs b h =
    cond_both (is_binary_digit b) BinaryDigits Invalid (λ class. InClass class (bs ++ b ∷ [])) (λ yes. (b ∷ [], push_same b h, rw yes refl)) λ _. tt
in_class_next BinaryDigits bs b h =
    cond_both (is_binary_digit b) BinaryDigits Invalid (λ class. InClass class (bs ++ b ∷ []))
    (λ yes. (h.0 ++ b ∷ [], push_same b h.1, some_push is_binary_digit h.0 b h.2 yes)) λ _. tt
in_class_next SymbolBytes bs b h =
    cond_both (is_symbol_byte b) SymbolBytes Invalid (λ class. InClass class (bs ++ b ∷ [])) (λ yes. symbol_word_push bs b h yes) λ _. tt
in_class_next Colon bs b h =
    cond_both (is_symbol_byte b) KeywordBytes Invalid (λ class. InClass class (bs ++ b ∷ [])) (λ yes. (b ∷ [], push_same b h, rw yes refl)) λ _. tt
in_class_next KeywordBytes bs b h =
    cond_both (is_symbol_byte b) KeywordBytes Invalid (λ class. InClass class (bs ++ b ∷ []))
    (λ yes. (h.0 ++ b ∷ [], push_same b h.1, some_push is_symbol_byte h.0 b h.2 yes)) λ _. tt
in_class_next Invalid bs b h = tt

in_class_from : (class : WordClass) (bs more : List ℕ) → InClass class bs → InClass (class_from class more) (bs ++ more)
in_class_from class bs [] h = rw append-nil h
in_class_from class bs (b ∷ more) h =
    rw (← append_assoc bs (b ∷ []) more) (in_class_from (next_class class b) (bs ++ b ∷ []) more (in_class_next class bs b h))

-- what the class of a word says of its bytes
pub in_class : (bs : List ℕ) → InClass (class_from Empty bs) bs
in_class bs = in_class_from Empty [] bs refl

-- a word whose class gives a kind spells a token of that kind
kind_spells : (class : WordClass) (bs : List ℕ) (kind : TokKind) → InClass class bs → kind_at class bs ≡ Some kind → WordSpells kind bs
kind_spells Empty bs kind h k = cc
kind_spells Zero bs kind h k = let e : Numeral ≡ kind = cc in subst (λ kind. WordSpells kind bs) e (rw h refl)
kind_spells Digits bs kind h k = let e : Numeral ≡ kind = cc in subst (λ kind. WordSpells kind bs) e (rw (h.2) (digits_numeral h.0 h.1 h.3 h.4 h.5))
kind_spells DecimalPoint bs kind h k = cc
kind_spells Fraction bs kind h k = let e : Decimal ≡ kind = cc in subst (λ kind. WordSpells kind bs) e h
kind_spells Hash bs kind h k = cc
kind_spells HexPrefix bs kind h k = cc
kind_spells HexDigits bs kind h k = let e : Hexadecimal ≡ kind = cc in subst (λ kind. WordSpells kind bs) e h
kind_spells BinaryPrefix bs kind h k = cc
kind_spells BinaryDigits bs kind h k = let e : Binary ≡ kind = cc in subst (λ kind. WordSpells kind bs) e h
kind_spells SymbolBytes bs kind h k =
    cond_both (is_reserved bs) (Some Reserved) (Some Symbol) (λ o. o ≡ Some kind → WordSpells kind bs)
    (λ yes o. let e : Reserved ≡ kind = cc in subst (λ kind. WordSpells kind bs) e (h, yes))
    (λ no o. let e : Symbol ≡ kind = cc in subst (λ kind. WordSpells kind bs) e (h, no)) k
kind_spells Colon bs kind h k = cc
kind_spells KeywordBytes bs kind h k = let e : Keyword ≡ kind = cc in subst (λ kind. WordSpells kind bs) e h
kind_spells Invalid bs kind h k = cc

pub word_spells : (bs : List ℕ) (kind : TokKind) → kind_at (class_from Empty bs) bs ≡ Some kind → WordSpells kind bs
word_spells bs kind k = kind_spells (class_from Empty bs) bs kind (in_class bs) k

-- a word that is live and spells no token is unfinished
unfinished : (class : WordClass) (bs : List ℕ) → InClass class bs → is_live class ≡ true → kind_at class bs ≡ None → IsUnfinishedWord bs
unfinished Empty bs h w k = cc
unfinished Zero bs h w k = cc
unfinished Digits bs h w k = cc
unfinished DecimalPoint bs h w k = inr (inr (inr (inr h)))
unfinished Fraction bs h w k = cc
unfinished Hash bs h w k = inl h
unfinished HexPrefix bs h w k = inr (inl h)
unfinished HexDigits bs h w k = cc
unfinished BinaryPrefix bs h w k = inr (inr (inl h))
unfinished BinaryDigits bs h w k = cc
unfinished SymbolBytes bs h w k =
    cond_both (is_reserved bs) (Some Reserved) (Some Symbol) (λ o. o ≡ None → IsUnfinishedWord bs) (λ yes o. cc) (λ no o. cc) k
unfinished Colon bs h w k = inr (inr (inr (inl h)))
unfinished KeywordBytes bs h w k = cc
unfinished Invalid bs h w k = cc

pub word_unfinished : (bs : List ℕ) → is_live (class_from Empty bs) ≡ true → kind_at (class_from Empty bs) bs ≡ None → IsUnfinishedWord bs
word_unfinished bs w k = unfinished (class_from Empty bs) bs (in_class bs) w k

-- and back

pub class_from-append : (class : WordClass) (xs ys : List ℕ) → class_from class (xs ++ ys) ≡ class_from (class_from class xs) ys
class_from-append class [] ys = refl
class_from-append class (x ∷ xs) ys = class_from-append (next_class class x) xs ys

-- a class that bytes of a set leave as it is
stays : (class : WordClass) (p : ℕ → Bool) → ((b : ℕ) → p b ≡ true → next_class class b ≡ class) → (bs : List ℕ) → list_all p bs ≡ true → class_from class bs ≡ class
stays class p step [] h = refl
stays class p step (b ∷ bs) h =
    let parts = and_parts (p b) (list_all p bs) h in
    rw (step b parts.0) (stays class p step bs parts.1)

-- the first byte of a set leads to a class that the set keeps
enters : (before class : WordClass) (p : ℕ → Bool) → ((b : ℕ) → p b ≡ true → next_class before b ≡ class) → ((b : ℕ) → p b ≡ true → next_class class b ≡ class) → (bs : List ℕ) → nonempty_all p bs ≡ true → class_from before bs ≡ class
enters before class p first step [] h = cc
enters before class p first step (b ∷ bs) h =
    let parts = and_parts (p b) (list_all p bs) h in
    rw (first b parts.0) (stays class p step bs parts.1)

-- a byte in a set is no byte outside it, and the other way round
pub not_in : (p : ℕ → Bool) (b k : ℕ) → p b ≡ true → p k ≡ false → (b == k) ≡ false
not_in p b k h out = false_from_ne_true (b == k) λ yes. let e : p b ≡ p k = ap p (eqb-true b k yes) in cc

pub not_out : (p : ℕ → Bool) (b k : ℕ) → p b ≡ false → p k ≡ true → (b == k) ≡ false
not_out p b k h inside_faults = false_from_ne_true (b == k) λ yes. let e : p b ≡ p k = ap p (eqb-true b k yes) in cc

numeral_class : (bs : List ℕ) → is_numeral bs ≡ true → (class_from Empty bs ≡ Zero) ⊎ (class_from Empty bs ≡ Digits)
numeral_class [] h = cc
numeral_class (b ∷ []) h =
    cond_both (b == 48) _ _ (λ class. ((b == 48) ≡ false → is_digit b ≡ true) → (class ≡ Zero) ⊎ (class ≡ Digits))
    (λ yes digit. inl refl) (λ no digit. inr (rw (digit no) refl)) (λ no. (and_parts (is_digit b) true (rw no at h)).0)
numeral_class (b ∷ c ∷ bs) h =
    let no : (b == 48) ≡ false = false_from_ne_true (b == 48) λ yes. let k = rw yes at h in cc in
    let parts = and_parts (is_digit b) (list_all is_digit (c ∷ bs)) (rw no at h) in
    inr (rw (no, parts.0) (stays Digits is_digit (λ d digit. rw digit refl) (c ∷ bs) parts.1))

-- facts on single bytes, each by computing the test there
zero_is_digit : is_digit 48 ≡ true
unfolding is_digit
zero_is_digit = refl

hash_no_symbol : is_symbol_byte 35 ≡ false
unfolding is_symbol_byte is_digit is_letter is_symbol_mark
hash_no_symbol = refl

colon_no_symbol : is_symbol_byte 58 ≡ false
unfolding is_symbol_byte is_digit is_letter is_symbol_mark
colon_no_symbol = refl

symbol_word_class : (bs : List ℕ) → is_symbol_word bs ≡ true → class_from Empty bs ≡ SymbolBytes
symbol_word_class [] h = cc
symbol_word_class (b ∷ bs) h =
    let parts = and_parts (not (is_digit b)) (is_symbol_byte b && list_all is_symbol_byte bs) h in
    let more = and_parts (is_symbol_byte b) (list_all is_symbol_byte bs) parts.1 in
    let no_digit = not-true (is_digit b) parts.0 in
    rw (not_out is_digit b 48 no_digit zero_is_digit, no_digit, not_in is_symbol_byte b 35 more.0 hash_no_symbol, not_in is_symbol_byte b 58 more.0 colon_no_symbol, more.0)
    (stays SymbolBytes is_symbol_byte (λ d symbol. rw symbol refl) bs more.1)

-- the class of a word gives the kind that it spells
pub class_spells : (kind : TokKind) (bs : List ℕ) → WordSpells kind bs → kind_at (class_from Empty bs) bs ≡ Some kind
unfolding is_digit is_symbol_byte
class_spells Numeral bs h = elim (numeral_class bs h) [ inl e ↦ rw e refl | inr e ↦ rw e refl ]
class_spells Decimal bs h =
    let after : (class_from Empty (h.0 ++ 46 ∷ h.1) ≡ Fraction) =
    class_from-append Empty h.0 (46 ∷ h.1)
    ∙ elim (numeral_class h.0 h.3) [
      | inl e ↦ rw e (enters DecimalPoint Fraction is_digit (λ d digit. rw digit refl) (λ d digit. rw digit refl) h.1 h.4)
      | inr e ↦ rw e (enters DecimalPoint Fraction is_digit (λ d digit. rw digit refl) (λ d digit. rw digit refl) h.1 h.4)
    ] in
    rw (h.2, after) refl
class_spells Hexadecimal bs h =
    let after : class_from Empty (35 ∷ 120 ∷ h.0) ≡ HexDigits = enters HexPrefix HexDigits is_hex_digit (λ d digit. rw digit refl) (λ d digit. rw digit refl) h.0 h.2 in
    rw (h.1, after) refl
class_spells Binary bs h =
    let after : class_from Empty (35 ∷ 98 ∷ h.0) ≡ BinaryDigits = enters BinaryPrefix BinaryDigits is_binary_digit (λ d digit. rw digit refl) (λ d digit. rw digit refl) h.0 h.2 in
    rw (h.1, after) refl
class_spells Keyword bs h =
    let after : class_from Empty (58 ∷ h.0) ≡ KeywordBytes = enters Colon KeywordBytes is_symbol_byte (λ d symbol. rw symbol refl) (λ d symbol. rw symbol refl) h.0 h.2 in
    rw (h.1, after) refl
class_spells Symbol bs h = rw (symbol_word_class bs h.0, h.1) refl
class_spells Reserved bs h = rw (symbol_word_class bs h.0, h.1) refl
class_spells Open bs h = absurd h
class_spells Close bs h = absurd h
class_spells Str bs h = absurd h

kind_live : (class : WordClass) (bs : List ℕ) (kind : TokKind) → kind_at class bs ≡ Some kind → is_live class ≡ true
kind_live Empty bs kind k = cc
kind_live Zero bs kind k = refl
kind_live Digits bs kind k = refl
kind_live DecimalPoint bs kind k = refl
kind_live Fraction bs kind k = refl
kind_live Hash bs kind k = refl
kind_live HexPrefix bs kind k = refl
kind_live HexDigits bs kind k = refl
kind_live BinaryPrefix bs kind k = refl
kind_live BinaryDigits bs kind k = refl
kind_live SymbolBytes bs kind k = refl
kind_live Colon bs kind k = refl
kind_live KeywordBytes bs kind k = refl
kind_live Invalid bs kind k = cc

pub spells_live : (kind : TokKind) (bs : List ℕ) → WordSpells kind bs → is_live (class_from Empty bs) ≡ true
spells_live kind bs h = kind_live (class_from Empty bs) bs kind (class_spells kind bs h)

-- the class of an unfinished word is live and gives no kind
pub class_unfinished : (bs : List ℕ) → IsUnfinishedWord bs → (is_live (class_from Empty bs) ≡ true) × (kind_at (class_from Empty bs) bs ≡ None)
unfolding is_digit is_symbol_byte
class_unfinished bs (inl e) = rw e (refl, refl)
class_unfinished bs (inr (inl e)) = rw e (refl, refl)
class_unfinished bs (inr (inr (inl e))) = rw e (refl, refl)
class_unfinished bs (inr (inr (inr (inl e)))) = rw e (refl, refl)
class_unfinished bs (inr (inr (inr (inr h)))) =
    let after : class_from Empty (h.0 ++ 46 ∷ []) ≡ DecimalPoint =
    class_from-append Empty h.0 (46 ∷ []) ∙ elim (numeral_class h.0 h.2) [ inl e ↦ rw e refl | inr e ↦ rw e refl ] in
    rw (h.1, after) (refl, refl)
