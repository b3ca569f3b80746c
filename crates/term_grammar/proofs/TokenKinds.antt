-- A token is of one kind.
use Rattle.std.proofs.Common.{◌≡◌, ℕ, Bool, true, false, not, ◌&&◌, ◌||◌, ◌==◌, if◌then◌else◌, refl}
use Rattle.std.proofs.lemmas.Bool.{eqb-true}
use Rattle.lex_core.specs.declared.token.TokKind.{TokKind}
use Rattle.lex_core.specs.declared.token.TokKind.TheVariants as kind
use Rattle.lex_core.specs.declared.token.Tok.{Tok}
use Rattle.term_grammar.specs.declared.words.TheConstants.{LET, FORALL, EXISTS, MATCH, ANNOTATION, NAMED, PATTERN}
use Rattle.term_grammar.specs.declared.words.TermWord.{TermWord}
use Rattle.term_grammar.specs.declared.words.TermWord.TheVariants as word
use Rattle.term_grammar.specs.Words.{symbol_kind, keyword_kind, reserved_kind, constant_kind, is_symbol, is_keyword, is_constant, is_reserved, is_key, is_value_token, word_numbered, begins_with}
use Rattle.term_grammar.specs.TermForms.{is_other_key}

pub no_test : false ≡ true → ⊥
no_test e = cc

pub both_true : (a b : Bool) → (a && b) ≡ true → (a ≡ true) × (b ≡ true)
both_true true b e = (refl, e)
both_true false b e = absurd (no_test e)

pub true_both : (a b : Bool) → a ≡ true → b ≡ true → (a && b) ≡ true
true_both true b e f = f
true_both false b e f = absurd (no_test e)

pub not_true : (b : Bool) → not b ≡ true → b ≡ false
not_true true e = absurd (no_test e)
not_true false e = refl

pub true_not : (b : Bool) → b ≡ false → not b ≡ true
true_not true e = absurd (cc)
true_not false e = refl

symbol_not_reserved : (k : TokKind) (b : Bool) → symbol_kind k ≡ true → (reserved_kind k && b) ≡ false
symbol_not_reserved kind.Reserved b e = absurd (no_test e)
symbol_not_reserved _ b e = refl

pub symbol_no_word : (t : Tok) (n : ℕ) → is_symbol t ≡ true → is_reserved n t ≡ false
symbol_no_word t n e = symbol_not_reserved t.kind (t.name == n) e

reserved_not_symbol : (k : TokKind) (b : Bool) → (reserved_kind k && b) ≡ true → symbol_kind k ≡ false
reserved_not_symbol kind.Symbol b e = absurd (no_test e)
reserved_not_symbol _ b e = refl

pub word_no_symbol : (t : Tok) (n : ℕ) → is_reserved n t ≡ true → is_symbol t ≡ false
word_no_symbol t n e = reserved_not_symbol t.kind (t.name == n) e

constant_not_symbol : (k : TokKind) → constant_kind k ≡ true → symbol_kind k ≡ false
constant_not_symbol kind.Symbol e = absurd (no_test e)
constant_not_symbol _ e = refl

pub constant_no_symbol : (t : Tok) → is_constant t ≡ true → is_symbol t ≡ false
constant_no_symbol t e = constant_not_symbol t.kind e

keyword_not_value : (k : TokKind) → keyword_kind k ≡ true → (constant_kind k || symbol_kind k) ≡ false
keyword_not_value kind.Keyword e = refl
keyword_not_value kind.Open e = absurd (no_test e)
keyword_not_value kind.Close e = absurd (no_test e)
keyword_not_value kind.Numeral e = absurd (no_test e)
keyword_not_value kind.Decimal e = absurd (no_test e)
keyword_not_value kind.Hexadecimal e = absurd (no_test e)
keyword_not_value kind.Binary e = absurd (no_test e)
keyword_not_value kind.Str e = absurd (no_test e)
keyword_not_value kind.Symbol e = absurd (no_test e)
keyword_not_value kind.Reserved e = absurd (no_test e)

pub keyword_no_value : (t : Tok) → is_keyword t ≡ true → is_value_token t ≡ false
keyword_no_value t e = keyword_not_value t.kind e

pub key_is_keyword : (t : Tok) (n : ℕ) → is_key n t ≡ true → is_keyword t ≡ true
key_is_keyword t n e = (both_true (keyword_kind t.kind) (t.name == n) e).0

-- a keyword is not two fixed ones
pub pattern_no_name : (t : Tok) → is_key PATTERN t ≡ true → is_key NAMED t ≡ false
pattern_no_name t e = two_numbers (keyword_kind t.kind) t.name e
  where
    two_numbers : (b : Bool) (n : ℕ) → (b && (n == 45)) ≡ true → (b && (n == 44)) ≡ false
    two_numbers true n e = let h : n ≡ 45 = eqb-true n 45 e in rw h refl
    two_numbers false n e = absurd (no_test e)

pub other_key : (t : Tok) → is_other_key t ≡ true → (is_keyword t ≡ true) × (not (is_key NAMED t) ≡ true) × (not (is_key PATTERN t) ≡ true)
other_key t e =
    let a = both_true (is_keyword t) (not (is_key NAMED t) && not (is_key PATTERN t)) e in
    let b = both_true (not (is_key NAMED t)) (not (is_key PATTERN t)) a.1 in
    (a.0, b.0, b.1)

pub is_other : (t : Tok) → is_keyword t ≡ true → not (is_key NAMED t) ≡ true → not (is_key PATTERN t) ≡ true → is_other_key t ≡ true
is_other t e f g = true_both _ _ e (true_both _ _ f g)

-- the word of a production, by its number
numbered : (m : ℕ) (w : TermWord) → word_numbered m ≡ w → (b : Bool) (n : ℕ) → (b && (n == m)) ≡ true → (if b then word_numbered n else word.Other) ≡ w
numbered m w d true n e = let h : n ≡ m = eqb-true n m e in rw h d
numbered m w d false n e = absurd (no_test e)

pub let_begins : (t : Tok) → is_reserved LET t ≡ true → begins_with t ≡ word.Let
let_begins t e = numbered LET word.Let refl (reserved_kind t.kind) t.name e

pub forall_begins : (t : Tok) → is_reserved FORALL t ≡ true → begins_with t ≡ word.Forall
forall_begins t e = numbered FORALL word.Forall refl (reserved_kind t.kind) t.name e

pub exists_begins : (t : Tok) → is_reserved EXISTS t ≡ true → begins_with t ≡ word.Exists
exists_begins t e = numbered EXISTS word.Exists refl (reserved_kind t.kind) t.name e

pub match_begins : (t : Tok) → is_reserved MATCH t ≡ true → begins_with t ≡ word.Match
match_begins t e = numbered MATCH word.Match refl (reserved_kind t.kind) t.name e

pub annotation_begins : (t : Tok) → is_reserved ANNOTATION t ≡ true → begins_with t ≡ word.Annotation
annotation_begins t e = numbered ANNOTATION word.Annotation refl (reserved_kind t.kind) t.name e

-- the number of the word that begins a production
abbrev pub Begins : Tok → TermWord → Type 0
Begins t word.Let = is_reserved LET t ≡ true
Begins t word.Forall = is_reserved FORALL t ≡ true
Begins t word.Exists = is_reserved EXISTS t ≡ true
Begins t word.Match = is_reserved MATCH t ≡ true
Begins t word.Annotation = is_reserved ANNOTATION t ≡ true
Begins t word.Other = Unit {0}

abbrev Chosen : Bool → Bool → Bool → Bool → Bool → Bool → TermWord → Type 0
Chosen r a b c d e word.Let = (r && a) ≡ true
Chosen r a b c d e word.Forall = (r && b) ≡ true
Chosen r a b c d e word.Exists = (r && c) ≡ true
Chosen r a b c d e word.Match = (r && d) ≡ true
Chosen r a b c d e word.Annotation = (r && e) ≡ true
Chosen r a b c d e word.Other = Unit {0}

chosen : (r a b c d e : Bool) → Chosen r a b c d e
    (if r then (if a then word.Let else if b then word.Forall else if c then word.Exists else if d then word.Match else if e then word.Annotation else word.Other) else word.Other)
chosen false a b c d e = tt
chosen true true b c d e = refl
chosen true false true c d e = refl
chosen true false false true d e = refl
chosen true false false false true e = refl
chosen true false false false false true = refl
chosen true false false false false false = tt

as_begun : (t : Tok) (w : TermWord) → Chosen (reserved_kind t.kind) (t.name == LET) (t.name == FORALL) (t.name == EXISTS) (t.name == MATCH) (t.name == ANNOTATION) w → Begins t w
as_begun t word.Let h = h
as_begun t word.Forall h = h
as_begun t word.Exists h = h
as_begun t word.Match h = h
as_begun t word.Annotation h = h
as_begun t word.Other h = tt

pub begun : (t : Tok) → Begins t (begins_with t)
begun t = as_begun t (begins_with t) (chosen (reserved_kind t.kind) (t.name == LET) (t.name == FORALL) (t.name == EXISTS) (t.name == MATCH) (t.name == ANNOTATION))
