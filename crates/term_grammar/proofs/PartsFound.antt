-- What is known of trees whose parts were found.
use Rattle.std.proofs.Common.{◌≡◌, ℕ, Bool, true, false, not, if◌then◌else◌, Option, Some, None, IfSome, is_some, option_and_then, refl, ap, sym, subst, ◌∙◌}
use Rattle.lex_core.specs.declared.token.Tok.{Tok}
use Rattle.sexp_core.specs.Sexp.{Sexp, atom, list, Sexps, nil, cons}
use Rattle.sexp_core.specs.Parts.{whole}
use Rattle.term_grammar.specs.declared.words.TheConstants.{UNDERSCORE, AS}
use Rattle.term_grammar.specs.Words.{is_symbol, is_index, is_reserved}
use Rattle.term_grammar.specs.FirstParts.{atoms, any_first, token_first, symbol_first, is_empty, guard}
use Rattle.term_grammar.specs.Forms.{are_indices, indexed_parts, is_identifier}
use Rattle.term_grammar.specs.TermForms.{as_parts, case_parts, are_symbols, constructor_parts, is_pattern}
use Rattle.term_grammar.specs.Reads.{tokens_of, indexed_by, identifier_of, pattern_by, pattern_of}
use Rattle.term_grammar.specs.Grammar.{NotEmpty, AreIndices, AreSymbols, ReadsIdentifier, ReadsPattern}
use Rattle.term_grammar.proofs.TokenKinds.{no_test, both_true}
use Rattle.term_grammar.proofs.FormsRead.{whole-part_of}

-- a part is found, and then another
pub then_found : {A B : Type 0} (o : Option A) (f : A → Option B) (P : A → Type 0) (Q : B → Type 0) → IfSome o P → ((a : A) → P a → IfSome (f a) Q) → IfSome (option_and_then f o) Q
then_found (Some a) f P Q h k = k a h
then_found None f P Q h k = tt

-- what holds of a part that is found holds of this one
pub at_part : {A : Type 0} (o : Option A) (a : A) (P : A → Type 0) → o ≡ Some a → IfSome o P → P a
at_part {A = A} o a P e h = let Q : Option A → Type 0 = λ x. IfSome x P in subst Q e h

pub guard_found : (b : Bool) → IfSome (guard b) (λ _. b ≡ true)
guard_found true = refl
guard_found false = tt

pub any_found : (ts : Sexps Tok) → IfSome (any_first ts) (λ p. ts ≡ cons (whole p.0) p.1)
any_found nil = tt
any_found (cons t ts) = ap (λ u. cons u ts) (sym (whole-part_of t))

pub token_found : (ts : Sexps Tok) → IfSome (token_first ts) (λ p. ts ≡ cons (atom p.0) p.1)
token_found nil = tt
token_found (cons (atom t) ts) = refl
token_found (cons (list at us) ts) = tt

symbol_tested : (t : Tok) (ts : Sexps Tok) (b : Bool) → is_symbol t ≡ b → IfSome {T = Tok × Sexps Tok} (if b then Some (t, ts) else None) (λ p. (cons (atom t) ts ≡ cons (atom p.0) p.1) × (is_symbol p.0 ≡ true))
symbol_tested t ts true e = (refl, e)
symbol_tested t ts false e = tt

pub symbol_found : (ts : Sexps Tok) → IfSome (symbol_first ts) (λ p. (ts ≡ cons (atom p.0) p.1) × (is_symbol p.0 ≡ true))
symbol_found nil = tt
symbol_found (cons (atom t) ts) = symbol_tested t ts (is_symbol t) refl
symbol_found (cons (list at us) ts) = tt

-- tokens

indices_known : (ts : Sexps Tok) → are_indices ts ≡ true → (atoms (tokens_of ts) ≡ ts) × AreIndices (tokens_of ts)
indices_known nil e = (refl, tt)
indices_known (cons (atom t) ts) e =
    let b = both_true (is_index t) (are_indices ts) e in
    let h = indices_known ts b.1 in
    (ap (cons (atom t)) h.0, (b.0, h.1))
indices_known (cons (list at us) ts) e = absurd (no_test e)

symbols_known : (ts : Sexps Tok) → are_symbols ts ≡ true → (atoms (tokens_of ts) ≡ ts) × AreSymbols (tokens_of ts)
symbols_known nil e = (refl, tt)
symbols_known (cons (atom t) ts) e =
    let b = both_true (is_symbol t) (are_symbols ts) e in
    let h = symbols_known ts b.1 in
    (ap (cons (atom t)) h.0, (b.0, h.1))
symbols_known (cons (list at us) ts) e = absurd (no_test e)

-- identifiers

indexed_found : (ts : Sexps Tok) → IfSome (indexed_parts ts)
    (λ p. (w : Tok) × (ts ≡ cons (atom w) (cons (atom p.0) p.1)) × (is_reserved UNDERSCORE w ≡ true) × (is_symbol p.0 ≡ true) × NotEmpty p.1 × (are_indices p.1 ≡ true))
indexed_found ts =
    then_found (token_first ts) _ (λ w. ts ≡ cons (atom w.0) w.1) _ (token_found ts) (λ w d.
    then_found (guard (is_reserved UNDERSCORE w.0)) _ (λ _. is_reserved UNDERSCORE w.0 ≡ true) _ (guard_found (is_reserved UNDERSCORE w.0)) (λ _ r.
    then_found (symbol_first w.1) _ (λ n. (w.1 ≡ cons (atom n.0) n.1) × (is_symbol n.0 ≡ true)) _ (symbol_found w.1) (λ n s.
    then_found (guard (not (is_empty n.1))) _ (λ _. not (is_empty n.1) ≡ true) _ (guard_found (not (is_empty n.1))) (λ _ e.
    then_found (guard (are_indices n.1)) _ (λ _. are_indices n.1 ≡ true) _ (guard_found (are_indices n.1)) (λ _ i.
    (w.0, d ∙ ap (cons (atom w.0)) s.0, r, s.1, e, i))))))

indexed_read : (at : ℕ) (ts : Sexps Tok) (o : Option (Tok × Sexps Tok)) → is_some o ≡ true
    → IfSome o (λ p. (w : Tok) × (ts ≡ cons (atom w) (cons (atom p.0) p.1)) × (is_reserved UNDERSCORE w ≡ true) × (is_symbol p.0 ≡ true) × NotEmpty p.1 × (are_indices p.1 ≡ true))
    → ReadsIdentifier (list at ts) (indexed_by at o)
indexed_read at ts None e h = absurd (no_test e)
indexed_read at ts (Some p) e (w, d, r, s, n, i) =
    let k = indices_known p.1 i in
    (w, ap (list at) (d ∙ ap (λ us. cons (atom w) (cons (atom p.0) us)) (sym k.0)), r, s, ap (λ us. not (is_empty us)) k.0 ∙ n, k.1)

pub identifier_found : (t : Sexp Tok) → is_identifier t ≡ true → ReadsIdentifier t (identifier_of t)
identifier_found (atom t) e = (refl, e)
identifier_found (list at ts) e = indexed_read at ts (indexed_parts ts) e (indexed_found ts)

-- patterns

constructor_found : (ts : Sexps Tok) → IfSome (constructor_parts ts)
    (λ p. (ts ≡ cons (atom p.0) p.1) × (is_symbol p.0 ≡ true) × NotEmpty p.1 × (are_symbols p.1 ≡ true))
constructor_found ts =
    then_found (symbol_first ts) _ (λ n. (ts ≡ cons (atom n.0) n.1) × (is_symbol n.0 ≡ true)) _ (symbol_found ts) (λ n s.
    then_found (guard (not (is_empty n.1))) _ (λ _. not (is_empty n.1) ≡ true) _ (guard_found (not (is_empty n.1))) (λ _ e.
    then_found (guard (are_symbols n.1)) _ (λ _. are_symbols n.1 ≡ true) _ (guard_found (are_symbols n.1)) (λ _ i.
    (s.0, s.1, e, i))))

constructor_read : (at : ℕ) (ts : Sexps Tok) (o : Option (Tok × Sexps Tok)) → is_some o ≡ true
    → IfSome o (λ p. (ts ≡ cons (atom p.0) p.1) × (is_symbol p.0 ≡ true) × NotEmpty p.1 × (are_symbols p.1 ≡ true))
    → ReadsPattern (list at ts) (pattern_by at o)
constructor_read at ts None e h = absurd (no_test e)
constructor_read at ts (Some p) e (d, s, n, i) =
    let k = symbols_known p.1 i in
    (ap (list at) (d ∙ ap (cons (atom p.0)) (sym k.0)), s, ap (λ us. not (is_empty us)) k.0 ∙ n, k.1)

pub pattern_found : (t : Sexp Tok) → is_pattern t ≡ true → ReadsPattern t (pattern_of t)
pattern_found (atom t) e = (refl, e)
pattern_found (list at ts) e = constructor_read at ts (constructor_parts ts) e (constructor_found ts)

-- pattern term
pub case_found : (ts : Sexps Tok) → IfSome (case_parts ts) (λ p. is_pattern (whole p.0) ≡ true)
case_found ts =
    then_found (any_first ts) _ (λ p. ts ≡ cons (whole p.0) p.1) _ (any_found ts) (λ p d.
    then_found (guard (is_pattern (whole p.0))) _ (λ _. is_pattern (whole p.0) ≡ true) _ (guard_found (is_pattern (whole p.0))) (λ _ e.
    then_found (any_first p.1) _ (λ t. p.1 ≡ cons (whole t.0) t.1) _ (any_found p.1) (λ t f.
    then_found (guard (is_empty t.1)) _ (λ _. is_empty t.1 ≡ true) _ (guard_found (is_empty t.1)) (λ _ g. e))))

-- identifier sort, after the word `as`
pub as_found : (ts : Sexps Tok) → IfSome (as_parts ts)
    (λ p. (w : Tok) × (ts ≡ cons (atom w) (cons (whole p.0) (cons (whole p.1) nil))) × (is_reserved AS w ≡ true) × (is_identifier (whole p.0) ≡ true))
as_found ts =
    then_found (token_first ts) _ (λ w. ts ≡ cons (atom w.0) w.1) _ (token_found ts) (λ w d.
    then_found (guard (is_reserved AS w.0)) _ (λ _. is_reserved AS w.0 ≡ true) _ (guard_found (is_reserved AS w.0)) (λ _ r.
    then_found (any_first w.1) _ (λ i. w.1 ≡ cons (whole i.0) i.1) _ (any_found w.1) (λ i f.
    then_found (guard (is_identifier (whole i.0))) _ (λ _. is_identifier (whole i.0) ≡ true) _ (guard_found (is_identifier (whole i.0))) (λ _ g.
    then_found (any_first i.1) _ (λ s. i.1 ≡ cons (whole s.0) s.1) _ (any_found i.1) (λ s h.
    then_found (guard (is_empty s.1)) _ (λ _. is_empty s.1 ≡ true) _ (guard_found (is_empty s.1)) (λ _ e.
    (w.0, d ∙ ap (cons (atom w.0)) (f ∙ ap (cons (whole i.0)) (h ∙ ap (cons (whole s.0)) (no_trees s.1 e))), r, g)))))))
  where
    no_trees : (us : Sexps Tok) → is_empty us ≡ true → us ≡ nil
    no_trees nil e = refl
    no_trees (cons u us) e = absurd (no_test e)
