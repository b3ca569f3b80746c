-- A tree has a form exactly where it has the shape of a production.
use Rattle.std.proofs.Common.{◌≡◌, ℕ, Bool, true, false, not, ◌||◌, ◌==◌, if◌then◌else◌, List, [], ◌∷◌, ◌++◌, Option, Some, None, is_some, IfSome, option_and_then, Result, is_ok, IfOk, refl, ap, ◌∙◌}
use Rattle.lex_core.specs.declared.token.Tok.{Tok}
use Rattle.sexp_core.specs.Sexp.{Sexp, atom, list, Sexps, nil, cons}
use Rattle.sexp_core.specs.Parts.{whole}
use Rattle.sexp_core.specs.declared.parts.Part.{Part}
use Rattle.sexp_core.specs.declared.parts.Part.TheVariants as part
use Rattle.term_grammar.specs.declared.words.TheConstants.{UNDERSCORE, AS, LET, FORALL, EXISTS, MATCH, ANNOTATION}
use Rattle.term_grammar.specs.declared.words.TermWord.{TermWord}
use Rattle.term_grammar.specs.declared.words.TermWord.TheVariants as word
use Rattle.term_grammar.specs.declared.form.SortForm.{SortForm}
use Rattle.term_grammar.specs.declared.term_form.TermForm.{TermForm}
use Rattle.term_grammar.specs.declared.term_form.TermForm.TheVariants as form
use Rattle.term_grammar.specs.Words.{is_constant, is_reserved, begins_with}
use Rattle.term_grammar.specs.FirstParts.{any_first, list_first, is_empty, guard, part_of}
use Rattle.term_grammar.specs.Forms.{is_identifier, applied_parts, applied_form, sort_form}
use Rattle.term_grammar.specs.TermForms.{as_parts, is_as, is_qualified, are_named, are_cases, are_notes, binder_parts, match_parts, annotation_parts, word_form, word_of, head_form, list_form, or_at, term_form}
use Rattle.term_grammar.specs.Reads.{identifier_of}
use Rattle.term_grammar.specs.Grammar.{NotEmpty}
use Rattle.term_grammar.specs.Faults.{Position, a_sort, a_term, sorts, terms, seconds, pattern_terms, SortShape, named, applied, QualifiedShape, bare, as_sort, TermShape, constant_shape, qualified_shape, application_shape, let_shape, forall_shape, exists_shape, match_shape, annotation_shape}
use Rattle.term_grammar.proofs.TokenKinds.{no_test, true_not, not_true, word_no_symbol, constant_no_symbol, Begins, begun, let_begins, forall_begins, exists_begins, match_begins, annotation_begins}
use Rattle.term_grammar.proofs.PartsFound.{then_found, guard_found, any_found, identifier_found, as_found}
use Rattle.term_grammar.proofs.GrammarComplete.{choice}
use Rattle.term_grammar.proofs.GrammarSound.{chosen, other, other_word, identifier_sound, applied_no_identifier, identifier_qualified, as_qualified, symbol_head, list_head, no_qualified}

option_choice : {A : Type 0} (b : Bool) (r s : Option A) (P : A → Type 0) → (b ≡ true → IfSome r P) → (b ≡ false → IfSome s P) → IfSome (if b then r else s) P
option_choice true r s P h k = h refl
option_choice false r s P h k = k refl

-- sorts

applied_found : (ts : Sexps Tok) → IfSome (applied_parts ts) (λ p. (ts ≡ cons (whole p.0) p.1) × (is_identifier (whole p.0) ≡ true) × NotEmpty p.1)
applied_found ts =
    then_found (any_first ts) _ (λ i. ts ≡ cons (whole i.0) i.1) _ (any_found ts) (λ i d.
    then_found (guard (is_identifier (whole i.0))) _ (λ _. is_identifier (whole i.0) ≡ true) _ (guard_found (is_identifier (whole i.0))) (λ _ e.
    then_found (guard (not (is_empty i.1))) _ (λ _. not (is_empty i.1) ≡ true) _ (guard_found (not (is_empty i.1))) (λ _ n. (d, e, n))))

applied_shape : (at : ℕ) (ts : Sexps Tok) (o : Option (Part × Sexps Tok)) → IfSome o (λ p. (ts ≡ cons (whole p.0) p.1) × (is_identifier (whole p.0) ≡ true) × NotEmpty p.1)
    → IfOk (applied_form at o) (λ f. (qs : List Position) × SortShape (list at ts) qs)
applied_shape at ts None h = tt
applied_shape at ts (Some p) (d, e, n) = (sorts p.1, applied at (whole p.0) p.1 (identifier_of (whole p.0)) (ap (list at) d) (identifier_found (whole p.0) e) n refl)

pub sort_shape : (t : Sexp Tok) → IfOk (sort_form t) (λ f. (qs : List Position) × SortShape t qs)
sort_shape (atom t) = choice (is_identifier (atom t)) _ _ (λ f. (qs : List Position) × SortShape (atom t) qs) (λ e. ([], named (identifier_of (atom t)) (identifier_found (atom t) e) refl)) (λ _. tt)
sort_shape (list at ts) =
    choice (is_identifier (list at ts)) _ _ (λ f. (qs : List Position) × SortShape (list at ts) qs)
    (λ e. ([], named (identifier_of (list at ts)) (identifier_found (list at ts) e) refl)) (λ _. applied_shape at ts (applied_parts ts) (applied_found ts))

applied_is : (h : Sexp Tok) (ts : Sexps Tok) → is_identifier h ≡ true → NotEmpty ts → applied_parts (cons h ts) ≡ Some (part_of h, ts)
applied_is (atom x) ts e n = rw (e, n) refl
applied_is (list b us) ts e n = rw (e, n) refl

pub sort_formed : (t : Sexp Tok) (qs : List Position) → SortShape t qs → is_ok (sort_form t) ≡ true
sort_formed t qs (named i r e) = ap (λ (o : Result SortForm ℕ). is_ok o) (chosen (is_identifier t) _ _ (identifier_sound t i r).0)
sort_formed t qs (applied at h ts i e r n d) =
    ap (λ x. is_ok (sort_form x)) e
    ∙ ap (λ (o : Result SortForm ℕ). is_ok o) (other (is_identifier (list at (cons h ts))) _ _ (applied_no_identifier at h ts i r))
    ∙ ap (λ (o : Option (Part × Sexps Tok)). is_ok (applied_form at o)) (applied_is h ts (identifier_sound h i r).0 n)

-- qualified identifiers

as_shape : (at : ℕ) (ts : Sexps Tok) (o : Option (Part × Part)) → is_some o ≡ true
    → IfSome o (λ p. (w : Tok) × (ts ≡ cons (atom w) (cons (whole p.0) (cons (whole p.1) nil))) × (is_reserved AS w ≡ true) × (is_identifier (whole p.0) ≡ true))
    → (qs : List Position) × QualifiedShape (list at ts) qs
as_shape at ts None e h = absurd (no_test e)
as_shape at ts (Some p) e (w, d, r, i) =
    (a_sort (whole p.1) ∷ [], as_sort at w (whole p.0) (whole p.1) (identifier_of (whole p.0)) (ap (list at) d) r (identifier_found (whole p.0) i) refl)

by_identifier : (t : Sexp Tok) (b : Bool) → is_identifier t ≡ b → (b || is_as t) ≡ true → (qs : List Position) × QualifiedShape t qs
by_identifier t true d e = ([], bare (identifier_of t) (identifier_found t d) refl)
by_identifier (atom t) false d e = absurd (no_test e)
by_identifier (list at ts) false d e = as_shape at ts (as_parts ts) e (as_found ts)

qualified_found : (t : Sexp Tok) → is_qualified t ≡ true → (qs : List Position) × QualifiedShape t qs
qualified_found t e = by_identifier t (is_identifier t) refl e

pub qualified_formed : (t : Sexp Tok) (qs : List Position) → QualifiedShape t qs → is_qualified t ≡ true
qualified_formed t qs (bare i r e) = (identifier_qualified t (identifier_sound t i r).0).1
qualified_formed t qs (as_sort at w h u i e r p d) = ap is_qualified e ∙ (as_qualified at w h u r (identifier_sound h i p).0).1

-- what begins with a qualified identifier is none
pub no_head : (at : ℕ) (h : Sexp Tok) (ts : Sexps Tok) (qs : List Position) → QualifiedShape h qs → is_qualified (list at (cons h ts)) ≡ false
no_head at h ts qs (bare i r e) = symbol_head at h ts i r
no_head at h ts qs (as_sort b w k u i e r p d) = list_head at b h _ ts e

-- terms

list_found : (ts : Sexps Tok) → IfSome (list_first ts) (λ p. (b : ℕ) × (ts ≡ cons (list b p.0) p.1))
list_found nil = tt
list_found (cons (atom t) ts) = tt
list_found (cons (list b us) ts) = (b, refl)

no_trees : (us : Sexps Tok) → is_empty us ≡ true → us ≡ nil
no_trees nil e = refl
no_trees (cons u us) e = absurd (no_test e)

binder_found : (ts : Sexps Tok) → IfSome (binder_parts ts) (λ p. (b : ℕ) × (ts ≡ cons (list b p.0) (cons (whole p.1) nil)) × NotEmpty p.0 × (are_named p.0 ≡ true))
binder_found ts =
    then_found (list_first ts) _ (λ b. (c : ℕ) × (ts ≡ cons (list c b.0) b.1)) _ (list_found ts) (λ b d.
    then_found (any_first b.1) _ (λ t. b.1 ≡ cons (whole t.0) t.1) _ (any_found b.1) (λ t e.
    then_found (guard (is_empty t.1)) _ (λ _. is_empty t.1 ≡ true) _ (guard_found (is_empty t.1)) (λ _ f.
    then_found (guard (not (is_empty b.0))) _ (λ _. not (is_empty b.0) ≡ true) _ (guard_found (not (is_empty b.0))) (λ _ n.
    then_found (guard (are_named b.0)) _ (λ _. are_named b.0 ≡ true) _ (guard_found (are_named b.0)) (λ _ m.
    (d.0, d.1 ∙ ap (cons (list d.0 b.0)) (e ∙ ap (cons (whole t.0)) (no_trees t.1 f)), n, m))))))

match_found : (ts : Sexps Tok) → IfSome (match_parts ts) (λ p. (b : ℕ) × (ts ≡ cons (whole p.0) (cons (list b p.1) nil)) × NotEmpty p.1 × (are_cases p.1 ≡ true))
match_found ts =
    then_found (any_first ts) _ (λ t. ts ≡ cons (whole t.0) t.1) _ (any_found ts) (λ t d.
    then_found (list_first t.1) _ (λ c. (b : ℕ) × (t.1 ≡ cons (list b c.0) c.1)) _ (list_found t.1) (λ c e.
    then_found (guard (is_empty c.1)) _ (λ _. is_empty c.1 ≡ true) _ (guard_found (is_empty c.1)) (λ _ f.
    then_found (guard (not (is_empty c.0))) _ (λ _. not (is_empty c.0) ≡ true) _ (guard_found (not (is_empty c.0))) (λ _ n.
    then_found (guard (are_cases c.0)) _ (λ _. are_cases c.0 ≡ true) _ (guard_found (are_cases c.0)) (λ _ m.
    (e.0, d ∙ ap (cons (whole t.0)) (e.1 ∙ ap (cons (list e.0 c.0)) (no_trees c.1 f)), n, m))))))

annotation_found : (ts : Sexps Tok) → IfSome (annotation_parts ts) (λ p. (ts ≡ cons (whole p.0) p.1) × NotEmpty p.1 × (are_notes p.1 ≡ true))
annotation_found ts =
    then_found (any_first ts) _ (λ t. ts ≡ cons (whole t.0) t.1) _ (any_found ts) (λ t d.
    then_found (guard (not (is_empty t.1))) _ (λ _. not (is_empty t.1) ≡ true) _ (guard_found (not (is_empty t.1))) (λ _ n.
    then_found (guard (are_notes t.1)) _ (λ _. are_notes t.1 ≡ true) _ (guard_found (are_notes t.1)) (λ _ m. (d, n, m))))

-- a form comes with a shape
abbrev Shaped : Sexp Tok → TermForm → Type 0
Shaped t f = (qs : List Position) × TermShape t qs

word_shape : (at : ℕ) (w : Tok) (ts us : Sexps Tok) (x : TermWord) → ts ≡ cons (atom w) us → Begins w x → IfSome (word_form x us) (Shaped (list at ts))
word_shape at w ts us word.Let e r =
    then_found (binder_parts us) _ (λ p. (b : ℕ) × (us ≡ cons (list b p.0) (cons (whole p.1) nil)) × NotEmpty p.0 × (are_named p.0 ≡ true)) _ (binder_found us) (λ p f.
    (seconds a_term p.0 ++ a_term (whole p.1) ∷ [], let_shape at w f.0 p.0 (whole p.1) (ap (list at) (e ∙ ap (cons (atom w)) f.1)) r f.2 f.3 refl))
word_shape at w ts us word.Forall e r =
    then_found (binder_parts us) _ (λ p. (b : ℕ) × (us ≡ cons (list b p.0) (cons (whole p.1) nil)) × NotEmpty p.0 × (are_named p.0 ≡ true)) _ (binder_found us) (λ p f.
    (seconds a_sort p.0 ++ a_term (whole p.1) ∷ [], forall_shape at w f.0 p.0 (whole p.1) (ap (list at) (e ∙ ap (cons (atom w)) f.1)) r f.2 f.3 refl))
word_shape at w ts us word.Exists e r =
    then_found (binder_parts us) _ (λ p. (b : ℕ) × (us ≡ cons (list b p.0) (cons (whole p.1) nil)) × NotEmpty p.0 × (are_named p.0 ≡ true)) _ (binder_found us) (λ p f.
    (seconds a_sort p.0 ++ a_term (whole p.1) ∷ [], exists_shape at w f.0 p.0 (whole p.1) (ap (list at) (e ∙ ap (cons (atom w)) f.1)) r f.2 f.3 refl))
word_shape at w ts us word.Match e r =
    then_found (match_parts us) _ (λ p. (b : ℕ) × (us ≡ cons (whole p.0) (cons (list b p.1) nil)) × NotEmpty p.1 × (are_cases p.1 ≡ true)) _ (match_found us) (λ p f.
    (a_term (whole p.0) ∷ seconds a_term p.1, match_shape at w (whole p.0) f.0 p.1 (ap (list at) (e ∙ ap (cons (atom w)) f.1)) r f.2 f.3 refl))
word_shape at w ts us word.Annotation e r =
    then_found (annotation_parts us) _ (λ p. (us ≡ cons (whole p.0) p.1) × NotEmpty p.1 × (are_notes p.1 ≡ true)) _ (annotation_found us) (λ p f.
    (a_term (whole p.0) ∷ pattern_terms p.1, annotation_shape at w (whole p.0) p.1 (ap (list at) (e ∙ ap (cons (atom w)) f.0)) r f.1 f.2 refl))
word_shape at w ts us word.Other e r = tt

head_word : (at : ℕ) (ts us : Sexps Tok) (h : Part) → ts ≡ cons (whole h) us → IfSome (word_form (word_of (whole h)) us) (Shaped (list at ts))
head_word at ts us (part.Atom w) e = word_shape at w ts us (begins_with w) e (begun w)
head_word at ts us (part.List b vs) e = tt

head_shape : (at : ℕ) (ts us : Sexps Tok) (h : Part) → ts ≡ cons (whole h) us → IfSome (head_form h us) (Shaped (list at ts))
head_shape at ts us h e =
    option_choice (is_qualified (whole h)) _ _ (Shaped (list at ts)) (λ q.
    option_choice (is_empty us) _ _ (Shaped (list at ts)) (λ _. tt) (λ n. let s = qualified_found (whole h) q in
    (s.0 ++ terms us, application_shape at (whole h) us s.0 (ap (list at) e) s.1 (true_not (is_empty us) n) refl))) (λ _. head_word at ts us h e)

or_found : (at : ℕ) (o : Option TermForm) (P : TermForm → Type 0) → IfSome o P → IfOk (or_at at o) P
or_found at (Some f) P h = h
or_found at None P h = tt

pub term_shape : (t : Sexp Tok) → IfOk (term_form t) (Shaped t)
term_shape (atom t) =
    choice (is_qualified (atom t)) _ _ (Shaped (atom t)) (λ e. let s = qualified_found (atom t) e in (s.0, qualified_shape s.1))
    (λ _. choice (is_constant t) _ _ (Shaped (atom t)) (λ e. ([], constant_shape t refl e refl)) (λ _. tt))
term_shape (list at ts) =
    choice (is_qualified (list at ts)) _ _ (Shaped (list at ts)) (λ e. let s = qualified_found (list at ts) e in (s.0, qualified_shape s.1))
    (λ _. or_found at (list_form ts) (Shaped (list at ts)) (then_found (any_first ts) _ (λ h. ts ≡ cons (whole h.0) h.1) (Shaped (list at ts)) (any_found ts) (λ h e. head_shape at ts h.1 h.0 e)))

-- the form of a list that is no qualified identifier
listed : (at : ℕ) (ts : Sexps Tok) (f : TermForm) → is_qualified (list at ts) ≡ false → list_form ts ≡ Some f → is_ok (term_form (list at ts)) ≡ true
listed at ts f e d = ap (λ (o : Result TermForm ℕ). is_ok o) (other (is_qualified (list at ts)) _ _ e ∙ ap (or_at at) d)

application_is : (h : Sexp Tok) (ts : Sexps Tok) → is_qualified h ≡ true → NotEmpty ts → list_form (cons h ts) ≡ Some (form.Application (part_of h) ts)
application_is (atom x) ts e n = chosen (is_qualified (atom x)) _ _ e ∙ other (is_empty ts) _ _ (not_true (is_empty ts) n)
application_is (list b us) ts e n = chosen (is_qualified (list b us)) _ _ e ∙ other (is_empty ts) _ _ (not_true (is_empty ts) n)

word_is : (m : ℕ) (w : Tok) (ts : Sexps Tok) (x : TermWord) → is_reserved m w ≡ true → begins_with w ≡ x → list_form (cons (atom w) ts) ≡ word_form x ts
word_is m w ts x r e = other (is_qualified (atom w)) _ _ (ap (λ b. b || false) (word_no_symbol w m r)) ∙ ap (λ y. word_form y ts) e

binder_is : (b : ℕ) (ts : Sexps Tok) (u : Sexp Tok) → NotEmpty ts → are_named ts ≡ true → binder_parts (cons (list b ts) (cons u nil)) ≡ Some (ts, part_of u)
binder_is b ts u n m = rw (n, m) refl

match_parts_is : (b : ℕ) (ts : Sexps Tok) (u : Sexp Tok) → NotEmpty ts → are_cases ts ≡ true → match_parts (cons u (cons (list b ts) nil)) ≡ Some (part_of u, ts)
match_parts_is b ts u n m = rw (n, m) refl

annotation_parts_is : (ts : Sexps Tok) (u : Sexp Tok) → NotEmpty ts → are_notes ts ≡ true → annotation_parts (cons u ts) ≡ Some (part_of u, ts)
annotation_parts_is ts u n m = rw (n, m) refl

-- the form of the production that a word begins
worded : (at m : ℕ) (w : Tok) (ts : Sexps Tok) (x : TermWord) (f : TermForm) → (m == UNDERSCORE) ≡ false → (m == AS) ≡ false → is_reserved m w ≡ true → begins_with w ≡ x
    → word_form x ts ≡ Some f → is_ok (term_form (list at (cons (atom w) ts))) ≡ true
worded at m w ts x f a b r e d =
    listed at (cons (atom w) ts) f (no_qualified at w ts (other_word m UNDERSCORE w a r) (other_word m AS w b r)) (word_is m w ts x r e ∙ d)

pub term_formed : (t : Sexp Tok) (qs : List Position) → TermShape t qs → is_ok (term_form t) ≡ true
term_formed t qs (constant_shape c e k d) =
    ap (λ x. is_ok (term_form x)) e
    ∙ ap (λ (o : Result TermForm ℕ). is_ok o) (other (is_qualified (atom c)) _ _ (ap (λ b. b || false) (constant_no_symbol c k)) ∙ chosen (is_constant c) _ _ k)
term_formed t qs (qualified_shape s) = ap (λ (o : Result TermForm ℕ). is_ok o) (chosen (is_qualified t) _ _ (qualified_formed t qs s))
term_formed t qs (application_shape at h ts ps e s n d) =
    ap (λ x. is_ok (term_form x)) e ∙ listed at (cons h ts) _ (no_head at h ts ps s) (application_is h ts (qualified_formed h ps s) n)
term_formed t qs (let_shape at w b bs u e r n m d) =
    ap (λ x. is_ok (term_form x)) e
    ∙ worded at LET w (cons (list b bs) (cons u nil)) word.Let (form.Let bs (part_of u)) refl refl r (let_begins w r)
    (ap (option_and_then (λ (p : Sexps Tok × Part). Some (form.Let p.0 p.1))) (binder_is b bs u n m))
term_formed t qs (forall_shape at w b bs u e r n m d) =
    ap (λ x. is_ok (term_form x)) e
    ∙ worded at FORALL w (cons (list b bs) (cons u nil)) word.Forall (form.Forall bs (part_of u)) refl refl r (forall_begins w r)
    (ap (option_and_then (λ (p : Sexps Tok × Part). Some (form.Forall p.0 p.1))) (binder_is b bs u n m))
term_formed t qs (exists_shape at w b bs u e r n m d) =
    ap (λ x. is_ok (term_form x)) e
    ∙ worded at EXISTS w (cons (list b bs) (cons u nil)) word.Exists (form.Exists bs (part_of u)) refl refl r (exists_begins w r)
    (ap (option_and_then (λ (p : Sexps Tok × Part). Some (form.Exists p.0 p.1))) (binder_is b bs u n m))
term_formed t qs (match_shape at w u b cs e r n m d) =
    ap (λ x. is_ok (term_form x)) e
    ∙ worded at MATCH w (cons u (cons (list b cs) nil)) word.Match (form.Match (part_of u) cs) refl refl r (match_begins w r)
    (ap (option_and_then (λ (p : Part × Sexps Tok). Some (form.Match p.0 p.1))) (match_parts_is b cs u n m))
term_formed t qs (annotation_shape at w u ns e r n m d) =
    ap (λ x. is_ok (term_form x)) e
    ∙ worded at ANNOTATION w (cons u ns) word.Annotation (form.Annotated (part_of u) ns) refl refl r (annotation_begins w r)
    (ap (option_and_then (λ (p : Part × Sexps Tok). Some (form.Annotated p.0 p.1))) (annotation_parts_is ns u n m))
