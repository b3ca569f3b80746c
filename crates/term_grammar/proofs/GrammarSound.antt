-- What the grammar has a tree read as, it reads as.
use Rattle.std.proofs.Common.{◌≡◌, ℕ, Bool, true, false, not, ◌&&◌, ◌||◌, ◌==◌, if◌then◌else◌, List, [], ◌∷◌, Option, Some, None, is_some, Result, Ok, Err, ◌⊎◌, inl, inr, refl, ap, sym, ◌∙◌}
use Rattle.std.proofs.lemmas.Bool.{eqb-true}
use Rattle.lex_core.specs.declared.token.Tok.{Tok}
use Rattle.sexp_core.specs.Sexp.{Sexp, atom, list, Sexps, nil, cons, append}
use Rattle.sexp_core.specs.Parts.{whole}
use Rattle.sexp_core.specs.declared.parts.Part.{Part}
use Rattle.term_grammar.specs.declared.words.TheConstants.{UNDERSCORE, AS, LET, FORALL, EXISTS, MATCH, ANNOTATION, NAMED, PATTERN}
use Rattle.term_grammar.specs.declared.words.TermWord.{TermWord}
use Rattle.term_grammar.specs.declared.words.TermWord.TheVariants as word
use Rattle.term_grammar.specs.Words.{is_symbol, is_index, is_constant, is_keyword, reserved_kind, is_reserved, is_key, is_value_token, begins_with}
use Rattle.term_grammar.specs.FirstParts.{atoms, is_empty, part_of}
use Rattle.term_grammar.specs.Values.{is_value}
use Rattle.term_grammar.specs.Syntax.{Identifier, symbol, indexed, Sort, named_sort, applied_sort, Sorts, no_sorts, with_sort, Qualified, unqualified, qualified, SortedSymbol, Pattern, symbol_pattern, constructor_pattern, keyword_attribute, valued_attribute, Term, constant, qualified_term, application, let_in, for_all, there_exists, match_with, annotated, Terms, no_terms, with_term, Bindings, no_bindings, with_binding, Cases, no_cases, with_case, Notes, no_notes, with_note, named_note, pattern_note, attribute_note}
use Rattle.term_grammar.specs.Forms.{are_indices, indexed_parts, is_identifier}
use Rattle.term_grammar.specs.TermForms.{as_parts, is_as, is_qualified, are_symbols, constructor_parts, is_pattern, is_other_key, named_parts, are_named, case_parts, are_cases, are_notes}
use Rattle.term_grammar.specs.Reads.{made_of, made_of_two, indexed_by, identifier_of, pattern_by, pattern_of, with_sorted, with_named, with_pattern, with_attribute, read_sort, read_sorts, read_sorted, qualified_by, read_qualified, by_word, read_term, read_terms, read_bindings, read_cases, read_notes, read_application, read_let, read_binder, read_match, read_annotation}
use Rattle.term_grammar.specs.Codes.{tokens_of-atoms}
use Rattle.term_grammar.specs.Grammar.{NotEmpty, AreIndices, AreSymbols, ReadsIdentifier, ReadsSort, ReadsSorts, ReadsQualified, ReadsVariables, ReadsPattern, ReadsTerm, ReadsTerms, ReadsBindings, ReadsCases, ReadsNotes}
use Rattle.term_grammar.proofs.FormsRead.{whole-part_of}
use Rattle.term_grammar.proofs.TokenKinds.{no_test, true_both, not_true, symbol_no_word, word_no_symbol, constant_no_symbol, keyword_no_value, key_is_keyword, is_other, let_begins, forall_begins, exists_begins, match_begins, annotation_begins}

pub chosen : {A : Type 0} (b : Bool) (r s : A) → b ≡ true → (if b then r else s) ≡ r
chosen true r s e = refl
chosen false r s e = absurd (no_test e)

pub other : {A : Type 0} (b : Bool) (r s : A) → b ≡ false → (if b then r else s) ≡ s
other true r s e = absurd (no_test (sym e))
other false r s e = refl

made : {A B : Type 0} (f : A → B) (r : Result A ℕ) (a : A) → r ≡ Ok a → made_of f r ≡ Ok (f a)
made f r a e = ap (made_of f) e

made_two : {A B C : Type 0} (f : A → B → C) (r : Result A ℕ) (s : Result B ℕ) (a : A) (b : B) → r ≡ Ok a → s ≡ Ok b → made_of_two f r s ≡ Ok (f a b)
made_two f r s a b d e = ap (λ x. made_of_two f x s) d ∙ ap (made_of (f a)) e

-- a word is no word of another number
pub other_word : (m n : ℕ) (t : Tok) → (m == n) ≡ false → is_reserved m t ≡ true → is_reserved n t ≡ false
other_word m n t d e = two_numbers (reserved_kind t.kind) t.name e
  where
    two_numbers : (b : Bool) (k : ℕ) → (b && (k == m)) ≡ true → (b && (k == n)) ≡ false
    two_numbers true k f = let h : k ≡ m = eqb-true k m f in rw h d
    two_numbers false k f = refl

-- identifiers

indices_tested : (is : List Tok) → AreIndices is → are_indices (atoms is) ≡ true
indices_tested [] h = refl
indices_tested (t ∷ ts) h = true_both (is_index t) (are_indices (atoms ts)) h.0 (indices_tested ts h.1)

symbols_tested : (is : List Tok) → AreSymbols is → are_symbols (atoms is) ≡ true
symbols_tested [] h = refl
symbols_tested (t ∷ ts) h = true_both (is_symbol t) (are_symbols (atoms ts)) h.0 (symbols_tested ts h.1)

indexed_is : (w x : Tok) (us : Sexps Tok) → is_reserved UNDERSCORE w ≡ true → is_symbol x ≡ true → not (is_empty us) ≡ true → are_indices us ≡ true
    → indexed_parts (cons (atom w) (cons (atom x) us)) ≡ Some (x, us)
indexed_is w x us r s n i = rw (r, s, n, i) refl

pub identifier_sound : (t : Sexp Tok) (i : Identifier) → ReadsIdentifier t i → (is_identifier t ≡ true) × (identifier_of t ≡ i)
identifier_sound t (symbol x) (e, s) = (ap is_identifier e ∙ s, ap identifier_of e)
identifier_sound t (indexed at x is) (w, e, r, s, n, i) =
    let p = indexed_is w x (atoms is) r s n (indices_tested is i) in
    (ap is_identifier e ∙ ap (λ (o : Option (Tok × Sexps Tok)). is_some o) p, ap identifier_of e ∙ ap (indexed_by at) p ∙ ap (indexed at x) (tokens_of-atoms is))

pub no_list : (at : ℕ) (x : Tok) (ts : Sexps Tok) → is_reserved UNDERSCORE x ≡ false → is_identifier (list at (cons (atom x) ts)) ≡ false
no_list at x ts e = rw e refl

pub applied_no_identifier : (at : ℕ) (h : Sexp Tok) (ts : Sexps Tok) (i : Identifier) → ReadsIdentifier h i → is_identifier (list at (cons h ts)) ≡ false
applied_no_identifier at h ts (symbol x) (e, s) = ap (λ y. is_identifier (list at (cons y ts))) e ∙ no_list at x ts (symbol_no_word x UNDERSCORE s)
applied_no_identifier at h ts (indexed b x is) (w, e, r, s, n, i) = ap (λ y. is_identifier (list at (cons y ts))) e

-- sorts

pub named_reads : (t : Sexp Tok) → is_identifier t ≡ true → read_sort t ≡ Ok (named_sort (identifier_of t))
unfolding read_sort
named_reads (atom t) e = chosen (is_identifier (atom t)) _ _ e
named_reads (list at nil) e = absurd (no_test e)
named_reads (list at (cons h ts)) e = chosen (is_identifier (list at (cons h ts))) _ _ e

pub applied_is : (at : ℕ) (h : Sexp Tok) (ts : Sexps Tok) (i : Identifier) → ReadsIdentifier h i → NotEmpty ts
    → read_sort (list at (cons h ts)) ≡ made_of (applied_sort at (identifier_of h)) (read_sorts ts)
unfolding read_sort
applied_is at h ts i p n =
    other (is_identifier (list at (cons h ts))) _ _ (applied_no_identifier at h ts i p)
    ∙ chosen (is_identifier h && not (is_empty ts)) _ _ (true_both _ _ (identifier_sound h i p).0 n)

no_sorts_read : read_sorts nil ≡ Ok no_sorts
unfolding read_sort
no_sorts_read = refl

sorts_read : (u : Sexp Tok) (us : Sexps Tok) (s : Sort) (ss : Sorts) → read_sort u ≡ Ok s → read_sorts us ≡ Ok ss → read_sorts (cons u us) ≡ Ok (with_sort s ss)
unfolding read_sort
sorts_read u us s ss d e = made_two with_sort (read_sort u) (read_sorts us) s ss d e

mutual
  pub sort_sound : (s : Sort) (t : Sexp Tok) → ReadsSort t s → read_sort t ≡ Ok s
  sort_sound (named_sort i) t p = let h = identifier_sound t i p in named_reads t h.0 ∙ ap (λ j. Ok (named_sort j)) h.1
  sort_sound (applied_sort at i ss) t (h, ts, e, p, n, q) =
      ap read_sort e ∙ applied_is at h ts i p n ∙ made (applied_sort at (identifier_of h)) (read_sorts ts) ss (sorts_sound ss ts q)
      ∙ ap (λ j. Ok (applied_sort at j ss)) (identifier_sound h i p).1

  pub sorts_sound : (ss : Sorts) (ts : Sexps Tok) → ReadsSorts ts ss → read_sorts ts ≡ Ok ss
  sorts_sound no_sorts ts e = ap read_sorts e ∙ no_sorts_read
  sorts_sound (with_sort s ss) ts (u, us, e, p, q) = ap read_sorts e ∙ sorts_read u us s ss (sort_sound s u p) (sorts_sound ss us q)

named_is : (x : Tok) (u : Sexp Tok) → is_symbol x ≡ true → named_parts (cons (atom x) (cons u nil)) ≡ Some (x, part_of u)
named_is x u s = rw s refl

named_more : (b : ℕ) (x : Tok) (u : Sexp Tok) (us : Sexps Tok) → is_symbol x ≡ true → are_named us ≡ true → are_named (cons (list b (cons (atom x) (cons u nil))) us) ≡ true
named_more b x u us s n = true_both _ _ (ap (λ (o : Option (Tok × Part)). is_some o) (named_is x u s)) n

variable_read : (b : ℕ) (x : Tok) (u : Sexp Tok) (us : Sexps Tok) (s : Sort) (vs : List SortedSymbol) → is_symbol x ≡ true → read_sort u ≡ Ok s → read_sorted us ≡ Ok vs
    → read_sorted (cons (list b (cons (atom x) (cons u nil))) us) ≡ Ok (with_sorted b x s vs)
unfolding read_sorted
variable_read b x u us s vs k d e = chosen (is_symbol x) _ _ k ∙ made_two (with_sorted b x) (read_sort u) (read_sorted us) s vs d e

no_variables_read : read_sorted nil ≡ Ok []
unfolding read_sorted
no_variables_read = refl

pub variables_sound : (vs : List SortedSymbol) (ts : Sexps Tok) → ReadsVariables ts vs → (read_sorted ts ≡ Ok vs) × (are_named ts ≡ true)
variables_sound [] ts e = (ap read_sorted e ∙ no_variables_read, ap are_named e)
variables_sound (v ∷ vs) ts (u, us, e, s, p, q) =
    let h = variables_sound vs us q in
    (ap read_sorted e ∙ variable_read v.at v.name u us v.sort vs s (sort_sound v.sort u p) h.0, ap are_named e ∙ named_more v.at v.name u us s h.1)

-- qualified identifiers

pub as_is : (w : Tok) (h u : Sexp Tok) → is_reserved AS w ≡ true → is_identifier h ≡ true → as_parts (cons (atom w) (cons h (cons u nil))) ≡ Some (part_of h, part_of u)
as_is w (atom x) u r i = rw (r, i) refl
as_is w (list at ts) u r i = rw (r, i) refl

pub identifier_qualified : (t : Sexp Tok) → is_identifier t ≡ true → (read_qualified t ≡ Ok (unqualified (identifier_of t))) × (is_qualified t ≡ true)
unfolding read_qualified
identifier_qualified (atom t) e = (chosen (is_symbol t) _ _ e, ap (λ b. b || false) e)
identifier_qualified (list at ts) e = (chosen (is_identifier (list at ts)) _ _ e, ap (λ b. b || is_as (list at ts)) e)

pub as_qualified : (at : ℕ) (w : Tok) (h u : Sexp Tok) → is_reserved AS w ≡ true → is_identifier h ≡ true
    → (read_qualified (list at (cons (atom w) (cons h (cons u nil)))) ≡ made_of (qualified at (identifier_of h)) (read_sort u)) × (is_qualified (list at (cons (atom w) (cons h (cons u nil)))) ≡ true)
unfolding read_qualified
as_qualified at w h u r i =
    let T = list at (cons (atom w) (cons h (cons u nil))) in
    let n : is_identifier T ≡ false = no_list at w (cons h (cons u nil)) (other_word AS UNDERSCORE w refl r) in
    let a = as_is w h u r i in (
      other (is_identifier T) _ _ n ∙ ap (qualified_by at) a
          ∙ ap (λ (x : Sexp Tok). made_of (qualified at (identifier_of x)) (read_sort (whole (part_of u)))) (whole-part_of h)
          ∙ ap (λ (x : Sexp Tok). made_of (qualified at (identifier_of h)) (read_sort x)) (whole-part_of u),
      ap (λ b. b || is_as T) n ∙ ap (λ (o : Option (Part × Part)). is_some o) a,
    )

pub qualified_sound : (q : Qualified) (t : Sexp Tok) → ReadsQualified t q → (read_qualified t ≡ Ok q) × (is_qualified t ≡ true)
qualified_sound (unqualified i) t p =
    let h = identifier_sound t i p in
    let k = identifier_qualified t h.0 in
    (k.0 ∙ ap (λ j. Ok (unqualified j)) h.1, k.1)
qualified_sound (qualified at i s) t (w, h, u, e, r, p, q) =
    let k = identifier_sound h i p in
    let m = as_qualified at w h u r k.0 in
    (ap read_qualified e ∙ m.0 ∙ made (qualified at (identifier_of h)) (read_sort u) s (sort_sound s u q) ∙ ap (λ j. Ok (qualified at j s)) k.1, ap is_qualified e ∙ m.1)

pub no_qualified : (at : ℕ) (w : Tok) (ts : Sexps Tok) → is_reserved UNDERSCORE w ≡ false → is_reserved AS w ≡ false → is_qualified (list at (cons (atom w) ts)) ≡ false
no_qualified at w ts d e = rw (d, e) refl

-- a tree that begins with the word `_` or `as`, or with no word, begins no qualified identifier
pub symbol_head : (at : ℕ) (h : Sexp Tok) (ts : Sexps Tok) (i : Identifier) → ReadsIdentifier h i → is_qualified (list at (cons h ts)) ≡ false
symbol_head at h ts (symbol x) (e, s) =
    ap (λ y. is_qualified (list at (cons y ts))) e ∙ no_qualified at x ts (symbol_no_word x UNDERSCORE s) (symbol_no_word x AS s)
symbol_head at h ts (indexed b x is) (w, e, r, s, n, i) = ap (λ y. is_qualified (list at (cons y ts))) e

pub list_head : (at b : ℕ) (h : Sexp Tok) (us ts : Sexps Tok) → h ≡ list b us → is_qualified (list at (cons h ts)) ≡ false
list_head at b h us ts e = ap (λ y. is_qualified (list at (cons y ts))) e

applied_no_qualified : (at : ℕ) (h : Sexp Tok) (ts : Sexps Tok) (q : Qualified) → ReadsQualified h q → is_qualified (list at (cons h ts)) ≡ false
applied_no_qualified at h ts (unqualified i) p = symbol_head at h ts i p
applied_no_qualified at h ts (qualified b i s) (w, k, u, e, r, p, q) = list_head at b h _ ts e

-- patterns

constructor_is : (c : Tok) (us : Sexps Tok) → is_symbol c ≡ true → not (is_empty us) ≡ true → are_symbols us ≡ true → constructor_parts (cons (atom c) us) ≡ Some (c, us)
constructor_is c us s n i = rw (s, n, i) refl

pattern_sound : (p : Pattern) (t : Sexp Tok) → ReadsPattern t p → (is_pattern t ≡ true) × (pattern_of t ≡ p)
pattern_sound (symbol_pattern x) t (e, s) = (ap is_pattern e ∙ s, ap pattern_of e)
pattern_sound (constructor_pattern at c vs) t (e, s, n, i) =
    let p = constructor_is c (atoms vs) s n (symbols_tested vs i) in
    (ap is_pattern e ∙ ap (λ (o : Option (Tok × Sexps Tok)). is_some o) p, ap pattern_of e ∙ ap (pattern_by at) p ∙ ap (constructor_pattern at c) (tokens_of-atoms vs))

-- terms

pub constant_reads : (c : Tok) → is_constant c ≡ true → read_term (atom c) ≡ Ok (constant c)
unfolding read_term
constant_reads c e = other (is_qualified (atom c)) _ _ (ap (λ b. b || false) (constant_no_symbol c e)) ∙ chosen (is_constant c) _ _ e

pub qualified_is : (t : Sexp Tok) → is_qualified t ≡ true → read_term t ≡ made_of qualified_term (read_qualified t)
unfolding read_term
qualified_is (atom t) e = chosen (is_qualified (atom t)) _ _ e
qualified_is (list at nil) e = absurd (no_test e)
qualified_is (list at (cons h ts)) e = chosen (is_qualified (list at (cons h ts))) _ _ e

parts_read : (at : ℕ) (h : Sexp Tok) (ts : Sexps Tok) → NotEmpty ts → read_application at h ts ≡ made_of_two (application at) (read_qualified h) (read_terms ts)
unfolding read_term
parts_read at h nil n = absurd (no_test n)
parts_read at h (cons t ts) n = refl

pub application_is : (at : ℕ) (h : Sexp Tok) (ts : Sexps Tok) → is_qualified (list at (cons h ts)) ≡ false → is_qualified h ≡ true → NotEmpty ts
    → read_term (list at (cons h ts)) ≡ made_of_two (application at) (read_qualified h) (read_terms ts)
unfolding read_term
application_is at h ts d e n = other (is_qualified (list at (cons h ts))) _ _ d ∙ chosen (is_qualified h) _ _ e ∙ parts_read at h ts n

-- the production of a word that is no `_` and no `as`
word_reads : (at : ℕ) (m : ℕ) (w : Tok) (ts : Sexps Tok) (x : TermWord) → is_reserved m w ≡ true → (m == UNDERSCORE) ≡ false → (m == AS) ≡ false → begins_with w ≡ x
    → read_term (list at (cons (atom w) ts)) ≡ by_word x (read_let at ts) (read_binder for_all at ts) (read_binder there_exists at ts) (read_match at ts) (read_annotation at ts) (Err at)
unfolding read_term
word_reads at m w ts x r d e f =
    other (is_qualified (list at (cons (atom w) ts))) _ _ (no_qualified at w ts (other_word m UNDERSCORE w d r) (other_word m AS w e r))
    ∙ other (is_qualified (atom w)) _ _ (ap (λ b. b || false) (word_no_symbol w m r))
    ∙ ap (λ y. by_word y (read_let at ts) (read_binder for_all at ts) (read_binder there_exists at ts) (read_match at ts) (read_annotation at ts) (Err at)) f

pub let_is : (at : ℕ) (w : Tok) (b : ℕ) (ts : Sexps Tok) (v : Sexp Tok) → is_reserved LET w ≡ true → NotEmpty ts → are_named ts ≡ true
    → read_term (list at (cons (atom w) (cons (list b ts) (cons v nil)))) ≡ made_of_two (let_in at) (read_bindings ts) (read_term v)
unfolding read_term
let_is at w b ts v r n d =
    word_reads at LET w (cons (list b ts) (cons v nil)) word.Let r refl refl (let_begins w r) ∙ chosen (not (is_empty ts) && are_named ts) _ _ (true_both _ _ n d)

pub forall_is : (at : ℕ) (w : Tok) (b : ℕ) (ts : Sexps Tok) (v : Sexp Tok) → is_reserved FORALL w ≡ true → NotEmpty ts → are_named ts ≡ true
    → read_term (list at (cons (atom w) (cons (list b ts) (cons v nil)))) ≡ made_of_two (for_all at) (read_sorted ts) (read_term v)
unfolding read_term
forall_is at w b ts v r n d =
    word_reads at FORALL w (cons (list b ts) (cons v nil)) word.Forall r refl refl (forall_begins w r) ∙ chosen (not (is_empty ts) && are_named ts) _ _ (true_both _ _ n d)

pub exists_is : (at : ℕ) (w : Tok) (b : ℕ) (ts : Sexps Tok) (v : Sexp Tok) → is_reserved EXISTS w ≡ true → NotEmpty ts → are_named ts ≡ true
    → read_term (list at (cons (atom w) (cons (list b ts) (cons v nil)))) ≡ made_of_two (there_exists at) (read_sorted ts) (read_term v)
unfolding read_term
exists_is at w b ts v r n d =
    word_reads at EXISTS w (cons (list b ts) (cons v nil)) word.Exists r refl refl (exists_begins w r) ∙ chosen (not (is_empty ts) && are_named ts) _ _ (true_both _ _ n d)

pub match_is : (at : ℕ) (w : Tok) (b : ℕ) (ts : Sexps Tok) (v : Sexp Tok) → is_reserved MATCH w ≡ true → NotEmpty ts → are_cases ts ≡ true
    → read_term (list at (cons (atom w) (cons v (cons (list b ts) nil)))) ≡ made_of_two (match_with at) (read_term v) (read_cases ts)
unfolding read_term
match_is at w b ts v r n d =
    word_reads at MATCH w (cons v (cons (list b ts) nil)) word.Match r refl refl (match_begins w r) ∙ chosen (not (is_empty ts) && are_cases ts) _ _ (true_both _ _ n d)

pub annotation_is : (at : ℕ) (w : Tok) (ts : Sexps Tok) (v : Sexp Tok) → is_reserved ANNOTATION w ≡ true → NotEmpty ts → are_notes ts ≡ true
    → read_term (list at (cons (atom w) (cons v ts))) ≡ made_of_two (annotated at) (read_term v) (read_notes ts)
unfolding read_term
annotation_is at w ts v r n d =
    word_reads at ANNOTATION w (cons v ts) word.Annotation r refl refl (annotation_begins w r) ∙ chosen (not (is_empty ts) && are_notes ts) _ _ (true_both _ _ n d)

terms_read : (u : Sexp Tok) (us : Sexps Tok) (s : Term) (ss : Terms) → read_term u ≡ Ok s → read_terms us ≡ Ok ss → read_terms (cons u us) ≡ Ok (with_term s ss)
unfolding read_term
terms_read u us s ss d e = made_two with_term (read_term u) (read_terms us) s ss d e

binding_read : (b : ℕ) (x : Tok) (u : Sexp Tok) (us : Sexps Tok) (t : Term) (bs : Bindings) → is_symbol x ≡ true → read_term u ≡ Ok t → read_bindings us ≡ Ok bs
    → read_bindings (cons (list b (cons (atom x) (cons u nil))) us) ≡ Ok (with_binding b x t bs)
unfolding read_term
binding_read b x u us t bs k d e = chosen (is_symbol x) _ _ k ∙ made_two (with_binding b x) (read_term u) (read_bindings us) t bs d e

case_is : (q u : Sexp Tok) → is_pattern q ≡ true → is_some (case_parts (cons q (cons u nil))) ≡ true
case_is (atom x) u e = rw e refl
case_is (list at ts) u e = rw e refl

case_read : (b : ℕ) (q u : Sexp Tok) (us : Sexps Tok) (p : Pattern) (t : Term) (cs : Cases) → is_pattern q ≡ true → pattern_of q ≡ p → read_term u ≡ Ok t → read_cases us ≡ Ok cs
    → read_cases (cons (list b (cons q (cons u nil))) us) ≡ Ok (with_case b p t cs)
unfolding read_term
case_read b q u us p t cs k f d e =
    chosen (is_pattern q) _ _ k ∙ made_two (with_case b (pattern_of q)) (read_term u) (read_cases us) t cs d e ∙ ap (λ y. Ok (with_case b y t cs)) f

nothing_read : (read_terms nil ≡ Ok no_terms) × (read_bindings nil ≡ Ok no_bindings) × (read_cases nil ≡ Ok no_cases) × (read_notes nil ≡ Ok no_notes)
unfolding read_term
nothing_read = (refl, refl, refl, refl)

-- attributes

named_read : (k n : Tok) (vs : Sexps Tok) (ns : Notes) → is_key NAMED k ≡ true → is_symbol n ≡ true → read_notes vs ≡ Ok ns → are_notes vs ≡ true
    → (read_notes (cons (atom k) (cons (atom n) vs)) ≡ Ok (with_named n ns)) × (are_notes (cons (atom k) (cons (atom n) vs)) ≡ true)
unfolding read_term
named_read k n vs ns a s d e =
    (chosen (is_key NAMED k) _ _ a ∙ chosen (is_symbol n) _ _ s ∙ made (with_named n) (read_notes vs) ns d, chosen (is_key NAMED k) _ _ a ∙ true_both (is_symbol n) (are_notes vs) s e)

pattern_read : (k : Tok) (b : ℕ) (ps vs : Sexps Tok) (us : Terms) (ns : Notes) → is_key PATTERN k ≡ true → NotEmpty ps → read_terms ps ≡ Ok us → read_notes vs ≡ Ok ns → are_notes vs ≡ true
    → (read_notes (cons (atom k) (cons (list b ps) vs)) ≡ Ok (with_pattern us ns)) × (are_notes (cons (atom k) (cons (list b ps) vs)) ≡ true)
unfolding read_term
pattern_read k b ps vs us ns a n c d e = (
  chosen (is_key PATTERN k) _ _ a ∙ chosen (not (is_empty ps)) _ _ n ∙ made_two with_pattern (read_terms ps) (read_notes vs) us ns c d,
  chosen (is_key PATTERN k) _ _ a ∙ true_both (not (is_empty ps)) (are_notes vs) n e,
)

valued_read : (k : Tok) (v : Sexp Tok) (vs : Sexps Tok) (ns : Notes) → is_key NAMED k ≡ false → is_key PATTERN k ≡ false → is_other_key k ≡ true → is_value v ≡ true
    → read_notes vs ≡ Ok ns → are_notes vs ≡ true
    → (read_notes (cons (atom k) (cons v vs)) ≡ Ok (with_attribute k (Some v) ns)) × (are_notes (cons (atom k) (cons v vs)) ≡ true)
unfolding read_term
valued_read k (atom v) vs ns a b o q d e = (
  other (is_key NAMED k) _ _ a ∙ chosen (is_other_key k) _ _ o ∙ chosen (is_value_token v) _ _ q ∙ made (with_attribute k (Some (atom v))) (read_notes vs) ns d,
  other (is_key NAMED k) _ _ a ∙ true_both (is_other_key k) _ o (chosen (is_value_token v) _ _ q ∙ e),
)
valued_read k (list at us) vs ns a b o q d e = (
  other (is_key PATTERN k) _ _ b ∙ chosen (is_other_key k) _ _ o ∙ made (with_attribute k (Some (list at us))) (read_notes vs) ns d,
  other (is_key PATTERN k) _ _ b ∙ true_both (is_other_key k) _ o e,
)

alone_read : (k : Tok) → is_other_key k ≡ true → (read_notes (cons (atom k) nil) ≡ Ok (with_attribute k None no_notes)) × (are_notes (cons (atom k) nil) ≡ true)
unfolding read_term
alone_read k o = (chosen (is_other_key k) _ _ o, o)

keyword_read : (k l : Tok) (vs : Sexps Tok) (ns : Notes) → is_key NAMED k ≡ false → is_other_key k ≡ true → is_value_token l ≡ false
    → read_notes (cons (atom l) vs) ≡ Ok ns → are_notes (cons (atom l) vs) ≡ true
    → (read_notes (cons (atom k) (cons (atom l) vs)) ≡ Ok (with_attribute k None ns)) × (are_notes (cons (atom k) (cons (atom l) vs)) ≡ true)
unfolding read_term
keyword_read k l vs ns a o q d e = (
  other (is_key NAMED k) _ _ a ∙ chosen (is_other_key k) _ _ o ∙ other (is_value_token l) _ _ q ∙ made (with_attribute k None) (read_notes (cons (atom l) vs)) ns d,
  other (is_key NAMED k) _ _ a ∙ true_both (is_other_key k) _ o (other (is_value_token l) _ _ q ∙ e),
)

-- attributes begin with a keyword
Starts : Sexps Tok → Type 0
Starts ts = (k : Tok) × (us : Sexps Tok) × (ts ≡ cons (atom k) us) × (is_keyword k ≡ true)

notes_start : (n : Notes) (ts : Sexps Tok) → ReadsNotes ts n → ((ts ≡ nil) × (n ≡ no_notes)) ⊎ Starts ts
unfolding Starts
notes_start no_notes ts e = inl (e, refl)
notes_start (with_note (named_note n) ns) ts (us, vs, e, (k, d, a, s), p) = inr (k, cons (atom n) vs, e ∙ ap (λ x. append x vs) d, key_is_keyword k NAMED a)
notes_start (with_note (pattern_note ts') ns) ts (us, vs, e, (k, b, ps, d, a, s, r), p) = inr (k, cons (list b ps) vs, e ∙ ap (λ x. append x vs) d, key_is_keyword k PATTERN a)
notes_start (with_note (attribute_note (keyword_attribute k)) ns) ts (us, vs, e, ((d, a), m, n), p) = inr (k, vs, e ∙ ap (λ x. append x vs) d, a)
notes_start (with_note (attribute_note (valued_attribute k v)) ns) ts (us, vs, e, ((d, a, q), m, n), p) = inr (k, cons v vs, e ∙ ap (λ x. append x vs) d, a)

alone_or_more : (k : Tok) (vs : Sexps Tok) (ns : Notes) → is_key NAMED k ≡ false → is_other_key k ≡ true → ((vs ≡ nil) × (ns ≡ no_notes)) ⊎ Starts vs
    → read_notes vs ≡ Ok ns → are_notes vs ≡ true
    → (read_notes (cons (atom k) vs) ≡ Ok (with_attribute k None ns)) × (are_notes (cons (atom k) vs) ≡ true)
unfolding Starts
alone_or_more k vs ns a o (inl (e, f)) d g =
    let h = alone_read k o in
    (ap (λ y. read_notes (cons (atom k) y)) e ∙ h.0 ∙ ap (λ y. Ok (with_attribute k None y)) (sym f), ap (λ y. are_notes (cons (atom k) y)) e ∙ h.1)
alone_or_more k vs ns a o (inr (l, us, e, w)) d g =
    let h = keyword_read k l us ns a o (keyword_no_value l w) (sym (ap read_notes e) ∙ d) (sym (ap are_notes e) ∙ g) in
    (ap (λ y. read_notes (cons (atom k) y)) e ∙ h.0, ap (λ y. are_notes (cons (atom k) y)) e ∙ h.1)

mutual
  pub term_sound : (u : Term) (t : Sexp Tok) → ReadsTerm t u → read_term t ≡ Ok u
  term_sound (constant c) t (e, k) = ap read_term e ∙ constant_reads c k
  term_sound (qualified_term q) t p = let h = qualified_sound q t p in qualified_is t h.1 ∙ made qualified_term (read_qualified t) q h.0
  term_sound (application at q us) t (h, ts, e, p, n, r) =
      let k = qualified_sound q h p in
      ap read_term e ∙ application_is at h ts (applied_no_qualified at h ts q p) k.1 n ∙ made_two (application at) (read_qualified h) (read_terms ts) q us k.0 (terms_sound us ts r)
  term_sound (let_in at bs u) t (w, b, ts, v, e, r, n, p, q) =
      let h = bindings_sound bs ts p in
      ap read_term e ∙ let_is at w b ts v r n h.1 ∙ made_two (let_in at) (read_bindings ts) (read_term v) bs u h.0 (term_sound u v q)
  term_sound (for_all at vs u) t (w, b, ts, v, e, r, n, p, q) =
      let h = variables_sound vs ts p in
      ap read_term e ∙ forall_is at w b ts v r n h.1 ∙ made_two (for_all at) (read_sorted ts) (read_term v) vs u h.0 (term_sound u v q)
  term_sound (there_exists at vs u) t (w, b, ts, v, e, r, n, p, q) =
      let h = variables_sound vs ts p in
      ap read_term e ∙ exists_is at w b ts v r n h.1 ∙ made_two (there_exists at) (read_sorted ts) (read_term v) vs u h.0 (term_sound u v q)
  term_sound (match_with at u cs) t (w, b, ts, v, e, r, n, p, q) =
      let h = cases_sound cs ts q in
      ap read_term e ∙ match_is at w b ts v r n h.1 ∙ made_two (match_with at) (read_term v) (read_cases ts) u cs (term_sound u v p) h.0
  term_sound (annotated at u ns) t (w, ts, v, e, r, n, p, q) =
      let h = notes_sound ns ts q in
      ap read_term e ∙ annotation_is at w ts v r n h.1 ∙ made_two (annotated at) (read_term v) (read_notes ts) u ns (term_sound u v p) h.0

  pub terms_sound : (us : Terms) (ts : Sexps Tok) → ReadsTerms ts us → read_terms ts ≡ Ok us
  terms_sound no_terms ts e = ap read_terms e ∙ nothing_read.0
  terms_sound (with_term u us) ts (v, vs, e, p, q) = ap read_terms e ∙ terms_read v vs u us (term_sound u v p) (terms_sound us vs q)

  bindings_sound : (bs : Bindings) (ts : Sexps Tok) → ReadsBindings ts bs → (read_bindings ts ≡ Ok bs) × (are_named ts ≡ true)
  bindings_sound no_bindings ts e = (ap read_bindings e ∙ nothing_read.1, ap are_named e)
  bindings_sound (with_binding at x t bs) ts (u, us, e, s, p, q) =
      let h = bindings_sound bs us q in
      (ap read_bindings e ∙ binding_read at x u us t bs s (term_sound t u p) h.0, ap are_named e ∙ named_more at x u us s h.1)

  cases_sound : (cs : Cases) (ts : Sexps Tok) → ReadsCases ts cs → (read_cases ts ≡ Ok cs) × (are_cases ts ≡ true)
  cases_sound no_cases ts e = (ap read_cases e ∙ nothing_read.2, ap are_cases e)
  cases_sound (with_case at p t cs) ts (k, u, us, e, r, s, q) =
      let h = cases_sound cs us q in
      let m = pattern_sound p k r in
      (ap read_cases e ∙ case_read at k u us p t cs m.0 m.1 (term_sound t u s) h.0, ap are_cases e ∙ true_both _ _ (case_is k u m.0) h.1)

  notes_sound : (ns : Notes) (ts : Sexps Tok) → ReadsNotes ts ns → (read_notes ts ≡ Ok ns) × (are_notes ts ≡ true)
  notes_sound no_notes ts e = (ap read_notes e ∙ nothing_read.3, ap are_notes e)
  notes_sound (with_note (named_note n) ns) ts (us, vs, e, (k, d, a, s), p) =
      let i = notes_sound ns vs p in
      let h = named_read k n vs ns a s i.0 i.1 in
      let f : ts ≡ cons (atom k) (cons (atom n) vs) = e ∙ ap (λ x. append x vs) d in
      (ap read_notes f ∙ h.0, ap are_notes f ∙ h.1)
  notes_sound (with_note (pattern_note qs) ns) ts (us, vs, e, (k, b, ps, d, a, m, r), p) =
      let i = notes_sound ns vs p in
      let h = pattern_read k b ps vs qs ns a m (terms_sound qs ps r) i.0 i.1 in
      let f : ts ≡ cons (atom k) (cons (list b ps) vs) = e ∙ ap (λ x. append x vs) d in
      (ap read_notes f ∙ h.0, ap are_notes f ∙ h.1)
  notes_sound (with_note (attribute_note (keyword_attribute k)) ns) ts (us, vs, e, ((d, a), m, n), p) =
      let i = notes_sound ns vs p in
      let h = alone_or_more k vs ns (not_true _ m) (is_other k a m n) (notes_start ns vs p) i.0 i.1 in
      let f : ts ≡ cons (atom k) vs = e ∙ ap (λ x. append x vs) d in
      (ap read_notes f ∙ h.0, ap are_notes f ∙ h.1)
  notes_sound (with_note (attribute_note (valued_attribute k v)) ns) ts (us, vs, e, ((d, a, q), m, n), p) =
      let i = notes_sound ns vs p in
      let h = valued_read k v vs ns (not_true _ m) (not_true _ n) (is_other k a m n) q i.0 i.1 in
      let f : ts ≡ cons (atom k) (cons v vs) = e ∙ ap (λ x. append x vs) d in
      (ap read_notes f ∙ h.0, ap are_notes f ∙ h.1)
