-- What a tree reads as, the grammar has it read as.
use Rattle.std.proofs.Common.{◌≡◌, ℕ, Bool, true, false, not, ◌&&◌, if◌then◌else◌, Option, Some, None, is_some, option_and_then, Result, Ok, Err, IfOk, IfSome, refl, ap, sym, ◌∙◌}
use Rattle.lex_core.specs.declared.token.Tok.{Tok}
use Rattle.sexp_core.specs.Sexp.{Sexp, atom, list, Sexps, nil, cons}
use Rattle.sexp_core.specs.Parts.{whole}
use Rattle.sexp_core.specs.declared.parts.Part.{Part}
use Rattle.sexp_core.specs.declared.parts.Part.TheVariants as part
use Rattle.term_grammar.specs.declared.words.TheConstants.{AS, LET, FORALL, EXISTS, MATCH, ANNOTATION, NAMED, PATTERN}
use Rattle.term_grammar.specs.declared.words.TermWord.{TermWord}
use Rattle.term_grammar.specs.declared.words.TermWord.TheVariants as word
use Rattle.term_grammar.specs.Words.{is_symbol, is_constant, is_reserved, is_key, is_value_token, begins_with}
use Rattle.term_grammar.specs.FirstParts.{any_first, is_empty, guard}
use Rattle.term_grammar.specs.Syntax.{applied_sort, with_sort, qualified, qualified_term, application, let_in, for_all, there_exists, match_with, annotated, with_term, with_binding, with_case}
use Rattle.term_grammar.specs.Forms.{is_identifier}
use Rattle.term_grammar.specs.TermForms.{as_parts, is_qualified, is_pattern, is_other_key, are_named, are_cases, are_notes}
use Rattle.term_grammar.specs.Reads.{made_of, made_of_two, identifier_of, pattern_of, with_sorted, with_named, with_pattern, with_attribute, read_sort, read_sorts, read_sorted, qualified_by, read_qualified, by_word, read_term, read_terms, read_bindings, read_cases, read_notes, read_application, read_let, read_binder, read_match, read_annotation}
use Rattle.term_grammar.specs.Grammar.{ReadsSort, ReadsSorts, ReadsQualified, ReadsVariables, ReadsTerm, ReadsTerms, ReadsBindings, ReadsCases, ReadsNotes}
use Rattle.term_grammar.proofs.TokenKinds.{no_test, both_true, Begins, begun, other_key}
use Rattle.term_grammar.proofs.PartsFound.{identifier_found, pattern_found, as_found}

-- what is made of parts that read

made : {A B : Type 0} (f : A → B) (r : Result A ℕ) (P : A → Type 0) (Q : B → Type 0) → ((a : A) → P a → Q (f a)) → IfOk r P → IfOk (made_of f r) Q
made f (Ok a) P Q h p = h a p
made f (Err e) P Q h p = tt

made_two : {A B C : Type 0} (f : A → B → C) (r : Result A ℕ) (s : Result B ℕ) (P : A → Type 0) (Q : B → Type 0) (R : C → Type 0)
    → ((a : A) (b : B) → P a → Q b → R (f a b)) → IfOk r P → IfOk s Q → IfOk (made_of_two f r s) R
made_two f (Ok a) (Ok b) P Q R h p q = h a b p q
made_two f (Ok a) (Err e) P Q R h p q = tt
made_two f (Err e) s P Q R h p q = tt

pub choice : {A : Type 0} (b : Bool) (r s : Result A ℕ) (P : A → Type 0) → (b ≡ true → IfOk r P) → (b ≡ false → IfOk s P) → IfOk (if b then r else s) P
choice true r s P h k = h refl
choice false r s P h k = k refl

-- sorts

mutual
  unfolding read_sort

  pub sort_complete : (t : Sexp Tok) → IfOk (read_sort t) (ReadsSort t)
  sort_complete (atom t) = choice (is_identifier (atom t)) _ _ (ReadsSort (atom t)) (identifier_found (atom t)) (λ _. tt)
  sort_complete (list at nil) = tt
  sort_complete (list at (cons h ts)) =
      choice (is_identifier (list at (cons h ts))) _ _ (ReadsSort (list at (cons h ts))) (identifier_found (list at (cons h ts))) (λ _.
      choice (is_identifier h && not (is_empty ts)) _ _ (ReadsSort (list at (cons h ts))) (λ e.
      let b = both_true (is_identifier h) (not (is_empty ts)) e in
      made (applied_sort at (identifier_of h)) (read_sorts ts) (ReadsSorts ts) (ReadsSort (list at (cons h ts)))
      (λ ss p. (h, ts, refl, identifier_found h b.0, b.1, p)) (sorts_complete ts)) (λ _. tt))

  pub sorts_complete : (ts : Sexps Tok) → IfOk (read_sorts ts) (ReadsSorts ts)
  sorts_complete nil = refl
  sorts_complete (cons t ts) =
      made_two with_sort (read_sort t) (read_sorts ts) (ReadsSort t) (ReadsSorts ts) (ReadsSorts (cons t ts)) (λ s ss p q. (t, ts, refl, p, q)) (sort_complete t) (sorts_complete ts)

-- the shape ( symbol tree )
abbrev pub OneTree : Sexps Tok → Type 0
OneTree nil = ⊥
OneTree (cons t nil) = Unit {0}
OneTree (cons t (cons u us)) = ⊥

pub named_test : (x : Tok) (r : Sexps Tok) (s : Bool)
    → is_some {T = Tok × Part} (option_and_then (λ (n : Tok × Sexps Tok). option_and_then (λ (t : Part × Sexps Tok). option_and_then (λ _. Some (n.0, t.0)) (guard (is_empty t.1))) (any_first n.1)) (if s then Some (x, r) else None)) ≡ true
    → (s ≡ true) × OneTree r
named_test x r false e = absurd (no_test e)
named_test x nil true e = absurd (no_test e)
named_test x (cons t nil) true e = (refl, tt)
named_test x (cons t (cons u us)) true e = absurd (no_test e)

pub variables_complete : (ts : Sexps Tok) → are_named ts ≡ true → IfOk (read_sorted ts) (ReadsVariables ts)
unfolding read_sorted
variables_complete nil e = refl
variables_complete (cons (atom t) ts) e = absurd (no_test e)
variables_complete (cons (list b nil) ts) e = absurd (no_test e)
variables_complete (cons (list b (cons (list c us) vs)) ts) e = absurd (no_test e)
variables_complete (cons (list b (cons (atom x) nil)) ts) e = absurd (named_test x nil (is_symbol x) (both_true _ _ e).0).1
variables_complete (cons (list b (cons (atom x) (cons t (cons u us)))) ts) e = absurd (named_test x (cons t (cons u us)) (is_symbol x) (both_true _ _ e).0).1
variables_complete (cons (list b (cons (atom x) (cons t nil))) ts) e =
    let n = both_true _ _ e in
    let s = (named_test x (cons t nil) (is_symbol x) n.0).0 in
    choice (is_symbol x) _ _ (ReadsVariables (cons (list b (cons (atom x) (cons t nil))) ts)) (λ _.
    made_two (with_sorted b x) (read_sort t) (read_sorted ts) (ReadsSort t) (ReadsVariables ts) (ReadsVariables (cons (list b (cons (atom x) (cons t nil))) ts))
    (λ v vs p q. (t, ts, refl, s, p, q)) (sort_complete t) (variables_complete ts n.1)) (λ f. absurd (no_test (sym f ∙ s)))

-- qualified identifiers

as_complete : (at : ℕ) (ts : Sexps Tok) (o : Option (Part × Part))
    → IfSome o (λ p. (w : Tok) × (ts ≡ cons (atom w) (cons (whole p.0) (cons (whole p.1) nil))) × (is_reserved AS w ≡ true) × (is_identifier (whole p.0) ≡ true))
    → IfOk (qualified_by at o) (ReadsQualified (list at ts))
as_complete at ts None h = tt
as_complete at ts (Some p) (w, d, r, i) =
    made (qualified at (identifier_of (whole p.0))) (read_sort (whole p.1)) (ReadsSort (whole p.1)) (ReadsQualified (list at ts))
    (λ s q. (w, whole p.0, whole p.1, ap (list at) d, r, identifier_found (whole p.0) i, q)) (sort_complete (whole p.1))

pub qualified_complete : (t : Sexp Tok) → IfOk (read_qualified t) (ReadsQualified t)
unfolding read_qualified
qualified_complete (atom t) = choice (is_symbol t) _ _ (ReadsQualified (atom t)) (λ e. (refl, e)) (λ _. tt)
qualified_complete (list at ts) =
    choice (is_identifier (list at ts)) _ _ (ReadsQualified (list at ts)) (identifier_found (list at ts)) (λ _. as_complete at ts (as_parts ts) (as_found ts))

-- terms

pub case_test : (p : Part) (r : Sexps Tok) (q : Bool)
    → is_some {T = Part × Part} (option_and_then (λ _. option_and_then (λ (t : Part × Sexps Tok). option_and_then (λ _. Some (p, t.0)) (guard (is_empty t.1))) (any_first r)) (guard q)) ≡ true
    → (q ≡ true) × OneTree r
case_test p r false e = absurd (no_test e)
case_test p nil true e = absurd (no_test e)
case_test p (cons t nil) true e = (refl, tt)
case_test p (cons t (cons u us)) true e = absurd (no_test e)

-- the tests of an attribute that begins with a keyword and a token
pub token_test : (n s o q a c : Bool) → (if n then s && a else o && (if q then a else c)) ≡ true
    → (n ≡ true → (s ≡ true) × (a ≡ true)) × (n ≡ false → (o ≡ true) × (q ≡ true → a ≡ true) × (q ≡ false → c ≡ true))
token_test true s o q a c e = (λ _. both_true s a e, λ f. absurd (no_test (sym f)))
token_test false s o true a c e = (λ f. absurd (no_test f), λ _. let b = both_true o a e in (b.0, λ _. b.1, λ f. absurd (no_test (sym f))))
token_test false s o false a c e = (λ f. absurd (no_test f), λ _. let b = both_true o c e in (b.0, λ f. absurd (no_test f), λ _. b.1))

-- the tests of an attribute that begins with a keyword and a list
pub list_test : (p m o a : Bool) → (if p then m && a else o && a) ≡ true → (p ≡ true → (m ≡ true) × (a ≡ true)) × (p ≡ false → (o ≡ true) × (a ≡ true))
list_test true m o a e = (λ _. both_true m a e, λ f. absurd (no_test (sym f)))
list_test false m o a e = (λ f. absurd (no_test f), λ _. both_true o a e)

-- the production that a word begins
word_chosen : (at : ℕ) (w : Tok) (ts : Sexps Tok) (x : TermWord) → Begins w x
    → (is_reserved LET w ≡ true → IfOk (read_let at ts) (ReadsTerm (list at (cons (atom w) ts))))
    → (is_reserved FORALL w ≡ true → IfOk (read_binder for_all at ts) (ReadsTerm (list at (cons (atom w) ts))))
    → (is_reserved EXISTS w ≡ true → IfOk (read_binder there_exists at ts) (ReadsTerm (list at (cons (atom w) ts))))
    → (is_reserved MATCH w ≡ true → IfOk (read_match at ts) (ReadsTerm (list at (cons (atom w) ts))))
    → (is_reserved ANNOTATION w ≡ true → IfOk (read_annotation at ts) (ReadsTerm (list at (cons (atom w) ts))))
    → IfOk (by_word x (read_let at ts) (read_binder for_all at ts) (read_binder there_exists at ts) (read_match at ts) (read_annotation at ts) (Err at)) (ReadsTerm (list at (cons (atom w) ts)))
word_chosen at w ts word.Let r a b c d e = a r
word_chosen at w ts word.Forall r a b c d e = b r
word_chosen at w ts word.Exists r a b c d e = c r
word_chosen at w ts word.Match r a b c d e = d r
word_chosen at w ts word.Annotation r a b c d e = e r
word_chosen at w ts word.Other r a b c d e = tt

mutual
  unfolding read_term

  pub term_complete : (t : Sexp Tok) → IfOk (read_term t) (ReadsTerm t)
  term_complete (atom t) =
      choice (is_qualified (atom t)) _ _ (ReadsTerm (atom t)) (λ _. made qualified_term (read_qualified (atom t)) (ReadsQualified (atom t)) (ReadsTerm (atom t)) (λ q p. p) (qualified_complete (atom t)))
      (λ _. choice (is_constant t) _ _ (ReadsTerm (atom t)) (λ e. (refl, e)) (λ _. tt))
  term_complete (list at nil) = tt
  term_complete (list at (cons (atom w) ts)) =
      let T = list at (cons (atom w) ts) in
      choice (is_qualified T) _ _ (ReadsTerm T) (λ _. made qualified_term (read_qualified T) (ReadsQualified T) (ReadsTerm T) (λ q p. p) (qualified_complete T))
      (λ _. choice (is_qualified (atom w)) _ _ (ReadsTerm T) (λ _. application_complete at (atom w) ts) (λ _. word_chosen at w ts (begins_with w) (begun w) (let_complete at w ts) (forall_complete at w ts) (exists_complete at w ts) (match_complete at w ts) (annotation_complete at w ts)))
  term_complete (list at (cons (list b us) ts)) =
      let T = list at (cons (list b us) ts) in
      choice (is_qualified T) _ _ (ReadsTerm T) (λ _. made qualified_term (read_qualified T) (ReadsQualified T) (ReadsTerm T) (λ q p. p) (qualified_complete T))
      (λ _. choice (is_qualified (list b us)) _ _ (ReadsTerm T) (λ _. application_complete at (list b us) ts) (λ _. tt))

  application_complete : (at : ℕ) (h : Sexp Tok) (ts : Sexps Tok) → IfOk (read_application at h ts) (ReadsTerm (list at (cons h ts)))
  application_complete at h nil = tt
  application_complete at h (cons t ts) =
      made_two (application at) (read_qualified h) (made_of_two with_term (read_term t) (read_terms ts)) (ReadsQualified h) (ReadsTerms (cons t ts)) (ReadsTerm (list at (cons h (cons t ts))))
      (λ q us p r. (h, cons t ts, refl, p, refl, r)) (qualified_complete h)
      (made_two with_term (read_term t) (read_terms ts) (ReadsTerm t) (ReadsTerms ts) (ReadsTerms (cons t ts)) (λ s ss p q. (t, ts, refl, p, q)) (term_complete t) (terms_complete ts))

  let_complete : (at : ℕ) (w : Tok) (ts : Sexps Tok) → is_reserved LET w ≡ true → IfOk (read_let at ts) (ReadsTerm (list at (cons (atom w) ts)))
  let_complete at w nil r = tt
  let_complete at w (cons (atom x) ts) r = tt
  let_complete at w (cons (list b bs) nil) r = tt
  let_complete at w (cons (list b bs) (cons u (cons v vs))) r = tt
  let_complete at w (cons (list b bs) (cons u nil)) r =
      let T = list at (cons (atom w) (cons (list b bs) (cons u nil))) in
      choice (not (is_empty bs) && are_named bs) _ _ (ReadsTerm T) (λ e. let n = both_true (not (is_empty bs)) (are_named bs) e in
      made_two (let_in at) (read_bindings bs) (read_term u) (ReadsBindings bs) (ReadsTerm u) (ReadsTerm T)
      (λ cs v p q. (w, b, bs, u, refl, r, n.0, p, q)) (bindings_complete bs n.1) (term_complete u)) (λ _. tt)

  forall_complete : (at : ℕ) (w : Tok) (ts : Sexps Tok) → is_reserved FORALL w ≡ true → IfOk (read_binder for_all at ts) (ReadsTerm (list at (cons (atom w) ts)))
  forall_complete at w nil r = tt
  forall_complete at w (cons (atom x) ts) r = tt
  forall_complete at w (cons (list b bs) nil) r = tt
  forall_complete at w (cons (list b bs) (cons u (cons v vs))) r = tt
  forall_complete at w (cons (list b bs) (cons u nil)) r =
      let T = list at (cons (atom w) (cons (list b bs) (cons u nil))) in
      choice (not (is_empty bs) && are_named bs) _ _ (ReadsTerm T) (λ e. let n = both_true (not (is_empty bs)) (are_named bs) e in
      made_two (for_all at) (read_sorted bs) (read_term u) (ReadsVariables bs) (ReadsTerm u) (ReadsTerm T)
      (λ cs v p q. (w, b, bs, u, refl, r, n.0, p, q)) (variables_complete bs n.1) (term_complete u)) (λ _. tt)

  exists_complete : (at : ℕ) (w : Tok) (ts : Sexps Tok) → is_reserved EXISTS w ≡ true → IfOk (read_binder there_exists at ts) (ReadsTerm (list at (cons (atom w) ts)))
  exists_complete at w nil r = tt
  exists_complete at w (cons (atom x) ts) r = tt
  exists_complete at w (cons (list b bs) nil) r = tt
  exists_complete at w (cons (list b bs) (cons u (cons v vs))) r = tt
  exists_complete at w (cons (list b bs) (cons u nil)) r =
      let T = list at (cons (atom w) (cons (list b bs) (cons u nil))) in
      choice (not (is_empty bs) && are_named bs) _ _ (ReadsTerm T) (λ e. let n = both_true (not (is_empty bs)) (are_named bs) e in
      made_two (there_exists at) (read_sorted bs) (read_term u) (ReadsVariables bs) (ReadsTerm u) (ReadsTerm T)
      (λ cs v p q. (w, b, bs, u, refl, r, n.0, p, q)) (variables_complete bs n.1) (term_complete u)) (λ _. tt)

  match_complete : (at : ℕ) (w : Tok) (ts : Sexps Tok) → is_reserved MATCH w ≡ true → IfOk (read_match at ts) (ReadsTerm (list at (cons (atom w) ts)))
  match_complete at w nil r = tt
  match_complete at w (cons u nil) r = tt
  match_complete at w (cons u (cons (atom x) ts)) r = tt
  match_complete at w (cons u (cons (list b cs) (cons v vs))) r = tt
  match_complete at w (cons u (cons (list b cs) nil)) r =
      let T = list at (cons (atom w) (cons u (cons (list b cs) nil))) in
      choice (not (is_empty cs) && are_cases cs) _ _ (ReadsTerm T) (λ e. let n = both_true (not (is_empty cs)) (are_cases cs) e in
      made_two (match_with at) (read_term u) (read_cases cs) (ReadsTerm u) (ReadsCases cs) (ReadsTerm T)
      (λ v ds p q. (w, b, cs, u, refl, r, n.0, p, q)) (term_complete u) (cases_complete cs n.1)) (λ _. tt)

  annotation_complete : (at : ℕ) (w : Tok) (ts : Sexps Tok) → is_reserved ANNOTATION w ≡ true → IfOk (read_annotation at ts) (ReadsTerm (list at (cons (atom w) ts)))
  annotation_complete at w nil r = tt
  annotation_complete at w (cons u ns) r =
      let T = list at (cons (atom w) (cons u ns)) in
      choice (not (is_empty ns) && are_notes ns) _ _ (ReadsTerm T) (λ e. let n = both_true (not (is_empty ns)) (are_notes ns) e in
      made_two (annotated at) (read_term u) (read_notes ns) (ReadsTerm u) (ReadsNotes ns) (ReadsTerm T)
      (λ v ms p q. (w, ns, u, refl, r, n.0, p, q)) (term_complete u) (notes_complete ns n.1)) (λ _. tt)

  pub terms_complete : (ts : Sexps Tok) → IfOk (read_terms ts) (ReadsTerms ts)
  terms_complete nil = refl
  terms_complete (cons t ts) =
      made_two with_term (read_term t) (read_terms ts) (ReadsTerm t) (ReadsTerms ts) (ReadsTerms (cons t ts)) (λ s ss p q. (t, ts, refl, p, q)) (term_complete t) (terms_complete ts)

  bindings_complete : (ts : Sexps Tok) → are_named ts ≡ true → IfOk (read_bindings ts) (ReadsBindings ts)
  bindings_complete nil e = refl
  bindings_complete (cons (atom t) ts) e = absurd (no_test e)
  bindings_complete (cons (list b nil) ts) e = absurd (no_test e)
  bindings_complete (cons (list b (cons (list c us) vs)) ts) e = absurd (no_test e)
  bindings_complete (cons (list b (cons (atom x) nil)) ts) e = absurd (named_test x nil (is_symbol x) (both_true _ _ e).0).1
  bindings_complete (cons (list b (cons (atom x) (cons t (cons u us)))) ts) e = absurd (named_test x (cons t (cons u us)) (is_symbol x) (both_true _ _ e).0).1
  bindings_complete (cons (list b (cons (atom x) (cons t nil))) ts) e =
      let n = both_true _ _ e in
      let s = (named_test x (cons t nil) (is_symbol x) n.0).0 in
      choice (is_symbol x) _ _ (ReadsBindings (cons (list b (cons (atom x) (cons t nil))) ts)) (λ _.
      made_two (with_binding b x) (read_term t) (read_bindings ts) (ReadsTerm t) (ReadsBindings ts) (ReadsBindings (cons (list b (cons (atom x) (cons t nil))) ts))
      (λ v vs p q. (t, ts, refl, s, p, q)) (term_complete t) (bindings_complete ts n.1)) (λ f. absurd (no_test (sym f ∙ s)))

  cases_complete : (ts : Sexps Tok) → are_cases ts ≡ true → IfOk (read_cases ts) (ReadsCases ts)
  cases_complete nil e = refl
  cases_complete (cons (atom t) ts) e = absurd (no_test e)
  cases_complete (cons (list b nil) ts) e = absurd (no_test e)
  cases_complete (cons (list b (cons (atom x) nil)) ts) e = absurd (case_test (part.Atom x) nil (is_pattern (atom x)) (both_true _ _ e).0).1
  cases_complete (cons (list b (cons (atom x) (cons t (cons u us)))) ts) e = absurd (case_test (part.Atom x) (cons t (cons u us)) (is_pattern (atom x)) (both_true _ _ e).0).1
  cases_complete (cons (list b (cons (atom x) (cons t nil))) ts) e =
      let n = both_true _ _ e in
      let s = (case_test (part.Atom x) (cons t nil) (is_pattern (atom x)) n.0).0 in
      choice (is_pattern (atom x)) _ _ (ReadsCases (cons (list b (cons (atom x) (cons t nil))) ts)) (λ _.
      made_two (with_case b (pattern_of (atom x))) (read_term t) (read_cases ts) (ReadsTerm t) (ReadsCases ts) (ReadsCases (cons (list b (cons (atom x) (cons t nil))) ts))
      (λ v vs p q. ((atom x), t, ts, refl, pattern_found (atom x) s, p, q)) (term_complete t) (cases_complete ts n.1)) (λ f. absurd (no_test (sym f ∙ s)))
  cases_complete (cons (list b (cons (list c ps) nil)) ts) e = absurd (case_test (part.List c ps) nil (is_pattern (list c ps)) (both_true _ _ e).0).1
  cases_complete (cons (list b (cons (list c ps) (cons t (cons u us)))) ts) e = absurd (case_test (part.List c ps) (cons t (cons u us)) (is_pattern (list c ps)) (both_true _ _ e).0).1
  cases_complete (cons (list b (cons (list c ps) (cons t nil))) ts) e =
      let n = both_true _ _ e in
      let s = (case_test (part.List c ps) (cons t nil) (is_pattern (list c ps)) n.0).0 in
      choice (is_pattern (list c ps)) _ _ (ReadsCases (cons (list b (cons (list c ps) (cons t nil))) ts)) (λ _.
      made_two (with_case b (pattern_of (list c ps))) (read_term t) (read_cases ts) (ReadsTerm t) (ReadsCases ts) (ReadsCases (cons (list b (cons (list c ps) (cons t nil))) ts))
      (λ v vs p q. ((list c ps), t, ts, refl, pattern_found (list c ps) s, p, q)) (term_complete t) (cases_complete ts n.1)) (λ f. absurd (no_test (sym f ∙ s)))

  pub notes_complete : (ts : Sexps Tok) → are_notes ts ≡ true → IfOk (read_notes ts) (ReadsNotes ts)
  notes_complete nil e = refl
  notes_complete (cons (list b us) ts) e = absurd (no_test e)
  notes_complete (cons (atom k) nil) e =
      let o = other_key k e in
      choice (is_other_key k) _ _ (ReadsNotes (cons (atom k) nil)) (λ _. (cons (atom k) nil, nil, refl, ((refl, o.0), o.1, o.2), refl)) (λ f. absurd (no_test (sym f ∙ e)))
  notes_complete (cons (atom k) (cons (atom v) ts)) e =
      let T = cons (atom k) (cons (atom v) ts) in
      let h = token_test (is_key NAMED k) (is_symbol v) (is_other_key k) (is_value_token v) (are_notes ts) (are_notes (cons (atom v) ts)) e in
      choice (is_key NAMED k) _ _ (ReadsNotes T) (λ n. let s = h.0 n in
      choice (is_symbol v) _ _ (ReadsNotes T) (λ _. made (with_named v) (read_notes ts) (ReadsNotes ts) (ReadsNotes T)
      (λ ns p. (cons (atom k) (cons (atom v) nil), ts, refl, (k, refl, n, s.0), p)) (notes_complete ts s.1)) (λ f. absurd (no_test (sym f ∙ s.0))))
      (λ n. let s = h.1 n in let o = other_key k s.0 in
      choice (is_other_key k) _ _ (ReadsNotes T) (λ _.
      choice (is_value_token v) _ _ (ReadsNotes T)
      (λ q. made (with_attribute k (Some (atom v))) (read_notes ts) (ReadsNotes ts) (ReadsNotes T)
      (λ ns p. (cons (atom k) (cons (atom v) nil), ts, refl, ((refl, o.0, q), o.1, o.2), p)) (notes_complete ts (s.1 q)))
      (λ q. made (with_attribute k None) (read_notes (cons (atom v) ts)) (ReadsNotes (cons (atom v) ts)) (ReadsNotes T)
      (λ ns p. (cons (atom k) nil, cons (atom v) ts, refl, ((refl, o.0), o.1, o.2), p)) (notes_complete (cons (atom v) ts) (s.2 q))))
      (λ f. absurd (no_test (sym f ∙ s.0))))
  notes_complete (cons (atom k) (cons (list b us) ts)) e =
      let T = cons (atom k) (cons (list b us) ts) in
      let h = list_test (is_key PATTERN k) (not (is_empty us)) (is_other_key k) (are_notes ts) e in
      choice (is_key PATTERN k) _ _ (ReadsNotes T) (λ n. let s = h.0 n in
      choice (not (is_empty us)) _ _ (ReadsNotes T) (λ _. made_two with_pattern (read_terms us) (read_notes ts) (ReadsTerms us) (ReadsNotes ts) (ReadsNotes T)
      (λ vs ns p q. (cons (atom k) (cons (list b us) nil), ts, refl, (k, b, us, refl, n, s.0, p), q)) (terms_complete us) (notes_complete ts s.1)) (λ f. absurd (no_test (sym f ∙ s.0))))
      (λ n. let s = h.1 n in let o = other_key k s.0 in
      choice (is_other_key k) _ _ (ReadsNotes T) (λ _. made (with_attribute k (Some (list b us))) (read_notes ts) (ReadsNotes ts) (ReadsNotes T)
      (λ ns p. (cons (atom k) (cons (list b us) nil), ts, refl, ((refl, o.0, refl), o.1, o.2), p)) (notes_complete ts s.1))
      (λ f. absurd (no_test (sym f ∙ s.0))))
