-- What is known of a tree that reads as a sort or an identifier.
use Rattle.std.proofs.Common.{◌≡◌, ℕ, Bool, true, false, if◌then◌else◌, Some, None, Result, Ok, Err, IsOk, is_ok, refl, ap, sym, ◌∙◌}
use Rattle.std.specs.Result.{result_unwrap_or}
use Rattle.lex_core.specs.declared.token.Tok.{Tok}
use Rattle.sexp_core.specs.Sexp.{Sexp, atom, list, Sexps, nil, cons}
use Rattle.sexp_core.specs.Parts.{whole}
use Rattle.sexp_core.specs.declared.parts.Part.{Part}
use Rattle.term_grammar.specs.declared.form.SortForm.TheVariants as form
use Rattle.term_grammar.specs.Words.{is_symbol}
use Rattle.term_grammar.specs.FirstParts.{token_first, symbol_first}
use Rattle.term_grammar.specs.Syntax.{symbol, Sort, named_sort, applied_sort, no_sorts, with_sort}
use Rattle.term_grammar.specs.Forms.{sort_form}
use Rattle.term_grammar.specs.Reads.{made_of, made_of_two, no_token, byte_of, identifier_of, read_sort, read_sorts}
use Rattle.term_grammar.specs.FormReading.{sort_by}
use Rattle.term_grammar.specs.Readings.{sort_of, sorts_of}
use Rattle.term_grammar.proofs.FormsRead.{read_sort-form}
use Rattle.term_grammar.proofs.TokenKinds.{no_test}

pub token_first_is : (ts : Sexps Tok) (p : Tok × Sexps Tok) → token_first ts ≡ Some p → ts ≡ cons (atom p.0) p.1
token_first_is nil p e = absurd (cc)
token_first_is (cons (list at us) ts) p e = absurd (cc)
token_first_is (cons (atom t) ts) p e = cc

symbol_by_test : (b : Bool) (t : Tok) (ts : Sexps Tok) (p : Tok × Sexps Tok) → (if b then Some (t, ts) else None) ≡ Some p → (t, ts) ≡ p
symbol_by_test true t ts p e = cc
symbol_by_test false t ts p e = absurd (cc)

pub symbol_first_is : (ts : Sexps Tok) (p : Tok × Sexps Tok) → symbol_first ts ≡ Some p → ts ≡ cons (atom p.0) p.1
symbol_first_is nil p e = absurd (cc)
symbol_first_is (cons (list at us) ts) p e = absurd (cc)
symbol_first_is (cons (atom t) ts) p e = let h = symbol_by_test (is_symbol t) t ts p e in cc

-- the result of what is made of two parts, and that both parts are there
pub made_of_ok : {A B : Type 0} (f : A → B) (r : Result A ℕ) (d : A) (b : B) → IsOk (made_of f r) → IsOk r × (result_unwrap_or (made_of f r) b ≡ f (result_unwrap_or r d))
made_of_ok f (Ok a) d b h = (refl, refl)
made_of_ok f (Err e) d b h = absurd (no_test h)

pub made_of_two_ok : {A B C : Type 0} (f : A → B → C) (r : Result A ℕ) (s : Result B ℕ) (d : A) (e : B) (c : C) → IsOk (made_of_two f r s)
    → IsOk r × (IsOk s × (result_unwrap_or (made_of_two f r s) c ≡ f (result_unwrap_or r d) (result_unwrap_or s e)))
made_of_two_ok f (Ok a) (Ok b) d e c h = (refl, (refl, refl))
made_of_two_ok f (Ok a) (Err x) d e c h = absurd (no_test h)
made_of_two_ok f (Err x) s d e c h = absurd (no_test h)

pub sorts_seen : (t : Sexp Tok) (ts : Sexps Tok) → IsOk (read_sorts (cons t ts)) → IsOk (read_sort t) × (IsOk (read_sorts ts) × (sorts_of (cons t ts) ≡ with_sort (sort_of t) (sorts_of ts)))
unfolding read_sort
sorts_seen t ts h = made_of_two_ok with_sort (read_sort t) (read_sorts ts) (named_sort (symbol no_token)) no_sorts no_sorts h

pub no_sorts_seen : sorts_of nil ≡ no_sorts
unfolding read_sort
no_sorts_seen = refl

abbrev sort_or : Result Sort ℕ → Sort
sort_or r = result_unwrap_or r (named_sort (symbol no_token))

pub identifier_seen : (t : Sexp Tok) → sort_form t ≡ Ok form.Identifier → sort_of t ≡ named_sort (identifier_of t)
identifier_seen t e = ap sort_or (read_sort-form t ∙ ap (sort_by t) e)

pub applied_seen : (t : Sexp Tok) (i : Part) (ss : Sexps Tok) → sort_form t ≡ Ok (form.Applied i ss) → IsOk (read_sort t)
    → IsOk (read_sorts ss) × (sort_of t ≡ applied_sort (byte_of t) (identifier_of (whole i)) (sorts_of ss))
applied_seen t i ss e h =
    let r : read_sort t ≡ made_of (applied_sort (byte_of t) (identifier_of (whole i))) (read_sorts ss) = read_sort-form t ∙ ap (sort_by t) e in
    let ok : IsOk (made_of (applied_sort (byte_of t) (identifier_of (whole i))) (read_sorts ss)) = sym (ap (λ (x : Result Sort ℕ). is_ok x) r) ∙ h in
    let m = made_of_ok (applied_sort (byte_of t) (identifier_of (whole i))) (read_sorts ss) no_sorts (named_sort (symbol no_token)) ok in
    (m.0, ap sort_or r ∙ m.1)

pub unformed : (t : Sexp Tok) (at : ℕ) → sort_form t ≡ Err at → IsOk (read_sort t) → ⊥
unformed t at e h = no_test (sym (ap (λ (x : Result Sort ℕ). is_ok x) (read_sort-form t ∙ ap (sort_by t) e)) ∙ h)

pub sorts_begin : (ts : Sexps Tok) (t : Sexp Tok) (us : Sexps Tok) → IsOk (read_sorts ts) → ts ≡ cons t us
    → IsOk (read_sort t) × (IsOk (read_sorts us) × (sorts_of ts ≡ with_sort (sort_of t) (sorts_of us)))
sorts_begin ts t us h e =
    let s = sorts_seen t us (sym (ap (λ (x : Sexps Tok). is_ok (read_sorts x)) e) ∙ h) in
    (s.0, (s.1.0, ap sorts_of e ∙ s.1.1))

pub sorts_end : (ts : Sexps Tok) → ts ≡ nil → sorts_of ts ≡ no_sorts
sorts_end ts e = ap sorts_of e ∙ no_sorts_seen
