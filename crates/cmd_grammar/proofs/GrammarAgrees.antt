-- The relations of the grammar and its reading agree.
use Rattle.std.proofs.Common.{◌≡◌, ◌⊎◌, inl, inr, ℕ, Bool, true, false, not, Option, Some, None, Result, Ok, Err, IsTrue, if◌then◌else◌, refl, ap, sym, ◌∙◌}
use Rattle.sig_table.specs.declared.code.Code.TheVariants as code
use Rattle.lex_core.specs.declared.token.Tok.{Tok}
use Rattle.lex_core.specs.declared.place.Place.{Place}
use Rattle.sexp_core.specs.Sexp.{Sexp, atom, list, Sexps, nil, cons}
use Rattle.term_grammar.specs.Reads.{byte_of}
use Rattle.cmd_grammar.specs.declared.command_form.CommandForm.{CommandForm}
use Rattle.cmd_grammar.specs.Commands.{Command}
use Rattle.cmd_grammar.specs.CommandWords.{command_begun_by}
use Rattle.cmd_grammar.specs.CommandForms.{form_after, is_other, unknown, or_wrong, command_form}
use Rattle.cmd_grammar.specs.CommandReads.{command_by, or_wrong_term, command_of_form, read_command}
use Rattle.cmd_grammar.specs.FormGrammar.{HasForm}
use Rattle.cmd_grammar.specs.Grammar.{ReadsCommand, BeginsCommand, form_positions, IsGrammarFault}
use Rattle.term_grammar.specs.FormReading.{judged}
use Rattle.term_grammar.proofs.FirstFaults.{first_fault, faults_sound, judged_err}
use Rattle.cmd_grammar.proofs.PositionsJudged.{form_judged}
use Rattle.cmd_grammar.proofs.FormsHave.{form_has}
use Rattle.cmd_grammar.proofs.CommandsAgree.{FormReads, form_reads, command_shown}
use Rattle.cmd_grammar.proofs.FormsFound.{form_found}

abbrev unknown_at : Sexp Tok → Place
unknown_at t = record { code = code.UnknownCommand; at = byte_of t }

abbrev wrong_at : Sexp Tok → Place
wrong_at t = record { code = code.WrongCommandForm; at = byte_of t }

-- what the search for a form finds
data Found (t : Sexp Tok) : Type 0 where
  has_form : (f : CommandForm) → BeginsCommand t → HasForm t f → command_form t ≡ Ok f → Found t
  begins_none : (BeginsCommand t → ⊥) → command_form t ≡ Err (unknown_at t) → Found t
  has_no_form : BeginsCommand t → command_form t ≡ Err (wrong_at t) → Found t

other_not : (b : Bool) → b ≡ true → IsTrue (not b) → ⊥
other_not true e h = cc
other_not false e h = cc

-- a list that begins with a token begins no other way
one_beginning : (at : ℕ) (w : Tok) (ts : Sexps Tok) → is_other (command_begun_by w) ≡ true → BeginsCommand (list at (cons (atom w) ts)) → ⊥
one_beginning at w ts o (word, us, (b, v, e, k), n) =
    let s : w ≡ v = cc in other_not (is_other word) (sym (ap is_other (ap command_begun_by s ∙ k)) ∙ o) n

after_word : (at : ℕ) (w : Tok) (ts : Sexps Tok) (o : Option CommandForm) → is_other (command_begun_by w) ≡ false → form_after (command_begun_by w) ts ≡ o
    → command_form (list at (cons (atom w) ts)) ≡ or_wrong at o → Found (list at (cons (atom w) ts))
after_word at w ts (Some f) n h e = has_form f (command_begun_by w, ts, (at, w, refl, refl), ap not n) (form_has (command_begun_by w) _ ts f (at, w, refl, refl) h) e
after_word at w ts None n h e = has_no_form (command_begun_by w, ts, (at, w, refl, refl), ap not n) e

begun_search : (at : ℕ) (w : Tok) (ts : Sexps Tok) (b : Bool) → is_other (command_begun_by w) ≡ b
    → command_form (list at (cons (atom w) ts)) ≡ (if b then unknown at else or_wrong at (form_after (command_begun_by w) ts)) → Found (list at (cons (atom w) ts))
begun_search at w ts true o e = begins_none (one_beginning at w ts o) e
begun_search at w ts false o e = after_word at w ts _ o refl e

search_form : (t : Sexp Tok) → Found t
search_form (atom t) = begins_none (λ b. absurd (cc)) refl
search_form (list at nil) = begins_none (λ b. absurd (cc)) refl
search_form (list at (cons (list b us) ts)) = begins_none (λ b. absurd (cc)) refl
search_form (list at (cons (atom w) ts)) = begun_search at w ts (is_other (command_begun_by w)) refl refl

reading : (t : Sexp Tok) → read_command t ≡ command_of_form (command_form t)
unfolding read_command
reading t = refl

-- ReadsCommand and the reading

form_read : (t : Sexp Tok) (c : Command) → FormReads t c → read_command t ≡ Ok c
form_read t c (f, h, e) = reading t ∙ ap command_of_form (form_found t f h) ∙ ap or_wrong_term e

pub reads_found : (t : Sexp Tok) (c : Command) → ReadsCommand t c → read_command t ≡ Ok c
reads_found t c h = form_read t c (command_shown t c h)

no_error : (r : Result Command ℕ) (c : Command) → or_wrong_term r ≡ Ok c → r ≡ Ok c
no_error (Ok d) c e = cc
no_error (Err at) c e = absurd (cc)

clash : {A B : Type 0} (a : A) (b : B) → Ok a ≡ Err b → ⊥
clash a b e = cc

searched_reads : (t : Sexp Tok) (c : Command) → read_command t ≡ Ok c → Found t → ReadsCommand t c
searched_reads t c e (has_form f b h k) = form_reads t f c h (no_error (command_by f) c (sym (ap command_of_form k) ∙ sym (reading t) ∙ e))
searched_reads t c e (begins_none n k) = absurd (clash c (unknown_at t) (sym e ∙ reading t ∙ ap command_of_form k))
searched_reads t c e (has_no_form b k) = absurd (clash c (wrong_at t) (sym e ∙ reading t ∙ ap command_of_form k))

pub found_reads : (t : Sexp Tok) (c : Command) → read_command t ≡ Ok c → ReadsCommand t c
found_reads t c e = searched_reads t c e (search_form t)

-- IsGrammarFault and the reading

no_command : (r : Result Command ℕ) (p : Place) → or_wrong_term r ≡ Err p → (at : ℕ) × (r ≡ Err at) × (p ≡ record { code = code.WrongTermForm; at = at })
no_command (Ok c) p e = absurd (clash c p e)
no_command (Err at) p e = (at, refl, cc)

no_form : (t : Sexp Tok) (p : Place) → command_form t ≡ Err p → (f : CommandForm) → HasForm t f → ⊥
no_form t p e f h = clash f p (sym (form_found t f h) ∙ e)

same_place : (p q : Place) (r : Result Command Place) → r ≡ Err p → r ≡ Err q → q ≡ p
same_place p q r e k = cc

searched_fault : (t : Sexp Tok) (p : Place) → read_command t ≡ Err p → Found t → IsGrammarFault t p
searched_fault t p e (begins_none n k) = inl (n, same_place (unknown_at t) p (read_command t) (reading t ∙ ap command_of_form k) e)
searched_fault t p e (has_no_form b k) = inr (inl (b, no_form t (wrong_at t) k, same_place (wrong_at t) p (read_command t) (reading t ∙ ap command_of_form k) e))
searched_fault t p e (has_form f b h k) =
    let (at, r, q) = no_command (command_by f) p (sym (ap command_of_form k) ∙ sym (reading t) ∙ e) in
    inr (inr (f, at, h, first_fault (form_positions f) at (sym (form_judged t f h) ∙ ap judged r), q))

pub found_fault : (t : Sexp Tok) (p : Place) → read_command t ≡ Err p → IsGrammarFault t p
found_fault t p e = searched_fault t p e (search_form t)

unknown_found : (t : Sexp Tok) → (BeginsCommand t → ⊥) → Found t → read_command t ≡ Err (unknown_at t)
unknown_found t n (begins_none m k) = reading t ∙ ap command_of_form k
unknown_found t n (has_no_form b k) = absurd (n b)
unknown_found t n (has_form f b h k) = absurd (n b)

wrong_found : (t : Sexp Tok) → BeginsCommand t → ((f : CommandForm) → HasForm t f → ⊥) → Found t → read_command t ≡ Err (wrong_at t)
wrong_found t b n (begins_none m k) = absurd (m b)
wrong_found t b n (has_no_form c k) = reading t ∙ ap command_of_form k
wrong_found t b n (has_form f c h k) = absurd (n f h)

pub fault_found : (t : Sexp Tok) (p : Place) → IsGrammarFault t p → read_command t ≡ Err p
fault_found t p (inl (n, e)) = unknown_found t n (search_form t) ∙ ap Err (sym e)
fault_found t p (inr (inl (b, n, e))) = wrong_found t b n (search_form t) ∙ ap Err (sym e)
fault_found t p (inr (inr (f, at, h, r, e))) =
    let k = judged_err (command_by f) at (form_judged t f h ∙ faults_sound (form_positions f) at r) in
    reading t ∙ ap command_of_form (form_found t f h) ∙ ap or_wrong_term k ∙ ap Err (sym e)

-- The laws.

pub one_command : (t : Sexp Tok) (c d : Command) → ReadsCommand t c → ReadsCommand t d → c ≡ d
one_command t c d h k = let e = reads_found t c h in let g = reads_found t d k in cc

pub one_fault : (t : Sexp Tok) (p q : Place) → IsGrammarFault t p → IsGrammarFault t q → p ≡ q
one_fault t p q h k = let e = fault_found t p h in let g = fault_found t q k in cc

pub not_both : (t : Sexp Tok) (c : Command) (p : Place) → ReadsCommand t c → IsGrammarFault t p → ⊥
not_both t c p h k = clash c p (sym (reads_found t c h) ∙ fault_found t p k)

by_reading : (t : Sexp Tok) (r : Result Command Place) → read_command t ≡ r → ((c : Command) × ReadsCommand t c) ⊎ ((p : Place) × IsGrammarFault t p)
by_reading t (Ok c) e = inl (c, found_reads t c e)
by_reading t (Err p) e = inr (p, found_fault t p e)

pub one_of_both : (t : Sexp Tok) → ((c : Command) × ReadsCommand t c) ⊎ ((p : Place) × IsGrammarFault t p)
one_of_both t = by_reading t (read_command t) refl
