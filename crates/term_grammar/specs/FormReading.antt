-- What the form of a tree reads as, and whether a tree reads.
use Rattle.std.specs.Prelude.{ℕ, Result, Ok, Err}
use Rattle.lex_core.specs.declared.token.Tok.{Tok}
use Rattle.sexp_core.specs.Sexp.{Sexp}
use Rattle.sexp_core.specs.Parts.{whole}
use Rattle.term_grammar.specs.declared.form.SortForm.{SortForm}
use Rattle.term_grammar.specs.declared.form.SortForm.TheVariants as sort
use Rattle.term_grammar.specs.declared.term_form.TermForm.{TermForm}
use Rattle.term_grammar.specs.declared.term_form.TermForm.TheVariants as term
use Rattle.term_grammar.specs.Syntax.{Sort, named_sort, applied_sort, Term, constant, qualified_term, application, let_in, for_all, there_exists, match_with, annotated}
use Rattle.term_grammar.specs.Reads.{made_of, made_of_two, byte_of, identifier_of, read_sorts, read_sorted, read_qualified, read_term, read_terms, read_bindings, read_cases, read_notes}

abbrev pub sort_by : Sexp Tok → Result SortForm ℕ → Result Sort ℕ
sort_by t (Err e) = Err e
sort_by t (Ok sort.Identifier) = Ok (named_sort (identifier_of t))
sort_by t (Ok (sort.Applied i ss)) = made_of (applied_sort (byte_of t) (identifier_of (whole i))) (read_sorts ss)

abbrev pub term_by : Sexp Tok → Result TermForm ℕ → Result Term ℕ
term_by t (Err e) = Err e
term_by t (Ok (term.Constant c)) = Ok (constant c)
term_by t (Ok term.Qualified) = made_of qualified_term (read_qualified t)
term_by t (Ok (term.Application h ts)) = made_of_two (application (byte_of t)) (read_qualified (whole h)) (read_terms ts)
term_by t (Ok (term.Let bs u)) = made_of_two (let_in (byte_of t)) (read_bindings bs) (read_term (whole u))
term_by t (Ok (term.Forall vs u)) = made_of_two (for_all (byte_of t)) (read_sorted vs) (read_term (whole u))
term_by t (Ok (term.Exists vs u)) = made_of_two (there_exists (byte_of t)) (read_sorted vs) (read_term (whole u))
term_by t (Ok (term.Match u cs)) = made_of_two (match_with (byte_of t)) (read_term (whole u)) (read_cases cs)
term_by t (Ok (term.Annotated u ns)) = made_of_two (annotated (byte_of t)) (read_term (whole u)) (read_notes ns)

-- whether it reads, or the fault
abbrev pub judged : {A : Type 0} → Result A ℕ → Result (Unit {0}) ℕ
judged (Ok a) = Ok tt
judged (Err e) = Err e

-- one judgement, and then another
abbrev pub both : Result (Unit {0}) ℕ → Result (Unit {0}) ℕ → Result (Unit {0}) ℕ
both (Ok u) r = r
both (Err e) r = Err e

abbrev pub sort_judged_by : Result SortForm ℕ → Result (Unit {0}) ℕ
sort_judged_by (Err e) = Err e
sort_judged_by (Ok sort.Identifier) = Ok tt
sort_judged_by (Ok (sort.Applied i ss)) = judged (read_sorts ss)

abbrev pub term_judged_by : Sexp Tok → Result TermForm ℕ → Result (Unit {0}) ℕ
term_judged_by t (Err e) = Err e
term_judged_by t (Ok (term.Constant c)) = Ok tt
term_judged_by t (Ok term.Qualified) = judged (read_qualified t)
term_judged_by t (Ok (term.Application h ts)) = both (judged (read_qualified (whole h))) (judged (read_terms ts))
term_judged_by t (Ok (term.Let bs u)) = both (judged (read_bindings bs)) (judged (read_term (whole u)))
term_judged_by t (Ok (term.Forall vs u)) = both (judged (read_sorted vs)) (judged (read_term (whole u)))
term_judged_by t (Ok (term.Exists vs u)) = both (judged (read_sorted vs)) (judged (read_term (whole u)))
term_judged_by t (Ok (term.Match u cs)) = both (judged (read_term (whole u))) (judged (read_cases cs))
term_judged_by t (Ok (term.Annotated u ns)) = both (judged (read_term (whole u))) (judged (read_notes ns))
