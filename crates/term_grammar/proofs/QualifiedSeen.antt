-- What is known of a tree that reads as a qualified identifier.
use Rattle.std.proofs.Common.{◌≡◌, ℕ, Bool, true, false, if◌then◌else◌, Some, None, Result, Ok, Err, IsOk, IsTrue, is_ok, refl, ap, sym, ◌∙◌}
use Rattle.std.specs.Result.{result_unwrap_or}
use Rattle.lex_core.specs.declared.token.Tok.{Tok}
use Rattle.sexp_core.specs.Sexp.{Sexp, atom, list, Sexps}
use Rattle.sexp_core.specs.Parts.{whole}
use Rattle.sexp_core.specs.declared.parts.Part.{Part}
use Rattle.sexp_core.specs.declared.parts.Part.TheVariants as part
use Rattle.term_grammar.specs.Words.{is_symbol}
use Rattle.term_grammar.specs.Syntax.{symbol, named_sort, Qualified, unqualified, qualified}
use Rattle.term_grammar.specs.Forms.{is_identifier}
use Rattle.term_grammar.specs.TermForms.{as_parts}
use Rattle.term_grammar.specs.Reads.{made_of, no_token, identifier_of, read_sort, qualified_by, read_qualified}
use Rattle.term_grammar.specs.Readings.{sort_of, qualified_of}
use Rattle.term_grammar.proofs.SortsSeen.{made_of_ok}
use Rattle.term_grammar.proofs.TokenKinds.{no_test}
use Rattle.term_grammar.proofs.PartsFound.{at_part, as_found}

abbrev qualified_or : Result Qualified ℕ → Qualified
qualified_or r = result_unwrap_or r (unqualified (symbol no_token))

pub named_seen : (t : Sexp Tok) → is_identifier t ≡ true → qualified_of t ≡ unqualified (identifier_of t)
unfolding read_qualified
named_seen (atom t) e = rw e refl
named_seen (list at ts) e = rw e refl

no_atom : (q : Bool) (t : Tok) → q ≡ false → IsOk (if q then Ok (unqualified (symbol t)) else Err t.at) → ⊥
no_atom true t e h = no_test (sym e)
no_atom false t e h = no_test h

pub atom_unseen : (t : Part) (w : Tok) → t ≡ part.Atom w → is_identifier (whole t) ≡ false → IsOk (read_qualified (whole t)) → ⊥
unfolding read_qualified
atom_unseen (part.Atom v) w d e h = no_atom (is_symbol v) v e h
atom_unseen (part.List at ts) w d e h = absurd (cc)

list_reads : (at : ℕ) (ts : Sexps Tok) → is_identifier (list at ts) ≡ false → read_qualified (list at ts) ≡ qualified_by at (as_parts ts)
unfolding read_qualified
list_reads at ts e = rw e refl

pub list_seen : (t : Part) (at : ℕ) (ts : Sexps Tok) (i s : Part) → t ≡ part.List at ts → is_identifier (whole t) ≡ false → as_parts ts ≡ Some (i, s)
    → IsOk (read_qualified (whole t))
    → IsTrue (is_identifier (whole i)) × (IsOk (read_sort (whole s)) × (qualified_of (whole t) ≡ qualified at (identifier_of (whole i)) (sort_of (whole s))))
list_seen t at ts i s d e f h =
    let r : read_qualified (whole t) ≡ made_of (qualified at (identifier_of (whole i))) (read_sort (whole s)) =
    ap (λ (x : Part). read_qualified (whole x)) d ∙ list_reads at ts (sym (ap (λ (x : Part). is_identifier (whole x)) d) ∙ e) ∙ ap (qualified_by at) f in
    let ok : IsOk (made_of (qualified at (identifier_of (whole i))) (read_sort (whole s))) = sym (ap (λ (x : Result Qualified ℕ). is_ok x) r) ∙ h in
    let m = made_of_ok (qualified at (identifier_of (whole i))) (read_sort (whole s)) (named_sort (symbol no_token)) (unqualified (symbol no_token)) ok in
    ((at_part (as_parts ts) (i, s) _ f (as_found ts)).3, (m.0, ap qualified_or r ∙ m.1))

pub list_unseen : (t : Part) (at : ℕ) (ts : Sexps Tok) → t ≡ part.List at ts → is_identifier (whole t) ≡ false → as_parts ts ≡ None → IsOk (read_qualified (whole t)) → ⊥
list_unseen t at ts d e f h =
    let r : read_qualified (whole t) ≡ Err at =
    ap (λ (x : Part). read_qualified (whole x)) d ∙ list_reads at ts (sym (ap (λ (x : Part). is_identifier (whole x)) d) ∙ e) ∙ ap (qualified_by at) f in
    no_test (sym (ap (λ (x : Result Qualified ℕ). is_ok x) r) ∙ h)
