-- The laws of the grammar.
use Rattle.std.proofs.Common.{◌≡◌, ℕ, Result, Ok, Err, is_ok, IfOk, ◌⊎◌, inl, inr, refl, ap, sym, subst, ◌∙◌}
use Rattle.std.specs.Result.{result_unwrap_or}
use Rattle.term_grammar.specs.Syntax.{symbol, Sort, named_sort, sort_at, Term, constant, term_at}
use Rattle.term_grammar.specs.Reads.{no_token, read_sort, read_term}
use Rattle.term_grammar.specs.Grammar.{ReadsSort, ReadsTerm}
use Rattle.term_grammar.specs.Faults.{FaultOfSort, FaultOfTerm}
use Rattle.term_grammar.specs.GrammarLaws.{SortsAreRead, TermsAreRead, SortFaultsAreFound, TermFaultsAreFound, AtMostOneSort, AtMostOneTerm, SortOrFault, TermOrFault, SortsBegin, TermsBegin}
use Rattle.term_grammar.proofs.GrammarComplete.{sort_complete, term_complete}
use Rattle.term_grammar.proofs.GrammarSound.{sort_sound, term_sound}
use Rattle.term_grammar.proofs.FirstFaults.{sort_fault_sound, sort_fault_found, term_fault_sound, term_fault_found}
use Rattle.term_grammar.proofs.Bytes.{sort_begins, term_begins}

-- what holds of the value holds of this value
at_value : {A : Type 0} (r : Result A ℕ) (a : A) (P : A → Type 0) → r ≡ Ok a → IfOk r P → P a
at_value {A = A} r a P e h = let Q : Result A ℕ → Type 0 = λ x. IfOk x P in subst Q e h

same_value : {A : Type 0} (a b : A) → ◌≡◌ {A = Result A ℕ} (Ok a) (Ok b) → a ≡ b
same_value {A = A} a b e = ap (λ (r : Result A ℕ). result_unwrap_or r a) e

value_or_fault : {A : Type 0} (r : Result A ℕ) (P : A → Type 0) (Q : ℕ → Type 0) → IfOk r P → ((n : ℕ) → r ≡ Err n → Q n) → ((a : A) × P a) ⊎ ((n : ℕ) × Q n)
value_or_fault (Ok a) P Q h k = inl (a, h)
value_or_fault (Err n) P Q h k = inr (n, k n refl)

pub sorts_are_read : SortsAreRead
sorts_are_read t s = (sort_sound s t, λ e. at_value (read_sort t) s (ReadsSort t) e (sort_complete t))

pub terms_are_read : TermsAreRead
terms_are_read t u = (term_sound u t, λ e. at_value (read_term t) u (ReadsTerm t) e (term_complete t))

pub sort_faults_are_found : SortFaultsAreFound
sort_faults_are_found t n = (sort_fault_sound t n, sort_fault_found t n)

pub term_faults_are_found : TermFaultsAreFound
term_faults_are_found t n = (term_fault_sound t n, term_fault_found t n)

pub at_most_one_sort : AtMostOneSort
at_most_one_sort t r s p q = same_value r s (sym (sort_sound r t p) ∙ sort_sound s t q)

pub at_most_one_term : AtMostOneTerm
at_most_one_term t u v p q = same_value u v (sym (term_sound u t p) ∙ term_sound v t q)

pub sort_or_fault : SortOrFault
sort_or_fault t = value_or_fault (read_sort t) (ReadsSort t) (FaultOfSort t) (sort_complete t) (sort_fault_found t)

pub term_or_fault : TermOrFault
term_or_fault t = value_or_fault (read_term t) (ReadsTerm t) (FaultOfTerm t) (term_complete t) (term_fault_found t)

pub sorts_begin : SortsBegin
sorts_begin t s p =
    let e = sort_sound s t p in
    sym (ap (λ (r : Result Sort ℕ). sort_at (result_unwrap_or r (named_sort (symbol no_token)))) e) ∙ sort_begins t (ap (λ (r : Result Sort ℕ). is_ok r) e)

pub terms_begin : TermsBegin
terms_begin t u p =
    let e = term_sound u t p in
    sym (ap (λ (r : Result Term ℕ). term_at (result_unwrap_or r (constant no_token))) e) ∙ term_begins t (ap (λ (r : Result Term ℕ). is_ok r) e)
