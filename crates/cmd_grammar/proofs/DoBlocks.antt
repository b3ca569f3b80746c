-- What the steps of a do block gave where the block gives something.
use Rattle.std.proofs.Common.{◌≡◌, ℕ, Bool, true, false, IsTrue, if◌then◌else◌, Option, Some, None, is_some, refl, ap, sym}
use Rattle.lex_core.specs.declared.token.Tok.{Tok}
use Rattle.sexp_core.specs.Sexp.{atom, list, Sexps, nil, cons}
use Rattle.sexp_core.specs.Parts.{whole}
use Rattle.sexp_core.specs.declared.parts.Part.{Part}
use Rattle.term_grammar.specs.Words.{is_symbol}
use Rattle.term_grammar.specs.FirstParts.{part_of, any_first, token_first, symbol_first, list_first, is_empty, guard}
use Rattle.term_grammar.proofs.FormsRead.{whole-part_of}

pub some_is : {A : Type 0} (o : Option A) → IsTrue (is_some o) → (a : A) × (o ≡ Some a)
some_is (Some a) h = (a, refl)
some_is None h = absurd (cc)

pub guard_true : (b : Bool) (u : Unit {0}) → guard b ≡ Some u → IsTrue b
guard_true true u h = refl
guard_true false u h = absurd (cc)

pub empty_nil : (ts : Sexps Tok) → IsTrue (is_empty ts) → ts ≡ nil
empty_nil nil h = refl
empty_nil (cons t ts) h = absurd (cc)

pub end_is : (ts : Sexps Tok) (u : Unit {0}) → guard (is_empty ts) ≡ Some u → ts ≡ nil
end_is ts u h = empty_nil ts (guard_true (is_empty ts) u h)

symbol_tested : (b : Bool) (t : Tok) (ts : Sexps Tok) (p : Tok × Sexps Tok) → (if b then Some (t, ts) else None) ≡ Some p → IsTrue b × ((t, ts) ≡ p)
symbol_tested true t ts p h = (refl, cc)
symbol_tested false t ts p h = absurd (cc)

pub symbol_is_first : (ts : Sexps Tok) (p : Tok × Sexps Tok) → symbol_first ts ≡ Some p → IsTrue (is_symbol p.0) × (ts ≡ cons (atom p.0) p.1)
symbol_is_first nil p h = absurd (cc)
symbol_is_first (cons (list at us) ts) p h = absurd (cc)
symbol_is_first (cons (atom t) ts) p h = let s = symbol_tested (is_symbol t) t ts p h in (rw (← s.1) s.0, cc)

pub token_is_first : (ts : Sexps Tok) (p : Tok × Sexps Tok) → token_first ts ≡ Some p → ts ≡ cons (atom p.0) p.1
token_is_first nil p h = absurd (cc)
token_is_first (cons (list at us) ts) p h = absurd (cc)
token_is_first (cons (atom t) ts) p h = cc

pub any_is_first : (ts : Sexps Tok) (p : Part × Sexps Tok) → any_first ts ≡ Some p → ts ≡ cons (whole p.0) p.1
any_is_first nil p h = absurd (cc)
any_is_first (cons t ts) p h = let e : (part_of t, ts) ≡ p = cc in rw (← e) (ap (λ x. cons x ts) (sym (whole-part_of t)))

pub list_is_first : (ts : Sexps Tok) (p : Sexps Tok × Sexps Tok) → list_first ts ≡ Some p → (at : ℕ) × (ts ≡ cons (list at p.0) p.1)
list_is_first nil p h = absurd (cc)
list_is_first (cons (atom t) ts) p h = absurd (cc)
list_is_first (cons (list at us) ts) p h = (at, cc)
