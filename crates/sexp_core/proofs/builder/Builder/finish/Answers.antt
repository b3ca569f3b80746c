use Rattle.std.proofs.Common.{◌≡◌, refl, true, false}
use Rattle.sexp_core.specs.Reading.{IsUnclosed}
use Rattle.sexp_core.specs.OpenLists.{opening_byte}
use Rattle.sexp_core.proofs.TokensTaken.{unclosed, none_open, some_unclosed}
use Rattle.sexp_core.proofs.builder.Builder.finish.Goals as goal

-- a list is open, and the first item is its parenthesis
begins : (c : goal.After-opening) → IsUnclosed c.args.self.now.0 (opening_byte c.in-Some.item.now)
begins c = unclosed _ _ _ _ _ c.self.invariant c.self.view_is (rw c.deref.ensures.value at c.in-Some.ensures.value)

no : false ≡ true → ⊥
no e = cc

pub returns-in-Some-clause-ok : goal.returns-in-Some-clause-ok
returns-in-Some-clause-ok c = (λ n. absurd (no n), λ e. absurd (some_unclosed _ _ (begins c) e))

pub returns-in-Some-clause-unclosed : goal.returns-in-Some-clause-unclosed
returns-in-Some-clause-unclosed c = (refl, rw c.opening.ensures (begins c))

pub returns-in-None-clause-ok : goal.returns-in-None-clause-ok
returns-in-None-clause-ok c = (λ n. none_open _ _ _ _ c.self.invariant c.self.view_is (rw c.deref.ensures.value at c.in-None.ensures.value), λ e. refl)
