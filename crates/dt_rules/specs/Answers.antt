-- What a call that judges a pattern answers.
use Rattle.std.specs.Prelude.{ℕ, List, [], ◌∷◌, Option, Some, None, Result, Ok, Err, ⊤}
use Rattle.lex_core.specs.declared.token.Tok.{Tok}
use Rattle.judgement.specs.Judging.{Judging, well_sorted, ill_sorted}
use Rattle.dt_rules.specs.declared.error.TyError.{TyError}
use Rattle.dt_rules.specs.declared.error.TyError.TheVariants as error

-- Ok has the value that the thing is well sorted with, a fault has the place, and want of memory says nothing. The names
-- that the command has declared play no part.
abbrev pub Answers : {A : Type 0} → Result A TyError → Judging A → Type 0
Answers (Ok x) J = (before : List ℕ) → J before (well_sorted x before)
Answers (Err (error.Fault place)) J = (before : List ℕ) → J before (ill_sorted place)
Answers (Err error.NoMemory) J = ⊤

-- the symbols that are left
abbrev pub symbols_left : Option (Tok × List Tok) → List Tok
symbols_left None = []
symbols_left (Some p) = p.0 ∷ p.1
