-- What a builder holds, and what a token makes of it.
use Rattle.std.specs.Prelude.{◌≡◌, ◌≢◌, ℕ, ◌++◌, List, [], ◌∷◌, length, Option, Some, None, Result, Ok, Err, IfOk, IfSome, IfErr, Bool, true, false, ⊤}
use Rattle.sig_table.specs.declared.code.Code.{Code}
use Rattle.sig_table.specs.declared.code.Code.TheVariants as code
use Rattle.lex_core.specs.declared.token.Tok.{Tok}
use Rattle.sexp_core.specs.declared.builder.SexpError.{SexpError}
use Rattle.sexp_core.specs.declared.builder.SexpError.TheVariants as error
use Rattle.sexp_core.specs.declared.builder.TheConstants.{MAX_DEPTH}
use Rattle.sexp_core.specs.declared.tree.Item.{Item}
use Rattle.sexp_core.specs.Sexp.{Sexp, Sexps, atom, list, nil, FlatToken, flat}
use Rattle.sexp_core.specs.Reading.{TreeFault, IsList}
use Rattle.sexp_core.specs.Items.{items_from}
use Rattle.sexp_core.specs.OpenLists.{OpenList, add_sexp, open_tokens, open_lists, Represents, AreOpenLists}

-- the tokens of the unfinished list, and the error that was answered
abbrev pub State : Type 0
State = List (FlatToken Tok) × Option SexpError

-- an error that the next token may have: the rule that it breaks, at its byte, or want of memory
abbrev pub IsTreeError : List (FlatToken Tok) → FlatToken Tok → ℕ → SexpError → Type 0
IsTreeError before next at error.NoMemory = ⊤
IsTreeError before next at (error.Fault place) = TreeFault before next place.code × (place.at ≡ at)

-- the answer for a token at a byte that breaks a rule
abbrev pub fault_at : Code → ℕ → SexpError
fault_at rule at = error.Fault (record { code = rule; at = at })

-- what an atom makes of the open lists
abbrev pub AddsAtom : List (OpenList Tok) → Tok → Result (Unit {0}) SexpError → List Item → List ℕ → Type 0
AddsAtom [] t r is os = (r ≡ Err (fault_at code.AtomOutsideLists t.at)) × Represents [] is os
AddsAtom (f ∷ fs) t (Ok _) is os = Represents (add_sexp (atom t) (f ∷ fs)) is os
AddsAtom (f ∷ fs) t (Err e) is os = (e ≡ error.NoMemory) × Represents (f ∷ fs) is os

-- what an opening parenthesis makes of the open lists
abbrev pub BeginsList : List (OpenList Tok) → ℕ → Result (Unit {0}) SexpError → List Item → List ℕ → Type 0
BeginsList fs at (Ok _) is os = (length fs ≢ MAX_DEPTH) × Represents ((at, nil) ∷ fs) is os
BeginsList fs at (Err error.NoMemory) is os = (length fs ≢ MAX_DEPTH) × Represents fs is os
BeginsList fs at (Err (error.Fault p)) is os = (p ≡ record { code = code.ListsTooDeep; at = at }) × (length fs ≡ MAX_DEPTH) × Represents fs is os

-- what a closing parenthesis makes of the open lists; `true` says that the list was the outermost
abbrev pub EndsList : List (OpenList Tok) → ℕ → Result Bool SexpError → List Item → List ℕ → Type 0
EndsList [] at r is os = (r ≡ Err (fault_at code.UnmatchedClose at)) × Represents [] is os
EndsList (f ∷ []) at r is os = (r ≡ Ok true) × (is ≡ items_from 0 (list f.0 f.1)) × (os ≡ [])
EndsList (f ∷ g ∷ fs) at r is os = (r ≡ Ok false) × Represents (add_sexp (list f.0 f.1) (g ∷ fs)) is os

-- The answer for a token at a byte after those of an unfinished list, with the items and places then.
pub record Takes (before : List (FlatToken Tok)) (next : FlatToken Tok) (at : ℕ) (r : Result (Option (Sexp Tok)) SexpError) (os : List ℕ) (is : List Item) : Type 0 where
  pub represented : AreOpenLists os is
  pub tree : IfOk r (λ o. IfSome o (λ t. IsList t × (flat t ≡ before ++ next ∷ [])))
  pub emptied : IfOk r (λ o. IfSome o (λ t. open_tokens (open_lists os is) ≡ []))
  pub inside : r ≡ Ok None → open_tokens (open_lists os is) ≡ before ++ next ∷ []
  pub fault : IfErr r (IsTreeError before next at)
  pub kept : IfErr r (λ e. open_tokens (open_lists os is) ≡ before)
  pub faulty : (rule : Code) → TreeFault before next rule → r ≡ Err (fault_at rule at)
  pub complete : (a : ℕ) (ts : Sexps Tok) → flat (list a ts) ≡ before ++ next ∷ [] → r ≡ Ok (Some (list a ts))
