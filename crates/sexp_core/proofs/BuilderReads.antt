-- What the answer of a builder says of the tokens that it was given, for a caller that gives them one by one.
use Rattle.std.specs.Prelude.{IfOk, IfSome, IfErr, ⊤}
use Rattle.std.proofs.Common.{◌≡◌, ℕ, List, [], ◌∷◌, ◌++◌, Result, Ok, Err, Option, Some, None, refl, ap, subst}
use Rattle.sig_table.specs.declared.code.Code.{Code}
use Rattle.lex_core.specs.declared.token.Tok.{Tok}
use Rattle.sexp_core.specs.declared.builder.SexpError.{SexpError}
use Rattle.sexp_core.specs.declared.builder.SexpError.TheVariants as error
use Rattle.sexp_core.specs.Sexp.{Sexp, FlatToken, flat}
use Rattle.sexp_core.specs.Reading.{IsUnfinished, TreeFault, IsList, Reads, Breaks}
use Rattle.sexp_core.specs.Builder.{State, fault_at, IsTreeError}
use Rattle.sexp_core.proofs.TokensRead.{reads_more, reads_list}

-- what an answer says of the tokens before it, which read as some lists, and of the next token
abbrev pub ReadsOn : List (FlatToken Tok) → List (Sexp Tok) → FlatToken Tok → ℕ → Result (Option (Sexp Tok)) SexpError → State → Type 0
ReadsOn tokens lists next at (Ok None) new = Reads (tokens ++ next ∷ []) lists new.0 × (new.1 ≡ None)
ReadsOn tokens lists next at (Ok (Some t)) new = Reads (tokens ++ next ∷ []) (lists ++ t ∷ []) new.0 × (new.1 ≡ None)
ReadsOn tokens lists next at (Err error.NoMemory) new = ⊤
ReadsOn tokens lists next at (Err (error.Fault place)) new = Breaks tokens next place.code × (place.at ≡ at)

-- The clauses of `take` on the next token, at a builder that has answered no error.
module _ (tokens : List (FlatToken Tok)) (lists : List (Sexp Tok)) (old new : State) (next : FlatToken Tok) (at : ℕ) where
  pub reads_on : (r : Result (Option (Sexp Tok)) SexpError) → Reads tokens lists old.0 → old.1 ≡ None → IsUnfinished new.0
      → (old.1 ≡ None → IfOk r (λ o. IfSome o (λ t. IsList t × (flat t ≡ old.0 ++ next ∷ []))))
      → (old.1 ≡ None → IfOk r (λ o. IfSome o (λ t. new ≡ ([], None))))
      → (old.1 ≡ None → r ≡ Ok None → new ≡ (old.0 ++ next ∷ [], None))
      → (old.1 ≡ None → IfErr r (IsTreeError old.0 next at))
      → (old.1 ≡ None → (rule : Code) → TreeFault old.0 next rule → r ≡ Err (fault_at rule at))
      → ReadsOn tokens lists next at r new
  reads_on (Ok None) reads fine unfinished tree emptied inside fault faulty =
      let held = inside fine refl in (
        rw (ap (λ (s : State). s.0) held) (reads_more tokens lists old.0 next reads (λ rule h. no rule (faulty fine rule h)) (subst Unfinished held unfinished)),
        ap (λ (s : State). s.1) held,
      )
    where
      Unfinished : State → Type 0
      Unfinished s = IsUnfinished s.0

      no : (rule : Code) → ◌≡◌ {A = Result (Option (Sexp Tok)) SexpError} (Ok None) (Err (fault_at rule at)) → ⊥
      no rule h = cc
  reads_on (Ok (Some t)) reads fine unfinished tree emptied inside fault faulty =
      let whole = tree fine in
      let held = emptied fine in
      (rw (ap (λ (s : State). s.0) held) (reads_list tokens lists old.0 next t reads whole.0 whole.1), ap (λ (s : State). s.1) held)
  reads_on (Err error.NoMemory) reads fine unfinished tree emptied inside fault faulty = tt
  reads_on (Err (error.Fault place)) reads fine unfinished tree emptied inside fault faulty =
      let broken = fault fine in
      (record { lists = lists; unfinished = old.0; reads = reads; fault = broken.0 }, broken.1)
