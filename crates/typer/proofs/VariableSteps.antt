-- What the outcomes of the variables of a quantifier say of the whole.
use Rattle.std.proofs.Common.{◌≡◌, ℕ, List, [], ◌∷◌, Option, Some, None, Result, refl, sym, subst}
use Rattle.judgement.specs.Judging.{well_sorted, ill_sorted}
use Rattle.term_grammar.specs.Syntax as syntax
use Rattle.term_grammar.specs.Syntax.{SortedSymbol}
use Rattle.term_grammar.specs.declared.binder.RawVariable.{RawVariable}
use Rattle.term_grammar.specs.TermViews.{SplitsVariables}
use Rattle.sort_store.specs.Tree.{Sort}
use Rattle.dt_rules.specs.declared.error.TyError.{TyError}
use Rattle.typer.specs.declared.world.World.{World}
use Rattle.typer.specs.Answers.{Answers}
use Rattle.typer.specs.FunctionSymbols.{Signature, signature_of}
use Rattle.typer.specs.TermRules.{judge_sorted, judge_variables}
use Rattle.typer.specs.Typed.{HasGrown}
use Rattle.typer.proofs.ListSteps.{Joins}
use Rattle.typer.proofs.TypedSteps.{same_signature}

-- the variables that are not judged yet
abbrev pub variable_of : RawVariable → SortedSymbol
variable_of v = record { at = v.at; name = v.name; sort = v.sort }

abbrev pub variables_left : Option (RawVariable × List SortedSymbol) → List SortedSymbol
variables_left None = []
variables_left (Some p) = variable_of p.0 ∷ p.1

pub variables_left_is : (vs : List SortedSymbol) (next : Option (RawVariable × List SortedSymbol)) → SplitsVariables vs next → variables_left next ≡ vs
variables_left_is vs None e = sym e
variables_left_is vs (Some p) e = sym e

abbrev pub with_variable : SortedSymbol → List SortedSymbol → List SortedSymbol
with_variable v vs = v ∷ vs

pub joins_variables : (signature : Signature) → Joins with_variable (λ v. judge_sorted signature v.name.name v.sort) (judge_variables signature)
joins_variables signature v rest before (well_sorted ws after) h = h
joins_variables signature v rest before (ill_sorted place) h = h

pub no_variables_left : (signature : Signature) (vs : List SortedSymbol) → vs ≡ [] → (before : List ℕ) → judge_variables signature vs before (well_sorted [] before)
no_variables_left signature vs e before = subst (λ z. judge_variables signature z before (well_sorted [] before)) (sym e) (refl, refl)

pub variable_moved : (old new : World) (name : ℕ) (raw : syntax.Sort) (r : Result (ℕ × Sort) TyError) → HasGrown old new → Answers r (judge_sorted (signature_of new) name raw) → Answers r (judge_sorted (signature_of old) name raw)
variable_moved old new name raw r g h = subst (λ z. Answers r (judge_sorted z name raw)) (same_signature old new g) h
