-- The terms of a `get-value`.
use Rattle.std.proofs.Common.{◌≡◌, ℕ, List, [], ◌∷◌, ◌++◌, map, Option, Some, None, Result, Ok, Err, refl, sym, subst, inl}
use Rattle.judgement.specs.Judging.{Judging, Outcome, ◌>>=◌, done, ill_sorted, well_sorted}
use Rattle.term_grammar.specs.Syntax.{Term, Terms, no_terms, with_term}
use Rattle.term_grammar.specs.TermViews.{SplitsTerms}
use Rattle.cmd_grammar.specs.Commands.{get_value}
use Rattle.term_store.specs.declared.command.TypedCommand.TheVariants as kept
use Rattle.term_store.specs.Command as typed
use Rattle.term_store.specs.Term.{NumberedTerm, PlainTerm, tree}
use Rattle.typer.specs.TermRules.{judge_term, judge_terms}
use Rattle.script_core.specs.declared.scope.StepError.{StepError}
use Rattle.script_core.specs.declared.scope.StepError.TheVariants as error
use Rattle.script_core.specs.Effects.{Meets, MeetsParts, MeetsTerm}
use Rattle.script_core.specs.Environment.{Environment, signature_in}
use Rattle.script_core.specs.RuleAnswers.{terms_left}
use Rattle.script_core.proofs.TakingLists.{Onward, onward_end, onward_fault, onward_part, onward_start}
use Rattle.script_core.proofs.TakingParts.{same_pair}

-- no state goes from one term to the next
abbrev pub all_terms : Environment → Unit {0} → Terms → Judging (List PlainTerm)
all_terms env u ts = judge_terms (signature_in env) [] ts

abbrev pub TermsOnward : Environment → Terms → Terms → List PlainTerm → List ℕ → Type 0
TermsOnward env all left made so_far = Onward (all_terms env) tt all tt left made [] so_far

terms_split : (ts : Terms) (o : Option (Term × Terms)) → SplitsTerms ts o → ts ≡ terms_left o
terms_split ts None e = e
terms_split ts (Some p) e = e

pub terms_start : (env : Environment) (all : Terms) (next : Option (Term × Terms)) (made : List NumberedTerm) (seen : List ℕ) → SplitsTerms all next → made ≡ [] → seen ≡ [] → TermsOnward env all (terms_left next) (map tree made) seen
terms_start env all next made seen split none fresh =
    subst (TermsOnward env all (terms_left next) (map tree made)) (sym fresh) (onward_start tree (all_terms env) tt all (terms_left next) made [] (sym (terms_split all next split)) none)

module _ (env here : Environment) (first : ℕ) (all left : Terms) (t : Term) (rest : Terms) (made : List NumberedTerm) (so_far : List ℕ) (same : here ≡ env) (counted : first ≡ env.next) (is : left ≡ with_term t rest)
    (onward : TermsOnward env all left (map tree made) so_far) where
  abbrev each : Unit {0} → Term → Judging PlainTerm
  each u = judge_term (signature_in env) []

  joins : (o : Outcome (List PlainTerm)) → (each tt t >>= (λ u. all_terms env tt rest >>= (λ us. done (u ∷ us)))) so_far o → all_terms env tt left so_far o
  joins (well_sorted x after) h = subst (λ (ts : Terms). all_terms env tt ts so_far (well_sorted x after)) (sym is) h
  joins (ill_sorted place) h = subst (λ (ts : Terms). all_terms env tt ts so_far (ill_sorted place)) (sym is) h

  term_here : (r : Result NumberedTerm StepError) (after : List ℕ) → MeetsTerm first here [] t r so_far after → MeetsTerm env.next env [] t r so_far after
  term_here r after h = subst (λ (e : Environment). MeetsTerm env.next e [] t r so_far after) same (subst (λ (n : ℕ). MeetsTerm n here [] t r so_far after) counted h)

  pub terms_onward : (next : Option (Term × Terms)) (u : NumberedTerm) (new : List NumberedTerm) (after : List ℕ) → SplitsTerms rest next → MeetsTerm first here [] t (Ok u) so_far after → new ≡ made ++ u ∷ []
      → TermsOnward env all (terms_left next) (map tree new) after
  terms_onward next u new after split h put =
      onward_part tree each (λ s v. tt) (all_terms env) tt all tt left rest t made [] so_far joins onward u new tt (terms_left next) after (term_here (Ok u) after h) put refl (sym (terms_split rest next split))

  pub terms_broken : (at : ℕ) (new : Environment) (e : StepError) (after : List ℕ) → MeetsTerm first here [] t (Err e) so_far after → MeetsParts env at (get_value all) (Err e) new after
  terms_broken at new e after h = broken_terms e (onward_fault tree each (λ s v. tt) (all_terms env) tt all tt left rest t made [] so_far joins onward tree (map tree) e after after (term_here (Err e) after h))
    where
      broken_terms : (e : StepError) → Meets {A = List NumberedTerm} (all_terms env tt all) (map tree) (Err e) [] after → MeetsParts env at (get_value all) (Err e) new after
      broken_terms (error.Broken place) f = inl f
      broken_terms error.NoMemory f = tt

pub terms_taken : (env new : Environment) (at : ℕ) (all left : Terms) (made : List NumberedTerm) (so_far : List ℕ) → left ≡ no_terms → TermsOnward env all left (map tree made) so_far → new ≡ env
    → MeetsParts env at (get_value all) (Ok (kept.GetValue made)) new so_far
terms_taken env new at all left made so_far none onward same = (
  map tree made,
  so_far,
  onward_end tree (all_terms env) tt all tt left made [] so_far (subst (λ (ts : Terms). all_terms env tt ts so_far (well_sorted [] so_far)) (sym none) (refl, refl)) onward,
  (same_pair (typed.get_value (map tree made)) (typed.get_value (map tree made)) new env refl same, refl),
)
