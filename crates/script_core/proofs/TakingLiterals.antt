-- Literals, read as terms of sort Bool.
use Rattle.std.proofs.Common.{◌≡◌, ℕ, ◌∷◌, ◌++◌, List, [], map, Option, Some, None, Result, Ok, Err, refl, ap, sym, ◌∙◌, subst, inl}
use Rattle.judgement.specs.Judging.{Judging, Outcome, ◌>>=◌, done, ill_sorted, well_sorted}
use Rattle.term_grammar.specs.Syntax.{Term}
use Rattle.cmd_grammar.specs.Commands.{Literal, check_sat_assuming}
use Rattle.cmd_grammar.specs.DeclarationViews.{literal_term}
use Rattle.cmd_grammar.specs.TreeLists.{SplitsBy}
use Rattle.term_store.specs.declared.command.TypedCommand.TheVariants as kept
use Rattle.term_store.specs.Command as typed
use Rattle.term_store.specs.Term.{NumberedTerm, PlainTerm, tree}
use Rattle.script_core.specs.declared.scope.StepError.{StepError}
use Rattle.script_core.specs.declared.scope.StepError.TheVariants as error
use Rattle.script_core.specs.declared.scope.Scope.{Scope}
use Rattle.script_core.specs.Checking.{environment_of}
use Rattle.script_core.specs.Effects.{IsSameTo, Meets, MeetsParts}
use Rattle.script_core.specs.Environment.{Environment}
use Rattle.script_core.specs.RuleAnswers.{literals_left}
use Rattle.script_core.specs.Rules.{judge_bool, judge_literals}
use Rattle.script_core.proofs.TakingLists.{Onward, onward_end, onward_fault, onward_part, onward_start}
use Rattle.script_core.proofs.TakingParts.{same_pair}

-- no state goes from one literal to the next
abbrev pub all_literals : Environment → Unit {0} → List Literal → Judging (List PlainTerm)
all_literals env u ls = judge_literals env ls

abbrev pub LiteralsOnward : Environment → List Literal → List Literal → List PlainTerm → List ℕ → Type 0
LiteralsOnward env all left made so_far = Onward (all_literals env) tt all tt left made [] so_far

literals_split : (ls : List Literal) (o : Option (Literal × List Literal)) → SplitsBy (λ l. l) ls o → ls ≡ literals_left o
literals_split ls None e = e
literals_split ls (Some p) e = e

-- no literal is judged yet
pub literals_start : (env : Environment) (all : List Literal) (next : Option (Literal × List Literal)) (made : List NumberedTerm) (seen : List ℕ) → SplitsBy (λ l. l) all next → made ≡ [] → seen ≡ []
    → LiteralsOnward env all (literals_left next) (map tree made) seen
literals_start env all next made seen split none fresh =
    subst (LiteralsOnward env all (literals_left next) (map tree made)) (sym fresh) (onward_start tree (all_literals env) tt all (literals_left next) made [] (sym (literals_split all next split)) none)

-- A literal among those that are left, as a term, where what is judged of those that are left is judged of all.
module _ (env here : Environment) (all left : List Literal) (l : Literal) (rest : List Literal) (t : Term) (made : List NumberedTerm) (so_far : List ℕ) (same : here ≡ env) (is : left ≡ l ∷ rest) (read : t ≡ literal_term l)
    (onward : LiteralsOnward env all left (map tree made) so_far) where
  abbrev each : Unit {0} → Literal → Judging PlainTerm
  each u l = judge_bool env (literal_term l)

  joins : (o : Outcome (List PlainTerm)) → (each tt l >>= (λ u. all_literals env tt rest >>= (λ us. done (u ∷ us)))) so_far o → all_literals env tt left so_far o
  joins (well_sorted x after) h = subst (λ (ls : List Literal). all_literals env tt ls so_far (well_sorted x after)) (sym is) h
  joins (ill_sorted place) h = subst (λ (ls : List Literal). all_literals env tt ls so_far (ill_sorted place)) (sym is) h

  judged_here : (r : Result NumberedTerm StepError) (after : List ℕ) → Meets (judge_bool here t) tree r so_far after → Meets (judge_bool env (literal_term l)) tree r so_far after
  judged_here r after h = subst (λ (e : Environment). Meets (judge_bool e (literal_term l)) tree r so_far after) same (subst (λ (u : Term). Meets (judge_bool here u) tree r so_far after) read h)

  -- it is of sort Bool
  pub literals_onward : (next : Option (Literal × List Literal)) (u : NumberedTerm) (new : List NumberedTerm) (after : List ℕ) → SplitsBy (λ l. l) rest next → Meets (judge_bool here t) tree (Ok u) so_far after → new ≡ made ++ u ∷ []
      → LiteralsOnward env all (literals_left next) (map tree new) after
  literals_onward next u new after split h put =
      onward_part tree each (λ s v. tt) (all_literals env) tt all tt left rest l made [] so_far joins onward u new tt (literals_left next) after (judged_here (Ok u) after h) put refl (sym (literals_split rest next split))

  -- it breaks a rule
  pub literals_broken : (at : ℕ) (new : Environment) (e : StepError) (after : List ℕ) → Meets (judge_bool here t) tree (Err e) so_far after → MeetsParts env at (check_sat_assuming all) (Err e) new after
  literals_broken at new e after h =
      broken_literals e (onward_fault tree each (λ s v. tt) (all_literals env) tt all tt left rest l made [] so_far joins onward tree (map tree) e after after (judged_here (Err e) after h))
    where
      broken_literals : (e : StepError) → Meets {A = List NumberedTerm} (all_literals env tt all) (map tree) (Err e) [] after → MeetsParts env at (check_sat_assuming all) (Err e) new after
      broken_literals (error.Broken place) f = inl f
      broken_literals error.NoMemory f = tt

-- all literals are judged
pub literals_taken : (env new : Environment) (at : ℕ) (all left : List Literal) (made : List NumberedTerm) (so_far : List ℕ) → left ≡ [] → LiteralsOnward env all left (map tree made) so_far → new ≡ env
    → MeetsParts env at (check_sat_assuming all) (Ok (kept.CheckSatAssuming made)) new so_far
literals_taken env new at all left made so_far none onward same = (
  map tree made,
  so_far,
  onward_end tree (all_literals env) tt all tt left made [] so_far (subst (λ (ls : List Literal). all_literals env tt ls so_far (well_sorted [] so_far)) (sym none) (refl, refl)) onward,
  (same_pair (typed.check_sat_assuming (map tree made)) (typed.check_sat_assuming (map tree made)) new env refl same, refl),
)

-- the environment under the names of before, where nothing has changed that the rules look at
pub env_at : (names : List (List ℕ)) (old new : Scope) → names ≡ old.world.names → IsSameTo old new → environment_of names new ≡ environment_of names old
env_at names old new e same =
    ap (λ (ns : List (List ℕ)). environment_of ns new) (e ∙ sym (ap (λ (v : Environment). v.names) same)) ∙ (same ∙ ap (λ (ns : List (List ℕ)). environment_of ns old) (sym e))
