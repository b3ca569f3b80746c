-- What the outcomes of the parts of a term say of the whole.
use Rattle.std.proofs.Common.{◌≡◌, ℕ, suc, ◌+◌, List, [], Option, Some, None, Result, Ok, Err, refl, sym, inl, inr, subst}
use Rattle.judgement.specs.Judging.{Judging, well_sorted, ill_sorted, ◌>>=◌}
use Rattle.term_grammar.specs.Syntax.{Term, application, let_in, for_all, there_exists, match_with, annotated, Terms, no_terms, with_term, Bindings, no_bindings, with_binding, Cases, no_cases, with_case, Notes, no_notes, with_note, Note, pattern_note}
use Rattle.term_grammar.specs.declared.binder.RawBinding.{RawBinding}
use Rattle.term_grammar.specs.declared.pattern.RawCase.{RawCase}
use Rattle.term_grammar.specs.TermViews.{SplitsTerms, SplitsBindings, SplitsCases, SplitsNotes}
use Rattle.sort_store.specs.Tree.{Sort}
use Rattle.term_store.specs.Term.{PlainTerm}
use Rattle.dt_rules.specs.declared.error.TyError.{TyError}
use Rattle.dt_rules.specs.declared.error.TyError.TheVariants as error
use Rattle.typer.specs.Answers.{Answers, Meets}
use Rattle.typer.specs.FunctionSymbols.{Signature}
use Rattle.typer.specs.MatchRules.{Instance}
use Rattle.typer.specs.TermRules.{judge_bindings, judge_cases, judge_note, judge_notes, judge_term, judge_terms}
use Rattle.typer.proofs.ListSteps.{Joins}

-- how many parts a term has, itself among them, as far as they are judged
abbrev mutual
  pub size : Term → ℕ
  size (application at q ts) = suc (suc (sizes ts))
  size (let_in at bs u) = suc (suc (bindings_size bs + size u))
  size (for_all at vs u) = suc (suc (size u))
  size (there_exists at vs u) = suc (suc (size u))
  size (match_with at u cs) = suc (suc (size u + cases_size cs))
  size (annotated at u ns) = suc (suc (size u + notes_size ns))
  size _ = 1

  pub sizes : Terms → ℕ
  sizes no_terms = 0
  sizes (with_term t ts) = suc (size t + sizes ts)

  pub bindings_size : Bindings → ℕ
  bindings_size no_bindings = 0
  bindings_size (with_binding at x t bs) = suc (size t + bindings_size bs)

  pub cases_size : Cases → ℕ
  cases_size no_cases = 0
  cases_size (with_case at p t cs) = suc (suc (size t + cases_size cs))

  pub notes_size : Notes → ℕ
  notes_size no_notes = 0
  notes_size (with_note n ns) = suc (note_size n + notes_size ns)

  pub note_size : Note → ℕ
  note_size (pattern_note ts) = suc (sizes ts)
  note_size _ = 0

-- the terms that are not judged yet
abbrev pub left : Option (Term × Terms) → Terms
left None = no_terms
left (Some p) = with_term p.0 p.1

-- .. so the bindings and the attributes
abbrev pub bindings_left : Option (RawBinding × Bindings) → Bindings
bindings_left None = no_bindings
bindings_left (Some p) = with_binding p.0.at p.0.name p.0.term p.1

abbrev pub cases_left : Option (RawCase × Cases) → Cases
cases_left None = no_cases
cases_left (Some p) = with_case p.0.at p.0.pattern p.0.term p.1

abbrev pub notes_left : Option (Note × Notes) → Notes
notes_left None = no_notes
notes_left (Some p) = with_note p.0 p.1

-- a part with a value, and what follows it
pub first_is : {A B : Type 0} (J : Judging A) (K : A → Judging B) (x : A) (r : Result B TyError) → Answers (Ok x) J → Answers r (K x) → Answers r (J >>= K)
first_is J K x (Ok y) h k = λ before. (x, before, h before, k before)
first_is J K x (Err (error.Fault place)) h k = λ before. inr (x, before, h before, k before)
first_is J K x (Err error.NoMemory) h k = tt

-- a part with a fault
pub first_fails : {A B : Type 0} (J : Judging A) (K : A → Judging B) (e : TyError) → Answers {A = A} (Err e) J → Answers {A = B} (Err e) (J >>= K)
first_fails J K (error.Fault place) h = λ before. inl (h before)
first_fails J K error.NoMemory h = tt

-- .. where the parts may declare names
pub then_is : {A B : Type 0} (J : Judging A) (K : A → Judging B) (x : A) (r : Result B TyError) (before between after : List ℕ) → Meets (Ok x) J before between → Meets r (K x) between after → Meets r (J >>= K) before after
then_is J K x (Ok y) before between after h k = (x, between, h, k)
then_is J K x (Err (error.Fault place)) before between after h k = inr (x, between, h, k)
then_is J K x (Err error.NoMemory) before between after h k = tt

pub then_fails : {A B : Type 0} (J : Judging A) (K : A → Judging B) (e : TyError) (before between after : List ℕ) → Meets {A = A} (Err e) J before between → Meets {A = B} (Err e) (J >>= K) before after
then_fails J K (error.Fault place) before between after h = inl h
then_fails J K error.NoMemory before between after h = tt

-- what declares no name, by either reading
pub meets : {A : Type 0} (r : Result A TyError) (J : Judging A) (before after : List ℕ) → after ≡ before → Answers r J → Meets r J before after
meets (Ok x) J before after e h = subst (λ z. J before (well_sorted x z)) (sym e) (h before)
meets (Err (error.Fault place)) J before after e h = h before
meets (Err error.NoMemory) J before after e h = tt

pub fault_answers : {A : Type 0} (e : TyError) (J : Judging A) → ((before : List ℕ) → Meets {A = A} (Err e) J before before) → Answers {A = A} (Err e) J
fault_answers (error.Fault place) J h = h
fault_answers error.NoMemory J h = tt

pub left_is : (ts : Terms) (next : Option (Term × Terms)) → SplitsTerms ts next → left next ≡ ts
left_is ts None e = sym e
left_is ts (Some p) e = sym e

pub bindings_left_is : (bs : Bindings) (next : Option (RawBinding × Bindings)) → SplitsBindings bs next → bindings_left next ≡ bs
bindings_left_is bs None e = sym e
bindings_left_is bs (Some p) e = sym e

pub cases_left_is : (cs : Cases) (next : Option (RawCase × Cases)) → SplitsCases cs next → cases_left next ≡ cs
cases_left_is cs None e = sym e
cases_left_is cs (Some p) e = sym e

pub notes_left_is : (ns : Notes) (next : Option (Note × Notes)) → SplitsNotes ns next → notes_left next ≡ ns
notes_left_is ns None e = sym e
notes_left_is ns (Some p) e = sym e

-- the rules under a signature and variables
module _ (signature : Signature) (vars : List (ℕ × Sort)) where
  pub joins_terms : Joins with_term (judge_term signature vars) (judge_terms signature vars)
  joins_terms t rest before (well_sorted us after) h = h
  joins_terms t rest before (ill_sorted place) h = h

  pub joins_notes : (u : PlainTerm) → Joins with_note (judge_note signature vars u) (judge_notes signature vars u)
  joins_notes u n rest before (well_sorted ms after) h = h
  joins_notes u n rest before (ill_sorted place) h = h

  pub no_notes_left : (u : PlainTerm) (ns : Notes) → ns ≡ no_notes → (before : List ℕ) → judge_notes signature vars u ns before (well_sorted [] before)
  no_notes_left u ns e before = subst (λ z. judge_notes signature vars u z before (well_sorted [] before)) (sym e) (refl, refl)

  pub no_bindings_left : (others : List ℕ) (bs : Bindings) → bs ≡ no_bindings → (before : List ℕ) → judge_bindings signature vars others bs before (well_sorted [] before)
  no_bindings_left others bs e before = subst (λ z. judge_bindings signature vars others z before (well_sorted [] before)) (sym e) (refl, refl)

  pub no_cases_left : (i : Instance) (s : Sort) (first : Option Sort) (cs : Cases) → cs ≡ no_cases → (before : List ℕ) → judge_cases signature vars i s first cs before (well_sorted [] before)
  no_cases_left i s first cs e before = subst (λ z. judge_cases signature vars i s first z before (well_sorted [] before)) (sym e) (refl, refl)

  pub none_left : (ts : Terms) → ts ≡ no_terms → (before : List ℕ) → judge_terms signature vars ts before (well_sorted [] before)
  none_left ts e before = subst (λ z. judge_terms signature vars z before (well_sorted [] before)) (sym e) (refl, refl)
