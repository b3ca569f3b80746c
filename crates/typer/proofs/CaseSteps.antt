-- What the outcomes of the parts of a match say of the whole.
use Rattle.std.proofs.Common.{Bor, ◌≡◌, ℕ, true, List, [], ◌∷◌, ◌++◌, map, Option, Some, None, Result, Ok, Err, ap, inl, refl, sym, ◌∙◌, subst}
use Rattle.std.proofs.lemmas.List.{map-append}
use Rattle.std.specs.Option.{IfSome, IsSome, is_some, option_copied, option_map}
use Rattle.judgement.specs.Judging.{Judging, well_sorted, ill_sorted, check, done, find, ◌>>=◌}
use Rattle.sig_table.specs.declared.code.Code.TheVariants.{MatchOnNonDatatype, WrongBranchSort}
use Rattle.term_grammar.specs.Syntax as syntax
use Rattle.term_grammar.specs.Syntax.{Cases, with_case, term_at}
use Rattle.sort_store.specs.Interned as sorts
use Rattle.sort_store.specs.Tree.{Sort, NumberedSort}
use Rattle.sort_store.specs.Tree as sort_tree
use Rattle.term_store.specs.Interned as terms
use Rattle.term_store.specs.NumberedNodes as numbered
use Rattle.term_store.specs.Term.{NumberedTerm, PlainTerm, plain_sort, tree}
use Rattle.term_store.specs.declared.parts.Pattern.{Pattern}
use Rattle.term_store.proofs.InternedTerms as term_stores
use Rattle.dt_rules.specs.declared.error.TyError.{TyError}
use Rattle.typer.specs.declared.typed.TypedCase.{TypedCase}
use Rattle.typer.specs.declared.typed.TypedCases.{TypedCases}
use Rattle.typer.specs.declared.world.World.{World}
use Rattle.typer.specs.Answers.{Meets, fault_at}
use Rattle.typer.specs.FunctionSymbols.{Signature}
use Rattle.typer.specs.MatchRules.{Instance, IsBranchSort, instance_of, judge_typed_pattern, pattern_variables}
use Rattle.typer.specs.SortSymbols.{or_else}
use Rattle.typer.specs.TermRules.{Case, first_sort, judge_case, judge_cases, judge_covered, judge_term}
use Rattle.typer.specs.Typed.{AreTypedCases, HasElaborated, IsTyped, case_tree, case_trees}
use Rattle.typer.proofs.ListSteps.{Begins, Leads, leads_fault, leads_on}
use Rattle.typer.proofs.TermSteps.{then_fails, then_is}
use Rattle.typer.proofs.TypedSteps.{asked_kept}

pub some_by : {X : Type 0} (o : Option X) (P : X → Type 0) → ((x : X) → o ≡ Some x → P x) → IfSome o P
some_by (Some x) P h = h x refl
some_by None P h = tt

pub at_found : {X : Type 0} (o : Option X) (P : X → Type 0) (x : X) → o ≡ Some x → IfSome o P → P x
at_found o P x e h = subst (λ z. IfSome z P) e h

-- what is found, where the code finds something that stands for it
pub found_some : {X Y Z : Type 0} (f : X → Z) (g : Y → Z) (o : Option X) (found : Option Y) → option_map f o ≡ option_map g found → is_some o ≡ true → (y : Y) × (found ≡ Some y)
found_some f g (Some x) (Some y) e h = (y, refl)
found_some f g (Some x) None e h = cc
found_some f g None found e h = cc

pub is_some_found : {X : Type 0} (o : Option X) (x : X) → o ≡ Some x → IsSome o
is_some_found (Some y) x e = refl
is_some_found None x e = cc

pub copied_some : {X : Type 0} (o : Option (Bor X)) → is_some (option_copied o) ≡ is_some o
copied_some (Some x) = refl
copied_some None = refl

-- a case
module _ (i : Instance) (s : Sort) (first : Option Sort) (p : syntax.Pattern) (at : ℕ) (branch : List (ℕ × Sort) → Judging PlainTerm) (before : List ℕ) where
  abbrev checked : Pattern → PlainTerm → Judging Case
  checked q u = check (IsBranchSort first (plain_sort u)) WrongBranchSort at >>= (λ _. done (q, u))

  abbrev with_branch : Pattern → Judging Case
  with_branch q = branch (pattern_variables i s q) >>= checked q

  pub case_pattern_fails : (e : TyError) (between after : List ℕ) → Meets {A = Pattern} (Err e) (judge_typed_pattern i p) before between → Meets {A = Case} (Err e) (judge_case i s first p at branch) before after
  case_pattern_fails e between after h = then_fails (judge_typed_pattern i p) with_branch e before between after h

  module _ (q : Pattern) (between after : List ℕ) (h : Meets (Ok q) (judge_typed_pattern i p) before between) where
    pub case_branch_fails : (e : TyError) → Meets {A = PlainTerm} (Err e) (branch (pattern_variables i s q)) between after → Meets {A = Case} (Err e) (judge_case i s first p at branch) before after
    case_branch_fails e k = then_is (judge_typed_pattern i p) with_branch q (Err e) before between after h (then_fails (branch (pattern_variables i s q)) (checked q) e between after after k)

    module _ (u : PlainTerm) (k : Meets (Ok u) (branch (pattern_variables i s q)) between after) where
      pub case_of_other : (IsBranchSort first (plain_sort u) → ⊥) → Meets {A = Case} (Err (fault_at WrongBranchSort at)) (judge_case i s first p at branch) before after
      case_of_other n =
          then_is (judge_typed_pattern i p) with_branch q (Err (fault_at WrongBranchSort at)) before between after h
          (then_is (branch (pattern_variables i s q)) (checked q) u (Err (fault_at WrongBranchSort at)) between after after k (inl (n, refl)))

      pub case_is : IsBranchSort first (plain_sort u) → Meets (Ok (q, u)) (judge_case i s first p at branch) before after
      case_is fits =
          then_is (judge_typed_pattern i p) with_branch q (Ok (q, u)) before between after h
          (then_is (branch (pattern_variables i s q)) (checked q) u (Ok (q, u)) between after after k (tt, after, (fits, refl), (refl, refl)))

-- cases as the code makes them
cases_push : (old new : TypedCases) (c : TypedCase) → new.cases.items ≡ old.cases.items ++ (c.pattern, c.branch.term) ∷ [] → case_trees new ≡ case_trees old ++ case_tree c ∷ []
cases_push old new c e =
    ap (map (λ (k : Pattern × NumberedTerm). (k.0, tree k.1))) e ∙ map-append (λ (k : Pattern × NumberedTerm). (k.0, tree k.1)) old.cases.items ((c.pattern, c.branch.term) ∷ [])

first_push : (o : Option NumberedSort) (r : NumberedSort) → option_map sort_tree.tree (or_else o (Some r)) ≡ or_else (option_map sort_tree.tree o) (Some (sort_tree.tree r))
first_push (Some s) r = refl
first_push None r = refl

pub sort_push : (world : World) (old new : TypedCases) (c : TypedCase) → new.sort ≡ or_else old.sort (Some c.branch.sort) → IsTyped world c.branch → option_map sort_tree.tree new.sort ≡ or_else (option_map sort_tree.tree old.sort) (Some (plain_sort (tree c.branch.term)))
sort_push world old new c e h = ap (option_map sort_tree.tree) e ∙ first_push old.sort c.branch.sort ∙ ap (λ s. or_else (option_map sort_tree.tree old.sort) (Some s)) h.same

first_of_more : (cs : List Case) (c : Case) → or_else (first_sort cs) (Some (plain_sort c.1)) ≡ first_sort (cs ++ c ∷ [])
first_of_more [] c = refl
first_of_more (d ∷ cs) c = refl

sort_interned : (store : List Sort) (o : Option NumberedSort) (r : NumberedSort) → IfSome o (sorts.IsInterned store) → sorts.IsInterned store r → IfSome (or_else o (Some r)) (sorts.IsInterned store)
sort_interned store (Some s) r h k = h
sort_interned store None r h k = k

branches_push : (store : List PlainTerm) (cs : List (Pattern × NumberedTerm)) (c : Pattern × NumberedTerm) → terms.AreCasesInterned store (numbered.cases cs) → terms.IsInterned store c.1 → terms.AreCasesInterned store (numbered.cases (cs ++ c ∷ []))
branches_push store [] c h k = (k, tt)
branches_push store (d ∷ cs) c h k = (h.0, branches_push store cs c h.1 k)

pub no_typed_cases : (world : World) (typed : TypedCases) → typed.cases.items ≡ [] → typed.sort ≡ None → AreTypedCases world typed
no_typed_cases world typed e f = record {
  branches = subst (λ z. terms.AreCasesInterned world.terms (numbered.cases z)) (sym e) tt;
  sort = subst (λ z. IfSome z (sorts.IsInterned world.sorts)) (sym f) tt;
  first = ap (option_map sort_tree.tree) f ∙ sym (ap (λ z. first_sort (map (λ (k : Pattern × NumberedTerm). (k.0, tree k.1)) z)) e);
}

pub typed_cases_push : (world : World) (old new : TypedCases) (c : TypedCase) → new.cases.items ≡ old.cases.items ++ (c.pattern, c.branch.term) ∷ [] → new.sort ≡ or_else old.sort (Some c.branch.sort) → IsTyped world c.branch → AreTypedCases world old
    → AreTypedCases world new
typed_cases_push world old new c e f h typed = record {
  branches = subst (λ z. terms.AreCasesInterned world.terms (numbered.cases z)) (sym e) (branches_push world.terms old.cases.items (c.pattern, c.branch.term) typed.branches h.term);
  sort = subst (λ z. IfSome z (sorts.IsInterned world.sorts)) (sym f) (sort_interned world.sorts old.sort c.branch.sort typed.sort h.sort);
  first = sort_push world old new c f h ∙ ap (λ o. or_else o (Some (plain_sort (tree c.branch.term)))) typed.first ∙ first_of_more (case_trees old) (case_tree c) ∙ sym (ap first_sort (cases_push old new c e));
}

module _ (old new : World) (elaborated : HasElaborated old new) where
  pub typed_cases_kept : (typed : TypedCases) → AreTypedCases old typed → AreTypedCases new typed
  typed_cases_kept typed h = record {
    branches = subst (λ z. terms.AreCasesInterned z (numbered.cases typed.cases.items)) (sym elaborated.terms.1) (term_stores.cases_interned_append old.terms elaborated.terms.0 (numbered.cases typed.cases.items) h.branches);
    sort = asked_kept old new elaborated typed.sort h.sort;
    first = h.first;
  }

-- one more case
module _ (signature : Signature) (vars : List (ℕ × Sort)) (i : Instance) (s : Sort) (raws left rest : Cases) (at : ℕ) (p : syntax.Pattern) (raw : syntax.Term) (old : TypedCases) (start so_far : List ℕ) (shown : left ≡ with_case at p raw rest)
    (leads : Leads (judge_cases signature vars i s None raws) (judge_cases signature vars i s (option_map sort_tree.tree old.sort) left) (case_trees old) start so_far) where
  abbrev whole : Judging (List Case)
  whole = judge_cases signature vars i s None raws

  abbrev first : Option Sort
  first = option_map sort_tree.tree old.sort

  abbrev this : Judging Case
  this = judge_case i s first p (term_at raw) (λ own. judge_term signature (vars ++ own) raw)

  abbrev others : Case → Judging (List Case)
  others c = judge_cases signature vars i s (or_else first (Some (plain_sort c.1))) rest

  begins : Begins (judge_cases signature vars i s first left) this others
  begins before o h = subst (λ z. judge_cases signature vars i s first z before o) (sym shown) (same before o h)
    where
      same : Begins (judge_cases signature vars i s first (with_case at p raw rest)) this others
      same before (well_sorted cs after) h = h
      same before (ill_sorted place) h = h

  pub case_fails : (e : TyError) (later after : List ℕ) → Meets {A = Case} (Err e) this so_far later → Meets {A = List Case} (Err e) whole start after
  case_fails e later after h = leads_fault whole (judge_cases signature vars i s first left) this others (case_trees old) start so_far begins leads e later after h

  pub case_step : (world : World) (next : Cases) (new : TypedCases) (c : TypedCase) (later : List ℕ) → next ≡ rest → new.cases.items ≡ old.cases.items ++ (c.pattern, c.branch.term) ∷ [] → new.sort ≡ or_else old.sort (Some c.branch.sort) → IsTyped world c.branch
      → Meets (Ok (case_tree c)) this so_far later → Leads whole (judge_cases signature vars i s (option_map sort_tree.tree new.sort) next) (case_trees new) start later
  case_step world next new c later e put sort typed h =
      subst (λ z. Leads whole (judge_cases signature vars i s (option_map sort_tree.tree new.sort) z) (case_trees new) start later) (sym e)
      (subst (λ z. Leads whole (judge_cases signature vars i s z rest) (case_trees new) start later) (sym (sort_push world old new c sort typed))
      (subst (λ z. Leads whole (judge_cases signature vars i s (or_else first (Some (plain_sort (tree c.branch.term)))) rest) z start later) (sym (cases_push old new c put))
      (leads_on whole (judge_cases signature vars i s first left) this others (case_trees old) start so_far begins leads (case_tree c) later h)))

-- a match
module _ (signature : Signature) (vars : List (ℕ × Sort)) (at : ℕ) (u : syntax.Term) (cs : Cases) (before : List ℕ) where
  abbrev with_cases : PlainTerm → Instance → Judging PlainTerm
  with_cases v i = judge_cases signature vars i (plain_sort v) None cs >>= (λ ds. judge_covered at i.0 v ds)

  abbrev with_instance : PlainTerm → Judging PlainTerm
  with_instance v = find (λ i. instance_of signature.datatypes (plain_sort v) ≡ Some i) MatchOnNonDatatype (term_at u) >>= with_cases v

  pub match_fails : (e : TyError) (between after : List ℕ) → Meets {A = PlainTerm} (Err e) (judge_term signature vars u) before between → Meets {A = PlainTerm} (Err e) (judge_term signature vars (syntax.match_with at u cs)) before after
  match_fails e between after h = then_fails (judge_term signature vars u) with_instance e before between after h

  module _ (v : PlainTerm) (between : List ℕ) (h : Meets (Ok v) (judge_term signature vars u) before between) where
    pub match_of_other : (after : List ℕ) → instance_of signature.datatypes (plain_sort v) ≡ None → Meets {A = PlainTerm} (Err (fault_at MatchOnNonDatatype (term_at u))) (judge_term signature vars (syntax.match_with at u cs)) before after
    match_of_other after none = then_is (judge_term signature vars u) with_instance v (Err (fault_at MatchOnNonDatatype (term_at u))) before between after h (inl ((λ i e. cc), refl))

    module _ (i : Instance) (its : instance_of signature.datatypes (plain_sort v) ≡ Some i) where
      abbrev rule : Judging Instance
      rule = find (λ i. instance_of signature.datatypes (plain_sort v) ≡ Some i) MatchOnNonDatatype (term_at u)

      with_found : (r : Result PlainTerm TyError) (after : List ℕ) → Meets r (with_cases v i) between after → Meets r (judge_term signature vars (syntax.match_with at u cs)) before after
      with_found r after k = then_is (judge_term signature vars u) with_instance v r before between after h (then_is rule (with_cases v) i r between between after (its, refl) k)

      pub match_cases_fail : (e : TyError) (later after : List ℕ) → Meets {A = List Case} (Err e) (judge_cases signature vars i (plain_sort v) None cs) between later → Meets {A = PlainTerm} (Err e) (judge_term signature vars (syntax.match_with at u cs)) before after
      match_cases_fail e later after k = with_found (Err e) after (then_fails (judge_cases signature vars i (plain_sort v) None cs) (λ ds. judge_covered at i.0 v ds) e between later after k)

      pub match_is : (ds : List Case) (r : Result PlainTerm TyError) (later after : List ℕ) → Meets (Ok ds) (judge_cases signature vars i (plain_sort v) None cs) between later → Meets r (judge_covered at i.0 v ds) later after
          → Meets r (judge_term signature vars (syntax.match_with at u cs)) before after
      match_is ds r later after k l = with_found r after (then_is (judge_cases signature vars i (plain_sort v) None cs) (λ ds. judge_covered at i.0 v ds) ds r between later after k l)
