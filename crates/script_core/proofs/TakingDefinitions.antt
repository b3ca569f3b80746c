-- What the parts of a definition lead to, from what the calls answer.
use Rattle.std.proofs.Common.{◌≡◌, ◌↔◌, ℕ, zero, suc, ◌==◌, ◌||◌, Bool, true, false, List, [], ◌∷◌, ◌++◌, map, slice_index_or, IsTrue, Option, Some, None, Result, Ok, Err, refl, ap, sym, ◌∙◌, subst, inl, inr, arith}
use Rattle.std.specs.List.{All, list_any}
use Rattle.std.proofs.lemmas.Bool.{false≢true}
use Rattle.std.proofs.lemmas.List.{map-append}
use Rattle.std.proofs.lemmas.List.Elements.{All-push}
use Rattle.lex_core.specs.declared.token.Tok.{Tok}
use Rattle.judgement.specs.Judging.{Judging, Outcome, ◌>>=◌, done, ill_sorted, well_sorted}
use Rattle.sig_table.specs.declared.code.Code.TheVariants as code
use Rattle.sort_store.specs.declared.head.DeclNo.{DeclNo}
use Rattle.sort_store.specs.Interned.{AllInterned, Grows}
use Rattle.sort_store.specs.Tree.{NumberedSort}
use Rattle.sort_store.specs.Tree as sorts
use Rattle.sort_store.proofs.GrownStores.{grows_more}
use Rattle.term_grammar.specs.Syntax as syntax
use Rattle.term_grammar.specs.Syntax.{SortedSymbol, Term, term_at}
use Rattle.term_grammar.specs.TermViews.{SplitsVariables}
use Rattle.term_grammar.specs.declared.binder.RawVariable.{RawVariable}
use Rattle.term_store.specs.Command.{plain_def}
use Rattle.term_store.specs.Command as typed
use Rattle.term_store.specs.declared.command.Def.{Def}
use Rattle.term_store.specs.declared.command.TypedCommand.TheVariants as kept
use Rattle.term_store.specs.Term.{NumberedTerm, plain_sort, plain_var, sort_of, term}
use Rattle.term_store.specs.Term as terms
use Rattle.typer.specs.FunctionSymbols.{is_fun_in_use}
use Rattle.typer.specs.Ready.{IsReadySchema}
use Rattle.typer.specs.Typed.{AreBound}
use Rattle.typer.proofs.ReadyKept.{schema_grown}
use Rattle.cmd_grammar.specs.Commands.{FunDef, define_fun, define_fun_rec}
use Rattle.cmd_grammar.specs.DeclarationViews.{variable_seen}
use Rattle.script_core.specs.declared.scope.Scope.{Scope}
use Rattle.script_core.specs.declared.scope.StepError.{StepError}
use Rattle.script_core.specs.declared.scope.StepError.TheVariants as error
use Rattle.script_core.specs.Checking.{environment_of}
use Rattle.script_core.specs.declared.definitions.FunHeader.{FunHeader}
use Rattle.script_core.specs.Effects.{Answers, AnswersSort, AreReadyVars, BeginsNames, DeclaresNoName, IsReadyHeader, IsSameTo, Meets, MeetsParts, MeetsTerm, OnlySortsGrow, first_of, plain_header, seen_by}
use Rattle.script_core.specs.Environment.{Environment, signature_in}
use Rattle.script_core.specs.RuleAnswers.{variables_left}
use Rattle.script_core.specs.Rules.{Header, defined, judge_body, judge_header, judge_variable, judge_variables, with_function, with_header}
use Rattle.script_core.proofs.TakingLists.{Onward, onward_end, onward_fault, onward_part}
use Rattle.script_core.proofs.TakingParts.{here_env, number_kept, same_pair, schemas_later}

-- the names and the sorts of variables
pub names_of_vars : (vars : List (ℕ × NumberedSort)) → map (λ v. v.0) (map plain_var vars) ≡ map (λ v. v.0) vars
names_of_vars [] = refl
names_of_vars (v ∷ vars) = ap (λ ns. v.0 ∷ ns) (names_of_vars vars)

pub sorts_of_vars : (vars : List (ℕ × NumberedSort)) → map sorts.tree (map (λ v. v.1) vars) ≡ map (λ v. v.1) (map plain_var vars)
sorts_of_vars [] = refl
sorts_of_vars (v ∷ vars) = ap (λ ss. sorts.tree v.1 ∷ ss) (sorts_of_vars vars)

pub any_name : (vars : List (ℕ × NumberedSort)) (name : ℕ) → list_any (λ v. v.0 == name) vars ≡ list_any (λ n. n == name) (map (λ v. v.0) vars)
any_name [] name = refl
any_name (v ∷ vars) name = ap (λ b. (v.0 == name) || b) (any_name vars name)

pub variables_split : (vs : List SortedSymbol) (o : Option (RawVariable × List SortedSymbol)) → SplitsVariables vs o → vs ≡ variables_left o
variables_split vs None e = e
variables_split vs (Some p) e = e

-- one more variable may stand in a declaration
pub vars_ready : (old new : Scope) (vars more : List (ℕ × NumberedSort)) (v : ℕ × NumberedSort) → OnlySortsGrow old new → AreReadyVars old vars → IsReadySchema new.world.names new.world.sorts 0 v.1 → more ≡ vars ++ v ∷ [] → AreReadyVars new more
vars_ready old new vars more v grown ready one put =
    subst (AreReadyVars new) (sym put) (subst (λ (rs : List NumberedSort). All (IsReadySchema new.world.names new.world.sorts 0) rs) (sym (map-append (λ (w : ℕ × NumberedSort). w.1) vars (v ∷ [])))
    (All-push (IsReadySchema new.world.names new.world.sorts 0) (map (λ (w : ℕ × NumberedSort). w.1) vars) v.1 (schemas_later old new (map (λ (w : ℕ × NumberedSort). w.1) vars) grown ready) one))

-- what has grown once and once more
pub grows_on : (old mid new : Scope) → OnlySortsGrow old mid → OnlySortsGrow mid new → OnlySortsGrow old new
grows_on old mid new g k = record {
  others = k.others ∙ ap (λ (s : Scope). record s { world = record s.world { sorts = new.world.sorts } }) g.others;
  grows = grows_more old.world.sorts mid.world.sorts new.world.sorts g.grows k.grows;
}

sort_at : (u : NumberedTerm) → sorts.tree (sort_of u) ≡ plain_sort (terms.tree u)
sort_at (term k s x) = refl

-- A body, in which the parameters of its header are bound, breaks a rule or is of another sort.
module _ (first : ℕ) (env : Environment) (h : FunHeader) (t : Term) (vars : List (ℕ × NumberedSort)) (before after : List ℕ) (shown : vars ≡ h.params) where
  pub body_fault : (e : StepError) → MeetsTerm first env (map plain_var vars) t (Err e) before after → Meets (judge_body first env (plain_header h) t) terms.tree (Err e) before after
  body_fault (error.Broken place) f = inl (subst (λ (vs : List (ℕ × NumberedSort)). MeetsTerm first env (map plain_var vs) t (Err (error.Broken place)) before after) shown f)
  body_fault error.NoMemory f = tt

  pub body_wrong : (u : NumberedTerm) (at : ℕ) (same : Bool) (s : NumberedSort) → MeetsTerm first env (map plain_var vars) t (Ok u) before after → s ≡ sort_of u → (IsTrue same ↔ (sorts.tree s ≡ sorts.tree h.result)) → same ≡ false → at ≡ term_at t
      → Meets (judge_body first env (plain_header h) t) terms.tree (Err (error.Broken (record { code = code.WrongTermSort; at = at }))) before after
  body_wrong u at same s f sorted told other here =
      inr (
        terms.tree u,
        after,
        subst (λ (vs : List (ℕ × NumberedSort)). MeetsTerm first env (map plain_var vs) t (Ok u) before after) shown f,
        inl ((λ e. false≢true (sym other ∙ told.1 (ap sorts.tree sorted ∙ (sort_at u ∙ e)))), ap (λ (n : ℕ). record { code = code.WrongTermSort; at = n }) here),
      )

-- the function of a header is live
pub header_live : (env new : Environment) (h : FunHeader) (vars : List (ℕ × NumberedSort)) (args : List NumberedSort) (result : NumberedSort) → vars ≡ h.params → args ≡ map (λ v. v.1) vars → result ≡ h.result
    → new ≡ with_function env h.name (map sorts.tree args) (sorts.tree result) → new ≡ with_header env (plain_header h)
header_live env new h vars args result shown copied same effect =
    effect ∙ (ap (λ (rs : List NumberedSort). with_function env h.name (map sorts.tree rs) (sorts.tree result)) (copied ∙ ap (λ (vs : List (ℕ × NumberedSort)). map (λ v. v.1) vs) shown)
    ∙ (ap (λ (r : NumberedSort). with_function env h.name (map sorts.tree (map (λ v. v.1) h.params)) (sorts.tree r)) same
    ∙ ap (λ (ss : List sorts.Sort). with_function env h.name ss (sorts.tree h.result)) (sorts_of_vars h.params)))

-- A parameter is repeated, or has no sort, or has one.
module _ (env : Environment) (before : List (ℕ × NumberedSort)) (v : SortedSymbol) (repeated : Bool) (told : repeated ≡ list_any (λ w. w.0 == v.name.name) before) where
  pub variable_repeated : repeated ≡ true → Answers (judge_variable env (map (λ w. w.0) before) v) plain_var (Err (error.Broken (record { code = code.RepeatedVariable; at = v.name.at })))
  variable_repeated is = inl ((λ h. false≢true (sym h ∙ (sym (any_name before v.name.name) ∙ (sym told ∙ is)))), refl)

  is_fresh : repeated ≡ false → list_any (λ n. n == v.name.name) (map (λ w. w.0) before) ≡ false
  is_fresh is = sym (any_name before v.name.name) ∙ (sym told ∙ is)

  pub variable_fault : repeated ≡ false → (e : StepError) → AnswersSort env [] v.sort (Err e) → Answers (judge_variable env (map (λ w. w.0) before) v) plain_var (Err e)
  variable_fault is (error.Broken place) h = inr (tt, [], (is_fresh is, refl), inl h)
  variable_fault is error.NoMemory h = tt

  pub variable_right : repeated ≡ false → (s : NumberedSort) → AnswersSort env [] v.sort (Ok s) → Answers (judge_variable env (map (λ w. w.0) before) v) plain_var (Ok (v.name.name, s))
  variable_right is s h = (tt, [], (is_fresh is, refl), (sorts.tree s, [], h, (refl, refl)))

-- all variables are judged
pub variables_taken : (env : Environment) (params left : List SortedSymbol) (vars : List (ℕ × NumberedSort)) → left ≡ [] → Onward (judge_variables env) [] params (map (λ w. w.0) vars) left (map plain_var vars) [] []
    → judge_variables env [] params [] (well_sorted (map plain_var vars) [])
variables_taken env params left vars none onward =
    onward_end plain_var (judge_variables env) [] params (map (λ w. w.0) vars) left vars [] [] (subst (λ (ps : List SortedSymbol). judge_variables env (map (λ w. w.0) vars) ps [] (well_sorted [] [])) (sym none) (refl, refl)) onward

-- A variable among those that are left.
module _ (old here : Scope) (params left : List SortedSymbol) (first : RawVariable) (rest : List SortedSymbol) (vars shown : List (ℕ × NumberedSort)) (is : left ≡ variable_seen first ∷ rest) (seen : shown ≡ vars)
    (grown : OnlySortsGrow old here) (onward : Onward (judge_variables (environment_of old.world.names old)) [] params (map (λ w. w.0) vars) left (map plain_var vars) [] []) where
  abbrev old_env : Environment
  old_env = environment_of old.world.names old

  abbrev each : List ℕ → SortedSymbol → Judging (ℕ × sorts.Sort)
  each = judge_variable old_env

  abbrev later : List ℕ → ℕ × sorts.Sort → List ℕ
  later before v = before ++ v.0 ∷ []

  joins : (o : Outcome (List (ℕ × sorts.Sort))) → (each (map (λ w. w.0) vars) (variable_seen first) >>= (λ v. judge_variables old_env (later (map (λ w. w.0) vars) v) rest >>= (λ vs. done (v ∷ vs)))) [] o
      → judge_variables old_env (map (λ w. w.0) vars) left [] o
  joins (well_sorted x after) h = subst (λ (ps : List SortedSymbol). judge_variables old_env (map (λ w. w.0) vars) ps [] (well_sorted x after)) (sym is) h
  joins (ill_sorted place) h = subst (λ (ps : List SortedSymbol). judge_variables old_env (map (λ w. w.0) vars) ps [] (ill_sorted place)) (sym is) h

  judged_here : (r : Result (ℕ × NumberedSort) StepError) → Answers (judge_variable (environment_of here.world.names here) (map (λ w. w.0) shown) (variable_seen first)) plain_var r
      → Answers (each (map (λ w. w.0) vars) (variable_seen first)) plain_var r
  judged_here r h =
      subst (λ (ws : List (ℕ × NumberedSort)). Answers (each (map (λ w. w.0) ws) (variable_seen first)) plain_var r) seen
      (subst (λ (e : Environment). Answers (judge_variable e (map (λ w. w.0) shown) (variable_seen first)) plain_var r) (here_env old here grown) h)

  pub variables_onward : (v : ℕ × NumberedSort) (new : List (ℕ × NumberedSort)) (next : Option (RawVariable × List SortedSymbol)) → Answers (judge_variable (environment_of here.world.names here) (map (λ w. w.0) shown) (variable_seen first)) plain_var (Ok v)
      → new ≡ vars ++ v ∷ [] → SplitsVariables rest next → Onward (judge_variables old_env) [] params (map (λ w. w.0) new) (variables_left next) (map plain_var new) [] []
  variables_onward v new next h put split =
      onward_part plain_var each later (judge_variables old_env) [] params (map (λ w. w.0) vars) left rest (variable_seen first) vars [] [] joins onward v new (map (λ w. w.0) new) (variables_left next) []
      (judged_here (Ok v) h) put (ap (map (λ w. w.0)) put ∙ map-append (λ w. w.0) vars (v ∷ [])) (sym (variables_split rest next split))

  pub variables_broken : (e : StepError) → Answers (judge_variable (environment_of here.world.names here) (map (λ w. w.0) shown) (variable_seen first)) plain_var (Err e)
      → Answers {A = List (ℕ × NumberedSort)} (judge_variables old_env [] params) (map plain_var) (Err e)
  variables_broken e h =
      onward_fault plain_var each later (judge_variables old_env) [] params (map (λ w. w.0) vars) left rest (variable_seen first) vars [] [] joins onward plain_var (map plain_var) e [] [] (judged_here (Err e) h)

-- what stands before the body
pub header_right : (old mid near : Scope) (n : Tok) (ps : List SortedSymbol) (s : syntax.Sort) (params : List (ℕ × NumberedSort)) (result : NumberedSort)
    → is_fun_in_use (signature_in (environment_of old.world.names old)) n.name ≡ false → Answers {A = List (ℕ × NumberedSort)} (judge_variables (environment_of old.world.names old) [] ps) (map plain_var) (Ok params) → OnlySortsGrow old mid
    → AnswersSort (environment_of mid.world.names mid) [] s (Ok result) → OnlySortsGrow mid near
    → Answers {A = FunHeader} (judge_header (environment_of old.world.names old) n ps s) plain_header (Ok (record { no = record { 0 = near.next }; name = n.name; params = params; result = result }))
header_right old mid near n ps s params result fresh vars grown sorted more = (
  tt,
  [],
  (fresh, refl),
  (
    map plain_var params,
    [],
    vars,
    (
      sorts.tree result,
      [],
      subst (λ (e : Environment). AnswersSort e [] s (Ok result)) (here_env old mid grown) sorted,
      (ap (λ (d : DeclNo). record { no = d; name = n.name; params = map plain_var params; result = sorts.tree result }) (number_kept old near (record { 0 = near.next }) (grows_on old mid near grown more) refl), refl),
    ),
  ),
)

pub header_ready : (mid near : Scope) (h : FunHeader) → OnlySortsGrow mid near → AreReadyVars mid h.params → IsReadySchema near.world.names near.world.sorts 0 h.result → IsReadyHeader near h
header_ready mid near h grown vars result = record { params = schemas_later mid near (map (λ v. v.1) h.params) grown vars; result = result }

-- the store made the sorts of the parameters
schemas_interned : (texts : List (List ℕ)) (store : List sorts.Sort) (rs : List NumberedSort) → All (IsReadySchema texts store 0) rs → AllInterned store rs
schemas_interned texts store [] h = tt
schemas_interned texts store (r ∷ rs) h = ((h zero r (omega arith)).interned, schemas_interned texts store rs (λ k d l. h (suc k) d (omega (arith, l))))

pub header_bound : (scope : Scope) (h : FunHeader) → IsReadyHeader scope h → AreBound scope.world h.params
header_bound scope h ready = schemas_interned scope.world.names scope.world.sorts (map (λ v. v.1) h.params) ready.params

pub bound_kept : (old new : Scope) (h : FunHeader) → new.world.sorts ≡ old.world.sorts → IsReadyHeader old h → AreBound new.world h.params
bound_kept old new h same ready = subst (λ (store : List sorts.Sort). AllInterned store (map (λ v. v.1) h.params)) (sym same) (header_bound old h ready)

-- where nothing has changed that the rules look at, and the store has grown
pub header_later : (old new : Scope) (h : FunHeader) → IsSameTo old new → Grows old.world.sorts new.world.sorts → IsReadyHeader old h → IsReadyHeader new h
header_later old new h same grows ready =
    let names : old.world.names ≡ new.world.names = sym (ap (λ (e : Environment). e.names) same) in record {
      params = λ k d l. subst (λ (ns : List (List ℕ)). IsReadySchema ns new.world.sorts 0 (slice_index_or (map (λ v. v.1) h.params) k d)) names
          (schema_grown old.world.names old.world.sorts new.world.sorts grows 0 _ (ready.params k d l));
      result = subst (λ (ns : List (List ℕ)). IsReadySchema ns new.world.sorts 0 h.result) names (schema_grown old.world.names old.world.sorts new.world.sorts grows 0 _ ready.result);
    }

-- The command has declared these names of its own, and no other, before its bodies.
pub record HasNamed (old : Scope) (own : List ℕ) (here : Scope) : Type 0 where
  pub seen : seen_by here ≡ own
  pub first : first_of here ≡ old.next

pub names_of_one : (old near named : Scope) (name : ℕ) → BeginsNames old → OnlySortsGrow old near → seen_by named ≡ seen_by near ++ name ∷ [] → first_of named ≡ first_of near → HasNamed old (name ∷ []) named
names_of_one old near named name begins grown seen first = record {
  seen = seen ∙ ap (λ (ns : List ℕ). ns ++ name ∷ []) (ap (λ (s : Scope). seen_by s) grown.others ∙ begins.0);
  first = first ∙ (ap (λ (s : Scope). first_of s) grown.others ∙ begins.1);
}

pub names_later : (old named live : Scope) (own : List ℕ) → DeclaresNoName named live → HasNamed old own named → HasNamed old own live
names_later old named live own none has = record { seen = none.0 ∙ has.seen; first = none.1 ∙ has.first }

-- A definition, whose header is judged, and whose name is declared.
module _ (old : Scope) (at : ℕ) (f : FunDef) (h : FunHeader) (headed : Answers (judge_header (environment_of old.world.names old) f.name f.params f.result) plain_header (Ok h)) where
  abbrev start_env : Environment
  start_env = environment_of old.world.names old

  abbrev made : Header
  made = plain_header h

  abbrev MeetsBody : Environment → Result NumberedTerm StepError → List ℕ → Type 0
  MeetsBody env r after = Meets (judge_body old.next env made f.body) terms.tree r (h.name ∷ []) after

  pub body_moved : (env : Environment) (here : Scope) (r : Result NumberedTerm StepError) (after : List ℕ) → environment_of here.world.names here ≡ env → HasNamed old (h.name ∷ []) here
      → Meets (judge_body (first_of here) (environment_of here.world.names here) made f.body) terms.tree r (seen_by here) after → MeetsBody env r after
  body_moved env here r after same has b =
      subst (λ (e : Environment). MeetsBody e r after) same
      (subst (λ (n : ℕ). Meets (judge_body n (environment_of here.world.names here) made f.body) terms.tree r (h.name ∷ []) after) has.first
      (subst (λ (ns : List ℕ). Meets (judge_body (first_of here) (environment_of here.world.names here) made f.body) terms.tree r ns after) has.seen b))

  pub definition_broken : (new : Environment) (e : StepError) (after : List ℕ) → MeetsBody start_env (Err e) after → MeetsParts start_env at (define_fun f) (Err e) new after
  definition_broken new (error.Broken place) after b = inr (made, [], headed, inr (tt, h.name ∷ [], refl, inl b))
  definition_broken new error.NoMemory after b = tt

  pub definition_right : (new : Environment) (u : NumberedTerm) (d : Def) (after : List ℕ) → MeetsBody start_env (Ok u) after → new ≡ with_header start_env made → plain_def d ≡ defined made false (terms.tree u)
      → MeetsParts start_env at (define_fun f) (Ok (kept.DefineFun d)) new after
  definition_right new u d after b live is =
      (made, [], headed, (tt, h.name ∷ [], refl, (terms.tree u, after, b, (same_pair (typed.define_fun (plain_def d)) (typed.define_fun (defined made false (terms.tree u))) _ _ (ap typed.define_fun is) live, refl))))

  -- the function is live before its body is judged
  pub recursive_broken : (new : Environment) (e : StepError) (after : List ℕ) → MeetsBody (with_header start_env made) (Err e) after → MeetsParts start_env at (define_fun_rec f) (Err e) new after
  recursive_broken new (error.Broken place) after b = inr (made, [], headed, inr (tt, h.name ∷ [], refl, inl b))
  recursive_broken new error.NoMemory after b = tt

  pub recursive_right : (new : Environment) (u : NumberedTerm) (d : Def) (after : List ℕ) → MeetsBody (with_header start_env made) (Ok u) after → new ≡ with_header start_env made → plain_def d ≡ defined made true (terms.tree u)
      → MeetsParts start_env at (define_fun_rec f) (Ok (kept.DefineFunRec d)) new after
  recursive_right new u d after b live is =
      (made, [], headed, (tt, h.name ∷ [], refl, (terms.tree u, after, b, (same_pair (typed.define_fun_rec (plain_def d)) (typed.define_fun_rec (defined made true (terms.tree u))) _ _ (ap typed.define_fun_rec is) live, refl))))

-- the environment under the names of before, where the function is live
pub live_under : (old here new : Scope) (h : FunHeader) → environment_of here.world.names here ≡ environment_of old.world.names old → environment_of here.world.names new ≡ with_header (environment_of here.world.names here) (plain_header h)
    → environment_of old.world.names new ≡ with_header (environment_of old.world.names old) (plain_header h)
live_under old here new h same effect =
    ap (λ (ns : List (List ℕ)). environment_of ns new) (sym (ap (λ (e : Environment). e.names) same)) ∙ (effect ∙ ap (λ (e : Environment). with_header e (plain_header h)) same)

-- .. under its own names
pub live_under_own : (old here new : Scope) (h : FunHeader) → environment_of here.world.names here ≡ environment_of old.world.names old → new.world.names ≡ here.world.names
    → environment_of here.world.names new ≡ with_header (environment_of here.world.names here) (plain_header h) → environment_of new.world.names new ≡ with_header (environment_of old.world.names old) (plain_header h)
live_under_own old here new h same names effect =
    ap (λ (ns : List (List ℕ)). environment_of ns new) names ∙ (effect ∙ ap (λ (e : Environment). with_header e (plain_header h)) same)

-- .. and then under those of before
pub same_under : (old new : Scope) (h : FunHeader) → environment_of new.world.names new ≡ with_header (environment_of old.world.names old) (plain_header h)
    → environment_of old.world.names new ≡ with_header (environment_of old.world.names old) (plain_header h)
same_under old new h all = ap (λ (ns : List (List ℕ)). environment_of ns new) (sym (ap (λ (e : Environment). e.names) all)) ∙ all

-- a header stays ready where its name is declared
pub named_ready : (near named : Scope) (h : FunHeader) → named.world.names ≡ near.world.names → named.world.sorts ≡ near.world.sorts → IsReadyHeader near h → IsReadyHeader named h
named_ready near named h names stored ready =
    let at : (r : NumberedSort) → IsReadySchema near.world.names near.world.sorts 0 r → IsReadySchema named.world.names named.world.sorts 0 r =
    λ r s. subst (λ (ns : List (List ℕ)). IsReadySchema ns named.world.sorts 0 r) (sym names) (subst (λ (store : List sorts.Sort). IsReadySchema near.world.names store 0 r) (sym stored) s) in
    record { params = λ k d l. at _ (ready.params k d l); result = at h.result ready.result }
