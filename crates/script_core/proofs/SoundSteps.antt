-- An accepted command is sound, and it leaves a sound signature, where the script declares what is live and what the command
-- declares.
use Rattle.std.proofs.Common.{◌≡◌, ℕ, ◌+◌, ◌<◌, ◌≤◌, ◌==◌, Bool, true, false, List, [], ◌∷◌, ◌++◌, length, map, Option, Some, refl, ap, sym, ◌∙◌, subst, inl, inr, arith}
use Rattle.std.specs.List.{All, Contains}
use Rattle.std.proofs.lemmas.Bool.{cases_Bool, false≢true}
use Rattle.std.proofs.lemmas.List.{length-map}
use Rattle.std.proofs.lemmas.List.Elements.{Contains-append_left, Contains-append_right}
use Rattle.lex_core.specs.declared.token.Tok.{Tok}
use Rattle.sig_table.specs.declared.code.Code.TheVariants.{WrongCommandForm}
use Rattle.sexp_core.specs.Sexp.{Sexp}
use Rattle.judgement.specs.Judging.{◌>>=◌, done, find, well_sorted}
use Rattle.sort_store.specs.CoreRanks.{bool}
use Rattle.sort_store.specs.declared.head.DeclNo.{DeclNo}
use Rattle.sort_store.specs.Tree.{Sort}
use Rattle.sort_store.specs.Instance.{inst}
use Rattle.scope_stack.specs.Levels.{live}
use Rattle.scope_stack.specs.declared.entry.FunKind.TheVariants as kind
use Rattle.term_grammar.specs.declared.words.TheConstants.{GLOBAL_DECLARATIONS}
use Rattle.term_grammar.specs.Syntax as syntax
use Rattle.term_grammar.specs.Syntax.{Attribute, SortedSymbol, Term, Terms, keyword_attribute, no_terms, valued_attribute, with_term}
use Rattle.cmd_grammar.specs.Commands.{Command, FunDec, Literal, assert, check_sat, check_sat_assuming, declare_const, declare_datatype, declare_datatypes, declare_fun, declare_sort, define_fun, define_fun_rec, define_funs_rec, define_sort, echo, exit, get_assertions, get_assignment, get_info, get_model, get_option, get_proof, get_unsat_assumptions, get_unsat_core, get_value, pop, push, reset, reset_assertions, set_info, set_logic, set_option}
use Rattle.cmd_grammar.specs.DeclarationViews.{literal_term}
use Rattle.term_store.specs.Command.{PlainCommand, PlainDatatype, PlainDef}
use Rattle.term_store.specs.Command as typed
use Rattle.term_store.specs.Declarations.{Declaration, declared_by, definition, function_symbol, names_in, names_in_all, number_given, of_group}
use Rattle.term_store.specs.SoundScript.{IsSoundCommand, IsSoundDatatype, IsSoundDeclaration, IsSoundDef, IsSoundIn, KeepsLevels}
use Rattle.term_store.specs.SoundTerms.{AppliesBelow, AreDistinct, AreSoundVars, HasRankAt, IsSoundSort}
use Rattle.term_store.specs.Term.{PlainTerm, plain_sort}
use Rattle.typer.proofs.LiveDeclarations.{Each, all_of_each, each_closed, each_declared, each_global, each_of_all, each_opened}
use Rattle.typer.proofs.LiveRankSteps.{inst_none, map_none}
use Rattle.typer.proofs.AppliedNumbers.{applies_below}
use Rattle.typer.proofs.EachNamed.{append_named}
use Rattle.typer.specs.TermRules.{judge_term, judge_terms}
use Rattle.typer.proofs.SoundSorts.{sound_sort, sound_sorts}
use Rattle.typer.proofs.SoundNames.{IsSoundAnywhere, named_sound}
use Rattle.typer.proofs.SoundTerms.{sound_term}
use Rattle.typer.specs.Declarations.{Declarations, FunDeclaration, SortDeclaration, defined_sort, depth, free_sort, with_fun, with_global, with_popped, with_pushed, with_sort, without_assertions}
use Rattle.typer.specs.Soundness.{HasSoundSorts, IsSoundFunction, IsSoundSignature, IsSoundSortSymbol}
use Rattle.script_core.specs.Environment.{Environment, logic_in, signature_from, signature_in, start as start_env}
use Rattle.script_core.specs.Rules.{Header, after_option, defined, is_true, judge_body, judge_bool, judge_header, judge_headers, judge_literals, judge_members, judge_mode, judge_parts, judge_variables, named_by, next_number, unchanging, value_of, with_defined_sort, with_free_sort, with_function, with_group, with_header, with_headers, with_logic}
use Rattle.typer.specs.TermRules.{attribute_key, attribute_value}
use Rattle.script_core.proofs.ApartNames.{variables_apart}
use Rattle.script_core.proofs.GroupNumbers.{AreCounted, group_counted, single_counted}
use Rattle.script_core.proofs.NamedParts.{applies_more, names_below}
use Rattle.script_core.proofs.SoundGroupSteps.{DeclaresGroup, judged_single_sound, judged_sound, of_group_depth, of_group_live, of_group_sound}
use Rattle.script_core.proofs.SoundNamed.{AreGoodNames, IsSoundEnv, good_as, no_names}
use Rattle.script_core.proofs.SoundNumbers.{length-closed, length-declared, length-opened}
use Rattle.script_core.proofs.StepNumbers.{AreMembers, members_are, own_by}

-- what the parts of an accepted command say of it, before its named terms are live, and of what they lead to
pub record IsSoundStep (script : List Declaration) (env : Environment) (c : PlainCommand) (after : Environment) : Type 0 where
  pub leads : IsSoundEnv script after
  pub levels : (cs : List PlainCommand) → KeepsLevels (depth after.declarations) cs → KeepsLevels (depth env.declarations) (c ∷ cs)
  pub declarations : Each (IsSoundDeclaration script) (own_by c)
  pub names : AreGoodNames script after.next (named_by c)
  pub command : IsSoundCommand script c

-- the script declares all that the command declares
abbrev pub Declares : List Declaration → PlainCommand → Type 0
Declares script c = (d : Declaration) → Contains (declared_by c) d → Contains script d

first_of : (d : Declaration) (ds : List Declaration) → Contains (d ∷ ds) d
first_of d ds = Contains-append_left (d ∷ []) ds d (in_one d)
  where
    in_one : (d : Declaration) → Contains (d ∷ []) d
    in_one d = (0, omega arith, refl)

-- the step, where the command and what it leads to are these
pub step_of : (script : List Declaration) (env : Environment) (c d : PlainCommand) (after new : Environment) → ◌≡◌ {A = PlainCommand × Environment} (c, after) (d, new)
    → (Declares script d → IsSoundStep script env d new) → Declares script c → IsSoundStep script env c after
step_of script env c d after new e sound declares =
    let first : d ≡ c = sym (ap (λ (p : PlainCommand × Environment). p.0) e) in
    let second : new ≡ after = sym (ap (λ (p : PlainCommand × Environment). p.1) e) in
    subst (λ (x : PlainCommand). IsSoundStep script env x after) first (subst (λ (x : Environment). IsSoundStep script env d x) second
    (sound (subst (λ (x : PlainCommand). Declares script x) (sym first) declares)))

none_of : (P : Declaration → Type 0) (ds : List Declaration) → ds ≡ [] → Each P ds
none_of P ds e = subst (λ (l : List Declaration). Each P l) (sym e) tt

-- the number of the first name that a command declares plays no part
signature_sound : (script : List Declaration) (first : ℕ) (env : Environment) → IsSoundEnv script env → IsSoundSignature script (signature_from first env)
signature_sound script first env sound = record { table = sound.signature.table; sorts = sound.signature.sorts; funs = sound.signature.funs; datatypes = sound.signature.datatypes }

good_append : (script : List Declaration) (n : ℕ) (ds es : List Declaration) → AreGoodNames script n ds → AreGoodNames script n es → AreGoodNames script n (ds ++ es)
good_append script n ds es h k = record { sound = append_named (IsSoundAnywhere script) ds es h.sound k.sound; lower = append_named (AppliesBelow n) ds es h.lower k.lower }

-- what a definition says before its body is sound
pub record IsSoundHeader (script : List Declaration) (h : Header) : Type 0 where
  pub apart : AreDistinct (map (λ v. v.0) h.params)
  pub params : AreSoundVars script h.params
  pub result : IsSoundSort script 0 h.result

-- the parameters of a function are sound, one by one
vars_each : (script : List Declaration) (vs : List (ℕ × Sort)) → AreSoundVars script vs → Each (λ (v : ℕ × Sort). IsSoundSort script 0 v.1) vs
vars_each script [] h = tt
vars_each script (v ∷ vs) h = (h.0, vars_each script vs h.1)

-- the parameters of a function have sound sorts
variables_sound : (script : List Declaration) (env : Environment) → HasSoundSorts script env.declarations → (seen : List ℕ) (ps : List SortedSymbol) (vs : List (ℕ × Sort)) (before after : List ℕ) → judge_variables env seen ps before (well_sorted vs after)
    → AreSoundVars script vs
variables_sound script env sorts seen [] vs before after (e, f) = subst (AreSoundVars script) (sym e) tt
variables_sound script env sorts seen (p ∷ ps) vs before after (v, between, (w, start, fresh, (s, middle, j, (e, f))), (rest, later, k, (g, i))) =
    subst (AreSoundVars script) (sym g) (
      subst (λ (x : ℕ × Sort). IsSoundSort script 0 x.1) (sym e) (sound_sort script env.names env.declarations env.theories [] sorts p.sort s start middle j),
      variables_sound script env sorts (seen ++ v.0 ∷ []) ps rest between later k,
    )

header_sound : (script : List Declaration) (env : Environment) → HasSoundSorts script env.declarations → (n : Tok) (ps : List SortedSymbol) (s : syntax.Sort) (h : Header) (before after : List ℕ) → judge_header env n ps s before (well_sorted h after)
    → IsSoundHeader script h × (h.no ≡ next_number env)
header_sound script env sorts n ps s h before after (w, start, fresh, (vs, between, j, (r, later, i, (e, f)))) =
    let made : Header = record { no = next_number env; name = n.name; params = vs; result = r } in
    let ok : IsSoundHeader script made × (made.no ≡ next_number env) = (
      record {
        apart = variables_apart env ps vs start between j;
        params = variables_sound script env sorts [] ps vs start between j;
        result = sound_sort script env.names env.declarations env.theories [] sorts s r between later i;
      },
      refl,
    ) in
    subst (λ (x : Header). IsSoundHeader script x × (x.no ≡ next_number env)) (sym e) ok

-- the headers of a group, with the next numbers
abbrev AreSoundHeaders : List Declaration → ℕ → List Header → Type 0
AreSoundHeaders script n [] = Unit {0}
AreSoundHeaders script n (h ∷ hs) = IsSoundHeader script h × (h.no ≡ record { 0 = n }) × AreSoundHeaders script (n + 1) hs

headers_sound : (script : List Declaration) (env : Environment) → HasSoundSorts script env.declarations → (fs : List FunDec) (hs : List Header) (before after : List ℕ) → judge_headers env fs before (well_sorted hs after)
    → AreSoundHeaders script env.next hs
headers_sound script env sorts [] hs before after (e, f) = subst (AreSoundHeaders script env.next) (sym e) tt
headers_sound script env sorts (f ∷ fs) hs before after (h, between, j, (rest, later, k, (e, i))) =
    let head = header_sound script env sorts f.name f.params f.result h before between j in
    subst (AreSoundHeaders script env.next) (sym e) (head.0, head.1, headers_sound script (with_header env h) sorts fs rest between later k)

-- the body of a definition, under the functions that are live
definition_in : (script : List Declaration) (first : ℕ) (env : Environment) → IsSoundEnv script env → (h : Header) (t : Term) (u : PlainTerm) (recursive : Bool) (before after : List ℕ) → IsSoundHeader script h → (recursive ≡ false → h.no.0 ≡ env.next)
    → judge_body first env h t before (well_sorted u after) → IsSoundDef script (defined h recursive u)
definition_in script first env sound h t u recursive before after head number (v, between, j, (w, later, k, (e, f))) =
    subst (λ (x : PlainTerm). IsSoundDef script (defined h recursive x)) (sym e) (record {
      params_distinct = head.apart;
      param_sorts = all_of_each (λ (x : ℕ × Sort). IsSoundSort script 0 x.1) h.params (vars_each script h.params head.params);
      result_sort = head.result;
      body = sound_term script (signature_from first env) (signature_sound script first env sound) t h.params head.params v before between j;
      body_sort = k.0;
      lower = λ plain. subst (λ (n : ℕ). AppliesBelow n v) (sym (number plain)) (applies_below env.next (signature_from first env) sound.below t h.params v before between j);
    })

-- .. with the terms named in it
body_names : (script : List Declaration) (first : ℕ) (env : Environment) → IsSoundEnv script env → (h : Header) (t : Term) (u : PlainTerm) (before after : List ℕ) (top : ℕ) → IsSoundHeader script h → env.next ≤ top
    → judge_body first env h t before (well_sorted u after) → AreGoodNames script top (names_in u)
body_names script first env sound h t u before after top head l (v, between, j, (w, later, k, (e, f))) =
    good_as script top (names_in v) (names_in u) (ap names_in e) (record {
      sound = named_sound script (signature_from first env) (signature_sound script first env sound) t h.params head.params v before between j;
      lower = λ d m x c. applies_more env.next top l x (names_below env.next v (applies_below env.next (signature_from first env) sound.below t h.params v before between j) d m x c);
    })

members_sound : (script : List Declaration) (first : ℕ) (env : Environment) → IsSoundEnv script env → (at n : ℕ) (hs : List Header) (ts : Terms) (ds : List PlainDef) (before after : List ℕ) → AreSoundHeaders script n hs
    → judge_members first env at hs ts before (well_sorted ds after) → Each (IsSoundDef script) ds × AreGoodNames script env.next (names_in_all (map (λ (d : PlainDef). d.body) ds))
members_sound script first env sound at n [] ts ds before after heads (e, f) =
    subst (λ (xs : List PlainDef). Each (IsSoundDef script) xs × AreGoodNames script env.next (names_in_all (map (λ (d : PlainDef). d.body) xs))) (sym e) (tt, no_names script env.next)
members_sound script first env sound at n (h ∷ hs) no_terms ds before after heads j = absurd j
members_sound script first env sound at n (h ∷ hs) (with_term t ts) ds before after heads (d, between, (u, middle, j, (e, f)), (rest, later, k, (g, i))) =
    let others = members_sound script first env sound at (n + 1) hs ts rest between later heads.2 k in
    let own = body_names script first env sound h t u before middle env.next heads.0 (omega arith) j in
    subst (λ (xs : List PlainDef). Each (IsSoundDef script) xs × AreGoodNames script env.next (names_in_all (map (λ (x : PlainDef). x.body) xs))) (sym g) (
      (subst (IsSoundDef script) (sym e) (definition_in script first env sound h t u true before middle heads.0 (λ plain. absurd (false≢true (sym plain))) j), others.0),
      good_append script env.next (names_in d.body) (names_in_all (map (λ (x : PlainDef). x.body) rest)) (good_as script env.next (names_in u) (names_in d.body) (ap (λ (x : PlainDef). names_in x.body) e) own) others.1,
    )

symbols_of : (script : List Declaration) (ds : List PlainDef) → Each (IsSoundDef script) ds → Each (IsSoundDeclaration script) (map definition ds)
symbols_of script [] h = tt
symbols_of script (d ∷ ds) h = (h.0, symbols_of script ds h.1)

-- the script declares each of them
abbrev DeclaresEach : List Declaration → List PlainDef → Type 0
DeclaresEach script ds = Each (λ (d : PlainDef). Contains script (definition d)) ds

each_declared_in : (script : List Declaration) (ds : List PlainDef) (others : List Declaration) → ((d : Declaration) → Contains (map definition ds ++ others) d → Contains script d) → DeclaresEach script ds
each_declared_in script [] others f = tt
each_declared_in script (d ∷ ds) others f =
    (f (definition d) (first_of (definition d) (map definition ds ++ others)), each_declared_in script ds others (λ x h. f x (Contains-append_right (definition d ∷ []) (map definition ds ++ others) x h)))

-- levels stay as many
group_depth : (env : Environment) (hs : List Header) → depth (with_headers env hs).declarations ≡ depth env.declarations
group_depth env [] = refl
group_depth env (h ∷ hs) = group_depth (with_header env h) hs ∙ length-declared env.declarations.global _ env.declarations.funs

module _ (script : List Declaration) (env : Environment) (sound : IsSoundEnv script env) where
  abbrev OfSort : ℕ × SortDeclaration → Type 0
  OfSort d = IsSoundSortSymbol script d.1

  abbrev OfFun : ℕ → ℕ × FunDeclaration → Type 0
  OfFun next d = IsSoundFunction script d.1 × (d.1.number.0 < next)

  -- declarations of which each live one is sound
  sound_with : (next : ℕ) (d : Declarations) → HasSoundSorts script d → All (OfFun next) (live d.funs) → IsSoundEnv script (record env { declarations = d; next = next })
  sound_with next d sorts funs = record {
    signature = record { table = sound.signature.table; sorts = sorts; funs = λ k f l. (funs k f l).0; datatypes = sound.signature.datatypes };
    below = λ k f l. (funs k f l).1;
  }

  sorts_each : Each OfSort (live env.declarations.sorts)
  sorts_each = each_of_all OfSort (live env.declarations.sorts) sound.signature.sorts

  funs_each : (next : ℕ) → env.next ≤ next → Each (OfFun next) (live env.declarations.funs)
  funs_each next l = each_of_all (OfFun next) (live env.declarations.funs) (λ k f few. (sound.signature.funs k f few, omega (arith, sound.below k f few, l)))

  funs_now : Each (OfFun env.next) (live env.declarations.funs)
  funs_now = funs_each env.next (omega arith)

  -- a command that declares nothing and leaves the levels as they are
  quiet : (c : PlainCommand) (after : Environment) → IsSoundEnv script after → ((cs : List PlainCommand) → KeepsLevels (depth after.declarations) cs → KeepsLevels (depth env.declarations) (c ∷ cs))
      → own_by c ≡ [] → AreGoodNames script after.next (named_by c) → IsSoundCommand script c → IsSoundStep script env c after
  quiet c after leads levels none names command = record {
    leads = leads;
    levels = levels;
    declarations = none_of (IsSoundDeclaration script) (own_by c) none;
    names = names;
    command = command;
  }

  -- a function symbol without parameters has the rank of its declaration
  function_ranks : (args : List Sort) (result : Sort) (values : List Sort) → length values ≡ 0 → (map (inst values) args ≡ args) × (inst values result ≡ result)
  function_ranks args result [] e = (map_none args, inst_none result)
  function_ranks args result (v ∷ values) e = absurd (omega (arith, e))

  -- the declaration is one of a function without parameters that is live under this name
  function_declared : (name : ℕ) (args : List Sort) (result : Sort) (its : Declaration) → All (IsSoundSort script 0) args → IsSoundSort script 0 result → Contains script its → number_given its ≡ env.next
      → ((values : List Sort) → length values ≡ 0 → HasRankAt its values (map (inst values) args) (inst values result)) → IsSoundEnv script (with_function env name args result)
  function_declared name args result its args_sound result_sound declares number ranks =
      let f : FunDeclaration = record { number = next_number env; kind = kind.Free; params = 0; args = args; result = result } in
      let entry : IsSoundFunction script f = record {
        args = args_sound;
        result = result_sound;
        its = its;
        is_declared = declares;
        number_is = number;
        ranks = ranks;
        tester = λ e. cc;
      } in
      sound_with (env.next + 1) (with_fun name f env.declarations) sound.signature.sorts
      (all_of_each (OfFun (env.next + 1)) _ (each_declared (OfFun (env.next + 1)) env.declarations.global (name, f) env.declarations.funs (entry, omega arith) (funs_each (env.next + 1) (omega arith))))

  sort_declared : (next name : ℕ) (d : SortDeclaration) → env.next ≤ next → IsSoundSortSymbol script d → IsSoundEnv script (record env { declarations = with_sort name d env.declarations; next = next })
  sort_declared next name d l h =
      sound_with next (with_sort name d env.declarations) (all_of_each OfSort _ (each_declared OfSort env.declarations.global (name, d) env.declarations.sorts h sorts_each)) (all_of_each (OfFun next) _ (funs_each next l))

  -- a function symbol takes the next number
  function_step : (c : PlainCommand) (name : ℕ) (args : List Sort) (result : Sort) (its : Declaration) → own_by c ≡ its ∷ [] → AreGoodNames script (env.next + 1) (named_by c) → All (IsSoundSort script 0) args → IsSoundSort script 0 result
      → number_given its ≡ env.next → ((values : List Sort) → length values ≡ 0 → HasRankAt its values (map (inst values) args) (inst values result)) → IsSoundDeclaration script its
      → ((cs : List PlainCommand) (n : ℕ) → KeepsLevels n cs → KeepsLevels n (c ∷ cs)) → IsSoundCommand script c → Contains script its → IsSoundStep script env c (with_function env name args result)
  function_step c name args result its is names args_sound result_sound number ranks symbol same command declared = record {
    leads = function_declared name args result its args_sound result_sound declared number ranks;
    levels = λ cs h. same cs (depth env.declarations) (subst (λ (n : ℕ). KeepsLevels n cs) (length-declared env.declarations.global _ env.declarations.funs) h);
    declarations = subst (λ (l : List Declaration). Each (IsSoundDeclaration script) l) (sym is) (symbol, tt);
    names = names;
    command = command;
  }

  -- a declared function
  symbol_step : (c : PlainCommand) (name : ℕ) (args : List Sort) (result : Sort) → own_by c ≡ function_symbol (next_number env) name args result ∷ [] → named_by c ≡ [] → All (IsSoundSort script 0) args → IsSoundSort script 0 result
      → ((cs : List PlainCommand) (n : ℕ) → KeepsLevels n cs → KeepsLevels n (c ∷ cs)) → IsSoundCommand script c → Contains script (function_symbol (next_number env) name args result)
      → IsSoundStep script env c (with_function env name args result)
  symbol_step c name args result is none args_sound result_sound same command declared =
      function_step c name args result (function_symbol (next_number env) name args result) is (good_as script (env.next + 1) [] (named_by c) none (no_names script (env.next + 1))) args_sound result_sound refl
      (λ values e. function_ranks args result values e) (args_sound, result_sound) same command declared

  -- a sort symbol takes the next number
  free_sort_step : (name arity : ℕ) → IsSoundStep script env (typed.declare_sort (next_number env) name arity) (with_free_sort env name arity)
  free_sort_step name arity = record {
    leads = sort_declared (env.next + 1) name (free_sort (next_number env) arity) (omega arith) tt;
    levels = λ cs h. h;
    declarations = (tt, tt);
    names = no_names script (env.next + 1);
    command = tt;
  }

  -- a defined sort takes none
  defined_sort_step : (name count : ℕ) (ps : List ℕ) (body : Sort) → length ps ≡ count → IsSoundSort script (length ps) body → IsSoundStep script env (typed.define_sort name ps body) (with_defined_sort env name count body)
  defined_sort_step name count ps body e h =
      quiet (typed.define_sort name ps body) (with_defined_sort env name count body) (sort_declared env.next name (defined_sort count body) (omega arith) (subst (λ (n : ℕ). IsSoundSort script n body) e h)) (λ cs k. k) refl (no_names script env.next) h

  -- levels are opened and closed
  push_step : (n : ℕ) → depth env.declarations + n ≤ 65535 → IsSoundStep script env (typed.push n) (record env { declarations = with_pushed n env.declarations })
  push_step n few =
      quiet (typed.push n) (record env { declarations = with_pushed n env.declarations })
      (sound_with env.next (with_pushed n env.declarations) (all_of_each OfSort _ (each_opened OfSort n env.declarations.sorts sorts_each)) (all_of_each (OfFun env.next) _ (each_opened (OfFun env.next) n env.declarations.funs funs_now)))
      (λ cs h. (few, subst (λ (m : ℕ). KeepsLevels m cs) (length-opened n env.declarations.funs) h)) refl (no_names script env.next) tt

  pop_step : (n : ℕ) → n ≤ depth env.declarations → IsSoundStep script env (typed.pop n) (record env { declarations = with_popped n env.declarations })
  pop_step n enough =
      quiet (typed.pop n) (record env { declarations = with_popped n env.declarations })
      (sound_with env.next (with_popped n env.declarations) (all_of_each OfSort _ (each_closed OfSort n env.declarations.sorts sorts_each)) (all_of_each (OfFun env.next) _ (each_closed (OfFun env.next) n env.declarations.funs funs_now)))
      (λ cs h. (enough, subst (λ (m : ℕ). KeepsLevels m cs) (length-closed n env.declarations.funs) h)) refl (no_names script env.next) tt

  reset_step : IsSoundStep script env typed.reset (record start_env { names = env.names; datatypes = env.datatypes; definitions = env.definitions; next = env.next })
  reset_step =
      quiet typed.reset (record start_env { names = env.names; datatypes = env.datatypes; definitions = env.definitions; next = env.next }) (record {
        signature = record { table = sound.signature.table; sorts = all_of_each OfSort [] tt; funs = all_of_each (λ (d : ℕ × FunDeclaration). IsSoundFunction script d.1) [] tt; datatypes = sound.signature.datatypes };
        below = all_of_each (λ (d : ℕ × FunDeclaration). d.1.number.0 < env.next) [] tt;
      }) (λ cs h. h) refl (no_names script env.next) tt

  forgotten_step : IsSoundStep script env typed.reset_assertions (record env { declarations = without_assertions env.declarations })
  forgotten_step =
      quiet typed.reset_assertions (record env { declarations = without_assertions env.declarations })
      (sound_with env.next (without_assertions env.declarations) (all_of_each OfSort _ (each_global OfSort env.declarations.sorts sorts_each)) (all_of_each (OfFun env.next) _ (each_global (OfFun env.next) env.declarations.funs funs_now)))
      (λ cs h. h) refl (no_names script env.next) tt

  -- a flag declares nothing
  option_sound : (a : Attribute) → IsSoundEnv script (after_option env a)
  option_sound (keyword_attribute k) = sound
  option_sound (valued_attribute k v) = elim (cases_Bool (k.name == GLOBAL_DECLARATIONS)) [
    | inl same ↦ rw same (sound_with env.next (with_global (is_true v) env.declarations) sound.signature.sorts (all_of_each (OfFun env.next) _ funs_now))
    | inr other ↦ rw other sound
  ]

  option_depth : (a : Attribute) → depth (after_option env a).declarations ≡ depth env.declarations
  option_depth (keyword_attribute k) = refl
  option_depth (valued_attribute k v) = elim (cases_Bool (k.name == GLOBAL_DECLARATIONS)) [
    | inl same ↦ rw same refl
    | inr other ↦ rw other refl
  ]

  option_step : (a : Attribute) (key : ℕ) (value : Option (Sexp Tok)) → IsSoundStep script env (typed.set_option key value) (after_option env a)
  option_step a key value =
      quiet (typed.set_option key value) (after_option env a) (option_sound a) (λ cs h. subst (λ (n : ℕ). KeepsLevels n cs) (option_depth a) h) refl (no_names script (after_option env a).next) tt

  -- a command that changes nothing
  same_step : (c : PlainCommand) → ((cs : List PlainCommand) (n : ℕ) → KeepsLevels n cs → KeepsLevels n (c ∷ cs)) → own_by c ≡ [] → named_by c ≡ [] → IsSoundCommand script c → IsSoundStep script env c env
  same_step c same none unnamed command = quiet c env sound (λ cs h. same cs (depth env.declarations) h) none (good_as script env.next [] (named_by c) unnamed (no_names script env.next)) command

  -- a term with the terms named in it
  term_names : (t : Term) (u : PlainTerm) (before after : List ℕ) → judge_term (signature_in env) [] t before (well_sorted u after) → AreGoodNames script env.next (names_in u)
  term_names t u before after h = record {
    sound = named_sound script (signature_in env) sound.signature t [] tt u before after h;
    lower = names_below env.next u (applies_below env.next (signature_in env) sound.below t [] u before after h);
  }

  -- terms of sort Bool
  bool_sound : (t : Term) (u : PlainTerm) (before after : List ℕ) → judge_bool env t before (well_sorted u after) → IsSoundIn script u × (plain_sort u ≡ bool) × AreGoodNames script env.next (names_in u)
  bool_sound t u before after (v, between, h, (w, later, k, (e, f))) =
      let ok : IsSoundIn script v × (plain_sort v ≡ bool) × AreGoodNames script env.next (names_in v) =
      (sound_term script (signature_in env) sound.signature t [] tt v before between h, k.0, term_names t v before between h) in
      subst (λ (x : PlainTerm). IsSoundIn script x × (plain_sort x ≡ bool) × AreGoodNames script env.next (names_in x)) (sym e) ok

  abbrev AreSoundAll : List PlainTerm → Type 0
  AreSoundAll us = Each (IsSoundIn script) us × AreGoodNames script env.next (names_in_all us)

  literals_sound : (ls : List Literal) (us : List PlainTerm) (before after : List ℕ) → judge_literals env ls before (well_sorted us after) → AreSoundAll us
  literals_sound [] us before after (e, f) = subst AreSoundAll (sym e) (tt, no_names script env.next)
  literals_sound (l ∷ ls) us before after (u, between, h, (vs, later, k, (e, f))) =
      let first = bool_sound (literal_term l) u before between h in
      let rest = literals_sound ls vs between later k in
      subst AreSoundAll (sym e) ((first.0, rest.0), good_append script env.next (names_in u) (names_in_all vs) first.2 rest.1)

  terms_sound : (ts : Terms) (us : List PlainTerm) (before after : List ℕ) → judge_terms (signature_in env) [] ts before (well_sorted us after) → AreSoundAll us
  terms_sound no_terms us before after (e, f) = subst AreSoundAll (sym e) (tt, no_names script env.next)
  terms_sound (with_term t ts) us before after (u, between, h, (vs, later, k, (e, f))) =
      let rest = terms_sound ts vs between later k in
      subst AreSoundAll (sym e)
      ((sound_term script (signature_in env) sound.signature t [] tt u before between h, rest.0), good_append script env.next (names_in u) (names_in_all vs) (term_names t u before between h) rest.1)

  var_sorts : (vs : List (ℕ × Sort)) → AreSoundVars script vs → Each (IsSoundSort script 0) (map (λ v. v.1) vs)
  var_sorts [] h = tt
  var_sorts (v ∷ vs) h = (h.0, var_sorts vs h.1)

  -- a definition that is live under its number
  defined_ranks : (h : Header) (recursive : Bool) (u : PlainTerm) (values : List Sort) → length values ≡ 0
      → HasRankAt (definition (defined h recursive u)) values (map (inst values) (map (λ v. v.1) h.params)) (inst values h.result)
  defined_ranks h recursive u values e = function_ranks (map (λ v. v.1) h.params) h.result values e

  header_live : (h : Header) (u : PlainTerm) (recursive : Bool) → IsSoundHeader script h → h.no ≡ next_number env → Contains script (definition (defined h recursive u)) → IsSoundEnv script (with_header env h)
  header_live h u recursive head number declares =
      function_declared h.name (map (λ v. v.1) h.params) h.result (definition (defined h recursive u)) (all_of_each (IsSoundSort script 0) _ (var_sorts h.params head.params)) head.result declares (ap (λ (n : DeclNo). n.0) number)
      (defined_ranks h recursive u)

  -- the command defines this function alone
  definition_step : (c : PlainCommand) (h : Header) (recursive : Bool) (u : PlainTerm) → own_by c ≡ definition (defined h recursive u) ∷ [] → AreGoodNames script (env.next + 1) (named_by c) → IsSoundHeader script h → h.no ≡ next_number env
      → ((cs : List PlainCommand) (n : ℕ) → KeepsLevels n cs → KeepsLevels n (c ∷ cs)) → IsSoundCommand script c → IsSoundDef script (defined h recursive u) → Contains script (definition (defined h recursive u)) → IsSoundStep script env c (with_header env h)
  definition_step c h recursive u is names head number same command def declared =
      function_step c h.name (map (λ v. v.1) h.params) h.result (definition (defined h recursive u)) is names
      (all_of_each (IsSoundSort script 0) _ (var_sorts h.params head.params)) head.result (ap (λ (n : DeclNo). n.0) number) (defined_ranks h recursive u) def same command declared

  is_same : (c d : PlainCommand) → Some c ≡ Some d → IsSoundStep script env c env → IsSoundStep script env d env
  is_same c d e h = let same : c ≡ d = cc in subst (λ (x : PlainCommand). IsSoundStep script env x env) same h

  -- the commands that change nothing
  unchanging_step : (raw : Command) (c : PlainCommand) → unchanging raw ≡ Some c → IsSoundStep script env c env
  unchanging_step check_sat c e = is_same typed.check_sat c e (same_step typed.check_sat (λ cs n h. h) refl refl tt)
  unchanging_step (echo t) c e = is_same (typed.echo t.name) c e (same_step (typed.echo t.name) (λ cs n h. h) refl refl tt)
  unchanging_step exit c e = is_same typed.exit c e (same_step typed.exit (λ cs n h. h) refl refl tt)
  unchanging_step get_assertions c e = is_same typed.get_assertions c e (same_step typed.get_assertions (λ cs n h. h) refl refl tt)
  unchanging_step get_assignment c e = is_same typed.get_assignment c e (same_step typed.get_assignment (λ cs n h. h) refl refl tt)
  unchanging_step (get_info k) c e = is_same (typed.get_info k.name) c e (same_step (typed.get_info k.name) (λ cs n h. h) refl refl tt)
  unchanging_step get_model c e = is_same typed.get_model c e (same_step typed.get_model (λ cs n h. h) refl refl tt)
  unchanging_step (get_option k) c e = is_same (typed.get_option k.name) c e (same_step (typed.get_option k.name) (λ cs n h. h) refl refl tt)
  unchanging_step get_proof c e = is_same typed.get_proof c e (same_step typed.get_proof (λ cs n h. h) refl refl tt)
  unchanging_step get_unsat_assumptions c e = is_same typed.get_unsat_assumptions c e (same_step typed.get_unsat_assumptions (λ cs n h. h) refl refl tt)
  unchanging_step get_unsat_core c e = is_same typed.get_unsat_core c e (same_step typed.get_unsat_core (λ cs n h. h) refl refl tt)
  unchanging_step (set_info a) c e = is_same (typed.set_info (attribute_key a).name (attribute_value a)) c e (same_step (typed.set_info (attribute_key a).name (attribute_value a)) (λ cs n h. h) refl refl tt)
  unchanging_step raw c e = cc

  found_step : (raw : Command) (at : ℕ) (c : PlainCommand) (new : Environment) (before after : List ℕ)
      → ◌>>=◌ {B = PlainCommand × Environment} (find (λ d. unchanging raw ≡ Some d) WrongCommandForm at) (λ d. done (d, env)) before (well_sorted (c, new) after) → Declares script c → IsSoundStep script env c new
  found_step raw at c new before after (d, between, found, (e, f)) declares = step_of script env c d new env e (λ known. unchanging_step raw d found.0) declares

-- the functions of a group are live
group_live : (script : List Declaration) (hs : List Header) (ds : List PlainDef) (env : Environment) → IsSoundEnv script env → AreSoundHeaders script env.next hs → AreMembers hs ds → DeclaresEach script ds → IsSoundEnv script (with_headers env hs)
group_live script [] ds env sound heads members declares = sound
group_live script (h ∷ hs) [] env sound heads members declares = absurd members
group_live script (h ∷ hs) (d ∷ ds) env sound heads members declares =
    group_live script hs ds (with_header env h) (header_live script env sound h d.body true heads.0 heads.1 (subst (λ (x : PlainDef). Contains script (definition x)) members.0 declares.0)) heads.2 members.1 declares.1

module _ (script : List Declaration) (env : Environment) (sound : IsSoundEnv script env) where
  group_step : (at : ℕ) (fs : List FunDec) (hs : List Header) (ts : Terms) (ds : List PlainDef) (before between start after : List ℕ) → judge_headers env fs before (well_sorted hs between)
      → judge_members env.next (with_headers env hs) at hs ts start (well_sorted ds after) → Declares script (typed.define_funs_rec ds) → IsSoundStep script env (typed.define_funs_rec ds) (with_headers env hs)
  group_step at fs hs ts ds before between start after headed j declares =
      let heads = headers_sound script env sound.signature.sorts fs hs before between headed in
      let live = group_live script hs ds env sound heads (members_are env.next (with_headers env hs) at hs ts ds start after j) (each_declared_in script ds (names_in_all (map (λ (d : PlainDef). d.body) ds)) declares) in
      let members = members_sound script env.next (with_headers env hs) live at env.next hs ts ds start after heads j in record {
        leads = live;
        levels = λ cs h. subst (λ (n : ℕ). KeepsLevels n cs) (group_depth env hs) h;
        declarations = symbols_of script ds members.0;
        names = members.1;
        command = tt;
      }

  -- the datatypes of a group, with their constructors and selectors, are live
  of_group_step : (c : PlainCommand) (group : List PlainDatatype) → own_by c ≡ of_group group → named_by c ≡ [] → ((cs : List PlainCommand) (n : ℕ) → KeepsLevels n cs → KeepsLevels n (c ∷ cs)) → IsSoundCommand script c
      → AreCounted env.next (of_group group) → DeclaresGroup script group → Each (IsSoundDatatype script) group → IsSoundStep script env c (with_group env group)
  of_group_step c group is unnamed same command counted known fields =
      let next = env.next + length (of_group group) in record {
        leads = of_group_live script env sound group counted known fields;
        levels = λ cs h. same cs (depth env.declarations) (subst (λ (n : ℕ). KeepsLevels n cs) (of_group_depth env group) h);
        declarations = subst (λ (ds : List Declaration). Each (IsSoundDeclaration script) ds) (sym is) (of_group_sound script group fields);
        names = good_as script next [] (named_by c) unnamed (no_names script next);
        command = command;
      }

  -- the parts of a command whose mode is right
  pub parts_step : (at : ℕ) (raw : Command) (c : PlainCommand) (new : Environment) (first second before after : List ℕ) → judge_mode env at raw first (well_sorted tt second)
      → judge_parts env at raw before (well_sorted (c, new) after) → Declares script c → IsSoundStep script env c new
  parts_step at (assert t) c new first second before after mode (u, between, h, (e, f)) declares =
      let b = bool_sound script env sound t u before between h in step_of script env c (typed.assert u) new env e (λ known. quiet script env sound (typed.assert u) env sound (λ cs k. k) refl b.2 (b.0, b.1)) declares
  parts_step at (check_sat_assuming ls) c new first second before after mode (us, between, h, (e, f)) declares =
      let l = literals_sound script env sound ls us before between h in
      step_of script env c (typed.check_sat_assuming us) new env e (λ known. quiet script env sound (typed.check_sat_assuming us) env sound (λ cs k. k) refl l.1 (all_of_each (IsSoundIn script) us l.0)) declares
  parts_step at (declare_const n s) c new first second before after mode (w, start, k, (result, later, h, (e, f))) declares =
      let r = sound_sort script env.names env.declarations env.theories [] sound.signature.sorts s result start later h in
      step_of script env c (typed.declare_const (next_number env) n.name result) new (with_function env n.name [] result) e
      (λ known. symbol_step script env sound (typed.declare_const (next_number env) n.name result) n.name [] result refl refl (all_of_each (IsSoundSort script 0) [] tt) r (λ cs m l. l) tt (known _ (first_of _ []))) declares
  parts_step at (declare_fun n ss s) c new first second before after mode (w, start, k, (args, between, given, (result, later, h, (e, f)))) declares =
      let a = sound_sorts script env.names env.declarations env.theories [] sound.signature.sorts ss args start between given in
      let r = sound_sort script env.names env.declarations env.theories [] sound.signature.sorts s result between later h in
      step_of script env c (typed.declare_fun (next_number env) n.name args result) new (with_function env n.name args result) e
      (λ known. symbol_step script env sound (typed.declare_fun (next_number env) n.name args result) n.name args result refl refl a r (λ cs m l. l) tt (known _ (first_of _ []))) declares
  parts_step at (declare_datatype n d) c new first second before after mode (t, later, h, (e, f)) declares =
      step_of script env c (typed.declare_datatype t) new (with_group env (t ∷ [])) e
      (λ known. of_group_step (typed.declare_datatype t) (t ∷ []) refl refl (λ cs m l. l) tt (single_counted env at n d t before later h) known (judged_single_sound script env sound at n d t before later h known, tt)) declares
  parts_step at (declare_datatypes ss ds) c new first second before after mode (group, later, h, (e, f)) declares =
      step_of script env c (typed.declare_datatypes group) new (with_group env group) e
      (λ known. of_group_step (typed.declare_datatypes group) group refl refl (λ cs m l. l) tt (group_counted env at ss ds group before later h) known (judged_sound script env sound at ss ds group before later h known)) declares
  parts_step at (declare_sort n a) c new first second before after mode (w, start, k, (v, later, h, (e, f))) declares =
      step_of script env c (typed.declare_sort (next_number env) n.name (value_of env a)) new (with_free_sort env n.name (value_of env a)) e (λ known. free_sort_step script env sound n.name (value_of env a)) declares
  parts_step at (define_sort n ps s) c new first second before after mode (w, start, k, (v, between, apart, (body, later, h, (e, f)))) declares =
      let ids = map (λ (p : Tok). p.name) ps in
      let b = sound_sort script env.names env.declarations env.theories ids sound.signature.sorts s body between later h in
      step_of script env c (typed.define_sort n.name ids body) new (with_defined_sort env n.name (length ps) body) e (λ known. defined_sort_step script env sound n.name (length ps) ids body (length-map ps _) b) declares
  parts_step at (define_fun raw) c new first second before after mode (h, start, j, (w, named, declared, (u, later, k, (e, f)))) declares =
      let head = header_sound script env sound.signature.sorts raw.name raw.params raw.result h before start j in
      let d = typed.define_fun (defined h false u) in
      step_of script env c d new (with_header env h) e
      (λ known. definition_step script env sound d h false u refl (body_names script env.next env sound h raw.body u named later (env.next + 1) head.0 (omega arith) k) head.0 head.1 (λ cs m l. l) tt
      (definition_in script env.next env sound h raw.body u false named later head.0 (λ plain. ap (λ (n : DeclNo). n.0) head.1) k) (known _ (first_of (definition (defined h false u)) (names_in u)))) declares
  parts_step at (define_fun_rec raw) c new first second before after mode (h, start, j, (w, named, declared, (u, later, k, (e, f)))) declares =
      let head = header_sound script env sound.signature.sorts raw.name raw.params raw.result h before start j in
      let d = typed.define_fun_rec (defined h true u) in
      step_of script env c d new (with_header env h) e
      (λ known. (let its = known (definition (defined h true u)) (first_of (definition (defined h true u)) (names_in u)) in
      let live = header_live script env sound h u true head.0 head.1 its in
      definition_step script env sound d h true u refl (body_names script env.next (with_header env h) live h raw.body u named later (env.next + 1) head.0 (omega arith) k) head.0 head.1 (λ cs m l. l) tt
      (definition_in script env.next (with_header env h) live h raw.body u true named later head.0 (λ plain. absurd (false≢true (sym plain))) k) its)) declares
  parts_step at (define_funs_rec fs ts) c new first second before after mode (hs, start, headed, (w, named, declared, (ds, later, j, (e, f)))) declares =
      step_of script env c (typed.define_funs_rec ds) new (with_headers env hs) e (λ known. group_step at fs hs ts ds before start named later headed j known) declares
  parts_step at (get_value ts) c new first second before after mode (us, between, h, (e, f)) declares =
      let l = terms_sound script env sound ts us before between h in
      step_of script env c (typed.get_value us) new env e (λ known. quiet script env sound (typed.get_value us) env sound (λ cs k. k) refl l.1 (all_of_each (IsSoundIn script) us l.0)) declares
  parts_step at (set_logic n) c new first second before after mode (e, f) declares =
      step_of script env c (typed.set_logic n.name) new (with_logic (logic_in env n) env) e
      (λ known. quiet script env sound (typed.set_logic n.name) (with_logic (logic_in env n) env) (record { signature = record { table = sound.signature.table; sorts = sound.signature.sorts; funs = sound.signature.funs; datatypes = sound.signature.datatypes }; below = sound.below }) (λ cs k. k) refl (no_names script env.next) tt) declares
  parts_step at (set_option a) c new first second before after mode (e, f) declares =
      step_of script env c (typed.set_option (attribute_key a).name (attribute_value a)) new (after_option env a) e (λ known. option_step script env sound a (attribute_key a).name (attribute_value a)) declares
  parts_step at (push n) c new first second before after mode (e, f) declares =
      step_of script env c (typed.push (value_of env n)) new (record env { declarations = with_pushed (value_of env n) env.declarations }) e (λ known. push_step script env sound (value_of env n) mode.3.0) declares
  parts_step at (pop n) c new first second before after mode (e, f) declares =
      step_of script env c (typed.pop (value_of env n)) new (record env { declarations = with_popped (value_of env n) env.declarations }) e (λ known. pop_step script env sound (value_of env n) mode.3.0) declares
  parts_step at reset c new first second before after mode (e, f) declares = step_of script env c typed.reset new (record start_env { names = env.names; datatypes = env.datatypes; definitions = env.definitions; next = env.next }) e (λ known. reset_step script env sound) declares
  parts_step at reset_assertions c new first second before after mode (e, f) declares =
      step_of script env c typed.reset_assertions new (record env { declarations = without_assertions env.declarations }) e (λ known. forgotten_step script env sound) declares
  parts_step at raw c new first second before after mode h declares = found_step script env sound raw at c new before after h declares
