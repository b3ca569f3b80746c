-- What the parts of a command lead to, from what the calls answer.
use Rattle.std.proofs.Common.{◌≡◌, ℕ, zero, suc, ◌+◌, ◌<◌, ◌==◌, Bool, true, false, List, [], ◌∷◌, ◌++◌, map, length, take, Option, Some, None, Result, Ok, refl, ap, sym, ◌∙◌, subst, inl, inr, arith, append_assoc, slice_index_or, if◌then◌else◌}
use Rattle.std.specs.List.{All, list_any}
use Rattle.std.proofs.lemmas.List.{length-map, map-append}
use Rattle.std.proofs.lemmas.Bool.{eqb-true, false≢true}
use Rattle.lex_core.specs.declared.token.Tok.{Tok}
use Rattle.sig_table.specs.declared.code.Code.TheVariants as code
use Rattle.sexp_core.specs.Sexp.{Sexp}
use Rattle.judgement.specs.Judging.{Outcome, ill_sorted, well_sorted}
use Rattle.sort_store.specs.declared.head.DeclNo.{DeclNo}
use Rattle.sort_store.specs.Tree.{NumberedSort, tree}
use Rattle.sort_store.specs.Tree as sort_tree
use Rattle.scope_stack.specs.declared.entry.FunEntry.{FunEntry}
use Rattle.scope_stack.specs.declared.entry.FunKind.TheVariants as fun_kind
use Rattle.scope_stack.specs.declared.entry.SortEntry.{SortEntry}
use Rattle.scope_stack.specs.Environment.{Environment as Scopes}
use Rattle.scope_stack.specs.Environment as scopes
use Rattle.typer.specs.Declarations.{Declarations, declarations_of, fun_declaration, sort_declaration, with_fun, with_global, with_popped, with_pushed, with_sort}
use Rattle.typer.specs.FunctionSymbols.{is_fun_in_use, is_sort_in_use}
use Rattle.typer.proofs.ReadyKept.{schema_grown}
use Rattle.typer.specs.Ready.{IsReadySchema}
use Rattle.typer.proofs.DeclarationsByTrees.{fun_by_trees, popped_by_trees, pushed_by_trees, sort_by_trees}
use Rattle.term_grammar.specs.AttributeViews.{attribute_kind}
use Rattle.term_grammar.specs.IdentifierViews.{SplitsTokens}
use Rattle.cmd_grammar.specs.Commands.{declare_const, declare_fun, define_sort}
use Rattle.cmd_grammar.specs.Commands as commands
use Rattle.term_store.specs.declared.command.TypedCommand.TheVariants as kept
use Rattle.term_store.specs.Command.{PlainDef, plain_def}
use Rattle.term_store.specs.Command as typed
use Rattle.term_store.specs.declared.command.Def.{Def}
use Rattle.term_store.specs.declared.command.TypedCommand.{TypedCommand}
use Rattle.script_core.specs.declared.scope.StepError.{StepError}
use Rattle.term_store.specs.Value.{unplaced_value}
use Rattle.term_grammar.specs.Syntax.{Sort, Sorts, Attribute, keyword_attribute, valued_attribute}
use Rattle.term_grammar.specs.declared.attribute.RawAttributeKind.TheVariants as kind
use Rattle.term_grammar.specs.declared.words.TheConstants.{GLOBAL_DECLARATIONS}
use Rattle.script_core.specs.declared.scope.Scope.{Scope}
use Rattle.script_core.specs.Checking.{environment_of}
use Rattle.script_core.specs.Effects.{AnswersParts, AnswersSort, AnswersSorts, MeetsParts, OnlySortsGrow}
use Rattle.script_core.specs.Environment.{Environment, signature_in}
use Rattle.script_core.specs.RuleAnswers.{tokens_left}
use Rattle.script_core.specs.Rules.{after_option, is_true, judge_params, next_number, value_of, with_defined_sort, with_function, with_name, with_names_given}
use Rattle.typer.specs.TermRules.{attribute_key, attribute_value}
use Rattle.script_core.proofs.ReadyScopes.{with_scopes, with_store}

-- the environment where declarations have changed
pub declared_env : (names : List (List ℕ)) (old : Scope) (s : Scopes) (next : ℕ) (d : Declarations) → declarations_of s ≡ d
    → environment_of names (record (with_scopes s old) { next = next }) ≡ record (environment_of names old) { declarations = d; next = next }
declared_env names old s next d e = ap (λ (x : Declarations). record (environment_of names old) { declarations = x; next = next }) e

pub added_env : (names : List (List ℕ)) (old : Scope) (s : Scopes) (next : ℕ) (d : Declarations) → declarations_of s ≡ d → next ≡ old.next + 1
    → environment_of names (record (with_scopes s old) { next = next }) ≡ record (environment_of names old) { declarations = d; next = old.next + 1 }
added_env names old s next d e more = declared_env names old s next d e ∙ ap (λ (n : ℕ). record (environment_of names old) { declarations = d; next = n }) more

pub fun_added : (name : ℕ) (d : FunEntry) (old s : Scopes) → s ≡ scopes.with_fun name d old → declarations_of s ≡ with_fun name (fun_declaration d) (declarations_of old)
fun_added name d old s e = ap declarations_of e ∙ fun_by_trees name d old

pub sort_added : (name : ℕ) (d : SortEntry) (old s : Scopes) → s ≡ scopes.with_sort name d old → declarations_of s ≡ with_sort name (sort_declaration d) (declarations_of old)
sort_added name d old s e = ap declarations_of e ∙ sort_by_trees name d old

pub levels_pushed : (n : ℕ) (old s : Scopes) → s ≡ scopes.with_pushed n old → declarations_of s ≡ with_pushed n (declarations_of old)
levels_pushed n old s e = ap declarations_of e ∙ pushed_by_trees n old

pub levels_popped : (n : ℕ) (old s : Scopes) → s ≡ scopes.with_popped n old → declarations_of s ≡ with_popped n (declarations_of old)
levels_popped n old s e = ap declarations_of e ∙ popped_by_trees n old

-- nothing but sorts is new
pub same_names : (old new : Scope) → OnlySortsGrow old new → new.world.names ≡ old.world.names
same_names old new g = ap (λ (s : Scope). s.world.names) g.others

pub here_env : (old new : Scope) → OnlySortsGrow old new → environment_of new.world.names new ≡ environment_of old.world.names old
here_env old new g = ap (λ (s : Scope). environment_of s.world.names s) g.others

-- an option that sets the global flag, another one, and one without a value
after_valued : (env : Environment) (a : Attribute) (k : Tok) (v : Sexp Tok) → attribute_kind a ≡ kind.Valued k v → a ≡ valued_attribute k v
after_valued env (keyword_attribute j) k v e = cc
after_valued env (valued_attribute j u) k v e = cc

chosen : (env : Environment) (b : Bool) (v : Sexp Tok) → b ≡ true → record env { declarations = with_global (is_true v) env.declarations } ≡ (if b then record env { declarations = with_global (is_true v) env.declarations } else env)
chosen env true v e = refl
chosen env false v e = cc

left_alone : (env : Environment) (b : Bool) (v : Sexp Tok) → (b ≡ true → ⊥) → env ≡ (if b then record env { declarations = with_global (is_true v) env.declarations } else env)
left_alone env true v e = absurd (e refl)
left_alone env false v e = refl

pub option_set : (names : List (List ℕ)) (old : Scope) (s : Scopes) (on : Bool) (a : Attribute) (k : Tok) (v : Sexp Tok) → s ≡ scopes.with_global on old.world.scopes → on ≡ is_true v → attribute_kind a ≡ kind.Valued k v
    → k.name ≡ GLOBAL_DECLARATIONS → environment_of names (with_scopes s old) ≡ after_option (environment_of names old) a
option_set names old s on a k v set true_is e named =
    let env = environment_of names old in
    ap (λ (x : Scopes). environment_of names (with_scopes x old)) set
    ∙ (ap (λ (b : Bool). record env { declarations = with_global b env.declarations }) true_is
    ∙ (chosen env (k.name == GLOBAL_DECLARATIONS) v (ap (λ (n : ℕ). n == GLOBAL_DECLARATIONS) named)
    ∙ ap (after_option env) (sym (after_valued env a k v e))))

pub option_other : (env : Environment) (a : Attribute) (k : Tok) (v : Sexp Tok) → attribute_kind a ≡ kind.Valued k v → (k.name ≡ GLOBAL_DECLARATIONS → ⊥) → env ≡ after_option env a
option_other env a k v e other =
    left_alone env (k.name == GLOBAL_DECLARATIONS) v (λ h. other (eqb-true k.name GLOBAL_DECLARATIONS h)) ∙ ap (after_option env) (sym (after_valued env a k v e))

pub option_alone : (env : Environment) (a : Attribute) (k : Tok) → attribute_kind a ≡ kind.Keyword k → env ≡ after_option env a
option_alone env (keyword_attribute j) k e = refl
option_alone env (valued_attribute j u) k e = cc

-- the parameters that are left, after some that are not repeated
pub param_step : (ids : List ℕ) (p : Tok) (ps : List Tok) → list_any (λ n. n == p.name) ids ≡ false → (o : Outcome (Unit {0})) → judge_params (ids ++ p.name ∷ []) ps [] o → judge_params ids (p ∷ ps) [] o
param_step ids p ps e (well_sorted u after) h = (tt, [], (e, refl), h)
param_step ids p ps e (ill_sorted place) h = inr (tt, [], (e, refl), h)

pub param_repeated : (ids : List ℕ) (p : Tok) (ps : List Tok) → list_any (λ n. n == p.name) ids ≡ true → judge_params ids (p ∷ ps) [] (ill_sorted (record { code = code.RepeatedVariable; at = p.at }))
param_repeated ids p ps e = inl ((λ h. false≢true (sym h ∙ e)), refl)

tokens_split : (ts : List Tok) (o : Option (Tok × List Tok)) → SplitsTokens ts o → ts ≡ tokens_left o
tokens_split ts None e = e
tokens_split ts (Some p) e = e

-- one parameter more
pub params_onward : (ids new : List ℕ) (all left : List Tok) (p : Tok) (rest : List Tok) (next : Option (Tok × List Tok)) → left ≡ p ∷ rest → SplitsTokens rest next → list_any (λ n. n == p.name) ids ≡ false → new ≡ ids ++ p.name ∷ []
    → ((o : Outcome (Unit {0})) → judge_params ids left [] o → judge_params [] all [] o) → (o : Outcome (Unit {0})) → judge_params new (tokens_left next) [] o → judge_params [] all [] o
params_onward ids new all left p rest next e split fresh more onward o h =
    onward o (subst (λ (ts : List Tok). judge_params ids ts [] o) (sym e) (param_step ids p rest fresh o
    (subst (λ (ts : List Tok). judge_params (ids ++ p.name ∷ []) ts [] o) (sym (tokens_split rest next split)) (subst (λ (ns : List ℕ). judge_params ns (tokens_left next) [] o) more h))))

pub names_onward : (ids new : List ℕ) (all left : List Tok) (p : Tok) (rest : List Tok) (next : Option (Tok × List Tok)) → left ≡ p ∷ rest → SplitsTokens rest next → new ≡ ids ++ p.name ∷ []
    → ids ++ map (λ q. q.name) left ≡ map (λ q. q.name) all → new ++ map (λ q. q.name) (tokens_left next) ≡ map (λ q. q.name) all
names_onward ids new all left p rest next e split more names =
    ap (λ (ns : List ℕ). ns ++ map (λ q. q.name) (tokens_left next)) more
    ∙ (append_assoc ids (p.name ∷ []) (map (λ q. q.name) (tokens_left next))
    ∙ (ap (λ (ts : List Tok). ids ++ p.name ∷ map (λ q. q.name) ts) (sym (tokens_split rest next split))
    ∙ (ap (λ (ts : List Tok). ids ++ map (λ q. q.name) ts) (sym e) ∙ names)))

-- a parameter is repeated
pub params_broken : (ids : List ℕ) (all left : List Tok) (p : Tok) (rest : List Tok) → left ≡ p ∷ rest → list_any (λ n. n == p.name) ids ≡ true
    → ((o : Outcome (Unit {0})) → judge_params ids left [] o → judge_params [] all [] o) → judge_params [] all [] (ill_sorted (record { code = code.RepeatedVariable; at = p.at }))
params_broken ids all left p rest is seen onward =
    let fault = ill_sorted (record { code = code.RepeatedVariable; at = p.at }) in onward fault (subst (λ (ts : List Tok). judge_params ids ts [] fault) (sym is) (param_repeated ids p rest seen))

pub no_items : {X : Type 0} (xs : List X) → length xs ≡ 0 → xs ≡ []
no_items [] e = refl
no_items (x ∷ xs) e = absurd (omega (arith, e))

-- sorts that may stand in a declaration still may where sorts are new
pub schemas_later : (old new : Scope) (rs : List NumberedSort) → OnlySortsGrow old new → All (IsReadySchema old.world.names old.world.sorts 0) rs → All (IsReadySchema new.world.names new.world.sorts 0) rs
schemas_later old new rs g h =
    λ k d l. subst (λ (ns : List (List ℕ)). IsReadySchema ns new.world.sorts 0 (slice_index_or rs k d)) (sym (same_names old new g)) (schema_grown old.world.names old.world.sorts new.world.sorts g.grows 0 _ (h k d l))

pub same_pair : {A B : Type 0} (a b : A) (x y : B) → a ≡ b → x ≡ y → ◌≡◌ {A = A × B} (a, x) (b, y)
same_pair a b x y e f = cc

-- the number of a declaration
pub number_kept : (old near : Scope) (given : DeclNo) → OnlySortsGrow old near → given ≡ record { 0 = near.next } → given ≡ next_number (environment_of old.world.names old)
number_kept old near given more e = e ∙ ap (λ (s : Scope). next_number (environment_of s.world.names s)) more.others

-- levels that are pushed or popped
pub push_answer : (old new : Scope) (at n : ℕ) (count : Tok) → n ≡ value_of (environment_of old.world.names old) count
    → environment_of old.world.names new ≡ record (environment_of old.world.names old) { declarations = with_pushed n (declarations_of old.world.scopes) }
    → AnswersParts (environment_of old.world.names old) at (commands.push count) (Ok (kept.Push n)) (environment_of old.world.names new)
push_answer old new at n count value effect =
    let env = environment_of old.world.names old in
    (same_pair _ _ _ _ (ap typed.push value) (effect ∙ ap (λ (m : ℕ). record env { declarations = with_pushed m (declarations_of old.world.scopes) }) value), refl)

pub pop_answer : (old new : Scope) (at n : ℕ) (count : Tok) → n ≡ value_of (environment_of old.world.names old) count
    → environment_of old.world.names new ≡ record (environment_of old.world.names old) { declarations = with_popped n (declarations_of old.world.scopes) }
    → AnswersParts (environment_of old.world.names old) at (commands.pop count) (Ok (kept.Pop n)) (environment_of old.world.names new)
pop_answer old new at n count value effect =
    let env = environment_of old.world.names old in
    (same_pair _ _ _ _ (ap typed.pop value) (effect ∙ ap (λ (m : ℕ). record env { declarations = with_popped m (declarations_of old.world.scopes) }) value), refl)

-- the declaration of a constant, once its sort is made
pub const_answer : (old near new : Scope) (at : ℕ) (n : Tok) (s : Sort) (args : List NumberedSort) (sort copy : NumberedSort) (given : DeclNo)
    → is_fun_in_use (signature_in (environment_of old.world.names old)) n.name ≡ false → AnswersSort (environment_of old.world.names old) [] s (Ok sort) → OnlySortsGrow old near → args ≡ []
    → environment_of near.world.names new ≡ with_function (environment_of near.world.names near) n.name (map tree args) (tree sort)
    → given ≡ record { 0 = near.next } → copy ≡ sort → AnswersParts (environment_of old.world.names old) at (declare_const n s) (Ok (kept.DeclareConst given n.name copy)) (environment_of old.world.names new)
const_answer old near new at n s args sort copy given fresh sorted more none effect number same =
    let env = environment_of old.world.names old in
    let command : typed.declare_const given n.name (tree copy) ≡ typed.declare_const (next_number env) n.name (tree sort) =
    ap (λ (d : DeclNo). typed.declare_const d n.name (tree copy)) (number_kept old near given more number) ∙ ap (λ (r : NumberedSort). typed.declare_const (next_number env) n.name (tree r)) same in (
      tt,
      [],
      (fresh, refl),
      (
        tree sort,
        [],
        sorted,
        (
          same_pair _ _ _ _ command (ap (λ (ns : List (List ℕ)). environment_of ns new) (sym (same_names old near more)) ∙ (effect
              ∙ (ap (λ (e : Environment). with_function e n.name (map tree args) (tree sort)) (here_env old near more) ∙ ap (λ (rs : List NumberedSort). with_function env n.name (map tree rs) (tree sort)) none))),
          refl,
        ),
      ),
    )

-- the declaration of a function, once its sorts are made
pub fun_answer : (old mid near new : Scope) (at : ℕ) (n : Tok) (ss : Sorts) (s : Sort) (args copies : List NumberedSort) (sort copy : NumberedSort) (given : DeclNo)
    → is_fun_in_use (signature_in (environment_of old.world.names old)) n.name ≡ false → AnswersSorts (environment_of old.world.names old) ss (Ok args) → OnlySortsGrow old mid
    → AnswersSort (environment_of mid.world.names mid) [] s (Ok sort) → OnlySortsGrow mid near
    → environment_of near.world.names new ≡ with_function (environment_of near.world.names near) n.name (map tree args) (tree sort)
    → given ≡ record { 0 = near.next } → copies ≡ args → copy ≡ sort
    → AnswersParts (environment_of old.world.names old) at (declare_fun n ss s) (Ok (kept.DeclareFun given n.name copies copy)) (environment_of old.world.names new)
fun_answer old mid near new at n ss s args copies sort copy given fresh sorted_args grown sorted more effect number same_args same =
    let env = environment_of old.world.names old in
    let here = here_env old mid grown in
    let names : near.world.names ≡ old.world.names = same_names mid near more ∙ same_names old mid grown in
    let given_is : given ≡ next_number env = number_kept mid near given more number ∙ ap next_number here in
    let command : typed.declare_fun given n.name (map tree copies) (tree copy) ≡ typed.declare_fun (next_number env) n.name (map tree args) (tree sort) =
    ap (λ (d : DeclNo). typed.declare_fun d n.name (map tree copies) (tree copy)) given_is
    ∙ (ap (λ (rs : List NumberedSort). typed.declare_fun (next_number env) n.name (map tree rs) (tree copy)) same_args ∙ ap (λ (r : NumberedSort). typed.declare_fun (next_number env) n.name (map tree args) (tree r)) same) in (
      tt,
      [],
      (fresh, refl),
      (
        map tree args,
        [],
        sorted_args,
        (
          tree sort,
          [],
          subst (λ (e : Environment). AnswersSort e [] s (Ok sort)) here sorted,
          (
            same_pair _ _ _ _ command
                (ap (λ (ns : List (List ℕ)). environment_of ns new) (sym names) ∙ (effect ∙ ap (λ (e : Environment). with_function e n.name (map tree args) (tree sort)) (here_env mid near more ∙ here))),
            refl,
          ),
        ),
      ),
    )

-- the definition of a sort, once its body is made
pub sort_answer : (old near new : Scope) (at : ℕ) (n : Tok) (ps : List Tok) (s : Sort) (ids : List ℕ) (sort copy : NumberedSort) (count : ℕ)
    → is_sort_in_use (signature_in (environment_of old.world.names old)) n.name ≡ false → judge_params [] ps [] (well_sorted tt []) → ids ≡ map (λ q. q.name) ps
    → AnswersSort (environment_of old.world.names old) ids s (Ok sort) → OnlySortsGrow old near → count ≡ length ids
    → environment_of near.world.names new ≡ with_defined_sort (environment_of near.world.names near) n.name count (tree sort)
    → copy ≡ sort → AnswersParts (environment_of old.world.names old) at (define_sort n ps s) (Ok (kept.DefineSort n.name ids copy)) (environment_of old.world.names new)
sort_answer old near new at n ps s ids sort copy count fresh apart named sorted more counted effect same =
    let number : count ≡ length ps = counted ∙ (ap length named ∙ length-map ps _) in
    let command : typed.define_sort n.name ids (tree copy) ≡ typed.define_sort n.name (map (λ q. q.name) ps) (tree sort) =
    ap (λ (ns : List ℕ). typed.define_sort n.name ns (tree copy)) named ∙ ap (λ (r : NumberedSort). typed.define_sort n.name (map (λ q. q.name) ps) (tree r)) same in (
      tt,
      [],
      (fresh, refl),
      (
        tt,
        [],
        apart,
        (
          tree sort,
          [],
          subst (λ (ns : List ℕ). AnswersSort (environment_of old.world.names old) ns s (Ok sort)) named sorted,
          (
            same_pair _ _ _ _ command (ap (λ (ns : List (List ℕ)). environment_of ns new) (sym (same_names old near more)) ∙ (effect
                ∙ (ap (λ (e : Environment). with_defined_sort e n.name count (tree sort)) (here_env old near more) ∙ ap (λ (m : ℕ). with_defined_sort (environment_of old.world.names old) n.name m (tree sort)) number))),
            refl,
          ),
        ),
      ),
    )

-- an option is set, and kept with its value
pub option_answer : (env after : Environment) (at : ℕ) (a : Attribute) (key : ℕ) (value : Option (Sexp Tok)) → key ≡ (attribute_key a).name → unplaced_value value ≡ attribute_value a → after ≡ after_option env a
    → AnswersParts env at (commands.set_option a) (Ok (kept.SetOption key value)) after
option_answer env after at a key value named valued effect =
    (same_pair _ _ _ _ (ap (λ (k : ℕ). typed.set_option k (unplaced_value value)) named ∙ ap (λ (v : Option (Sexp Tok)). typed.set_option (attribute_key a).name v) valued) effect, refl)

abbrev named_env : List (List ℕ) → Scope → Def → List sort_tree.Sort → sort_tree.Sort → Environment
named_env names old d args result = record (environment_of names old) {
  declarations = with_fun d.name (record { number = d.no; kind = fun_kind.Named; params = 0; args = args; result = result }) (declarations_of old.world.scopes);
  next = old.next + 1;
}

-- a named term is live
pub name_added : (names : List (List ℕ)) (old : Scope) (store : List sort_tree.Sort) (s : Scopes) (next : ℕ) (d : Def) (args : List NumberedSort) (made : NumberedSort) → args ≡ []
    → s ≡ scopes.with_fun d.name (record { no = d.no; kind = fun_kind.Named; params = 0; args = args; result = made }) old.world.scopes → next ≡ old.next + 1 → tree made ≡ tree d.result
    → environment_of names (record (with_scopes s (with_store store old)) { next = next }) ≡ with_name (environment_of names old) (plain_def d)
name_added names old store s next d args made none e more same =
    added_env names (with_store store old) s next _ (fun_added d.name (record { no = d.no; kind = fun_kind.Named; params = 0; args = args; result = made }) old.world.scopes s e) more
    ∙ (ap (λ (rs : List NumberedSort). named_env names old d (map tree rs) (tree made)) none ∙ ap (λ (r : sort_tree.Sort). named_env names old d [] r) same)

-- a command that has declared no name
pub unnamed_parts : (env new : Environment) (at : ℕ) (c : commands.Command) (r : Result TypedCommand StepError) (after : List ℕ) → after ≡ [] → AnswersParts env at c r new → MeetsParts env at c r new after
unnamed_parts env new at c r after none h = subst (MeetsParts env at c r new) (sym none) h

names_more : (env : Environment) (ds : List PlainDef) (d : PlainDef) → with_names_given env (ds ++ d ∷ []) ≡ with_name (with_names_given env ds) d
names_more env [] d = refl
names_more env (x ∷ ds) d = names_more (with_name env x) ds d

take_at : (xs : List Def) (i : ℕ) (x : Def) → i < length xs → x ≡ slice_index_or xs i x → take (suc i) xs ≡ take i xs ++ x ∷ []
take_at [] i x l e = absurd (omega (arith, l))
take_at (y ∷ ys) zero x l e = ap (λ (z : Def). z ∷ []) (sym e)
take_at (y ∷ ys) (suc i) x l e = ap (λ (zs : List Def). y ∷ zs) (take_at ys i x (omega (arith, l)) e)

-- one more named term is live
pub names_on : (old here after : Scope) (named : List Def) (i n : ℕ) (d : Def) → n ≡ suc i → i < length named → d ≡ slice_index_or named i d → here.world.names ≡ old.world.names
    → environment_of old.world.names here ≡ with_names_given (environment_of old.world.names old) (map plain_def (take i named))
    → environment_of here.world.names after ≡ with_name (environment_of here.world.names here) (plain_def d)
    → environment_of old.world.names after ≡ with_names_given (environment_of old.world.names old) (map plain_def (take n named))
names_on old here after named i n d next few at names reached effect =
    let start = environment_of old.world.names old in
    subst (λ (ns : List (List ℕ)). environment_of ns after ≡ with_name (environment_of ns here) (plain_def d)) names effect
    ∙ (ap (λ (e : Environment). with_name e (plain_def d)) reached
    ∙ sym (ap (λ (m : ℕ). with_names_given start (map plain_def (take m named))) next ∙ (ap (λ (ds : List Def). with_names_given start (map plain_def ds)) (take_at named i d few at)
    ∙ (ap (with_names_given start) (map-append plain_def (take i named) (d ∷ [])) ∙ names_more start (map plain_def (take i named)) (plain_def d)))))
