-- What the rules answer as functions is what the relation of the rules says.
use Rattle.std.proofs.Common.{◌≡◌, ◌⊎◌, ℕ, zero, suc, ◌+◌, ◌≤◌, nat_le, take, Bool, true, false, not, ◌&&◌, ◌==◌, ◌<◌, List, [], ◌∷◌, ◌++◌, length, map, append_assoc, append-nil, Result, Ok, Err, IsTrue, refl, ap, sym, ◌∙◌, subst, inl, inr, arith}
use Rattle.std.specs.Option.{IsSome, is_some, option_map}
use Rattle.std.proofs.lemmas.Bool.{false≢true, le-leb, leb-true}
use Rattle.std.proofs.lemmas.List.{length-map, map-append}
use Rattle.std.proofs.Math.Seq.{take-length}
use Rattle.lex_core.specs.declared.place.Place.{Place}
use Rattle.lex_core.specs.declared.token.Tok.{Tok}
use Rattle.sig_table.specs.declared.code.Code.{Code}
use Rattle.sig_table.specs.declared.code.Code.TheVariants as code
use Rattle.sexp_core.specs.Sexp.{FlatToken, Opening, Closing, Word, Sexp, atom, list, Sexps, cons, nil, flat, flat_all}
use Rattle.judgement.specs.Judging.{Judging, Outcome, ◌>>=◌, check, done, ill_sorted, well_sorted}
use Rattle.term_grammar.specs.declared.words.TheConstants.{GLOBAL_DECLARATIONS}
use Rattle.term_grammar.specs.Reads.{byte_of}
use Rattle.term_store.specs.Command.{PlainCommand, PlainDef, plain_command, plain_datatype, plain_def}
use Rattle.term_store.specs.Declarations.{datatype, declared_by, declared_in, joined, number_given, of_group, parts_of}
use Rattle.term_store.specs.Definitions.{Definitions}
use Rattle.term_store.specs.declared.command.Datatype.{Datatype}
use Rattle.term_store.specs.declared.command.TypedCommand.TheVariants as kept
use Rattle.term_store.specs.declared.command.Def.{Def}
use Rattle.logic_frag.specs.Following.{plain_defs}
use Rattle.logic_frag.specs.Logics.{described}
use Rattle.cmd_grammar.specs.Commands.{Command, FunDec, SortDec, declare_const, declare_datatype, declare_datatypes, declare_fun, declare_sort, define_fun, define_fun_rec, define_funs_rec, define_sort, echo, exit, get_info, get_option, pop, push, reset, set_info, set_logic, set_option}
use Rattle.cmd_grammar.specs.CommandReads.{read_command}
use Rattle.cmd_grammar.specs.Grammar.{ReadsCommand, ReadsEach, ReadsFunDec, ReadsSortDec}
use Rattle.datatype_commands.specs.Answers.{HaveNames}
use Rattle.cmd_grammar.proofs.GrammarAgrees.{found_fault, found_reads}
use Rattle.cmd_grammar.specs.CommandAnswers.{Answers as ReadAnswers}
use Rattle.cmd_grammar.specs.declared.command.GrError.{GrError}
use Rattle.cmd_grammar.specs.declared.command.GrError.TheVariants as grammar
use Rattle.typer.specs.Declarations.{depth}
use Rattle.script_core.specs.declared.refusal.Progress.{Progress}
use Rattle.script_core.specs.declared.scope.StepError.{StepError}
use Rattle.script_core.specs.declared.scope.StepError.TheVariants as error
use Rattle.term_store.specs.Script.{Kept, commands_of}
use Rattle.term_store.specs.declared.command.TypedCommand.{TypedCommand}
use Rattle.script_core.specs.declared.scope.Scope.{Scope}
use Rattle.script_core.specs.declared.scope.Taken.{Taken}
use Rattle.script_core.specs.Checking.{AnswersTree, TakesTree, environment_of, environment_with, progress_of}
use Rattle.script_core.specs.Effects.{Answers, AreNamed, IsDeclaredNamed, IsInMode, IsSameTo, Meets, MeetsParts}
use Rattle.script_core.specs.Environment.{Environment, logic_in}
use Rattle.script_core.specs.Interned.{AreInterned}
use Rattle.script_core.specs.Keeping.{EachUnused, KeepsBelow, KeepsDefined, KeepsEarlier, KeepsPart, datatypes_in, defined_in, definitions_in, group_in, with_datatypes, with_definitions}
use Rattle.script_core.specs.RuleAnswers.{Answer, answer_mode, both, test}
use Rattle.script_core.specs.Rules.{judge_mode, judge_own, judge_parts, judge_whole, named_by, value_of, with_names_given}
use Rattle.typer.specs.TermRules.{attribute_key}
use Rattle.typer.specs.FunctionSymbols.{datatypes_of}
use Rattle.script_core.specs.Steps.{is_exit, judge_own_tree, judge_tree}
use Rattle.script_core.proofs.KeptNumbers.{each_unused, group_earlier, part_earlier, same_earlier}
use Rattle.script_core.proofs.NamedLogic.{logic_of_parts}
use Rattle.script_core.proofs.NamedWalks.{defined_joined}
use Rattle.script_core.proofs.PlainParts.{with_none}
use Rattle.script_core.proofs.QuietRules.{none-whole}
use Rattle.script_core.proofs.SetLogics.{some_described}
use Rattle.script_core.proofs.SoundNumbers.{AscendFrom, AscendTo, ascend_first, ascend_from}
use Rattle.script_core.proofs.GroupNumbers.{datatypes_joined, group_declared}
use Rattle.script_core.proofs.StepNumbers.{IsNumberedStep, all_definitions, declared_split, definitions_ascend, own_by, parts_begin, parts_numbered, tree_numbered}

-- the judgement has this outcome, where no name is declared
abbrev pub IsMet : {A : Type 0} → Judging A → Result A Place → Type 0
IsMet J (Ok x) = J [] (well_sorted x [])
IsMet J (Err place) = J [] (ill_sorted place)

then_met : (J K : Judging (Unit {0})) (r s : Answer) → IsMet J r → IsMet K s → IsMet (J >>= λ u. K) (both r s)
then_met J K (Ok u) (Ok v) j k = (tt, [], j, k)
then_met J K (Ok u) (Err p) j k = inr (tt, [], j, k)
then_met J K (Err p) s j k = inl j

test_met : (P : Type 0) (b : Bool) (rule : Code) (at : ℕ) → (b ≡ true → P) → (b ≡ false → P → ⊥) → IsMet (check P rule at) (test b rule at)
test_met P true rule at met unmet = (met refl, refl)
test_met P false rule at met unmet = (unmet refl, refl)

-- a test that is the rule
is_met : (b : Bool) (rule : Code) (at : ℕ) → IsMet (check (IsTrue b) rule at) (test b rule at)
is_met b rule at = test_met (IsTrue b) b rule at (λ e. e) (λ e h. false≢true (sym e ∙ h))

not_met : (b : Bool) (rule : Code) (at : ℕ) → IsMet (check (b ≡ false) rule at) (test (not b) rule at)
not_met true rule at = ((λ e. false≢true (sym e)), refl)
not_met false rule at = (refl, refl)

most_met : (m n : ℕ) (rule : Code) (at : ℕ) → IsMet (check (m ≤ n) rule at) (test (nat_le m n) rule at)
most_met m n rule at = test_met (m ≤ n) (nat_le m n) rule at (leb-true m n) (λ e h. false≢true (sym e ∙ le-leb m n h))

mode_met : (env : Environment) (at : ℕ) (c : Command) → IsMet (judge_mode env at c) (answer_mode env at c)
mode_met env at (set_logic n) =
    let known = is_some (logic_in env n) in let set = is_some env.logic in
    then_met (check (set ≡ false) code.LogicAlreadySet at) (check (IsTrue known) code.UnknownLogic at)
    (test (not set) code.LogicAlreadySet at) (test known code.UnknownLogic at) (not_met set code.LogicAlreadySet at) (is_met known code.UnknownLogic at)
mode_met env at (set_option a) = not_met (((attribute_key a).name == GLOBAL_DECLARATIONS) && is_some env.logic) code.GlobalOptionTooLate at
mode_met env at (set_info a) = (refl, refl)
mode_met env at (get_option k) = (refl, refl)
mode_met env at (get_info k) = (refl, refl)
mode_met env at (echo t) = (refl, refl)
mode_met env at reset = (refl, refl)
mode_met env at exit = (refl, refl)
mode_met env at (push n) =
    let set = is_some env.logic in
    then_met (check (IsTrue set) code.LogicNotSet at) (check (depth env.declarations + value_of env n ≤ 65535) code.TooManyLevels at)
    (test set code.LogicNotSet at) (test (nat_le (depth env.declarations + value_of env n) 65535) code.TooManyLevels at)
    (is_met set code.LogicNotSet at) (most_met (depth env.declarations + value_of env n) 65535 code.TooManyLevels at)
mode_met env at (pop n) =
    let set = is_some env.logic in
    then_met (check (IsTrue set) code.LogicNotSet at) (check (value_of env n ≤ depth env.declarations) code.TooFewLevels at)
    (test set code.LogicNotSet at) (test (nat_le (value_of env n) (depth env.declarations)) code.TooFewLevels at)
    (is_met set code.LogicNotSet at) (most_met (value_of env n) (depth env.declarations) code.TooFewLevels at)
mode_met env at c = is_met (is_some env.logic) code.LogicNotSet at

-- a logic is set, or none, where the mode is right
first_right : (r s : Answer) → both r s ≡ Ok tt → r ≡ Ok tt
first_right (Ok u) s e = refl
first_right (Err place) s e = cc

test_right : (b : Bool) (rule : Code) (at : ℕ) → test b rule at ≡ Ok tt → IsTrue b
test_right true rule at e = refl
test_right false rule at e = cc

unset_right : (b : Bool) (rule : Code) (at : ℕ) → test (not b) rule at ≡ Ok tt → b ≡ false
unset_right true rule at e = cc
unset_right false rule at e = refl

in_mode : (env : Environment) (at : ℕ) (c : Command) → answer_mode env at c ≡ Ok tt → IsInMode (is_some env.logic) c
in_mode env at (set_logic n) e = unset_right (is_some env.logic) code.LogicAlreadySet at (first_right _ _ e)
in_mode env at (set_option a) e = tt
in_mode env at (set_info a) e = tt
in_mode env at (get_option k) e = tt
in_mode env at (get_info k) e = tt
in_mode env at (echo t) e = tt
in_mode env at reset e = tt
in_mode env at exit e = tt
in_mode env at (push n) e = test_right (is_some env.logic) code.LogicNotSet at (first_right _ _ e)
in_mode env at (pop n) e = test_right (is_some env.logic) code.LogicNotSet at (first_right _ _ e)
in_mode env at c e = test_right (is_some env.logic) code.LogicNotSet at e

-- .. and so it is in the scope, before the names of the command are counted and after
pub command_in_mode : (old here : Scope) (at : ℕ) (c : Command) → answer_mode (environment_of old.world.names old) at c ≡ Ok tt → IsSameTo old here → IsInMode (is_some here.logic) c
command_in_mode old here at c e same =
    subst (λ (b : Bool). IsInMode b c) (ap (λ (v : Environment). is_some v.logic) (sym same) ∙ some_described here.logic) (in_mode (environment_of old.world.names old) at c e)

-- the typed command, as it is answered
abbrev pub typed_in : Environment → TypedCommand → PlainCommand × Environment
typed_in env c = (plain_command c, env)

-- .. with its named terms, once its definitions are kept
abbrev pub taken_in : Scope → Scope → Taken → PlainCommand × Environment
taken_in old new taken = (plain_command taken.command, environment_with old new (plain_command taken.command))

-- what a tree leads to before its named terms are live
abbrev pub MeetsOwn : Environment → Sexp Tok → Result TypedCommand StepError → Environment → List ℕ → Type 0
MeetsOwn env t result new after = Meets (judge_own_tree env t) (typed_in new) result [] after

abbrev pub MeetsTree : Scope → Sexp Tok → Result Taken StepError → Scope → List ℕ → Type 0
MeetsTree old t result new after = Meets (judge_tree (environment_of old.world.names old) t) (taken_in old new) result [] after

-- what the environment allows, as the program judges it
abbrev pub judge_under : Environment → ℕ → PlainCommand → Judging (Unit {0})
judge_under env at c = judge_whole env.logic env.names env.definitions at c

abbrev pub MeetsWhole : Environment → ℕ → PlainCommand → Result (Unit {0}) StepError → Type 0
MeetsWhole env at c result = Answers (judge_under env at c) (λ u. tt) result

-- the parts of a command, and the rules on it as a whole
abbrev judge_rest : Environment → ℕ → Command → Judging (PlainCommand × Environment)
judge_rest env at c = judge_parts env at c >>= (λ made. judge_under env at made.0 >>= (λ w. done made))

-- the scope has changed in nothing that the rules on a whole command look at
pub whole_moved : (old new : Scope) (defs : Definitions) (at : ℕ) (c : TypedCommand) (r : Result (Unit {0}) StepError) → new.world.names ≡ old.world.names → plain_defs defs ≡ plain_defs old.world.script.defs
    → Answers (judge_whole (option_map described old.logic) new.world.names (plain_defs defs) at (plain_command c)) (λ u. tt) r → MeetsWhole (environment_of old.world.names old) at (plain_command c) r
whole_moved old new defs at c r names same h =
    subst (λ (ns : List (List ℕ)). Answers (judge_whole (option_map described old.logic) ns (plain_defs old.world.script.defs) at (plain_command c)) (λ u. tt) r) names
    (subst (λ (ds : List PlainDef). Answers (judge_whole (option_map described old.logic) new.world.names ds at (plain_command c)) (λ u. tt) r) same h)

-- no definition comes with the datatypes of a group
pub same_definitions : (old new : Kept) (defs : Definitions) (c : TypedCommand) → defs ≡ new.defs → new ≡ with_datatypes old (group_in c) → plain_defs defs ≡ plain_defs old.defs
same_definitions old new defs c here grown = ap plain_defs here ∙ ap (λ (k : Kept). plain_defs k.defs) grown

-- the tree is read as no command
pub tree_no_command : (env new : Environment) (after : List ℕ) (t : Sexp Tok) (e : GrError) (p : Place) → e ≡ grammar.Fault p → ReadAnswers t (Err e) → MeetsOwn env t (Err (error.Broken p)) new after
tree_no_command env new after t e p is h = inl (found_fault t p (subst (λ (x : GrError). ReadAnswers t (Err x)) is h))

-- the tree is read as a command whose mode breaks a rule
pub tree_broken : (env new : Environment) (after : List ℕ) (t : Sexp Tok) (c : Command) (at : ℕ) (p : Place) → read_command t ≡ Ok c → at ≡ byte_of t → answer_mode env at c ≡ Err p → MeetsOwn env t (Err (error.Broken p)) new after
tree_broken env new after t c at p read here says =
    inr (c, [], (found_reads t c read, refl), inl (subst (IsMet (judge_mode env (byte_of t) c)) (subst (λ (n : ℕ). answer_mode env n c ≡ Err p) here says) (mode_met env (byte_of t) c)))

-- the parts of a command, from the scope in which its names are counted
pub parts_moved : (old here new : Scope) (at : ℕ) (c : Command) (r : Result TypedCommand StepError) (after : List ℕ) → IsSameTo old here → here.world.names ≡ old.world.names
    → MeetsParts (environment_of here.world.names here) at c r (environment_of here.world.names new) after → MeetsParts (environment_of old.world.names old) at c r (environment_of old.world.names new) after
parts_moved old here new at c r after same names h =
    subst (λ (e : Environment). MeetsParts e at c r (environment_of old.world.names new) after) same (subst (λ (ns : List (List ℕ)). MeetsParts (environment_of here.world.names here) at c r (environment_of ns new) after) names h)

-- A tree that is read as a command, whose mode is right.
module _ (env new : Environment) (after : List ℕ) (t : Sexp Tok) (c : Command) (at : ℕ) (read : read_command t ≡ Ok c) (here : at ≡ byte_of t) (says : answer_mode env at c ≡ Ok tt) where
  command_after : (o : Outcome (PlainCommand × Environment)) → judge_rest env at c [] o → judge_own env at c [] o
  command_after o rest = met o (subst (IsMet (judge_mode env at c)) says (mode_met env at c)) rest
    where
      met : (o : Outcome (PlainCommand × Environment)) → IsMet (judge_mode env at c) (Ok tt) → judge_rest env at c [] o → judge_own env at c [] o
      met (well_sorted x last) j k = (tt, [], j, k)
      met (ill_sorted p) j k = inr (tt, [], j, k)

  judged_rest : (o : Outcome (PlainCommand × Environment)) → judge_rest env at c [] o → judge_own_tree env t [] o
  judged_rest (well_sorted x last) rest =
      (c, [], (found_reads t c read, refl), subst (λ (n : ℕ). judge_own env n c [] (well_sorted x last)) here (command_after (well_sorted x last) rest))
  judged_rest (ill_sorted p) rest =
      inr (c, [], (found_reads t c read, refl), subst (λ (n : ℕ). judge_own env n c [] (ill_sorted p)) here (command_after (ill_sorted p) rest))

  -- its parts break a rule or want memory
  pub tree_refused : (e : StepError) → MeetsParts env at c (Err e) new after → MeetsOwn env t (Err e) new after
  tree_refused error.NoMemory parts = tt
  tree_refused (error.Broken p) parts = judged_rest (ill_sorted p) (inl parts)

  module _ (command : TypedCommand) (parts : MeetsParts env at c (Ok command) new after) where
    -- the rules on the whole command are met, or not; they do not depend on the names that it has declared
    pub tree_allowed : MeetsWhole env at (plain_command command) (Ok tt) → MeetsOwn env t (Ok command) new after
    tree_allowed whole =
        judged_rest (well_sorted (typed_in new command) after)
        (typed_in new command, after, parts, (tt, after, (none-whole env.logic env.names env.definitions at (plain_command command) [] (well_sorted tt []) whole).1 after, (refl, refl)))

    pub tree_outside : (e : StepError) → MeetsWhole env at (plain_command command) (Err e) → MeetsOwn env t (Err e) new after
    tree_outside error.NoMemory whole = tt
    tree_outside (error.Broken p) whole =
        judged_rest (ill_sorted p) (inr (typed_in new command, after, parts, inl (none-whole env.logic env.names env.definitions at (plain_command command) [] (ill_sorted p) whole after)))

-- The named terms are live: what a tree leads to before that and after.
module _ (old own new : Scope) (t : Sexp Tok) (after : List ℕ) where
  abbrev before_env : Environment
  before_env = environment_of old.world.names old

  abbrev own_env : Environment
  own_env = environment_of old.world.names own

  pub own_fault : (e : StepError) (last : List ℕ) → MeetsOwn before_env t (Err e) own_env after → MeetsTree old t (Err e) new last
  own_fault error.NoMemory last h = tt
  own_fault (error.Broken p) last (inl g) = inl g
  own_fault (error.Broken p) last (inr (c, between, reads, h)) = inr (c, between, reads, inl h)

  pub own_taken : (taken : Taken) (last : List ℕ) → MeetsOwn before_env t (Ok taken.command) own_env after → last ≡ after
      → environment_of old.world.names new ≡ with_names_given own_env (defined_in (named_by (plain_command taken.command))) → MeetsTree old t (Ok taken) new last
  own_taken taken last (c, between, reads, h) same effect =
      let command = plain_command taken.command in
      (c, between, reads, (typed_in own_env taken.command, after, h, (ap (λ (e : Environment). (command, record e { definitions = before_env.definitions ++ defined_in (declared_by command) })) effect, same)))

-- the named terms, under the names of before
pub names_under : (old own new : Scope) (defs : List PlainDef) (shown : List Def) → own.world.names ≡ old.world.names → environment_of own.world.names new ≡ with_names_given (environment_of own.world.names own) (map plain_def shown)
    → map plain_def shown ≡ defs → environment_of old.world.names new ≡ with_names_given (environment_of old.world.names own) defs
names_under old own new defs shown names effect same =
    subst (λ (ns : List (List ℕ)). environment_of ns new ≡ with_names_given (environment_of ns own) defs) names (effect ∙ ap (with_names_given (environment_of own.world.names own)) same)

-- a logic is set where a command names terms
named_logic : (env new : Environment) (t : Sexp Tok) (c : TypedCommand) (after : List ℕ) (named : List Def) → MeetsOwn env t (Ok c) new after → map plain_def named ≡ defined_in (named_by (plain_command c)) → 0 < length named → IsSome new.logic
named_logic env new t c after named (raw, first, reads, (v, second, mode, (made, third, parts, (w, fourth, fragment, (g, i))))) same some =
    let command : made.0 ≡ plain_command c = sym (ap (λ (p : PlainCommand × Environment). p.0) g) in
    let env_is : made.1 ≡ new = sym (ap (λ (p : PlainCommand × Environment). p.1) g) in
    subst (λ (e : Environment). IsSome e.logic) env_is
    (logic_of_parts env _ raw made.0 made.1 first second second third mode parts (λ none. (let no_defs : map plain_def named ≡ [] = same ∙ ap (λ (x : PlainCommand). defined_in (named_by x)) (sym command) ∙ ap defined_in none in
    omega (arith, some, ap length no_defs, length-map named plain_def))))

pub names_logic : (env : Environment) (texts : List (List ℕ)) (own : Scope) (t : Sexp Tok) (c : TypedCommand) (after : List ℕ) (named : List Def) → MeetsOwn env t (Ok c) (environment_of texts own) after → map plain_def named ≡ defined_in (named_by (plain_command c)) → 0 < length named → IsSome own.logic
names_logic env texts own t c after named meets same some = sym (some_described own.logic) ∙ named_logic env (environment_of texts own) t c after named meets same some

-- the tree breaks a rule, or wants memory
pub tree_fault : (old after new : Scope) (names : List ℕ) (t : Sexp Tok) (e : StepError) → MeetsTree old t (Err e) new names → AnswersTree old t (Err e) after
tree_fault old after new names t error.NoMemory h = tt
tree_fault old after new names t (error.Broken p) h = h

pub no_memory : (old after : Scope) (t : Sexp Tok) (e : StepError) → e ≡ error.NoMemory → AnswersTree old t (Err e) after
no_memory old after t e is = subst (λ (x : StepError). AnswersTree old t (Err x) after) (sym is) tt

-- A command declares datatypes, and then defines nothing and names no term, or none.
group_or_none : (c : TypedCommand) → ((definitions_in c ≡ []) × (named_by (plain_command c) ≡ [])) ⊎ (group_in c ≡ [])
group_or_none (kept.DeclareDatatype t) = inl (refl, refl)
group_or_none (kept.DeclareDatatypes ts) = inl (refl, refl)
group_or_none c = inr refl

none_more : (script : Kept) (ts : List Datatype) → ts ≡ [] → with_datatypes script ts ≡ script
none_more script ts e = ap (with_datatypes script) e ∙ with_none script

no_part : (script after : Kept) (ds : List Def) → ds ≡ [] → KeepsPart script ds after → after ≡ script
no_part script after [] e (n, k) = k ∙ (ap (with_definitions script) (take_none n) ∙ ap (λ xs. record { commands = script.commands; defs = record { defs = xs; datatypes = script.defs.datatypes } }) (append-nil script.defs.defs))
  where
    take_none : (n : ℕ) → ◌≡◌ {A = List Def} (take n []) []
    take_none zero = refl
    take_none (suc n) = refl
no_part script after (d ∷ ds) e part = cc

-- the datatypes of a command have the next numbers
numbers_of : (ts : List Datatype) → map number_given (map datatype (map plain_datatype ts)) ≡ map (λ (t : Datatype). t.no.0) ts
numbers_of [] = refl
numbers_of (t ∷ ts) = ap (λ ns. t.no.0 ∷ ns) (numbers_of ts)

pub group_ascends : (n : ℕ) (c : TypedCommand) (top : ℕ) → AscendTo n (map number_given (declared_by (plain_command c))) top → AscendFrom n (map (λ (t : Datatype). t.no.0) (group_in c))
group_ascends n (kept.DeclareDatatype t) top h = (h.0, tt)
group_ascends n (kept.DeclareDatatypes ts) top h =
    subst (AscendFrom n) (numbers_of ts) (ascend_first n (map number_given (map datatype (map plain_datatype ts))) (map number_given (joined (map parts_of (map plain_datatype ts))))
    (subst (AscendFrom n) (map-append number_given (map datatype (map plain_datatype ts)) (joined (map parts_of (map plain_datatype ts)))) (ascend_from n (map number_given (of_group (map plain_datatype ts))) top h)))
group_ascends n c top h = tt

-- .. also before its named terms are live, so that what is kept of them is kept beside what was kept before
pub parts_earlier : (env : Environment) (at : ℕ) (raw : Command) (c : TypedCommand) (new : Environment) (after : List ℕ) (old script : Kept) → judge_parts env at raw [] (well_sorted (plain_command c, new) after) → script ≡ with_datatypes old (group_in c)
    → KeepsEarlier env.next old script
parts_earlier env at raw c new after old script parts kept = elim (group_or_none c) [
  | inl none ↦ group_earlier old script (group_in c) env.next
      (group_ascends env.next c new.next (subst (λ ds. AscendTo env.next (map number_given ds) new.next) (own_declared c none.1) (parts_numbered env at raw (plain_command c) new after parts).ascend)) kept
  | inr no_group ↦ same_earlier old script env.next (kept ∙ none_more old (group_in c) no_group)
]
  where
    own_declared : (c : TypedCommand) → named_by (plain_command c) ≡ [] → own_by (plain_command c) ≡ declared_by (plain_command c)
    own_declared c unnamed = sym (declared_split (plain_command c) ∙ (ap (λ ds. own_by (plain_command c) ++ ds) unnamed ∙ append-nil (own_by (plain_command c))))

-- .. by what the whole tree leads to
pub own_earlier : (env new : Environment) (t : Sexp Tok) (c : TypedCommand) (after : List ℕ) (old script : Kept) → MeetsOwn env t (Ok c) new after → script ≡ with_datatypes old (group_in c) → KeepsEarlier env.next old script
own_earlier env new t c after old script (raw, first, reads, (v, second, mode, (made, third, parts, (w, fourth, fragment, (g, i))))) kept =
    let begins = parts_begin env t raw (byte_of t) first second reads mode in
    let here = subst (λ (ns : List ℕ). judge_parts env (byte_of t) raw ns (well_sorted made third)) begins parts in
    parts_earlier env (byte_of t) raw c new third old script (subst (λ (p : PlainCommand × Environment). judge_parts env (byte_of t) raw [] (well_sorted p third)) (sym g) here) kept

-- A command that was taken with its named terms.
module _ (old mid : Scope) (names : List ℕ) (t : Sexp Tok) (taken : Taken) (shown : List Def) (seen : shown ≡ taken.named.items) (judged : MeetsTree old t (Ok taken) mid names)
    (same : map plain_def taken.named.items ≡ defined_in (named_by (plain_command taken.command))) where
  abbrev new : Environment
  new = environment_with old mid (plain_command taken.command)

  abbrev all_defs : List Def
  all_defs = definitions_in taken.command ++ shown

  shown_same : map plain_def shown ≡ defined_in (named_by (plain_command taken.command))
  shown_same = ap (map plain_def) seen ∙ same

  numbered : IsNumberedStep (environment_of old.world.names old) (plain_command taken.command) new
  numbered = tree_numbered (environment_of old.world.names old) t (plain_command taken.command) new names judged

  tree_ascends : AscendFrom old.next (map (λ (d : Def). d.no.0) all_defs)
  tree_ascends = definitions_ascend (environment_of old.world.names old) new taken.command shown numbered shown_same

  tree_group_ascends : AscendFrom old.next (map (λ (d : Datatype). d.no.0) (group_in taken.command))
  tree_group_ascends = group_ascends old.next taken.command new.next numbered.ascend

  -- a command that declares datatypes defines nothing
  no_defs : definitions_in taken.command ≡ [] → named_by (plain_command taken.command) ≡ [] → all_defs ≡ []
  no_defs none unnamed = ap (λ ds. ds ++ shown) none ∙ no_shown shown (shown_same ∙ ap defined_in unnamed)
    where
      no_shown : (ds : List Def) → map plain_def ds ≡ [] → [] ++ ds ≡ []
      no_shown [] e = refl
      no_shown (d ∷ ds) e = cc

  unused_none : (kept : Definitions) (ds : List Def) → ds ≡ [] → EachUnused kept ds
  unused_none kept [] e = λ i d few at. absurd (omega (arith, few))
  unused_none kept (d ∷ ds) e = cc

  -- nothing is kept yet under the numbers of its definitions
  pub tree_unused : (script : Kept) → KeepsBelow old.next old.world.script.defs → script ≡ with_datatypes old.world.script (group_in taken.command) → EachUnused script.defs all_defs
  tree_unused script below kept = elim (group_or_none taken.command) [
    | inl none ↦ unused_none script.defs all_defs (no_defs none.0 none.1)
    | inr no_group ↦ subst (λ (k : Kept). EachUnused k.defs all_defs) (sym (kept ∙ none_more old.world.script (group_in taken.command) no_group)) (each_unused old.world.script.defs all_defs old.next below tree_ascends)
  ]

  -- where only some definitions are kept, or all of them, but no command
  pub some_kept : (script after : Kept) → script ≡ with_datatypes old.world.script (group_in taken.command) → KeepsPart script all_defs after → KeepsEarlier old.next old.world.script after
  some_kept script after kept part = elim (group_or_none taken.command) [
    | inl none ↦ group_earlier old.world.script after (group_in taken.command) old.next tree_group_ascends (no_part script after all_defs (no_defs none.0 none.1) part ∙ kept)
    | inr no_group ↦ part_earlier old.world.script after all_defs old.next tree_ascends (subst (λ (k : Kept). KeepsPart k all_defs after) (kept ∙ none_more old.world.script (group_in taken.command) no_group) part)
  ]

  pub all_kept : (script after : Kept) → script ≡ with_datatypes old.world.script (group_in taken.command) → after ≡ with_definitions script all_defs → KeepsEarlier old.next old.world.script after
  all_kept script after kept whole = some_kept script after kept (length all_defs, whole ∙ ap (with_definitions script) (sym (take-length all_defs)))

  pub all_defined : map plain_def all_defs ≡ defined_in (declared_by (plain_command taken.command))
  all_defined = all_definitions (environment_of old.world.names old) new taken.command shown numbered shown_same

declared_more : (cs : List PlainCommand) (c : PlainCommand) → declared_in (cs ++ c ∷ []) ≡ declared_in cs ++ declared_by c
declared_more [] c = append-nil (declared_by c)
declared_more (d ∷ cs) c = ap (λ ds. declared_by d ++ ds) (declared_more cs c) ∙ sym (append_assoc (declared_by d) (declared_in cs) (declared_by c))

defined_more : (cs : List PlainCommand) (c : PlainCommand) → defined_in (declared_in (cs ++ c ∷ [])) ≡ defined_in (declared_in cs) ++ defined_in (declared_by c)
defined_more cs c = ap defined_in (declared_more cs c) ∙ defined_joined (declared_in cs) (declared_by c)

datatypes_more : (cs : List PlainCommand) (c : PlainCommand) → datatypes_in (declared_in (cs ++ c ∷ [])) ≡ datatypes_in (declared_in cs) ++ datatypes_in (declared_by c)
datatypes_more cs c = ap datatypes_in (declared_more cs c) ∙ datatypes_joined (declared_in cs) (declared_by c)

-- the definitions and the datatypes of the commands are kept
keeps_more : (old kept new : Kept) (c : TypedCommand) (defs : List Def) → map plain_def defs ≡ defined_in (declared_by (plain_command c)) → kept ≡ with_definitions (with_datatypes old (group_in c)) defs
    → new ≡ record { commands = kept.commands ++ c ∷ []; defs = kept.defs } → KeepsDefined old → KeepsDefined new
keeps_more old kept new c defs own with_own pushed keeps =
    let later : map plain_command (old.commands ++ c ∷ []) ≡ commands_of old ++ plain_command c ∷ [] = map-append plain_command old.commands (c ∷ []) in
    subst KeepsDefined (sym (pushed ∙ ap (λ (k : Kept). record { commands = k.commands ++ c ∷ []; defs = k.defs }) with_own)) (record {
      defs = map-append plain_def old.defs.defs defs ∙ (ap (λ ds. ds ++ map plain_def defs) keeps.defs
          ∙ (ap (λ ds. defined_in (declared_in (commands_of old)) ++ ds) own ∙ sym (ap (λ cs. defined_in (declared_in cs)) later ∙ defined_more (commands_of old) (plain_command c))));
      datatypes = map-append plain_datatype old.defs.datatypes (group_in c) ∙ (ap (λ ts. ts ++ map plain_datatype (group_in c)) keeps.datatypes
          ∙ (ap (λ ts. datatypes_in (declared_in (commands_of old)) ++ ts) (group_declared c) ∙ sym (ap (λ cs. datatypes_in (declared_in cs)) later ∙ datatypes_more (commands_of old) (plain_command c))));
    })

-- no datatype comes or goes with the definitions of a command
pub same_datatypes : (old kept new : Kept) (c : TypedCommand) (defs : List Def) → kept ≡ with_definitions old defs → new ≡ record { commands = kept.commands ++ c ∷ []; defs = kept.defs } → datatypes_of old ≡ datatypes_of new
same_datatypes old kept new c defs with_own pushed = sym (ap datatypes_of pushed ∙ ap datatypes_of with_own)

-- the tree is read as a command, which is put last
pub tree_takes : (old mid : Scope) (kept after : Kept) (names : List ℕ) (t : Sexp Tok) (taken : Taken) (shown : List Def) (p : Progress) → shown ≡ taken.named.items → MeetsTree old t (Ok taken) mid names
    → map plain_def taken.named.items ≡ defined_in (named_by (plain_command taken.command)) → mid.world.script ≡ with_datatypes old.world.script (group_in taken.command) → kept ≡ with_definitions mid.world.script (definitions_in taken.command ++ shown)
    → after ≡ record { commands = kept.commands ++ taken.command ∷ []; defs = kept.defs } → p ≡ progress_of (is_exit (plain_command taken.command)) → TakesTree old t p (record mid { world = record mid.world { script = after } })
tree_takes old mid kept after names t taken shown p seen h named same with_own pushed goes =
    let own = definitions_in taken.command ++ shown in
    let script = with_own ∙ ap (λ (k : Kept). with_definitions k own) same in
    let definitions : plain_defs after.defs ≡ plain_defs old.world.script.defs ++ defined_in (declared_by (plain_command taken.command)) =
    ap (λ (k : Kept). plain_defs k.defs) pushed ∙ (ap (λ (k : Kept). plain_defs k.defs) script
    ∙ (map-append plain_def old.world.script.defs.defs own ∙ ap (λ ds. plain_defs old.world.script.defs ++ ds) (all_defined old mid names t taken shown seen h named))) in record {
      command = plain_command taken.command;
      declared = names;
      judged = subst (λ ts. judge_tree (environment_of old.world.names old) t [] (well_sorted (plain_command taken.command, record (environment_of old.world.names mid) { datatypes = ts; definitions = plain_defs after.defs }) names))
          (same_datatypes mid.world.script kept after taken.command own with_own pushed)
          (subst (λ ds. judge_tree (environment_of old.world.names old) t [] (well_sorted (plain_command taken.command, record (environment_of old.world.names mid) { definitions = ds }) names)) (sym definitions) h);
      goes_on = goes;
      put_last = ap commands_of pushed
          ∙ (map-append plain_command kept.commands (taken.command ∷ []) ∙ (ap (λ (k : Kept). commands_of k ++ plain_command taken.command ∷ []) with_own ∙ ap (λ (k : Kept). commands_of k ++ plain_command taken.command ∷ []) same));
      keeps = keeps_more old.world.script kept after taken.command own (all_defined old mid names t taken shown seen h named) script pushed;
    }

second_interned : (texts : List (List ℕ)) (at : ℕ) (a b : Tok) (rest : List (FlatToken Tok)) → AreInterned texts (Opening at ∷ Word a ∷ Word b ∷ rest) → b.name < length texts
second_interned texts at a b rest (x, (y, z)) = y

-- the name that a command declares is one of its tree
name_begun : (texts : List (List ℕ)) (t : Sexp Tok) (at : ℕ) (w n : Tok) (ts : Sexps Tok) → AreInterned texts (flat t) → t ≡ list at (cons (atom w) (cons (atom n) ts)) → n.name < length texts
name_begun texts t at w n ts h e = second_interned texts at w n (flat_all ts ++ Closing ∷ []) (subst (λ (x : Sexp Tok). AreInterned texts (flat x)) e h)

left_interned : (texts : List (List ℕ)) (xs ys : List (FlatToken Tok)) → AreInterned texts (xs ++ ys) → AreInterned texts xs
left_interned texts [] ys h = tt
left_interned texts (Opening at ∷ xs) ys h = left_interned texts xs ys h
left_interned texts (Closing ∷ xs) ys h = left_interned texts xs ys h
left_interned texts (Word tok ∷ xs) ys h = (h.0, left_interned texts xs ys h.1)

right_interned : (texts : List (List ℕ)) (xs ys : List (FlatToken Tok)) → AreInterned texts (xs ++ ys) → AreInterned texts ys
right_interned texts [] ys h = h
right_interned texts (Opening at ∷ xs) ys h = right_interned texts xs ys h
right_interned texts (Closing ∷ xs) ys h = right_interned texts xs ys h
right_interned texts (Word tok ∷ xs) ys h = right_interned texts xs ys h.1

-- the name of a sort symbol that is declared is one of its list
sort_dec_named : (texts : List (List ℕ)) (t : Sexp Tok) (d : SortDec) → AreInterned texts (flat t) → ReadsSortDec t d → d.name.name < length texts
sort_dec_named texts t d h r = (subst (λ (x : Sexp Tok). AreInterned texts (flat x)) r.0 h).0

sort_decs_named : (texts : List (List ℕ)) (ts : Sexps Tok) (ds : List SortDec) → AreInterned texts (flat_all ts) → ReadsEach ReadsSortDec ts ds → HaveNames texts ds
sort_decs_named texts ts [] h r = tt
sort_decs_named texts ts (d ∷ ds) h (u, us, e, one, others) =
    let all = subst (λ (x : Sexps Tok). AreInterned texts (flat_all x)) e h in
    (sort_dec_named texts u d (left_interned texts (flat u) (flat_all us) all) one, sort_decs_named texts us ds (right_interned texts (flat u) (flat_all us) all) others)

-- the name of a function that is declared is one of its list
dec_named : (texts : List (List ℕ)) (t : Sexp Tok) (f : FunDec) → AreInterned texts (flat t) → ReadsFunDec t f → f.name.name < length texts
dec_named texts t f h r = (subst (λ (x : Sexp Tok). AreInterned texts (flat x)) r.3 h).0

decs_named : (texts : List (List ℕ)) (ts : Sexps Tok) (fs : List FunDec) → AreInterned texts (flat_all ts) → ReadsEach ReadsFunDec ts fs → AreNamed texts fs
decs_named texts ts [] h r = tt
decs_named texts ts (f ∷ fs) h (u, us, e, one, others) =
    let all = subst (λ (x : Sexps Tok). AreInterned texts (flat_all x)) e h in
    (dec_named texts u f (left_interned texts (flat u) (flat_all us) all) one, decs_named texts us fs (right_interned texts (flat u) (flat_all us) all) others)

group_interned : (texts : List (List ℕ)) (at b : ℕ) (w : Tok) (ts rest : Sexps Tok) → AreInterned texts (flat (list at (cons (atom w) (cons (list b ts) rest)))) → AreInterned texts (flat_all ts)
group_interned texts at b w ts rest h = left_interned texts (flat_all ts) (Closing ∷ []) (left_interned texts (flat (list b ts)) (flat_all rest) (left_interned texts (flat (list b ts) ++ flat_all rest) (Closing ∷ []) h.1))

declared_named : (texts : List (List ℕ)) (t : Sexp Tok) (c : Command) → AreInterned texts (flat t) → ReadsCommand t c → IsDeclaredNamed texts c
declared_named texts t (declare_const n s) h r = name_begun texts t r.1.0 r.1.1 n _ h r.1.2
declared_named texts t (declare_fun n ss s) h r = name_begun texts t r.3.0 r.3.1 n _ h r.3.2
declared_named texts t (declare_datatype n d) h r = name_begun texts t r.1.0 r.1.1 n _ h r.1.2
declared_named texts t (declare_datatypes ss ds) h r =
    sort_decs_named texts r.1 ss (group_interned texts r.4.0 r.0 r.4.1 r.1 (cons (list r.2 r.3) nil) (subst (λ (x : Sexp Tok). AreInterned texts (flat x)) r.4.2 h)) r.6
declared_named texts t (declare_sort n a) h r = name_begun texts t r.0.0 r.0.1 n _ h r.0.2
declared_named texts t (define_sort n ps s) h r = name_begun texts t r.2.0 r.2.1 n _ h r.2.2
declared_named texts t (define_fun f) h r = name_begun texts t r.1.0 r.1.1 f.name _ h (r.1.2 ∙ ap (λ (ts : Sexps Tok). list r.1.0 (cons (atom r.1.1) ts)) r.2.4)
declared_named texts t (define_fun_rec f) h r = name_begun texts t r.1.0 r.1.1 f.name _ h (r.1.2 ∙ ap (λ (ts : Sexps Tok). list r.1.0 (cons (atom r.1.1) ts)) r.2.4)
declared_named texts t (define_funs_rec fs us) h r =
    decs_named texts r.1 fs (group_interned texts r.4.0 r.0 r.4.1 r.1 (cons (list r.2 r.3) nil) (subst (λ (x : Sexp Tok). AreInterned texts (flat x)) r.4.2 h)) r.6
declared_named texts t c h r = tt

pub command_named : (texts : List (List ℕ)) (t : Sexp Tok) (c : Command) → AreInterned texts (flat t) → read_command t ≡ Ok c → IsDeclaredNamed texts c
command_named texts t c h read = declared_named texts t c h (found_reads t c read)
