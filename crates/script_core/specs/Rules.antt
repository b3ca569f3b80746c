-- The rules of the commands (SMT-LIB 2.6, sections 3.9 and 4.2): for each command the checks in their order,
-- the typed command that is kept, and the environment that it leads to.
use Rattle.std.specs.Prelude.{◌≡◌, ℕ, ◌+◌, ◌<◌, ◌≤◌, ◌^◌, ◌==◌, Bool, true, false, ◌&&◌, List, [], ◌∷◌, ◌++◌, length, map, Option, Some, None, if◌then◌else◌}
use Rattle.std.specs.List.{list_any}
use Rattle.std.specs.Option.{IsSome, is_some}
use Rattle.lex_core.specs.declared.token.Tok.{Tok}
use Rattle.sig_table.specs.declared.code.Code.{Code}
use Rattle.sig_table.specs.declared.code.Code.TheVariants as code
use Rattle.sexp_core.specs.Sexp.{Sexp, atom, list}
use Rattle.judgement.specs.Judging.{Judging, ◌>>=◌, check, declare, done, find, refuse}
use Rattle.sort_store.specs.declared.head.DeclNo.{DeclNo}
use Rattle.sort_store.specs.CoreRanks.{bool}
use Rattle.sort_store.specs.Tree as tree
use Rattle.scope_stack.specs.declared.entry.FunKind.TheVariants as kind
use Rattle.term_grammar.specs.declared.words.TheConstants.{GLOBAL_DECLARATIONS, TRUE}
use Rattle.term_grammar.specs.Syntax.{Attribute, keyword_attribute, valued_attribute, Sort, SortedSymbol, Term, Terms, no_terms, with_term, term_at}
use Rattle.cmd_grammar.specs.DeclarationViews.{literal_term}
use Rattle.cmd_grammar.specs.Commands.{Command, FunDec, Literal, assert, check_sat, check_sat_assuming, declare_const, declare_datatype, declare_datatypes, declare_fun, declare_sort, define_fun, define_fun_rec, define_funs_rec, define_sort, echo, exit, get_assertions, get_assignment, get_info, get_model, get_option, get_proof, get_unsat_assumptions, get_unsat_core, get_value, pop, push, reset, reset_assertions, set_info, set_logic, set_option}
use Rattle.typer.specs.Numerals.{numeral_value}
use Rattle.typer.specs.Declarations.{depth, free_sort, defined_sort, with_fun, with_global, with_popped, with_pushed, with_sort, without_assertions}
use Rattle.typer.specs.SortRules.{judge_sort, judge_sorts}
use Rattle.typer.specs.TermRules.{attribute_key, attribute_value, judge_term, judge_terms}
use Rattle.typer.specs.FunctionSymbols.{is_fun_in_use, is_sort_in_use}
use Rattle.datatype_commands.specs.DeclaredDatatypes.{with_parts, with_sorts}
use Rattle.datatype_commands.specs.GroupRules.{judge_group, judge_single}
use Rattle.term_store.specs.Command.{PlainCommand, PlainDatatype, PlainDef}
use Rattle.term_store.specs.Command as typed
use Rattle.term_store.specs.CommandText.{command_depth}
use Rattle.term_store.specs.Declarations.{Declaration, declared_by, names_in, names_in_all, of_group}
use Rattle.term_store.specs.Term.{PlainTerm, plain_sort}
use Rattle.logic_frag.specs.FragmentRules.{BreaksRule, context_of, fragment_codes}
use Rattle.logic_frag.specs.Logics.{Description}
use Rattle.script_core.specs.Keeping.{defined_in}
use Rattle.script_core.specs.Environment.{Environment, logic_in, signature_from, signature_in, start, text_of, theories_under}

-- the value of a numeral in the text
abbrev pub value_of : Environment → Tok → ℕ
value_of env n = numeral_value (text_of env n)

-- Whether the command may stand here. The commands that may stand before the logic is set are set-logic, set-option, set-info,
-- get-option, get-info, echo, reset and exit. At most 65,535 levels are open.
abbrev pub judge_mode : Environment → ℕ → Command → Judging (Unit {0})
judge_mode env at (set_logic n) = do
  _ ← check (is_some env.logic ≡ false) code.LogicAlreadySet at
  check (IsSome (logic_in env n)) code.UnknownLogic at
judge_mode env at (set_option a) = check ((((attribute_key a).name == GLOBAL_DECLARATIONS) && is_some env.logic) ≡ false) code.GlobalOptionTooLate at
judge_mode env at (set_info a) = done tt
judge_mode env at (get_option k) = done tt
judge_mode env at (get_info k) = done tt
judge_mode env at (echo t) = done tt
judge_mode env at reset = done tt
judge_mode env at exit = done tt
judge_mode env at (push n) = do
  _ ← check (IsSome env.logic) code.LogicNotSet at
  check (depth env.declarations + value_of env n ≤ 65535) code.TooManyLevels at
judge_mode env at (pop n) = do
  _ ← check (IsSome env.logic) code.LogicNotSet at
  check (value_of env n ≤ depth env.declarations) code.TooFewLevels at
judge_mode env at command = check (IsSome env.logic) code.LogicNotSet at

-- the logic is set, with its theories
abbrev pub with_logic : Option Description → Environment → Environment
with_logic l env = record env { logic = l; theories = theories_under l }

-- a constant or a function with these argument sorts and this result, under the next number
abbrev pub with_function : Environment → ℕ → List tree.Sort → tree.Sort → Environment
with_function env name args result = record env {
  declarations = with_fun name (record { number = record { 0 = env.next }; kind = kind.Free; params = 0; args = args; result = result }) env.declarations;
  next = env.next + 1;
}

-- a declared sort of this arity, under the next number
abbrev pub with_free_sort : Environment → ℕ → ℕ → Environment
with_free_sort env name arity = record env { declarations = with_sort name (free_sort (record { 0 = env.next }) arity) env.declarations; next = env.next + 1 }

-- a defined sort, which takes no number
abbrev pub with_defined_sort : Environment → ℕ → ℕ → tree.Sort → Environment
with_defined_sort env name count body = record env { declarations = with_sort name (defined_sort count body) env.declarations }

-- no parameter is repeated; the later one is the fault
abbrev pub judge_params : List ℕ → List Tok → Judging (Unit {0})
judge_params before [] = done tt
judge_params before (p ∷ ps) = do
  _ ← check (list_any (λ n. n == p.name) before ≡ false) code.RepeatedVariable p.at
  judge_params (before ++ p.name ∷ []) ps

-- the global flag that an option sets
abbrev pub is_true : Sexp Tok → Bool
is_true (atom t) = t.name == TRUE
is_true (list at ts) = false

abbrev pub after_option : Environment → Attribute → Environment
after_option env (keyword_attribute k) = env
after_option env (valued_attribute k v) =
    if k.name == GLOBAL_DECLARATIONS then record env { declarations = with_global (is_true v) env.declarations } else env

-- the term is of sort Bool
abbrev pub judge_bool : Environment → Term → Judging PlainTerm
judge_bool env t = do
  u ← judge_term (signature_in env) [] t
  _ ← check (plain_sort u ≡ bool) code.WrongTermSort (term_at t)
  done u

-- each literal, read as a term, is of sort Bool
abbrev pub judge_literals : Environment → List Literal → Judging (List PlainTerm)
judge_literals env [] = done []
judge_literals env (l ∷ ls) = do
  u ← judge_bool env (literal_term l)
  us ← judge_literals env ls
  done (u ∷ us)

-- the typed command of one that has no names, sorts or terms to judge and changes nothing, if it is one
abbrev pub unchanging : Command → Option PlainCommand
unchanging check_sat = Some typed.check_sat
unchanging (echo t) = Some (typed.echo t.name)
unchanging exit = Some typed.exit
unchanging get_assertions = Some typed.get_assertions
unchanging get_assignment = Some typed.get_assignment
unchanging (get_info k) = Some (typed.get_info k.name)
unchanging get_model = Some typed.get_model
unchanging (get_option k) = Some (typed.get_option k.name)
unchanging get_proof = Some typed.get_proof
unchanging get_unsat_assumptions = Some typed.get_unsat_assumptions
unchanging get_unsat_core = Some typed.get_unsat_core
unchanging (set_info a) = Some (typed.set_info (attribute_key a).name (attribute_value a))
unchanging command = None

-- the number of the next declaration
abbrev pub next_number : Environment → DeclNo
next_number env = record { 0 = env.next }

-- a parameter of a function with its sort, where the name is none of those before it
abbrev pub judge_variable : Environment → List ℕ → SortedSymbol → Judging (ℕ × tree.Sort)
judge_variable env before p = do
  _ ← check (list_any (λ n. n == p.name.name) before ≡ false) code.RepeatedVariable p.name.at
  s ← judge_sort env.names env.declarations env.theories [] p.sort
  done (p.name.name, s)

abbrev pub judge_variables : Environment → List ℕ → List SortedSymbol → Judging (List (ℕ × tree.Sort))
judge_variables env before [] = done []
judge_variables env before (p ∷ ps) = do
  v ← judge_variable env before p
  vs ← judge_variables env (before ++ v.0 ∷ []) ps
  done (v ∷ vs)

-- what a definition says before its body
pub record Header : Type 0 where
  pub no : DeclNo
  pub name : ℕ
  pub params : List (ℕ × tree.Sort)
  pub result : tree.Sort

abbrev pub judge_header : Environment → Tok → List SortedSymbol → Sort → Judging Header
judge_header env n ps s = do
  _ ← check (is_fun_in_use (signature_in env) n.name ≡ false) code.FunctionNameInUse n.at
  params ← judge_variables env [] ps
  result ← judge_sort env.names env.declarations env.theories [] s
  done (record { no = next_number env; name = n.name; params = params; result = result })

-- the function is live
abbrev pub with_header : Environment → Header → Environment
with_header env h = with_function env h.name (map (λ v. v.1) h.params) h.result

-- the body, in which the parameters are bound, has the result sort; the first name that the command declares has this number
abbrev pub judge_body : ℕ → Environment → Header → Term → Judging PlainTerm
judge_body first env h t = do
  u ← judge_term (signature_from first env) h.params t
  _ ← check (plain_sort u ≡ h.result) code.WrongTermSort (term_at t)
  done u

-- the definition, which may be recursive
abbrev pub defined : Header → Bool → PlainTerm → PlainDef
defined h recursive u = record { no = h.no; name = h.name; params = h.params; result = h.result; body = u; recursive = recursive }

-- functions that are declared together: each is live for those after it
abbrev pub judge_headers : Environment → List FunDec → Judging (List Header)
judge_headers env [] = done []
judge_headers env (f ∷ fs) = do
  h ← judge_header env f.name f.params f.result
  hs ← judge_headers (with_header env h) fs
  done (h ∷ hs)

abbrev pub with_headers : Environment → List Header → Environment
with_headers env [] = env
with_headers env (h ∷ hs) = with_headers (with_header env h) hs

-- the definition of one of them
abbrev pub judge_member : ℕ → Environment → Header → Term → Judging PlainDef
judge_member first env h t = do
  u ← judge_body first env h t
  done (defined h true u)

-- Their definitions, one body for each. By the grammar there are as many bodies.
abbrev pub judge_members : ℕ → Environment → ℕ → List Header → Terms → Judging (List PlainDef)
judge_members first env at [] ts = done []
judge_members first env at (h ∷ hs) no_terms = refuse code.WrongCommandForm at
judge_members first env at (h ∷ hs) (with_term t ts) = do
  d ← judge_member first env h t
  ds ← judge_members first env at hs ts
  done (d ∷ ds)

-- the names of functions are declared before those that their bodies give to terms
abbrev pub declare_each : List ℕ → Judging (Unit {0})
declare_each [] = done tt
declare_each (n ∷ ns) = do
  _ ← declare n
  declare_each ns

-- the named terms of a command, in reading order
abbrev pub named_by : PlainCommand → List Declaration
named_by (typed.assert t) = names_in t
named_by (typed.check_sat_assuming ts) = names_in_all ts
named_by (typed.define_fun d) = names_in d.body
named_by (typed.define_fun_rec d) = names_in d.body
named_by (typed.define_funs_rec ds) = names_in_all (map (λ d. d.body) ds)
named_by (typed.get_value ts) = names_in_all ts
named_by command = []

-- A named term is a constant, which takes a number.
abbrev pub with_name : Environment → PlainDef → Environment
with_name env d = record env {
  declarations = with_fun d.name (record { number = d.no; kind = kind.Named; params = 0; args = []; result = d.result }) env.declarations;
  next = env.next + 1;
}

abbrev pub with_names_given : Environment → List PlainDef → Environment
with_names_given env [] = env
with_names_given env (d ∷ ds) = with_names_given (with_name env d) ds

-- a group of datatypes whose sort symbols are live: its constructors and selectors are live too, and the datatypes are kept
abbrev pub with_parts_kept : Environment → List PlainDatatype → Environment
with_parts_kept env group = record env {
  declarations = with_parts env.declarations group;
  datatypes = env.datatypes ++ group;
  next = env.next + length (of_group group);
}

abbrev pub with_group : Environment → List PlainDatatype → Environment
with_group env group = with_parts_kept (record env { declarations = with_sorts env.declarations group }) group

-- the command declares datatypes
abbrev pub declares_group : Command → Bool
declares_group (declare_datatype n d) = true
declares_group (declare_datatypes ss ds) = true
declares_group command = false

-- The names, sorts and terms of the command whose list begins at this byte, with the typed command that is kept and what it leads
-- to. A name that is in use is the first fault of a declaration. `reset` forgets all but the names and the next number, since a
-- number is never used again.
abbrev pub judge_parts : Environment → ℕ → Command → Judging (PlainCommand × Environment)
judge_parts env at (assert t) = do
  u ← judge_bool env t
  done (typed.assert u, env)
judge_parts env at (check_sat_assuming ls) = do
  us ← judge_literals env ls
  done (typed.check_sat_assuming us, env)
judge_parts env at (declare_const n s) = do
  _ ← check (is_fun_in_use (signature_in env) n.name ≡ false) code.FunctionNameInUse n.at
  result ← judge_sort env.names env.declarations env.theories [] s
  done (typed.declare_const (next_number env) n.name result, with_function env n.name [] result)
judge_parts env at (declare_fun n ss s) = do
  _ ← check (is_fun_in_use (signature_in env) n.name ≡ false) code.FunctionNameInUse n.at
  args ← judge_sorts env.names env.declarations env.theories [] ss
  result ← judge_sort env.names env.declarations env.theories [] s
  done (typed.declare_fun (next_number env) n.name args result, with_function env n.name args result)
judge_parts env at (declare_datatype n d) = do
  t ← judge_single (signature_in env) at n d
  done (typed.declare_datatype t, with_group env (t ∷ []))
judge_parts env at (declare_datatypes ss ds) = do
  group ← judge_group (signature_in env) at ss ds
  done (typed.declare_datatypes group, with_group env group)
judge_parts env at (declare_sort n a) = do
  _ ← check (is_sort_in_use (signature_in env) n.name ≡ false) code.SortNameInUse n.at
  _ ← check (value_of env a < 2 ^ 32) code.NumberTooLarge a.at
  done (typed.declare_sort (next_number env) n.name (value_of env a), with_free_sort env n.name (value_of env a))
judge_parts env at (define_sort n ps s) = do
  _ ← check (is_sort_in_use (signature_in env) n.name ≡ false) code.SortNameInUse n.at
  _ ← judge_params [] ps
  body ← judge_sort env.names env.declarations env.theories (map (λ p. p.name) ps) s
  done (typed.define_sort n.name (map (λ p. p.name) ps) body, with_defined_sort env n.name (length ps) body)
judge_parts env at (define_fun f) = do
  h ← judge_header env f.name f.params f.result
  _ ← declare h.name
  u ← judge_body env.next env h f.body
  done (typed.define_fun (defined h false u), with_header env h)
judge_parts env at (define_fun_rec f) = do
  h ← judge_header env f.name f.params f.result
  _ ← declare h.name
  u ← judge_body env.next (with_header env h) h f.body
  done (typed.define_fun_rec (defined h true u), with_header env h)
judge_parts env at (define_funs_rec fs ts) = do
  hs ← judge_headers env fs
  _ ← declare_each (map (λ h. h.name) hs)
  ds ← judge_members env.next (with_headers env hs) at hs ts
  done (typed.define_funs_rec ds, with_headers env hs)
judge_parts env at (get_value ts) = do
  us ← judge_terms (signature_in env) [] ts
  done (typed.get_value us, env)
judge_parts env at (set_logic n) = done (typed.set_logic n.name, with_logic (logic_in env n) env)
judge_parts env at (set_option a) = done (typed.set_option (attribute_key a).name (attribute_value a), after_option env a)
judge_parts env at (push n) = done (typed.push (value_of env n), record env { declarations = with_pushed (value_of env n) env.declarations })
judge_parts env at (pop n) = done (typed.pop (value_of env n), record env { declarations = with_popped (value_of env n) env.declarations })
judge_parts env at reset = done (typed.reset, record start { names = env.names; datatypes = env.datatypes; definitions = env.definitions; next = env.next })
judge_parts env at reset_assertions = done (typed.reset_assertions, record env { declarations = without_assertions env.declarations })
judge_parts env at command = do
  c ← find (λ c. unchanging command ≡ Some c) code.WrongCommandForm at
  done (c, env)

-- the canonical text of the command nests at most 4,000 deep
abbrev pub judge_depth : ℕ → PlainCommand → Judging (Unit {0})
judge_depth at c = check (command_depth c ≤ 4000) code.TextTooDeep at

-- none of the rules with these codes is broken; the first that is broken is the fault
abbrev pub judge_codes : (Code → Type 0) → ℕ → List Code → Judging (Unit {0})
judge_codes Broken at [] = done tt
judge_codes Broken at (c ∷ cs) = do
  _ ← check (Broken c → ⊥) c at
  judge_codes Broken at cs

-- The logic, where one is set, allows the command. The names of its terms have these texts, and these definitions are kept.
abbrev pub judge_fragment : Option Description → List (List ℕ) → List PlainDef → ℕ → PlainCommand → Judging (Unit {0})
judge_fragment None texts kept at c = done tt
judge_fragment (Some l) texts kept at c = judge_codes (BreaksRule l (context_of texts kept c) c) at fragment_codes

-- the typed command as a whole: its text, and then whether the logic allows it
abbrev pub judge_whole : Option Description → List (List ℕ) → List PlainDef → ℕ → PlainCommand → Judging (Unit {0})
judge_whole logic texts kept at c = do
  _ ← judge_depth at c
  judge_fragment logic texts kept at c

-- the command whose list begins at this byte, before its named terms are live and its definitions are kept
abbrev pub judge_own : Environment → ℕ → Command → Judging (PlainCommand × Environment)
judge_own env at command = do
  _ ← judge_mode env at command
  made ← judge_parts env at command
  _ ← judge_whole env.logic env.names env.definitions at made.0
  done made

-- .. and with them, for the commands after it
abbrev pub with_defined : Environment → PlainCommand → Environment → Environment
with_defined old c made = record (with_names_given made (defined_in (named_by c))) { definitions = old.definitions ++ defined_in (declared_by c) }

abbrev pub judge_command : Environment → ℕ → Command → Judging (PlainCommand × Environment)
judge_command env at command = do
  made ← judge_own env at command
  done (made.0, with_defined env made.0 made.1)
