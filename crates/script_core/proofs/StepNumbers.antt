-- A command gives the next numbers, and defines what it declares as definitions.
use Rattle.std.proofs.Common.{◌≡◌, ℕ, ◌+◌, ◌==◌, true, false, List, [], ◌∷◌, ◌++◌, length, map, Some, refl, ap, sym, ◌∙◌, subst, inl, inr, arith, append-nil, length-append}
use Rattle.std.proofs.lemmas.Bool.{cases_Bool}
use Rattle.std.proofs.lemmas.List.{length-map, map-append}
use Rattle.sig_table.specs.declared.code.Code.TheVariants.{WrongCommandForm}
use Rattle.lex_core.specs.Token.{Token}
use Rattle.lex_core.specs.declared.token.Tok.{Tok}
use Rattle.sexp_core.specs.Sexp.{Sexp}
use Rattle.judgement.specs.Judging.{◌>>=◌, done, find, well_sorted}
use Rattle.term_grammar.specs.Reads.{byte_of}
use Rattle.term_grammar.specs.declared.words.TheConstants.{GLOBAL_DECLARATIONS}
use Rattle.term_grammar.specs.Syntax.{Attribute, Sort, SortedSymbol, Term, Terms, keyword_attribute, no_terms, valued_attribute, with_term}
use Rattle.cmd_grammar.specs.Commands.{Command, FunDec, assert, check_sat, check_sat_assuming, declare_const, declare_datatype, declare_datatypes, declare_fun, declare_sort, define_fun, define_fun_rec, define_funs_rec, define_sort, echo, exit, get_assertions, get_assignment, get_info, get_model, get_option, get_proof, get_unsat_assumptions, get_unsat_core, get_value, pop, push, reset, reset_assertions, set_info, set_logic, set_option}
use Rattle.term_store.specs.Command.{PlainCommand, PlainDatatype, PlainDef, plain_command, plain_def}
use Rattle.term_store.specs.Command as typed
use Rattle.term_store.specs.declared.command.Def.{Def}
use Rattle.term_store.specs.declared.command.TypedCommand.{TypedCommand}
use Rattle.term_store.specs.declared.command.TypedCommand.TheVariants as kept
use Rattle.term_store.specs.Declarations.{Declaration, sort_symbol, function_symbol, datatype, constructor_of, selector_of, definition, term_name, declared_by, declared_in, names_in, names_in_all, number_given, of_group}
use Rattle.term_store.specs.SoundScript.{named_def}
use Rattle.term_store.specs.Term.{PlainTerm}
use Rattle.typer.specs.FunctionSymbols.{Signature}
use Rattle.typer.specs.NamedTerms.{AreNamedAfter}
use Rattle.logic_frag.specs.FragmentRules.{own_definitions}
use Rattle.script_core.specs.Environment.{Environment, signature_from, signature_in, start as start_env}
use Rattle.script_core.specs.Keeping.{defined_in, definitions_in}
use Rattle.script_core.specs.Rules.{Header, after_option, declare_each, defined, judge_body, judge_header, judge_headers, judge_members, judge_mode, judge_parts, named_by, next_number, unchanging, value_of, with_defined, with_free_sort, with_function, with_group, with_header, with_headers, with_name, with_names_given}
use Rattle.typer.specs.TermRules.{attribute_key, attribute_value}
use Rattle.script_core.specs.Steps.{ListSteps, Run, Runs, judge_grammar, judge_tree, with_names}
use Rattle.script_core.proofs.GivenNames.{body_given, bool_given, each_after, literals_given, members_given, terms_given}
use Rattle.script_core.proofs.GroupNumbers.{AreCounted, counted_ascend, group_counted, group_defines_none, single_counted}
use Rattle.script_core.proofs.NamedWalks.{defined_joined}
use Rattle.script_core.proofs.QuietRules.{none-header, none-headers, none-mode}
use Rattle.script_core.proofs.SoundNumbers.{AscendFrom, AscendTo, ascend_from, ascend_lower, ascend_on}

-- what a command declares but for its named terms
abbrev pub own_by : PlainCommand → List Declaration
own_by (typed.assert t) = []
own_by (typed.check_sat_assuming ts) = []
own_by (typed.define_fun d) = definition d ∷ []
own_by (typed.define_fun_rec d) = definition d ∷ []
own_by (typed.define_funs_rec ds) = map definition ds
own_by (typed.get_value ts) = []
own_by c = declared_by c

pub declared_split : (c : PlainCommand) → declared_by c ≡ own_by c ++ named_by c
declared_split (typed.assert t) = refl
declared_split (typed.check_sat_assuming ts) = refl
declared_split (typed.define_fun d) = refl
declared_split (typed.define_fun_rec d) = refl
declared_split (typed.define_funs_rec ds) = refl
declared_split (typed.get_value ts) = refl
declared_split c = sym (append-nil (declared_by c))

-- these named terms have the numbers from this one on
pub record AreNumberedFrom (n : ℕ) (ds : List Declaration) : Type 0 where
  pub signature : Signature
  pub before : List ℕ
  pub after : List ℕ
  pub counts : signature.first + length before ≡ n
  pub given : AreNamedAfter signature before ds after

pub none_numbered : (n : ℕ) → AreNumberedFrom n []
none_numbered n = record { signature = signature_from n start_env; before = []; after = []; counts = omega arith; given = refl }

-- What a command declares has the numbers from the next one on, and its definitions are its own; those of its named terms come
-- after them.
pub record IsNumbered (env : Environment) (c : PlainCommand) (new : Environment) : Type 0 where
  pub ascend : AscendTo env.next (map number_given (own_by c)) new.next
  pub own : defined_in (own_by c) ≡ own_definitions c
  pub named : AreNumberedFrom new.next (named_by c)

numbered_as : (env : Environment) (c d : PlainCommand) (new made : Environment) → ◌≡◌ {A = PlainCommand × Environment} (c, new) (d, made) → IsNumbered env d made → IsNumbered env c new
numbered_as env c d new made e h = subst (λ (p : PlainCommand × Environment). IsNumbered env p.0 p.1) (sym e) h

-- a command that declares nothing but named terms, and one that declares one thing
quiet : (env : Environment) (c : PlainCommand) (new : Environment) → own_by c ≡ [] → own_definitions c ≡ [] → new.next ≡ env.next → AreNumberedFrom new.next (named_by c) → IsNumbered env c new
quiet env c new none nothing same named = record {
  ascend = subst (λ (ds : List Declaration). AscendTo env.next (map number_given ds) new.next) (sym none) (omega (arith, same));
  own = ap defined_in none ∙ sym nothing;
  named = named;
}

single : (env : Environment) (c : PlainCommand) (new : Environment) (d : Declaration) → own_by c ≡ d ∷ [] → number_given d ≡ env.next → new.next ≡ env.next + 1 → defined_in (d ∷ []) ≡ own_definitions c → AreNumberedFrom new.next (named_by c)
    → IsNumbered env c new
single env c new d one first next own named = record {
  ascend = subst (λ (ds : List Declaration). AscendTo env.next (map number_given ds) new.next) (sym one) (omega (arith, first), omega (arith, first, next));
  own = ap defined_in one ∙ own;
  named = named;
}

-- named terms after no name, and after one
after_none : (env : Environment) (ds : List Declaration) (after : List ℕ) → AreNamedAfter (signature_in env) [] ds after → AreNumberedFrom env.next ds
after_none env ds after h = record { signature = signature_in env; before = []; after = after; counts = omega arith; given = h }

pub header_number : (env : Environment) (n : Tok) (ps : List SortedSymbol) (s : Sort) (h : Header) (before after : List ℕ) → judge_header env n ps s before (well_sorted h after) → h.no.0 ≡ env.next
header_number env n ps s h before after (w, start, k, (vs, between, j, (r, later, i, (e, f)))) = ap (λ (x : Header). x.no.0) e

-- a definition takes the next number, and its named terms those after it
pub body_numbered : (env live : Environment) (h : Header) (t : Term) (u : PlainTerm) (start between after : List ℕ) → start ≡ [] → between ≡ start ++ h.name ∷ [] → judge_body env.next live h t between (well_sorted u after) → AreNumberedFrom (env.next + 1) (names_in u)
body_numbered env live h t u start between after first declared j = record {
  signature = signature_from env.next live;
  before = between;
  after = after;
  counts = omega (arith, ap length (declared ∙ ap (λ (ns : List ℕ). ns ++ h.name ∷ []) first));
  given = body_given env.next live h t u between after j;
}

-- the definitions are those of the headers, one for each
abbrev pub AreMembers : List Header → List PlainDef → Type 0
AreMembers [] ds = ds ≡ []
AreMembers (h ∷ hs) [] = ⊥
AreMembers (h ∷ hs) (d ∷ ds) = (d ≡ defined h true d.body) × AreMembers hs ds

pub members_are : (first : ℕ) (env : Environment) (at : ℕ) (hs : List Header) (ts : Terms) (ds : List PlainDef) (before after : List ℕ) → judge_members first env at hs ts before (well_sorted ds after) → AreMembers hs ds
members_are first env at [] ts ds before after (e, f) = e
members_are first env at (h ∷ hs) no_terms ds before after j = absurd j
members_are first env at (h ∷ hs) (with_term t ts) ds before after (d, between, (u, middle, j, (e, f)), (rest, later, k, (g, i))) =
    subst (AreMembers (h ∷ hs)) (sym g) (subst (λ (x : PlainDef). x ≡ defined h true x.body) (sym e) refl, members_are first env at hs ts rest between later k)

-- the headers have the next numbers
abbrev pub AreNumbered : ℕ → List Header → Type 0
AreNumbered n [] = Unit {0}
AreNumbered n (h ∷ hs) = (h.no.0 ≡ n) × AreNumbered (n + 1) hs

headers_numbered : (env : Environment) (fs : List FunDec) (hs : List Header) (before after : List ℕ) → judge_headers env fs before (well_sorted hs after) → AreNumbered env.next hs
headers_numbered env [] hs before after (e, f) = subst (AreNumbered env.next) (sym e) tt
headers_numbered env (f ∷ fs) hs before after (h, between, j, (rest, later, k, (e, i))) =
    subst (AreNumbered env.next) (sym e) (header_number env f.name f.params f.result h before between j, headers_numbered (with_header env h) fs rest between later k)

group_ascends : (env : Environment) (hs : List Header) (ds : List PlainDef) → AreNumbered env.next hs → AreMembers hs ds → AscendTo env.next (map number_given (map definition ds)) (with_headers env hs).next
group_ascends env [] ds numbers members = subst (λ (xs : List PlainDef). AscendTo env.next (map number_given (map definition xs)) env.next) (sym members) (omega arith)
group_ascends env (h ∷ hs) [] numbers members = absurd members
group_ascends env (h ∷ hs) (d ∷ ds) numbers members =
    let number : d.no.0 ≡ env.next = ap (λ (x : PlainDef). x.no.0) members.0 ∙ numbers.0 in
    (omega (arith, number), subst (λ (n : ℕ). AscendTo (n + 1) (map number_given (map definition ds)) (with_headers (with_header env h) hs).next) (sym number) (group_ascends (with_header env h) hs ds numbers.1 members.1))

all_defined : (ds : List PlainDef) → defined_in (map definition ds) ≡ ds
all_defined [] = refl
all_defined (d ∷ ds) = ap (λ xs. d ∷ xs) (all_defined ds)

headers_next : (env : Environment) (hs : List Header) → (with_headers env hs).next ≡ env.next + length hs
headers_next env [] = omega arith
headers_next env (h ∷ hs) = omega (arith, headers_next (with_header env h) hs)

pub group_names : (env : Environment) (at : ℕ) (hs : List Header) (ts : Terms) (ds : List PlainDef) (start between after : List ℕ) → start ≡ [] → declare_each (map (λ h. h.name) hs) start (well_sorted tt between)
    → judge_members env.next (with_headers env hs) at hs ts between (well_sorted ds after) → AreNumberedFrom (with_headers env hs).next (named_by (typed.define_funs_rec ds))
group_names env at hs ts ds start between after first declared j = record {
  signature = signature_from env.next (with_headers env hs);
  before = between;
  after = after;
  counts = omega (arith, headers_next env hs, ap length (each_after (map (λ (h : Header). h.name) hs) start between declared ∙ ap (λ (ns : List ℕ). ns ++ map (λ (h : Header). h.name) hs) first), length-map hs (λ (h : Header). h.name));
  given = members_given env.next (with_headers env hs) at hs ts ds between after j;
}

group_numbered : (env : Environment) (at : ℕ) (fs : List FunDec) (hs : List Header) (ts : Terms) (ds : List PlainDef) (start between after : List ℕ) → judge_headers env fs [] (well_sorted hs start)
    → declare_each (map (λ h. h.name) hs) start (well_sorted tt between) → judge_members env.next (with_headers env hs) at hs ts between (well_sorted ds after) → IsNumbered env (typed.define_funs_rec ds) (with_headers env hs)
group_numbered env at fs hs ts ds start between after headed declared j = record {
  ascend = group_ascends env hs ds (headers_numbered env fs hs [] start headed) (members_are env.next (with_headers env hs) at hs ts ds between after j);
  own = all_defined ds;
  named = group_names env at hs ts ds start between after (none-headers env fs [] (well_sorted hs start) headed).0 declared j;
}

-- a group of datatypes has the next numbers
of_group_numbered : (env : Environment) (c : PlainCommand) (group : List PlainDatatype) → own_by c ≡ of_group group → own_definitions c ≡ [] → named_by c ≡ [] → AreCounted env.next (of_group group) → IsNumbered env c (with_group env group)
of_group_numbered env c group is nothing unnamed counted = record {
  ascend = subst (λ (ds : List Declaration). AscendTo env.next (map number_given ds) (env.next + length (of_group group))) (sym is) (counted_ascend env.next (of_group group) counted);
  own = ap defined_in is ∙ (group_defines_none group ∙ sym nothing);
  named = subst (AreNumberedFrom (env.next + length (of_group group))) (sym unnamed) (none_numbered (env.next + length (of_group group)));
}

pub option_next : (env : Environment) (a : Attribute) → (after_option env a).next ≡ env.next
option_next env (keyword_attribute k) = refl
option_next env (valued_attribute k v) = elim (cases_Bool (k.name == GLOBAL_DECLARATIONS)) [
  | inl same ↦ rw same refl
  | inr other ↦ rw other refl
]

-- the commands that change nothing
abbrev pub IsQuiet : PlainCommand → Type 0
IsQuiet c = (own_by c ≡ []) × (own_definitions c ≡ []) × (named_by c ≡ [])

is_quiet : (c d : PlainCommand) → Some c ≡ Some d → IsQuiet c → IsQuiet d
is_quiet c d e h = let same : c ≡ d = cc in subst IsQuiet same h

pub unchanging_quiet : (raw : Command) (c : PlainCommand) → unchanging raw ≡ Some c → IsQuiet c
unchanging_quiet check_sat c e = is_quiet typed.check_sat c e (refl, refl, refl)
unchanging_quiet (echo t) c e = is_quiet (typed.echo t.name) c e (refl, refl, refl)
unchanging_quiet exit c e = is_quiet typed.exit c e (refl, refl, refl)
unchanging_quiet get_assertions c e = is_quiet typed.get_assertions c e (refl, refl, refl)
unchanging_quiet get_assignment c e = is_quiet typed.get_assignment c e (refl, refl, refl)
unchanging_quiet (get_info k) c e = is_quiet (typed.get_info k.name) c e (refl, refl, refl)
unchanging_quiet get_model c e = is_quiet typed.get_model c e (refl, refl, refl)
unchanging_quiet (get_option k) c e = is_quiet (typed.get_option k.name) c e (refl, refl, refl)
unchanging_quiet get_proof c e = is_quiet typed.get_proof c e (refl, refl, refl)
unchanging_quiet get_unsat_assumptions c e = is_quiet typed.get_unsat_assumptions c e (refl, refl, refl)
unchanging_quiet get_unsat_core c e = is_quiet typed.get_unsat_core c e (refl, refl, refl)
unchanging_quiet (set_info a) c e = is_quiet (typed.set_info (attribute_key a).name (attribute_value a)) c e (refl, refl, refl)
unchanging_quiet raw c e = cc

found_numbered : (env : Environment) (raw : Command) (at : ℕ) (c : PlainCommand) (new : Environment) (before after : List ℕ)
    → ◌>>=◌ {B = PlainCommand × Environment} (find (λ d. unchanging raw ≡ Some d) WrongCommandForm at) (λ d. done (d, env)) before (well_sorted (c, new) after) → IsNumbered env c new
found_numbered env raw at c new before after (d, between, found, (e, f)) =
    let q = unchanging_quiet raw d found.0 in numbered_as env c d new env e (quiet env d env q.0 q.1 refl (subst (AreNumberedFrom env.next) (sym q.2) (none_numbered env.next)))

pub parts_numbered : (env : Environment) (at : ℕ) (raw : Command) (c : PlainCommand) (new : Environment) (after : List ℕ) → judge_parts env at raw [] (well_sorted (c, new) after) → IsNumbered env c new
parts_numbered env at (assert t) c new after (u, between, h, (e, f)) =
    numbered_as env c (typed.assert u) new env e (quiet env (typed.assert u) env refl refl refl (after_none env (names_in u) between (bool_given env t u [] between h)))
parts_numbered env at (check_sat_assuming ls) c new after (us, between, h, (e, f)) =
    numbered_as env c (typed.check_sat_assuming us) new env e (quiet env (typed.check_sat_assuming us) env refl refl refl (after_none env (names_in_all us) between (literals_given env ls us [] between h)))
parts_numbered env at (declare_const n s) c new after (w, start, k, (result, later, h, (e, f))) =
    let d = typed.declare_const (next_number env) n.name result in let made = with_function env n.name [] result in numbered_as env c d new made e (single env d made _ refl refl refl refl (none_numbered made.next))
parts_numbered env at (declare_fun n ss s) c new after (w, start, k, (args, between, given, (result, later, h, (e, f)))) =
    let d = typed.declare_fun (next_number env) n.name args result in let made = with_function env n.name args result in numbered_as env c d new made e (single env d made _ refl refl refl refl (none_numbered made.next))
parts_numbered env at (declare_datatype n d) c new after (t, later, h, (e, f)) =
    numbered_as env c (typed.declare_datatype t) new (with_group env (t ∷ [])) e (of_group_numbered env (typed.declare_datatype t) (t ∷ []) refl refl refl (single_counted env at n d t [] later h))
parts_numbered env at (declare_datatypes ss ds) c new after (group, later, h, (e, f)) =
    numbered_as env c (typed.declare_datatypes group) new (with_group env group) e (of_group_numbered env (typed.declare_datatypes group) group refl refl refl (group_counted env at ss ds group [] later h))
parts_numbered env at (declare_sort n a) c new after (w, start, k, (v, later, h, (e, f))) =
    let d = typed.declare_sort (next_number env) n.name (value_of env a) in let made = with_free_sort env n.name (value_of env a) in numbered_as env c d new made e (single env d made _ refl refl refl refl (none_numbered made.next))
parts_numbered env at (define_sort n ps s) c new after (w, start, k, (v, between, apart, (body, later, h, (e, f)))) = numbered_as env c _ new _ e (quiet env _ _ refl refl refl (none_numbered env.next))
parts_numbered env at (define_fun raw) c new after (h, start, j, (u, between, declared, (v, later, k, (e, f)))) =
    let d = defined h false v in numbered_as env c (typed.define_fun d) new (with_header env h) e
    (single env (typed.define_fun d) (with_header env h) (definition d) refl (header_number env raw.name raw.params raw.result h [] start j) refl refl
    (body_numbered env env h raw.body v start between later (none-header env raw.name raw.params raw.result [] (well_sorted h start) j).0 declared k))
parts_numbered env at (define_fun_rec raw) c new after (h, start, j, (u, between, declared, (v, later, k, (e, f)))) =
    let d = defined h true v in numbered_as env c (typed.define_fun_rec d) new (with_header env h) e
    (single env (typed.define_fun_rec d) (with_header env h) (definition d) refl (header_number env raw.name raw.params raw.result h [] start j) refl refl
    (body_numbered env (with_header env h) h raw.body v start between later (none-header env raw.name raw.params raw.result [] (well_sorted h start) j).0 declared k))
parts_numbered env at (define_funs_rec fs ts) c new after (hs, start, headed, (u, between, declared, (ds, later, j, (e, f)))) =
    numbered_as env c (typed.define_funs_rec ds) new (with_headers env hs) e (group_numbered env at fs hs ts ds start between later headed declared j)
parts_numbered env at (get_value ts) c new after (us, between, h, (e, f)) =
    numbered_as env c (typed.get_value us) new env e (quiet env (typed.get_value us) env refl refl refl (after_none env (names_in_all us) between (terms_given (signature_in env) ts us [] between h)))
parts_numbered env at (set_logic n) c new after (e, f) = numbered_as env c _ new _ e (quiet env _ _ refl refl refl (none_numbered env.next))
parts_numbered env at (set_option a) c new after (e, f) = numbered_as env c _ new _ e (quiet env _ _ refl refl (option_next env a) (none_numbered (after_option env a).next))
parts_numbered env at (push n) c new after (e, f) = numbered_as env c _ new _ e (quiet env _ _ refl refl refl (none_numbered env.next))
parts_numbered env at (pop n) c new after (e, f) = numbered_as env c _ new _ e (quiet env _ _ refl refl refl (none_numbered env.next))
parts_numbered env at reset c new after (e, f) = numbered_as env c _ new _ e (quiet env _ _ refl refl refl (none_numbered env.next))
parts_numbered env at reset_assertions c new after (e, f) = numbered_as env c _ new _ e (quiet env _ _ refl refl refl (none_numbered env.next))
parts_numbered env at raw c new after h = found_numbered env raw at c new [] after h

-- the named terms take their numbers in order
named_ascend : (signature : Signature) (ds : List Declaration) (before after : List ℕ) (env : Environment) → signature.first + length before ≡ env.next → AreNamedAfter signature before ds after
    → AscendTo env.next (map number_given ds) (with_names_given env (defined_in ds)).next
named_ascend signature [] before after env counts given = omega arith
named_ascend signature (term_name d n t ∷ ds) before after env counts given = (
  omega (arith, counts, given.0),
  subst (λ (m : ℕ). AscendTo (m + 1) (map number_given ds) (with_names_given (with_name env (named_def d n t)) (defined_in ds)).next) (sym (given.0 ∙ counts))
      (named_ascend signature ds (before ++ n ∷ []) after (with_name env (named_def d n t)) (omega (arith, counts, length-append before (n ∷ []))) given.1),
)
named_ascend signature (sort_symbol d n a ∷ ds) before after env counts given = absurd given.0
named_ascend signature (function_symbol d n args r ∷ ds) before after env counts given = absurd given.0
named_ascend signature (datatype t ∷ ds) before after env counts given = absurd given.0
named_ascend signature (constructor_of t c ∷ ds) before after env counts given = absurd given.0
named_ascend signature (selector_of t c f ∷ ds) before after env counts given = absurd given.0
named_ascend signature (definition d ∷ ds) before after env counts given = absurd given.0

-- what stands before the parts of a command declares no name
pub parts_begin : (env : Environment) (t : Sexp Tok) (raw : Command) (at : ℕ) (between second : List ℕ) → judge_grammar t [] (well_sorted raw between) → judge_mode env at raw between (well_sorted tt second) → second ≡ []
parts_begin env t raw at between second reads mode = (none-mode env at raw between (well_sorted tt second) mode).0 ∙ reads.1

-- the definitions of a command, and then those of its named terms
pub record IsNumberedStep (env : Environment) (c : PlainCommand) (new : Environment) : Type 0 where
  pub ascend : AscendTo env.next (map number_given (declared_by c)) new.next
  pub own : defined_in (declared_by c) ≡ own_definitions c ++ defined_in (named_by c)

whole_numbered : (env : Environment) (c : PlainCommand) (made : Environment) → IsNumbered env c made → IsNumberedStep env c (with_names_given made (defined_in (named_by c)))
whole_numbered env c made h = record {
  ascend = subst (λ (ds : List Declaration). AscendTo env.next (map number_given ds) (with_names_given made (defined_in (named_by c))).next) (sym (declared_split c))
      (subst (λ (ms : List ℕ). AscendTo env.next ms (with_names_given made (defined_in (named_by c))).next) (sym (map-append number_given (own_by c) (named_by c)))
      (ascend_on env.next (map number_given (own_by c)) made.next (map number_given (named_by c)) (with_names_given made (defined_in (named_by c))).next h.ascend
      (named_ascend h.named.signature (named_by c) h.named.before h.named.after made h.named.counts h.named.given)));
  own = ap defined_in (declared_split c) ∙ (defined_joined (own_by c) (named_by c) ∙ ap (λ (ds : List PlainDef). ds ++ defined_in (named_by c)) h.own);
}

-- what is kept has no part in the numbers
kept_numbered : (env : Environment) (c : PlainCommand) (made : Environment) → IsNumberedStep env c (with_names_given made (defined_in (named_by c))) → IsNumberedStep env c (with_defined env c made)
kept_numbered env c made h = record { ascend = h.ascend; own = h.own }

pub tree_numbered : (env : Environment) (t : Sexp Tok) (c : PlainCommand) (new : Environment) (after : List ℕ) → judge_tree env t [] (well_sorted (c, new) after) → IsNumberedStep env c new
tree_numbered env t c new after (raw, between, reads, (made, later, (v, second, mode, (own, third, parts, (w, fourth, fragment, (g, i)))), (e, f))) =
    let begins = parts_begin env t raw _ between second reads mode in
    let numbered = parts_numbered env _ raw own.0 own.1 third (subst (λ (ns : List ℕ). judge_parts env (byte_of t) raw ns (well_sorted own third)) begins parts) in
    subst (λ (p : PlainCommand × Environment). IsNumberedStep env p.0 p.1) (sym e)
    (subst (λ (p : PlainCommand × Environment). IsNumberedStep env p.0 (with_defined env p.0 p.1)) (sym g) (kept_numbered env own.0 own.1 (whole_numbered env own.0 own.1 numbered)))

list_ascends : (env : Environment) (t : Sexp Token) (c : PlainCommand) (new : Environment) → ListSteps env t c new → AscendTo env.next (map number_given (declared_by c)) new.next
list_ascends env t c new (declared, steps) = (tree_numbered (with_names env t) _ c new declared steps).ascend

-- the numbers of one command, and those of others after it
numbers_on : (n : ℕ) (c : PlainCommand) (cs : List PlainCommand) (mid top : ℕ) → AscendTo n (map number_given (declared_by c)) mid → AscendTo mid (map number_given (declared_in cs)) top
    → AscendTo n (map number_given (declared_in (c ∷ cs))) top
numbers_on n c cs mid top h k =
    subst (λ (ms : List ℕ). AscendTo n ms top) (sym (map-append number_given (declared_by c) (declared_in cs))) (ascend_on n (map number_given (declared_by c)) mid (map number_given (declared_in cs)) top h k)

-- the numbers that the commands of a run are given
pub run_numbered : (ts : List (Sexp Token)) (env : Environment) (run : Run) → Runs env ts run → AscendTo env.next (map number_given (declared_in run.commands)) run.env.next
run_numbered [] env run e = subst (λ (r : Run). AscendTo env.next (map number_given (declared_in r.commands)) r.env.next) (sym e) (omega arith)
run_numbered (t ∷ ts) env run (inl (place, fault, e)) = subst (λ (r : Run). AscendTo env.next (map number_given (declared_in r.commands)) r.env.next) (sym e) (omega arith)
run_numbered (t ∷ ts) env run (inr (inl (c, after, steps, exits, e))) =
    subst (λ (r : Run). AscendTo env.next (map number_given (declared_in r.commands)) r.env.next) (sym e)
    (numbers_on env.next c [] after.next after.next (list_ascends env t c after steps) (omega arith))
run_numbered (t ∷ ts) env run (inr (inr (c, after, steps, goes, rest, runs, e))) =
    subst (λ (r : Run). AscendTo env.next (map number_given (declared_in r.commands)) r.env.next) (sym e)
    (numbers_on env.next c rest.commands after.next rest.env.next (list_ascends env t c after steps) (run_numbered ts after rest runs))

-- the definitions of a typed command with those of its named terms have the next numbers
named_defs_ascend : (ds : List Declaration) (defs : List Def) (n : ℕ) → map plain_def defs ≡ defined_in ds → AscendFrom n (map number_given ds) → AscendFrom n (map (λ (d : Def). d.no.0) defs)
named_defs_ascend ds defs n same h = subst (AscendFrom n) (sym (numbers_of defs)) (subst (λ (xs : List PlainDef). AscendFrom n (map (λ (d : PlainDef). d.no.0) xs)) (sym same) (defined_ascend ds n h))
  where
    numbers_of : (defs : List Def) → map (λ (d : Def). d.no.0) defs ≡ map (λ (d : PlainDef). d.no.0) (map plain_def defs)
    numbers_of [] = refl
    numbers_of (d ∷ defs) = ap (λ ns. d.no.0 ∷ ns) (numbers_of defs)

    defined_ascend : (ds : List Declaration) (n : ℕ) → AscendFrom n (map number_given ds) → AscendFrom n (map (λ (d : PlainDef). d.no.0) (defined_in ds))
    defined_ascend [] n h = tt
    defined_ascend (definition d ∷ ds) n h = (h.0, defined_ascend ds (d.no.0 + 1) h.1)
    defined_ascend (term_name d m t ∷ ds) n h = (h.0, defined_ascend ds (d.0 + 1) h.1)
    defined_ascend (sort_symbol d m a ∷ ds) n h = ascend_lower (d.0 + 1) n _ (omega (arith, h.0)) (defined_ascend ds (d.0 + 1) h.1)
    defined_ascend (function_symbol d m args r ∷ ds) n h = ascend_lower (d.0 + 1) n _ (omega (arith, h.0)) (defined_ascend ds (d.0 + 1) h.1)
    defined_ascend (datatype t ∷ ds) n h = ascend_lower (t.no.0 + 1) n _ (omega (arith, h.0)) (defined_ascend ds (t.no.0 + 1) h.1)
    defined_ascend (constructor_of t c ∷ ds) n h = ascend_lower (c.no.0 + 1) n _ (omega (arith, h.0)) (defined_ascend ds (c.no.0 + 1) h.1)
    defined_ascend (selector_of t c f ∷ ds) n h = ascend_lower (f.no.0 + 1) n _ (omega (arith, h.0)) (defined_ascend ds (f.no.0 + 1) h.1)

pub definitions_own : (c : TypedCommand) → map plain_def (definitions_in c) ≡ own_definitions (plain_command c)
definitions_own (kept.DefineFun d) = refl
definitions_own (kept.DefineFunRec d) = refl
definitions_own (kept.DefineFunsRec ds) = refl
definitions_own c = refl

-- .. and are those that the command declares
pub all_definitions : (env new : Environment) (c : TypedCommand) (named : List Def) → IsNumberedStep env (plain_command c) new → map plain_def named ≡ defined_in (named_by (plain_command c))
    → map plain_def (definitions_in c ++ named) ≡ defined_in (declared_by (plain_command c))
all_definitions env new c named h same =
    map-append plain_def (definitions_in c) named ∙ (ap (λ (ds : List PlainDef). ds ++ map plain_def named) (definitions_own c) ∙ (ap (λ (ds : List PlainDef). own_definitions (plain_command c) ++ ds) same ∙ sym h.own))

pub definitions_ascend : (env new : Environment) (c : TypedCommand) (named : List Def) → IsNumberedStep env (plain_command c) new → map plain_def named ≡ defined_in (named_by (plain_command c))
    → AscendFrom env.next (map (λ (d : Def). d.no.0) (definitions_in c ++ named))
definitions_ascend env new c named h same =
    named_defs_ascend (declared_by (plain_command c)) (definitions_in c ++ named) env.next (all_definitions env new c named h same) (ascend_from env.next (map number_given (declared_by (plain_command c))) new.next h.ascend)
