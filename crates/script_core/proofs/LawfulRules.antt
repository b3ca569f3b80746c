-- Each list has exactly one outcome as the next command.
use Rattle.std.proofs.Common.{◌≡◌, ℕ, Bool, true, false, List, [], ◌∷◌, ◌++◌, Option, Some, None, refl, ap, sym, ◌⊎◌, inl, inr}
use Rattle.std.specs.Option.{is_some}
use Rattle.std.proofs.lemmas.Bool.{false≢true}
use Rattle.sig_table.specs.declared.code.Code.{Code}
use Rattle.lex_core.specs.Token.{Token}
use Rattle.lex_core.specs.declared.place.Place.{Place}
use Rattle.lex_core.specs.declared.token.Tok.{Tok}
use Rattle.sexp_core.specs.Sexp.{Sexp}
use Rattle.judgement.specs.Judging.{Outcome, Lawful, well_sorted, ill_sorted}
use Rattle.judgement.proofs.JudgementLaws.{fault_once, lawful-check, lawful-declare, lawful-done, lawful-find, lawful-refuse, lawful-then, never_both, option_decided, test_decided, value_once, value_or_fault}
use Rattle.term_grammar.specs.Syntax as syntax
use Rattle.term_grammar.specs.Syntax.{SortedSymbol, Term, Terms, no_terms, with_term}
use Rattle.cmd_grammar.specs.Commands.{Command, FunDec, Literal, assert, check_sat_assuming, declare_const, declare_datatype, declare_datatypes, declare_fun, declare_sort, define_fun, define_fun_rec, define_funs_rec, define_sort, echo, exit, get_info, get_option, get_value, pop, push, reset, reset_assertions, set_info, set_logic, set_option}
use Rattle.cmd_grammar.specs.Grammar.{IsGrammarFault, ReadsCommand}
use Rattle.cmd_grammar.proofs.GrammarAgrees.{one_command, one_of_both, not_both}
use Rattle.cmd_grammar.proofs.GrammarAgrees as grammar
use Rattle.typer.proofs.SortLaws.{at_most, lawful-sort, lawful-sorts}
use Rattle.typer.proofs.TermLaws.{lawful-term, lawful-terms}
use Rattle.datatype_commands.proofs.LawfulGroups.{lawful-group, lawful-single}
use Rattle.theory_core.proofs.SortsDecided.{sort_decided}
use Rattle.sort_store.specs.CoreRanks.{bool}
use Rattle.sort_store.specs.declared.head.Head.TheVariants as head
use Rattle.sort_store.specs.Tree.{Sort, sort, no_sorts, more_sorts}
use Rattle.term_store.specs.Command.{PlainCommand, PlainDef}
use Rattle.logic_frag.specs.Following.{AppliesLower}
use Rattle.logic_frag.specs.FragmentRules.{BreaksRule, context_of, fragment_codes}
use Rattle.logic_frag.specs.Logics.{Description}
use Rattle.logic_frag.proofs.DecidedRules.{rule_decided}
use Rattle.term_store.specs.Term.{plain_sort}
use Rattle.script_core.specs.Environment.{Environment, logic_in, signature_from, signature_in}
use Rattle.script_core.specs.Numbering.{numbered_sexp}
use Rattle.script_core.specs.Rules.{Header, declare_each, judge_body, judge_bool, judge_codes, judge_command, judge_fragment, judge_header, judge_headers, judge_literals, judge_member, judge_members, judge_mode, judge_own, judge_params, judge_parts, judge_variable, judge_variables, judge_whole, unchanging, with_header, with_headers}
use Rattle.script_core.specs.Steps.{ListFault, ListSteps, judge_grammar, judge_list, judge_tree, with_names}

lawful-grammar : (t : Sexp Tok) → Lawful (judge_grammar t)
lawful-grammar t before = elim (one_of_both t) [
  | inl (c, reads) ↦ record { outcome = well_sorted c before; holds = (reads, refl); only = one_read c reads }
  | inr (p, fault) ↦ record { outcome = ill_sorted p; holds = fault; only = one_refused p fault }
]
  where
    one_read : (c : Command) → ReadsCommand t c → (o : Outcome Command) → judge_grammar t before o → o ≡ well_sorted c before
    one_read c reads (well_sorted d after) h = let e : d ≡ c = one_command t d c h.0 reads in let s = h.1 in cc
    one_read c reads (ill_sorted p) h = absurd (not_both t c p reads h)

    one_refused : (p : Place) → IsGrammarFault t p → (o : Outcome Command) → judge_grammar t before o → o ≡ ill_sorted p
    one_refused p fault (well_sorted d after) h = absurd (not_both t d p h.0 fault)
    one_refused p fault (ill_sorted q) h = let e : q ≡ p = grammar.one_fault t q p h fault in ap ill_sorted e

is_false : (b : Bool) → (b ≡ false) ⊎ ((b ≡ false) → ⊥)
is_false true = inr (λ e. false≢true (sym e))
is_false false = inl refl

lawful-mode : (env : Environment) (at : ℕ) (c : Command) → Lawful (judge_mode env at c)
lawful-mode env at (set_logic n) = lawful-then _ _ (lawful-check _ _ _ (is_false (is_some env.logic))) (λ u. lawful-check _ _ _ (test_decided (is_some (logic_in env n))))
lawful-mode env at (set_option a) = lawful-check _ _ _ (is_false _)
lawful-mode env at (set_info a) = lawful-done _
lawful-mode env at (get_option k) = lawful-done _
lawful-mode env at (get_info k) = lawful-done _
lawful-mode env at (echo t) = lawful-done _
lawful-mode env at reset = lawful-done _
lawful-mode env at exit = lawful-done _
lawful-mode env at (push n) = lawful-then _ _ (lawful-check _ _ _ (test_decided (is_some env.logic))) (λ u. lawful-check _ _ _ (at_most _ _))
lawful-mode env at (pop n) = lawful-then _ _ (lawful-check _ _ _ (test_decided (is_some env.logic))) (λ u. lawful-check _ _ _ (at_most _ _))
lawful-mode env at c = lawful-check _ _ _ (test_decided (is_some env.logic))

lawful-params : (before : List ℕ) (ps : List Tok) → Lawful (judge_params before ps)
lawful-params before [] = lawful-done _
lawful-params before (p ∷ ps) = lawful-then _ _ (lawful-check _ _ _ (is_false _)) (λ u. lawful-params (before ++ p.name ∷ []) ps)

bool_decided : (s : Sort) → (s ≡ bool) ⊎ ((s ≡ bool) → ⊥)
bool_decided (sort head.Bool no_sorts) = inl refl
bool_decided (sort head.Bool (more_sorts t ts)) = inr (λ e. cc)
bool_decided (sort h ts) = inr (λ e. cc)

lawful-bool : (env : Environment) (t : Term) → Lawful (judge_bool env t)
lawful-bool env t = lawful-then _ _ (lawful-term (signature_in env) t []) (λ u. lawful-then _ _ (lawful-check _ _ _ (bool_decided (plain_sort u))) (λ v. lawful-done _))

lawful-literals : (env : Environment) (ls : List Literal) → Lawful (judge_literals env ls)
lawful-literals env [] = lawful-done _
lawful-literals env (l ∷ ls) = lawful-then _ _ (lawful-bool env _) (λ u. lawful-then _ _ (lawful-literals env ls) (λ us. lawful-done _))

lawful-variable : (env : Environment) (before : List ℕ) (p : SortedSymbol) → Lawful (judge_variable env before p)
lawful-variable env before p = lawful-then _ _ (lawful-check _ _ _ (is_false _)) (λ u. lawful-then _ _ (lawful-sort _ _ _ _ p.sort) (λ s. lawful-done _))

lawful-variables : (env : Environment) (before : List ℕ) (ps : List SortedSymbol) → Lawful (judge_variables env before ps)
lawful-variables env before [] = lawful-done _
lawful-variables env before (p ∷ ps) = lawful-then _ _ (lawful-variable env before p) (λ v. lawful-then _ _ (lawful-variables env (before ++ v.0 ∷ []) ps) (λ vs. lawful-done _))

lawful-header : (env : Environment) (n : Tok) (ps : List SortedSymbol) (s : syntax.Sort) → Lawful (judge_header env n ps s)
lawful-header env n ps s =
    lawful-then _ _ (lawful-check _ _ _ (is_false _)) (λ u. lawful-then _ _ (lawful-variables env [] ps) (λ vs. lawful-then _ _ (lawful-sort _ _ _ _ s) (λ r. lawful-done _)))

lawful-body : (first : ℕ) (env : Environment) (h : Header) (t : Term) → Lawful (judge_body first env h t)
lawful-body first env h t = lawful-then _ _ (lawful-term (signature_from first env) t h.params) (λ u. lawful-then _ _ (lawful-check _ _ _ (sort_decided (plain_sort u) h.result)) (λ v. lawful-done _))

lawful-headers : (env : Environment) (fs : List FunDec) → Lawful (judge_headers env fs)
lawful-headers env [] = lawful-done _
lawful-headers env (f ∷ fs) = lawful-then _ _ (lawful-header env f.name f.params f.result) (λ h. lawful-then _ _ (lawful-headers (with_header env h) fs) (λ hs. lawful-done _))

lawful-member : (first : ℕ) (env : Environment) (h : Header) (t : Term) → Lawful (judge_member first env h t)
lawful-member first env h t = lawful-then _ _ (lawful-body first env h t) (λ u. lawful-done _)

lawful-members : (first : ℕ) (env : Environment) (at : ℕ) (hs : List Header) (ts : Terms) → Lawful (judge_members first env at hs ts)
lawful-members first env at [] ts = lawful-done _
lawful-members first env at (h ∷ hs) no_terms = lawful-refuse _ _
lawful-members first env at (h ∷ hs) (with_term t ts) = lawful-then _ _ (lawful-member first env h t) (λ d. lawful-then _ _ (lawful-members first env at hs ts) (λ ds. lawful-done _))

lawful-declare_each : (ns : List ℕ) → Lawful (declare_each ns)
lawful-declare_each [] = lawful-done _
lawful-declare_each (n ∷ ns) = lawful-then _ _ (lawful-declare n) (λ u. lawful-declare_each ns)

lawful-parts : (env : Environment) (at : ℕ) (c : Command) → Lawful (judge_parts env at c)
lawful-parts env at (assert t) = lawful-then _ _ (lawful-bool env t) (λ u. lawful-done _)
lawful-parts env at (check_sat_assuming ls) = lawful-then _ _ (lawful-literals env ls) (λ u. lawful-done _)
lawful-parts env at (declare_const n s) =
    lawful-then _ _ (lawful-check _ _ _ (is_false _)) (λ u. lawful-then _ _ (lawful-sort _ _ _ _ s) (λ result. lawful-done _))
lawful-parts env at (declare_fun n ss s) =
    lawful-then _ _ (lawful-check _ _ _ (is_false _)) (λ u. lawful-then _ _ (lawful-sorts _ _ _ _ ss) (λ args. lawful-then _ _ (lawful-sort _ _ _ _ s) (λ result. lawful-done _)))
lawful-parts env at (declare_datatype n d) = lawful-then _ _ (lawful-single (signature_in env) at n d) (λ t. lawful-done _)
lawful-parts env at (declare_datatypes ss ds) = lawful-then _ _ (lawful-group (signature_in env) at ss ds) (λ group. lawful-done _)
lawful-parts env at (declare_sort n a) =
    lawful-then _ _ (lawful-check _ _ _ (is_false _)) (λ u. lawful-then _ _ (lawful-check _ _ _ (at_most _ _)) (λ v. lawful-done _))
lawful-parts env at (define_sort n ps s) =
    lawful-then _ _ (lawful-check _ _ _ (is_false _)) (λ u. lawful-then _ _ (lawful-params [] ps) (λ v. lawful-then _ _ (lawful-sort _ _ _ _ s) (λ body. lawful-done _)))
lawful-parts env at (define_fun f) = lawful-then _ _ (lawful-header env f.name f.params f.result) (λ h. lawful-then _ _ (lawful-declare h.name) (λ v. lawful-then _ _ (lawful-body env.next env h f.body) (λ u. lawful-done _)))
lawful-parts env at (define_fun_rec f) = lawful-then _ _ (lawful-header env f.name f.params f.result) (λ h. lawful-then _ _ (lawful-declare h.name) (λ v. lawful-then _ _ (lawful-body env.next (with_header env h) h f.body) (λ u. lawful-done _)))
lawful-parts env at (define_funs_rec fs ts) = lawful-then _ _ (lawful-headers env fs) (λ hs. lawful-then _ _ (lawful-declare_each _) (λ v. lawful-then _ _ (lawful-members env.next (with_headers env hs) at hs ts) (λ ds. lawful-done _)))
lawful-parts env at (get_value ts) = lawful-then _ _ (lawful-terms (signature_in env) ts []) (λ us. lawful-done _)
lawful-parts env at (set_logic n) = lawful-done _
lawful-parts env at (set_option a) = lawful-done _
lawful-parts env at (push n) = lawful-done _
lawful-parts env at (pop n) = lawful-done _
lawful-parts env at reset = lawful-done _
lawful-parts env at reset_assertions = lawful-done _
lawful-parts env at c = lawful-then _ _ (lawful-find _ _ _ (option_decided (unchanging c))) (λ d. lawful-done _)

unbroken : {P : Type 0} → P ⊎ (P → ⊥) → (P → ⊥) ⊎ ((P → ⊥) → ⊥)
unbroken (inl p) = inr (λ f. f p)
unbroken (inr f) = inl f

lawful-codes : (Broken : Code → Type 0) (at : ℕ) (cs : List Code) → ((c : Code) → Broken c ⊎ (Broken c → ⊥)) → Lawful (judge_codes Broken at cs)
lawful-codes Broken at [] decided = lawful-done _
lawful-codes Broken at (c ∷ cs) decided = lawful-then _ _ (lawful-check _ _ _ (unbroken (decided c))) (λ u. lawful-codes Broken at cs decided)

lawful-fragment : (logic : Option Description) (texts : List (List ℕ)) (kept : List PlainDef) (at : ℕ) (c : PlainCommand) → AppliesLower kept → Lawful (judge_fragment logic texts kept at c)
lawful-fragment None texts kept at c low = lawful-done _
lawful-fragment (Some l) texts kept at c low = lawful-codes (BreaksRule l (context_of texts kept c) c) at fragment_codes (rule_decided l texts kept c low)

lawful-whole : (logic : Option Description) (texts : List (List ℕ)) (kept : List PlainDef) (at : ℕ) (c : PlainCommand) → AppliesLower kept → Lawful (judge_whole logic texts kept at c)
lawful-whole logic texts kept at c low = lawful-then _ _ (lawful-check _ _ _ (at_most _ _)) (λ u. lawful-fragment logic texts kept at c low)

-- The definitions so far apply lower functions, so that what a term stands for is decided.
lawful-own : (env : Environment) → AppliesLower env.definitions → (at : ℕ) (c : Command) → Lawful (judge_own env at c)
lawful-own env low at c =
    lawful-then _ _ (lawful-mode env at c) (λ v. lawful-then _ _ (lawful-parts env at c) (λ made. lawful-then _ _ (lawful-whole env.logic env.names env.definitions at made.0 low) (λ w. lawful-done _)))

lawful-command : (env : Environment) → AppliesLower env.definitions → (at : ℕ) (c : Command) → Lawful (judge_command env at c)
lawful-command env low at c = lawful-then _ _ (lawful-own env low at c) (λ made. lawful-done _)

lawful-tree : (env : Environment) → AppliesLower env.definitions → (t : Sexp Tok) → Lawful (judge_tree env t)
lawful-tree env low t = lawful-then _ _ (lawful-grammar t) (λ c. lawful-command env low _ c)

lawful-list : (env : Environment) → AppliesLower env.definitions → (t : Sexp Token) → Lawful (judge_list env t)
lawful-list env low t = lawful-tree (with_names env t) low (numbered_sexp (with_names env t).names t)

same_parts : (c d : PlainCommand) (n m : Environment) → ◌≡◌ {A = PlainCommand × Environment} (c, n) (d, m) → (c ≡ d) × (n ≡ m)
same_parts c d n m e = (ap (λ (p : PlainCommand × Environment). p.0) e, ap (λ (p : PlainCommand × Environment). p.1) e)

-- a list is one command, and leads to one environment
pub list_once : (env : Environment) → AppliesLower env.definitions → (t : Sexp Token) (c d : PlainCommand) (n m : Environment) → ListSteps env t c n → ListSteps env t d m → (c ≡ d) × (n ≡ m)
list_once env low t c d n m x y = same_parts c d n m (value_once (judge_list env t) (lawful-list env low t) [] (c, n) (d, m) x.0 y.0 x.1 y.1).0

pub list_no_fault : (env : Environment) → AppliesLower env.definitions → (t : Sexp Token) (c : PlainCommand) (n : Environment) (p : Place) → ListSteps env t c n → ListFault env t p → ⊥
list_no_fault env low t c n p x f = never_both (judge_list env t) (lawful-list env low t) [] (c, n) x.0 p x.1 f

pub list_fault_once : (env : Environment) → AppliesLower env.definitions → (t : Sexp Token) (p q : Place) → ListFault env t p → ListFault env t q → p ≡ q
list_fault_once env low t p q f g = fault_once (judge_list env t) (lawful-list env low t) [] p q f g

-- a list steps or has a fault
pub list_cases : (env : Environment) → AppliesLower env.definitions → (t : Sexp Token) → ((c : PlainCommand) × (n : Environment) × ListSteps env t c n) ⊎ ((p : Place) × ListFault env t p)
list_cases env low t = elim (value_or_fault (judge_list env t) (lawful-list env low t) []) [
  | inl found ↦ inl (found.0.0, found.0.1, (found.1, found.2))
  | inr fault ↦ inr fault
]
