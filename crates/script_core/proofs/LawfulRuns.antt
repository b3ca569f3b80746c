-- Lists are taken as commands in one way: from the start, and from each environment that lists have led to. In these the definitions
-- so far apply lower functions, by soundness of the commands so far.
use Rattle.std.proofs.Common.{◌≡◌, true, false, List, [], ◌∷◌, ◌++◌, refl, sym, ◌∙◌, ap, subst, append_assoc, append-nil, inl, inr}
use Rattle.std.proofs.lemmas.Bool.{cases_Bool, false≢true}
use Rattle.lex_core.specs.Token.{Token}
use Rattle.lex_core.specs.declared.place.Place.{Place}
use Rattle.sexp_core.specs.Sexp.{Sexp}
use Rattle.logic_frag.specs.Following.{AppliesLower}
use Rattle.term_store.specs.Command.{PlainCommand, PlainDef}
use Rattle.term_store.specs.Declarations.{declared_by, declared_in}
use Rattle.script_core.specs.Environment.{Environment, start}
use Rattle.script_core.specs.Keeping.{defined_in}
use Rattle.script_core.specs.Steps.{all_taken, exited, broken, ListFault, ListSteps, Run, Runs, after_command, is_exit, stopped}
use Rattle.script_core.proofs.LawfulRules.{list_cases, list_fault_once, list_no_fault, list_once}
use Rattle.script_core.proofs.NamedWalks.{defined_joined}
use Rattle.script_core.proofs.Running.{all_of, next_taken}
use Rattle.script_core.proofs.SoundDefinitions.{commands_lower}
use Rattle.script_core.proofs.SoundRuns.{commands_sound}

-- what a command defines is kept after what was kept before
list_defines : (env : Environment) (t : Sexp Token) (c : PlainCommand) (new : Environment) → ListSteps env t c new → new.definitions ≡ env.definitions ++ defined_in (declared_by c)
list_defines env t c new (declared, (raw, between, reads, (made, later, own, (e, f)))) =
    ap (λ (p : PlainCommand × Environment). p.1.definitions) e ∙ ap (λ (p : PlainCommand × Environment). env.definitions ++ defined_in (declared_by p.0)) (sym e)

defines_more : (before : List PlainDef) (c : PlainCommand) (cs : List PlainCommand) → (before ++ defined_in (declared_by c)) ++ defined_in (declared_in cs) ≡ before ++ defined_in (declared_in (c ∷ cs))
defines_more before c cs = append_assoc before (defined_in (declared_by c)) (defined_in (declared_in cs)) ∙ ap (λ (ds : List PlainDef). before ++ ds) (sym (defined_joined (declared_by c) (declared_in cs)))

run_defines : (ts : List (Sexp Token)) (env : Environment) (run : Run) → Runs env ts run → run.env.definitions ≡ env.definitions ++ defined_in (declared_in run.commands)
run_defines [] env run e = subst (λ (r : Run). r.env.definitions ≡ env.definitions ++ defined_in (declared_in r.commands)) (sym e) (sym (append-nil env.definitions))
run_defines (t ∷ ts) env run (inl (place, fault, e)) = subst (λ (r : Run). r.env.definitions ≡ env.definitions ++ defined_in (declared_in r.commands)) (sym e) (sym (append-nil env.definitions))
run_defines (t ∷ ts) env run (inr (inl (c, after, steps, exits, e))) =
    subst (λ (r : Run). r.env.definitions ≡ env.definitions ++ defined_in (declared_in r.commands)) (sym e)
    (list_defines env t c after steps ∙ (sym (append-nil (env.definitions ++ defined_in (declared_by c))) ∙ defines_more env.definitions c []))
run_defines (t ∷ ts) env run (inr (inr (c, after, steps, goes, rest, runs, e))) =
    subst (λ (r : Run). r.env.definitions ≡ env.definitions ++ defined_in (declared_in r.commands)) (sym e)
    (run_defines ts after rest runs ∙ (ap (λ (ds : List PlainDef). ds ++ defined_in (declared_in rest.commands)) (list_defines env t c after steps) ∙ defines_more env.definitions c rest.commands))

-- lists lead from the start to the environment
pub record IsReached (env : Environment) : Type 0 where
  pub lists : List (Sexp Token)
  pub commands : List PlainCommand
  pub runs : Runs start lists (all_of commands env)

pub start_reached : IsReached start
start_reached = record { lists = []; commands = []; runs = refl }

reached_next : (env new : Environment) (t : Sexp Token) (c : PlainCommand) → IsReached env → ListSteps env t c new → is_exit c ≡ false → IsReached new
reached_next env new t c at steps goes = record { lists = at.lists ++ t ∷ []; commands = at.commands ++ c ∷ []; runs = next_taken at.lists t start env new at.commands c at.runs steps goes }

reached_lower : (env : Environment) → IsReached env → AppliesLower env.definitions
reached_lower env at = subst AppliesLower (sym (run_defines at.lists start (all_of at.commands env) at.runs)) (commands_lower at.commands (commands_sound at.lists (all_of at.commands env) at.runs))

-- a command is `exit`, or not
opposite : (c d : PlainCommand) → c ≡ d → is_exit c ≡ true → is_exit d ≡ false → ⊥
opposite c d e t f = false≢true (sym f ∙ (ap is_exit (sym e) ∙ t))

pub run_once : (ts : List (Sexp Token)) (env : Environment) → IsReached env → (r s : Run) → Runs env ts r → Runs env ts s → r ≡ s
run_once [] env at r s x y = x ∙ sym y
run_once (t ∷ ts) env at r s (inl (p, f, e)) (inl (q, g, d)) = e ∙ (ap (λ (x : Place). stopped env (broken x)) (list_fault_once env (reached_lower env at) t p q f g) ∙ sym d)
run_once (t ∷ ts) env at r s (inl (p, f, e)) (inr (inl (c, n, l, x, d))) = absurd (list_no_fault env (reached_lower env at) t c n p l f)
run_once (t ∷ ts) env at r s (inl (p, f, e)) (inr (inr (c, n, l, x, rest, runs, d))) = absurd (list_no_fault env (reached_lower env at) t c n p l f)
run_once (t ∷ ts) env at r s (inr (inl (c, n, l, x, d))) (inl (p, f, e)) = absurd (list_no_fault env (reached_lower env at) t c n p l f)
run_once (t ∷ ts) env at r s (inr (inr (c, n, l, x, rest, runs, d))) (inl (p, f, e)) = absurd (list_no_fault env (reached_lower env at) t c n p l f)
run_once (t ∷ ts) env at r s (inr (inl (c, n, l, x, e))) (inr (inl (d, m, k, y, f))) =
    let same = list_once env (reached_lower env at) t c d n m l k in
    e ∙ (ap (λ (a : PlainCommand). after_command a (stopped n exited)) same.0 ∙ (ap (λ (a : Environment). after_command d (stopped a exited)) same.1 ∙ sym f))
run_once (t ∷ ts) env at r s (inr (inl (c, n, l, x, e))) (inr (inr (d, m, k, y, rest, runs, f))) = absurd (opposite c d (list_once env (reached_lower env at) t c d n m l k).0 x y)
run_once (t ∷ ts) env at r s (inr (inr (d, m, k, y, rest, runs, f))) (inr (inl (c, n, l, x, e))) = absurd (opposite c d (list_once env (reached_lower env at) t c d n m l k).0 x y)
run_once (t ∷ ts) env at r s (inr (inr (c, n, l, x, rest, runs, e))) (inr (inr (d, m, k, y, others, also, f))) =
    let same = list_once env (reached_lower env at) t c d n m l k in
    let tail : rest ≡ others = run_once ts m (reached_next env m t d at k y) rest others (subst (λ (a : Environment). Runs a ts rest) same.1 runs) also in
    e ∙ (ap (λ (a : PlainCommand). after_command a rest) same.0 ∙ (ap (λ (a : Run). after_command d a) tail ∙ sym f))

pub run_some : (ts : List (Sexp Token)) (env : Environment) → IsReached env → (r : Run) × Runs env ts r
run_some [] env at = (stopped env all_taken, refl)
run_some (t ∷ ts) env at = elim (list_cases env (reached_lower env at) t) [
  | inr fault ↦ (stopped env (broken fault.0), inl (fault.0, fault.1, refl))
  | inl steps ↦ elim (cases_Bool (is_exit steps.0)) [
    | inl exits ↦ (after_command steps.0 (stopped steps.1 exited), inr (inl (steps.0, steps.1, steps.2, exits, refl)))
    | inr goes ↦ let rest = run_some ts steps.1 (reached_next env steps.1 t steps.0 at steps.2 goes) in (after_command steps.0 rest.0, inr (inr (steps.0, steps.1, steps.2, goes, rest.0, rest.1, refl)))
  ]
]
