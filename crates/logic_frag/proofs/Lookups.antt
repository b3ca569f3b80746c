-- What a name means in a scope, binder by binder.
use Rattle.std.proofs.Common.{◌≡◌, ℕ, Bool, true, false, ◌||◌, ◌&&◌, not, ◌==◌, if◌then◌else◌, List, [], ◌∷◌, Option, Some, None, refl, sym, ap, ◌∙◌, length, arith}
use Rattle.sort_store.specs.Tree.{Sort}
use Rattle.term_store.specs.NumberedNodes.{terms}
use Rattle.term_store.specs.Term.{PlainTerm, PlainNode, Terms, lit, var, app, let_in, quant, match_on, ann, no_terms, more_terms, NumberedTerm, node_of, node_tree, trees}
use Rattle.logic_frag.specs.declared.binder.Binder.{Binder}
use Rattle.logic_frag.specs.declared.binder.Binder.TheVariants as binders
use Rattle.logic_frag.specs.Occurrences.{Scope, let_variable, quantified, matched, seen_in, let_value, is_quantified, with_let, with_matched}
use Rattle.logic_frag.specs.ScopeFrames.{with_let_of, with_names, scope_of, later, named_value, value_in, is_name, found_value}

-- by whether the name is that of the variable
let_value-with_let : (vs : List ℕ) (ts : Terms (Unit {0}) Sort) (outer scope : Scope) (n : ℕ) → let_value (with_let vs ts outer scope) n ≡ found_value outer (named_value vs ts n) (let_value scope n)
let_value-with_let [] ts outer scope n = refl
let_value-with_let (v ∷ vs) no_terms outer scope n = refl
let_value-with_let (v ∷ vs) (more_terms t ts) outer scope n = let_value-with_let vs ts outer (let_variable v t outer scope) n ∙ joined (named_value vs ts n) (n == v)
  where
    joined : (found : Option PlainTerm) (same : Bool) → found_value outer found (if same then Some (seen_in outer t) else let_value scope n) ≡ found_value outer (later found (if same then Some t else None)) (let_value scope n)
    joined (Some u) same = refl
    joined None true = refl
    joined None false = refl

abbrev is_found : Option PlainTerm → Bool
is_found None = false
is_found (Some t) = true

is_quantified-with_let : (vs : List ℕ) (ts : Terms (Unit {0}) Sort) (outer scope : Scope) (n : ℕ) → is_quantified (with_let vs ts outer scope) n ≡ (not (is_found (named_value vs ts n)) && is_quantified scope n)
is_quantified-with_let [] ts outer scope n = refl
is_quantified-with_let (v ∷ vs) no_terms outer scope n = refl
is_quantified-with_let (v ∷ vs) (more_terms t ts) outer scope n = is_quantified-with_let vs ts outer (let_variable v t outer scope) n ∙ joined (named_value vs ts n) (n == v)
  where
    joined : (found : Option PlainTerm) (same : Bool) → (not (is_found found) && (if same then false else is_quantified scope n)) ≡ (not (is_found (later found (if same then Some t else None))) && is_quantified scope n)
    joined (Some u) same = refl
    joined None true = refl
    joined None false = refl

let_value-with_names : (ns : List ℕ) (scope : Scope) (n : ℕ) → let_value (with_names ns scope) n ≡ (if is_name n ns then None else let_value scope n)
let_value-with_names [] scope n = refl
let_value-with_names (m ∷ ns) scope n = let_value-with_names ns (quantified m scope) n ∙ joined (is_name n ns) (n == m)
  where
    joined : (among same : Bool) → (if among then None else (if same then None else let_value scope n)) ≡ (if same || among then None else let_value scope n)
    joined true true = refl
    joined true false = refl
    joined false true = refl
    joined false false = refl

is_quantified-with_names : (ns : List ℕ) (scope : Scope) (n : ℕ) → is_quantified (with_names ns scope) n ≡ (is_name n ns || is_quantified scope n)
is_quantified-with_names [] scope n = refl
is_quantified-with_names (m ∷ ns) scope n = is_quantified-with_names ns (quantified m scope) n ∙ joined (is_name n ns) (n == m)
  where
    joined : (among same : Bool) → (among || (if same then true else is_quantified scope n)) ≡ ((same || among) || is_quantified scope n)
    joined true true = refl
    joined true false = refl
    joined false true = refl
    joined false false = refl

let_value-with_matched : (ns : List ℕ) (scope : Scope) (n : ℕ) → let_value (with_matched ns scope) n ≡ (if is_name n ns then None else let_value scope n)
let_value-with_matched [] scope n = refl
let_value-with_matched (m ∷ ns) scope n = let_value-with_matched ns (matched m scope) n ∙ joined (is_name n ns) (n == m)
  where
    joined : (among same : Bool) → (if among then None else (if same then None else let_value scope n)) ≡ (if same || among then None else let_value scope n)
    joined true true = refl
    joined true false = refl
    joined false true = refl
    joined false false = refl

is_quantified-with_matched : (ns : List ℕ) (scope : Scope) (n : ℕ) → is_quantified (with_matched ns scope) n ≡ (not (is_name n ns) && is_quantified scope n)
is_quantified-with_matched [] scope n = refl
is_quantified-with_matched (m ∷ ns) scope n = is_quantified-with_matched ns (matched m scope) n ∙ joined (is_name n ns) (n == m)
  where
    joined : (among same : Bool) → (not among && (if same then false else is_quantified scope n)) ≡ (not (same || among) && is_quantified scope n)
    joined true true = refl
    joined true false = refl
    joined false true = refl
    joined false false = refl

-- one binder in front of others

in_node : (x : PlainNode) (scope : Scope) (n : ℕ) → let_value (with_let_of x scope) n ≡ found_value scope (value_in x n) (let_value scope n)
in_node (lit k m) scope n = refl
in_node (var m) scope n = refl
in_node (app f ts) scope n = refl
in_node (let_in vs ts b) scope n = let_value-with_let vs ts scope scope n
in_node (quant all vs b) scope n = refl
in_node (match_on t cs) scope n = refl
in_node (ann b ns) scope n = refl

quantified_in_node : (x : PlainNode) (scope : Scope) (n : ℕ) → is_quantified (with_let_of x scope) n ≡ (not (is_found (value_in x n)) && is_quantified scope n)
quantified_in_node (lit k m) scope n = refl
quantified_in_node (var m) scope n = refl
quantified_in_node (app f ts) scope n = refl
quantified_in_node (let_in vs ts b) scope n = is_quantified-with_let vs ts scope scope n
quantified_in_node (quant all vs b) scope n = refl
quantified_in_node (match_on t cs) scope n = refl
quantified_in_node (ann b ns) scope n = refl

module _ (outer : List Binder) (n : ℕ) where
  pub let_found : (t : NumberedTerm) (v : PlainTerm) → value_in (node_tree (node_of t)) n ≡ Some v → let_value (scope_of (binders.Let t ∷ outer)) n ≡ Some (seen_in (scope_of outer) v)
  let_found t v e = in_node (node_tree (node_of t)) (scope_of outer) n ∙ ap (λ x. found_value (scope_of outer) x (let_value (scope_of outer) n)) e

  pub let_passed : (t : NumberedTerm) → value_in (node_tree (node_of t)) n ≡ None → let_value (scope_of (binders.Let t ∷ outer)) n ≡ let_value (scope_of outer) n
  let_passed t e = in_node (node_tree (node_of t)) (scope_of outer) n ∙ ap (λ x. found_value (scope_of outer) x (let_value (scope_of outer) n)) e

  pub quantified_value : (ns : List ℕ) → let_value (scope_of (binders.Quantified ns ∷ outer)) n ≡ (if is_name n ns then None else let_value (scope_of outer) n)
  quantified_value ns = let_value-with_names ns (scope_of outer) n

  pub matched_value : (ns : List ℕ) → let_value (scope_of (binders.Matched ns ∷ outer)) n ≡ (if is_name n ns then None else let_value (scope_of outer) n)
  matched_value ns = let_value-with_matched ns (scope_of outer) n

  pub let_hides : (t : NumberedTerm) (v : PlainTerm) → value_in (node_tree (node_of t)) n ≡ Some v → is_quantified (scope_of (binders.Let t ∷ outer)) n ≡ false
  let_hides t v e = quantified_in_node (node_tree (node_of t)) (scope_of outer) n ∙ ap (λ x. not (is_found x) && is_quantified (scope_of outer) n) e

  pub let_lets_pass : (t : NumberedTerm) → value_in (node_tree (node_of t)) n ≡ None → is_quantified (scope_of (binders.Let t ∷ outer)) n ≡ is_quantified (scope_of outer) n
  let_lets_pass t e = quantified_in_node (node_tree (node_of t)) (scope_of outer) n ∙ ap (λ x. not (is_found x) && is_quantified (scope_of outer) n) e

  pub quantifies : (ns : List ℕ) → is_quantified (scope_of (binders.Quantified ns ∷ outer)) n ≡ (is_name n ns || is_quantified (scope_of outer) n)
  quantifies ns = is_quantified-with_names ns (scope_of outer) n

  pub matches : (ns : List ℕ) → is_quantified (scope_of (binders.Matched ns ∷ outer)) n ≡ (not (is_name n ns) && is_quantified (scope_of outer) n)
  matches ns = is_quantified-with_matched ns (scope_of outer) n

pub ruleset value_words = (let_found, let_passed, quantified_value, matched_value)

pub ruleset quantified_words = (let_hides, let_lets_pass, quantifies, matches)

-- what is left of the variables or of the values when one of them ends
pub names_ended : (vs : List ℕ) (ts : Terms (Unit {0}) Sort) (n : ℕ) → length vs ≡ 0 → named_value vs ts n ≡ None
names_ended [] ts n e = refl
names_ended (v ∷ vs) ts n e = absurd (omega (arith, e))

pub values_ended : (vs : List ℕ) (ts : List NumberedTerm) (n : ℕ) → length ts ≡ 0 → named_value vs (trees (terms ts)) n ≡ None
values_ended [] ts n e = refl
values_ended (v ∷ vs) [] n e = refl
values_ended (v ∷ vs) (t ∷ ts) n e = absurd (omega (arith, e))

pub found_last : (rest found whole : Option PlainTerm) → rest ≡ None → later rest found ≡ whole → found ≡ whole
found_last rest found whole e h = ap (λ x. later x found) (sym e) ∙ h
