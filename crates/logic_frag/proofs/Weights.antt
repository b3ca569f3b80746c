-- Why the search for what a term stands for ends: within one body terms and scopes get smaller, and a constant leads to a
-- body that applies functions with lower numbers alone.
use Rattle.std.proofs.Common.{◌≡◌, ℕ, suc, ◌+◌, ◌*◌, ◌≤◌, ◌<◌, max, Bool, true, false, ◌==◌, if◌then◌else◌, List, [], ◌∷◌, length, Option, Some, None, refl, sym, ap, subst, ◌∙◌, inl, inr, arith}
use Rattle.std.specs.Prelude.{◌⊎◌}
use Rattle.std.specs.List.{All}
use Rattle.std.proofs.Math.Nat.{mul-le-mul_right}
use Rattle.std.proofs.lemmas.Bool.{cases_Bool, eqb-true}
use Rattle.std.proofs.lemmas.List.Elements.{All-head, All-tail}
use Rattle.sort_store.specs.Tree.{Sort}
use Rattle.sort_store.specs.declared.head.DeclNo.{DeclNo}
use Rattle.term_store.specs.declared.parts.Fun.{Fun}
use Rattle.term_store.specs.declared.parts.Fun.TheVariants as fun
use Rattle.term_store.specs.Command.{PlainDef}
use Rattle.term_store.specs.SoundTerms.{IsFunBelow, AppliesBelow, NodeAppliesBelow, EachAppliesBelow, CasesApplyBelow}
use Rattle.term_store.specs.Term.{PlainTerm, PlainNode, Terms, Cases, term, lit, var, app, let_in, quant, match_on, ann, no_terms, more_terms, no_cases, more_cases, NumberedTerm, trees}
use Rattle.term_store.specs.NumberedNodes.{terms}
use Rattle.logic_frag.specs.Following.{body_without, constant_body, body_of, application_next, next_of, AppliesLower}
use Rattle.logic_frag.specs.Weights.{bodies_size, cases_rank, fun_rank, measure, node_rank, rank, scope_rank, scope_size, term_rank, term_size, terms_rank, terms_size, weight}
use Rattle.logic_frag.specs.Occurrences.{Occurrence, Scope, no_variables, let_variable, quantified, matched, seen_in, let_value, with_let}
use Rattle.logic_frag.specs.StandsFor.{definition_at}

size-with_let : (vs : List ℕ) (ts : Terms (Unit {0}) Sort) (outer scope : Scope) → scope_size (with_let vs ts outer scope) ≤ max (scope_size outer + terms_size ts) (scope_size scope)
size-with_let [] ts outer scope = omega arith
size-with_let (v ∷ vs) no_terms outer scope = omega arith
size-with_let (v ∷ vs) (more_terms t ts) outer scope = omega (arith, size-with_let vs ts outer (let_variable v t outer scope))

rank-with_let : (vs : List ℕ) (ts : Terms (Unit {0}) Sort) (outer scope : Scope) → scope_rank (with_let vs ts outer scope) ≤ max (max (scope_rank outer) (terms_rank ts)) (scope_rank scope)
rank-with_let [] ts outer scope = omega arith
rank-with_let (v ∷ vs) no_terms outer scope = omega arith
rank-with_let (v ∷ vs) (more_terms t ts) outer scope = omega (arith, rank-with_let vs ts outer (let_variable v t outer scope))

-- the value of a variable

if_true : (b : Bool) (o p : Option Occurrence) → b ≡ true → (if b then o else p) ≡ o
if_true true o p e = refl
if_true false o p e = cc

if_false : (b : Bool) (o p : Option Occurrence) → b ≡ false → (if b then o else p) ≡ p
if_false false o p e = refl
if_false true o p e = cc

value_size : (scope : Scope) (n : ℕ) (o : Occurrence) → let_value scope n ≡ Some o → weight o ≤ scope_size scope
value_size no_variables n o e = cc
value_size (let_variable m t outer scope) n o e = elim (cases_Bool (n == m)) [
  | inl same ↦
      let it : seen_in outer t ≡ o = let s : Some (seen_in outer t) ≡ Some o = sym (if_true (n == m) (Some (seen_in outer t)) (let_value scope n) same) ∙ e in cc in
      omega (arith, ap weight it)
  | inr other ↦
      let inner = value_size scope n o (sym (if_false (n == m) (Some (seen_in outer t)) (let_value scope n) other) ∙ e) in
      omega (arith, inner)
]
value_size (quantified m scope) n o e = elim (cases_Bool (n == m)) [
  | inl same ↦ let s : None ≡ Some o = sym (if_true (n == m) None (let_value scope n) same) ∙ e in cc
  | inr other ↦ value_size scope n o (sym (if_false (n == m) None (let_value scope n) other) ∙ e)
]
value_size (matched m scope) n o e = elim (cases_Bool (n == m)) [
  | inl same ↦ let s : None ≡ Some o = sym (if_true (n == m) None (let_value scope n) same) ∙ e in cc
  | inr other ↦ value_size scope n o (sym (if_false (n == m) None (let_value scope n) other) ∙ e)
]

value_rank : (scope : Scope) (n : ℕ) (o : Occurrence) → let_value scope n ≡ Some o → rank o ≤ scope_rank scope
value_rank no_variables n o e = cc
value_rank (let_variable m t outer scope) n o e = elim (cases_Bool (n == m)) [
  | inl same ↦
      let it : seen_in outer t ≡ o = let s : Some (seen_in outer t) ≡ Some o = sym (if_true (n == m) (Some (seen_in outer t)) (let_value scope n) same) ∙ e in cc in
      omega (arith, ap rank it)
  | inr other ↦
      let inner = value_rank scope n o (sym (if_false (n == m) (Some (seen_in outer t)) (let_value scope n) other) ∙ e) in
      omega (arith, inner)
]
value_rank (quantified m scope) n o e = elim (cases_Bool (n == m)) [
  | inl same ↦ let s : None ≡ Some o = sym (if_true (n == m) None (let_value scope n) same) ∙ e in cc
  | inr other ↦ value_rank scope n o (sym (if_false (n == m) None (let_value scope n) other) ∙ e)
]
value_rank (matched m scope) n o e = elim (cases_Bool (n == m)) [
  | inl same ↦ let s : None ≡ Some o = sym (if_true (n == m) None (let_value scope n) same) ∙ e in cc
  | inr other ↦ value_rank scope n o (sym (if_false (n == m) None (let_value scope n) other) ∙ e)
]

-- a body that applies lower functions alone

below_fun : (n : ℕ) (f : Fun) → IsFunBelow n f → fun_rank f ≤ n
below_fun n (fun.Declared d) h = omega (arith, h)
below_fun n (fun.Tester d) h = omega arith
below_fun n fun.Theory h = omega arith

mutual
  below_term : (t : PlainTerm) (n : ℕ) → AppliesBelow n t → term_rank t ≤ n
  below_term (term u s x) n h = below_node x n h

  below_node : (x : PlainNode) (n : ℕ) → NodeAppliesBelow n x → node_rank x ≤ n
  below_node (lit k m) n h = omega arith
  below_node (var m) n h = omega arith
  below_node (app f ts) n h = omega (arith, below_fun n f.fun h.0, below_each ts n h.1)
  below_node (let_in vs ts b) n h = omega (arith, below_each ts n h.0, below_term b n h.1)
  below_node (quant all vs b) n h = below_term b n h
  below_node (match_on t cs) n h = omega (arith, below_term t n h.0, below_cases cs n h.1)
  below_node (ann b ns) n h = below_term b n h.0

  below_each : (ts : Terms (Unit {0}) Sort) (n : ℕ) → EachAppliesBelow n ts → terms_rank ts ≤ n
  below_each no_terms n h = omega arith
  below_each (more_terms t ts) n h = omega (arith, below_term t n h.0, below_each ts n h.1)

  below_cases : (cs : Cases (Unit {0}) Sort) (n : ℕ) → CasesApplyBelow n cs → cases_rank cs ≤ n
  below_cases no_cases n h = omega arith
  below_cases (more_cases p t cs) n h = omega (arith, below_term t n h.0, below_cases cs n h.1)

abbrev pub IsLower : PlainDef → Type 0
IsLower d = d.recursive ≡ false → AppliesBelow d.no.0 d.body

-- what is known of a definition that is found
record IsKept (ds : List PlainDef) (n : DeclNo) (d : PlainDef) : Type 0 where
  number : n.0 ≡ d.no.0
  small : term_size d.body ≤ bodies_size ds
  lower : IsLower d

def_if : (b : Bool) (x y : Option PlainDef) → b ≡ true → (if b then x else y) ≡ x
def_if true x y e = refl
def_if false x y e = cc

def_unless : (b : Bool) (x y : Option PlainDef) → b ≡ false → (if b then x else y) ≡ y
def_unless false x y e = refl
def_unless true x y e = cc

found_def : (ds : List PlainDef) (n : DeclNo) (d : PlainDef) → All IsLower ds → definition_at ds n ≡ Some d → IsKept ds n d
found_def [] n d all e = cc
found_def (c ∷ ds) n d all e = elim (cases_Bool (n.0 == c.no.0)) [
  | inl same ↦
      let it : c ≡ d = let s : Some c ≡ Some d = sym (def_if (n.0 == c.no.0) (Some c) (definition_at ds n) same) ∙ e in cc in
      let there : IsKept (c ∷ ds) n c = record { number = eqb-true n.0 c.no.0 same; small = omega arith; lower = All-head IsLower c ds all } in
      subst (IsKept (c ∷ ds) n) it there
  | inr other ↦
      let inner = found_def ds n d (All-tail IsLower c ds all) (sym (def_unless (n.0 == c.no.0) (Some c) (definition_at ds n) other) ∙ e) in
      record { number = inner.number; small = omega (arith, inner.small); lower = inner.lower }
]

pub without_params : (ps : List (ℕ × Sort)) (recursive : Bool) (t : PlainTerm) (o : Occurrence) → body_without ps recursive t ≡ Some o → (recursive ≡ false) × (seen_in no_variables t ≡ o)
without_params [] false t o e = (refl, cc)
without_params [] true t o e = cc
without_params (p ∷ ps) false t o e = cc
without_params (p ∷ ps) true t o e = cc

-- the number under which a definition is found
pub found_number : (ds : List PlainDef) (n : DeclNo) (d : PlainDef) → definition_at ds n ≡ Some d → n ≡ d.no
found_number [] n d e = cc
found_number (c ∷ ds) n d e = elim (cases_Bool (n.0 == c.no.0)) [
  | inl same ↦
      let it : c ≡ d = let s : Some c ≡ Some d = sym (def_if (n.0 == c.no.0) (Some c) (definition_at ds n) same) ∙ e in cc in
      let number : n ≡ c.no = ap (λ (k : ℕ). record { 0 = k }) (eqb-true n.0 c.no.0 same) in
      subst (λ (x : PlainDef). n ≡ x.no) it number
  | inr other ↦ found_number ds n d (sym (def_unless (n.0 == c.no.0) (Some c) (definition_at ds n) other) ∙ e)
]

-- what a constant leads to
record IsBodyBelow (kept : List PlainDef) (n : ℕ) (o : Occurrence) : Type 0 where
  lower : rank o < n
  small : weight o ≤ bodies_size kept

body_below : (kept : List PlainDef) (f : Fun) (o : Occurrence) → AppliesLower kept → body_of kept f ≡ Some o → IsBodyBelow kept (fun_rank f) o
body_below kept fun.Theory o all e = cc
body_below kept (fun.Tester d) o all e = cc
body_below kept (fun.Declared d) o all e = found (definition_at kept d) refl e
  where
    found : (at : Option PlainDef) → definition_at kept d ≡ at → constant_body at ≡ Some o → IsBodyBelow kept (suc d.0) o
    found None same h = cc
    found (Some def) same h =
        let known = found_def kept d def all same in
        let without = without_params def.params def.recursive def.body o h in
        let below = below_term def.body def.no.0 (known.lower without.0) in
        subst (IsBodyBelow kept (suc d.0)) without.1 (record { lower = omega (arith, below, known.number); small = omega (arith, known.small) })

-- one step
pub record Falls (kept : List PlainDef) (o next : Occurrence) : Type 0 where
  pub smaller : (rank next < rank o) × (weight next ≤ bodies_size kept) ⊎ (rank next ≤ rank o) × (weight next < weight o)

pub falls : (kept : List PlainDef) (scope : Scope) (t : PlainTerm) (o : Occurrence) → AppliesLower kept → next_of kept scope t ≡ Some o → Falls kept (seen_in scope t) o
falls kept scope (term u s (lit k n)) o all e = cc
falls kept scope (term u s (var n)) o all e = record { smaller = inr (omega (arith, value_rank scope n o e), omega (arith, value_size scope n o e)) }
falls kept scope (term u s (app f no_terms)) o all e =
    let below = body_below kept f.fun o all e in
    record { smaller = inl (omega (arith, below.lower), below.small) }
falls kept scope (term u s (app f (more_terms t ts))) o all e = cc
falls kept scope (term u s (let_in vs ts b)) o all e =
    let it : seen_in (with_let vs ts scope scope) b ≡ o = cc in
    subst (Falls kept (seen_in scope (term u s (let_in vs ts b)))) it
    (record { smaller = inr (omega (arith, rank-with_let vs ts scope scope), omega (arith, size-with_let vs ts scope scope)) })
falls kept scope (term u s (quant all-of vs b)) o all e = cc
falls kept scope (term u s (match_on t cs)) o all e = cc
falls kept scope (term u s (ann b ns)) o all e =
    let it : seen_in scope b ≡ o = cc in
    subst (Falls kept (seen_in scope (term u s (ann b ns)))) it (record { smaller = inr (omega arith, omega arith) })

pub measure_falls : (kept : List PlainDef) (o next : Occurrence) (bound : ℕ) → bodies_size kept < bound → weight o < bound → Falls kept o next → measure bound next < measure bound o
measure_falls kept o next bound large small h = elim h.smaller [
  | inl lower ↦ product_falls (rank next) (rank o) bound (weight next) (weight o) lower.0 (omega (arith, lower.1))
  | inr less ↦ product_stays (rank next) (rank o) bound (weight next) (weight o) less.0 less.1
]
  where
    product_le : (a b c : ℕ) → a ≤ b → a * c ≤ b * c
    product_le a b c h = mul-le-mul_right c h

    product_falls : (a b c v w : ℕ) → a < b → v < c → a * c + v < b * c + w
    product_falls a b c v w h l = omega (arith, product_le (suc a) b c (omega (arith, h)), l)

    product_stays : (a b c v w : ℕ) → a ≤ b → v < w → a * c + v < b * c + w
    product_stays a b c v w h l = omega (arith, product_le a b c h, l)

pub weight_stays : (kept : List PlainDef) (o next : Occurrence) (bound : ℕ) → bodies_size kept < bound → weight o < bound → Falls kept o next → weight next < bound
weight_stays kept o next bound large small h = elim h.smaller [
  | inl lower ↦ omega (arith, lower.1)
  | inr less ↦ omega (arith, less.1)
]

pub arguments_end : (kept : List PlainDef) (f : Fun) (ts : List NumberedTerm) → 1 ≤ length ts → application_next kept f (trees (terms ts)) ≡ None
arguments_end kept f [] l = absurd (omega (arith, l))
arguments_end kept f (t ∷ ts) l = refl
