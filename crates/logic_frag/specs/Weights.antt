-- The measure by which the terms that a term stands for fall: within one body terms and scopes get smaller, and a constant
-- leads to a body that applies functions with lower numbers alone.
use Rattle.std.specs.Prelude.{ℕ, suc, zero, ◌+◌, ◌*◌, max, List, [], ◌∷◌, Option, Some, None}
use Rattle.sort_store.specs.Tree.{Sort}
use Rattle.term_store.specs.Command.{PlainDef}
use Rattle.term_store.specs.declared.parts.Fun.{Fun}
use Rattle.term_store.specs.declared.parts.Fun.TheVariants as fun
use Rattle.term_store.specs.Term.{PlainTerm, PlainNode, Terms, Cases, term, lit, var, app, let_in, quant, match_on, ann, no_terms, more_terms, no_cases, more_cases}
use Rattle.logic_frag.specs.Following.{next_of}
use Rattle.logic_frag.specs.Occurrences.{Occurrence, Scope, no_variables, let_variable, quantified, matched}

-- how many nodes a term has
abbrev mutual
  pub term_size : PlainTerm → ℕ
  term_size (term u s x) = suc (node_size x)

  pub node_size : PlainNode → ℕ
  node_size (lit k n) = 0
  node_size (var n) = 0
  node_size (app f ts) = terms_size ts
  node_size (let_in vs ts b) = terms_size ts + term_size b
  node_size (quant all vs b) = term_size b
  node_size (match_on t cs) = term_size t + cases_size cs
  node_size (ann b ns) = term_size b

  pub terms_size : Terms (Unit {0}) Sort → ℕ
  terms_size no_terms = 0
  terms_size (more_terms t ts) = term_size t + terms_size ts

  pub cases_size : Cases (Unit {0}) Sort → ℕ
  cases_size no_cases = 0
  cases_size (more_cases p t cs) = term_size t + cases_size cs

-- the most nodes that a chain of values of let goes through
abbrev pub scope_size : Scope → ℕ
scope_size no_variables = 0
scope_size (let_variable n t outer scope) = max (term_size t + scope_size outer) (scope_size scope)
scope_size (quantified n scope) = scope_size scope
scope_size (matched n scope) = scope_size scope

abbrev pub weight : Occurrence → ℕ
weight o = term_size o.its + scope_size o.scope

-- one more than the greatest number of a function that a term applies
abbrev pub fun_rank : Fun → ℕ
fun_rank (fun.Declared d) = suc d.0
fun_rank f = 0

abbrev mutual
  pub term_rank : PlainTerm → ℕ
  term_rank (term u s x) = node_rank x

  pub node_rank : PlainNode → ℕ
  node_rank (lit k n) = 0
  node_rank (var n) = 0
  node_rank (app f ts) = max (fun_rank f.fun) (terms_rank ts)
  node_rank (let_in vs ts b) = max (terms_rank ts) (term_rank b)
  node_rank (quant all vs b) = term_rank b
  node_rank (match_on t cs) = max (term_rank t) (cases_rank cs)
  node_rank (ann b ns) = term_rank b

  pub terms_rank : Terms (Unit {0}) Sort → ℕ
  terms_rank no_terms = 0
  terms_rank (more_terms t ts) = max (term_rank t) (terms_rank ts)

  pub cases_rank : Cases (Unit {0}) Sort → ℕ
  cases_rank no_cases = 0
  cases_rank (more_cases p t cs) = max (term_rank t) (cases_rank cs)

abbrev pub scope_rank : Scope → ℕ
scope_rank no_variables = 0
scope_rank (let_variable n t outer scope) = max (max (term_rank t) (scope_rank outer)) (scope_rank scope)
scope_rank (quantified n scope) = scope_rank scope
scope_rank (matched n scope) = scope_rank scope

abbrev pub rank : Occurrence → ℕ
rank o = max (term_rank o.its) (scope_rank o.scope)

-- the size of the largest body that is kept
abbrev pub bodies_size : List PlainDef → ℕ
bodies_size [] = 0
bodies_size (d ∷ ds) = max (term_size d.body) (bodies_size ds)

-- as one number, below a bound on the weights
abbrev pub measure : ℕ → Occurrence → ℕ
measure bound o = rank o * bound + weight o

-- what comes of the next term, if there is one
abbrev pub next_or : Option Occurrence → Occurrence → (Occurrence → Occurrence) → Occurrence
next_or None o further = o
next_or (Some next) o further = further next

-- the last of the terms that the term stands for, if that many steps lead to it
abbrev pub followed : ℕ → List PlainDef → Occurrence → Occurrence
followed zero kept o = o
followed (suc n) kept o = next_or (next_of kept o.scope o.its) o (followed n kept)

abbrev pub step_bound : List PlainDef → Occurrence → ℕ
step_bound kept o = weight o + bodies_size kept + 1

-- the last of the terms that the term stands for
unfoldable pub end_of : List PlainDef → Occurrence → Occurrence
end_of kept o = followed (suc (measure (step_bound kept o) o)) kept o
