-- The terms that stand in a command, each with the variables that it sees (SMT-LIB 2.6, sections 3.6 and 3.6.1). The terms
-- of a :pattern are not among them.
use Rattle.std.specs.Prelude.{ℕ, ◌==◌, Bool, true, false, if◌then◌else◌, List, [], ◌∷◌, ◌++◌, Option, Some, None}
use Rattle.std.specs.List.{flat_map}
use Rattle.sort_store.specs.Tree.{Sort}
use Rattle.term_store.specs.declared.parts.Pattern.{Pattern}
use Rattle.term_store.specs.declared.parts.Pattern.TheVariants as patterns
use Rattle.term_store.specs.Command.{PlainCommand, PlainDef}
use Rattle.term_store.specs.Command as command
use Rattle.term_store.specs.Term.{PlainTerm, PlainNode, Terms, Cases, term, lit, var, app, let_in, quant, match_on, ann, no_terms, more_terms, no_cases, more_cases}

-- the variables that a term sees, the innermost first
pub data Scope : Type 0 where
  no_variables : Scope
  -- a variable of let, with its term and what that term sees
  let_variable : ℕ → PlainTerm → Scope → Scope → Scope
  -- a variable of a quantifier, or a parameter of a definition
  quantified : ℕ → Scope → Scope
  -- a variable of a pattern
  matched : ℕ → Scope → Scope

pub record Occurrence : Type 0 where
  pub its : PlainTerm
  pub scope : Scope

abbrev pub seen_in : Scope → PlainTerm → Occurrence
seen_in scope t = record { its = t; scope = scope }

-- the term that let binds the variable to, where let binds it
abbrev pub let_value : Scope → ℕ → Option Occurrence
let_value no_variables n = None
let_value (let_variable m t outer scope) n = if n == m then Some (seen_in outer t) else let_value scope n
let_value (quantified m scope) n = if n == m then None else let_value scope n
let_value (matched m scope) n = if n == m then None else let_value scope n

-- whether the variable is one of a quantifier, or a parameter
abbrev pub is_quantified : Scope → ℕ → Bool
is_quantified no_variables n = false
is_quantified (let_variable m t outer scope) n = if n == m then false else is_quantified scope n
is_quantified (quantified m scope) n = if n == m then true else is_quantified scope n
is_quantified (matched m scope) n = if n == m then false else is_quantified scope n

-- each variable bound to the term at its place, which sees the outer variables
abbrev pub with_let : List ℕ → Terms (Unit {0}) Sort → Scope → Scope → Scope
with_let [] ts outer scope = scope
with_let (n ∷ ns) no_terms outer scope = scope
with_let (n ∷ ns) (more_terms t ts) outer scope = with_let ns ts outer (let_variable n t outer scope)

abbrev pub with_quantified : List (ℕ × Sort) → Scope → Scope
with_quantified [] scope = scope
with_quantified (v ∷ vs) scope = with_quantified vs (quantified v.0 scope)

abbrev pub with_matched : List ℕ → Scope → Scope
with_matched [] scope = scope
with_matched (n ∷ ns) scope = with_matched ns (matched n scope)

abbrev pub with_pattern : Pattern → Scope → Scope
with_pattern (patterns.Var n) scope = matched n scope
with_pattern (patterns.Con d n vs) scope = with_matched vs scope

-- the term and the terms in it
abbrev mutual
  pub occurrences : Scope → PlainTerm → List Occurrence
  occurrences scope (term u s x) = seen_in scope (term u s x) ∷ occurrences_below scope x

  pub occurrences_below : Scope → PlainNode → List Occurrence
  occurrences_below scope (lit k n) = []
  occurrences_below scope (var n) = []
  occurrences_below scope (app f ts) = occurrences_each scope ts
  occurrences_below scope (let_in vs ts b) = occurrences_each scope ts ++ occurrences (with_let vs ts scope scope) b
  occurrences_below scope (quant all vs b) = occurrences (with_quantified vs scope) b
  occurrences_below scope (match_on t cs) = occurrences scope t ++ occurrences_cases scope cs
  occurrences_below scope (ann b ns) = occurrences scope b

  pub occurrences_each : Scope → Terms (Unit {0}) Sort → List Occurrence
  occurrences_each scope no_terms = []
  occurrences_each scope (more_terms t ts) = occurrences scope t ++ occurrences_each scope ts

  pub occurrences_cases : Scope → Cases (Unit {0}) Sort → List Occurrence
  occurrences_cases scope no_cases = []
  occurrences_cases scope (more_cases p t cs) = occurrences (with_pattern p scope) t ++ occurrences_cases scope cs

-- a body sees the parameters
abbrev pub occurrences_in_body : PlainDef → List Occurrence
occurrences_in_body d = occurrences (with_quantified d.params no_variables) d.body

abbrev pub occurrences_in : PlainCommand → List Occurrence
occurrences_in (command.assert t) = occurrences no_variables t
occurrences_in (command.check_sat_assuming ts) = flat_map (occurrences no_variables) ts
occurrences_in (command.define_fun d) = occurrences_in_body d
occurrences_in (command.define_fun_rec d) = occurrences_in_body d
occurrences_in (command.define_funs_rec ds) = flat_map occurrences_in_body ds
occurrences_in (command.get_value ts) = flat_map (occurrences no_variables) ts
occurrences_in _ = []
