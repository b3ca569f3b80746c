-- The terms of a command, by the parts of each term.
use Rattle.std.specs.Prelude.{◌⊎◌, ℕ, List, [], ◌∷◌, ◌++◌, map}
use Rattle.std.specs.List.{flat_map}
use Rattle.sort_store.specs.Tree.{Sort}
use Rattle.term_store.specs.Command.{PlainCommand, PlainDef}
use Rattle.term_store.specs.Command as command
use Rattle.term_store.specs.declared.parts.Pattern.{Pattern}
use Rattle.term_store.specs.declared.parts.Pattern.TheVariants as patterns
use Rattle.term_store.specs.Term.{PlainNode, Cases, lit, var, app, let_in, quant, match_on, ann, no_cases, more_cases}
use Rattle.logic_frag.specs.IntegerTerms.{each_seen_in}
use Rattle.logic_frag.specs.Occurrences.{Occurrence, Scope, no_variables, seen_in, occurrences, with_let, with_quantified, with_pattern}

abbrev pub each_case_seen_in : Scope → Cases (Unit {0}) Sort → List Occurrence
each_case_seen_in scope no_cases = []
each_case_seen_in scope (more_cases p t cs) = seen_in (with_pattern p scope) t ∷ each_case_seen_in scope cs

-- the terms right below a node
abbrev pub parts_of : Scope → PlainNode → List Occurrence
parts_of scope (lit k n) = []
parts_of scope (var n) = []
parts_of scope (app f ts) = each_seen_in scope ts
parts_of scope (let_in vs ts b) = each_seen_in scope ts ++ seen_in (with_let vs ts scope scope) b ∷ []
parts_of scope (quant all vs b) = seen_in (with_quantified vs scope) b ∷ []
parts_of scope (match_on t cs) = seen_in scope t ∷ each_case_seen_in scope cs
parts_of scope (ann b ns) = seen_in scope b ∷ []

abbrev pub all_at : Occurrence → List Occurrence
all_at o = occurrences o.scope o.its

-- the terms and the terms in them
abbrev pub all_in : List Occurrence → List Occurrence
all_in os = flat_map all_at os

abbrev pub body_seen : PlainDef → Occurrence
body_seen d = seen_in (with_quantified d.params no_variables) d.body

-- the terms that stand in a command itself
abbrev pub roots_of : PlainCommand → List Occurrence
roots_of (command.assert t) = seen_in no_variables t ∷ []
roots_of (command.check_sat_assuming ts) = map (seen_in no_variables) ts
roots_of (command.define_fun d) = body_seen d ∷ []
roots_of (command.define_fun_rec d) = body_seen d ∷ []
roots_of (command.define_funs_rec ds) = map body_seen ds
roots_of (command.get_value ts) = map (seen_in no_variables) ts
roots_of _ = []

-- one of the terms is of the kind
abbrev pub HasAny : (Occurrence → Type 0) → List Occurrence → Type 0
HasAny Kind [] = ⊥
HasAny Kind (o ∷ os) = Kind o ⊎ HasAny Kind os

-- the names that a pattern binds
abbrev pub pattern_names : Pattern → List ℕ
pattern_names (patterns.Var n) = n ∷ []
pattern_names (patterns.Con d n vs) = vs
