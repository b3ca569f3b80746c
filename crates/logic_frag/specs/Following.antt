-- The next of the terms that a term stands for, one after the other, and the last one.
use Rattle.std.specs.Prelude.{◌≡◌, ℕ, Bool, false, List, [], map, Option, Some, None}
use Rattle.std.specs.List.{All}
use Rattle.sort_store.specs.Tree.{Sort}
use Rattle.term_store.specs.Command.{PlainDef, plain_def}
use Rattle.term_store.specs.declared.parts.Fun.{Fun}
use Rattle.term_store.specs.declared.parts.Fun.TheVariants as fun
use Rattle.term_store.specs.Definitions.{Definitions}
use Rattle.term_store.specs.SoundTerms.{AppliesBelow}
use Rattle.term_store.specs.Term.{PlainTerm, Terms, term, var, app, let_in, ann, no_terms, more_terms}
use Rattle.logic_frag.specs.declared.known.Known.{Known}
use Rattle.logic_frag.specs.Occurrences.{Occurrence, Scope, no_variables, let_value, seen_in, with_let}
use Rattle.logic_frag.specs.StandsFor.{Context, StandsFor, definition_at}

abbrev pub body_without : List (ℕ × Sort) → Bool → PlainTerm → Option Occurrence
body_without [] false t = Some (seen_in no_variables t)
body_without params recursive t = None

-- the body of a definition without parameters that is not recursive
abbrev pub constant_body : Option PlainDef → Option Occurrence
constant_body None = None
constant_body (Some d) = body_without d.params d.recursive d.body

abbrev pub body_of : List PlainDef → Fun → Option Occurrence
body_of kept (fun.Declared d) = constant_body (definition_at kept d)
body_of kept f = None

abbrev pub application_next : List PlainDef → Fun → Terms (Unit {0}) Sort → Option Occurrence
application_next kept f no_terms = body_of kept f
application_next kept f (more_terms t ts) = None

abbrev pub next_of : List PlainDef → Scope → PlainTerm → Option Occurrence
next_of kept scope (term u s (ann b ns)) = Some (seen_in scope b)
next_of kept scope (term u s (let_in vs ts b)) = Some (seen_in (with_let vs ts scope scope) b)
next_of kept scope (term u s (var n)) = let_value scope n
next_of kept scope (term u s (app f ts)) = application_next kept f.fun ts
next_of kept scope _ = None

-- the second is the last of the terms that the first stands for
pub record Ends (context : Context) (o last : Occurrence) : Type 0 where
  pub stands : StandsFor context o last
  pub no_next : next_of context.kept last.scope last.its ≡ None

-- each definition that is not recursive applies in its body only functions with lower numbers
abbrev pub AppliesLower : List PlainDef → Type 0
AppliesLower kept = All (λ (d : PlainDef). d.recursive ≡ false → AppliesBelow d.no.0 d.body) kept

-- the definitions that the program keeps, by their trees
abbrev pub plain_defs : Definitions → List PlainDef
plain_defs kept = map plain_def kept.defs

abbrev pub context_in : Known → Context
context_in known = record { texts = known.names.now; kept = plain_defs known.defs.now; own = known.own.items }
