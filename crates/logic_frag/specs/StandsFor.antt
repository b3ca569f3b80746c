-- What a term stands for: an annotated term for the term in it, a let term for its body, a variable of let for its term, and
-- a constant that is defined for the body of its definition, again and again.
use Rattle.std.specs.Prelude.{◌≡◌, ◌==◌, ℕ, false, List, [], Option, Some}
use Rattle.std.specs.List.{find}
use Rattle.sort_store.specs.declared.head.DeclNo.{DeclNo}
use Rattle.term_store.specs.declared.parts.Fun.{Fun}
use Rattle.term_store.specs.declared.parts.Fun.TheVariants as fun
use Rattle.term_store.specs.Command.{PlainDef}
use Rattle.term_store.specs.Term.{PlainTerm, term, var, app, let_in, ann, no_terms}
use Rattle.logic_frag.specs.Occurrences.{Occurrence, Scope, no_variables, let_value, seen_in, with_let}

-- the first definition with this number
abbrev pub definition_at : List PlainDef → DeclNo → Option PlainDef
definition_at kept d = find (λ (its : PlainDef). d.0 == its.no.0) kept

-- what the rules look at beside a term: the texts of the names, the definitions that are kept, and the numbers of those
-- that the command itself makes
pub record Context : Type 0 where
  pub texts : List (List ℕ)
  pub kept : List PlainDef
  pub own : List DeclNo

-- the function is kept as a definition, or as a named term, with this body; it has no parameters and is not recursive
pub record IsConstantFor (context : Context) (f : Fun) (body : PlainTerm) : Type 0 where
  pub its : PlainDef
  pub declared : f ≡ fun.Declared its.no
  pub kept : definition_at context.kept its.no ≡ Some its
  pub no_params : its.params ≡ []
  pub not_recursive : its.recursive ≡ false
  pub body_is : its.body ≡ body

-- a term that sees these variables stands for another by one step
abbrev pub StandsForNext : Context → Scope → PlainTerm → Occurrence → Type 0
StandsForNext context scope (term u s (ann b ns)) next = next ≡ seen_in scope b
StandsForNext context scope (term u s (let_in vs ts b)) next = next ≡ seen_in (with_let vs ts scope scope) b
StandsForNext context scope (term u s (var n)) next = let_value scope n ≡ Some next
StandsForNext context scope (term u s (app f no_terms)) next = IsConstantFor context f.fun next.its × (next.scope ≡ no_variables)
StandsForNext context scope _ next = ⊥

pub data StandsFor (context : Context) : Occurrence → Occurrence → Type 0 where
  itself : {o : Occurrence} → StandsFor context o o
  further : {o next last : Occurrence} → StandsForNext context o.scope o.its next → StandsFor context next last → StandsFor context o last
