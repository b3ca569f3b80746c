-- The scope that the binders round a term make, the innermost first, and what a name means in it.
use Rattle.std.specs.Prelude.{ℕ, ◌==◌, Bool, if◌then◌else◌, List, [], ◌∷◌, Option, Some, None}
use Rattle.std.specs.List.{list_any}
use Rattle.sort_store.specs.Tree.{Sort}
use Rattle.term_store.specs.Term.{PlainTerm, PlainNode, Terms, let_in, no_terms, more_terms, node_of, node_tree}
use Rattle.logic_frag.specs.declared.binder.Binder.{Binder}
use Rattle.logic_frag.specs.declared.binder.Binder.TheVariants as binders
use Rattle.logic_frag.specs.Occurrences.{Occurrence, Scope, no_variables, quantified, seen_in, with_let, with_matched}

abbrev pub with_let_of : PlainNode → Scope → Scope
with_let_of (let_in vs ts b) scope = with_let vs ts scope scope
with_let_of _ scope = scope

abbrev pub with_names : List ℕ → Scope → Scope
with_names [] scope = scope
with_names (n ∷ ns) scope = with_names ns (quantified n scope)

abbrev pub with_binder : Binder → Scope → Scope
with_binder (binders.Let t) scope = with_let_of (node_tree (node_of t)) scope
with_binder (binders.Quantified ns) scope = with_names ns scope
with_binder (binders.Matched ns) scope = with_matched ns scope

abbrev pub scope_of : List Binder → Scope
scope_of [] = no_variables
scope_of (b ∷ bs) = with_binder b (scope_of bs)

-- the last of the values whose variable has the name
abbrev pub later : Option PlainTerm → Option PlainTerm → Option PlainTerm
later (Some t) first = Some t
later None first = first

abbrev pub named_value : List ℕ → Terms (Unit {0}) Sort → ℕ → Option PlainTerm
named_value [] ts n = None
named_value (v ∷ vs) no_terms n = None
named_value (v ∷ vs) (more_terms t ts) n = later (named_value vs ts n) (if n == v then Some t else None)

abbrev pub value_in : PlainNode → ℕ → Option PlainTerm
value_in (let_in vs ts b) n = named_value vs ts n
value_in _ n = None

-- the value that a binder gives the name, which sees the outer variables, or else what the name means there
abbrev pub found_value : Scope → Option PlainTerm → Option Occurrence → Option Occurrence
found_value outer (Some t) further = Some (seen_in outer t)
found_value outer None further = further

abbrev pub is_name : ℕ → List ℕ → Bool
is_name n ns = list_any (λ m. n == m) ns
