-- The rules of difference logic as tests.
use Rattle.std.specs.Prelude.{ℕ, ◌==◌, Bool, true, false, ◌||◌, ◌&&◌, not, if◌then◌else◌, List, Option, Some, None, codes}
use Rattle.std.specs.List.{list_any, list_all}
use Rattle.sort_store.specs.Tree.{Sort}
use Rattle.sort_store.specs.declared.head.DeclNo.{DeclNo}
use Rattle.term_store.specs.Command.{PlainDef}
use Rattle.term_store.specs.declared.parts.Fun.{Fun}
use Rattle.term_store.specs.declared.parts.Fun.TheVariants as fun
use Rattle.term_store.specs.Term.{PlainTerm, Terms, term, var, app, no_terms, more_terms, plain_sort}
use Rattle.logic_frag.specs.declared.logic.ArrayPart.TheVariants as arrays
use Rattle.logic_frag.specs.IntegerTerms.{each_seen_in}
use Rattle.logic_frag.specs.IntegerTests.{coefficient, is_missing, is_text, theory_text}
use Rattle.logic_frag.specs.Occurrences.{Occurrence, Scope, is_quantified, seen_in}
use Rattle.logic_frag.specs.SortSearch.{is_element}
use Rattle.logic_frag.specs.StandsFor.{Context, definition_at}
use Rattle.logic_frag.specs.Weights.{end_of}

abbrev pub has_int : Occurrence → Bool
has_int o = is_element arrays.Ints (plain_sort o.its)

abbrev pub is_absent : Option PlainDef → Bool
is_absent None = true
is_absent (Some d) = false

abbrev pub is_own : List DeclNo → DeclNo → Bool
is_own own d = list_any (λ (e : DeclNo). d.0 == e.0) own

abbrev pub is_declared_only : Context → Fun → Bool
is_declared_only context (fun.Declared d) = is_absent (definition_at context.kept d) && not (is_own context.own d)
is_declared_only context f = false

abbrev pub is_unknown_constant : Context → Fun → Terms (Unit {0}) Sort → Bool
is_unknown_constant context f no_terms = is_declared_only context f
is_unknown_constant context f (more_terms t ts) = false

abbrev pub is_unknown : Context → Scope → PlainTerm → Bool
is_unknown context scope (term u s (app f ts)) = is_unknown_constant context f.fun ts
is_unknown context scope (term u s (var n)) = is_quantified scope n
is_unknown context scope _ = false

abbrev pub is_unknown_at : Context → Occurrence → Bool
is_unknown_at context o = is_unknown context o.scope o.its

abbrev pub is_atom : Context → Occurrence → Bool
is_atom context o = has_int o && is_unknown_at context (end_of context.kept o)

abbrev pub is_coefficient : Context → Occurrence → Bool
is_coefficient context o = not (is_missing (coefficient context o))

-- a test of two arguments
abbrev pub pair_test : (Occurrence → Occurrence → Bool) → Scope → Terms (Unit {0}) Sort → Bool
pair_test test scope no_terms = false
pair_test test scope (more_terms a no_terms) = false
pair_test test scope (more_terms a (more_terms b no_terms)) = test (seen_in scope a) (seen_in scope b)
pair_test test scope (more_terms a (more_terms b (more_terms c ts))) = false

abbrev pub is_shifted : Context → Occurrence → Occurrence → Bool
is_shifted context a b = is_atom context a && is_coefficient context b

abbrev pub is_offset_named : Context → Option (List ℕ) → Occurrence → Occurrence → Bool
is_offset_named context name a b =
    if is_text name (codes "+") then is_shifted context a b || is_shifted context b a else if is_text name (codes "-") then is_shifted context a b else false

-- a test of the two arguments of an application, by its name
abbrev pub pair_term : (Option (List ℕ) → Occurrence → Occurrence → Bool) → List (List ℕ) → Scope → PlainTerm → Bool
pair_term named texts scope (term u s (app f ts)) = pair_test (named (theory_text texts f)) scope ts
pair_term named texts scope _ = false

abbrev pub is_offset_at : Context → Occurrence → Bool
is_offset_at context o = pair_term (is_offset_named context) context.texts o.scope o.its

abbrev pub is_offset : Context → Occurrence → Bool
is_offset context o = is_offset_at context (end_of context.kept o)

abbrev pub is_difference_named : Context → Option (List ℕ) → Occurrence → Occurrence → Bool
is_difference_named context name a b = if is_text name (codes "-") then is_atom context a && is_atom context b else false

abbrev pub is_difference_at : Context → Occurrence → Bool
is_difference_at context o = pair_term (is_difference_named context) context.texts o.scope o.its

abbrev pub is_difference : Context → Occurrence → Bool
is_difference context o = is_difference_at context (end_of context.kept o)

abbrev pub is_side : Context → Occurrence → Bool
is_side context o = is_atom context o || (is_coefficient context o || is_offset context o)

abbrev pub is_difference_and : Context → Occurrence → Occurrence → Bool
is_difference_and context a b = is_difference context a && is_coefficient context b

abbrev pub is_difference_pair : Context → Occurrence → Occurrence → Bool
is_difference_pair context a b = is_difference_and context a b || is_difference_and context b a

abbrev pub are_comparable : Context → Scope → Terms (Unit {0}) Sort → Bool
are_comparable context scope ts = list_all (is_side context) (each_seen_in scope ts) || pair_test (is_difference_pair context) scope ts

abbrev pub is_relation : Option (List ℕ) → Bool
is_relation name =
    (is_text name (codes "=") || (is_text name (codes "distinct") || is_text name (codes "<"))) || (is_text name (codes "<=") || (is_text name (codes ">") || is_text name (codes ">=")))

abbrev pub is_outside_application : Context → Scope → Option (List ℕ) → Terms (Unit {0}) Sort → Bool
is_outside_application context scope name ts =
    is_text name (codes "divisible") || (is_relation name && (list_all has_int (each_seen_in scope ts) && not (are_comparable context scope ts)))

abbrev pub is_outside_named : Context → Scope → PlainTerm → Bool
is_outside_named context scope (term u s (app f ts)) = is_outside_application context scope (theory_text context.texts f) ts
is_outside_named context scope _ = false

abbrev pub is_other_integer : Context → Occurrence → Bool
is_other_integer context o = has_int o && (not (is_side context o) && not (is_difference context o))

abbrev pub is_outside : Context → Scope → PlainTerm → Bool
is_outside context scope t = is_other_integer context (seen_in scope t) || is_outside_named context scope t
