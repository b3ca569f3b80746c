-- The rules on terms over the integers as tests.
use Rattle.std.specs.Prelude.{ℕ, Bool, true, false, ◌||◌, if◌then◌else◌, List, [], ◌∷◌, Option, Some, None, option_map, codes, slice_get}
use Rattle.std.specs.List.{list_any}
use Rattle.std.specs.Str.{bytes_eq}
use Rattle.lex_core.specs.declared.token.TokKind.TheVariants as token
use Rattle.term_store.specs.declared.parts.Applied.{Applied}
use Rattle.term_store.specs.declared.parts.Fun.{Fun}
use Rattle.term_store.specs.declared.parts.Fun.TheVariants as fun
use Rattle.term_store.specs.Term.{PlainTerm, term, lit, app, no_terms, more_terms}
use Rattle.logic_frag.specs.IntegerTerms.{each_seen_in}
use Rattle.logic_frag.specs.Occurrences.{Occurrence, Scope, seen_in}
use Rattle.logic_frag.specs.StandsFor.{Context}
use Rattle.logic_frag.specs.Weights.{end_of}

abbrev pub text_of_fun : List (List ℕ) → Fun → ℕ → Option (List ℕ)
text_of_fun texts fun.Theory n = slice_get texts n
text_of_fun texts f n = None

-- the name of a function of a theory
abbrev pub theory_text : List (List ℕ) → Applied → Option (List ℕ)
theory_text texts f = text_of_fun texts f.fun f.name

abbrev pub is_text : Option (List ℕ) → List ℕ → Bool
is_text None name = false
is_text (Some text) name = bytes_eq text name

-- for a numeral whether it is zero
abbrev pub is_zero_text : List ℕ → Bool
is_zero_text text = bytes_eq text (codes "0")

abbrev pub numeral_zero : List (List ℕ) → PlainTerm → Option Bool
numeral_zero texts (term u s (lit token.Numeral n)) = option_map is_zero_text (slice_get texts n)
numeral_zero texts _ = None

-- the argument of a minus of one argument
abbrev pub minus_argument : List (List ℕ) → PlainTerm → Option PlainTerm
minus_argument texts (term u s (app f (more_terms a no_terms))) = if is_text (theory_text texts f) (codes "-") then Some a else None
minus_argument texts _ = None

abbrev pub numeral : Context → Occurrence → Option Bool
numeral context o = numeral_zero context.texts (end_of context.kept o).its

abbrev pub coefficient_with : Context → Occurrence → Option PlainTerm → Option Bool
coefficient_with context last None = numeral_zero context.texts last.its
coefficient_with context last (Some a) = numeral context (seen_in last.scope a)

abbrev pub coefficient_at : Context → Occurrence → Option Bool
coefficient_at context last = coefficient_with context last (minus_argument context.texts last.its)

-- for a coefficient whether it is zero
abbrev pub coefficient : Context → Occurrence → Option Bool
coefficient context o = coefficient_at context (end_of context.kept o)

abbrev pub is_missing : Option Bool → Bool
is_missing None = true
is_missing (Some b) = false

abbrev pub is_factor : Context → Occurrence → Bool
is_factor context o = is_missing (coefficient context o)

abbrev pub two_factors : Context → List Occurrence → Bool
two_factors context [] = false
two_factors context (o ∷ os) = if is_factor context o then list_any (is_factor context) os else two_factors context os

abbrev pub is_missing_or_true : Option Bool → Bool
is_missing_or_true None = true
is_missing_or_true (Some b) = b

abbrev pub is_bad_divisor : Context → Occurrence → Bool
is_bad_divisor context o = is_missing_or_true (coefficient context o)

abbrev pub bad_divisors : Context → List Occurrence → Bool
bad_divisors context [] = false
bad_divisors context (o ∷ os) = list_any (is_bad_divisor context) os

abbrev pub is_nonlinear_named : Context → Option (List ℕ) → List Occurrence → Bool
is_nonlinear_named context name os =
    if is_text name (codes "*") then two_factors context os else if is_text name (codes "div") || is_text name (codes "mod") then bad_divisors context os else false

abbrev pub is_nonlinear : Context → Scope → PlainTerm → Bool
is_nonlinear context scope (term u s (app f ts)) = is_nonlinear_named context (theory_text context.texts f) (each_seen_in scope ts)
is_nonlinear context scope _ = false
