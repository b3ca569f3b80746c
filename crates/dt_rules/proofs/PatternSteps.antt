-- What the variables of a pattern have as outcome, one by one, and what that makes of the pattern.
use Rattle.std.proofs.Common.{◌≡◌, ℕ, ◌==◌, Bool, true, false, if◌then◌else◌, List, [], ◌∷◌, length, map, Some, Err, refl, sym, ◌∙◌, subst, inl, inr}
use Rattle.std.proofs.lemmas.List.{length-map}
use Rattle.std.specs.Option.{option_map}
use Rattle.std.specs.List as lists
use Rattle.std.specs.List.{list_any}
use Rattle.std.proofs.lemmas.Bool.{false≢true}
use Rattle.lex_core.specs.declared.token.Tok.{Tok}
use Rattle.sig_table.specs.declared.code.Code.TheVariants.{RepeatedVariable}
use Rattle.judgement.specs.Judging.{Outcome, ill_sorted}
use Rattle.term_store.specs.declared.command.Constructor.{Constructor}
use Rattle.term_store.specs.Command.{PlainConstructor, PlainDatatype, plain_constructor, plain_field}
use Rattle.term_store.specs.declared.parts.Pattern.{Pattern}
use Rattle.dt_rules.specs.declared.error.TyError.{TyError}
use Rattle.dt_rules.specs.declared.error.TyError.TheVariants as error
use Rattle.dt_rules.specs.Answers.{Answers}
use Rattle.dt_rules.specs.PatternRules.{constructor_named, judge_constructor, judge_variables}

repeated_here : (names : List ℕ) (v : Tok) (vs : List Tok) (before : List ℕ) → list_any (λ n. n == v.name) names ≡ true
    → judge_variables names (v ∷ vs) before (ill_sorted (record { code = RepeatedVariable; at = v.at }))
repeated_here names v vs before e = inl ((λ h. false≢true (sym h ∙ e)), refl)

pub variable_repeated : (names : List ℕ) (all left : List Tok) (v : Tok) (vs : List Tok) → left ≡ v ∷ vs → list_any (λ n. n == v.name) names ≡ true
    → ((before : List ℕ) (o : Outcome (List ℕ)) → judge_variables names left before o → judge_variables [] all before o)
    → (before : List ℕ) → judge_variables [] all before (ill_sorted (record { code = RepeatedVariable; at = v.at }))
variable_repeated names all left v vs e test onward before =
    onward before _ (subst (λ ts. judge_variables names ts before (ill_sorted (record { code = RepeatedVariable; at = v.at }))) (sym e) (repeated_here names v vs before test))

-- the first constructor of the name, by its trees
pub named_plain : (name : ℕ) (cs : List Constructor) → option_map plain_constructor (lists.find (λ c. c.name == name) cs) ≡ lists.find (λ c. c.name == name) (map plain_constructor cs)
named_plain name [] = refl
named_plain name (c ∷ cs) = by (c.name == name) (named_plain name cs)
  where
    by : (b : Bool) → option_map plain_constructor (lists.find (λ (d : Constructor). d.name == name) cs) ≡ lists.find (λ (d : PlainConstructor). d.name == name) (map plain_constructor cs)
        → option_map plain_constructor (if b then Some c else lists.find (λ (d : Constructor). d.name == name) cs) ≡ (if b then Some (plain_constructor c) else lists.find (λ (d : PlainConstructor). d.name == name) (map plain_constructor cs))
    by true e = refl
    by false e = e

pub field_count : (c : Constructor) → length (map plain_field c.fields) ≡ length c.fields
field_count c = length-map c.fields plain_field

-- the first fault of the variables is that of the pattern
pub variables_fail : (t : PlainDatatype) (at : ℕ) (s : Tok) (vs : List Tok) (c : PlainConstructor) (e : TyError) → constructor_named t s.name ≡ Some c → length vs ≡ length c.fields
    → Answers {A = List ℕ} (Err e) (judge_variables [] vs) → Answers {A = Pattern} (Err e) (judge_constructor t at s vs)
variables_fail t at s vs c (error.Fault place) named count h = λ before. inr (c, before, (named, refl), inr (tt, before, (count, refl), inl (h before)))
variables_fail t at s vs c error.NoMemory named count h = tt

pub ruleset plain_words = (named_plain, field_count)
