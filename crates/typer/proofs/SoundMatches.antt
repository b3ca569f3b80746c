-- A match that the rules give is sound, where its term and its branches are.
use Rattle.std.proofs.Common.{◌≡◌, ℕ, zero, suc, ◌+◌, List, [], ◌∷◌, ◌++◌, length, map, Option, Some, None, ap, arith, refl, sym, ◌∙◌, subst, length-append}
use Rattle.std.specs.List.{All, Contains, zip}
use Rattle.judgement.specs.Judging.{well_sorted}
use Rattle.lex_core.specs.declared.token.Tok.{Tok}
use Rattle.term_grammar.specs.Syntax.{symbol_pattern, constructor_pattern}
use Rattle.term_grammar.specs.Syntax as syntax
use Rattle.sort_store.specs.Instance.{inst}
use Rattle.sort_store.specs.Tree.{Sort}
use Rattle.term_store.specs.Command.{PlainConstructor, PlainDatatype, PlainField}
use Rattle.term_store.specs.declared.parts.Pattern.{Pattern}
use Rattle.term_store.specs.declared.parts.Pattern.TheVariants as patterns
use Rattle.term_store.specs.Declarations.{Declaration, constructor_of}
use Rattle.term_store.specs.SoundTerms.{AreDistinct, AreSoundCases, AreSoundVars, Bound, IsDatatypeSort, IsSoundCase, IsSoundSort, IsSoundTerm, bound_also, bound_to, field_sorts}
use Rattle.term_store.specs.Term.{PlainTerm, plain_sort}
use Rattle.dt_rules.specs.PatternRules.{constructor_named, judge_constant, judge_pattern, judge_variables}
use Rattle.typer.specs.MatchRules.{Instance, IsBranchSort, instance_of, judge_typed_pattern, pattern_variables, sorts_of_fields}
use Rattle.typer.specs.Soundness.{IsSoundInstance}
use Rattle.typer.specs.SortSymbols.{or_else}
use Rattle.typer.specs.TermRules.{Case, first_sort, match_term, plain_cases}
use Rattle.typer.proofs.DistinctNames.{distinct_push}
use Rattle.typer.proofs.Instances.{IsInstance, is_instance, named_itself}
use Rattle.typer.proofs.SoundApplications.{sort_sound}
use Rattle.typer.proofs.SoundInstances.{AreSound, instance_sound}

none_distinct : AreDistinct []
none_distinct = record { distinct = λ i j n e f. cc }

-- the variables of a pattern are distinct, and as many as are written
variables_distinct : (names : List ℕ) (vs : List Tok) (all before after : List ℕ) → AreDistinct names → judge_variables names vs before (well_sorted all after) → AreDistinct all × (length all ≡ length names + length vs)
variables_distinct names [] all before after apart (made, same) = (subst AreDistinct (sym made) apart, ap length made ∙ omega arith)
variables_distinct names (v ∷ vs) all before after apart (x, between, (new, e), h) =
    let k = variables_distinct (names ++ v.name ∷ []) vs all between after (distinct_push names v.name apart new) h in
    (k.0, omega (arith, k.1, length-append names (v.name ∷ [])))

bound_by_zip : (ns : List ℕ) (ss : List Sort) (outer : Bound) → bound_also (zip ns ss) outer ≡ bound_to ns ss outer
bound_by_zip [] ss outer = refl
bound_by_zip (n ∷ ns) [] outer = refl
bound_by_zip (n ∷ ns) (s ∷ ss) outer = bound_by_zip ns ss ((n, s) ∷ outer)

module _ (script : List Declaration) where
  zip_sound : (ns : List ℕ) (ss : List Sort) → AreSound script 0 ss → AreSoundVars script (zip ns ss)
  zip_sound [] ss h = tt
  zip_sound (n ∷ ns) [] h = tt
  zip_sound (n ∷ ns) (s ∷ ss) h = (h.0, zip_sound ns ss h.1)

  -- field sorts at sound values
  module _ (values : List Sort) (given : AreSound script 0 values) where
    fields_sound : (fs : List PlainField) → All (λ (f : PlainField). IsSoundSort script (length values) f.sort) fs → AreSound script 0 (map (λ (f : PlainField). inst values f.sort) fs)
    fields_sound [] h = tt
    fields_sound (f ∷ fs) h = (instance_sound script 0 values f.sort given (h zero f (omega arith)), fields_sound fs (λ k d l. h (suc k) d (omega (arith, l))))

  at_of : {X : Type 0} (P : X → Type 0) (xs : List X) (x : X) → All P xs → Contains xs x → P x
  at_of P xs x h (k, l, e) = subst P e (h k x l)

  -- the sort is a sound instance of a datatype, at sound values
  pub record IsSoundMatch (ts : List PlainDatatype) (s : Sort) (i : Instance) : Type 0 where
    pub instance : IsInstance ts s i
    pub sound : IsSoundInstance script i.0
    pub given : AreSound script 0 i.1
    pub of_sort : IsSoundSort script 0 s

  pub sound_match : (ts : List PlainDatatype) → All (IsSoundInstance script) ts → (s : Sort) → IsSoundSort script 0 s → (i : Instance) → instance_of ts s ≡ Some i → IsSoundMatch ts s i
  sound_match ts all s h i e =
      let instance = is_instance ts s i e in
      record { instance = instance; sound = at_of (IsSoundInstance script) ts i.0 all instance.is_one; given = (subst (IsSoundSort script 0) instance.sort_is h).1; of_sort = h }

  -- the patterns of a match on it
  module _ (i : Instance) (s : Sort) (ts : List PlainDatatype) (m : IsSoundMatch ts s i) (outer : Bound) where
    abbrev Fits : Pattern → Type 0
    Fits q = AreSoundVars script (pattern_variables i s q) × ((u : PlainTerm) → IsSoundTerm script (bound_also (pattern_variables i s q) outer) u → IsSoundCase script outer s q (λ inner. IsSoundTerm script inner u))

    variable_fits : (n : ℕ) → Fits (patterns.Var n)
    variable_fits n = ((m.of_sort, tt), λ u h. h)

    constructor_fits : (name : ℕ) (c : PlainConstructor) (vs : List ℕ) → constructor_named i.0 name ≡ Some c → AreDistinct vs → length vs ≡ length c.fields → Fits (patterns.Con c.no c.name vs)
    constructor_fits name c vs e apart count =
        let found = named_itself i.0 name c e in
        let its : sorts_of_fields (constructor_named i.0 c.name) i.1 ≡ field_sorts c i.1 = ap (λ o. sorts_of_fields o i.1) found.0 in
        let fields = fields_sound i.1 m.given c.fields (subst (λ n. All (λ (f : PlainField). IsSoundSort script n f.sort) c.fields) (sym m.instance.count) (at_of (λ (d : PlainConstructor). All (λ (f : PlainField). IsSoundSort script (length i.0.params) f.sort) d.fields) i.0.constructors c m.sound.fields found.1)) in (
          subst (λ ss. AreSoundVars script (zip vs ss)) (sym its) (zip_sound vs (field_sorts c i.1) fields),
          λ u h. (
            record { its = i.0; by = c; is_declared = at_of (λ (d : PlainConstructor). Contains script (constructor_of i.0 d)) i.0.constructors c m.sound.constructors found.1; number_is = refl; values = i.1; sort_is = m.instance.sort_is; fields = count },
            apart,
            subst (λ o. IsSoundTerm script o u) (bound_by_zip vs (field_sorts c i.1) outer) (subst (λ ss. IsSoundTerm script (bound_also (zip vs ss) outer) u) its h),
          ),
        )

    constant_fits : (t : Tok) (o : Option PlainConstructor) (q : Pattern) (before after : List ℕ) → constructor_named i.0 t.name ≡ o → judge_constant t o before (well_sorted q after) → Fits q
    constant_fits t None q before after e (made, same) = subst Fits (sym made) (variable_fits t.name)
    constant_fits t (Some c) q before after e (x, between, (none, f), (made, same)) = subst Fits (sym made) (constructor_fits t.name c [] e none_distinct (sym none))

    pattern_fits : (p : syntax.Pattern) (q : Pattern) (before after : List ℕ) → judge_pattern i.0 p before (well_sorted q after) → Fits q
    pattern_fits (symbol_pattern t) q before after h = constant_fits t (constructor_named i.0 t.name) q before after refl h
    pattern_fits (constructor_pattern at t vs) q before after (c, b1, (e, f), (x, b2, (count, g), (names, b3, h, (made, same)))) =
        let k = variables_distinct [] vs names b2 b3 none_distinct h in
        subst Fits (sym made) (constructor_fits t.name c names e k.0 (omega (arith, k.1, count)))

    pub typed_pattern_fits : (p : syntax.Pattern) (q : Pattern) (before after : List ℕ) → judge_typed_pattern i p before (well_sorted q after) → Fits q
    typed_pattern_fits p q before after (r, b1, h, (ss, b2, small, (made, same))) = subst Fits (sym made) (pattern_fits p r before b1 h)

    case_sort_sound : (q : Pattern) (u : PlainTerm) → IsSoundCase script outer s q (λ inner. IsSoundTerm script inner u) → IsSoundSort script 0 (plain_sort u)
    case_sort_sound (patterns.Var n) u h = sort_sound script ((n, s) ∷ outer) u h
    case_sort_sound (patterns.Con d n vs) u h = sort_sound script _ u h.2

    first_sound : (cs : List Case) (r : Sort) → first_sort cs ≡ Some r → AreSoundCases script outer s r (plain_cases cs) → IsSoundSort script 0 r
    first_sound [] r e h = cc
    first_sound (c ∷ cs) r e h = subst (IsSoundSort script 0) h.1 (case_sort_sound c.0 c.1 h.0)

    pub match_sound : (u : PlainTerm) (cs : List Case) (r : Sort) → plain_sort u ≡ s → IsSoundTerm script outer u → first_sort cs ≡ Some r → AreSoundCases script outer s r (plain_cases cs) → IsSoundTerm script outer (match_term r u cs)
    match_sound u cs r same h e k = (
      first_sound cs r e k,
      (
        h,
        subst (IsDatatypeSort script) (sym same) (record { its = i.0; is_declared = m.sound.is_declared; values = i.1; sort_is = m.instance.sort_is }),
        subst (λ z. AreSoundCases script outer z r (plain_cases cs)) (sym same) k,
      ),
    )

-- a branch has the sort of the first one
pub branch_is : (first : Option Sort) (t s : Sort) → IsBranchSort first t → or_else first (Some t) ≡ Some s → t ≡ s
branch_is None t s h e = cc
branch_is (Some f) t s h e = let same : f ≡ s = cc in h ∙ same

pub first_stays : (first : Option Sort) (s : Sort) (o : Option Sort) → first ≡ Some s → or_else first o ≡ Some s
first_stays first s o e = ap (λ z. or_else z o) e
