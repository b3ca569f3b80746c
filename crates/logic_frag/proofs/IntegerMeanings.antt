-- The tests on numerals, coefficients and linear terms mean what the rules say.
use Rattle.std.proofs.Common.{◌≡◌, ℕ, suc, zero, ◌<◌, ◌≤◌, Bool, true, false, ◌||◌, if◌then◌else◌, List, [], ◌∷◌, IsTrue, Option, Some, None, slice_get, refl, sym, ap, subst, ◌∙◌, inl, inr, arith}
use Rattle.std.specs.Prelude.{◌↔◌, ◌⊎◌, codes, option_map, Result, Ok, Err, IfOk}
use Rattle.std.specs.List.{list_any}
use Rattle.std.proofs.lemmas.Slice.Eq.{bytes_eq-Decides}
use Rattle.std.proofs.lemmas.Bool.{cases_Bool}
use Rattle.lex_core.specs.declared.token.TokKind.TheVariants as token
use Rattle.term_store.specs.declared.parts.Fun.{Fun}
use Rattle.term_store.specs.declared.parts.Fun.TheVariants as fun
use Rattle.term_store.specs.Term.{PlainTerm, term, lit, var, app, let_in, quant, match_on, ann, no_terms, more_terms}
use Rattle.logic_frag.specs.Following.{AppliesLower, body_of, next_of}
use Rattle.logic_frag.specs.IntegerTerms.{each_seen_in, TermApplies, StandsForApplication, IsNumeral, StandsForNumeral, IsCoefficientBy, IsCoefficient, IsZero, IsNonlinearProduct, IsNonlinearQuotient, IsNonlinear}
use Rattle.logic_frag.specs.IntegerTests.{text_of_fun, theory_text, is_text, is_zero_text, numeral_zero, minus_argument, numeral, coefficient_with, coefficient, is_missing, is_factor, two_factors, is_missing_or_true, is_bad_divisor, bad_divisors, is_nonlinear_named, is_nonlinear}
use Rattle.logic_frag.specs.Occurrences.{Occurrence, Scope, seen_in}
use Rattle.logic_frag.specs.StandsFor.{Context, StandsFor}
use Rattle.logic_frag.specs.Weights.{end_of}
use Rattle.logic_frag.proofs.Standing.{ends, end_is}

-- names of theory functions

pub named_text : (texts : List (List ℕ)) (f : Fun) (n : ℕ) (name : List ℕ) → f ≡ fun.Theory → slice_get texts n ≡ Some name → text_of_fun texts f n ≡ Some name
named_text texts f n name e g = ap (λ x. text_of_fun texts x n) e ∙ g

same_text : (o : Option (List ℕ)) (name : List ℕ) → is_text o name ≡ true → o ≡ Some name
same_text None name e = cc
same_text (Some text) name e = ap Some ((bytes_eq-Decides text name).0 e)

pub text_named : (texts : List (List ℕ)) (f : Fun) (n : ℕ) (name : List ℕ) → is_text (text_of_fun texts f n) name ≡ true → (f ≡ fun.Theory) × (slice_get texts n ≡ Some name)
text_named texts fun.Theory n name e = (refl, same_text (slice_get texts n) name e)
text_named texts (fun.Declared d) n name e = cc
text_named texts (fun.Tester d) n name e = cc

-- places in lists

pub any_at : {X : Type 0} (p : X → Bool) (xs : List X) (k : ℕ) (x : X) → slice_get xs k ≡ Some x → p x ≡ true → list_any p xs ≡ true
any_at p [] k x e h = cc
any_at p (y ∷ xs) zero x e h = let same : y ≡ x = cc in ap (λ z. p z || list_any p xs) same ∙ ap (λ b. b || list_any p xs) h
any_at p (y ∷ xs) (suc k) x e h = ap (λ b. p y || b) (any_at p xs k x e h) ∙ or_true (p y)
  where
    or_true : (b : Bool) → (b || true) ≡ true
    or_true true = refl
    or_true false = refl

pub record Found {X : Type 0} (p : X → Bool) (xs : List X) : Type 0 where
  pub at : ℕ
  pub item : X
  pub there : slice_get xs at ≡ Some item
  pub passes : p item ≡ true

pub at_any : {X : Type 0} (p : X → Bool) (xs : List X) → list_any p xs ≡ true → Found p xs
at_any p [] e = cc
at_any p (x ∷ xs) e = elim (cases_Bool (p x)) [
  | inl yes-it ↦ record { at = 0; item = x; there = refl; passes = yes-it }
  | inr not-it ↦
      let later = at_any p xs (sym (ap (λ b. b || list_any p xs) not-it) ∙ e) in
      record { at = suc later.at; item = later.item; there = later.there; passes = later.passes }
]

module _ (context : Context) (lower : AppliesLower context.kept) where
  -- a term that stands for no other is the last
  pub is_end : (o last : Occurrence) → StandsFor context o last → next_of context.kept last.scope last.its ≡ None → last ≡ end_of context.kept o
  is_end o last h e = end_is context o last lower (record { stands = h; no_next = e })

  -- numerals

  numeral_last : (scope : Scope) (t : PlainTerm) (text : List ℕ) → IsNumeral context t text → next_of context.kept scope t ≡ None
  numeral_last scope (term u s (lit k n)) text h = refl
  numeral_last scope (term u s (var n)) text h = absurd h
  numeral_last scope (term u s (app f ts)) text h = absurd h
  numeral_last scope (term u s (let_in vs ts b)) text h = absurd h
  numeral_last scope (term u s (quant q vs b)) text h = absurd h
  numeral_last scope (term u s (match_on t cs)) text h = absurd h
  numeral_last scope (term u s (ann b ns)) text h = absurd h

  numeral_some : (t : PlainTerm) (text : List ℕ) → IsNumeral context t text → numeral_zero context.texts t ≡ Some (is_zero_text text)
  numeral_some (term u s (lit token.Numeral n)) text h = ap (option_map is_zero_text) h
  numeral_some (term u s (lit _ n)) text h = absurd h
  numeral_some (term u s (var n)) text h = absurd h
  numeral_some (term u s (app f ts)) text h = absurd h
  numeral_some (term u s (let_in vs ts b)) text h = absurd h
  numeral_some (term u s (quant q vs b)) text h = absurd h
  numeral_some (term u s (match_on t cs)) text h = absurd h
  numeral_some (term u s (ann b ns)) text h = absurd h

  numeral_no_minus : (t : PlainTerm) (text : List ℕ) → IsNumeral context t text → minus_argument context.texts t ≡ None
  numeral_no_minus (term u s (lit k n)) text h = refl
  numeral_no_minus (term u s (var n)) text h = absurd h
  numeral_no_minus (term u s (app f ts)) text h = absurd h
  numeral_no_minus (term u s (let_in vs ts b)) text h = absurd h
  numeral_no_minus (term u s (quant q vs b)) text h = absurd h
  numeral_no_minus (term u s (match_on t cs)) text h = absurd h
  numeral_no_minus (term u s (ann b ns)) text h = absurd h

  some_text : (o : Option (List ℕ)) (z : Bool) → option_map is_zero_text o ≡ Some z → (text : List ℕ) × (o ≡ Some text) × (z ≡ is_zero_text text)
  some_text None z e = cc
  some_text (Some text) z e = (text, refl, cc)

  numeral_back : (t : PlainTerm) (z : Bool) → numeral_zero context.texts t ≡ Some z → (text : List ℕ) × IsNumeral context t text × (z ≡ is_zero_text text)
  numeral_back (term u s (lit token.Numeral n)) z e = some_text (slice_get context.texts n) z e
  numeral_back (term u s (lit _ n)) z e = cc
  numeral_back (term u s (var n)) z e = cc
  numeral_back (term u s (app f ts)) z e = cc
  numeral_back (term u s (let_in vs ts b)) z e = cc
  numeral_back (term u s (quant q vs b)) z e = cc
  numeral_back (term u s (match_on t cs)) z e = cc
  numeral_back (term u s (ann b ns)) z e = cc

  numeral_known : (o : Occurrence) (text : List ℕ) → StandsForNumeral context o text → numeral context o ≡ Some (is_zero_text text)
  numeral_known o text h =
      let it = is_end o h.numeral h.stands (numeral_last h.numeral.scope h.numeral.its text h.spelt) in
      ap (λ (x : Occurrence). numeral_zero context.texts x.its) (sym it) ∙ numeral_some h.numeral.its text h.spelt

  known_numeral : (o : Occurrence) (z : Bool) → numeral context o ≡ Some z → (text : List ℕ) × StandsForNumeral context o text × (z ≡ is_zero_text text)
  known_numeral o z e =
      let back = numeral_back (end_of context.kept o).its z e in
      (back.0, record { numeral = end_of context.kept o; stands = (ends context o lower).stands; spelt = back.1 }, back.2)

  -- applications

  pub applied_last : (scope : Scope) (t : PlainTerm) (name : List ℕ) (args : List Occurrence) → TermApplies context scope t name args → next_of context.kept scope t ≡ None
  applied_last scope (term u s (app f no_terms)) name args h = ap (body_of context.kept) h.0
  applied_last scope (term u s (app f (more_terms t ts))) name args h = refl
  applied_last scope (term u s (lit k n)) name args h = absurd h
  applied_last scope (term u s (var n)) name args h = absurd h
  applied_last scope (term u s (let_in vs ts b)) name args h = absurd h
  applied_last scope (term u s (quant q vs b)) name args h = absurd h
  applied_last scope (term u s (match_on t cs)) name args h = absurd h
  applied_last scope (term u s (ann b ns)) name args h = absurd h

  minus_back : (scope : Scope) (t a : PlainTerm) → minus_argument context.texts t ≡ Some a → TermApplies context scope t (codes "-") (seen_in scope a ∷ [])
  minus_back scope (term u s (app f (more_terms b no_terms))) a e = elim (cases_Bool (is_text (theory_text context.texts f) (codes "-"))) [
    | inl named ↦
        let it : b ≡ a = let s : Some b ≡ Some a = sym (ap (λ (c : Bool). if c then Some b else None) named) ∙ e in cc in
        let known = text_named context.texts f.fun f.name (codes "-") named in
        (known.0, known.1, ap (λ x. seen_in scope x ∷ []) (sym it))
    | inr other ↦ let s : None ≡ Some a = sym (ap (λ (c : Bool). if c then Some b else None) other) ∙ e in cc
  ]
  minus_back scope (term u s (app f no_terms)) a e = cc
  minus_back scope (term u s (app f (more_terms b (more_terms c ts)))) a e = cc
  minus_back scope (term u s (lit k n)) a e = cc
  minus_back scope (term u s (var n)) a e = cc
  minus_back scope (term u s (let_in vs ts b)) a e = cc
  minus_back scope (term u s (quant q vs b)) a e = cc
  minus_back scope (term u s (match_on t cs)) a e = cc
  minus_back scope (term u s (ann b ns)) a e = cc

  minus_applied : (scope : Scope) (t : PlainTerm) (arg : Occurrence) → TermApplies context scope t (codes "-") (arg ∷ []) → (a : PlainTerm) × (minus_argument context.texts t ≡ Some a) × (arg ≡ seen_in scope a)
  minus_applied scope (term u s (app f no_terms)) arg h = let e : arg ∷ [] ≡ [] = h.2 in cc
  minus_applied scope (term u s (app f (more_terms a no_terms))) arg h =
      let e : arg ∷ [] ≡ seen_in scope a ∷ [] = h.2 in
      let it : arg ≡ seen_in scope a = cc in
      let named = ap (λ x. is_text x (codes "-")) (named_text context.texts f.fun f.name (codes "-") h.0 h.1) in
      (a, ap (λ (c : Bool). if c then Some a else None) named, it)
  minus_applied scope (term u s (app f (more_terms a (more_terms b ts)))) arg h = let e : arg ∷ [] ≡ seen_in scope a ∷ (seen_in scope b ∷ each_seen_in scope ts) = h.2 in cc
  minus_applied scope (term u s (lit k n)) arg h = absurd h
  minus_applied scope (term u s (var n)) arg h = absurd h
  minus_applied scope (term u s (let_in vs ts b)) arg h = absurd h
  minus_applied scope (term u s (quant q vs b)) arg h = absurd h
  minus_applied scope (term u s (match_on t cs)) arg h = absurd h
  minus_applied scope (term u s (ann b ns)) arg h = absurd h

  -- coefficients

  pub coefficient_known : (o : Occurrence) (text : List ℕ) → IsCoefficientBy context o text → coefficient context o ≡ Some (is_zero_text text)
  coefficient_known o text (inl h) =
      let it = is_end o h.numeral h.stands (numeral_last h.numeral.scope h.numeral.its text h.spelt) in
      ap (λ (x : Occurrence). coefficient_with context x (minus_argument context.texts x.its)) (sym it) ∙ ap (coefficient_with context h.numeral) (numeral_no_minus h.numeral.its text h.spelt) ∙ numeral_some h.numeral.its text h.spelt
  coefficient_known o text (inr h) =
      let e = h.minus.application in
      let it = is_end o e h.minus.stands (applied_last e.scope e.its (codes "-") (h.arg ∷ []) h.minus.applies) in
      let arg = minus_applied e.scope e.its h.arg h.minus.applies in
      ap (λ (x : Occurrence). coefficient_with context x (minus_argument context.texts x.its)) (sym it) ∙ ap (coefficient_with context e) arg.1 ∙ ap (numeral context) (sym arg.2) ∙ numeral_known h.arg text h.numeral

  pub known_coefficient : (o : Occurrence) (z : Bool) → coefficient context o ≡ Some z → (text : List ℕ) × IsCoefficientBy context o text × (z ≡ is_zero_text text)
  known_coefficient o z e = found (minus_argument context.texts (end_of context.kept o).its) refl e
    where
      found : (arg : Option PlainTerm) → minus_argument context.texts (end_of context.kept o).its ≡ arg → coefficient_with context (end_of context.kept o) arg ≡ Some z → (text : List ℕ) × IsCoefficientBy context o text × (z ≡ is_zero_text text)
      found None same h = let back = known_numeral o z h in (back.0, inl back.1, back.2)
      found (Some a) same h =
          let last = end_of context.kept o in
          let back = known_numeral (seen_in last.scope a) z h in
          let minus : StandsForApplication context o (codes "-") (seen_in last.scope a ∷ []) = record { application = last; stands = (ends context o lower).stands; applies = minus_back last.scope last.its a same } in
          (back.0, inr (record { arg = seen_in last.scope a; minus = minus; numeral = back.1 }), back.2)

  pub factor : (o : Occurrence) → IsTrue (is_factor context o) ↔ (IsCoefficient context o → ⊥)
  factor o = decided (coefficient context o) refl
    where
      decided : (c : Option Bool) → coefficient context o ≡ c → IsTrue (is_missing c) ↔ (IsCoefficient context o → ⊥)
      decided None e = (λ h p. let s : None ≡ Some (is_zero_text p.0) = sym e ∙ coefficient_known o p.0 p.1 in cc, λ f. refl)
      decided (Some z) e = (λ h. cc, λ f. let back = known_coefficient o z e in absurd (f (back.0, back.1)))

  bad_divisor : (o : Occurrence) → IsTrue (is_bad_divisor context o) ↔ ((IsCoefficient context o → ⊥) ⊎ IsZero context o)
  bad_divisor o = decided (coefficient context o) refl
    where
      zero_or : (z : Bool) → z ≡ true → coefficient context o ≡ Some z → IsZero context o
      zero_or z t e =
          let back = known_coefficient o z e in
          let named = (bytes_eq-Decides back.0 (codes "0")).0 (sym back.2 ∙ t) in
          subst (IsCoefficientBy context o) named back.1

      true_or : (z : Bool) → coefficient context o ≡ Some z → IsZero context o → z ≡ true
      true_or z e h = let s : Some z ≡ Some true = sym e ∙ coefficient_known o (codes "0") h in cc

      decided : (c : Option Bool) → coefficient context o ≡ c → IsTrue (is_missing_or_true c) ↔ ((IsCoefficient context o → ⊥) ⊎ IsZero context o)
      decided None e = (λ h. inl (λ p. let s : None ≡ Some (is_zero_text p.0) = sym e ∙ coefficient_known o p.0 p.1 in cc), λ f. refl)
      decided (Some z) e = (λ t. inr (zero_or z t e), λ d. elim d [ inl f ↦ let back = known_coefficient o z e in absurd (f (back.0, back.1)) | inr h ↦ true_or z e h ])

  -- two factors of a product

  record Two (os : List Occurrence) : Type 0 where
    first_at : ℕ
    second_at : ℕ
    apart : first_at < second_at
    first : Occurrence
    second : Occurrence
    first_is : slice_get os first_at ≡ Some first
    second_is : slice_get os second_at ≡ Some second
    first_passes : is_factor context first ≡ true
    second_passes : is_factor context second ≡ true

  two_found : (os : List Occurrence) → two_factors context os ≡ true → Two os
  two_found [] e = cc
  two_found (o ∷ os) e = elim (cases_Bool (is_factor context o)) [
    | inl here ↦
        let later = at_any (is_factor context) os (sym (ap (λ (c : Bool). if c then list_any (is_factor context) os else two_factors context os) here) ∙ e) in
        record { first_at = 0; second_at = suc later.at; apart = omega arith; first = o; second = later.item; first_is = refl; second_is = later.there; first_passes = here; second_passes = later.passes }
    | inr there ↦
        let later = two_found os (sym (ap (λ (c : Bool). if c then list_any (is_factor context) os else two_factors context os) there) ∙ e) in
        record { first_at = suc later.first_at; second_at = suc later.second_at; apart = omega (arith, later.apart); first = later.first; second = later.second; first_is = later.first_is; second_is = later.second_is; first_passes = later.first_passes; second_passes = later.second_passes }
  ]

  two_there : (os : List Occurrence) (i j : ℕ) (x y : Occurrence) → i < j → slice_get os i ≡ Some x → slice_get os j ≡ Some y → is_factor context x ≡ true → is_factor context y ≡ true → two_factors context os ≡ true
  two_there [] i j x y l p q f g = cc
  two_there (o ∷ os) i zero x y l p q f g = absurd (omega (arith, l))
  two_there (o ∷ os) zero (suc j) x y l p q f g =
      let same : x ≡ o = cc in
      let here : is_factor context o ≡ true = ap (is_factor context) (sym same) ∙ f in
      ap (λ (c : Bool). if c then list_any (is_factor context) os else two_factors context os) here ∙ any_at (is_factor context) os j y q g
  two_there (o ∷ os) (suc i) (suc j) x y l p q f g = elim (cases_Bool (is_factor context o)) [
    | inl here ↦ ap (λ (c : Bool). if c then list_any (is_factor context) os else two_factors context os) here ∙ any_at (is_factor context) os j y q g
    | inr there ↦ ap (λ (c : Bool). if c then list_any (is_factor context) os else two_factors context os) there ∙ two_there os i j x y (omega (arith, l)) p q f g
  ]

  divisors_found : (os : List Occurrence) → bad_divisors context os ≡ true → (k : ℕ) × (x : Occurrence) × (1 ≤ k) × (slice_get os k ≡ Some x) × (is_bad_divisor context x ≡ true)
  divisors_found [] e = cc
  divisors_found (o ∷ os) e = let later = at_any (is_bad_divisor context) os e in (suc later.at, later.item, omega arith, later.there, later.passes)

  divisors_there : (os : List Occurrence) (k : ℕ) (x : Occurrence) → 1 ≤ k → slice_get os k ≡ Some x → is_bad_divisor context x ≡ true → bad_divisors context os ≡ true
  divisors_there [] k x l e h = cc
  divisors_there (o ∷ os) zero x l e h = absurd (omega (arith, l))
  divisors_there (o ∷ os) (suc k) x l e h = any_at (is_bad_divisor context) os k x e h

  -- the test on an application

  product_found : (scope : Scope) (t : PlainTerm) (args : List Occurrence) → TermApplies context scope t (codes "*") args → two_factors context args ≡ true → IsNonlinearProduct context (seen_in scope t)
  product_found scope t args applies e =
      let two = two_found args e in
      record {
        args = args;
        product = applies;
        first_at = two.first_at;
        second_at = two.second_at;
        apart = two.apart;
        first = two.first;
        second = two.second;
        first_is = two.first_is;
        second_is = two.second_is;
        first_no_coefficient = (factor two.first).0 two.first_passes;
        second_no_coefficient = (factor two.second).0 two.second_passes;
      }

  quotient_found : (scope : Scope) (t : PlainTerm) (args : List Occurrence) → TermApplies context scope t (codes "div") args ⊎ TermApplies context scope t (codes "mod") args → bad_divisors context args ≡ true → IsNonlinearQuotient context (seen_in scope t)
  quotient_found scope t args applies e =
      let at = divisors_found args e in
      record { args = args; quotient = applies; divisor_at = at.0; past_first = at.2; divisor = at.1; divisor_is = at.3; no_divisor = (bad_divisor at.1).0 at.4 }

  named_found : (scope : Scope) (t : PlainTerm) (args : List Occurrence) (name : Option (List ℕ)) → ((text : List ℕ) → is_text name text ≡ true → TermApplies context scope t text args) → is_nonlinear_named context name args ≡ true → IsNonlinear context (seen_in scope t)
  named_found scope t args name applies e = elim (cases_Bool (is_text name (codes "*"))) [
    | inl times ↦ inl (product_found scope t args (applies (codes "*") times) (sym (ap (λ (c : Bool). if c then two_factors context args else if is_text name (codes "div") || is_text name (codes "mod") then bad_divisors context args else false) times) ∙ e))
    | inr other ↦
        let rest : (if is_text name (codes "div") || is_text name (codes "mod") then bad_divisors context args else false) ≡ true = sym (ap (λ (c : Bool). if c then two_factors context args else if is_text name (codes "div") || is_text name (codes "mod") then bad_divisors context args else false) other) ∙ e in
        inr (divided (is_text name (codes "div")) (is_text name (codes "mod")) refl refl rest)
  ]
    where
      divided : (d m : Bool) → is_text name (codes "div") ≡ d → is_text name (codes "mod") ≡ m → (if d || m then bad_divisors context args else false) ≡ true → IsNonlinearQuotient context (seen_in scope t)
      divided true m p q r = quotient_found scope t args (inl (applies (codes "div") p)) r
      divided false true p q r = quotient_found scope t args (inr (applies (codes "mod") q)) r
      divided false false p q r = cc

  nonlinear_found : (scope : Scope) (t : PlainTerm) → is_nonlinear context scope t ≡ true → IsNonlinear context (seen_in scope t)
  nonlinear_found scope (term u s (app f ts)) e =
      named_found scope (term u s (app f ts)) (each_seen_in scope ts) (theory_text context.texts f) (λ text h. let known = text_named context.texts f.fun f.name text h in (known.0, known.1, refl)) e
  nonlinear_found scope (term u s (lit k n)) e = cc
  nonlinear_found scope (term u s (var n)) e = cc
  nonlinear_found scope (term u s (let_in vs ts b)) e = cc
  nonlinear_found scope (term u s (quant q vs b)) e = cc
  nonlinear_found scope (term u s (match_on t cs)) e = cc
  nonlinear_found scope (term u s (ann b ns)) e = cc

  -- the name and the arguments decide
  applied_test : (scope : Scope) (t : PlainTerm) (text : List ℕ) (args : List Occurrence) → TermApplies context scope t text args → is_nonlinear context scope t ≡ is_nonlinear_named context (Some text) args
  applied_test scope (term u s (app f ts)) text args h =
      ap (λ x. is_nonlinear_named context x (each_seen_in scope ts)) (named_text context.texts f.fun f.name text h.0 h.1) ∙ ap (is_nonlinear_named context (Some text)) (sym h.2)
  applied_test scope (term u s (lit k n)) text args h = absurd h
  applied_test scope (term u s (var n)) text args h = absurd h
  applied_test scope (term u s (let_in vs ts b)) text args h = absurd h
  applied_test scope (term u s (quant q vs b)) text args h = absurd h
  applied_test scope (term u s (match_on t cs)) text args h = absurd h
  applied_test scope (term u s (ann b ns)) text args h = absurd h

  nonlinear_there : (scope : Scope) (t : PlainTerm) → IsNonlinear context (seen_in scope t) → is_nonlinear context scope t ≡ true
  nonlinear_there scope t (inl h) =
      applied_test scope t (codes "*") h.args h.product ∙ two_there h.args h.first_at h.second_at h.first h.second h.apart h.first_is h.second_is ((factor h.first).1 h.first_no_coefficient) ((factor h.second).1 h.second_no_coefficient)
  nonlinear_there scope t (inr h) =
      let bad = divisors_there h.args h.divisor_at h.divisor h.past_first h.divisor_is ((bad_divisor h.divisor).1 h.no_divisor) in
      elim h.quotient [
        | inl by_div ↦ applied_test scope t (codes "div") h.args by_div ∙ bad
        | inr by_mod ↦ applied_test scope t (codes "mod") h.args by_mod ∙ bad
      ]

  pub nonlinear : (scope : Scope) (t : PlainTerm) → IsTrue (is_nonlinear context scope t) ↔ IsNonlinear context (seen_in scope t)
  nonlinear scope t = (nonlinear_found scope t, nonlinear_there scope t)

  -- the answer of a test, as the rule has it
  pub linear_answer : {E : Type 0} (scope : Scope) (t : PlainTerm) (r : Result Bool E) → IfOk r (λ b. b ≡ is_nonlinear context scope t) → IfOk r (λ b. IsTrue b ↔ IsNonlinear context (seen_in scope t))
  linear_answer scope t (Ok b) e = subst (λ x. IsTrue x ↔ IsNonlinear context (seen_in scope t)) (sym e) (nonlinear scope t)
  linear_answer scope t (Err e) h = tt
