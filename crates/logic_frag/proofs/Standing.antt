-- A term stands for one last term alone, which the steps one after the other lead to.
use Rattle.std.proofs.Common.{◌≡◌, Bool, true, false, List, [], ◌∷◌, Option, Some, None, refl, sym, ap, subst, ◌∙◌, ℕ, suc, zero, ◌<◌, arith}
use Rattle.sort_store.specs.Tree.{Sort}
use Rattle.term_store.specs.declared.parts.Fun.{Fun}
use Rattle.term_store.specs.declared.parts.Fun.TheVariants as fun
use Rattle.term_store.specs.Command.{PlainDef}
use Rattle.term_store.specs.Term.{PlainTerm, term, lit, var, app, let_in, quant, match_on, ann, no_terms, more_terms}
use Rattle.logic_frag.specs.Following.{body_without, constant_body, body_of, next_of, AppliesLower, Ends}
use Rattle.logic_frag.specs.Occurrences.{Occurrence, Scope, no_variables, seen_in}
use Rattle.logic_frag.specs.StandsFor.{Context, IsConstantFor, StandsForNext, StandsFor, definition_at, itself, further}
use Rattle.logic_frag.proofs.Weights.{falls, found_number, measure_falls, weight_stays, without_params}
use Rattle.logic_frag.specs.Weights.{bodies_size, end_of, followed, next_or, measure, step_bound, weight}

params_none : (ps : List (ℕ × Sort)) (recursive : Bool) (t : PlainTerm) (o : Occurrence) → body_without ps recursive t ≡ Some o → ps ≡ []
params_none [] recursive t o e = refl
params_none (p ∷ ps) false t o e = cc
params_none (p ∷ ps) true t o e = cc

-- between the step and the function
module _ (context : Context) where
  constant_stands : (f : Fun) (o : Occurrence) → body_of context.kept f ≡ Some o → IsConstantFor context f o.its × (o.scope ≡ no_variables)
  constant_stands fun.Theory o e = cc
  constant_stands (fun.Tester d) o e = cc
  constant_stands (fun.Declared d) o e = found (definition_at context.kept d) refl e
    where
      found : (at : Option PlainDef) → definition_at context.kept d ≡ at → constant_body at ≡ Some o → IsConstantFor context (fun.Declared d) o.its × (o.scope ≡ no_variables)
      found None same h = cc
      found (Some def) same h =
          let without = without_params def.params def.recursive def.body o h in
          let number : d ≡ def.no = found_number context.kept d def same in (
            record {
              its = def;
              declared = ap fun.Declared number;
              kept = ap (definition_at context.kept) (sym number) ∙ same;
              no_params = params_none def.params def.recursive def.body o h;
              not_recursive = without.0;
              body_is = ap (λ (x : Occurrence). x.its) without.1;
            },
            ap (λ (x : Occurrence). x.scope) (sym without.1),
          )

  stands_constant : (f : Fun) (o : Occurrence) → IsConstantFor context f o.its → o.scope ≡ no_variables → body_of context.kept f ≡ Some o
  stands_constant f o h e = ap (body_of context.kept) h.declared ∙ ap constant_body h.kept ∙ without h.its.params h.its.recursive h.its.body h.no_params h.not_recursive h.body_is
    where
      without : (ps : List (ℕ × Sort)) (recursive : Bool) (t : PlainTerm) → ps ≡ [] → recursive ≡ false → t ≡ o.its → body_without ps recursive t ≡ Some o
      without [] false t p r b = ap (λ x. Some (seen_in no_variables x)) b ∙ ap (λ s. Some (seen_in s o.its)) (sym e)
      without [] true t p r b = cc
      without (v ∷ ps) recursive t p r b = cc

  pub stands_next : (scope : Scope) (t : PlainTerm) (o : Occurrence) → next_of context.kept scope t ≡ Some o → StandsForNext context scope t o
  stands_next scope (term u s (lit k n)) o e = cc
  stands_next scope (term u s (var n)) o e = e
  stands_next scope (term u s (app f no_terms)) o e = constant_stands f.fun o e
  stands_next scope (term u s (app f (more_terms t ts))) o e = cc
  stands_next scope (term u s (let_in vs ts b)) o e = cc
  stands_next scope (term u s (quant all-of vs b)) o e = cc
  stands_next scope (term u s (match_on t cs)) o e = cc
  stands_next scope (term u s (ann b ns)) o e = cc

  pub next_stands : (scope : Scope) (t : PlainTerm) (o : Occurrence) → StandsForNext context scope t o → next_of context.kept scope t ≡ Some o
  next_stands scope (term u s (lit k n)) o h = absurd h
  next_stands scope (term u s (var n)) o h = h
  next_stands scope (term u s (app f no_terms)) o h = stands_constant f.fun o h.0 h.1
  next_stands scope (term u s (app f (more_terms t ts))) o h = absurd h
  next_stands scope (term u s (let_in vs ts b)) o h = ap Some (sym h)
  next_stands scope (term u s (quant all-of vs b)) o h = absurd h
  next_stands scope (term u s (match_on t cs)) o h = absurd h
  next_stands scope (term u s (ann b ns)) o h = ap Some (sym h)

  pub stands_also : (o x n : Occurrence) → StandsFor context o x → StandsForNext context x.scope x.its n → StandsFor context o n
  stands_also o x n itself h = further h itself
  stands_also o x n (further {next = y} g r) h = further g (stands_also y x n r h)

  pub last_alone : (o x y : Occurrence) → StandsFor context o x → next_of context.kept x.scope x.its ≡ None → StandsFor context o y → next_of context.kept y.scope y.its ≡ None → x ≡ y
  last_alone o x y itself p itself q = refl
  last_alone o x y itself p (further {next = m} h r) q = let e : None ≡ Some m = sym p ∙ next_stands o.scope o.its m h in cc
  last_alone o x y (further {next = n} h r) p itself q = let e : None ≡ Some n = sym q ∙ next_stands o.scope o.its n h in cc
  last_alone o x y (further {next = n} h r) p (further {next = m} g s) q =
      let e : Some m ≡ Some n = sym (next_stands o.scope o.its m g) ∙ next_stands o.scope o.its n h in
      let same : m ≡ n = cc in
      last_alone n x y r p (subst (λ z. StandsFor context z y) same s) q

  -- enough steps lead to the last term
  followed_ends : (bound n : ℕ) (o : Occurrence) → AppliesLower context.kept → bodies_size context.kept < bound → weight o < bound → measure bound o < n → Ends context o (followed n context.kept o)
  followed_ends bound zero o lower large small h = absurd (omega (arith, h))
  followed_ends bound (suc n) o lower large small h = ended (λ next w l. followed_ends bound n next lower large w l) (next_of context.kept o.scope o.its) refl
    where
      ended : ((next : Occurrence) → weight next < bound → measure bound next < n → Ends context next (followed n context.kept next))
          → (next : Option Occurrence) → next_of context.kept o.scope o.its ≡ next → Ends context o (next_or next o (followed n context.kept))
      ended onward None e = record { stands = itself; no_next = e }
      ended onward (Some next) e =
          let fall = falls context.kept o.scope o.its next lower e in
          let less = measure_falls context.kept o next bound large small fall in
          let rest = onward next (weight_stays context.kept o next bound large small fall) (omega (arith, less, h)) in
          record { stands = further (stands_next o.scope o.its next e) rest.stands; no_next = rest.no_next }

  pub ends : (o : Occurrence) → AppliesLower context.kept → Ends context o (end_of context.kept o)
  unfolding end_of
  ends o lower = followed_ends (step_bound context.kept o) (suc (measure (step_bound context.kept o) o)) o lower (omega arith) (omega arith) (omega arith)

  -- what is last is the one
  pub end_is : (o last : Occurrence) → AppliesLower context.kept → Ends context o last → last ≡ end_of context.kept o
  end_is o last lower h =
      let e = ends o lower in
      last_alone o last (end_of context.kept o) h.stands h.no_next e.stands e.no_next
