-- After any calls the live names are distinct, and what is found is what is live.
use Rattle.std.proofs.Common.{◌≡◌, ℕ, suc, zero, ◌<◌, ◌≤◌, ◌↔◌, inl, inr, Bool, true, false, cond, List, [], ◌∷◌, length, get_or, Some, Result, Ok, refl, ap, sym, subst, ◌∙◌, arith}
use Rattle.std.proofs.lemmas.Bool.{eqb-true}
use Rattle.std.specs.List.{Contains}
use Rattle.std.specs.Map.{lookup}
use Rattle.scope_stack.specs.Levels.{Levels, is_name, add_last, with_last, declared}
use Rattle.scope_stack.specs.DistinctNames.{count_of, HasDistinctNames}
use Rattle.scope_stack.specs.Environment.{Environment, IsConsistent, empty}
use Rattle.scope_stack.specs.Calls.{Call, DeclareFun, DeclareSort, SetGlobal, Push, Pop, ResetAssertions, Reset, Effect, Follows}
use Rattle.scope_stack.proofs.DistinctNamesKept.{consistent_none, consistent_fun, consistent_sort, consistent_closed, consistent_opened, consistent_globals}

-- a declaration opens and closes no level
length-add_last : {X : Type 0} (d : X) (l : List X) (ls : List (List X)) → length (add_last d l ls) ≡ suc (length ls)
length-add_last d l [] = refl
length-add_last d l (m ∷ ls) = ap suc (length-add_last d m ls)

length-with_last : {X : Type 0} (d : ℕ × X) (first : List (ℕ × X)) (pushed : List (List (ℕ × X))) (globals : List (ℕ × X)) → length (with_last d first pushed globals).pushed ≡ length pushed
length-with_last d first [] globals = refl
length-with_last d first (l ∷ ls) globals = length-add_last d l ls

length-declared : {X : Type 0} (g : Bool) (d : ℕ × X) (s : Levels X) → length (declared g d s).pushed ≡ length s.pushed
length-declared true d s = refl
length-declared false d s = length-with_last d s.first s.pushed s.globals

-- each call keeps the scopes consistent
abbrev done : Result (Unit {0}) ℕ
done = Ok tt

consistent_by : (new e : Environment) → new ≡ e → IsConsistent e.funs e.sorts → IsConsistent new.funs new.sorts
consistent_by new e same h = subst (λ (z : Environment). IsConsistent z.funs z.sorts) (sym same) h

consistent_after : (c : Call) (old new : Environment) → IsConsistent old.funs old.sorts → Effect c old new → IsConsistent new.funs new.sorts
consistent_after (DeclareFun name x) old new h e =
    consistent_by new _ e.1 (consistent_fun done old.global name x old.funs (declared old.global (name, x) old.funs) old.sorts h e.0 (length-declared old.global (name, x) old.funs) refl tt)
consistent_after (DeclareSort name x) old new h e =
    consistent_by new _ e.1 (consistent_sort done old.global name x old.funs old.sorts (declared old.global (name, x) old.sorts) h e.0 (length-declared old.global (name, x) old.sorts) refl tt)
consistent_after (SetGlobal on) old new h e = consistent_by new _ e h
consistent_after (Push n) old new h e = consistent_by new _ e.1 (consistent_opened n old.funs old.sorts e.0 h)
consistent_after (Pop n) old new h e = consistent_by new _ e.1 (consistent_closed n old.funs old.sorts h)
consistent_after ResetAssertions old new h e = consistent_by new _ e (consistent_globals old.funs old.sorts h)
consistent_after Reset old new h e = consistent_by new _ e consistent_none

consistent_follows : (cs : List Call) (old new : Environment) → IsConsistent old.funs old.sorts → Follows cs old new → IsConsistent new.funs new.sorts
consistent_follows [] old new h e = consistent_by new old e h
consistent_follows (c ∷ cs) old new h e =
    let mid : IsConsistent e.0.funs e.0.sorts = elim e.1 [ inl same ↦ consistent_by e.0 old same h | inr did ↦ consistent_after c old e.0 h did ] in
    consistent_follows cs e.0 new mid e.2

pub calls_keep_consistent : (cs : List Call) (e : Environment) → Follows cs empty e → IsConsistent e.funs e.sorts
calls_keep_consistent cs e f = consistent_follows cs empty e consistent_none f

-- what a look-up finds is there
live_if_found : {X : Type 0} (name : ℕ) (x : X) (ds : List (ℕ × X)) → lookup (is_name name) ds ≡ Some x → Contains ds (name, x)
live_if_found name x [] e = cc
live_if_found name x (d ∷ ds) e = by (is_name name d.0) refl (live_if_found name x ds)
  where
    by : (b : Bool) → is_name name d.0 ≡ b → (lookup (is_name name) ds ≡ Some x → Contains ds (name, x)) → Contains (d ∷ ds) (name, x)
    by true t rest =
        let here : Some d.1 ≡ Some x = sym (ap (λ b. cond b (Some d.1) (lookup (is_name name) ds)) t) ∙ e in
        let v : d.1 ≡ x = cc in
        let n : d.0 ≡ name = sym (eqb-true name d.0 t) in
        (0, omega arith, ap (λ m. (m, d.1)) n ∙ ap (λ y. (name, y)) v)
    by false f rest =
        let h = rest (sym (ap (λ b. cond b (Some d.1) (lookup (is_name name) ds)) f) ∙ e) in
        (suc h.0, omega (arith, h.1), h.2)

found_counts : {X : Type 0} (name : ℕ) (x : X) (ds : List (ℕ × X)) → lookup (is_name name) ds ≡ Some x → 1 ≤ count_of name ds
found_counts name x [] e = cc
found_counts name x (d ∷ ds) e = grind (arith, found_counts name x ds)

found_first : {X : Type 0} (name : ℕ) (x : X) (d : ℕ × X) (ds : List (ℕ × X)) → d ≡ (name, x) → lookup (is_name name) (d ∷ ds) ≡ Some x
found_first name x d ds e = let n : d.0 ≡ name = ap (λ z. z.0) e in let v : d.1 ≡ x = ap (λ z. z.1) e in grind arith

found_later : {X : Type 0} (name : ℕ) (x : X) (d : ℕ × X) (ds : List (ℕ × X)) → count_of name (d ∷ ds) ≤ 1 → lookup (is_name name) ds ≡ Some x → lookup (is_name name) (d ∷ ds) ≡ Some x
found_later name x d ds l e = let c = found_counts name x ds e in grind arith

found_at : {X : Type 0} (name : ℕ) (x : X) (ds : List (ℕ × X)) (k : ℕ) → count_of name ds ≤ 1 → k < length ds → get_or ds k (name, x) ≡ (name, x) → lookup (is_name name) ds ≡ Some x
found_at name x [] k c l e = absurd (omega arith)
found_at name x (d ∷ ds) zero c l e = found_first name x d ds e
found_at name x (d ∷ ds) (suc k) c l e = found_later name x d ds c (found_at name x ds k (omega (arith, c)) (omega arith) e)

pub found_is_live : {X : Type 0} (name : ℕ) (x : X) (ds : List (ℕ × X)) → HasDistinctNames ds → (lookup (is_name name) ds ≡ Some x) ↔ Contains ds (name, x)
found_is_live name x ds h = (live_if_found name x ds, λ c. found_at name x ds c.0 (h.once name) c.1 c.2)
