-- What each call leaves of the scopes, by trees: the same operation on their declarations.
use Rattle.std.proofs.Common.{◌≡◌, ℕ, zero, suc, ◌-◌, Bool, true, false, ◌||◌, Bor, List, [], ◌∷◌, ◌++◌, map, length, take, replicate, Option, Some, None, IsSome, ◌↔◌, refl, ap, sym, ◌∙◌}
use Rattle.std.specs.Option.{option_map, option_copied, is_some}
use Rattle.std.specs.List.{take-map}
use Rattle.std.specs.Map.{lookup}
use Rattle.std.proofs.lemmas.List.{map-append, length-map}
use Rattle.std.proofs.lemmas.Map.Made.{lookup-map_values}
use Rattle.scope_stack.specs.declared.entry.FunEntry.{FunEntry}
use Rattle.scope_stack.specs.declared.entry.SortEntry.{SortEntry}
use Rattle.scope_stack.specs.Levels.{Levels, levels_of, joined, live, found, is_name, add_last, with_last, declared, opened, closed}
use Rattle.scope_stack.specs.Environment as scopes
use Rattle.scope_stack.specs.Environment.{Environment}
use Rattle.typer.specs.Declarations.{SortDeclaration, FunDeclaration, Declarations, no_declarations, depth, with_fun, with_sort, with_global, with_pushed, with_popped, without_assertions, map_declaration, map_levels, sort_declaration, fun_declaration, declarations_of}

module _ {X Y : Type 0} (f : X → Y) where
  abbrev each : List (ℕ × X) → List (ℕ × Y)
  each ds = map (map_declaration f) ds

  each_level : (ls : List (List (ℕ × X))) → joined (map each ls) ≡ each (joined ls)
  each_level [] = refl
  each_level (l ∷ ls) = ap (λ z. each l ++ z) (each_level ls) ∙ sym (map-append (map_declaration f) l (joined ls))

  live_mapped : (s : Levels X) → live (map_levels f s) ≡ each (live s)
  live_mapped s =
      ap (λ z. each s.first ++ z ++ each s.globals) (each_level s.pushed) ∙ ap (λ z. z ++ each s.globals) (sym (map-append (map_declaration f) s.first (joined s.pushed)))
      ∙ sym (map-append (map_declaration f) (s.first ++ joined s.pushed) s.globals)

  -- what a name stands for
  pub found_mapped : (name : ℕ) (s : Levels X) → found name (map_levels f s) ≡ option_map f (found name s)
  found_mapped name s = ap (lookup (is_name name)) (live_mapped s) ∙ lookup-map_values f (is_name name) (live s)

  added : (d : ℕ × X) (l : List (ℕ × X)) (ls : List (List (ℕ × X))) → map each (add_last d l ls) ≡ add_last (map_declaration f d) (each l) (map each ls)
  added d l [] = ap (λ z. z ∷ []) (map-append (map_declaration f) l (d ∷ []))
  added d l (m ∷ ls) = ap (λ z. each l ∷ z) (added d m ls)

  last_mapped : (d : ℕ × X) (first : List (ℕ × X)) (pushed : List (List (ℕ × X))) (globals : List (ℕ × X))
      → map_levels f (with_last d first pushed globals) ≡ with_last (map_declaration f d) (each first) (map each pushed) (each globals)
  last_mapped d first [] globals = ap (λ z. levels_of z [] (each globals)) (map-append (map_declaration f) first (d ∷ []))
  last_mapped d first (l ∷ ls) globals = ap (λ z. levels_of (each first) z (each globals)) (added d l ls)

  declared_mapped : (global : Bool) (d : ℕ × X) (s : Levels X) → map_levels f (declared global d s) ≡ declared global (map_declaration f d) (map_levels f s)
  declared_mapped true d s = ap (levels_of (each s.first) (map each s.pushed)) (map-append (map_declaration f) s.globals (d ∷ []))
  declared_mapped false d s = last_mapped d s.first s.pushed s.globals

  no_more : (n : ℕ) → map each (replicate n []) ≡ replicate n []
  no_more zero = refl
  no_more (suc n) = ap (λ z. [] ∷ z) (no_more n)

  opened_mapped : (n : ℕ) (s : Levels X) → map_levels f (opened n s) ≡ opened n (map_levels f s)
  opened_mapped n s = ap (λ z. levels_of (each s.first) z (each s.globals)) (map-append each s.pushed (replicate n []) ∙ ap (λ z. map each s.pushed ++ z) (no_more n))

  closed_mapped : (n : ℕ) (s : Levels X) → map_levels f (closed n s) ≡ closed n (map_levels f s)
  closed_mapped n s =
      ap (λ z. levels_of (each s.first) z (each s.globals)) (sym (take-map each (length s.pushed - n) s.pushed) ∙ ap (λ m. take (m - n) (map each s.pushed)) (sym (length-map s.pushed each)))

abbrev joined_of : Bool → Levels FunDeclaration → Levels SortDeclaration → Declarations
joined_of global funs sorts = record { funs = funs; sorts = sorts; global = global }

pub fun_found : (name : ℕ) (e : Environment) → found name (declarations_of e).funs ≡ option_map fun_declaration (found name e.funs)
fun_found name e = found_mapped fun_declaration name e.funs

pub sort_found : (name : ℕ) (e : Environment) → found name (declarations_of e).sorts ≡ option_map sort_declaration (found name e.sorts)
sort_found name e = found_mapped sort_declaration name e.sorts

-- a name is live by trees exactly where it is live
is_some_map : {X Y : Type 0} (f : X → Y) (o : Option X) → is_some (option_map f o) ≡ is_some o
is_some_map f (Some x) = refl
is_some_map f None = refl

pub fun_live : (name : ℕ) (e : Environment) → is_some (found name (declarations_of e).funs) ≡ is_some (found name e.funs)
fun_live name e = ap is_some (fun_found name e) ∙ is_some_map fun_declaration (found name e.funs)

pub sort_live : (name : ℕ) (e : Environment) → is_some (found name (declarations_of e).sorts) ≡ is_some (found name e.sorts)
sort_live name e = ap is_some (sort_found name e) ∙ is_some_map sort_declaration (found name e.sorts)

pub fun_in_use : (name : ℕ) (e : Environment) → IsSome (found name (declarations_of e).funs) ↔ IsSome (found name e.funs)
fun_in_use name e = (λ h. sym (fun_live name e) ∙ h, λ h. fun_live name e ∙ h)

pub sort_in_use : (name : ℕ) (e : Environment) → IsSome (found name (declarations_of e).sorts) ↔ IsSome (found name e.sorts)
sort_in_use name e = (λ h. sym (sort_live name e) ∙ h, λ h. sort_live name e ∙ h)

-- a look-up that is copied, and what is in use where a first test fails
pub copied_live : {X : Type 0} (o : Option (Bor X)) → is_some o ≡ is_some (option_copied o)
copied_live (Some x) = refl
copied_live None = refl

pub second_of : (a b r : Bool) → a ≡ false → r ≡ b → r ≡ (a || b)
second_of a b r e f = f ∙ ap (λ z. z || b) (sym e)

pub empty_by_trees : declarations_of scopes.empty ≡ no_declarations
empty_by_trees = refl

pub depth_by_trees : (e : Environment) → depth (declarations_of e) ≡ scopes.depth e
depth_by_trees e = length-map e.funs.pushed _

pub fun_by_trees : (name : ℕ) (d : FunEntry) (e : Environment) → declarations_of (scopes.with_fun name d e) ≡ with_fun name (fun_declaration d) (declarations_of e)
fun_by_trees name d e = ap (λ z. joined_of e.global z (declarations_of e).sorts) (declared_mapped fun_declaration e.global (name, d) e.funs)

pub sort_by_trees : (name : ℕ) (d : SortEntry) (e : Environment) → declarations_of (scopes.with_sort name d e) ≡ with_sort name (sort_declaration d) (declarations_of e)
sort_by_trees name d e = ap (joined_of e.global (declarations_of e).funs) (declared_mapped sort_declaration e.global (name, d) e.sorts)

pub global_by_trees : (on : Bool) (e : Environment) → declarations_of (scopes.with_global on e) ≡ with_global on (declarations_of e)
global_by_trees on e = refl

pub pushed_by_trees : (n : ℕ) (e : Environment) → declarations_of (scopes.with_pushed n e) ≡ with_pushed n (declarations_of e)
pushed_by_trees n e =
    ap (λ z. joined_of e.global z (map_levels sort_declaration (opened n e.sorts))) (opened_mapped fun_declaration n e.funs)
    ∙ ap (joined_of e.global (opened n (declarations_of e).funs)) (opened_mapped sort_declaration n e.sorts)

pub popped_by_trees : (n : ℕ) (e : Environment) → declarations_of (scopes.with_popped n e) ≡ with_popped n (declarations_of e)
popped_by_trees n e =
    ap (λ z. joined_of e.global z (map_levels sort_declaration (closed n e.sorts))) (closed_mapped fun_declaration n e.funs)
    ∙ ap (joined_of e.global (closed n (declarations_of e).funs)) (closed_mapped sort_declaration n e.sorts)

pub globals_by_trees : (e : Environment) → declarations_of (scopes.without_assertions e) ≡ without_assertions (declarations_of e)
globals_by_trees e = refl

pub ruleset by_trees = (fun_in_use, sort_in_use, depth_by_trees, fun_by_trees, sort_by_trees, global_by_trees, pushed_by_trees, popped_by_trees, globals_by_trees)
