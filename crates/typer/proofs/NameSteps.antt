-- What a name stands for, and what that says of a sort with this name.
use Rattle.std.proofs.Common.{◌≡◌, ℕ, zero, suc, ◌==◌, true, List, [], ◌∷◌, Option, Some, None, Result, Ok, Err, refl, ap, ◌∙◌, arith, inl, inr, subst, sym, rules}
use Rattle.std.specs.Option.{option_map}
use Rattle.std.specs.List.{All, position}
use Rattle.std.specs.Map.{lookup}
use Rattle.std.proofs.lemmas.Bool.{cases_Bool}
use Rattle.sig_table.specs.declared.code.Code.TheVariants.{UnknownSort}
use Rattle.sort_store.specs.declared.head.Head.{Head}
use Rattle.sort_store.specs.declared.head.Head.TheVariants as head
use Rattle.sort_store.specs.Tree.{Sort, sort, SortList, no_sorts, more_sorts, NumberedSort, tree}
use Rattle.sort_store.specs.Instance.{param_of, IsBelow, ParamsBelow, EachParamsBelow}
use Rattle.scope_stack.specs.declared.entry.FunEntry.{FunEntry}
use Rattle.scope_stack.specs.declared.entry.SortEntry.{SortEntry}
use Rattle.scope_stack.specs.declared.entry.SortEntry.TheVariants as entry
use Rattle.scope_stack.specs.Levels.{found, is_name, live}
use Rattle.dt_rules.specs.declared.error.TyError.{TyError}
use Rattle.dt_rules.specs.declared.error.TyError.TheVariants as error
use Rattle.typer.specs.declared.world.World.{World}
use Rattle.typer.specs.Declarations.{sort_declaration, declarations_of}
use Rattle.typer.specs.Answers.{Answers}
use Rattle.typer.specs.Ready.{IsReady, IsReadySort, IsReadyFunEntry, IsReadyHead, IsReadyTree, AreReadyTrees}
use Rattle.typer.specs.SortSymbols.{Meaning, symbol_of, theory_symbol, declared_symbol, meaning, or_else}
use Rattle.typer.specs.SortRules.{judge_meaning, judge_name}
use Rattle.typer.proofs.DeclarationsByTrees.{sort_found}

same_name : (m n : ℕ) → is_name m n ≡ true → m ≡ n
same_name m n e = search (rules, e)

module _ {X : Type 0} (P : ℕ × X → Type 0) (name : ℕ) where
  pub lookup_all : (xs : List (ℕ × X)) (v : X) → All P xs → lookup (is_name name) xs ≡ Some v → P (name, v)
  lookup_all [] v h e = cc
  lookup_all (x ∷ xs) v h e = elim (cases_Bool (is_name name x.0)) [
    | inl same ↦ (let s : x.1 ≡ v = cc in subst (λ z. P (name, z)) s (subst (λ n. P (n, x.1)) (sym (same_name name x.0 same)) (h zero x (omega arith))))
    | inr other ↦ lookup_all xs v (λ k d l. h (suc k) d (omega (arith, l))) (let s : lookup (is_name name) xs ≡ Some v = cc in s)
  ]

-- what is live is as its world keeps it
pub sort_kept : (world : World) (name : ℕ) (d : SortEntry) → IsReady world → found name world.scopes.sorts ≡ Some d → IsReadySort world.names world.theories world.sorts (name, d)
sort_kept world name d ready e = lookup_all (IsReadySort world.names world.theories world.sorts) name (live world.scopes.sorts) d ready.sorts e

pub fun_kept : (world : World) (name : ℕ) (f : FunEntry) → IsReady world → found name world.scopes.funs ≡ Some f → IsReadyFunEntry world.sorts f
fun_kept world name f ready e = lookup_all (λ (d : ℕ × FunEntry). IsReadyFunEntry world.sorts d.1) name (live world.scopes.funs) f ready.funs e

mutual
  pub params_below : (texts : List (List ℕ)) (params : ℕ) (t : Sort) → IsReadyTree texts params t → ParamsBelow params t
  params_below texts params (sort h ts) r = (head_below h r.0, each_below texts params ts r.1)
    where
      head_below : (h : Head) → IsReadyHead texts params h → IsBelow params (param_of h)
      head_below (head.Param i) r = r
      head_below head.Bool r = tt
      head_below head.Int r = tt
      head_below head.Array r = tt
      head_below (head.BitVec m) r = tt
      head_below (head.Free number name) r = tt
      head_below (head.Data number name) r = tt

  each_below : (texts : List (List ℕ)) (params : ℕ) (ts : SortList) → AreReadyTrees texts params ts → EachParamsBelow params ts
  each_below texts params no_sorts r = tt
  each_below texts params (more_sorts t ts) r = (params_below texts params t r.0, each_below texts params ts r.1)

-- a live defined sort has no parameter past its count
pub ready_found : (world : World) (name params : ℕ) (r : NumberedSort) → IsReady world → found name world.scopes.sorts ≡ Some (entry.Defined params r) → ParamsBelow params (tree r)
ready_found world name params r ready e = params_below world.names params (tree r) (sort_kept world name (entry.Defined params r) ready e).entry.ready

module _ (world : World) (params : List ℕ) (name : ℕ) where
  abbrev meant : Option Meaning
  meant = meaning world.names (declarations_of world.scopes) world.theories params name

  abbrev of_theory : Option Meaning
  of_theory = theory_symbol world.names world.theories name

  abbrev of_scopes : Option Meaning
  of_scopes = option_map (declared_symbol name) (found name (declarations_of world.scopes).sorts)

  abbrev position_of : Option ℕ
  position_of = position (λ p. p == name) params

  abbrev from_position : Option ℕ → Option Meaning
  from_position o = or_else (option_map (λ i. symbol_of (head.Param i) 0) o) (or_else of_theory of_scopes)

  pub parameter_means : (i : ℕ) → position_of ≡ Some i → meant ≡ Some (symbol_of (head.Param i) 0)
  parameter_means i e = ap from_position e

  pub theory_means : (m : Meaning) → position_of ≡ None → of_theory ≡ Some m → meant ≡ Some m
  theory_means m e f = ap from_position e ∙ ap (λ z. or_else z of_scopes) f

  pub live_means : (d : Option SortEntry) → position_of ≡ None → of_theory ≡ None → found name world.scopes.sorts ≡ d → meant ≡ option_map (declared_symbol name) (option_map sort_declaration d)
  live_means d e f g = ap from_position e ∙ ap (λ z. or_else z of_scopes) f ∙ ap (option_map (declared_symbol name)) (sort_found name world.scopes ∙ ap (option_map sort_declaration) g)

  pub name_step : (at : ℕ) (args : List Sort) (m : Meaning) (r : Result Sort TyError) → meant ≡ Some m
      → Answers r (judge_meaning world.names params at args m) → Answers r (judge_name world.names (declarations_of world.scopes) world.theories params at args name)
  name_step at args m (Ok t) e h = λ before. (m, before, (e, refl), h before)
  name_step at args m (Err (error.Fault place)) e h = λ before. inr (m, before, (e, refl), h before)
  name_step at args m (Err error.NoMemory) e h = tt

  pub name_unknown : (at : ℕ) (args : List Sort) → meant ≡ None → Answers {A = Sort} (Err (error.Fault (record { code = UnknownSort; at = at }))) (judge_name world.names (declarations_of world.scopes) world.theories params at args name)
  name_unknown at args e before = inl (never, refl)
    where
      never : (m : Meaning) → meant ≡ Some m → ⊥
      never m f = cc
