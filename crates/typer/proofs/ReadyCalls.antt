-- A world stays ready through the calls that change its names or its scopes.
use Rattle.std.proofs.Common.{◌≡◌, ℕ, zero, suc, ◌<◌, ◌≤◌, Bool, false, List, [], ◌∷◌, ◌++◌, length, slice_index_or, arith, refl, ap, sym, ◌∙◌, subst, length-append}
use Rattle.std.specs.List.{All}
use Rattle.lex_core.specs.LexerCalls.{ExtendsTable}
use Rattle.sig_table.specs.declared.theories.Theories.{Theories}
use Rattle.sort_store.specs.declared.head.Head.{Head}
use Rattle.sort_store.specs.declared.head.Head.TheVariants as head
use Rattle.sort_store.specs.Tree.{Sort, sort, SortList, no_sorts, more_sorts, NumberedSort, tree}
use Rattle.sort_store.specs.Interned.{HasNoRepeats}
use Rattle.scope_stack.specs.declared.entry.FunEntry.{FunEntry}
use Rattle.scope_stack.specs.declared.entry.SortEntry.{SortEntry}
use Rattle.scope_stack.specs.declared.entry.SortEntry.TheVariants as entry
use Rattle.scope_stack.specs.Levels.{live}
use Rattle.scope_stack.specs.Environment.{Environment, empty, with_fun, with_sort, with_global, with_pushed, with_popped, without_assertions}
use Rattle.typer.specs.declared.world.World.{World}
use Rattle.typer.specs.SortSymbols.{is_theory_text, is_theory_sort}
use Rattle.typer.specs.Ready.{IsReadyHead, IsReadyTree, AreReadyTrees, IsReadySchema, IsReadySortEntry, IsReadyFunEntry, IsReadySort, IsReadyDatatype, IsReady, may_have_params}
use Rattle.term_store.specs.Script.{empty_script}
use Rattle.typer.specs.FunctionSymbols.{datatypes_of}
use Rattle.typer.proofs.HeadSteps.{schemas_below, schemas_interned}
use Rattle.typer.proofs.NameSteps.{params_below}
use Rattle.typer.proofs.LiveDeclarations.{Each, each_of_all, all_of_each, each_declared, each_opened, each_closed, each_global}

abbrev with_scopes : Environment → World → World
with_scopes scopes world = record world { scopes = scopes }

module _ (world : World) (ready : IsReady world) where
  abbrev OfSort : ℕ × SortEntry → Type 0
  OfSort = IsReadySort world.names world.theories world.sorts

  abbrev OfFun : ℕ × FunEntry → Type 0
  OfFun d = IsReadyFunEntry world.sorts d.1

  sorts_each : Each OfSort (live world.scopes.sorts)
  sorts_each = each_of_all OfSort (live world.scopes.sorts) ready.sorts

  funs_each : Each OfFun (live world.scopes.funs)
  funs_each = each_of_all OfFun (live world.scopes.funs) ready.funs

  ready_with : (scopes : Environment) → Each OfSort (live scopes.sorts) → Each OfFun (live scopes.funs) → IsReady (with_scopes scopes world)
  ready_with scopes h k = record { distinct = ready.distinct; sorts = all_of_each OfSort (live scopes.sorts) h; funs = all_of_each OfFun (live scopes.funs) k; datatypes = ready.datatypes; numbered = ready.numbered }

  pub ready_with_sort : (name : ℕ) (d : SortEntry) → IsReadySort world.names world.theories world.sorts (name, d) → IsReady (with_scopes (with_sort name d world.scopes) world)
  ready_with_sort name d h = ready_with (with_sort name d world.scopes) (each_declared OfSort world.scopes.global (name, d) world.scopes.sorts h sorts_each) funs_each

  pub ready_with_fun : (name : ℕ) (d : FunEntry) → IsReadyFunEntry world.sorts d → IsReady (with_scopes (with_fun name d world.scopes) world)
  ready_with_fun name d h = ready_with (with_fun name d world.scopes) sorts_each (each_declared OfFun world.scopes.global (name, d) world.scopes.funs h funs_each)

  pub ready_with_global : (on : Bool) → IsReady (with_scopes (with_global on world.scopes) world)
  ready_with_global on = ready_with (with_global on world.scopes) sorts_each funs_each

  pub ready_with_pushed : (n : ℕ) → IsReady (with_scopes (with_pushed n world.scopes) world)
  ready_with_pushed n = ready_with (with_pushed n world.scopes) (each_opened OfSort n world.scopes.sorts sorts_each) (each_opened OfFun n world.scopes.funs funs_each)

  pub ready_with_popped : (n : ℕ) → IsReady (with_scopes (with_popped n world.scopes) world)
  ready_with_popped n = ready_with (with_popped n world.scopes) (each_closed OfSort n world.scopes.sorts sorts_each) (each_closed OfFun n world.scopes.funs funs_each)

  pub ready_without_assertions : IsReady (with_scopes (without_assertions world.scopes) world)
  ready_without_assertions = ready_with (without_assertions world.scopes) (each_global OfSort world.scopes.sorts sorts_each) (each_global OfFun world.scopes.funs funs_each)

-- where nothing is declared, the theories may be any
pub ready_empty : (world : World) → world.scopes ≡ empty → HasNoRepeats world.sorts → All IsReadyDatatype (datatypes_of world.script) → length world.seen.items ≤ world.next.0 → IsReady world
ready_empty world e distinct datatypes numbered = record {
  distinct = distinct;
  sorts = subst (λ s. All (IsReadySort world.names world.theories world.sorts) (live s.sorts)) (sym e) (all_of_each _ [] tt);
  funs = subst (λ s. All (λ (d : ℕ × FunEntry). IsReadyFunEntry world.sorts d.1) (live s.funs)) (sym e) (all_of_each _ [] tt);
  datatypes = datatypes;
  numbered = numbered;
}

-- no datatype is kept
pub none_kept : (world : World) → world.script ≡ empty_script → All IsReadyDatatype (datatypes_of world.script)
none_kept world e = subst (λ z. All IsReadyDatatype (datatypes_of z)) (sym e) (λ k d l. absurd (omega (arith, l)))

-- no name is declared
pub none_numbered : (world : World) → world.seen.items ≡ [] → length world.seen.items ≤ world.next.0
none_numbered world e = omega (arith, ap length e)

-- a live function whose sorts may stand in a declaration
pub fun_of_schemas : (texts : List (List ℕ)) (store : List Sort) (f : FunEntry) → All (IsReadySchema texts store f.params) f.args → IsReadySchema texts store f.params f.result → (may_have_params f.kind ≡ false → f.params ≡ 0) → IsReadyFunEntry store f
fun_of_schemas texts store f args result none = record {
  entry = record {
    args = schemas_interned texts store f.params f.args args;
    result = result.interned;
    below = λ n. (schemas_below texts store f.params f.args args, params_below texts f.params (tree f.result) result.ready);
  };
  params = none;
}

-- a table that gains texts
module _ (texts more : List (List ℕ)) where
  index_left : (ts us : List (List ℕ)) (n : ℕ) → n < length ts → slice_index_or (ts ++ us) n [] ≡ slice_index_or ts n []
  index_left [] us n l = absurd (omega (arith, l))
  index_left (t ∷ ts) us zero l = refl
  index_left (t ∷ ts) us (suc n) l = index_left ts us n (omega (arith, l))

  longer : (n : ℕ) → n < length texts → n < length (texts ++ more)
  longer n l = omega (arith, l, length-append texts more)

  theory_sort_kept : (theories : Theories) (n : ℕ) → n < length texts → is_theory_sort texts theories n ≡ false → is_theory_sort (texts ++ more) theories n ≡ false
  theory_sort_kept theories n l e = ap (is_theory_text theories) (index_left texts more n l) ∙ e

  head_kept : (params : ℕ) (h : Head) → IsReadyHead texts params h → IsReadyHead (texts ++ more) params h
  head_kept params head.Bool r = tt
  head_kept params head.Int r = tt
  head_kept params head.Array r = tt
  head_kept params (head.BitVec m) r = tt
  head_kept params (head.Free number name) r = longer name r
  head_kept params (head.Data number name) r = longer name r
  head_kept params (head.Param i) r = r

  mutual
    tree_kept : (params : ℕ) (t : Sort) → IsReadyTree texts params t → IsReadyTree (texts ++ more) params t
    tree_kept params (sort h ts) r = (head_kept params h r.0, trees_kept params ts r.1)

    trees_kept : (params : ℕ) (ts : SortList) → AreReadyTrees texts params ts → AreReadyTrees (texts ++ more) params ts
    trees_kept params no_sorts r = tt
    trees_kept params (more_sorts t ts) r = (tree_kept params t r.0, trees_kept params ts r.1)

  schema_kept : (store : List Sort) (params : ℕ) (r : NumberedSort) → IsReadySchema texts store params r → IsReadySchema (texts ++ more) store params r
  schema_kept store params r h = record { interned = h.interned; ready = tree_kept params (tree r) h.ready }

  entry_kept : (store : List Sort) (d : SortEntry) → IsReadySortEntry texts store d → IsReadySortEntry (texts ++ more) store d
  entry_kept store (entry.Free number arity) h = h
  entry_kept store (entry.Data number arity) h = h
  entry_kept store (entry.Defined params body) h = schema_kept store params body h

abbrev with_names : List (List ℕ) → World → World
with_names texts world = record world { names = texts }

pub ready_with_names : (world : World) (texts : List (List ℕ)) → ExtendsTable world.names texts → IsReady world → IsReady (with_names texts world)
ready_with_names world texts (more, e) ready = subst (λ t. IsReady (with_names t world)) (sym e) (record {
  distinct = ready.distinct;
  sorts = λ k d l. (let h = ready.sorts k d l in
      record { name = longer world.names more _ h.name; no_theory_sort = theory_sort_kept world.names more world.theories _ h.name h.no_theory_sort; entry = entry_kept world.names more world.sorts _ h.entry });
  funs = ready.funs;
  datatypes = ready.datatypes;
  numbered = ready.numbered;
})

pub ready_declared : (world : World) (scopes : Environment) (name : ℕ) (d : SortEntry) → scopes ≡ with_sort name d world.scopes → IsReady world → name < length world.names
    → is_theory_sort world.names world.theories name ≡ false → IsReadySortEntry world.names world.sorts d → IsReady (record world { scopes = scopes })
ready_declared world scopes name d e ready l free h =
    subst (λ s. IsReady (with_scopes s world)) (sym e) (ready_with_sort world ready name d (record { name = l; no_theory_sort = free; entry = h }))

pub ready_stays : (world : World) (scopes : Environment) → scopes ≡ world.scopes → IsReady world → IsReady (record world { scopes = scopes })
ready_stays world scopes e ready = subst (λ s. IsReady (with_scopes s world)) (sym e) ready

-- a store of no sorts
pub no_repeats_of_none : HasNoRepeats []
no_repeats_of_none = record { distinct = λ i j t e f. cc }

pub ruleset ready_calls = (ready_declared, ready_stays, ready_with_names, ready_empty, none_kept, none_numbered, no_repeats_of_none)
