-- A scope stays ready through the commands that change it.
use Rattle.std.proofs.Common.{◌≡◌, ℕ, ◌<◌, ◌≤◌, Bool, true, false, List, [], length, Option, None, refl, sym, ◌∙◌, subst}
use Rattle.std.specs.Option.{IsSome, is_some}
use Rattle.logic_frag.specs.declared.logic.Logic.{Logic}
use Rattle.script_core.proofs.SetLogics.{under_logic}
use Rattle.std.specs.List.{All}
use Rattle.sig_table.specs.declared.theories.Theories.{Theories}
use Rattle.sort_store.specs.Interned.{AllInterned, Grows, HasNoRepeats, IsInterned}
use Rattle.sort_store.specs.Tree.{Sort}
use Rattle.scope_stack.specs.declared.entry.FunEntry.{FunEntry}
use Rattle.scope_stack.specs.declared.entry.SortEntry.{SortEntry}
use Rattle.scope_stack.specs.Environment.{Environment as Scopes}
use Rattle.scope_stack.specs.Environment as scopes
use Rattle.term_store.specs.Script.{Kept}
use Rattle.typer.specs.FunctionSymbols.{datatypes_of}
use Rattle.typer.specs.Ready.{IsReady, IsReadyDatatype, IsReadyFunEntry, IsReadySort, IsReadySortEntry}
use Rattle.typer.specs.SortSymbols.{is_theory_sort}
use Rattle.typer.specs.declared.world.World.{World}
use Rattle.typer.proofs.LiveDeclarations.{all_of_each}
use Rattle.typer.proofs.ReadyKept.{grown}
use Rattle.typer.proofs.ReadyCalls.{ready_with_fun, ready_with_global, ready_with_popped, ready_with_pushed, ready_with_sort, ready_without_assertions}
use Rattle.script_core.specs.declared.scope.Scope.{Scope}
use Rattle.script_core.specs.Checking.{HasNone, IsReadyScope}

-- the world with other scopes
abbrev pub with_scopes : Scopes → Scope → Scope
with_scopes s scope = record scope { world = record scope.world { scopes = s } }

stands_under : (scope : Scope) → IsSome scope.logic → IsReady scope.world → IsReadyScope scope
stands_under scope set ready = record { ready = ready; undeclared = under_logic scope.logic set }

module _ (scope : Scope) (s : Scopes) (next : ℕ) (stands : IsReadyScope scope) (set : IsSome scope.logic) where
  abbrev after : Scope
  after = record (with_scopes s scope) { next = next }

  -- the scopes after a call are these, with which the world is ready
  stands_with : (t : Scopes) → s ≡ t → IsReady (record scope.world { scopes = t }) → IsReadyScope after
  stands_with t e ready = stands_under after set (subst (λ (x : Scopes). IsReady (record scope.world { scopes = x })) (sym e) ready)

  pub fun_stands : (name : ℕ) (d : FunEntry) → s ≡ scopes.with_fun name d scope.world.scopes → IsReadyFunEntry scope.world.sorts d → IsReadyScope after
  fun_stands name d e entry = stands_with _ e (ready_with_fun scope.world stands.ready name d entry)

  pub sort_stands : (name : ℕ) (d : SortEntry) → s ≡ scopes.with_sort name d scope.world.scopes → name < length scope.world.names
      → is_theory_sort scope.world.names scope.world.theories name ≡ false → IsReadySortEntry scope.world.names scope.world.sorts d → IsReadyScope after
  sort_stands name d e named free entry =
      stands_with _ e (ready_with_sort scope.world stands.ready name d (record { name = named; no_theory_sort = free; entry = entry }))

  pub pushed_stands : (n : ℕ) → s ≡ scopes.with_pushed n scope.world.scopes → IsReadyScope after
  pushed_stands n e = stands_with _ e (ready_with_pushed scope.world stands.ready n)

  pub popped_stands : (n : ℕ) → s ≡ scopes.with_popped n scope.world.scopes → IsReadyScope after
  popped_stands n e = stands_with _ e (ready_with_popped scope.world stands.ready n)

  pub forgotten_stands : s ≡ scopes.without_assertions scope.world.scopes → IsReadyScope after
  forgotten_stands e = stands_with _ e (ready_without_assertions scope.world stands.ready)

-- a world without declarations is ready under any theories
ready_undeclared : (world : World) → HasNone world.scopes → HasNoRepeats world.sorts → All IsReadyDatatype (datatypes_of world.script) → length world.seen.items ≤ world.next.0 → IsReady world
ready_undeclared world none distinct datatypes numbered = record {
  distinct = distinct;
  sorts = subst (λ (ds : List (ℕ × SortEntry)). All (IsReadySort world.names world.theories world.sorts) ds) (sym none.sorts) (all_of_each _ [] tt);
  funs = subst (λ (ds : List (ℕ × FunEntry)). All (λ (d : ℕ × FunEntry). IsReadyFunEntry world.sorts d.1) ds) (sym none.funs) (all_of_each _ [] tt);
  datatypes = datatypes;
  numbered = numbered;
}

abbrev pub under_theories : Theories → Option Logic → Scope → Scope
under_theories theories logic scope = record scope { world = record scope.world { theories = theories }; logic = logic }

-- a logic brings its theories
pub logic_stands : (scope : Scope) (theories : Theories) (logic : Option Logic) → IsReadyScope scope → is_some scope.logic ≡ false → IsReadyScope (under_theories theories logic scope)
logic_stands scope theories logic stands unset = record {
  ready = ready_undeclared (record scope.world { theories = theories }) (stands.undeclared unset) stands.ready.distinct stands.ready.datatypes stands.ready.numbered;
  undeclared = λ e. stands.undeclared unset;
}

pub none_in : (s : Scopes) → s ≡ scopes.empty → HasNone s
none_in s e = subst HasNone (sym e) (record { funs = refl; sorts = refl })

-- nothing is declared after reset, whatever the theories are
pub reset_stands : (scope : Scope) (s : Scopes) (theories : Theories) → IsReadyScope scope → s ≡ scopes.empty → IsReadyScope (under_theories theories None (with_scopes s scope))
reset_stands scope s theories stands e = record {
  ready = ready_undeclared (record scope.world { scopes = s; theories = theories }) (none_in s e) stands.ready.distinct stands.ready.datatypes stands.ready.numbered;
  undeclared = λ unset. none_in s e;
}

-- a flag declares nothing
pub option_stands : (scope : Scope) (s : Scopes) (on : Bool) → IsReadyScope scope → s ≡ scopes.with_global on scope.world.scopes → IsReadyScope (with_scopes s scope)
option_stands scope s on stands e = record {
  ready = subst (λ (x : Scopes). IsReady (record scope.world { scopes = x })) (sym e) (ready_with_global scope.world stands.ready on);
  undeclared = λ unset. subst HasNone (sym e) (record { funs = (stands.undeclared unset).funs; sorts = (stands.undeclared unset).sorts });
}

-- the world has made sorts and terms, and nothing else
pub grown_stands : (scope : Scope) (world : World) → IsReadyScope scope → world.scopes ≡ scope.world.scopes → IsReady world → IsReadyScope (record scope { world = world })
grown_stands scope world stands same ready = record { ready = ready; undeclared = λ unset. subst HasNone (sym same) (stands.undeclared unset) }

-- a world whose store alone has grown
abbrev pub with_store : List Sort → Scope → Scope
with_store store scope = record scope { world = record scope.world { sorts = store } }

pub store_stands : (scope : Scope) (store : List Sort) → IsReadyScope scope → Grows scope.world.sorts store → HasNoRepeats store → IsReadyScope (with_store store scope)
store_stands scope store stands g distinct = grown_stands scope (record scope.world { sorts = store }) stands refl (grown scope.world store g distinct stands.ready)

-- a constant is live whose sort the store has made
pub constant_stands : (scope : Scope) (store : List Sort) (s : Scopes) (next name : ℕ) (d : FunEntry) → IsReadyScope scope → IsSome scope.logic → Grows scope.world.sorts store → HasNoRepeats store
    → s ≡ scopes.with_fun name d scope.world.scopes → d.args ≡ [] → d.params ≡ 0 → IsInterned store d.result → IsReadyScope (record (with_scopes s (with_store store scope)) { next = next })
constant_stands scope store s next name d stands set g distinct e args params result =
    fun_stands (with_store store scope) s next (store_stands scope store stands g distinct) set name d e (record {
      entry = record { args = subst (AllInterned store) (sym args) tt; result = result; below = λ n. absurd (n params) };
      params = λ kind. params;
    })

-- the scopes are as they were
pub scopes_stand : (scope : Scope) (s : Scopes) → s ≡ scope.world.scopes → IsReadyScope scope → IsReadyScope (with_scopes s scope)
scopes_stand scope s same stands = subst (λ (x : Scopes). IsReadyScope (with_scopes x scope)) (sym same) stands

-- the script is another, with the same datatypes
pub script_stands : (scope : Scope) (script : Kept) → datatypes_of scope.world.script ≡ datatypes_of script → IsReadyScope scope → IsReadyScope (record scope { world = record scope.world { script = script } })
script_stands scope script same stands = record {
  ready = record {
    distinct = stands.ready.distinct;
    sorts = stands.ready.sorts;
    funs = stands.ready.funs;
    datatypes = subst (All IsReadyDatatype) same stands.ready.datatypes;
    numbered = stands.ready.numbered;
  };
  undeclared = stands.undeclared;
}
