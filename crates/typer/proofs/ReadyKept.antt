-- A world stays ready where its store of sorts alone has grown.
use Rattle.std.proofs.Common.{ℕ, List, subst, sym}
use Rattle.sort_store.specs.Tree.{Sort, NumberedSort}
use Rattle.sort_store.specs.Interned.{Grows, HasNoRepeats}
use Rattle.sort_store.proofs.GrownStores.{all_interned_grown, interned_grown}
use Rattle.scope_stack.specs.declared.entry.SortEntry.{SortEntry}
use Rattle.scope_stack.specs.declared.entry.SortEntry.TheVariants as entry
use Rattle.scope_stack.specs.declared.entry.FunEntry.{FunEntry}
use Rattle.typer.specs.declared.world.World.{World}
use Rattle.typer.specs.Ready.{IsReadySchema, IsReadySortEntry, IsReadyFunEntry, IsReady}
use Rattle.typer.proofs.SortSteps.{OthersStay}

module _ (texts : List (List ℕ)) (old new : List Sort) (grows : Grows old new) where
  pub schema_grown : (params : ℕ) (r : NumberedSort) → IsReadySchema texts old params r → IsReadySchema texts new params r
  schema_grown params r h = record { interned = interned_grown old new r grows h.interned; ready = h.ready }

  entry_grown : (d : SortEntry) → IsReadySortEntry texts old d → IsReadySortEntry texts new d
  entry_grown (entry.Free number arity) h = h
  entry_grown (entry.Data number arity) h = h
  entry_grown (entry.Defined params body) h = schema_grown params body h

  fun_grown : (f : FunEntry) → IsReadyFunEntry old f → IsReadyFunEntry new f
  fun_grown f h = record {
    entry = record { args = all_interned_grown old new f.args grows h.entry.args; result = interned_grown old new f.result grows h.entry.result; below = h.entry.below };
    params = h.params;
  }

pub grown : (world : World) (store : List Sort) → Grows world.sorts store → HasNoRepeats store → IsReady world → IsReady (record world { sorts = store })
grown world store g distinct ready = record {
  distinct = distinct;
  sorts = λ k d l. (let h = ready.sorts k d l in record { name = h.name; no_theory_sort = h.no_theory_sort; entry = entry_grown world.names world.sorts store g _ h.entry });
  funs = λ k d l. fun_grown world.names world.sorts store g _ (ready.funs k d l);
  datatypes = ready.datatypes;
  numbered = ready.numbered;
}

pub ready_kept : (old new : World) → OthersStay old new → Grows old.sorts new.sorts → HasNoRepeats new.sorts → IsReady old → IsReady new
ready_kept old new e g distinct ready = subst IsReady (sym e) (grown old new.sorts g distinct ready)

pub ruleset ready_words = (ready_kept, interned_grown)
