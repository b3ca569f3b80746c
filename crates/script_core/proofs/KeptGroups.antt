-- Datatypes that are kept one after the other.
use Rattle.std.proofs.Common.{◌≡◌, ℕ, ◌<◌, List, length, take, slice_index_or, sym, subst}
use Rattle.term_store.specs.Definitions.{IsUnused}
use Rattle.term_store.specs.Script.{Kept}
use Rattle.term_store.specs.declared.command.Datatype.{Datatype}
use Rattle.script_core.specs.Keeping.{EachDatatypeUnused, with_datatypes}

-- nothing is kept yet under the number of the next one
pub next_datatype_unused : (old script : Kept) (ts : List Datatype) (i : ℕ) (t copy : Datatype) → EachDatatypeUnused old.defs ts → script ≡ with_datatypes old (take i ts) → i < length ts → t ≡ slice_index_or ts i t → copy ≡ t → IsUnused script.defs copy.no
next_datatype_unused old script ts i t copy unused here few at same =
    subst (λ (k : Kept). IsUnused k.defs copy.no) (sym here) (subst (λ (x : Datatype). IsUnused (with_datatypes old (take i ts)).defs x.no) (sym same) (unused i t few at))
