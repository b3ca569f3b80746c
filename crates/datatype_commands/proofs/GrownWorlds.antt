-- What stays as it was where the sorts of a world have grown.
use Rattle.std.proofs.Common.{◌≡◌, ℕ, List, [], ◌∷◌, ◌++◌, length, slice_index_or, refl, ap, sym, ◌∙◌, subst}
use Rattle.std.specs.List.{All}
use Rattle.std.proofs.lemmas.List.Elements.{All-push}
use Rattle.sort_store.proofs.GrownStores.{grows_more, grows_none}
use Rattle.term_store.specs.declared.command.Constructor.{Constructor}
use Rattle.term_store.specs.declared.command.Datatype.{Datatype}
use Rattle.term_store.specs.declared.command.Field.{Field}
use Rattle.typer.specs.FunctionSymbols.{signature_of}
use Rattle.typer.specs.Ready.{IsReadySchema}
use Rattle.typer.specs.declared.world.World.{World}
use Rattle.typer.proofs.ReadyKept.{schema_grown}
use Rattle.datatype_commands.specs.Answers.{AreReadyParts, HasReadyParts, IsReadyPart, OnlySortsGrow}

pub same_signature : (old new : World) → OnlySortsGrow old new → signature_of new ≡ signature_of old
same_signature old new g = ap signature_of g.others

pub same_world : (world : World) → OnlySortsGrow world world
same_world world = record { others = refl; grows = grows_none world.sorts }

pub grown_more : (old mid new : World) → OnlySortsGrow old mid → OnlySortsGrow mid new → OnlySortsGrow old new
grown_more old mid new g k = record {
  others = k.others ∙ ap (λ (w : World). record w { sorts = new.sorts }) g.others;
  grows = grows_more old.sorts mid.sorts new.sorts g.grows k.grows;
}

-- a field that may stand in a declaration still may, and so may all
pub part_grown : (old new : World) (count : ℕ) (f : Field) → OnlySortsGrow old new → IsReadyPart old count f → IsReadyPart new count f
part_grown old new count f g ready =
    subst (λ (ns : List (List ℕ)). IsReadySchema ns new.sorts count f.sort) (sym (ap (λ (w : World). w.names) g.others)) (schema_grown old.names old.sorts new.sorts g.grows count f.sort ready)

pub parts_grown : (old new : World) (count : ℕ) (fs : List Field) → OnlySortsGrow old new → All (IsReadyPart old count) fs → All (IsReadyPart new count) fs
parts_grown old new count fs g ready k d l = part_grown old new count (slice_index_or fs k d) g (ready k d l)

pub constructors_grown : (old new : World) (count : ℕ) (cs : List Constructor) → OnlySortsGrow old new → All (AreReadyParts old count) cs → All (AreReadyParts new count) cs
constructors_grown old new count cs g ready k d l = parts_grown old new count (slice_index_or cs k d).fields g (ready k d l)

pub datatypes_grown : (old new : World) (ts : List Datatype) → OnlySortsGrow old new → All (HasReadyParts old) ts → All (HasReadyParts new) ts
datatypes_grown old new ts g ready k d l = constructors_grown old new (length (slice_index_or ts k d).params) (slice_index_or ts k d).constructors g (ready k d l)

-- one more after those so far
pub one_more_ready : {X : Type 0} (P Q : X → Type 0) (made new : List X) (x : X) → ((xs : List X) → All P xs → All Q xs) → All P made → Q x → new ≡ made ++ x ∷ [] → All Q new
one_more_ready {X} P Q made new x grown ready one put = subst (λ (xs : List X). All Q xs) (sym put) (All-push Q made x (grown made ready) one)
