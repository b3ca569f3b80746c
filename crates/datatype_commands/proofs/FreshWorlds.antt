-- A world without declarations knows no datatype.
use Rattle.std.proofs.Common.{◌≡◌, ◌<◌, [], arith, subst, sym}
use Rattle.std.specs.List.{All}
use Rattle.scope_stack.specs.Environment.{Environment, empty}
use Rattle.term_store.specs.Script.{Kept, empty_script}
use Rattle.term_store.specs.SoundScript.{IsSoundDatatype}
use Rattle.typer.specs.Declarations.{declarations_of}
use Rattle.typer.specs.FunctionSymbols.{datatypes_of, first_number, signature_of}
use Rattle.typer.specs.Soundness.{HasSoundSorts}
use Rattle.typer.specs.declared.world.World.{World}
use Rattle.datatype_commands.specs.KnownDatatypes.{KnowsDatatypes}

pub knows_none : (world : World) → world.scopes ≡ empty → world.script ≡ empty_script → KnowsDatatypes (signature_of world)
knows_none world e f = record {
  script = [];
  sorts = subst (λ (s : Environment). HasSoundSorts [] (declarations_of s)) (sym e) (λ k d l. absurd (omega (arith, l)));
  fields = subst (λ (z : Kept). All (IsSoundDatatype []) (datatypes_of z)) (sym f) (λ k d l. absurd (omega (arith, l)));
  kept = λ t has. absurd (omega (arith, has.1));
  below = subst (λ (z : Kept). All (λ t. t.no.0 < first_number world) (datatypes_of z)) (sym f) (λ k d l. absurd (omega (arith, l)));
}
