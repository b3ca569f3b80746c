use Rattle.std.proofs.Common.{◌≡◌, map, take}
use Rattle.typer.specs.declared.typed.TypedBinding.{TypedBinding}
use Rattle.typer.proofs.binders.values_of.Given as goal

abbrev pub invariant-loop-binding : goal.invariant-loop-binding
invariant-loop-binding l = l.values.items ≡ map (λ (b : TypedBinding). b.value.term) (take l.binding-index l.bindings)
