use Rattle.std.proofs.Common.{ℕ, List, length, map}
use Rattle.term_store.specs.Term.{plain_var}
use Rattle.typer.specs.FunctionSymbols.{signature_of}
use Rattle.typer.specs.Ready.{IsReady}
use Rattle.typer.specs.TermRules.{judge_variables}
use Rattle.typer.specs.Typed.{AreBound, HasGrown}
use Rattle.typer.proofs.ListSteps.{Onward}
use Rattle.typer.proofs.VariableSteps.{variables_left}
use Rattle.typer.proofs.binders.type_variables.Given as goal

abbrev pub invariant-loop-next : goal.invariant-loop-next
invariant-loop-next l = record {
  onward : (before : List ℕ) → Onward (judge_variables (signature_of l.fn.world)) l.raws (variables_left l.next) (map plain_var l.vars.items) before before;
  bound : AreBound l.world l.vars.items;
  grown : HasGrown l.fn.world l.world;
  ready : IsReady l.world;
}

abbrev pub decreases-loop-next : goal.decreases-loop-next
decreases-loop-next l = length (variables_left l.next)
