use Rattle.std.proofs.Common.{◌≡◌, length}
use Rattle.typer.specs.Declarations.{declarations_of}
use Rattle.typer.specs.FunctionSymbols.{signature_of}
use Rattle.typer.specs.Ready.{IsReady}
use Rattle.datatype_commands.specs.Answers.{HaveNames, OnlyScopesChange, sort_decs_left}
use Rattle.datatype_commands.specs.GroupRules.{judge_symbols, with_symbols}
use Rattle.datatype_commands.proofs.TakingLists.{Onward}
use Rattle.datatype_commands.proofs.symbols.symbols_of.Given as goal

-- what the declarations that are left lead to after those so far, all lead to, and the symbols so far are live
abbrev pub invariant-loop-next : goal.invariant-loop-next
invariant-loop-next l = record {
  onward : Onward (judge_symbols (signature_of l.fn.world) l.first l.raws) (judge_symbols (signature_of l.world) l.number (sort_decs_left l.next)) l.symbols;
  effect : declarations_of l.world.scopes ≡ with_symbols (declarations_of l.fn.world.scopes) l.symbols;
  named : HaveNames l.world.names (sort_decs_left l.next);
  others : OnlyScopesChange l.fn.world l.world;
  ready : IsReady l.world;
}

abbrev pub decreases-loop-next : goal.decreases-loop-next
decreases-loop-next l = length (sort_decs_left l.next)
