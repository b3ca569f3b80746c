use Rattle.std.proofs.Common.{ap}
use Rattle.std.proofs.lemmas.Result.{err_from_is_err_and}
use Rattle.cmd_grammar.specs.DeclarationViews.{sort_dec_seen}
use Rattle.typer.specs.Declarations.{declarations_of}
use Rattle.typer.specs.FunctionSymbols.{signature_of}
use Rattle.datatype_commands.specs.Answers.{sort_decs_left}
use Rattle.datatype_commands.specs.GroupRules.{judge_symbols}
use Rattle.datatype_commands.proofs.TakingSymbols.{names_left, same_names, scopes_more, sort_decs_split, symbol_broken, symbol_taken, symbols_live, symbols_taken}
use Rattle.datatype_commands.proofs.symbols.symbols_of.Goals as goal

pub returns-in_err-symbol-clause-answer : goal.returns-in_err-symbol-clause-answer
returns-in_err-symbol-clause-answer c = let a = c.args in let l = c.loop-next in let p = err_from_is_err_and c.from_residual.result c.from_residual.ensures.1 in
    rw (p.1, p.2) (symbol_broken (judge_symbols (signature_of a.world.now) a.first a.raws.now) l.world l.number (sort_decs_left l.next) c.in-Some.rest (sort_dec_seen c.in-Some.raw) l.symbols (ap sort_decs_left c.in-Some.is)
    l.invariant.onward c.in_err-symbol.field-0.0 c.in_err-symbol.ensures.answer)

pub loop-next-preserved : goal.loop-next-preserved
loop-next-preserved c = let a = c.args in let l = c.loop-next in let s = c.in_ok-symbol.symbol in let new = c.symbol_of.new.world in let after = sort_decs_left c.split-next-in-Some.result in
    let next = sort_decs_split c.in-Some.rest c.split-next-in-Some.result c.split-next-in-Some.ensures in record {
      onward = symbol_taken (judge_symbols (signature_of a.world.now) a.first a.raws.now) l.world l.number (sort_decs_left l.next) c.in-Some.rest (sort_dec_seen c.in-Some.raw) l.symbols (ap sort_decs_left c.in-Some.is) l.invariant.onward
          new s c.push.new.self c.in-Some-checked_add.later after c.in_ok-symbol.ensures.answer c.symbol_of.ensures.others c.in_ok-symbol.ensures.effect c.in-Ok.ensures.ok c.in-Some-checked_add.ensures.1 next;
      effect = symbols_live (declarations_of a.world.now.scopes) (declarations_of l.world.scopes) (declarations_of new.scopes) l.symbols c.push.new.self s l.invariant.effect c.in_ok-symbol.ensures.effect c.in-Ok.ensures.ok;
      named = names_left (judge_symbols (signature_of a.world.now) a.first a.raws.now) l.world l.number (sort_decs_left l.next) c.in-Some.rest (sort_dec_seen c.in-Some.raw) l.symbols (ap sort_decs_left c.in-Some.is) l.invariant.onward
          l.world.names new.names after (same_names l.world new c.symbol_of.ensures.others) next l.invariant.named;
      others = scopes_more a.world.now l.world new l.invariant.others c.symbol_of.ensures.others;
      ready = c.symbol_of.ensures.ready;
    }

pub returns-clause-answer : goal.returns-clause-answer
returns-clause-answer c = let a = c.args in let l = c.loop-next in
    symbols_taken (judge_symbols (signature_of a.world.now) a.first a.raws.now) (signature_of l.world) l.number (sort_decs_left l.next) l.symbols (ap sort_decs_left c.in_default.is) l.invariant.onward
