use Rattle.std.proofs.Common.{if◌then◌else◌, ap, map, None, Some, sym, ◌∙◌}
use Rattle.std.specs.Option.{option_copied, option_map}
use Rattle.sort_store.specs.Tree.{tree}
use Rattle.typer.specs.Declarations.{fun_declaration}
use Rattle.typer.specs.FunctionSymbols.{signature_of}
use Rattle.typer.proofs.HeadSteps.{entry_ready}
use Rattle.typer.proofs.ReadyKept.{grown}
use Rattle.typer.proofs.TesterSteps.{live_function, no_constructor, not_live, tester_fails, tester_is}
use Rattle.typer.proofs.tester.tester_head.Goals as goal

pub returns-in_default-find_fun-clause-answer : goal.returns-in_default-find_fun-clause-answer
returns-in_default-find_fun-clause-answer c =
    no_constructor (signature_of c.args.world.now) c.args.at (map tree c.args.args.now) (option_map tree c.args.asked.now) c.args.indices.now c.fault-in_default-find_fun.result
    (not_live c.args.world.now c.args.indices.now c.in-Some.index (sym c.only_symbol.ensures ∙ c.in-Some.is) (sym c.find_fun.ensures ∙ ap option_copied c.in_default-find_fun.is)) c.fault-in_default-find_fun.ensures

pub returns-then-not-is_constructor-clause-answer :
    goal.returns-then-not-is_constructor-clause-answer
returns-then-not-is_constructor-clause-answer c =
    no_constructor (signature_of c.args.world.now) c.args.at (map tree c.args.args.now) (option_map tree c.args.asked.now) c.args.indices.now c.fault-then-not-is_constructor.result
    (live_function c.args.world.now c.args.indices.now c.in-Some.index (sym c.only_symbol.ensures ∙ c.in-Some.is) c.in-Some-find_fun.constructor.now c.is_constructor.result (sym c.find_fun.ensures ∙ ap option_copied c.in-Some-find_fun.is) (sym c.is_constructor.ensures)
    ∙ ap (λ z. if z then Some (c.in-Some.index.name, fun_declaration c.in-Some-find_fun.constructor.now) else None) c.if-not-is_constructor.true) c.fault-then-not-is_constructor.ensures

pub tester_sort-requires-clause-ready : goal.tester_sort-requires-clause-ready
tester_sort-requires-clause-ready c = entry_ready c.args.world.now c.in-Some.index.name c.in-Some-find_fun.constructor.now c.requires.ready (sym c.find_fun.ensures ∙ ap option_copied c.in-Some-find_fun.is)

pub returns-in-Ok-clause-answer : goal.returns-in-Ok-clause-answer
returns-in-Ok-clause-answer c =
    tester_is (signature_of c.args.world.now) c.args.at (map tree c.args.args.now) (option_map tree c.args.asked.now) c.args.indices.now (c.in-Some.index.name, fun_declaration c.in-Some-find_fun.constructor.now)
    (live_function c.args.world.now c.args.indices.now c.in-Some.index (sym c.only_symbol.ensures ∙ c.in-Some.is) c.in-Some-find_fun.constructor.now c.is_constructor.result (sym c.find_fun.ensures ∙ ap option_copied c.in-Some-find_fun.is) (sym c.is_constructor.ensures)
    ∙ ap (λ z. if z then Some (c.in-Some.index.name, fun_declaration c.in-Some-find_fun.constructor.now) else None) c.if-not-is_constructor.false)
    c.tester_symbol.result c.in-Ok.sort c.tester_symbol.ensures.symbol c.tester_symbol.ensures.sort c.in-Ok.ensures.answer

pub returns-in-Ok-clause-ready : goal.returns-in-Ok-clause-ready
returns-in-Ok-clause-ready c = grown c.args.world.now c.tester_sort.new.sorts c.in-Ok.ensures.grows c.in-Ok.ensures.distinct c.requires.ready

pub returns-in-Err-clause-answer : goal.returns-in-Err-clause-answer
returns-in-Err-clause-answer c =
    tester_fails (signature_of c.args.world.now) c.args.at (map tree c.args.args.now) (option_map tree c.args.asked.now) c.args.indices.now (c.in-Some.index.name, fun_declaration c.in-Some-find_fun.constructor.now)
    (live_function c.args.world.now c.args.indices.now c.in-Some.index (sym c.only_symbol.ensures ∙ c.in-Some.is) c.in-Some-find_fun.constructor.now c.is_constructor.result (sym c.find_fun.ensures ∙ ap option_copied c.in-Some-find_fun.is) (sym c.is_constructor.ensures)
    ∙ ap (λ z. if z then Some (c.in-Some.index.name, fun_declaration c.in-Some-find_fun.constructor.now) else None) c.if-not-is_constructor.false)
    c.in-Err.error c.in-Err.ensures.answer

pub returns-in-Err-clause-ready : goal.returns-in-Err-clause-ready
returns-in-Err-clause-ready c = grown c.args.world.now c.tester_sort.new.sorts c.in-Err.ensures.grows c.in-Err.ensures.distinct c.requires.ready
