use Rattle.std.proofs.Common.{◌∙◌, ap, length}
use Rattle.std.proofs.lemmas.Result.{err_from_is_err_and}
use Rattle.cmd_grammar.specs.DeclarationViews.{constructor_dec_seen}
use Rattle.typer.specs.FunctionSymbols.{signature_of}
use Rattle.datatype_commands.specs.Answers.{AreReadyParts, constructors_left}
use Rattle.datatype_commands.proofs.GrownWorlds.{constructors_grown, grown_more, one_more_ready}
use Rattle.datatype_commands.proofs.TakingParts.{constructor_fault, constructor_taken, constructors_split, constructors_taken, more_constructor_names}
use Rattle.datatype_commands.proofs.parts.constructors_of.Goals as goal

pub returns-in_err-constructor-clause-answer : goal.returns-in_err-constructor-clause-answer
returns-in_err-constructor-clause-answer c = let a = c.args in let l = c.loop-next in let p = err_from_is_err_and c.from_residual.result c.from_residual.ensures.1 in
    rw (p.1, p.2) (constructor_fault a.world.now l.world a.params.now a.parts.now.first l.parts.first a.parts.now.names.items l.parts.names.items l.invariant.grown l.invariant.first
    a.raws.now (constructors_left l.next) c.in-Some.rest (constructor_dec_seen c.in-Some.raw) l.constructors (ap constructors_left c.in-Some.is) l.invariant.onward c.in_err-constructor.field-0.0 c.in_err-constructor.ensures.answer)

pub loop-next-preserved : goal.loop-next-preserved
loop-next-preserved c = let a = c.args in let l = c.loop-next in let k = c.in_ok-constructor.constructor in let new = c.constructor_of.new in record {
  onward = constructor_taken a.world.now l.world a.params.now a.parts.now.first l.parts.first a.parts.now.names.items l.parts.names.items l.invariant.grown l.invariant.first
      a.raws.now (constructors_left l.next) c.in-Some.rest (constructor_dec_seen c.in-Some.raw) l.constructors (ap constructors_left c.in-Some.is) l.invariant.onward k c.push.new.self new.parts.names.items (constructors_left c.split-next-in-Some.result)
      c.in_ok-constructor.ensures.answer c.in-Ok.ensures.ok c.in_ok-constructor.ensures.names (constructors_split c.in-Some.rest c.split-next-in-Some.result c.split-next-in-Some.ensures);
  names = more_constructor_names a.parts.now.names.items l.parts.names.items new.parts.names.items l.constructors c.push.new.self k l.invariant.names c.in_ok-constructor.ensures.names c.in-Ok.ensures.ok;
  first = c.constructor_of.ensures.first ∙ l.invariant.first;
  schema = one_more_ready (AreReadyParts l.world (length a.params.now)) (AreReadyParts new.world (length a.params.now)) l.constructors c.push.new.self k
      (λ cs h. constructors_grown l.world new.world (length a.params.now) cs c.constructor_of.ensures.grown h) l.invariant.schema c.in_ok-constructor.ensures.schema c.in-Ok.ensures.ok;
  grown = grown_more a.world.now l.world new.world l.invariant.grown c.constructor_of.ensures.grown;
  ready = c.constructor_of.ensures.ready;
}

pub returns-clause-answer : goal.returns-clause-answer
returns-clause-answer c = let a = c.args in let l = c.loop-next in
    constructors_taken (signature_of a.world.now) a.params.now a.parts.now.first a.parts.now.names.items l.parts.names.items a.raws.now (constructors_left l.next) l.constructors (ap constructors_left c.in_default.is) l.invariant.onward
