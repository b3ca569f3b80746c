use Rattle.std.proofs.Common.{◌∙◌, ap, length}
use Rattle.std.proofs.lemmas.Result.{err_from_is_err_and}
use Rattle.cmd_grammar.specs.DeclarationViews.{selector_seen}
use Rattle.typer.specs.FunctionSymbols.{signature_of}
use Rattle.datatype_commands.specs.Answers.{IsReadyPart, selectors_left}
use Rattle.datatype_commands.proofs.GrownWorlds.{grown_more, one_more_ready, parts_grown}
use Rattle.datatype_commands.proofs.TakingParts.{field_broken, field_taken, fields_taken, more_names, selectors_split}
use Rattle.datatype_commands.proofs.parts.fields_of.Goals as goal

pub returns-in_err-field-clause-answer : goal.returns-in_err-field-clause-answer
returns-in_err-field-clause-answer c = let a = c.args in let l = c.loop-next in let p = err_from_is_err_and c.from_residual.result c.from_residual.ensures.1 in
    rw (p.1, p.2) (field_broken a.world.now l.world a.params.now a.parts.now.first l.parts.first a.parts.now.names.items l.parts.names.items l.invariant.grown l.invariant.first
    a.raws.now (selectors_left l.next) c.in-Some.rest (selector_seen c.in-Some.raw) l.fields (ap selectors_left c.in-Some.is) l.invariant.onward c.in_err-field.field-0.0 c.in_err-field.ensures.answer)

pub loop-next-preserved : goal.loop-next-preserved
loop-next-preserved c = let a = c.args in let l = c.loop-next in let f = c.in_ok-field.field in let new = c.field_of.new in record {
  onward = field_taken a.world.now l.world a.params.now a.parts.now.first l.parts.first a.parts.now.names.items l.parts.names.items l.invariant.grown l.invariant.first
      a.raws.now (selectors_left l.next) c.in-Some.rest (selector_seen c.in-Some.raw) l.fields (ap selectors_left c.in-Some.is) l.invariant.onward f c.push.new.self new.parts.names.items (selectors_left c.split-next-in-Some.result)
      c.in_ok-field.ensures.answer c.in-Ok.ensures.ok c.in_ok-field.ensures.names (selectors_split c.in-Some.rest c.split-next-in-Some.result c.split-next-in-Some.ensures);
  names = more_names a.parts.now.names.items l.parts.names.items new.parts.names.items l.fields c.push.new.self f l.invariant.names c.in_ok-field.ensures.names c.in-Ok.ensures.ok;
  first = c.field_of.ensures.first ∙ l.invariant.first;
  schema = one_more_ready (IsReadyPart l.world (length a.params.now)) (IsReadyPart new.world (length a.params.now)) l.fields c.push.new.self f (λ fs h. parts_grown l.world new.world (length a.params.now) fs c.field_of.ensures.grown h) l.invariant.schema
      c.in_ok-field.ensures.schema c.in-Ok.ensures.ok;
  grown = grown_more a.world.now l.world new.world l.invariant.grown c.field_of.ensures.grown;
  ready = c.field_of.ensures.ready;
}

pub returns-clause-answer : goal.returns-clause-answer
returns-clause-answer c = let a = c.args in let l = c.loop-next in
    fields_taken (signature_of a.world.now) a.params.now a.parts.now.first a.parts.now.names.items l.parts.names.items a.raws.now (selectors_left l.next) l.fields (ap selectors_left c.in_default.is) l.invariant.onward
