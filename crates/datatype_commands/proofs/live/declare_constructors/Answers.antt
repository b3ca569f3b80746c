use Rattle.std.proofs.Common.{ap, length, map, ◌∙◌}
use Rattle.term_store.specs.Command.{plain_datatype, plain_field}
use Rattle.typer.specs.Declarations.{declarations_of}
use Rattle.datatype_commands.specs.Answers.{AreReadyParts}
use Rattle.datatype_commands.specs.DeclaredDatatypes.{with_selectors}
use Rattle.datatype_commands.proofs.LiveParts.{constructor_live, constructors_stay, first_one, later_ones, listed_parts, own_stays}
use Rattle.datatype_commands.proofs.TakingSymbols.{scopes_more}
use Rattle.datatype_commands.proofs.live.declare_constructors.Goals as goal

pub declare_constructor-requires-clause-schema : goal.declare_constructor-requires-clause-schema
declare_constructor-requires-clause-schema c = let l = c.loop-constructor in
    first_one (AreReadyParts l.world (length c.args.datatype.now.params)) l.left.now c.in-Some.others.now c.in-Some.constructor.now c.in-Some.ensures.cases.0 l.invariant.schema

pub declare_selectors-requires-clause-schema : goal.declare_selectors-requires-clause-schema
declare_selectors-requires-clause-schema c = let l = c.loop-constructor in let n = length c.args.datatype.now.params in
    listed_parts l.world c.declare_constructor.new.world n c.in-Some.constructor.now.fields c.as_slice.result.now c.in_ok-declare_constructor.ensures.others c.as_slice.ensures
    (first_one (AreReadyParts l.world n) l.left.now c.in-Some.others.now c.in-Some.constructor.now c.in-Some.ensures.cases.0 l.invariant.schema)

pub loop-constructor-preserved : goal.loop-constructor-preserved
loop-constructor-preserved c = let a = c.args in let l = c.loop-constructor in let e = c.in_ok-declare_constructor.ensures in let f = c.in_ok-declare_selectors.ensures in let n = length a.datatype.now.params in let t = plain_datatype a.datatype.now in
    let mid = c.declare_constructor.new.world in let new = c.declare_selectors.new.world in let more = scopes_more l.world mid new e.others f.others in record {
      effect = constructor_live (declarations_of l.world.scopes) (declarations_of mid.scopes) t l.left.now c.in-Some.others.now c.in-Some.constructor.now _ _ c.in-Some.ensures.cases.0 e.effect
          (f.effect ∙ ap (λ fs. with_selectors (declarations_of mid.scopes) t (map plain_field fs)) c.as_slice.ensures) l.invariant.effect;
      own = own_stays l.world new a.datatype.now a.own.now more l.invariant.own;
      schema = constructors_stay l.world new n c.in-Some.others.now more (later_ones (AreReadyParts l.world n) l.left.now c.in-Some.others.now c.in-Some.constructor.now c.in-Some.ensures.cases.0 l.invariant.schema);
      others = scopes_more a.world.now l.world new l.invariant.others more;
      ready = f.ready;
    }
