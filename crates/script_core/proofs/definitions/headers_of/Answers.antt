use Rattle.std.proofs.Common.{◌∙◌, ap, map, refl}
use Rattle.std.proofs.lemmas.Result.{err_from_is_err_and}
use Rattle.script_core.specs.Checking.{environment_of}
use Rattle.script_core.specs.Effects.{plain_header}
use Rattle.script_core.specs.RuleAnswers.{fun_decs_left}
use Rattle.script_core.proofs.TakingGroups.{effect_before, headers_broken, headers_onward, headers_ready, headers_start, headers_taken, logic_set, named_first, named_left, named_rest, none_ready, reached_more, reached_none}
use Rattle.script_core.proofs.definitions.headers_of.Goals as goal

pub loop-next-init : goal.loop-next-init
loop-next-init c = let scope = c.args.scope.now in let start = environment_of scope.world.names scope in record {
  onward = headers_start start c.args.declarations.now c.split-next.result c.new-headers.result c.split-next.ensures c.new-headers.ensures;
  reached = reached_none start c.new-headers.result c.new-headers.ensures;
  ready = none_ready scope c.new-headers.result c.new-headers.ensures;
  named = named_left scope.world.names c.args.declarations.now c.split-next.result c.split-next.ensures c.requires.named;
  logic = c.requires.logic;
  names = refl;
  unnamed = (refl, refl);
  script = refl;
  stands = c.requires.stands;
}

pub next_header-requires-clause-named : goal.next_header-requires-clause-named
next_header-requires-clause-named c = let l = c.loop-next in
    named_first c.args.scope.now.world.names l.scope.world.names (fun_decs_left l.next) c.in-Some.first c.in-Some.rest (ap fun_decs_left c.in-Some.is) l.invariant.names l.invariant.named

pub returns-in_err-header-clause-answer : goal.returns-in_err-header-clause-answer
returns-in_err-header-clause-answer c =
    let names = c.args.scope.now.world.names in let l = c.loop-next in let p = err_from_is_err_and c.from_residual.result c.from_residual.ensures.1 in rw (p.1, p.2)
    (headers_broken (environment_of names c.args.scope.now) (environment_of l.scope.world.names l.scope) c.args.declarations.now (fun_decs_left l.next) c.in-Some.first c.in-Some.rest l.headers (ap fun_decs_left c.in-Some.is)
    (ap (λ ns. environment_of ns l.scope) l.invariant.names ∙ l.invariant.reached) l.invariant.onward c.in_err-header.field-0.0 c.in_err-header.ensures.answer)

pub loop-next-preserved : goal.loop-next-preserved
loop-next-preserved c =
    let old = c.args.scope.now in let names = old.world.names in let l = c.loop-next in let start = environment_of names old in let here = environment_of l.scope.world.names l.scope in
    let after = c.next_header.new.scope in
    let own = ap (λ ns. environment_of ns l.scope) l.invariant.names ∙ l.invariant.reached in
    let live = reached_more start (environment_of names l.scope) c.args.declarations.now (fun_decs_left l.next) c.in-Some.first c.in-Some.rest l.headers (ap fun_decs_left c.in-Some.is) l.invariant.reached l.invariant.onward
    (environment_of names after) c.in_ok-header.header c.push.new.self (effect_before old l.scope after c.in_ok-header.header l.invariant.names c.in_ok-header.ensures.effect) c.in-Ok.ensures.ok in record {
      onward = headers_onward start here c.args.declarations.now (fun_decs_left l.next) c.in-Some.first c.in-Some.rest l.headers (ap fun_decs_left c.in-Some.is) own l.invariant.onward
          c.in_ok-header.header c.push.new.self c.split-next-in-Some.result c.in_ok-header.ensures.answer c.in-Ok.ensures.ok c.split-next-in-Some.ensures;
      reached = live;
      ready = headers_ready l.scope after l.headers c.push.new.self c.in_ok-header.header c.next_header.ensures.names c.next_header.ensures.grows l.invariant.ready c.in_ok-header.ensures.ready c.in-Ok.ensures.ok;
      named = named_left names c.in-Some.rest c.split-next-in-Some.result c.split-next-in-Some.ensures (named_rest names (fun_decs_left l.next) c.in-Some.first c.in-Some.rest (ap fun_decs_left c.in-Some.is) l.invariant.named);
      logic = logic_set names old after (map plain_header c.push.new.self) live c.requires.logic;
      names = c.next_header.ensures.names ∙ l.invariant.names;
      unnamed = (c.next_header.ensures.unnamed.0 ∙ l.invariant.unnamed.0, c.next_header.ensures.unnamed.1 ∙ l.invariant.unnamed.1);
      script = c.next_header.ensures.script ∙ l.invariant.script;
      stands = c.next_header.ensures.stands;
    }

pub returns-clause-answer : goal.returns-clause-answer
returns-clause-answer c =
    headers_taken (environment_of c.args.scope.now.world.names c.args.scope.now) c.args.declarations.now (fun_decs_left c.loop-next.next) c.loop-next.headers (ap fun_decs_left c.in_default.is) c.loop-next.invariant.onward
