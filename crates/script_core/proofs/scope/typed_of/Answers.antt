use Rattle.std.proofs.Common.{map, ◌∙◌, ap}
use Rattle.term_store.specs.Command.{plain_def}
use Rattle.script_core.specs.Checking.{environment_of}
use Rattle.script_core.specs.Effects.{seen_by}
use Rattle.script_core.specs.Keeping.{KeepsEarlier}
use Rattle.script_core.proofs.PlainParts.{after_error}
use Rattle.script_core.proofs.RuleMeanings.{names_logic, names_under, own_earlier, own_fault, own_taken}
use Rattle.script_core.proofs.scope.typed_of.Goals as goal

pub returns-in-Err-clause-answer : goal.returns-in-Err-clause-answer
returns-in-Err-clause-answer c =
    own_fault c.args.scope.now c.own_of.new.scope c.own_of.new.scope c.args.tree.now (seen_by c.own_of.new.scope) c.in-Err.error (seen_by c.own_of.new.scope) c.in-Err.ensures.answer

pub declare_named_terms-requires-clause-logic : goal.declare_named_terms-requires-clause-logic
declare_named_terms-requires-clause-logic c = let old = c.args.scope.now in
    λ some. names_logic (environment_of old.world.names old) old.world.names c.own_of.new.scope c.args.tree.now c.in-Ok.command (seen_by c.own_of.new.scope) c.deref.result.now c.in-Ok.ensures.answer
    (ap (map plain_def) c.deref.ensures.value ∙ c.in_ok-named.ensures.ok) some

pub returns-clause-answer : goal.returns-clause-answer
returns-clause-answer c = let old = c.args.scope.now in let own = c.own_of.new.scope in let new = c.declare_named_terms.new.scope in
    own_taken old own new c.args.tree.now (seen_by own) (record { command = c.in-Ok.command; named = c.in_ok-named.named }) (seen_by new) c.in-Ok.ensures.answer c.declare_named_terms.ensures.seen
    (names_under old own new _ c.deref.result.now c.own_of.ensures.names c.in_ok-declare_named_terms.ensures.effect (ap (map plain_def) c.deref.ensures.value ∙ c.in_ok-named.ensures.ok))

pub returns-in_err-named-clause-earlier : goal.returns-in_err-named-clause-earlier
returns-in_err-named-clause-earlier c = let old = c.args.scope.now in let own = c.own_of.new.scope in
    after_error c.from_residual.result (KeepsEarlier old.next old.world.script own.world.script) (own_earlier (environment_of old.world.names old) (environment_of old.world.names own) c.args.tree.now c.in-Ok.command (seen_by own) old.world.script own.world.script c.in-Ok.ensures.answer c.in-Ok.ensures.script)

pub returns-in_err-declare_named_terms-clause-earlier : goal.returns-in_err-declare_named_terms-clause-earlier
returns-in_err-declare_named_terms-clause-earlier c = let old = c.args.scope.now in let own = c.own_of.new.scope in
    after_error c.from_residual-in_err-declare_named_terms.result (KeepsEarlier old.next old.world.script c.declare_named_terms.new.scope.world.script) (own_earlier (environment_of old.world.names old) (environment_of old.world.names own) c.args.tree.now c.in-Ok.command (seen_by own) old.world.script c.declare_named_terms.new.scope.world.script c.in-Ok.ensures.answer
    (c.declare_named_terms.ensures.script ∙ c.in-Ok.ensures.script))
