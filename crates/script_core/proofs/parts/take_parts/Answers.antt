use Rattle.cmd_grammar.specs.CommandViews.{command_from}
use Rattle.script_core.specs.Checking.{environment_of}
use Rattle.script_core.specs.Effects.{seen_by}
use Rattle.script_core.proofs.PlainParts.{plain_earlier, plain_script, plain_view}
use Rattle.script_core.proofs.parts.take_parts.Goals as goal

pub take_plain-requires-clause-plain : goal.take_plain-requires-clause-plain
take_plain-requires-clause-plain c = plain_view c.args.command c.in_default.not-DeclareDatatype c.in_default.not-DeclareDatatypes

pub returns-in_default-clause-script : goal.returns-in_default-clause-script
returns-in_default-clause-script c = let names = c.args.scope.now.world.names in
    plain_script (environment_of names c.args.scope.now) (environment_of names c.take_plain.new.scope) c.args.at (command_from c.args.command) c.take_plain.result (seen_by c.take_plain.new.scope) c.args.scope.now.world.script c.take_plain.new.scope.world.script
    (plain_view c.args.command c.in_default.not-DeclareDatatype c.in_default.not-DeclareDatatypes) c.take_plain.ensures.answer c.take_plain.ensures.script

pub returns-in_default-clause-earlier : goal.returns-in_default-clause-earlier
returns-in_default-clause-earlier c = plain_earlier c.take_plain.result c.args.scope.now.next c.args.scope.now.world.script c.take_plain.new.scope.world.script c.take_plain.ensures.script
