use Rattle.std.proofs.Common.{refl}
use Rattle.cmd_grammar.specs.CommandViews.{command_from}
use Rattle.script_core.specs.Checking.{environment_of}
use Rattle.script_core.specs.Effects.{seen_by}
use Rattle.script_core.proofs.TakingParts.{unnamed_parts}
use Rattle.script_core.proofs.TakingUnchanging.{unchanging_answer}
use Rattle.script_core.proofs.parts.take_plain.Goals as goal

pub returns-in_default : goal.returns-in_default
returns-in_default c = let d = c.in_default in record {
  answer = unnamed_parts (environment_of c.args.scope.now.world.names c.args.scope.now) (environment_of c.args.scope.now.world.names c.args.scope.now) c.args.at (command_from c.args.command) c.unchanging.result (seen_by c.args.scope.now) c.requires.begins.0
      (unchanging_answer (environment_of c.args.scope.now.world.names c.args.scope.now) c.args.at c.args.command c.unchanging.result c.requires.plain d.not-Assert d.not-CheckSatAssuming d.not-DeclareConst d.not-DeclareFun d.not-DeclareSort d.not-DefineSort
      d.not-Push d.not-Pop d.not-SetLogic d.not-SetOption d.not-GetValue d.not-DefineFun d.not-DefineFunRec d.not-DefineFunsRec d.not-Reset d.not-ResetAssertions c.unchanging.ensures);
  names = refl;
  script = refl;
  stands = c.requires.stands;
}
