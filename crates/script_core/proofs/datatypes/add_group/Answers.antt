use Rattle.script_core.proofs.DeclaredGroups.{all_part, kept_stands}
use Rattle.script_core.proofs.datatypes.add_group.Goals as goal

pub returns-in-Ok-keep_group-clause-stands : goal.returns-in-Ok-keep_group-clause-stands
returns-in-Ok-keep_group-clause-stands c =
    kept_stands c.args.scope.now c.declare_parts.new.world c.keep_group.new.script c.args.group.now c.in-Some-checked_add.next c.requires.logic c.declare_parts.ensures.ready c.declare_parts.ensures.others c.requires.group
    (all_part c.declare_parts.new.world.script c.keep_group.new.script c.args.group.now c.in-Ok-keep_group.ensures.ok)

pub returns-in-Err-keep_group-clause-stands : goal.returns-in-Err-keep_group-clause-stands
returns-in-Err-keep_group-clause-stands c =
    kept_stands c.args.scope.now c.declare_parts.new.world c.keep_group.new.script c.args.group.now c.args.scope.now.next c.requires.logic c.declare_parts.ensures.ready c.declare_parts.ensures.others c.requires.group c.in-Err-keep_group.ensures.left
