use Rattle.script_core.specs.Checking.{environment_of}
use Rattle.script_core.proofs.DeclaredGroups.{group_ascends, group_fault, group_taken, group_unused, part_kept_earlier}
use Rattle.script_core.proofs.datatypes.declare_datatypes.Goals as goal

pub returns-in-Err-clause-answer : goal.returns-in-Err-clause-answer
returns-in-Err-clause-answer c = let scope = c.args.scope.now in let world = c.type_group.new.world in
    group_fault scope c.requires.begins c.args.at c.args.sorts.now c.args.datatypes.now (environment_of scope.world.names (record scope { world = world })) world.seen.items c.in-Err.error c.step_error.result c.step_error.ensures c.in-Err.ensures.answer

pub add_group-requires-clause-unused : goal.add_group-requires-clause-unused
add_group-requires-clause-unused c = let scope = c.args.scope.now in let group = c.in-Ok.group in
    group_unused scope c.requires.begins c.type_group.new.world c.type_group.ensures.others group c.as_slice.result.now c.as_slice.ensures (group_ascends scope c.requires.begins c.args.at c.args.sorts.now c.args.datatypes.now group c.in-Ok.ensures.answer)
    c.requires.kept

pub returns-in-Ok-add_group-clause-answer : goal.returns-in-Ok-add_group-clause-answer
returns-in-Ok-add_group-clause-answer c = let scope = c.args.scope.now in let group = c.in-Ok.group in
    group_taken scope c.requires.begins c.type_group.new.world c.type_group.ensures.others group c.as_slice.result.now c.as_slice.ensures c.add_group.new.scope c.in-Ok.ensures.effect c.in-Ok-add_group.ensures.effect c.add_group.ensures.unnamed
    c.args.at c.args.sorts.now c.args.datatypes.now c.in-Ok.ensures.answer

pub returns-in-Err-add_group-clause-earlier : goal.returns-in-Err-add_group-clause-earlier
returns-in-Err-add_group-clause-earlier c = let scope = c.args.scope.now in let group = c.in-Ok.group in
    part_kept_earlier scope c.requires.begins c.type_group.new.world c.type_group.ensures.others group c.as_slice.result.now c.as_slice.ensures (group_ascends scope c.requires.begins c.args.at c.args.sorts.now c.args.datatypes.now group c.in-Ok.ensures.answer)
    c.add_group.new.scope.world.script c.in-Err-add_group.ensures.left
