use Rattle.std.proofs.Common.{arith}
use Rattle.script_core.proofs.SoundCheckers.{follows_below, known_under, list_sound}
use Rattle.script_core.proofs.SoundDefinitions.{script_lower}
use Rattle.script_core.proofs.TakingTokens.{broken_token, ended_list, refused_list, taken_inside, taken_list, tree_interned}
use Rattle.script_core.proofs.checker.Checker.take_token.Goals as goal

pub take_list-requires-clause-interned : goal.take_list-requires-clause-interned
take_list-requires-clause-interned c = let some = c.in-Ok-Some in
    tree_interned c.args.self.now c.args.tok some.field-0 some.tree c.requires.interned c.requires.awaits.1.follows.interned some.field-0-is (some.ensures.tree c.requires.awaits.1.follows.no_error)

pub take_list-requires-clause-stands : goal.take_list-requires-clause-stands
take_list-requires-clause-stands c = c.requires.awaits.1.follows.stands

pub take_list-requires-clause-known : goal.take_list-requires-clause-known
take_list-requires-clause-known c = let w = c.requires.awaits.1 in known_under w.known c.requires.awaits.0 c.args.self.now w.follows c.args.self.now.scope.world.names

pub take_list-requires-clause-kept : goal.take_list-requires-clause-kept
take_list-requires-clause-kept c = let w = c.requires.awaits.1 in follows_below w.known c.requires.awaits.0 c.args.self.now w.follows

pub take_list-requires-clause-lower : goal.take_list-requires-clause-lower
take_list-requires-clause-lower c = script_lower c.args.self.now.scope.world.script c.requires.awaits.1.follows.keeps c.requires.sound

pub returns-in-Ok-None-clause-more : goal.returns-in-Ok-None-clause-more
returns-in-Ok-None-clause-more c = λ tokens awaits. let none = c.in-Ok-None in
    taken_inside tokens c.args.self.now c.args.tok c.take.new.self none.field-0 awaits c.requires.interned none.field-0-is none.ensures.unfinished none.ensures.inside none.ensures.faulty

pub returns-in-Ok-Some-clause-more : goal.returns-in-Ok-Some-clause-more
returns-in-Ok-Some-clause-more c = let some = c.in-Ok-Some in let list = c.take_list.ensures in
    taken_list c.args.self.now c.take_list.new.self c.args.tok some.field-0 some.tree c.take.new.self c.take_list.result c.requires.table c.requires.interned some.field-0-is some.ensures.tree some.ensures.emptied list.same.2 list.same.0 list.ok list.stands

pub returns-in-Ok-Some-clause-ended : goal.returns-in-Ok-Some-clause-ended
returns-in-Ok-Some-clause-ended c = let some = c.in-Ok-Some in let list = c.take_list.ensures in
    ended_list c.args.self.now c.take_list.new.self c.args.tok some.field-0 some.tree c.take_list.result c.requires.table c.requires.interned some.field-0-is some.ensures.tree list.ok

pub returns-in-Ok-Some-clause-refused : goal.returns-in-Ok-Some-clause-refused
returns-in-Ok-Some-clause-refused c = let some = c.in-Ok-Some in
    refused_list c.args.self.now c.take_list.new.self c.args.tok some.field-0 some.tree c.take_list.result c.requires.table c.requires.interned some.field-0-is some.ensures.tree c.take_list.ensures.refused c.take_list.ensures.script

pub returns-in-Err-Fault-clause-refused : goal.returns-in-Err-Fault-clause-refused
returns-in-Err-Fault-clause-refused c = let fault = c.in-Err-Fault in
    broken_token c.args.self.now c.args.tok fault.field-0 fault.place c.refusal.result fault.field-0-is fault.ensures.fault c.refusal.ensures

pub returns-in-Ok-Some-clause-sound : goal.returns-in-Ok-Some-clause-sound
returns-in-Ok-Some-clause-sound c = let some = c.in-Ok-Some in let list = c.take_list.ensures in
    list_sound c.requires.awaits.0 c.args.self.now c.take_list.new.self c.args.tok some.field-0 some.tree c.take_list.result c.requires.awaits.1 c.requires.table c.requires.interned some.field-0-is some.ensures.tree
    c.requires.sound (omega (arith, c.requires.few, list.counted)) list.ok list.script
