use Rattle.std.proofs.Common.{◌++◌, take}
use Rattle.script_core.proofs.JudgingTexts.{byte_ends, byte_refused, room_left, takes_more}
use Rattle.script_core.proofs.checker.Checker.take_bytes.Goals as goal

pub take_byte-requires : goal.take_byte-requires
take_byte-requires c = record {
  sound = c.loop-byte.invariant.sound;
  taken = (
    c.requires.taken.0 ++ take c.loop-byte.byte-index c.args.piece.now,
    c.loop-byte.invariant.taken c.requires.taken.0 c.requires.taken.1,
    room_left c.requires.taken.0 c.args.piece.now c.loop-byte.byte-index c.loop-byte-test.true c.requires.taken.2,
  );
}

pub returns-in-Ok-Ended-clause-ended : goal.returns-in-Ok-Ended-clause-ended
returns-in-Ok-Ended-clause-ended c =
    byte_ends c.args.self.now c.loop-byte.self c.args.piece.now c.loop-byte.byte-index _ c.loop-byte-test.true c.loop-byte.invariant.taken
    (rw c.in-Ok-Ended.field-0-is at c.in-Ok-Ended.ensures.ended)

pub returns-in-Err-clause-refused : goal.returns-in-Err-clause-refused
returns-in-Err-clause-refused c =
    byte_refused c.args.self.now c.loop-byte.self c.args.piece.now c.loop-byte.byte-index _ c.in-Err.stop c.loop-byte-test.true c.loop-byte.invariant.taken c.in-Err.ensures.refused

pub loop-byte-preserved : goal.loop-byte-preserved
loop-byte-preserved c = record {
  taken = takes_more c.args.self.now c.loop-byte.self c.take_byte.new.self c.args.piece.now c.loop-byte.byte-index c.loop-byte-test.true c.loop-byte.invariant.taken
      (rw c.in-Ok-More.field-0-is at c.in-Ok-More.ensures.more);
  sound = c.take_byte.ensures.sound;
}
