use Rattle.std.proofs.Common.{take}
use Rattle.term_store.specs.SoundScript.{IsSound}
use Rattle.script_core.specs.Checking.{TakesBytes}
use Rattle.script_core.proofs.checker.Checker.take_bytes.Given as goal

-- the checker has taken the chunk's bytes so far, and its script is sound
abbrev pub invariant-loop-byte : goal.invariant-loop-byte
invariant-loop-byte l = record {
  taken : TakesBytes l.initial.self (take l.byte-index l.piece) l.self;
  sound : IsSound l.self.scope.world.script;
}
