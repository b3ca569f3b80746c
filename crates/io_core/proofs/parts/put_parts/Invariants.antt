use Rattle.std.proofs.Common.{◌≡◌, ◌≤◌, List, ◌++◌, drop, ℕ}
use Rattle.std.specs.Io.KnownBytes.{Appends}
use Rattle.io_core.specs.Parts.{parts_text}
use Rattle.io_core.proofs.parts.put_parts.Given as goal

-- a front of the text was put, and what is left is the text of the other parts
abbrev pub invariant-loop-part : goal.invariant-loop-part
invariant-loop-part g l = record {
  so_far : (front : List ℕ) × (parts_text l.parts ≡ front ++ parts_text (drop l.part-index l.parts))
      × Appends (g.O.Sink.taken l.fn.sink) (g.O.Sink.taken l.sink) front;
  unflushed : g.O.Sink.flushed l.sink ≡ g.O.Sink.flushed l.fn.sink;
  later : g.O.Sink.faults l.fn.sink ≤ g.O.Sink.faults l.sink;
}
