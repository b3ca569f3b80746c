use Rattle.std.proofs.Common.{◌≡◌, ◌≤◌, ◌++◌, replicate, take, length}
use Rattle.scope_stack.proofs.name_space.push_starts.Given as goal

abbrev pub invariant-loop-i : goal.invariant-loop-i
invariant-loop-i l = record {
  grown : l.starts.items ≡ l.initial.starts.items ++ replicate l._i l.at;
  kept : take (length l.initial.starts.items) l.starts.items ≡ l.initial.starts.items;
  longer : length l.initial.starts.items ≤ length l.starts.items;
  before : l.before ≡ length l.initial.starts.items;
}
