use Rattle.std.proofs.Common.{◌≤◌, ◌+◌, length, take}
use Rattle.lex_core.specs.LexerCalls.{ExtendsTable, HasLexed}
use Rattle.lex_core.proofs.text.tokens_of_text.Given as goal

abbrev pub invariant-loop-byte : goal.invariant-loop-byte
invariant-loop-byte l = record {
  reading : HasLexed l.names (take l.byte-index l.bytes) l.toks.items l.lexer;
  kept : ExtendsTable l.fn.names l.names;
  few : length l.names ≤ length l.fn.names + l.byte-index;
}
