use Rattle.lex_core.proofs.CallClauses.{feed_failing, feed_fault, feed_interned, feed_taken, feed_tokens, feed_viable}
use Rattle.lex_core.specs.declared.lexer.LexError.TheVariants.{NoMemory}
use Rattle.lex_core.proofs.lexer.Lexer.feed.Goals as goal

pub returns-clause-tokens : goal.returns-clause-tokens
returns-clause-tokens c = feed_tokens _ c.args.self.now _ c.args.byte c.advance.result c.advance.ensures.step

pub returns-clause-fault : goal.returns-clause-fault
returns-clause-fault c = feed_fault _ c.args.self.now _ c.args.byte c.advance.result c.advance.ensures.step

pub returns-clause-failing : goal.returns-clause-failing
returns-clause-failing c = feed_failing _ c.args.self.now _ c.args.byte c.advance.result c.advance.ensures.step (c.advance.ensures.again NoMemory)

pub returns-clause-interned : goal.returns-clause-interned
returns-clause-interned c = feed_interned _ c.args.self.now _ c.args.byte c.advance.result c.advance.ensures.step (c.advance.ensures.again NoMemory)

pub returns-clause-taken : goal.returns-clause-taken
returns-clause-taken c = feed_taken _ c.args.self.now _ c.args.byte c.advance.result c.advance.ensures.step (c.advance.ensures.again NoMemory)

pub returns-clause-viable : goal.returns-clause-viable
returns-clause-viable c = feed_viable _ c.args.self.now _ c.args.byte c.advance.result c.advance.ensures.step
