use Rattle.lex_core.proofs.LexingLaws.{initial_state}
use Rattle.lex_core.proofs.lexer.Lexer.new.Goals as goal

pub returns-clause-initial : goal.returns-clause-initial
returns-clause-initial c = initial_state
