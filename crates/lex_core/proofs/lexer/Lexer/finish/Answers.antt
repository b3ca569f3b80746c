use Rattle.lex_core.proofs.CallClauses.{finish_failing, finish_fault, finish_lexes}
use Rattle.lex_core.proofs.lexer.Lexer.finish.Goals as goal

pub returns-clause-lexes : goal.returns-clause-lexes
returns-clause-lexes c = finish_lexes _ c.args.self.now _ c.end.result c.end.ensures.end

pub returns-clause-fault : goal.returns-clause-fault
returns-clause-fault c = finish_fault _ c.args.self.now _ c.end.result c.end.ensures.end

pub returns-clause-failing : goal.returns-clause-failing
returns-clause-failing c = finish_failing _ c.args.self.now _ c.end.result c.end.ensures.end c.end.ensures.gone
