use Rattle.lex_core.proofs.FaultLaws.{fault_excludes_lexes, lexes_or_fault, unique_fault}
use Rattle.lex_core.proofs.LexingLaws.{lexes_viable, unique_tokens, viable_lexes}
use Rattle.lex_core.proofs.TokenSpellings.{lexed_stand, read_stand}
use Rattle.lex_core.proofs.laws.lexicon_laws.Goals as goal

pub returns-clause-viable : goal.returns-clause-viable
returns-clause-viable c = viable_lexes

pub returns-clause-prefix : goal.returns-clause-prefix
returns-clause-prefix c = lexes_viable

pub returns-clause-unique : goal.returns-clause-unique
returns-clause-unique c = unique_tokens

pub returns-clause-decided : goal.returns-clause-decided
returns-clause-decided c = lexes_or_fault

pub returns-clause-apart : goal.returns-clause-apart
returns-clause-apart c = fault_excludes_lexes

pub returns-clause-unique_fault : goal.returns-clause-unique_fault
returns-clause-unique_fault c = unique_fault

pub returns-clause-spelled : goal.returns-clause-spelled
returns-clause-spelled c = lexed_stand

pub returns-clause-spelled_so_far : goal.returns-clause-spelled_so_far
returns-clause-spelled_so_far c = read_stand
