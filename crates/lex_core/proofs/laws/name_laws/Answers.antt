use Rattle.lex_core.proofs.NameNumbers.{number_unique, table_kept, text_found}
use Rattle.lex_core.proofs.laws.name_laws.Goals as goal

pub returns-clause-distinct : goal.returns-clause-distinct
returns-clause-distinct c = λ texts i j table below also same. number_unique texts i j table.distinct below also same

pub returns-clause-table : goal.returns-clause-table
returns-clause-table c = table_kept

pub returns-clause-stands : goal.returns-clause-stands
returns-clause-stands c = text_found
