use Rattle.sexp_core.proofs.TokensRead.{reads_once, reads_or_breaks}
use Rattle.sexp_core.proofs.FirstFault.{reads_no_break, breaks_once}
use Rattle.sexp_core.proofs.MappedReading.{reads-token_of}
use Rattle.sexp_core.proofs.laws.reading_laws.Goals as goal

pub returns-clause-once : goal.returns-clause-once
returns-clause-once c = reads_once

pub returns-clause-either : goal.returns-clause-either
returns-clause-either c = reads_or_breaks

pub returns-clause-not_both : goal.returns-clause-not_both
returns-clause-not_both c = reads_no_break

pub returns-clause-first_fault : goal.returns-clause-first_fault
returns-clause-first_fault c = breaks_once

pub returns-clause-with_texts : goal.returns-clause-with_texts
returns-clause-with_texts c = reads-token_of
