use Rattle.typer.proofs.TermLaws.{term_decided, term_or_fault, elaborated_once, fault_of_term_once}
use Rattle.typer.proofs.laws.term_laws.Goals as goal

pub returns-clause-decided : goal.returns-clause-decided
returns-clause-decided c = term_decided

pub returns-clause-never_both : goal.returns-clause-never_both
returns-clause-never_both c = term_or_fault

pub returns-clause-term_once : goal.returns-clause-term_once
returns-clause-term_once c = elaborated_once

pub returns-clause-fault_once : goal.returns-clause-fault_once
returns-clause-fault_once c = fault_of_term_once
