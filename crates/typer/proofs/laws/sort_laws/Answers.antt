use Rattle.typer.proofs.SortLaws.{sort_decided, sort_or_fault, sort_once, fault_of_sort_once}
use Rattle.typer.proofs.laws.sort_laws.Goals as goal

pub returns-clause-decided : goal.returns-clause-decided
returns-clause-decided c = sort_decided

pub returns-clause-never_both : goal.returns-clause-never_both
returns-clause-never_both c = sort_or_fault

pub returns-clause-sort_once : goal.returns-clause-sort_once
returns-clause-sort_once c = sort_once

pub returns-clause-fault_once : goal.returns-clause-fault_once
returns-clause-fault_once c = fault_of_sort_once
