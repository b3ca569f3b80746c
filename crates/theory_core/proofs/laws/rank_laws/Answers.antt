use Rattle.theory_core.proofs.RankLaws.{core_ints, core_arrays, ints_arrays, core_result, ints_result, arrays_result, rank_once}
use Rattle.theory_core.proofs.RankDecisions.{ranks_decided}
use Rattle.theory_core.proofs.laws.rank_laws.Goals as goal

pub returns-clause-core_and_ints : goal.returns-clause-core_and_ints
returns-clause-core_and_ints c = core_ints

pub returns-clause-core_and_arrays : goal.returns-clause-core_and_arrays
returns-clause-core_and_arrays c = core_arrays

pub returns-clause-ints_and_arrays : goal.returns-clause-ints_and_arrays
returns-clause-ints_and_arrays c = ints_arrays

pub returns-clause-core_result : goal.returns-clause-core_result
returns-clause-core_result c = core_result

pub returns-clause-ints_result : goal.returns-clause-ints_result
returns-clause-ints_result c = ints_result

pub returns-clause-arrays_result : goal.returns-clause-arrays_result
returns-clause-arrays_result c = arrays_result

pub returns-clause-theories_result : goal.returns-clause-theories_result
returns-clause-theories_result c = rank_once

pub returns-clause-decided : goal.returns-clause-decided
returns-clause-decided c = ranks_decided
