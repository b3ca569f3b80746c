use Rattle.judgement.proofs.JudgementLaws.{lawful-done, lawful-check, lawful-find, lawful-refuse, lawful-names, lawful-declare, test_decided, option_decided}
use Rattle.judgement.proofs.laws.judgement_laws.Goals as goal

pub returns-clause-done : goal.returns-clause-done
returns-clause-done c s = lawful-done

pub returns-clause-check : goal.returns-clause-check
returns-clause-check c s = λ test code at. lawful-check _ code at (test_decided test)

pub returns-clause-find : goal.returns-clause-find
returns-clause-find c s = λ found code at. lawful-find _ code at (option_decided found)

pub returns-clause-refuse : goal.returns-clause-refuse
returns-clause-refuse c s = lawful-refuse

pub returns-clause-names : goal.returns-clause-names
returns-clause-names c s = lawful-names

pub returns-clause-declare : goal.returns-clause-declare
returns-clause-declare c s = lawful-declare
