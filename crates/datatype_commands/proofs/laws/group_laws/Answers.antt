use Rattle.datatype_commands.proofs.LawfulGroups.{lawful-group, lawful-single}
use Rattle.datatype_commands.proofs.QuietGroups.{none-group, none-single}
use Rattle.datatype_commands.proofs.laws.group_laws.Goals as goal

pub returns-clause-group : goal.returns-clause-group
returns-clause-group c = lawful-group

pub returns-clause-single : goal.returns-clause-single
returns-clause-single c = lawful-single

pub returns-clause-unnamed_group : goal.returns-clause-unnamed_group
returns-clause-unnamed_group c = none-group

pub returns-clause-unnamed_single : goal.returns-clause-unnamed_single
returns-clause-unnamed_single c = none-single
