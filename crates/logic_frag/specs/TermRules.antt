-- The rules on the terms of a command, each with what breaks it.
use Rattle.std.specs.Prelude.{IsTrue}
use Rattle.logic_frag.specs.declared.broken.Rule.{Rule}
use Rattle.logic_frag.specs.declared.broken.Rule.TheVariants as rules
use Rattle.logic_frag.specs.FragmentRules.{IsQuantifier}
use Rattle.logic_frag.specs.IntegerTerms.{IsNonlinear, IsOutsideDifference}
use Rattle.logic_frag.specs.Occurrences.{Occurrence}
use Rattle.logic_frag.specs.SortSearch.{has_array_at}
use Rattle.logic_frag.specs.StandsFor.{Context}

abbrev pub Breaks : Rule → Context → Occurrence → Type 0
Breaks rules.QuantifierFree context o = IsQuantifier o.its
Breaks rules.Linear context o = IsNonlinear context o
Breaks rules.Difference context o = IsOutsideDifference context o
Breaks (rules.Arrays part) context o = IsTrue (has_array_at part o.its)
