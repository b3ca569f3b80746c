-- The laws of the first broken rule.
use Rattle.std.specs.Prelude.{◌≡◌, ◌↔◌, ℕ, List, Option, None}
use Rattle.sig_table.specs.declared.code.Code.{Code}
use Rattle.term_store.specs.Command.{PlainCommand, PlainDef}
use Rattle.logic_frag.specs.Following.{AppliesLower}
use Rattle.logic_frag.specs.FragmentRules.{BreaksRule, InLogic, IsFirstBroken, context_of, fragment_codes}
use Rattle.logic_frag.specs.Logics.{Description}
use Rattle.logic_frag.specs.StandsFor.{Context}

-- the answer is None exactly where the command is in the logic
abbrev pub NoneInLogic : Type 0
NoneInLogic = (l : Description) (context : Context) (c : PlainCommand) (answer : Option Code) → IsFirstBroken (BreaksRule l context c) fragment_codes answer → (answer ≡ None) ↔ InLogic l context c

-- each command has an answer
abbrev pub SomeFirst : Type 0
SomeFirst = (l : Description) (texts : List (List ℕ)) (kept : List PlainDef) (c : PlainCommand) → AppliesLower kept → (answer : Option Code) × IsFirstBroken (BreaksRule l (context_of texts kept c) c) fragment_codes answer

-- .. and one alone
abbrev pub FirstOnce : Type 0
FirstOnce = (l : Description) (context : Context) (c : PlainCommand) (a b : Option Code) → IsFirstBroken (BreaksRule l context c) fragment_codes a → IsFirstBroken (BreaksRule l context c) fragment_codes b → a ≡ b
