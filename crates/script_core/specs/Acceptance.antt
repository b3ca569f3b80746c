-- Which texts are accepted, and which are refused, by which command and which rule.
use Rattle.std.specs.Prelude.{◌≡◌, ◌⊎◌, ℕ, ◌+◌, Bool, true, false, List, length, Option, Some, None}
use Rattle.lex_core.specs.Token.{Token}
use Rattle.lex_core.specs.declared.place.Place.{Place}
use Rattle.sig_table.specs.declared.code.Code.TheVariants.{UnclosedList}
use Rattle.sexp_core.specs.Reading.{IsUnclosed}
use Rattle.sexp_core.specs.Sexp.{Sexp}
use Rattle.term_store.specs.Command.{PlainCommand}
use Rattle.script_core.specs.declared.refusal.Refusal.{Refusal}
use Rattle.script_core.specs.Environment.{start}
use Rattle.script_core.specs.Steps.{Cause, all_taken, exited, broken, Run, Runs}
use Rattle.script_core.specs.Text.{HasTokens, HasLists, ListsEnd, Unfinished, Broken}

-- The text after the complete lists shows a fault: a token that breaks a rule of lists comes first, then the fault of
-- the lexicon, and at the end a list that lacks its end.
abbrev pub TextFault : Bool → Option Place → ListsEnd → Place → Type 0
TextFault ended fault (Broken place) here = here ≡ place
TextFault ended (Some fault) (Unfinished tokens) here = here ≡ fault
TextFault true None (Unfinished tokens) here = IsUnclosed tokens here.at × (here.code ≡ UnclosedList)
TextFault false None (Unfinished tokens) here = ⊥

-- A text, whose end was seen or not, as its complete lists, taken as commands, and what comes after them.
pub record Judged (bytes : List ℕ) (ended : Bool) (fault : Option Place) (rest : ListsEnd) (run : Run) : Type 0 where
  pub tokens : List Token
  pub lists : List (Sexp Token)
  pub has_tokens : HasTokens bytes tokens ended fault
  pub has_lists : HasLists tokens lists rest
  pub runs : Runs start lists run

-- An accepted `exit` ends the script, and what follows it is ignored. Else all commands are accepted, and the text after them
-- shows no fault.
abbrev pub IsFaultless : Bool → Option Place → ListsEnd → Cause → Type 0
IsFaultless ended fault rest exited = Unit {0}
IsFaultless ended fault rest all_taken = (place : Place) → TextFault ended fault rest place → ⊥
IsFaultless ended fault rest (broken place) = ⊥

-- the first fault is that of a command, or, where all commands are accepted, that of the text after them
abbrev pub IsFirstFault : Bool → Option Place → ListsEnd → Cause → Place → Type 0
IsFirstFault ended fault rest exited place = ⊥
IsFirstFault ended fault rest all_taken place = TextFault ended fault rest place
IsFirstFault ended fault rest (broken here) place = place ≡ here

-- the text so far is that of these accepted commands, and shows no fault
pub record Sofar (bytes : List ℕ) (ended : Bool) (commands : List PlainCommand) : Type 0 where
  pub fault : Option Place
  pub rest : ListsEnd
  pub run : Run
  pub judged : Judged bytes ended fault rest run
  pub accepted : commands ≡ run.commands
  pub faultless : IsFaultless ended fault rest run.cause

-- the whole text is a script of these commands
abbrev pub Accepts : List ℕ → List PlainCommand → Type 0
Accepts bytes commands = Sofar bytes true commands

-- where a refusal points
abbrev pub place_of : Refusal → Place
place_of refusal = record { code = refusal.rule; at = refusal.at }

-- The text is that of these accepted commands, none of them `exit`, and the one that is named comes after them and is the first that
-- breaks a rule.
pub record Refuses (bytes : List ℕ) (ended : Bool) (commands : List PlainCommand) (refusal : Refusal) : Type 0 where
  pub fault : Option Place
  pub rest : ListsEnd
  pub run : Run
  pub judged : Judged bytes ended fault rest run
  pub accepted : commands ≡ run.commands
  pub number : refusal.command ≡ length commands + 1
  pub first_fault : IsFirstFault ended fault rest run.cause (place_of refusal)

-- the text is accepted so far, or it is refused
abbrev pub SomeAnswer : List ℕ → Bool → Type 0
SomeAnswer bytes ended = (commands : List PlainCommand) × (Sofar bytes ended commands ⊎ ((refusal : Refusal) × Refuses bytes ended commands refusal))
