-- Where a checker stands after the bytes that it took.
use Rattle.std.specs.Prelude.{◌≡◌, ◌⊎◌, ℕ, ◌+◌, ◌*◌, ◌≤◌, Bool, true, false, List, [], ◌∷◌, ◌++◌, length, map, option_map, None, Result, Ok, Err}
use Rattle.std.specs.Option.{is_some}
use Rattle.lex_core.specs.LexerCalls.{HasRead}
use Rattle.lex_core.specs.NameTable.{IsNameTable}
use Rattle.lex_core.specs.Token.{Token, token_of}
use Rattle.lex_core.specs.declared.token.Tok.{Tok}
use Rattle.sexp_core.specs.Reading.{IsList, Reads, TreeFault}
use Rattle.sexp_core.specs.Sexp.{FlatToken, Sexp, flat, map_flat}
use Rattle.sexp_core.specs.Tokens.{flat_token, flat_tokens}
use Rattle.term_store.specs.Command.{PlainCommand}
use Rattle.term_store.specs.Declarations.{declared_by}
use Rattle.term_store.specs.Script.{commands_of}
use Rattle.logic_frag.specs.Following.{plain_defs}
use Rattle.logic_frag.specs.Logics.{described}
use Rattle.judgement.specs.Judging.{ill_sorted, well_sorted}
use Rattle.typer.specs.Declarations.{declarations_of}
use Rattle.scope_stack.specs.Environment.{Environment as Scopes}
use Rattle.scope_stack.specs.Levels.{live}
use Rattle.typer.specs.FunctionSymbols.{datatypes_of}
use Rattle.typer.specs.Ready.{IsReady}
use Rattle.script_core.specs.declared.checker.Checker.{Checker}
use Rattle.script_core.specs.declared.refusal.Progress.{Progress}
use Rattle.script_core.specs.declared.refusal.Progress.TheVariants as progress
use Rattle.script_core.specs.declared.refusal.Refusal.{Refusal}
use Rattle.script_core.specs.declared.refusal.Stop.{Stop}
use Rattle.script_core.specs.declared.refusal.Stop.TheVariants.{Refused, NoMemory}
use Rattle.script_core.specs.declared.scope.Scope.{Scope}
use Rattle.script_core.specs.declared.scope.StepError.{StepError}
use Rattle.script_core.specs.declared.scope.StepError.TheVariants as error
use Rattle.script_core.specs.Acceptance.{Accepts, Refuses, Sofar, place_of}
use Rattle.script_core.specs.Environment.{Environment, start}
use Rattle.script_core.specs.Interned.{AreInterned}
use Rattle.script_core.specs.Keeping.{KeepsDefined, defined_in}
use Rattle.script_core.specs.Numbering.{table_after}
use Rattle.script_core.specs.Steps.{all_taken, exited, ListFault, Run, Runs, is_exit, judge_tree}

-- the tokens of an unfinished list with their names as texts
abbrev pub texts_of : List (List ℕ) → List (FlatToken Tok) → List (FlatToken Token)
texts_of texts tokens = map (map_flat (token_of texts)) tokens

-- what a scope keeps of an environment
abbrev pub environment_of : List (List ℕ) → Scope → Environment
environment_of names scope =
    record { names = names; logic = option_map described scope.logic; theories = scope.world.theories; declarations = declarations_of scope.world.scopes; datatypes = datatypes_of scope.world.script; definitions = plain_defs scope.world.script.defs; next = scope.next }

-- .. once the definitions of a command are kept that comes after an earlier scope
abbrev pub environment_with : Scope → Scope → PlainCommand → Environment
environment_with old new c = record (environment_of old.world.names new) { definitions = plain_defs old.world.script.defs ++ defined_in (declared_by c) }

-- no declaration is live
pub record HasNone (scopes : Scopes) : Type 0 where
  pub funs : live scopes.funs ≡ []
  pub sorts : live scopes.sorts ≡ []

-- The world meets what the rules of sorts and terms ask of it. Where no logic is set, nothing is declared, so that a logic may
-- bring names of its theories.
pub record IsReadyScope (scope : Scope) : Type 0 where
  pub ready : IsReady scope.world
  pub undeclared : is_some scope.logic ≡ false → HasNone scope.world.scopes

-- the commands that a checker has accepted
abbrev pub accepted_by : Checker → List PlainCommand
accepted_by checker = commands_of checker.scope.world.script

-- The checker has taken these tokens, whose names are in the table `known`: their complete lists are accepted, and it keeps their
-- commands, what these define, and the tokens of the unfinished list. Its own table may have the name of the next token besides.
pub record Follows (known : List (List ℕ)) (tokens : List Token) (checker : Checker) : Type 0 where
  pub lists : List (Sexp Token)
  -- the names after the complete lists
  pub names : List (List ℕ)
  pub reads : Reads (flat_tokens tokens) lists (texts_of checker.scope.world.names checker.builder.0)
  pub no_error : checker.builder.1 ≡ None
  pub runs : Runs start lists (record { commands = accepted_by checker; env = environment_of names checker.scope; cause = all_taken })
  pub interned : AreInterned checker.scope.world.names checker.builder.0
  pub table : known ≡ table_after names (texts_of checker.scope.world.names checker.builder.0)
  pub keeps : KeepsDefined checker.scope.world.script
  pub stands : IsReadyScope checker.scope

-- the checker has taken these tokens, and its table has their names alone
abbrev pub HasTokensOf : List Token → Checker → Type 0
HasTokensOf tokens checker = Follows checker.scope.world.names tokens checker

-- the complete lists of these tokens begin with lists that are these commands, the last of them `exit`
pub record Exits (tokens : List Token) (commands : List PlainCommand) : Type 0 where
  pub front : List Token
  pub back : List Token
  pub spelled : tokens ≡ front ++ back
  pub lists : List (Sexp Token)
  pub reads : Reads (flat_tokens front) lists []
  pub run : Run
  pub runs : Runs start lists run
  pub ends : run.cause ≡ exited
  pub accepted : commands ≡ run.commands

-- after tokens whose lists are these commands, the next one breaks a rule of lists, or completes a command that breaks a rule
pub record TokenBreaks (tokens : List Token) (next : Token) (commands : List PlainCommand) (refusal : Refusal) : Type 0 where
  pub lists : List (Sexp Token)
  pub env : Environment
  pub unfinished : List (FlatToken Token)
  pub reads : Reads (flat_tokens tokens) lists unfinished
  pub runs : Runs start lists (record { commands = commands; env = env; cause = all_taken })
  pub number : refusal.command ≡ length commands + 1
  pub fault : (TreeFault unfinished (flat_token next) refusal.rule × (refusal.at ≡ next.at))
      ⊎ ((t : Sexp Token) × IsList t × (flat t ≡ unfinished ++ flat_token next ∷ []) × ListFault env t (place_of refusal))

-- one of the new tokens is the first that breaks a rule
pub record BreaksAmong (tokens new : List Token) (commands : List PlainCommand) (refusal : Refusal) : Type 0 where
  pub front : List Token
  pub next : Token
  pub back : List Token
  pub spelled : new ≡ front ++ next ∷ back
  pub breaks : TokenBreaks (tokens ++ front) next commands refusal

-- the fact holds where the script is refused
abbrev pub IfRefused : Stop → (Refusal → Type 0) → Type 0
IfRefused (Refused refusal) P = P refusal
IfRefused NoMemory P = Unit {0}

-- the checker has taken these bytes
pub record HasTaken (bytes : List ℕ) (checker : Checker) : Type 0 where
  pub tokens : List Token
  pub read : HasRead bytes tokens checker.lexer
  pub follows : HasTokensOf tokens checker
  pub table : IsNameTable checker.scope.world.names
  pub few_names : length checker.scope.world.names ≤ 57 + length bytes
  pub few_commands : length (accepted_by checker) ≤ 2 * length bytes

-- whatever comes after these bytes, the script ends in them, with these commands
abbrev pub HasExited : List ℕ → List PlainCommand → Type 0
HasExited bytes commands = (more : List ℕ) (ended : Bool) → Sofar (bytes ++ more) ended commands

-- the checker has taken these tokens, and its table has the names of the next ones too
pub record Awaits (tokens next : List Token) (checker : Checker) : Type 0 where
  pub known : List (List ℕ)
  pub follows : Follows known tokens checker
  pub names : checker.scope.world.names ≡ table_after known (flat_tokens next)

-- the fact holds where the script goes on, or where an `exit` was accepted
abbrev pub IfMore : Result Progress Stop → Type 0 → Type 0
IfMore (Ok progress.More) P = P
IfMore result P = Unit {0}

abbrev pub IfEnded : Result Progress Stop → Type 0 → Type 0
IfEnded (Ok progress.Ended) P = P
IfEnded result P = Unit {0}

-- with these tokens more, the checker stands here
abbrev pub TakesTokens : Checker → List Token → List Token → Checker → Type 0
TakesTokens old next new checker = (tokens : List Token) → Awaits tokens next old → HasTokensOf (tokens ++ new) checker

-- among these tokens more is the end of an accepted `exit`
abbrev pub ExitsWithin : Checker → List Token → List Token → List PlainCommand → Type 0
ExitsWithin old next new commands = (tokens : List Token) → Awaits tokens next old → Exits (tokens ++ new) commands

-- with this token, or with one of these, the tokens break a rule
abbrev pub BreaksWith : Checker → Token → List PlainCommand → Refusal → Type 0
BreaksWith old next commands refusal = (tokens : List Token) → Awaits tokens (next ∷ []) old → TokenBreaks tokens next commands refusal

abbrev pub BreaksWithin : Checker → List Token → List Token → List PlainCommand → Refusal → Type 0
BreaksWithin old next new commands refusal = (tokens : List Token) → Awaits tokens next old → BreaksAmong tokens new commands refusal

-- with this byte more, the checker stands here
abbrev pub TakesByte : Checker → ℕ → Checker → Type 0
TakesByte old byte checker = (bytes : List ℕ) → HasTaken bytes old → HasTaken (bytes ++ byte ∷ []) checker

-- with this byte an `exit` is accepted
abbrev pub ExitsByte : Checker → ℕ → List PlainCommand → Type 0
ExitsByte old byte commands = (bytes : List ℕ) → HasTaken bytes old → HasExited (bytes ++ byte ∷ []) commands

-- with this byte the bytes are refused, whatever comes after it
abbrev pub RefusesByte : Checker → ℕ → List PlainCommand → Refusal → Type 0
RefusesByte old byte commands refusal = (bytes more : List ℕ) (ended : Bool) → HasTaken bytes old → Refuses ((bytes ++ byte ∷ []) ++ more) ended commands refusal

-- the same of a chunk of bytes
abbrev pub TakesBytes : Checker → List ℕ → Checker → Type 0
TakesBytes old piece checker = (bytes : List ℕ) → HasTaken bytes old → HasTaken (bytes ++ piece) checker

abbrev pub ExitsBytes : Checker → List ℕ → List PlainCommand → Type 0
ExitsBytes old piece commands = (bytes : List ℕ) → HasTaken bytes old → HasExited (bytes ++ piece) commands

abbrev pub RefusesBytes : Checker → List ℕ → List PlainCommand → Refusal → Type 0
RefusesBytes old piece commands refusal = (bytes more : List ℕ) (ended : Bool) → HasTaken bytes old → Refuses ((bytes ++ piece) ++ more) ended commands refusal

-- the whole text is accepted, with these commands
abbrev pub AcceptsText : Checker → List PlainCommand → Type 0
AcceptsText old commands = (bytes : List ℕ) → HasTaken bytes old → Accepts bytes commands

-- the whole text is refused after these commands
abbrev pub RefusesText : Checker → List PlainCommand → Refusal → Type 0
RefusesText old commands refusal = (bytes : List ℕ) → HasTaken bytes old → Refuses bytes true commands refusal

-- what follows an accepted command, by whether it is `exit`
abbrev pub progress_of : Bool → Progress
progress_of false = progress.More
progress_of true = progress.Ended

-- the tree is a command, which leads from old to new and is put last
pub record TakesTree (old : Scope) (t : Sexp Tok) (goes : Progress) (new : Scope) : Type 0 where
  pub command : PlainCommand
  pub declared : List ℕ
  pub judged : judge_tree (environment_of old.world.names old) t [] (well_sorted (command, environment_of old.world.names new) declared)
  pub goes_on : goes ≡ progress_of (is_exit command)
  pub put_last : commands_of new.world.script ≡ commands_of old.world.script ++ command ∷ []
  pub keeps : KeepsDefined old.world.script → KeepsDefined new.world.script

-- what the judging of a tree answers
abbrev pub AnswersTree : Scope → Sexp Tok → Result Progress StepError → Scope → Type 0
AnswersTree old t (Ok goes) new = TakesTree old t goes new
AnswersTree old t (Err (error.Broken place)) new = judge_tree (environment_of old.world.names old) t [] (ill_sorted place)
AnswersTree old t (Err error.NoMemory) new = Unit {0}

-- the tree breaks a rule, as the next command
abbrev pub BreaksTree : Checker → Sexp Tok → Refusal → Type 0
BreaksTree old t refusal = judge_tree (environment_of old.scope.world.names old.scope) t [] (ill_sorted (place_of refusal)) × (refusal.command ≡ length (accepted_by old) + 1)
