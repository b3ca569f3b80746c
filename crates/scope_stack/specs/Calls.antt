-- What lists of the calls that change scopes may leave.
use Rattle.std.specs.Prelude.{ℕ, ◌≡◌, ◌≤◌, ◌+◌, ◌⊎◌, Bool, List, [], ◌∷◌, None}
use Rattle.scope_stack.specs.Levels.{found}
use Rattle.scope_stack.specs.Environment.{Environment, empty, depth, with_fun, with_sort, with_global, with_pushed, with_popped, without_assertions}
use Rattle.scope_stack.specs.declared.entry.FunEntry.{FunEntry}
use Rattle.scope_stack.specs.declared.entry.SortEntry.{SortEntry}

-- a call with its arguments
pub data Call : Type 0 where
  DeclareFun : ℕ → FunEntry → Call
  DeclareSort : ℕ → SortEntry → Call
  SetGlobal : Bool → Call
  Push : ℕ → Call
  Pop : ℕ → Call
  ResetAssertions : Call
  Reset : Call

-- what a call leaves where it answers no error
abbrev pub Effect : Call → Environment → Environment → Type 0
Effect (DeclareFun name entry) old new = (found name old.funs ≡ None) × (new ≡ with_fun name entry old)
Effect (DeclareSort name entry) old new = (found name old.sorts ≡ None) × (new ≡ with_sort name entry old)
Effect (SetGlobal on) old new = new ≡ with_global on old
Effect (Push n) old new = (depth old + n ≤ 65535) × (new ≡ with_pushed n old)
Effect (Pop n) old new = (n ≤ depth old) × (new ≡ with_popped n old)
Effect ResetAssertions old new = new ≡ without_assertions old
Effect Reset old new = new ≡ empty

-- one call after the other, each with its effect or, after an error, none
abbrev pub Follows : List Call → Environment → Environment → Type 0
Follows [] old new = new ≡ old
Follows (c ∷ cs) old new = (mid : Environment) × ((mid ≡ old) ⊎ Effect c old mid) × Follows cs mid new
