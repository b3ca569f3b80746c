-- The declarations that are live, as the rules see them: sorts are trees, and the store that holds them plays no part.
use Rattle.std.specs.Prelude.{ℕ, Bool, false, List, map, length}
use Rattle.sort_store.specs.declared.head.DeclNo.{DeclNo}
use Rattle.sort_store.specs.Tree.{Sort, tree}
use Rattle.scope_stack.specs.declared.entry.FunKind.{FunKind}
use Rattle.scope_stack.specs.declared.entry.FunEntry.{FunEntry}
use Rattle.scope_stack.specs.declared.entry.SortEntry.{SortEntry}
use Rattle.scope_stack.specs.declared.entry.SortEntry.TheVariants as entry
use Rattle.scope_stack.specs.Levels.{Levels, levels_of, no_levels, declared, opened, closed, only_globals}
use Rattle.scope_stack.specs.Environment.{Environment}

-- what a sort symbol stands for: a free sort or a datatype, by number and arity, or a defined sort, by the number of its
-- parameters and its body
pub data SortDeclaration : Type 0 where
  free_sort : DeclNo → ℕ → SortDeclaration
  data_sort : DeclNo → ℕ → SortDeclaration
  defined_sort : ℕ → Sort → SortDeclaration

-- what a function symbol stands for; its sorts are schemas with so many parameters
pub record FunDeclaration : Type 0 where
  pub number : DeclNo
  pub kind : FunKind
  pub params : ℕ
  pub args : List Sort
  pub result : Sort

pub record Declarations : Type 0 where
  pub funs : Levels FunDeclaration
  pub sorts : Levels SortDeclaration
  pub global : Bool

-- what is there at first and after reset
abbrev pub no_declarations : Declarations
no_declarations = record { funs = no_levels; sorts = no_levels; global = false }

-- the levels that are open past the first
abbrev pub depth : Declarations → ℕ
depth d = length d.funs.pushed

-- what each command leaves
abbrev pub with_fun : ℕ → FunDeclaration → Declarations → Declarations
with_fun name f d = record { funs = declared d.global (name, f) d.funs; sorts = d.sorts; global = d.global }

abbrev pub with_sort : ℕ → SortDeclaration → Declarations → Declarations
with_sort name s d = record { funs = d.funs; sorts = declared d.global (name, s) d.sorts; global = d.global }

abbrev pub with_global : Bool → Declarations → Declarations
with_global on d = record { funs = d.funs; sorts = d.sorts; global = on }

abbrev pub with_pushed : ℕ → Declarations → Declarations
with_pushed n d = record { funs = opened n d.funs; sorts = opened n d.sorts; global = d.global }

abbrev pub with_popped : ℕ → Declarations → Declarations
with_popped n d = record { funs = closed n d.funs; sorts = closed n d.sorts; global = d.global }

abbrev pub without_assertions : Declarations → Declarations
without_assertions d = record { funs = only_globals d.funs; sorts = only_globals d.sorts; global = d.global }

-- each declaration of the levels in another form, under its name
abbrev pub map_declaration : {X Y : Type 0} → (X → Y) → ℕ × X → ℕ × Y
map_declaration f d = (d.0, f d.1)

abbrev pub map_levels : {X Y : Type 0} → (X → Y) → Levels X → Levels Y
map_levels f s = levels_of (map (map_declaration f) s.first) (map (map (map_declaration f)) s.pushed) (map (map_declaration f) s.globals)

-- a declaration that the scopes keep, by the trees of its sorts
abbrev pub sort_declaration : SortEntry → SortDeclaration
sort_declaration (entry.Free number arity) = free_sort number arity
sort_declaration (entry.Data number arity) = data_sort number arity
sort_declaration (entry.Defined params body) = defined_sort params (tree body)

abbrev pub fun_declaration : FunEntry → FunDeclaration
fun_declaration f = record { number = f.no; kind = f.kind; params = f.params; args = map tree f.args; result = tree f.result }

abbrev pub declarations_of : Environment → Declarations
declarations_of scopes = record { funs = map_levels fun_declaration scopes.funs; sorts = map_levels sort_declaration scopes.sorts; global = scopes.global }
