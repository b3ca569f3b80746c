-- What a match takes apart (SMT-LIB 2.6, section 3.6.1): the datatype that the sort of its term is an instance of, and the sorts
-- of the variables in its patterns.
use Rattle.std.specs.Prelude.{◌≡◌, ℕ, ◌≤◌, ◌==◌, ◌&&◌, if◌then◌else◌, List, [], ◌∷◌, length, Option, Some, None, ⊤}
use Rattle.std.specs.List.{All, zip}
use Rattle.sig_table.specs.declared.code.Code.TheVariants.{SortTooLarge}
use Rattle.judgement.specs.Judging.{Judging, ◌>>=◌, check, done}
use Rattle.term_grammar.specs.Syntax.{pattern_at}
use Rattle.term_grammar.specs.Syntax as syntax
use Rattle.sort_store.specs.declared.head.Head.{Head}
use Rattle.sort_store.specs.declared.head.Head.TheVariants as head
use Rattle.sort_store.specs.Tree.{Sort, sort, node_count}
use Rattle.term_store.specs.Command.{PlainConstructor, PlainDatatype}
use Rattle.term_store.specs.declared.parts.Pattern.{Pattern}
use Rattle.term_store.specs.declared.parts.Pattern.TheVariants as patterns
use Rattle.term_store.specs.SoundTerms.{field_sorts}
use Rattle.dt_rules.specs.Groups.{numbered, sort_list}
use Rattle.dt_rules.specs.PatternRules.{constructor_named, judge_pattern}

-- a datatype with values of its parameters
abbrev pub Instance : Type 0
Instance = PlainDatatype × List Sort

-- the datatype at these values, where it has the name and as many parameters
abbrev pub at_values : ℕ → List Sort → Option PlainDatatype → Option Instance
at_values name values None = None
at_values name values (Some t) = if (name == t.name) && (length values == length t.params) then Some (t, values) else None

abbrev pub instance_at : List PlainDatatype → Head → List Sort → Option Instance
instance_at ts (head.Data d n) values = at_values n values (numbered ts d.0)
instance_at ts head.Bool values = None
instance_at ts head.Int values = None
instance_at ts head.Array values = None
instance_at ts (head.BitVec m) values = None
instance_at ts (head.Free d n) values = None
instance_at ts (head.Param i) values = None

-- the datatype that the sort is an instance of, with the values of its parameters
abbrev pub instance_of : List PlainDatatype → Sort → Option Instance
instance_of ts (sort h args) = instance_at ts h (sort_list args)

-- the sorts of a constructor's fields at these values
abbrev pub sorts_of_fields : Option PlainConstructor → List Sort → List Sort
sorts_of_fields None values = []
sorts_of_fields (Some c) values = field_sorts c values

-- .. of the constructor that a pattern begins with
abbrev pub pattern_sorts : Instance → Pattern → List Sort
pattern_sorts i (patterns.Var n) = []
pattern_sorts i (patterns.Con d n vs) = sorts_of_fields (constructor_named i.0 n) i.1

-- the variables of a pattern with their sorts, where the term of the match has this sort
abbrev pub pattern_variables : Instance → Sort → Pattern → List (ℕ × Sort)
pattern_variables i s (patterns.Var n) = (n, s) ∷ []
pattern_variables i s (patterns.Con d n vs) = zip vs (pattern_sorts i (patterns.Con d n vs))

-- sorts that are small enough
abbrev pub AreSmall : List Sort → Type 0
AreSmall ss = All (λ s. node_count s ≤ 1000) ss

-- .. in a pattern that begins at a byte
abbrev pub judge_small : ℕ → List Sort → Judging (List Sort)
judge_small at ss = do
  _ ← check (AreSmall ss) SortTooLarge at
  done ss

-- a pattern whose variables have sorts that are small enough
abbrev pub judge_typed_pattern : Instance → syntax.Pattern → Judging Pattern
judge_typed_pattern i p = do
  q ← judge_pattern i.0 p
  _ ← judge_small (pattern_at p) (pattern_sorts i q)
  done q

-- a branch has the sort of the first one, if there is one before
abbrev pub IsBranchSort : Option Sort → Sort → Type 0
IsBranchSort None s = ⊤
IsBranchSort (Some first) s = s ≡ first
