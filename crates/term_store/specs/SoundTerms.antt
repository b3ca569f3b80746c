-- When the sorts and terms of a script are sound, where these declarations are those of the script.
use Rattle.std.specs.Prelude.{◌≡◌, ℕ, ◌+◌, ◌<◌, ◌≤◌, ◌⊎◌, Bool, List, [], ◌∷◌, ◌++◌, length, map, Option, Some, None, if◌then◌else◌, ◌==◌, slice_get, slice_index_or}
use Rattle.std.specs.List.{All, Contains}
use Rattle.sort_store.specs.declared.head.DeclNo.{DeclNo}
use Rattle.sort_store.specs.declared.head.Head.{Head}
use Rattle.sort_store.specs.declared.head.Head.TheVariants as head
use Rattle.lex_core.specs.NameTable.{fixed_texts}
use Rattle.sort_store.specs.Instance.{inst}
use Rattle.sort_store.specs.Ranks.{ranks_of, HasRank}
use Rattle.sort_store.specs.CoreRanks.{bool, core_symbols}
use Rattle.sort_store.specs.Tree.{Sort, sort, SortList, no_sorts, more_sorts, sorts}
use Rattle.term_store.specs.Command.{PlainField, PlainConstructor, PlainDatatype}
use Rattle.term_store.specs.declared.parts.Applied.{Applied}
use Rattle.term_store.specs.declared.parts.Fun.{Fun}
use Rattle.term_store.specs.declared.parts.Fun.TheVariants as fun
use Rattle.term_store.specs.declared.parts.Pattern.{Pattern}
use Rattle.term_store.specs.declared.parts.Pattern.TheVariants as patterns
use Rattle.term_store.specs.Declarations.{Declaration, sort_symbol, function_symbol, datatype, constructor_of, selector_of, definition, term_name, number_given}
use Rattle.term_store.specs.Term.{Term, Node, Terms, Cases, Note, Notes, term, lit, var, app, let_in, quant, match_on, ann, no_terms, more_terms, no_cases, more_cases, named, pattern, other, no_notes, more_notes, plain_sort}

-- no name stands at two places
pub record AreDistinct (names : List ℕ) : Type 0 where
  pub distinct : (i j n : ℕ) → slice_get names i ≡ Some n → slice_get names j ≡ Some n → i ≡ j

-- Sorts.

abbrev pub sort_count : SortList → ℕ
sort_count no_sorts = 0
sort_count (more_sorts t ts) = sort_count ts + 1

-- a declared datatype with this number
pub record IsDatatype (declared : List Declaration) (no_of : DeclNo) (params : ℕ) : Type 0 where
  pub its : PlainDatatype
  pub is_declared : Contains declared (datatype its)
  pub number_is : its.no ≡ no_of
  pub params_are : length its.params ≡ params

-- a sort symbol with as many arguments, where a parameter is below the number
abbrev pub IsSoundHead : List Declaration → ℕ → Head → ℕ → Type 0
IsSoundHead declared params (head.Data d n) args = IsDatatype declared d args
IsSoundHead declared params (head.Param i) args = i < params
IsSoundHead declared params _ args = Unit {0}

-- each datatype in the sort is declared and has as many parameters as arguments, and no parameter is
-- past the number
abbrev mutual
  pub IsSoundSort : List Declaration → ℕ → Sort → Type 0
  IsSoundSort declared params (sort h ts) = IsSoundHead declared params h (sort_count ts) × AreSoundSorts declared params ts

  pub AreSoundSorts : List Declaration → ℕ → SortList → Type 0
  AreSoundSorts declared params no_sorts = Unit {0}
  AreSoundSorts declared params (more_sorts t ts) = IsSoundSort declared params t × AreSoundSorts declared params ts

-- a sort of a theory other than Core
abbrev pub IsTheoryHead : Head → Type 0
IsTheoryHead head.Bool = ⊥
IsTheoryHead (head.Free d n) = ⊥
IsTheoryHead (head.Data d n) = ⊥
IsTheoryHead (head.Param i) = ⊥
IsTheoryHead _ = Unit {0}

abbrev pub IsTheorySort : Sort → Type 0
IsTheorySort (sort h ts) = IsTheoryHead h

abbrev pub HasTheorySort : List Sort → Type 0
HasTheorySort [] = ⊥
HasTheorySort (s ∷ ss) = IsTheorySort s ⊎ HasTheorySort ss

-- Applications.

-- the sort of a datatype with these values of its parameters
abbrev pub datatype_sort : PlainDatatype → List Sort → Sort
datatype_sort t values = sort (head.Data t.no t.name) (sorts values)

abbrev pub field_sorts : PlainConstructor → List Sort → List Sort
field_sorts c values = map (λ (f : PlainField). inst values f.sort) c.fields

-- the argument sorts and the result sort are those of the declaration, for these values of the
-- parameters of its datatype
abbrev pub HasRankAt : Declaration → List Sort → List Sort → Sort → Type 0
HasRankAt (sort_symbol d n a) values args result = ⊥
HasRankAt (function_symbol d n ss r) values args result = (args ≡ ss) × (result ≡ r)
HasRankAt (datatype t) values args result = ⊥
HasRankAt (constructor_of t c) values args result = (length values ≡ length t.params) × (args ≡ field_sorts c values) × (result ≡ datatype_sort t values)
HasRankAt (selector_of t c f) values args result = (length values ≡ length t.params) × (args ≡ datatype_sort t values ∷ []) × (result ≡ inst values f.sort)
HasRankAt (definition d) values args result = (args ≡ map (λ v. v.1) d.params) × (result ≡ d.result)
HasRankAt (term_name d n t) values args result = (args ≡ []) × (result ≡ plain_sort t)

-- a tester of a constructor takes its datatype
abbrev pub HasTesterRankAt : Declaration → List Sort → List Sort → Sort → Type 0
HasTesterRankAt (constructor_of t c) values args result = (length values ≡ length t.params) × (args ≡ datatype_sort t values ∷ []) × (result ≡ bool)
HasTesterRankAt _ values args result = ⊥

pub record AppliesDeclared (declared : List Declaration) (no_of : DeclNo) (args : List Sort) (result : Sort) : Type 0 where
  pub its : Declaration
  pub is_declared : Contains declared its
  pub number_is : number_given its ≡ no_of.0
  pub values : List Sort
  pub rank : HasRankAt its values args result

pub record AppliesTester (declared : List Declaration) (no_of : DeclNo) (args : List Sort) (result : Sort) : Type 0 where
  pub its : Declaration
  pub is_declared : Contains declared its
  pub number_is : number_given its ≡ no_of.0
  pub values : List Sort
  pub rank : HasTesterRankAt its values args result

-- the names of the functions of Core, from `true` to `ite`, have these numbers in every table
abbrev pub IsCoreName : ℕ → Type 0
IsCoreName n = (47 ≤ n) × (n ≤ 56)

-- a rank of the function of Core with this name has an instance with these sorts
abbrev pub HasCoreRank : ℕ → List Sort → Sort → Type 0
HasCoreRank name args result = HasRank (ranks_of (slice_index_or fixed_texts name []) core_symbols) args result

abbrev pub IsSoundApplication : List Declaration → Fun → ℕ → List Sort → Sort → Type 0
IsSoundApplication declared (fun.Declared d) name args result = AppliesDeclared declared d args result
IsSoundApplication declared (fun.Tester d) name args result = AppliesTester declared d args result
IsSoundApplication declared fun.Theory name args result = (IsCoreName name → HasCoreRank name args result) × ((IsCoreName name → ⊥) → HasTheorySort (result ∷ args))

-- Terms.

-- bound variables with their sorts, the innermost first
abbrev pub Bound : Type 0
Bound = List (ℕ × Sort)

abbrev pub sort_bound : Bound → ℕ → Option Sort
sort_bound [] n = None
sort_bound (v ∷ vs) n = if n == v.0 then Some v.1 else sort_bound vs n

-- each name bound to the sort at its place, the last one innermost
abbrev pub bound_to : List ℕ → List Sort → Bound → Bound
bound_to [] ss outer = outer
bound_to (n ∷ ns) [] outer = outer
bound_to (n ∷ ns) (s ∷ ss) outer = bound_to ns ss ((n, s) ∷ outer)

abbrev pub bound_also : List (ℕ × Sort) → Bound → Bound
bound_also [] outer = outer
bound_also (v ∷ vs) outer = bound_also vs (v ∷ outer)

abbrev pub plain_sorts : Terms (Unit {0}) Sort → List Sort
plain_sorts no_terms = []
plain_sorts (more_terms t ts) = plain_sort t ∷ plain_sorts ts

-- the sort is that of a declared datatype
pub record IsDatatypeSort (declared : List Declaration) (s : Sort) : Type 0 where
  pub its : PlainDatatype
  pub is_declared : Contains declared (datatype its)
  pub values : List Sort
  pub sort_is : s ≡ datatype_sort its values

-- the constructor is one of the datatype, and has as many fields as there are variables
pub record Constructs (declared : List Declaration) (s : Sort) (no_of : DeclNo) (vars : List ℕ) : Type 0 where
  pub its : PlainDatatype
  pub by : PlainConstructor
  pub is_declared : Contains declared (constructor_of its by)
  pub number_is : by.no ≡ no_of
  pub values : List Sort
  pub sort_is : s ≡ datatype_sort its values
  pub fields : length vars ≡ length by.fields

-- the branch holds with the variables of the pattern
abbrev pub IsSoundCase : List Declaration → Bound → Sort → Pattern → (Bound → Type 0) → Type 0
IsSoundCase declared outer s (patterns.Var n) branch = branch ((n, s) ∷ outer)
IsSoundCase declared outer s (patterns.Con d n vs) branch =
    (c : Constructs declared s d vs) × AreDistinct vs × branch (bound_to vs (field_sorts c.by c.values) outer)

abbrev pub AreSoundVars : List Declaration → List (ℕ × Sort) → Type 0
AreSoundVars declared [] = Unit {0}
AreSoundVars declared (v ∷ vs) = IsSoundSort declared 0 v.1 × AreSoundVars declared vs

abbrev mutual
  pub IsSoundTerm : List Declaration → Bound → Term (Unit {0}) Sort → Type 0
  IsSoundTerm declared outer (term u s x) = IsSoundSort declared 0 s × IsSoundNode declared outer s x

  -- a node whose term has this sort
  pub IsSoundNode : List Declaration → Bound → Sort → Node (Unit {0}) Sort → Type 0
  IsSoundNode declared outer s (lit k n) = IsTheorySort s
  IsSoundNode declared outer s (var n) = sort_bound outer n ≡ Some s
  IsSoundNode declared outer s (app f ts) = AreSoundTerms declared outer ts × IsSoundApplication declared f.fun f.name (plain_sorts ts) s
  IsSoundNode declared outer s (let_in vs ts b) =
      (length vs ≡ length (plain_sorts ts)) × AreDistinct vs × AreSoundTerms declared outer ts × IsSoundTerm declared (bound_to vs (plain_sorts ts) outer) b × (plain_sort b ≡ s)
  IsSoundNode declared outer s (quant all vs b) = AreSoundVars declared vs × IsSoundTerm declared (bound_also vs outer) b × (plain_sort b ≡ bool) × (s ≡ bool)
  IsSoundNode declared outer s (match_on t cs) = IsSoundTerm declared outer t × IsDatatypeSort declared (plain_sort t) × AreSoundCases declared outer (plain_sort t) s cs
  IsSoundNode declared outer s (ann b ns) = IsSoundTerm declared outer b × (plain_sort b ≡ s) × AreSoundNotes declared outer ns

  pub AreSoundTerms : List Declaration → Bound → Terms (Unit {0}) Sort → Type 0
  AreSoundTerms declared outer no_terms = Unit {0}
  AreSoundTerms declared outer (more_terms t ts) = IsSoundTerm declared outer t × AreSoundTerms declared outer ts

  -- cases of a match on a term of one sort, with branches of another
  pub AreSoundCases : List Declaration → Bound → Sort → Sort → Cases (Unit {0}) Sort → Type 0
  AreSoundCases declared outer of s no_cases = Unit {0}
  AreSoundCases declared outer of s (more_cases p t cs) = IsSoundCase declared outer of p (λ inner. IsSoundTerm declared inner t) × (plain_sort t ≡ s) × AreSoundCases declared outer of s cs

  pub IsSoundNote : List Declaration → Bound → Note (Unit {0}) Sort → Type 0
  IsSoundNote declared outer (named d n) = Unit {0}
  IsSoundNote declared outer (pattern ts) = AreSoundTerms declared outer ts
  IsSoundNote declared outer (other k v) = Unit {0}

  pub AreSoundNotes : List Declaration → Bound → Notes (Unit {0}) Sort → Type 0
  AreSoundNotes declared outer no_notes = Unit {0}
  AreSoundNotes declared outer (more_notes n ns) = IsSoundNote declared outer n × AreSoundNotes declared outer ns

-- Functions with lower numbers.

abbrev pub IsFunBelow : ℕ → Fun → Type 0
IsFunBelow n (fun.Declared d) = d.0 < n
IsFunBelow n (fun.Tester d) = d.0 < n
IsFunBelow n fun.Theory = Unit {0}

-- each function that the term applies has a lower number
abbrev mutual
  pub AppliesBelow : ℕ → Term (Unit {0}) Sort → Type 0
  AppliesBelow n (term u s x) = NodeAppliesBelow n x

  pub NodeAppliesBelow : ℕ → Node (Unit {0}) Sort → Type 0
  NodeAppliesBelow n (lit k m) = Unit {0}
  NodeAppliesBelow n (var m) = Unit {0}
  NodeAppliesBelow n (app f ts) = IsFunBelow n f.fun × EachAppliesBelow n ts
  NodeAppliesBelow n (let_in vs ts b) = EachAppliesBelow n ts × AppliesBelow n b
  NodeAppliesBelow n (quant all vs b) = AppliesBelow n b
  NodeAppliesBelow n (match_on t cs) = AppliesBelow n t × CasesApplyBelow n cs
  NodeAppliesBelow n (ann b ns) = AppliesBelow n b × NotesApplyBelow n ns

  pub EachAppliesBelow : ℕ → Terms (Unit {0}) Sort → Type 0
  EachAppliesBelow n no_terms = Unit {0}
  EachAppliesBelow n (more_terms t ts) = AppliesBelow n t × EachAppliesBelow n ts

  pub CasesApplyBelow : ℕ → Cases (Unit {0}) Sort → Type 0
  CasesApplyBelow n no_cases = Unit {0}
  CasesApplyBelow n (more_cases p t cs) = AppliesBelow n t × CasesApplyBelow n cs

  pub NoteAppliesBelow : ℕ → Note (Unit {0}) Sort → Type 0
  NoteAppliesBelow n (named d m) = Unit {0}
  NoteAppliesBelow n (pattern ts) = EachAppliesBelow n ts
  NoteAppliesBelow n (other k v) = Unit {0}

  pub NotesApplyBelow : ℕ → Notes (Unit {0}) Sort → Type 0
  NotesApplyBelow n no_notes = Unit {0}
  NotesApplyBelow n (more_notes m ms) = NoteAppliesBelow n m × NotesApplyBelow n ms
