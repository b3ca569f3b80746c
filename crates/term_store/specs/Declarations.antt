-- What the commands of a script give declaration numbers to: declared sorts and functions, datatypes
-- with their constructors and selectors, definitions, and named terms (SMT-LIB 2.6, sections 3.6 and
-- 4.2.3).
use Rattle.std.specs.Prelude.{ℕ, List, [], ◌∷◌, ◌++◌, map}
use Rattle.sort_store.specs.declared.head.DeclNo.{DeclNo}
use Rattle.sort_store.specs.Tree.{Sort}
use Rattle.term_store.specs.Command.{PlainField, PlainConstructor, PlainDatatype, PlainDef, PlainCommand}
use Rattle.term_store.specs.Command as command
use Rattle.term_store.specs.Term.{PlainTerm, Node, Terms, Cases, Note, Notes, term, lit, var, app, let_in, quant, match_on, ann, no_terms, more_terms, no_cases, more_cases, named, pattern, other, no_notes, more_notes}

pub data Declaration : Type 0 where
  -- a sort symbol with its name and arity
  sort_symbol : DeclNo → ℕ → ℕ → Declaration
  -- a function symbol with its name, its argument sorts and its result sort
  function_symbol : DeclNo → ℕ → List Sort → Sort → Declaration
  datatype : PlainDatatype → Declaration
  constructor_of : PlainDatatype → PlainConstructor → Declaration
  selector_of : PlainDatatype → PlainConstructor → PlainField → Declaration
  definition : PlainDef → Declaration
  -- a name for the term under the annotation
  term_name : DeclNo → ℕ → PlainTerm → Declaration

abbrev pub number_given : Declaration → ℕ
number_given (sort_symbol d n a) = d.0
number_given (function_symbol d n args r) = d.0
number_given (datatype t) = t.no.0
number_given (constructor_of t c) = c.no.0
number_given (selector_of t c f) = f.no.0
number_given (definition d) = d.no.0
number_given (term_name d n t) = d.0

-- all lists, one after the other
abbrev pub joined : List (List Declaration) → List Declaration
joined [] = []
joined (ds ∷ dss) = ds ++ joined dss

-- the named terms in a term, in reading order
abbrev mutual
  pub names_in : PlainTerm → List Declaration
  names_in (term n s x) = names_in_node x

  pub names_in_node : Node (Unit {0}) Sort → List Declaration
  names_in_node (lit k n) = []
  names_in_node (var n) = []
  names_in_node (app f ts) = names_in_each ts
  names_in_node (let_in vs ts b) = names_in_each ts ++ names_in b
  names_in_node (quant all vs b) = names_in b
  names_in_node (match_on t cs) = names_in t ++ names_in_cases cs
  names_in_node (ann b ns) = names_in b ++ names_in_notes b ns

  pub names_in_each : Terms (Unit {0}) Sort → List Declaration
  names_in_each no_terms = []
  names_in_each (more_terms t ts) = names_in t ++ names_in_each ts

  pub names_in_cases : Cases (Unit {0}) Sort → List Declaration
  names_in_cases no_cases = []
  names_in_cases (more_cases p t cs) = names_in t ++ names_in_cases cs

  -- in an attribute of this term
  pub names_in_note : PlainTerm → Note (Unit {0}) Sort → List Declaration
  names_in_note t (named d n) = term_name d n t ∷ []
  names_in_note t (pattern ts) = names_in_each ts
  names_in_note t (other k v) = []

  pub names_in_notes : PlainTerm → Notes (Unit {0}) Sort → List Declaration
  names_in_notes t no_notes = []
  names_in_notes t (more_notes n ns) = names_in_note t n ++ names_in_notes t ns

abbrev pub names_in_all : List PlainTerm → List Declaration
names_in_all ts = joined (map names_in ts)

abbrev pub of_constructor : PlainDatatype → PlainConstructor → List Declaration
of_constructor t c = constructor_of t c ∷ map (selector_of t c) c.fields

-- the constructors of a datatype, each followed by its selectors
abbrev pub parts_of : PlainDatatype → List Declaration
parts_of t = joined (map (of_constructor t) t.constructors)

-- the datatypes that are declared together come first, and then their parts
abbrev pub of_group : List PlainDatatype → List Declaration
of_group ts = map datatype ts ++ joined (map parts_of ts)

-- what a command gives numbers to
abbrev pub declared_by : PlainCommand → List Declaration
declared_by (command.assert t) = names_in t
declared_by (command.check_sat_assuming ts) = names_in_all ts
declared_by (command.declare_const d n s) = function_symbol d n [] s ∷ []
declared_by (command.declare_datatype t) = of_group (t ∷ [])
declared_by (command.declare_datatypes ts) = of_group ts
declared_by (command.declare_fun d n args r) = function_symbol d n args r ∷ []
declared_by (command.declare_sort d n a) = sort_symbol d n a ∷ []
declared_by (command.define_fun d) = definition d ∷ names_in d.body
declared_by (command.define_fun_rec d) = definition d ∷ names_in d.body
declared_by (command.define_funs_rec ds) = map definition ds ++ names_in_all (map (λ d. d.body) ds)
declared_by (command.get_value ts) = names_in_all ts
declared_by _ = []

abbrev pub declared_in : List PlainCommand → List Declaration
declared_in cs = joined (map declared_by cs)
