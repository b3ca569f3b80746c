-- The rules on the patterns of a match (SMT-LIB 2.6, section 3.6.1): one list of items for each production.
use Rattle.std.specs.Prelude.{◌≡◌, ℕ, ◌==◌, false, List, [], ◌∷◌, ◌++◌, Option, Some, None, length}
use Rattle.std.specs.List.{list_any}
use Rattle.std.specs.List as lists
use Rattle.lex_core.specs.declared.token.Tok.{Tok}
use Rattle.sig_table.specs.declared.code.Code.TheVariants.{RepeatedVariable, UnknownConstructor, WrongPatternArity}
use Rattle.judgement.specs.Judging.{Judging, done, ◌>>=◌, check, find}
use Rattle.term_grammar.specs.Syntax.{symbol_pattern, constructor_pattern}
use Rattle.term_grammar.specs.Syntax as syntax
use Rattle.term_store.specs.Command.{PlainConstructor, PlainDatatype}
use Rattle.term_store.specs.declared.parts.Pattern.{Pattern}
use Rattle.term_store.specs.declared.parts.Pattern.TheVariants as patterns

-- the constructor of the datatype with this name
abbrev pub constructor_named : PlainDatatype → ℕ → Option PlainConstructor
constructor_named t name = lists.find (λ c. c.name == name) t.constructors

-- a symbol alone: a constructor, which has no fields, or else a variable
abbrev pub judge_constant : Tok → Option PlainConstructor → Judging Pattern
judge_constant s None = done (patterns.Var s.name)
judge_constant s (Some c) = do
  _ ← check (length c.fields ≡ 0) WrongPatternArity s.at
  done (patterns.Con c.no c.name [])

-- the names of the variables after those before, none of them repeated; the later one is the fault
abbrev pub judge_variables : List ℕ → List Tok → Judging (List ℕ)
judge_variables before [] = done before
judge_variables before (v ∷ vs) = do
  _ ← check (list_any (λ n. n == v.name) before ≡ false) RepeatedVariable v.at
  judge_variables (before ++ v.name ∷ []) vs

-- a list: a constructor with as many variables as it has fields
abbrev pub judge_constructor : PlainDatatype → ℕ → Tok → List Tok → Judging Pattern
judge_constructor t at s vs = do
  c ← find (λ c. constructor_named t s.name ≡ Some c) UnknownConstructor at
  _ ← check (length vs ≡ length c.fields) WrongPatternArity at
  names ← judge_variables [] vs
  done (patterns.Con c.no c.name names)

-- a pattern of a match on a term of the datatype
abbrev pub judge_pattern : PlainDatatype → syntax.Pattern → Judging Pattern
judge_pattern t (symbol_pattern s) = judge_constant s (constructor_named t s.name)
judge_pattern t (constructor_pattern at s vs) = judge_constructor t at s vs
