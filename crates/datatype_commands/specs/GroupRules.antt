-- The rules of the commands that declare datatypes (SMT-LIB 2.6, section 4.2.3): for each part its items in their order. The names
-- of a group are judged first, each live for those after it, and then each datatype with its constructors and selectors.
use Rattle.std.specs.Prelude.{◌≡◌, ℕ, ◌+◌, ◌<◌, ◌^◌, ◌==◌, false, ◌||◌, List, [], ◌∷◌, ◌++◌, length, map}
use Rattle.std.specs.List.{list_any}
use Rattle.lex_core.specs.declared.token.Tok.{Tok}
use Rattle.sig_table.specs.declared.code.Code.TheVariants.{DatatypeNameInUse, NotWellFounded, NumberTooLarge, SortNameInUse, UnfoldingTooLarge, WrongParameterCount}
use Rattle.judgement.specs.Judging.{Judging, ◌>>=◌, check, done, refuse}
use Rattle.sort_store.specs.declared.head.DeclNo.{DeclNo}
use Rattle.term_grammar.specs.Syntax.{SortedSymbol}
use Rattle.cmd_grammar.specs.Commands.{ConstructorDec, DataDec, SortDec, parametric_data, plain_data}
use Rattle.cmd_grammar.specs.DeclarationViews.{data_dec_at}
use Rattle.term_store.specs.Command.{PlainConstructor, PlainDatatype, PlainField}
use Rattle.dt_rules.specs.Groups.{known, own_sort}
use Rattle.dt_rules.specs.PatternRules.{judge_variables}
use Rattle.dt_rules.specs.Unfolding.{IsSettled, IsTooWide}
use Rattle.typer.specs.Declarations.{Declarations, data_sort, with_sort}
use Rattle.typer.specs.FunctionSymbols.{Signature, is_fun_in_use, is_sort_in_use, text_of}
use Rattle.typer.specs.Numerals.{numeral_value}
use Rattle.typer.specs.SortRules.{judge_sort}
use Rattle.datatype_commands.specs.declared.symbols.DatatypeSymbol.{DatatypeSymbol}

-- the sort symbol of a datatype is live
abbrev pub with_symbol : Declarations → DatatypeSymbol → Declarations
with_symbol d s = with_sort s.name.name (data_sort s.no s.arity) d

abbrev pub with_symbols : Declarations → List DatatypeSymbol → Declarations
with_symbols d [] = d
with_symbols d (s ∷ ss) = with_symbols (with_symbol d s) ss

abbrev pub under_symbol : Signature → DatatypeSymbol → Signature
under_symbol signature s = record signature { declarations = with_symbol signature.declarations s }

abbrev pub under_symbols : Signature → List DatatypeSymbol → Signature
under_symbols signature ss = record signature { declarations = with_symbols signature.declarations ss }

-- ( symbol numeral ): the sort symbol with its arity, under this number
abbrev pub judge_symbol : Signature → ℕ → SortDec → Judging DatatypeSymbol
judge_symbol signature number d = do
  _ ← check (is_sort_in_use signature d.name.name ≡ false) SortNameInUse d.name.at
  _ ← check (numeral_value (text_of signature d.arity.name) < 2 ^ 32) NumberTooLarge d.arity.at
  done (record { no = record { 0 = number }; name = d.name; arity = numeral_value (text_of signature d.arity.name) })

abbrev pub judge_symbols : Signature → ℕ → List SortDec → Judging (List DatatypeSymbol)
judge_symbols signature number [] = done []
judge_symbols signature number (d ∷ ds) = do
  s ← judge_symbol signature number d
  ss ← judge_symbols (under_symbol signature s) (number + 1) ds
  done (s ∷ ss)

-- The name of a constructor or a selector is in use where a function has it, or a constructor or selector of the group before it.
-- Its number comes after those of these names, the first of which has this number.
abbrev pub judge_part : Signature → ℕ → List ℕ → Tok → Judging DeclNo
judge_part signature first before t = do
  _ ← check ((is_fun_in_use signature t.name || list_any (λ n. n == t.name) before) ≡ false) DatatypeNameInUse t.at
  done (record { 0 = first + length before })

-- ( symbol sort )
abbrev pub judge_selector : Signature → List ℕ → ℕ → List ℕ → SortedSymbol → Judging PlainField
judge_selector signature params first before f = do
  number ← judge_part signature first before f.name
  s ← judge_sort signature.texts signature.declarations signature.theories params f.sort
  done (record { no = number; name = f.name.name; sort = s })

abbrev pub judge_selectors : Signature → List ℕ → ℕ → List ℕ → List SortedSymbol → Judging (List PlainField)
judge_selectors signature params first before [] = done []
judge_selectors signature params first before (f ∷ fs) = do
  field ← judge_selector signature params first before f
  fields ← judge_selectors signature params first (before ++ field.name ∷ []) fs
  done (field ∷ fields)

-- ( symbol selector* )
abbrev pub judge_constructor : Signature → List ℕ → ℕ → List ℕ → ConstructorDec → Judging PlainConstructor
judge_constructor signature params first before c = do
  number ← judge_part signature first before c.name
  fields ← judge_selectors signature params first (before ++ c.name.name ∷ []) c.selectors
  done (record { no = number; name = c.name.name; fields = fields })

-- the names of a constructor and its selectors
abbrev pub part_names : PlainConstructor → List ℕ
part_names c = c.name ∷ map (λ f. f.name) c.fields

abbrev pub all_part_names : List PlainConstructor → List ℕ
all_part_names [] = []
all_part_names (c ∷ cs) = part_names c ++ all_part_names cs

abbrev pub judge_constructors : Signature → List ℕ → ℕ → List ℕ → List ConstructorDec → Judging (List PlainConstructor)
judge_constructors signature params first before [] = done []
judge_constructors signature params first before (c ∷ cs) = do
  constructor ← judge_constructor signature params first before c
  constructors ← judge_constructors signature params first (before ++ part_names constructor) cs
  done (constructor ∷ constructors)

-- the sort parameters and the constructors that a declaration of a datatype has
abbrev pub params_of : DataDec → List Tok
params_of (plain_data at cs) = []
params_of (parametric_data at ps cs) = ps

abbrev pub constructors_of : DataDec → List ConstructorDec
constructors_of (plain_data at cs) = cs
constructors_of (parametric_data at ps cs) = cs

-- as many parameters as the arity of the sort symbol, none of them repeated
abbrev pub judge_params : DatatypeSymbol → DataDec → Judging (List ℕ)
judge_params s d = do
  _ ← check (length (params_of d) ≡ s.arity) WrongParameterCount (data_dec_at d)
  judge_variables [] (params_of d)

-- the datatype of a sort symbol
abbrev pub judge_datatype : Signature → ℕ → List ℕ → DatatypeSymbol → DataDec → Judging PlainDatatype
judge_datatype signature first before s d = do
  params ← judge_params s d
  constructors ← judge_constructors signature params first before (constructors_of d)
  done (record { no = s.no; name = s.name.name; params = params; constructors = constructors })

abbrev pub judge_datatypes : Signature → ℕ → List ℕ → ℕ → List DatatypeSymbol → List DataDec → Judging (List PlainDatatype)
judge_datatypes signature first before at [] ds = done []
judge_datatypes signature first before at (s ∷ ss) [] = refuse WrongParameterCount at
judge_datatypes signature first before at (s ∷ ss) (d ∷ ds) = do
  t ← judge_datatype signature first before s d
  ts ← judge_datatypes signature first (before ++ all_part_names t.constructors) at ss ds
  done (t ∷ ts)

-- each datatype is settled; the name of the first that is not is the fault
abbrev pub judge_settled : List PlainDatatype → List PlainDatatype → List DatatypeSymbol → List PlainDatatype → Judging (Unit {0})
judge_settled ts group [] left = done tt
judge_settled ts group (s ∷ ss) [] = done tt
judge_settled ts group (s ∷ ss) (t ∷ left) = do
  _ ← check (IsSettled ts group (own_sort t)) NotWellFounded s.name.at
  judge_settled ts group ss left

-- a group, whose command begins at this byte, among the datatypes declared before
abbrev pub judge_whole : List PlainDatatype → ℕ → List DatatypeSymbol → List PlainDatatype → Judging (Unit {0})
judge_whole kept at ss group = do
  _ ← check (IsTooWide (known kept group) group → ⊥) UnfoldingTooLarge at
  judge_settled (known kept group) group ss group

-- `declare-datatypes`: each sort symbol of the group is live in all fields
abbrev pub judge_group : Signature → ℕ → List SortDec → List DataDec → Judging (List PlainDatatype)
judge_group signature at ss ds = do
  symbols ← judge_symbols signature signature.first ss
  _ ← check (length ds ≡ length ss) WrongParameterCount at
  group ← judge_datatypes (under_symbols signature symbols) (signature.first + length symbols) [] at symbols ds
  _ ← judge_whole signature.datatypes at symbols group
  done group

-- `declare-datatype`: a group of one, whose sort symbol takes as many arguments as the datatype has parameters
abbrev pub only_symbol : Signature → Tok → DataDec → DatatypeSymbol
only_symbol signature n d = record { no = record { 0 = signature.first }; name = n; arity = length (params_of d) }

abbrev pub judge_single : Signature → ℕ → Tok → DataDec → Judging PlainDatatype
judge_single signature at n d = do
  _ ← check (is_sort_in_use signature n.name ≡ false) SortNameInUse n.at
  t ← judge_datatype (under_symbol signature (only_symbol signature n d)) (signature.first + 1) [] (only_symbol signature n d) d
  _ ← judge_whole signature.datatypes at (only_symbol signature n d ∷ []) (t ∷ [])
  done t
