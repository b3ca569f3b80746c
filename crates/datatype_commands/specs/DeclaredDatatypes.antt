-- What a declared group leaves: its sort symbols are live, and then its constructors and selectors (SMT-LIB 2.6, section 4.2.3).
use Rattle.std.specs.Prelude.{List, [], ◌∷◌, length, map}
use Rattle.scope_stack.specs.declared.entry.FunKind.TheVariants as kind
use Rattle.term_store.specs.Command.{PlainConstructor, PlainDatatype, PlainField}
use Rattle.dt_rules.specs.Groups.{own_sort}
use Rattle.typer.specs.Declarations.{Declarations, FunDeclaration, data_sort, with_fun, with_sort}

-- the sort symbols of a group
abbrev pub with_sorts : Declarations → List PlainDatatype → Declarations
with_sorts d [] = d
with_sorts d (t ∷ ts) = with_sorts (with_sort t.name (data_sort t.no (length t.params)) d) ts

-- a constructor takes its fields and gives the datatype, a selector takes the datatype and gives its field
abbrev pub constructor_symbol : PlainDatatype → PlainConstructor → FunDeclaration
constructor_symbol t c = record { number = c.no; kind = kind.Constructor; params = length t.params; args = map (λ f. f.sort) c.fields; result = own_sort t }

abbrev pub selector_symbol : PlainDatatype → PlainField → FunDeclaration
selector_symbol t f = record { number = f.no; kind = kind.Selector; params = length t.params; args = own_sort t ∷ []; result = f.sort }

abbrev pub with_selectors : Declarations → PlainDatatype → List PlainField → Declarations
with_selectors d t [] = d
with_selectors d t (f ∷ fs) = with_selectors (with_fun f.name (selector_symbol t f) d) t fs

-- each constructor, followed by its selectors
abbrev pub with_constructors : Declarations → PlainDatatype → List PlainConstructor → Declarations
with_constructors d t [] = d
with_constructors d t (c ∷ cs) = with_constructors (with_selectors (with_fun c.name (constructor_symbol t c) d) t c.fields) t cs

-- those of a group, datatype by datatype
abbrev pub with_parts : Declarations → List PlainDatatype → Declarations
with_parts d [] = d
with_parts d (t ∷ ts) = with_parts (with_constructors d t t.constructors) ts
