-- When the patterns of a match cover a datatype (SMT-LIB 2.6, section 3.6.1).
use Rattle.std.specs.Prelude.{◌⊎◌, Bool, nat_eq, true, false, IsTrue, List}
use Rattle.std.specs.List.{All, Any}
use Rattle.sort_store.specs.declared.head.DeclNo.{DeclNo}
use Rattle.term_store.specs.Command.{PlainConstructor, PlainDatatype}
use Rattle.term_store.specs.declared.parts.Pattern.{Pattern}
use Rattle.term_store.specs.declared.parts.Pattern.TheVariants as patterns

-- the pattern is a variable, which matches each value
abbrev pub is_variable : Pattern → Bool
is_variable (patterns.Var n) = true
is_variable (patterns.Con d n vs) = false

-- the pattern begins with the constructor of this number
abbrev pub is_of_constructor : DeclNo → Pattern → Bool
is_of_constructor decl (patterns.Var n) = false
is_of_constructor decl (patterns.Con d n vs) = nat_eq d.0 decl.0

-- some pattern begins with the constructor
abbrev pub HasPattern : List Pattern → PlainConstructor → Type 0
HasPattern ps c = Any (λ p. IsTrue (is_of_constructor c.no p)) ps

-- a pattern is a variable, or every constructor of the datatype has a pattern
abbrev pub Covers : List Pattern → PlainDatatype → Type 0
Covers ps t = Any (λ p. IsTrue (is_variable p)) ps ⊎ All (HasPattern ps) t.constructors
