-- A definition that the program keeps, looked up by its trees.
use Rattle.std.proofs.Common.{◌≡◌, ℕ, ◌==◌, ◌≤◌, Bool, true, false, List, [], ◌∷◌, length, map, Some, None, if◌then◌else◌, refl, arith}
use Rattle.std.specs.Option.{option_map}
use Rattle.sort_store.specs.declared.head.DeclNo.{DeclNo}
use Rattle.sort_store.specs.Tree.{NumberedSort}
use Rattle.term_store.specs.Command.{plain_def}
use Rattle.term_store.specs.declared.command.Def.{Def}
use Rattle.term_store.specs.Definitions.{Definitions, def_at, def_in}
use Rattle.term_store.specs.Term.{PlainTerm, plain_var}
use Rattle.logic_frag.specs.Following.{body_without, plain_defs}
use Rattle.logic_frag.specs.Occurrences.{no_variables, seen_in}
use Rattle.logic_frag.specs.StandsFor.{definition_at}

plain_found : (ds : List Def) (n : DeclNo) → definition_at (map plain_def ds) n ≡ option_map plain_def (def_in ds n.0)
plain_found [] n = refl
plain_found (d ∷ ds) n = by (n.0 == d.no.0) (plain_found ds n)
  where
    by : (b : Bool) → definition_at (map plain_def ds) n ≡ option_map plain_def (def_in ds n.0)
        → (if b then Some (plain_def d) else definition_at (map plain_def ds) n) ≡ option_map plain_def (if b then Some d else def_in ds n.0)
    by true e = refl
    by false e = e

pub definition_plain : (kept : Definitions) (n : DeclNo) → definition_at (plain_defs kept) n ≡ option_map plain_def (def_at kept n)
definition_plain kept n = plain_found kept.defs n

-- the body of a definition, by its parameters

pub without_variables : (ps : List (ℕ × NumberedSort)) (t : PlainTerm) → length ps ≡ 0 → body_without (map plain_var ps) false t ≡ Some (seen_in no_variables t)
without_variables [] t l = refl
without_variables (p ∷ ps) t l = absurd (omega (arith, l))

pub with_variables : (ps : List (ℕ × NumberedSort)) (recursive : Bool) (t : PlainTerm) → 1 ≤ length ps → body_without (map plain_var ps) recursive t ≡ None
with_variables [] recursive t l = absurd (omega (arith, l))
with_variables (p ∷ ps) false t l = refl
with_variables (p ∷ ps) true t l = refl

pub with_recursion : (ps : List (ℕ × NumberedSort)) (t : PlainTerm) → body_without (map plain_var ps) true t ≡ None
with_recursion [] t = refl
with_recursion (p ∷ ps) t = refl

pub ruleset kept_words = (definition_plain, without_variables, with_variables, with_recursion)
