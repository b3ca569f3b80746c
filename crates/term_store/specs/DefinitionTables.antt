-- The tables of the definitions and datatypes that are kept lead from numbers to what has the number.
use Rattle.std.specs.Prelude.{◌≡◌, ℕ, Bool, List, ◌==◌}
use Rattle.std.specs.List.{All}
use Rattle.term_store.specs.declared.command.Def.{Def}
use Rattle.term_store.specs.declared.command.Datatype.{Datatype}

abbrev pub AreDefs : List (ℕ × Def) → Type 0
AreDefs entries = All (λ (e : ℕ × Def). e.0 ≡ e.1.no.0) entries

abbrev pub AreDatatypes : List (ℕ × Datatype) → Type 0
AreDatatypes entries = All (λ (e : ℕ × Datatype). e.0 ≡ e.1.no.0) entries

-- the number at which a look-up seeks
abbrev pub is_number : ℕ → ℕ → Bool
is_number a b = a == b
