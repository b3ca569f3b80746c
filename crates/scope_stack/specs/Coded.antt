-- How the values that contracts see of scopes are stored.
use Rattle.std.specs.Prelude.{ℕ, Bool, List, refl}
use Rattle.std.specs.Coded.{Coded, code_by, coded×, coded_bool, coded_list, coded_ℕ}
use Rattle.scope_stack.specs.contracts.entry.FunEntry as fun_entry
use Rattle.scope_stack.specs.contracts.entry.SortEntry as sort_entry
use Rattle.scope_stack.specs.declared.entry.FunEntry.{FunEntry}
use Rattle.scope_stack.specs.declared.entry.SortEntry.{SortEntry}
use Rattle.scope_stack.specs.Levels.{Levels, levels_of}
use Rattle.scope_stack.specs.Environment.{Environment}

abbrev pub level_code : {X : Type 0} → Coded X → Coded (List (ℕ × X))
level_code x = coded_list (coded× coded_ℕ x)

abbrev pub levels_code : {X : Type 0} → Coded X → Coded (Levels X)
levels_code {X} x =
    code_by (List (ℕ × X) × (List (List (ℕ × X)) × List (ℕ × X))) (coded× (level_code x) (coded× (coded_list (level_code x)) (level_code x)))
    (λ s. (s.first, (s.pushed, s.globals))) (λ p. levels_of p.0 p.1.0 p.1.1) (λ _. refl)

abbrev pub environment_code : Coded Environment
environment_code =
    code_by (Levels FunEntry × (Levels SortEntry × Bool)) (coded× (levels_code fun_entry.the_row.coded) (coded× (levels_code sort_entry.the_row.coded) coded_bool))
    (λ e. (e.funs, (e.sorts, e.global))) (λ p. record { funs = p.0; sorts = p.1.0; global = p.1.1 }) (λ _. refl)
