-- A logic is set in a scope where its environment has one.
use Rattle.std.proofs.Common.{◌≡◌, false, true, Option, Some, None, refl, sym, ◌∙◌}
use Rattle.std.specs.Option.{IsSome, is_some, option_map}
use Rattle.std.proofs.lemmas.Bool.{false≢true}
use Rattle.logic_frag.specs.declared.logic.Logic.{Logic}
use Rattle.logic_frag.specs.Logics.{described}

pub some_described : (o : Option Logic) → is_some (option_map described o) ≡ is_some o
some_described None = refl
some_described (Some l) = refl

-- where a logic is set, declarations may be live
pub under_logic : {A : Type 0} (logic : Option Logic) → IsSome logic → is_some logic ≡ false → A
under_logic logic set unset = absurd (false≢true (sym unset ∙ set))
