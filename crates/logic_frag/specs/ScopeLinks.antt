-- The binders of a frame and those outside of it, the innermost first.
use Rattle.std.specs.Prelude.{List, [], ◌∷◌}
use Rattle.logic_frag.specs.declared.binder.Binder.{Binder}
use Rattle.logic_frag.specs.declared.scope.Frame.{Frame}
use Rattle.logic_frag.specs.declared.scope.Frame.TheVariants.{Outermost, Inner}

abbrev pub binders_from : Frame → List Binder
binders_from Outermost = []
binders_from (Inner b outer) = b ∷ outer
