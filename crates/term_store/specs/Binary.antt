-- Binary trees with labels, and their code: a data type that holds itself is stored as one.
use Rattle.std.specs.Prelude.{◌≡◌, List, [], ◌∷◌, Option, Some, None, refl}
use Rattle.std.specs.Coded.{Coded, code_by, coded_list, coded_option}
use Rattle.std.proofs.Common.{ap, ◌∙◌}

pub data Binary (L : Type 0) : Type 0 where
  tip : Binary L
  fork : L → Binary L → Binary L → Binary L

module _ {L : Type 0} where
  abbrev pub entries_before : Binary L → List (Option L) → List (Option L)
  entries_before tip ts = None ∷ ts
  entries_before (fork l a b) ts = Some l ∷ entries_before a (entries_before b ts)

  abbrev pub forked : L → List (Binary L) → List (Binary L)
  forked l [] = []
  forked l (a ∷ []) = []
  forked l (a ∷ (b ∷ st)) = fork l a b ∷ st

  abbrev pub step : Option L → List (Binary L) → List (Binary L)
  step None st = tip ∷ st
  step (Some l) st = forked l st

  abbrev pub read : List (Option L) → List (Binary L)
  read [] = []
  read (t ∷ ts) = step t (read ts)

  abbrev pub first : List (Binary L) → Binary L
  first [] = tip
  first (t ∷ st) = t

  abbrev pub decoded : List (Option L) → Binary L
  decoded ts = first (read ts)

  abbrev pub entries : Binary L → List (Option L)
  entries t = entries_before t []

  read-entries_before : (t : Binary L) (ts : List (Option L)) → read (entries_before t ts) ≡ t ∷ read ts
  read-entries_before tip ts = refl
  read-entries_before (fork l a b) ts = ap (forked l) (read-entries_before a (entries_before b ts) ∙ ap (λ z. a ∷ z) (read-entries_before b ts))

  pub decoded-entries : (t : Binary L) → decoded (entries t) ≡ t
  decoded-entries t = ap first (read-entries_before t [])

  abbrev pub binary_code : Coded L → Coded (Binary L)
  binary_code c = code_by (List (Option L)) (coded_list (coded_option c)) entries decoded decoded-entries
