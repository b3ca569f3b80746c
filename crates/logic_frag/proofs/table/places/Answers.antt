use Rattle.std.proofs.Common.{◌≡◌, List, ◌∷◌, IsTrue, lit<, lit≤, refl, sym, subst}
use Rattle.sig_table.specs.Row.{Row, is_ascending}
use Rattle.logic_frag.specs.Places.{logic_rows}
use Rattle.logic_frag.proofs.table.places.Goals as goal

-- equal rows in front of equal rows
next : {r s : Row} {rows others : List Row} → r ≡ s → rows ≡ others → r ∷ rows ≡ s ∷ others
next p q = cc

ascending : (rows : List Row) → rows ≡ logic_rows → IsTrue (is_ascending rows)
ascending rows e = subst (λ rs. IsTrue (is_ascending rs)) (sym e) refl

pub of-requires : goal.of-requires
of-requires c =
    let names = ascending _
    (next c.rows-row.ensures
    (next c.rows-row-2.ensures
    (next c.rows-row-3.ensures
    (next c.rows-row-4.ensures
    (next c.rows-row-5.ensures
    (next c.rows-row-6.ensures
    (next c.rows-row-7.ensures
    (next c.rows-row-8.ensures
    (next c.rows-row-9.ensures
    (next c.rows-row-10.ensures
    (next c.rows-row-11.ensures
    (next c.rows-row-12.ensures
    (next c.rows-row-13.ensures
    (next c.rows-row-14.ensures
    (next c.rows-row-15.ensures
    (next c.rows-row-16.ensures
    (next c.rows-row-17.ensures
    (next c.rows-row-18.ensures
    (next c.rows-row-19.ensures
    (next c.rows-row-20.ensures
    (next c.rows-row-21.ensures
    (next c.rows-row-22.ensures
    (next c.rows-row-23.ensures
    (next c.rows-row-24.ensures
    (next c.rows-row-25.ensures
    (next c.rows-row-26.ensures
    (next c.rows-row-27.ensures
    (next c.rows-row-28.ensures
    refl)))))))))))))))))))))))))))) in
    (lit< tt, (lit< tt, (names, lit≤ tt)))
