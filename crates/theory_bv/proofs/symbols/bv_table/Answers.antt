use Rattle.std.proofs.Common.{◌≡◌, List, ◌∷◌, refl, ◌∙◌}
use Rattle.sig_table.specs.Row.{Row}
use Rattle.theory_bv.proofs.symbols.bv_table.Goals as goal

-- equal rows in front of equal rows
next : {r s : Row} {rows others : List Row} → r ≡ s → rows ≡ others → r ∷ rows ≡ s ∷ others
next p q = cc

pub returns : goal.returns
returns c =
    c.of.ensures
    ∙ next c.rows-row.ensures
    (next c.rows-row-2.ensures
    (next c.rows-row-3.ensures
    (next c.rows-row-4.ensures
    (next c.rows-row-5.ensures
    (next c.rows-row-6.ensures
    (next c.rows-row-7.ensures
    (next c.rows-row-8.ensures
    (next c.rows-row-9.ensures
    (next c.rows-row-10.ensures
    (next c.rows-row-11.ensures
    (next c.rows-row-12.ensures
    (next c.rows-row-13.ensures
    (next c.rows-row-14.ensures
    (next c.rows-row-15.ensures
    (next c.rows-row-16.ensures
    (next c.rows-row-17.ensures
    (next c.rows-row-18.ensures
    (next c.rows-row-19.ensures
    (next c.rows-row-20.ensures
    (next c.rows-row-21.ensures
    (next c.rows-row-22.ensures
    (next c.rows-row-23.ensures
    (next c.rows-row-24.ensures
    (next c.rows-row-25.ensures
    (next c.rows-row-26.ensures
    (next c.rows-row-27.ensures
    (next c.rows-row-28.ensures
    (next c.rows-row-29.ensures
    (next c.rows-row-30.ensures
    (next c.rows-row-31.ensures
    (next c.rows-row-32.ensures
    (next c.rows-row-33.ensures
    (next c.rows-row-34.ensures
    (next c.rows-row-35.ensures
    refl))))))))))))))))))))))))))))))))))
