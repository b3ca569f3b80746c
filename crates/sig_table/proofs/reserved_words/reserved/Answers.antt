use Rattle.std.proofs.Common.{◌≡◌, List, ◌∷◌, refl, ◌∙◌}
use Rattle.sig_table.specs.Row.{Row}
use Rattle.sig_table.proofs.reserved_words.reserved.Goals as goal

-- equal rows in front of equal rows
next : {r s : Row} {rows others : List Row} → r ≡ s → rows ≡ others → r ∷ rows ≡ s ∷ others
next p q = cc

pub returns : goal.returns
returns c =
    c.of.ensures
    ∙ next c.row.ensures
    (next c.row-2.ensures
    (next c.row-3.ensures
    (next c.row-4.ensures
    (next c.row-5.ensures
    (next c.row-6.ensures
    (next c.row-7.ensures
    (next c.row-8.ensures
    (next c.row-9.ensures
    (next c.row-10.ensures
    (next c.row-11.ensures
    (next c.row-12.ensures
    (next c.row-13.ensures
    (next c.row-14.ensures
    (next c.row-15.ensures
    (next c.row-16.ensures
    (next c.row-17.ensures
    (next c.row-18.ensures
    (next c.row-19.ensures
    (next c.row-20.ensures
    (next c.row-21.ensures
    (next c.row-22.ensures
    (next c.row-23.ensures
    (next c.row-24.ensures
    (next c.row-25.ensures
    (next c.row-26.ensures
    (next c.row-27.ensures
    (next c.row-28.ensures
    (next c.row-29.ensures
    (next c.row-30.ensures
    (next c.row-31.ensures
    (next c.row-32.ensures
    (next c.row-33.ensures
    (next c.row-34.ensures
    (next c.row-35.ensures
    (next c.row-36.ensures
    (next c.row-37.ensures
    (next c.row-38.ensures
    (next c.row-39.ensures
    (next c.row-40.ensures
    (next c.row-41.ensures
    (next c.row-42.ensures
    (next c.row-43.ensures
    refl))))))))))))))))))))))))))))))))))))))))))
