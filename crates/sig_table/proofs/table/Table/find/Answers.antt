use Rattle.std.proofs.Common.{◌≡◌, ◌∷◌, [], List, Ok, Err, true, get_or, sym, ◌∙◌, ap, subst}
use Rattle.sig_table.specs.Row.{Row, is_ascending}
use Rattle.sig_table.proofs.Ascending.{searched}
use Rattle.sig_table.proofs.table.Table.find.Goals as goal

pub returns-in-Ok : goal.returns-in-Ok
returns-in-Ok g c =
    let ascending : is_ascending c.args.self.now ≡ true = subst (λ (rows : List Row). is_ascending rows ≡ true) c.self.view_is c.self.invariant in
    let code : (get_or c.args.self.now c.in-Ok.at c.index-self-at.result).code ≡ c.code.result =
    ap (λ (rows : List Row). (get_or rows c.in-Ok.at c.index-self-at.result).code) (sym c.self.view_is) ∙ sym c.code.ensures in
    searched c.args.name.now c.args.self.now ascending c.index-self-at.result (Ok c.in-Ok.at) c.in-Ok.ensures.bound c.in-Ok.ensures.place
    ∙ ap (λ code. code ∷ []) code

pub returns-in-Err : goal.returns-in-Err
returns-in-Err g c =
    let ascending : is_ascending c.args.self.now ≡ true = subst (λ (rows : List Row). is_ascending rows ≡ true) c.self.view_is c.self.invariant in
    searched c.args.name.now c.args.self.now ascending (record { name = []; code = 0 }) (Err c.in-Err.field-0) c.in-Err.ensures.bound c.in-Err.ensures.place
