use Rattle.std.proofs.Common.{◌≡◌, ◌&&◌, true, false, nat_le, ap, sym, ◌∙◌}
use Rattle.std.proofs.lemmas.Bool.{le-leb, lt-leb}
use Rattle.lex_core.proofs.NameNumbers.{reserved_number}
use Rattle.lex_core.specs.NameTable.{number_of, texts_of}
use Rattle.lex_core.specs.Spelling.{is_reserved}
use Rattle.lex_core.proofs.names.Names.is_reserved.Goals as goal

pub returns-then-id-ge1 : goal.returns-then-id-ge1
returns-then-id-ge1 c =
    let number : c.id.inside.number ≡ number_of c.args.text.now (texts_of c.self.inside.texts) = c.id.view_is ∙ c.requires ∙ ap (number_of c.args.text.now) (sym c.self.view_is) in
    let known : (nat_le 1 c.id.inside.number && nat_le c.id.inside.number 43) ≡ is_reserved c.args.text.now =
    ap (λ n. nat_le 1 n && nat_le n 43) number ∙ reserved_number (texts_of c.self.inside.texts) c.args.text.now c.self.invariant.fixed in
    let first : nat_le 1 c.id.inside.number ≡ true = le-leb 1 c.id.inside.number c.if-id-ge1.true in
    ap (λ b. b && nat_le c.id.inside.number 43) (sym first) ∙ known

pub returns-else-id-ge1 : goal.returns-else-id-ge1
returns-else-id-ge1 c =
    let number : c.id.inside.number ≡ number_of c.args.text.now (texts_of c.self.inside.texts) = c.id.view_is ∙ c.requires ∙ ap (number_of c.args.text.now) (sym c.self.view_is) in
    let known : (nat_le 1 c.id.inside.number && nat_le c.id.inside.number 43) ≡ is_reserved c.args.text.now =
    ap (λ n. nat_le 1 n && nat_le n 43) number ∙ reserved_number (texts_of c.self.inside.texts) c.args.text.now c.self.invariant.fixed in
    let first : nat_le 1 c.id.inside.number ≡ false = lt-leb 1 c.id.inside.number c.if-id-ge1.false in
    first ∙ ap (λ b. b && nat_le c.id.inside.number 43) (sym first) ∙ known
