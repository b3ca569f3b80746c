use Rattle.std.proofs.Common.{◌≡◌, [], get_or, ap, refl}
use Rattle.lex_core.proofs.NameNumbers.{text_at_number}
use Rattle.lex_core.proofs.TableGains.{token_gained}
use Rattle.lex_core.proofs.lexer.token.Goals as goal

pub returns-clause-value : goal.returns-clause-value
returns-clause-value c =
    let text = text_at_number c.args.names.now c.args.name.now in
    let here : get_or c.intern.new.self c.in_ok-name.name [] ≡ c.args.name.now = rw (c.in_ok-name.ensures.texts, c.in_ok-name.ensures.number) (text.0) in
    rw here refl

pub returns-clause-interned : goal.returns-clause-interned
returns-clause-interned c = rw (c.in_ok-name.ensures.texts, c.in_ok-name.ensures.number) ((text_at_number c.args.names.now c.args.name.now).1)

pub returns-clause-gain : goal.returns-clause-gain
returns-clause-gain c =
    let here : get_or c.intern.new.self c.in_ok-name.name [] ≡ c.args.name.now = rw (c.in_ok-name.ensures.texts, c.in_ok-name.ensures.number) ((text_at_number c.args.names.now c.args.name.now).0) in
    token_gained c.args.names.now c.intern.new.self c.args.name.now (record { kind = c.args.kind; name = c.in_ok-name.name; at = c.args.at }) c.args.kind c.args.at c.in_ok-name.ensures.texts
    (ap (λ name. record { kind = c.args.kind; name = name; at = c.args.at }) here)
