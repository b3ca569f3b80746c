use Rattle.std.proofs.Common.{◌≡◌, ◌<◌, [], get_or, length, ap, sym}
use Rattle.lex_core.proofs.CallClauses.{reserved_is_word_token, symbol_is_word_token}
use Rattle.lex_core.proofs.NameNumbers.{text_at_number}
use Rattle.lex_core.proofs.TableGains.{token_gained}
use Rattle.lex_core.specs.declared.token.TokKind.TheVariants.{Reserved, Symbol}
use Rattle.lex_core.proofs.lexer.symbol_token.Goals as goal

pub returns-then-is_reserved-clause-token : goal.returns-then-is_reserved-clause-token
returns-then-is_reserved-clause-token c =
    let text = text_at_number c.args.names.now c.args.text.now in
    let interned : c.in_ok-name.name < length c.intern.new.self = rw (c.in_ok-name.ensures.texts, c.in_ok-name.ensures.number) (text.1) in
    let here : get_or c.intern.new.self c.in_ok-name.name [] ≡ c.args.text.now = rw (c.in_ok-name.ensures.texts, c.in_ok-name.ensures.number) (text.0) in
    reserved_is_word_token _ _ c.args.text.now c.args.at (sym c.if-is_reserved.ensures) here interned

pub returns-else-is_reserved-clause-token : goal.returns-else-is_reserved-clause-token
returns-else-is_reserved-clause-token c =
    let text = text_at_number c.args.names.now c.args.text.now in
    let interned : c.in_ok-name.name < length c.intern.new.self = rw (c.in_ok-name.ensures.texts, c.in_ok-name.ensures.number) (text.1) in
    let here : get_or c.intern.new.self c.in_ok-name.name [] ≡ c.args.text.now = rw (c.in_ok-name.ensures.texts, c.in_ok-name.ensures.number) (text.0) in
    symbol_is_word_token _ _ c.args.text.now c.args.at (sym c.if-is_reserved.ensures) here interned

pub returns-then-is_reserved-clause-gain : goal.returns-then-is_reserved-clause-gain
returns-then-is_reserved-clause-gain c =
    let here : get_or c.intern.new.self c.in_ok-name.name [] ≡ c.args.text.now = rw (c.in_ok-name.ensures.texts, c.in_ok-name.ensures.number) ((text_at_number c.args.names.now c.args.text.now).0) in
    token_gained c.args.names.now c.intern.new.self c.args.text.now (record { kind = Reserved; name = c.in_ok-name.name; at = c.args.at }) Reserved c.args.at c.in_ok-name.ensures.texts
    (ap (λ name. record { kind = Reserved; name = name; at = c.args.at }) here)

pub returns-else-is_reserved-clause-gain : goal.returns-else-is_reserved-clause-gain
returns-else-is_reserved-clause-gain c =
    let here : get_or c.intern.new.self c.in_ok-name.name [] ≡ c.args.text.now = rw (c.in_ok-name.ensures.texts, c.in_ok-name.ensures.number) ((text_at_number c.args.names.now c.args.text.now).0) in
    token_gained c.args.names.now c.intern.new.self c.args.text.now (record { kind = Symbol; name = c.in_ok-name.name; at = c.args.at }) Symbol c.args.at c.in_ok-name.ensures.texts
    (ap (λ name. record { kind = Symbol; name = name; at = c.args.at }) here)
