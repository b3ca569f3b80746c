use Rattle.std.proofs.Common.{◌<◌, ◌^◌}
use Rattle.std.proofs.Common.{◌≡◌, sym, Some, subst}
use Rattle.lex_core.proofs.CallClauses.{word_step}
use Rattle.lex_core.proofs.TableGains.{begun_gained}
use Rattle.lex_core.specs.LexerCalls.{GainsNameOf, IsWordToken}
use Rattle.lex_core.specs.Token.{option_tokens}
use Rattle.lex_core.specs.WordClasses.{kind_at}
use Rattle.lex_core.proofs.lexer.Lexer.feed_word.Goals as goal

pub returns-in-Ok-Some-clause-step : goal.returns-in-Ok-Some-clause-step
returns-in-Ok-Some-clause-step c =
    let start = c.self.inside.start in let names = c.word_token.new.names in
    let text : c.as_slice.result.now ≡ c.self.inside.text.items = c.as_slice.ensures.value in
    let found : IsWordToken names (Some c.in-Ok-Some.tok) (kind_at c.args.class c.as_slice.result.now) c.as_slice.result.now start =
    subst (λ o. IsWordToken names o (kind_at c.args.class c.as_slice.result.now) c.as_slice.result.now start) c.in-Ok-Some.field-0-is c.in-Ok-Some.ensures.token in
    let token : IsWordToken names (Some c.in-Ok-Some.tok) (kind_at c.args.class c.self.inside.text.items) c.self.inside.text.items start =
    subst (λ xs. IsWordToken names (Some c.in-Ok-Some.tok) (kind_at c.args.class xs) xs start) text found in
    word_step names c.self.inside.state c.self.inside.text.items start c.self.inside.at c.args.self.now c.args.class c.in-Ok-Some.tok c.args.byte _ _
    c.self.view_is c.requires.mode (sym c.if-is_word_byte.ensures) token c.begin_lexeme.ensures

pub returns-in-Ok-Some-clause-gain : goal.returns-in-Ok-Some-clause-gain
returns-in-Ok-Some-clause-gain c =
    let names = c.word_token.new.names in
    let gained : GainsNameOf c.args.names.now names (option_tokens names (Some c.in-Ok-Some.tok)) =
    subst (λ o. GainsNameOf c.args.names.now names (option_tokens names o)) c.in-Ok-Some.field-0-is c.in-Ok-Some.ensures.gain in
    begun_gained (λ p. p.at < 2 ^ 30) c.args.names.now names (Some c.in-Ok-Some.tok) c.args.byte c.args.self.now _ c.begin_lexeme.result gained c.requires.room c.begin_lexeme.ensures
