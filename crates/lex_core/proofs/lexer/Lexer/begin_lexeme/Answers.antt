use Rattle.std.proofs.Common.{◌≡◌, [], ◌∷◌, ◌++◌, ap, sym, ◌∙◌, refl, true}
use Rattle.std.proofs.lemmas.Bool.{OnTrue_at}
use Rattle.lex_core.proofs.CallClauses.{begun_without_token}
use Rattle.lex_core.proofs.SegmentationToSteps.{begin_comment, begin_quoted_symbol, begin_string, begin_white, begin_word}
use Rattle.lex_core.specs.LexerSteps.{InQuotedSymbol, InString, InWord, begin_lexeme, continues}
use Rattle.lex_core.specs.WordClasses.{next_class}
use Rattle.lex_core.specs.declared.word.WordClass.TheVariants.{Empty}
use Rattle.lex_core.proofs.lexer.Lexer.begin_lexeme.Goals as goal

pub returns-then-is_white_space : goal.returns-then-is_white_space
returns-then-is_white_space c =
    begun_without_token c.args.names.now c.args.before c.args.self.now _ c.self.inside.start c.self.inside.at _ c.args.byte _ c.fed_of-then-is_white_space.result
    c.self.view_is (begin_white c.self.inside.at c.args.byte (sym c.if-is_white_space.ensures)) refl (c.fed_of-then-is_white_space.ensures.value c.args.names.now) (c.fed_of-then-is_white_space.ensures.interned c.args.names.now c.requires.interned tt)

pub returns-then-byte-eq59 : goal.returns-then-byte-eq59
returns-then-byte-eq59 c =
    begun_without_token c.args.names.now c.args.before c.args.self.now _ c.self.inside.start c.self.inside.at _ c.args.byte _ c.fed_of-then-byte-eq59.result
    c.self.view_is (ap (begin_lexeme c.self.inside.at) c.if-byte-eq59.true ∙ begin_comment c.self.inside.at) refl (c.fed_of-then-byte-eq59.ensures.value c.args.names.now) (c.fed_of-then-byte-eq59.ensures.interned c.args.names.now c.requires.interned tt)

pub returns-then-byte-eq34 : goal.returns-then-byte-eq34
returns-then-byte-eq34 c =
    let at = c.self.inside.at in
    let text : c.clear-then-byte-eq34.new.self.items ≡ [] = c.clear-then-byte-eq34.ensures.items in
    begun_without_token c.args.names.now c.args.before c.args.self.now _ c.self.inside.start at _ c.args.byte _ c.fed_of-then-byte-eq34.result
    c.self.view_is (ap (begin_lexeme at) c.if-byte-eq34.true ∙ begin_string at ∙ ap (λ xs. continues at at (InString xs)) (sym text)) refl
    (c.fed_of-then-byte-eq34.ensures.value c.args.names.now) (c.fed_of-then-byte-eq34.ensures.interned c.args.names.now c.requires.interned tt)

pub returns-then-byte-eq124 : goal.returns-then-byte-eq124
returns-then-byte-eq124 c =
    let at = c.self.inside.at in
    let text : c.clear-then-byte-eq124.new.self.items ≡ [] = c.clear-then-byte-eq124.ensures.items in
    begun_without_token c.args.names.now c.args.before c.args.self.now _ c.self.inside.start at _ c.args.byte _ c.fed_of-then-byte-eq124.result
    c.self.view_is (ap (begin_lexeme at) c.if-byte-eq124.true ∙ begin_quoted_symbol at ∙ ap (λ xs. continues at at (InQuotedSymbol xs)) (sym text)) refl
    (c.fed_of-then-byte-eq124.ensures.value c.args.names.now) (c.fed_of-then-byte-eq124.ensures.interned c.args.names.now c.requires.interned tt)

pub returns-else-not-pushed : goal.returns-else-not-pushed
returns-else-not-pushed c =
    let at = c.self.inside.at in let b = c.args.byte in
    let room : c.pushed.result ≡ true = c.if-not-pushed.false in
    let text : c.pushed.new.text.items ≡ b ∷ [] = OnTrue_at room c.pushed.ensures ∙ ap (λ xs. xs ++ b ∷ []) c.clear.ensures.items in
    begun_without_token c.args.names.now c.args.before c.args.self.now _ c.self.inside.start at _ b _ c.fed_of.result
    c.self.view_is
    (begin_word at b (sym c.if-is_word_byte.ensures) ∙ ap (λ xs. continues at at (InWord (next_class Empty b) xs)) (sym text) ∙ ap (λ class. continues at at (InWord class c.pushed.new.text.items)) (sym c.next_class.ensures)) refl
    (c.fed_of.ensures.value c.args.names.now) (c.fed_of.ensures.interned c.args.names.now c.requires.interned tt)
