use Rattle.std.proofs.lemmas.Result.{err_from_is_err_and}
use Rattle.std.proofs.Common.{◌≡◌, ◌≤◌, ◌+◌, ◌++◌, ◌∷◌, [], ℕ, List, length, take, drop, get_or, map, ap, sym, ◌∙◌, subst, arith, length-append}
use Rattle.std.proofs.lemmas.List.{take_more, take_all, take-append-drop}
use Rattle.lex_core.proofs.CallClauses.{extends_more, extends_none, lexed_end, lexed_end_interned, lexed_more, text_end_fault, text_fault}
use Rattle.lex_core.specs.LexerCalls.{HasLexed, KeepsTexts}
use Rattle.lex_core.specs.Token.{token_of}
use Rattle.lex_core.proofs.text.tokens_of_text.Goals as goal

pub loop-byte-init : goal.loop-byte-init
loop-byte-init c = record {
  reading = rw c.new-toks.ensures.items (record { read = c.new-lexer.ensures.initial; interned = tt });
  kept = extends_none c.args.names.now;
  few = omega arith;
}

pub loop-byte-preserved : goal.loop-byte-preserved
loop-byte-preserved c =
    let i = c.loop-byte.byte-index in
    let read : List ℕ = take i c.args.bytes.now in
    let more : take (i + 1) c.args.bytes.now ≡ read ++ get_or c.args.bytes.now i 0 ∷ [] = take_more c.args.bytes.now i 0 c.loop-byte-test.true in
    let k : KeepsTexts c.loop-byte.names c.feed.new.names = c.in_ok-fed.ensures.names in
    let long : length c.feed.new.names ≤ length c.loop-byte.names + 1 = omega (arith, ap length k.2, length-append c.loop-byte.names k.0, k.1) in
    record {
      reading = rw (more, c.in_ok-keep-2.ensures.ok, c.in_ok-keep.ensures.ok)
          (lexed_more c.loop-byte.names c.feed.new.names read c.loop-byte.toks.items (get_or c.args.bytes.now i 0) c.in_ok-fed.fed c.loop-byte.lexer c.feed.new.self
          k c.loop-byte.invariant.reading (c.in_ok-fed.ensures.tokens read (map (token_of c.loop-byte.names) c.loop-byte.toks.items)) c.in_ok-fed.ensures.interned);
      kept = extends_more c.args.names.now c.loop-byte.names c.feed.new.names c.loop-byte.invariant.kept k;
      few = omega (arith, long, c.loop-byte.invariant.few);
    }

pub returns-clause-lexes : goal.returns-clause-lexes
returns-clause-lexes c =
    let i = c.loop-byte.byte-index in
    let all : take i c.args.bytes.now ≡ c.args.bytes.now = take_all i c.args.bytes.now c.loop-byte-test.false in
    let reading : HasLexed c.loop-byte.names c.args.bytes.now c.loop-byte.toks.items c.loop-byte.lexer =
    subst (λ xs. HasLexed c.loop-byte.names xs c.loop-byte.toks.items c.loop-byte.lexer) all c.loop-byte.invariant.reading in
    rw (c.in_ok-keep-3.ensures.ok)
    (lexed_end c.loop-byte.names c.finish.new.names c.args.bytes.now c.loop-byte.toks.items c.in_ok-left.left c.loop-byte.lexer c.in_ok-left.ensures.names reading
    (c.in_ok-left.ensures.lexes c.args.bytes.now (map (token_of c.loop-byte.names) c.loop-byte.toks.items)))

pub returns-clause-interned : goal.returns-clause-interned
returns-clause-interned c =
    rw (c.in_ok-keep-3.ensures.ok)
    (lexed_end_interned c.loop-byte.names c.finish.new.names (take c.loop-byte.byte-index c.args.bytes.now) c.loop-byte.toks.items c.in_ok-left.left c.loop-byte.lexer c.in_ok-left.ensures.names
    c.loop-byte.invariant.reading c.in_ok-left.ensures.interned)

pub returns-in_err-fed-clause-fault : goal.returns-in_err-fed-clause-fault
returns-in_err-fed-clause-fault c =
    let i = c.loop-byte.byte-index in
    let read : List ℕ = take i c.args.bytes.now in
    let more : read ++ get_or c.args.bytes.now i 0 ∷ [] ≡ take (i + 1) c.args.bytes.now = sym (take_more c.args.bytes.now i 0 c.loop-byte-test.true) in
    let whole : (read ++ get_or c.args.bytes.now i 0 ∷ []) ++ drop (i + 1) c.args.bytes.now ≡ c.args.bytes.now =
    ap (λ xs. xs ++ drop (i + 1) c.args.bytes.now) more ∙ take-append-drop (i + 1) c.args.bytes.now in
    let p = err_from_is_err_and c.from_residual.result c.from_residual.ensures.1 in rw (p.1, p.2)
    (text_fault c.loop-byte.names c.feed.new.names read (drop (i + 1) c.args.bytes.now) c.args.bytes.now c.loop-byte.toks.items (get_or c.args.bytes.now i 0) c.loop-byte.lexer _
    c.loop-byte.invariant.reading whole c.in_err-fed.ensures.fault)

pub returns-in_err-left-clause-fault : goal.returns-in_err-left-clause-fault
returns-in_err-left-clause-fault c =
    let all : take c.loop-byte.byte-index c.args.bytes.now ≡ c.args.bytes.now = take_all c.loop-byte.byte-index c.args.bytes.now c.loop-byte-test.false in
    let reading : HasLexed c.loop-byte.names c.args.bytes.now c.loop-byte.toks.items c.loop-byte.lexer =
    subst (λ xs. HasLexed c.loop-byte.names xs c.loop-byte.toks.items c.loop-byte.lexer) all c.loop-byte.invariant.reading in
    let p = err_from_is_err_and c.from_residual-in_err-left.result c.from_residual-in_err-left.ensures.1 in rw (p.1, p.2)
    (text_end_fault c.loop-byte.names c.args.bytes.now c.loop-byte.toks.items c.loop-byte.lexer _ reading c.in_err-left.ensures.fault)

pub returns-clause-names : goal.returns-clause-names
returns-clause-names c = extends_more c.args.names.now c.loop-byte.names c.finish.new.names c.loop-byte.invariant.kept c.in_ok-left.ensures.names

pub returns-in_err-fed-clause-names : goal.returns-in_err-fed-clause-names
returns-in_err-fed-clause-names c = extends_more c.args.names.now c.loop-byte.names c.feed.new.names c.loop-byte.invariant.kept c.in_err-fed.ensures.names

pub returns-in_err-keep-clause-names : goal.returns-in_err-keep-clause-names
returns-in_err-keep-clause-names c = extends_more c.args.names.now c.loop-byte.names c.feed.new.names c.loop-byte.invariant.kept c.in_ok-fed.ensures.names

pub returns-in_err-keep-2-clause-names : goal.returns-in_err-keep-2-clause-names
returns-in_err-keep-2-clause-names c = extends_more c.args.names.now c.loop-byte.names c.feed.new.names c.loop-byte.invariant.kept c.in_ok-fed.ensures.names

pub returns-in_err-left-clause-names : goal.returns-in_err-left-clause-names
returns-in_err-left-clause-names c = extends_more c.args.names.now c.loop-byte.names c.finish.new.names c.loop-byte.invariant.kept c.in_err-left.ensures.names

pub returns-in_err-keep-3-clause-names : goal.returns-in_err-keep-3-clause-names
returns-in_err-keep-3-clause-names c = extends_more c.args.names.now c.loop-byte.names c.finish.new.names c.loop-byte.invariant.kept c.in_ok-left.ensures.names
