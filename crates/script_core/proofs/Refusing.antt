-- From the first token that breaks a rule, the fault of the text, or an accepted `exit`, to the answer on the whole text.
use Rattle.std.proofs.Common.{◌≡◌, ℕ, ◌+◌, ◌≤◌, Bool, List, [], ◌∷◌, ◌++◌, length, Option, None, Some, refl, sym, ◌∙◌, ap, subst, append_assoc, length-append, inl, inr, arith}
use Rattle.std.proofs.lemmas.List.{length-map}
use Rattle.lex_core.specs.Lexeme.{AreLexemes, CloseParen, Comment, Lexeme, OpenParen, QuotedSymbol, StringLiteral, WhiteSpace, Word as WordLexeme, joined_text, lexeme_tokens, quotes_doubled}
use Rattle.lex_core.specs.LexerCalls.{HasRead}
use Rattle.lex_core.specs.LexerSteps.{LexerState}
use Rattle.lex_core.specs.Segmentation.{partial_text}
use Rattle.lex_core.specs.Spelling.{WordSpells}
use Rattle.lex_core.specs.Token.{Token, token_of}
use Rattle.lex_core.specs.declared.place.Place.{Place}
use Rattle.lex_core.specs.declared.token.TokKind.{TokKind}
use Rattle.lex_core.specs.declared.token.TokKind.TheVariants as kind
use Rattle.sexp_core.proofs.TokensRead.{length-unfinished, reads_list}
use Rattle.sexp_core.specs.Sexp.{map_flat}
use Rattle.sexp_core.specs.Tokens.{flat_token, flat_tokens}
use Rattle.term_store.specs.Command.{PlainCommand}
use Rattle.script_core.specs.declared.checker.Checker.{Checker}
use Rattle.script_core.specs.declared.refusal.Refusal.{Refusal}
use Rattle.script_core.specs.Acceptance.{IsFaultless, Refuses, Sofar, place_of}
use Rattle.script_core.specs.Checking.{BreaksAmong, Exits, Follows, HasTokensOf, TokenBreaks, accepted_by, environment_of, texts_of}
use Rattle.script_core.specs.Environment.{start}
use Rattle.script_core.specs.Steps.{Cause, all_taken, broken, exited}
use Rattle.script_core.specs.Text.{AllRead, Broken, BreaksAt, HasLists, HasTokens, Unfinished}
use Rattle.script_core.proofs.Running.{all_of, next_breaks, runs_stay}
use Rattle.script_core.proofs.TextLists.{length-flat_tokens, lists_from, one_token}

-- a token that breaks a rule refuses the text, whatever comes after it
token_refuses : (bytes : List ℕ) (ended : Bool) (before : List Token) (next : Token) (after : List Token) (fault : Option Place) (commands : List PlainCommand) (refusal : Refusal)
    → HasTokens bytes (before ++ next ∷ after) ended fault → TokenBreaks before next commands refusal → Refuses bytes ended commands refusal
token_refuses bytes ended before next after fault commands refusal has b = elim (b.fault) [
  | inl broken_list ↦ record {
    fault = fault;
    rest = Broken (place_of refusal);
    run = all_of commands b.env;
    judged = record {
      tokens = before ++ next ∷ after;
      lists = b.lists;
      has_tokens = has;
      has_lists = BreaksAt (place_of refusal) before next after b.unfinished refl b.reads broken_list.0 broken_list.1;
      runs = b.runs;
    };
    accepted = refl;
    number = b.number;
    first_fault = refl;
  }
  | inr command ↦ let reads = one_token before next (b.lists ++ command.0 ∷ []) [] (reads_list (flat_tokens before) b.lists b.unfinished (flat_token next) command.0 b.reads command.1 command.2) in
      let from = lists_from after (before ++ next ∷ []) (b.lists ++ command.0 ∷ []) [] reads in record {
        fault = fault;
        rest = from.rest;
        run = record { commands = commands; env = b.env; cause = broken (place_of refusal) };
        judged = record {
          tokens = before ++ next ∷ after;
          lists = (b.lists ++ command.0 ∷ []) ++ from.more;
          has_tokens = has;
          has_lists = subst (λ (ts : List Token). HasLists ts ((b.lists ++ command.0 ∷ []) ++ from.more) from.rest) (append_assoc before (next ∷ []) after) from.has_lists;
          runs = runs_stay (b.lists ++ command.0 ∷ []) from.more start (record { commands = commands; env = b.env; cause = broken (place_of refusal) })
              (next_breaks b.lists command.0 start b.env commands (place_of refusal) b.runs command.3) (λ e. cc);
        };
        accepted = refl;
        number = b.number;
        first_fault = refl;
      }
]

pub refuses_among : (bytes : List ℕ) (ended : Bool) (tokens new later : List Token) (fault : Option Place) (commands : List PlainCommand) (refusal : Refusal)
    → HasTokens bytes ((tokens ++ new) ++ later) ended fault → BreaksAmong tokens new commands refusal → Refuses bytes ended commands refusal
refuses_among bytes ended tokens new later fault commands refusal has b =
    let split : (tokens ++ new) ++ later ≡ (tokens ++ b.front) ++ b.next ∷ (b.back ++ later) =
    ap (λ (ts : List Token). (tokens ++ ts) ++ later) b.spelled ∙ ap (λ (ts : List Token). ts ++ later) (sym (append_assoc tokens b.front (b.next ∷ b.back)))
    ∙ append_assoc (tokens ++ b.front) (b.next ∷ b.back) later in
    token_refuses bytes ended (tokens ++ b.front) b.next (b.back ++ later) fault commands refusal (subst (λ (ts : List Token). HasTokens bytes ts ended fault) split has) b.breaks

-- a fault of the lexicon after tokens that broke no rule
pub fault_refuses : (bytes : List ℕ) (ended : Bool) (tokens : List Token) (c : Checker) (place : Place) → HasTokens bytes tokens ended (Some place) → HasTokensOf tokens c
    → Refuses bytes ended (accepted_by c) (record { command = length (accepted_by c) + 1; at = place.at; rule = place.code })
fault_refuses bytes ended tokens c place has f = record {
  fault = Some place;
  rest = Unfinished (texts_of c.scope.world.names c.builder.0);
  run = all_of (accepted_by c) (environment_of f.names c.scope);
  judged = record {
    tokens = tokens;
    lists = f.lists;
    has_tokens = has;
    has_lists = AllRead (texts_of c.scope.world.names c.builder.0) f.reads;
    runs = f.runs;
  };
  accepted = refl;
  number = refl;
  first_fault = refl;
}

-- an accepted `exit` ends the script, whatever comes after it
pub exits_in : (bytes : List ℕ) (ended : Bool) (tokens later : List Token) (fault : Option Place) (commands : List PlainCommand) → HasTokens bytes (tokens ++ later) ended fault → Exits tokens commands
    → Sofar bytes ended commands
exits_in bytes ended tokens later fault commands has x =
    let from = lists_from (x.back ++ later) x.front x.lists [] x.reads in
    let split : tokens ++ later ≡ x.front ++ (x.back ++ later) = ap (λ (ts : List Token). ts ++ later) x.spelled ∙ append_assoc x.front x.back later in record {
      fault = fault;
      rest = from.rest;
      run = x.run;
      judged = record {
        tokens = x.front ++ (x.back ++ later);
        lists = x.lists ++ from.more;
        has_tokens = subst (λ (ts : List Token). HasTokens bytes ts ended fault) split has;
        has_lists = from.has_lists;
        runs = runs_stay x.lists from.more start x.run x.runs (λ e. let k : exited ≡ all_taken = sym x.ends ∙ e in cc);
      };
      accepted = x.accepted;
      faultless = subst (λ (cause : Cause). IsFaultless ended fault from.rest cause) (sym x.ends) tt;
    }

-- every lexeme has bytes, so there are no more tokens than bytes
word_has_bytes : (k : TokKind) (bs : List ℕ) → WordSpells k bs → 1 ≤ length bs
word_has_bytes k (b ∷ bs) h = omega arith
word_has_bytes kind.Open [] h = absurd h
word_has_bytes kind.Close [] h = absurd h
word_has_bytes kind.Numeral [] h = cc
word_has_bytes kind.Decimal [] h = absurd (omega (arith, ap length (h.2), length-append h.0 (46 ∷ h.1)))
word_has_bytes kind.Hexadecimal [] h = let e = h.1 in cc
word_has_bytes kind.Binary [] h = let e = h.1 in cc
word_has_bytes kind.Str [] h = absurd h
word_has_bytes kind.Symbol [] h = let e = h.0 in cc
word_has_bytes kind.Reserved [] h = let e = h.0 in cc
word_has_bytes kind.Keyword [] h = let e = h.1 in cc

length-lexeme_tokens : (ps : List Lexeme) → AreLexemes ps → length (lexeme_tokens ps) ≤ length (joined_text ps)
length-lexeme_tokens [] h = omega arith
length-lexeme_tokens (WhiteSpace b ∷ ps) h = omega (arith, length-lexeme_tokens ps h.2, length-append (joined_text ps) (b ∷ []))
length-lexeme_tokens (Comment bs ∷ ps) h = omega (arith, length-lexeme_tokens ps h.2, length-append (joined_text ps) (59 ∷ bs))
length-lexeme_tokens (OpenParen ∷ ps) h = omega (arith, length-lexeme_tokens ps h.2, length-append (joined_text ps) (40 ∷ []), length-append (lexeme_tokens ps) (record { kind = kind.Open; name = []; at = length (joined_text ps) } ∷ []))
length-lexeme_tokens (CloseParen ∷ ps) h = omega (arith, length-lexeme_tokens ps h.2, length-append (joined_text ps) (41 ∷ []), length-append (lexeme_tokens ps) (record { kind = kind.Close; name = []; at = length (joined_text ps) } ∷ []))
length-lexeme_tokens (WordLexeme k bs ∷ ps) h = omega (arith, length-lexeme_tokens ps h.2, word_has_bytes k bs h.0, length-append (joined_text ps) bs, length-append (lexeme_tokens ps) (record { kind = k; name = bs; at = length (joined_text ps) } ∷ []))
length-lexeme_tokens (StringLiteral name ∷ ps) h = omega (arith, length-lexeme_tokens ps h.2, length-append (joined_text ps) (34 ∷ (quotes_doubled name ++ 34 ∷ [])), length-append (lexeme_tokens ps) (record { kind = kind.Str; name = name; at = length (joined_text ps) } ∷ []))
length-lexeme_tokens (QuotedSymbol name ∷ ps) h = omega (arith, length-lexeme_tokens ps h.2, length-append (joined_text ps) (124 ∷ (name ++ 124 ∷ [])), length-append (lexeme_tokens ps) (record { kind = kind.Symbol; name = name; at = length (joined_text ps) } ∷ []))

pub few_tokens : (bytes : List ℕ) (tokens : List Token) (lexer : Option LexerState) → HasRead bytes tokens lexer → length tokens ≤ length bytes
few_tokens bytes tokens None h = absurd h
few_tokens bytes tokens (Some p) h =
    omega (arith, ap length h.in_order, length-lexeme_tokens h.lexemes h.segmentation.whole, ap length h.segmentation.spelled, length-append (joined_text h.lexemes) (partial_text h.partial))

pub few_unfinished : (known : List (List ℕ)) (tokens : List Token) (c : Checker) → Follows known tokens c → length c.builder.0 ≤ length tokens
few_unfinished known tokens c f =
    omega (arith, length-unfinished (flat_tokens tokens) f.lists (texts_of c.scope.world.names c.builder.0) f.reads, length-map c.builder.0 (map_flat (token_of c.scope.world.names)), length-flat_tokens tokens)
