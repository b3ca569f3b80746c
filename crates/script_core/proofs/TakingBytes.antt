-- What one more byte, or the end, makes of a checker that has taken some bytes.
use Rattle.std.proofs.Common.{◌≡◌, ℕ, ◌+◌, ◌≤◌, Bool, true, false, List, [], ◌∷◌, ◌++◌, length, take, Option, None, Some, Result, Ok, Err, refl, sym, ap, subst, append-nil, length-append, arith}
use Rattle.std.specs.Prelude.{IfErr}
use Rattle.std.specs.List.{list_any}
use Rattle.std.specs.Str.{bytes_eq}
use Rattle.lex_core.proofs.CallClauses.{extends_once}
use Rattle.lex_core.specs.LexerCalls.{FaultsAtByte, FaultsAtEnd, GainsNameOf, HasRead, KeepsTexts, LexesAtEnd, ReadsByte}
use Rattle.lex_core.specs.LexerSteps.{LexerState}
use Rattle.lex_core.specs.NameTable.{IsNameTable}
use Rattle.lex_core.specs.Token.{IsInterned, Token, fed_tokens, option_tokens, token_of}
use Rattle.lex_core.specs.declared.lexer.Fed.{Fed}
use Rattle.lex_core.specs.declared.place.Place.{Place}
use Rattle.lex_core.specs.declared.token.Tok.{Tok}
use Rattle.sig_table.specs.declared.code.Code.TheVariants.{UnclosedList}
use Rattle.sexp_core.proofs.MappedReading.{unclosed-map}
use Rattle.sexp_core.specs.Reading.{IsUnclosed, Reads}
use Rattle.sexp_core.specs.Sexp.{FlatToken}
use Rattle.sexp_core.specs.Tokens.{flat_tokens}
use Rattle.term_store.specs.Command.{PlainCommand}
use Rattle.script_core.specs.declared.checker.Checker.{Checker}
use Rattle.script_core.specs.declared.refusal.Progress.{Progress}
use Rattle.script_core.specs.declared.refusal.Progress.TheVariants as progress
use Rattle.script_core.specs.declared.refusal.Refusal.{Refusal}
use Rattle.script_core.specs.declared.refusal.Stop.{Stop}
use Rattle.script_core.specs.declared.refusal.Stop.TheVariants.{Refused, NoMemory}
use Rattle.script_core.specs.Acceptance.{Accepts, Refuses, Sofar}
use Rattle.script_core.specs.Checking.{Awaits, BreaksAmong, BreaksWithin, Exits, ExitsByte, ExitsWithin, HasExited, HasTaken, HasTokensOf, IfEnded, IfMore, IfRefused, RefusesByte, RefusesText, TakesByte, TakesTokens, accepted_by, environment_of, texts_of}
use Rattle.script_core.specs.Text.{AllRead, Faulty, GoesOn, HasTokens, Unfinished, Whole}
use Rattle.script_core.proofs.FollowingTokens.{follows_grown, lexed}
use Rattle.script_core.proofs.NameTables.{AddNames, add_names_front, first_there, gained_names, option_there, take_option}
use Rattle.script_core.proofs.PlainTokens.{lexed_add, read_adds, shown_add}
use Rattle.script_core.proofs.Refusing.{exits_in, fault_refuses, few_tokens, few_unfinished, refuses_among}
use Rattle.script_core.proofs.Running.{all_of}
use Rattle.script_core.proofs.TextTokens.{fault_stays, state_complete, tokens_from}

-- the tokens that come are awaited
awaited : (tokens next : List Token) (c : Checker) (names : List (List ℕ)) (lexer : Option LexerState) → KeepsTexts c.scope.world.names names → IsNameTable c.scope.world.names → IsNameTable names → AddNames (tokens ++ next)
    → ((t : Token) (ts : List Token) → next ≡ t ∷ ts → list_any (bytes_eq t.name) names ≡ true) → GainsNameOf c.scope.world.names names next → HasTokensOf tokens c
    → Awaits tokens (take 1 next) (lexed c names lexer)
awaited tokens next c names lexer keeps was is adds there gain f = record {
  known = c.scope.world.names;
  follows = follows_grown c.scope.world.names tokens c names lexer (extends_once c.scope.world.names names keeps) f;
  names = gained_names c.scope.world.names names next was is (add_names_front tokens next adds) there gain;
}

pub awaits_fed : (bytes : List ℕ) (c : Checker) (byte : ℕ) (fed : Fed) (names : List (List ℕ)) (lexer : Option LexerState) → HasTaken bytes c → ReadsByte c.lexer byte (fed_tokens names fed) lexer
    → KeepsTexts c.scope.world.names names → IsNameTable names → GainsNameOf c.scope.world.names names (fed_tokens names fed) → IsInterned names fed.first → IsInterned names fed.second
    → (tokens : List Token) → HasTokensOf tokens c → HasRead bytes tokens c.lexer → Awaits tokens (take 1 (fed_tokens names fed)) (lexed c names lexer)
awaits_fed bytes c byte fed names lexer h reads keeps table gain first second tokens f read =
    awaited tokens (fed_tokens names fed) c names lexer keeps h.table table (read_adds (bytes ++ byte ∷ []) (tokens ++ fed_tokens names fed) lexer (reads bytes tokens read)) (first_there names fed first second) gain f

pub awaits_before : (bytes : List ℕ) (c : Checker) (byte : ℕ) (before : Option Tok) (place : Place) (names : List (List ℕ)) (lexer : Option LexerState) → HasTaken bytes c
    → FaultsAtByte c.lexer byte (option_tokens names before) place → KeepsTexts c.scope.world.names names → IsNameTable names → GainsNameOf c.scope.world.names names (option_tokens names before) → IsInterned names before
    → (tokens : List Token) → HasTokensOf tokens c → HasRead bytes tokens c.lexer → Awaits tokens (option_tokens names before) (lexed c names lexer)
awaits_before bytes c byte before place names lexer h faults keeps table gain interned tokens f read =
    subst (λ (ts : List Token). Awaits tokens ts (lexed c names lexer)) (take_option names before)
    (awaited tokens (option_tokens names before) c names lexer keeps h.table table (shown_add (bytes ++ byte ∷ []) (tokens ++ option_tokens names before) false place.at place.code (faults bytes tokens read)) (option_there names before interned) gain f)

pub awaits_left : (bytes : List ℕ) (c : Checker) (left : Option Tok) (names : List (List ℕ)) (lexer : Option LexerState) → HasTaken bytes c
    → LexesAtEnd c.lexer (option_tokens names left) → KeepsTexts c.scope.world.names names → IsNameTable names → GainsNameOf c.scope.world.names names (option_tokens names left) → IsInterned names left
    → (tokens : List Token) → HasTokensOf tokens c → HasRead bytes tokens c.lexer → Awaits tokens (option_tokens names left) (lexed c names lexer)
awaits_left bytes c left names lexer h lexes keeps table gain interned tokens f read =
    subst (λ (ts : List Token). Awaits tokens ts (lexed c names lexer)) (take_option names left)
    (awaited tokens (option_tokens names left) c names lexer keeps h.table table (lexed_add bytes (tokens ++ option_tokens names left) (lexes bytes tokens read)) (option_there names left interned) gain f)

few_names : (old new : List (List ℕ)) (n : ℕ) → KeepsTexts old new → length old ≤ 57 + n → length new ≤ 57 + (n + 1)
few_names old new n keeps few = omega (arith, ap length keeps.2, keeps.1, few, length-append old keeps.0)

-- what the lexer says of the tokens of one byte
pub record Feeds (c : Checker) (byte : ℕ) (fed : Fed) (names : List (List ℕ)) (lexer : Option LexerState) : Type 0 where
  pub reads : ReadsByte c.lexer byte (fed_tokens names fed) lexer
  pub keeps : KeepsTexts c.scope.world.names names
  pub table : IsNameTable names
  pub gain : GainsNameOf c.scope.world.names names (fed_tokens names fed)
  pub first : IsInterned names fed.first
  pub second : IsInterned names fed.second

pub fed_awaited : (bytes : List ℕ) (c : Checker) (byte : ℕ) (fed : Fed) (names : List (List ℕ)) (lexer : Option LexerState) (h : HasTaken bytes c) → Feeds c byte fed names lexer
    → Awaits h.tokens (take 1 (fed_tokens names fed)) (lexed c names lexer)
fed_awaited bytes c byte fed names lexer h l = awaits_fed bytes c byte fed names lexer h l.reads l.keeps l.table l.gain l.first l.second h.tokens h.follows h.read

-- the byte was taken
pub byte_taken : (c n : Checker) (byte : ℕ) (fed : Fed) (names : List (List ℕ)) (lexer : Option LexerState) (r : Result Progress Stop) → Feeds c byte fed names lexer
    → IfMore r (TakesTokens (lexed c names lexer) (take 1 (fed_tokens names fed)) (fed_tokens names fed) n) → n.scope.world.names ≡ names → n.lexer ≡ lexer → length (accepted_by n) ≤ length (accepted_by c) + 2
    → IfMore r (TakesByte c byte n)
byte_taken c n byte fed names lexer (Err stop) l more same_names same_lexer count = tt
byte_taken c n byte fed names lexer (Ok progress.Ended) l more same_names same_lexer count = tt
byte_taken c n byte fed names lexer (Ok progress.More) l more same_names same_lexer count = λ bytes h. record {
  tokens = h.tokens ++ fed_tokens names fed;
  read = subst (λ (x : Option LexerState). HasRead (bytes ++ byte ∷ []) (h.tokens ++ fed_tokens names fed) x) (sym same_lexer) (l.reads bytes h.tokens h.read);
  follows = more h.tokens (fed_awaited bytes c byte fed names lexer h l);
  table = subst IsNameTable (sym same_names) l.table;
  few_names = omega (arith, few_names c.scope.world.names names (length bytes) l.keeps h.few_names, ap length same_names, length-append bytes (byte ∷ []));
  few_commands = omega (arith, h.few_commands, count, length-append bytes (byte ∷ []));
}

among_refuses : (bytes : List ℕ) (tokens new : List Token) (lexer : Option LexerState) (more : List ℕ) (ended : Bool) (commands : List PlainCommand) (refusal : Refusal) → HasRead bytes (tokens ++ new) lexer → BreaksAmong tokens new commands refusal
    → Refuses (bytes ++ more) ended commands refusal
among_refuses bytes tokens new None more ended commands refusal read b = absurd read
among_refuses bytes tokens new (Some p) more ended commands refusal read b =
    let from = tokens_from more bytes (tokens ++ new) p ended read in refuses_among (bytes ++ more) ended tokens new from.later from.fault commands refusal from.has_tokens b

exits_sofar : (bytes : List ℕ) (tokens : List Token) (lexer : Option LexerState) (commands : List PlainCommand) → HasRead bytes tokens lexer → Exits tokens commands → HasExited bytes commands
exits_sofar bytes tokens None commands read x more ended = absurd read
exits_sofar bytes tokens (Some p) commands read x more ended =
    let from = tokens_from more bytes tokens p ended read in exits_in (bytes ++ more) ended tokens from.later from.fault commands from.has_tokens x

-- a token that the byte completed ends the script
pub byte_exits : (c n : Checker) (byte : ℕ) (fed : Fed) (names : List (List ℕ)) (lexer : Option LexerState) (r : Result Progress Stop) → Feeds c byte fed names lexer
    → IfEnded r (ExitsWithin (lexed c names lexer) (take 1 (fed_tokens names fed)) (fed_tokens names fed) (accepted_by n)) → IfEnded r (ExitsByte c byte (accepted_by n))
byte_exits c n byte fed names lexer (Err stop) l ends = tt
byte_exits c n byte fed names lexer (Ok progress.More) l ends = tt
byte_exits c n byte fed names lexer (Ok progress.Ended) l ends = λ bytes h.
    exits_sofar (bytes ++ byte ∷ []) (h.tokens ++ fed_tokens names fed) lexer (accepted_by n) (l.reads bytes h.tokens h.read) (ends h.tokens (fed_awaited bytes c byte fed names lexer h l))

-- a token that the byte completed breaks a rule
pub byte_refused : (c : Checker) (byte : ℕ) (fed : Fed) (names : List (List ℕ)) (lexer : Option LexerState) (commands : List PlainCommand) (r : Result Progress Stop) → Feeds c byte fed names lexer
    → IfErr r (λ e. IfRefused e (BreaksWithin (lexed c names lexer) (take 1 (fed_tokens names fed)) (fed_tokens names fed) commands))
    → IfErr r (λ e. IfRefused e (RefusesByte c byte commands))
byte_refused c byte fed names lexer commands (Ok u) l broken = tt
byte_refused c byte fed names lexer commands (Err NoMemory) l broken = tt
byte_refused c byte fed names lexer commands (Err (Refused refusal)) l broken = λ bytes more ended h.
    among_refuses (bytes ++ byte ∷ []) h.tokens (fed_tokens names fed) lexer more ended commands refusal (l.reads bytes h.tokens h.read) (broken h.tokens (fed_awaited bytes c byte fed names lexer h l))

-- what the lexer says of a byte that breaks the lexicon
pub record Faults (c : Checker) (byte : ℕ) (before : Option Tok) (place : Place) (names : List (List ℕ)) : Type 0 where
  pub faults : FaultsAtByte c.lexer byte (option_tokens names before) place
  pub keeps : KeepsTexts c.scope.world.names names
  pub table : IsNameTable names
  pub gain : GainsNameOf c.scope.world.names names (option_tokens names before)
  pub interned : IsInterned names before

pub before_awaited : (bytes : List ℕ) (c : Checker) (byte : ℕ) (before : Option Tok) (place : Place) (names : List (List ℕ)) (lexer : Option LexerState) (h : HasTaken bytes c) → Faults c byte before place names
    → Awaits h.tokens (option_tokens names before) (lexed c names lexer)
before_awaited bytes c byte before place names lexer h l = awaits_before bytes c byte before place names lexer h l.faults l.keeps l.table l.gain l.interned h.tokens h.follows h.read

-- the tokens of a longer text, where the byte breaks the lexicon
faulty_tokens : (c : Checker) (byte : ℕ) (given : List Token) (place : Place) (bytes more : List ℕ) (ended : Bool) → FaultsAtByte c.lexer byte given place → (h : HasTaken bytes c)
    → HasTokens ((bytes ++ byte ∷ []) ++ more) (h.tokens ++ given) ended (Some place)
faulty_tokens c byte given place bytes more ended faults h =
    Faulty place (fault_stays (bytes ++ byte ∷ []) (h.tokens ++ given) false place.at place.code more ended refl (faults bytes h.tokens h.read))

-- the token before the fault breaks a rule
pub before_refused : (c : Checker) (byte : ℕ) (before : Option Tok) (place : Place) (names : List (List ℕ)) (lexer : Option LexerState) (commands : List PlainCommand) (e : Stop) → Faults c byte before place names
    → IfRefused e (BreaksWithin (lexed c names lexer) (option_tokens names before) (option_tokens names before) commands) → IfRefused e (RefusesByte c byte commands)
before_refused c byte before place names lexer commands NoMemory l broken = tt
before_refused c byte before place names lexer commands (Refused refusal) l broken = λ bytes more ended h.
    refuses_among ((bytes ++ byte ∷ []) ++ more) ended h.tokens (option_tokens names before) [] (Some place) commands refusal
    (subst (λ (ts : List Token). HasTokens ((bytes ++ byte ∷ []) ++ more) ts ended (Some place)) (sym (append-nil (h.tokens ++ option_tokens names before)))
    (faulty_tokens c byte (option_tokens names before) place bytes more ended l.faults h))
    (broken h.tokens (before_awaited bytes c byte before place names lexer h l))

-- the token before the fault ends the script
pub before_exits : (c : Checker) (byte : ℕ) (before : Option Tok) (place : Place) (names : List (List ℕ)) (lexer : Option LexerState) (commands : List PlainCommand) → Faults c byte before place names
    → ExitsWithin (lexed c names lexer) (option_tokens names before) (option_tokens names before) commands → ExitsByte c byte commands
before_exits c byte before place names lexer commands l ends bytes h more ended =
    exits_in ((bytes ++ byte ∷ []) ++ more) ended (h.tokens ++ option_tokens names before) [] (Some place) commands
    (subst (λ (ts : List Token). HasTokens ((bytes ++ byte ∷ []) ++ more) ts ended (Some place)) (sym (append-nil (h.tokens ++ option_tokens names before)))
    (faulty_tokens c byte (option_tokens names before) place bytes more ended l.faults h))
    (ends h.tokens (before_awaited bytes c byte before place names lexer h l))

-- the byte breaks the lexicon
pub fault_refused : (c n : Checker) (byte : ℕ) (before : Option Tok) (place : Place) (names : List (List ℕ)) (lexer : Option LexerState) (stop : Stop) → Faults c byte before place names
    → TakesTokens (lexed c names lexer) (option_tokens names before) (option_tokens names before) n → stop ≡ Refused (record { command = length (accepted_by n) + 1; at = place.at; rule = place.code })
    → IfRefused stop (RefusesByte c byte (accepted_by n))
fault_refused c n byte before place names lexer stop l ok says = rw says (λ bytes more ended h.
    fault_refuses ((bytes ++ byte ∷ []) ++ more) ended (h.tokens ++ option_tokens names before) n place (faulty_tokens c byte (option_tokens names before) place bytes more ended l.faults h)
    (ok h.tokens (before_awaited bytes c byte before place names lexer h l)))

-- no fault is seen before the end
pub taken_sofar : (bytes : List ℕ) (c : Checker) → HasTaken bytes c → Sofar bytes false (accepted_by c)
taken_sofar bytes c h = record {
  fault = None;
  rest = Unfinished (texts_of c.scope.world.names c.builder.0);
  run = all_of (accepted_by c) (environment_of h.follows.names c.scope);
  judged = record {
    tokens = h.tokens;
    lists = h.follows.lists;
    has_tokens = complete c.lexer h.read;
    has_lists = AllRead (texts_of c.scope.world.names c.builder.0) h.follows.reads;
    runs = h.follows.runs;
  };
  accepted = refl;
  faultless = λ place fault. fault;
}
  where
    complete : (lexer : Option LexerState) → HasRead bytes h.tokens lexer → HasTokens bytes h.tokens false None
    complete None read = absurd read
    complete (Some p) read = GoesOn (state_complete bytes h.tokens p read)

-- what the lexer says of the end
pub record Lefts (c : Checker) (left : Option Tok) (names : List (List ℕ)) : Type 0 where
  pub lexes : LexesAtEnd c.lexer (option_tokens names left)
  pub keeps : KeepsTexts c.scope.world.names names
  pub table : IsNameTable names
  pub gain : GainsNameOf c.scope.world.names names (option_tokens names left)
  pub interned : IsInterned names left

pub left_awaited : (bytes : List ℕ) (c : Checker) (left : Option Tok) (names : List (List ℕ)) (lexer : Option LexerState) (h : HasTaken bytes c) → Lefts c left names
    → Awaits h.tokens (option_tokens names left) (lexed c names lexer)
left_awaited bytes c left names lexer h l = awaits_left bytes c left names lexer h l.lexes l.keeps l.table l.gain l.interned h.tokens h.follows h.read

whole_tokens : (bytes : List ℕ) (c : Checker) (left : Option Tok) (names : List (List ℕ)) (h : HasTaken bytes c) → Lefts c left names
    → HasTokens bytes ((h.tokens ++ option_tokens names left) ++ []) true None
whole_tokens bytes c left names h l =
    subst (λ (ts : List Token). HasTokens bytes ts true None) (sym (append-nil (h.tokens ++ option_tokens names left))) (Whole (l.lexes bytes h.tokens h.read))

-- the end was taken, and no list is open
pub end_accepted : (c n : Checker) (names : List (List ℕ)) (lexer : Option LexerState) (left : Option Tok) → Lefts c left names
    → TakesTokens (lexed c names lexer) (option_tokens names left) (option_tokens names left) n → n.builder.0 ≡ [] → (bytes : List ℕ) → HasTaken bytes c → Accepts bytes (accepted_by n)
end_accepted c n names lexer left l ok closed bytes h =
    let f = ok h.tokens (left_awaited bytes c left names lexer h l) in record {
      fault = None;
      rest = Unfinished [];
      run = all_of (accepted_by n) (environment_of f.names n.scope);
      judged = record {
        tokens = h.tokens ++ option_tokens names left;
        lists = f.lists;
        has_tokens = Whole (l.lexes bytes h.tokens h.read);
        has_lists = AllRead [] (subst (λ (u : List (FlatToken Tok)). Reads (flat_tokens (h.tokens ++ option_tokens names left)) f.lists (texts_of n.scope.world.names u)) closed f.reads);
        runs = f.runs;
      };
      accepted = refl;
      faultless = λ place fault. let e = fault.0.1 in cc;
    }

-- the token that is left at the end ends the script
pub left_exits : (c : Checker) (names : List (List ℕ)) (lexer : Option LexerState) (left : Option Tok) (commands : List PlainCommand) → Lefts c left names
    → ExitsWithin (lexed c names lexer) (option_tokens names left) (option_tokens names left) commands → (bytes : List ℕ) → HasTaken bytes c → Accepts bytes commands
left_exits c names lexer left commands l ends bytes h =
    exits_in bytes true (h.tokens ++ option_tokens names left) [] None commands (whole_tokens bytes c left names h l) (ends h.tokens (left_awaited bytes c left names lexer h l))

-- the token that is left at the end breaks a rule
pub left_refused : (c : Checker) (names : List (List ℕ)) (lexer : Option LexerState) (left : Option Tok) (commands : List PlainCommand) (e : Stop) → Lefts c left names
    → IfRefused e (BreaksWithin (lexed c names lexer) (option_tokens names left) (option_tokens names left) commands) → IfRefused e (RefusesText c commands)
left_refused c names lexer left commands NoMemory l broken = tt
left_refused c names lexer left commands (Refused refusal) l broken = λ bytes h.
    refuses_among bytes true h.tokens (option_tokens names left) [] None commands refusal (whole_tokens bytes c left names h l)
    (broken h.tokens (left_awaited bytes c left names lexer h l))

-- a list is open at the end
pub open_refused : (c n : Checker) (names : List (List ℕ)) (lexer : Option LexerState) (left : Option Tok) (place : Place) (stop : Stop) → Lefts c left names
    → TakesTokens (lexed c names lexer) (option_tokens names left) (option_tokens names left) n → (place.code ≡ UnclosedList) × IsUnclosed n.builder.0 place.at
    → stop ≡ Refused (record { command = length (accepted_by n) + 1; at = place.at; rule = place.code }) → IfRefused stop (RefusesText c (accepted_by n))
open_refused c n names lexer left place stop l ok unclosed says = rw says (λ bytes h.
    let f = ok h.tokens (left_awaited bytes c left names lexer h l) in record {
      fault = None;
      rest = Unfinished (texts_of n.scope.world.names n.builder.0);
      run = all_of (accepted_by n) (environment_of f.names n.scope);
      judged = record {
        tokens = h.tokens ++ option_tokens names left;
        lists = f.lists;
        has_tokens = Whole (l.lexes bytes h.tokens h.read);
        has_lists = AllRead (texts_of n.scope.world.names n.builder.0) f.reads;
        runs = f.runs;
      };
      accepted = refl;
      number = refl;
      first_fault = (unclosed-map (token_of n.scope.world.names) n.builder.0 place.at unclosed.1, unclosed.0);
    })

-- the text ends in a lexeme that lacks its end
pub end_refused : (c : Checker) (place : Place) (stop : Stop) → FaultsAtEnd c.lexer place → stop ≡ Refused (record { command = length (accepted_by c) + 1; at = place.at; rule = place.code })
    → IfRefused stop (RefusesText c (accepted_by c))
end_refused c place stop faults says = rw says (λ bytes h. fault_refuses bytes true h.tokens c place (Faulty place (faults bytes h.tokens h.read)) h.follows)

-- what a checker keeps of the tokens is no longer than the text
pub short_builder : (bytes : List ℕ) (c : Checker) → HasTaken bytes c → length c.builder.0 ≤ length bytes
short_builder bytes c h = omega (arith, few_unfinished c.scope.world.names h.tokens c h.follows, few_tokens bytes h.tokens c.lexer h.read)
