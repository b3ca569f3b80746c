-- The answers of a builder, as a checker sees them.
use Rattle.std.proofs.Common.{◌≡◌, ℕ, ◌+◌, ◌<◌, ◌≤◌, true, List, [], ◌∷◌, ◌++◌, length, map, Option, None, Some, Result, Ok, Err, refl, sym, ◌∙◌, ap, subst, append_assoc, append-nil, length-append, arith}
use Rattle.std.specs.Prelude.{IfErr, IfOk, IfSome, OnErr, OnOk}
use Rattle.std.specs.List.{list_any}
use Rattle.std.specs.Str.{bytes_eq}
use Rattle.lex_core.specs.NameTable.{IsNameTable}
use Rattle.lex_core.specs.Token.{IsInterned, Token, fed_tokens, option_tokens, token_of}
use Rattle.lex_core.specs.declared.lexer.Fed.{Fed}
use Rattle.lex_core.specs.declared.place.Place.{Place}
use Rattle.lex_core.specs.declared.token.Tok.{Tok}
use Rattle.lex_core.specs.declared.token.TokKind.{TokKind}
use Rattle.lex_core.specs.declared.token.TokKind.TheVariants as kind
use Rattle.sig_table.specs.declared.code.Code.{Code}
use Rattle.sexp_core.specs.Builder.{IsTreeError, State, fault_at}
use Rattle.sexp_core.specs.Reading.{IsList, IsUnfinished, TreeFault}
use Rattle.sexp_core.specs.Sexp.{Sexp, flat}
use Rattle.sexp_core.specs.Tokens.{flat_of, flat_tok, flat_tokens}
use Rattle.sexp_core.specs.declared.builder.SexpError.{SexpError}
use Rattle.sexp_core.specs.declared.builder.SexpError.TheVariants as error
use Rattle.term_store.specs.Command.{PlainCommand, plain_command}
use Rattle.term_store.specs.Script.{commands_of}
use Rattle.script_core.specs.declared.checker.Checker.{Checker}
use Rattle.script_core.specs.declared.refusal.Progress.{Progress}
use Rattle.script_core.specs.declared.refusal.Progress.TheVariants as progress
use Rattle.script_core.specs.declared.refusal.Refusal.{Refusal}
use Rattle.script_core.specs.declared.refusal.Stop.{Stop}
use Rattle.script_core.specs.declared.scope.Scope.{Scope}
use Rattle.script_core.specs.declared.refusal.Stop.TheVariants.{Refused, NoMemory}
use Rattle.script_core.specs.Checking.{Awaits, BreaksAmong, BreaksTree, BreaksWith, BreaksWithin, Exits, ExitsWithin, HasTokensOf, IfEnded, IfMore, IfRefused, IsReadyScope, TakesTokens, TakesTree, TokenBreaks, accepted_by}
use Rattle.script_core.specs.Interned.{AreInterned}
use Rattle.script_core.specs.Keeping.{KeepsEarlier}
use Rattle.script_core.specs.Numbering.{table_after}
use Rattle.script_core.proofs.FollowingTokens.{breaks_command, breaks_lists, exits_list, follows_inside, follows_list, interned_last}
use Rattle.script_core.proofs.NameTables.{name_in_table}

pub some_of : {A : Type 0} (P : A → Type 0) (o : Option A) (t : A) → o ≡ Some t → IfSome o P → P t
some_of {A} P o t e h = subst (λ (x : Option A). IfSome x P) e h

-- the tree is a list, whose tokens are those that came
abbrev pub IsTaken : Checker → Tok → Sexp Tok → Type 0
IsTaken c tok t = IsList t × (flat t ≡ c.builder.0 ++ flat_tok tok ∷ [])

-- the names of the tree are in the table
pub tree_interned : (c : Checker) (tok : Tok) (o : Option (Sexp Tok)) (t : Sexp Tok) → tok.name < length c.scope.world.names → AreInterned c.scope.world.names c.builder.0 → o ≡ Some t → IfSome o (IsTaken c tok)
    → AreInterned c.scope.world.names (flat t)
tree_interned c tok o t named interned e tree =
    rw ((some_of (IsTaken c tok) o t e tree).1) (interned_last c.scope.world.names c.builder.0 tok interned named)

pub taken_inside : (tokens : List Token) (c : Checker) (tok : Tok) (new : State) (o : Option (Sexp Tok)) → Awaits tokens (token_of c.scope.world.names tok ∷ []) c → tok.name < length c.scope.world.names → o ≡ None → IsUnfinished new.0
    → (c.builder.1 ≡ None → ◌≡◌ {A = Result (Option (Sexp Tok)) SexpError} (Ok o) (Ok None) → new ≡ (c.builder.0 ++ flat_tok tok ∷ [], None))
    → (c.builder.1 ≡ None → (rule : Code) → TreeFault c.builder.0 (flat_tok tok) rule → ◌≡◌ {A = Result (Option (Sexp Tok)) SexpError} (Ok o) (Err (fault_at rule tok.at)))
    → HasTokensOf (tokens ++ token_of c.scope.world.names tok ∷ []) (record c { builder = new })
taken_inside tokens c tok new o w named e unfinished inside faulty =
    follows_inside tokens c tok new w named (inside w.follows.no_error (ap Ok e)) unfinished (λ rule h. let bad = faulty w.follows.no_error rule h in cc)

pub taken_list : (c n : Checker) (tok : Tok) (o : Option (Sexp Tok)) (t : Sexp Tok) (builder : State) (r : Result Progress Stop) → IsNameTable c.scope.world.names → tok.name < length c.scope.world.names
    → o ≡ Some t → (c.builder.1 ≡ None → IfSome o (IsTaken c tok))
    → (c.builder.1 ≡ None → IfSome o (λ x. builder ≡ ([], None))) → n.builder ≡ builder → n.scope.world.names ≡ c.scope.world.names
    → IfOk r (λ p. TakesTree c.scope t p n.scope) → OnOk r (IsReadyScope n.scope)
    → IfMore r (TakesTokens c (token_of c.scope.world.names tok ∷ []) (token_of c.scope.world.names tok ∷ []) n)
taken_list c n tok o t builder (Err stop) table named e tree emptied same names steps stands = tt
taken_list c n tok o t builder (Ok progress.Ended) table named e tree emptied same names steps stands = tt
taken_list c n tok o t builder (Ok progress.More) table named e tree emptied same names steps stands = λ tokens w.
    let taken = some_of (IsTaken c tok) o t e (tree w.follows.no_error) in
    follows_list tokens c n tok t w table named taken.0 taken.1 (same ∙ some_of (λ (x : Sexp Tok). builder ≡ ([], None)) o t e (emptied w.follows.no_error)) names steps stands

pub ended_list : (c n : Checker) (tok : Tok) (o : Option (Sexp Tok)) (t : Sexp Tok) (r : Result Progress Stop) → IsNameTable c.scope.world.names → tok.name < length c.scope.world.names
    → o ≡ Some t → (c.builder.1 ≡ None → IfSome o (IsTaken c tok))
    → IfOk r (λ p. TakesTree c.scope t p n.scope)
    → IfEnded r (ExitsWithin c (token_of c.scope.world.names tok ∷ []) (token_of c.scope.world.names tok ∷ []) (accepted_by n))
ended_list c n tok o t (Err stop) table named e tree steps = tt
ended_list c n tok o t (Ok progress.More) table named e tree steps = tt
ended_list c n tok o t (Ok progress.Ended) table named e tree steps = λ tokens w.
    let taken = some_of (IsTaken c tok) o t e (tree w.follows.no_error) in exits_list tokens c n tok t w table named taken.0 taken.1 steps

-- a list that is taken is one command more
pub counted_more : (old new : Scope) (t : Sexp Tok) (goes : Progress) → TakesTree old t goes new → length (commands_of new.world.script) ≤ length (commands_of old.world.script) + 1
counted_more old new t goes takes = omega (arith, ap length takes.put_last, length-append (commands_of old.world.script) (takes.command ∷ []))

-- where the commands are as before, so are those accepted
same_accepted : (c n : Checker) → KeepsEarlier c.scope.next c.scope.world.script n.scope.world.script → accepted_by c ≡ accepted_by n
same_accepted c n e = ap (map plain_command) (sym e.commands)

pub refused_list : (c n : Checker) (tok : Tok) (o : Option (Sexp Tok)) (t : Sexp Tok) (r : Result Progress Stop) → IsNameTable c.scope.world.names → tok.name < length c.scope.world.names
    → o ≡ Some t → (c.builder.1 ≡ None → IfSome o (IsTaken c tok))
    → IfErr r (λ e. IfRefused e (BreaksTree c t)) → OnErr r (KeepsEarlier c.scope.next c.scope.world.script n.scope.world.script)
    → IfErr r (λ e. IfRefused e (BreaksWith c (token_of c.scope.world.names tok) (accepted_by n)))
refused_list c n tok o t (Ok u) table named e tree h same = tt
refused_list c n tok o t (Err NoMemory) table named e tree h same = tt
refused_list c n tok o t (Err (Refused refusal)) table named e tree h same = λ tokens w.
    let taken = some_of (IsTaken c tok) o t e (tree w.follows.no_error) in
    subst (λ (cs : List PlainCommand). TokenBreaks tokens (token_of c.scope.world.names tok) cs refusal) (same_accepted c n same)
    (breaks_command tokens c tok t refusal w table named taken.0 taken.1 h.0 h.1)

pub broken_token : (c : Checker) (tok : Tok) (e : SexpError) (place : Place) (stop : Stop) → e ≡ error.Fault place → (c.builder.1 ≡ None → IsTreeError c.builder.0 (flat_tok tok) tok.at e)
    → stop ≡ Refused (record { command = length (accepted_by c) + 1; at = place.at; rule = place.code })
    → IfRefused stop (BreaksWith c (token_of c.scope.world.names tok) (accepted_by c))
broken_token c tok e place stop is fault says = rw says (λ tokens w.
    let broken = subst (λ (x : SexpError). IsTreeError c.builder.0 (flat_tok tok) tok.at x) is (fault w.follows.no_error) in breaks_lists tokens c tok place.code place.at w broken.0 broken.1)

-- one token that breaks a rule, among itself alone
pub one_among : (c : Checker) (next : Token) (commands : List PlainCommand) (r : Result Progress Stop) → IfErr r (λ e. IfRefused e (BreaksWith c next commands))
    → IfErr r (λ e. IfRefused e (BreaksWithin c (next ∷ []) (next ∷ []) commands))
one_among c next commands (Ok u) h = tt
one_among c next commands (Err NoMemory) h = tt
one_among c next commands (Err (Refused refusal)) h = λ tokens w.
    record { front = []; next = next; back = []; spelled = refl; breaks = subst (λ (ts : List Token). TokenBreaks ts next commands refusal) (sym (append-nil tokens)) (h tokens w) }

-- among the later tokens, after the first ones
among_second : (tokens first second : List Token) (commands : List PlainCommand) (refusal : Refusal) → BreaksAmong (tokens ++ first) second commands refusal → BreaksAmong tokens (first ++ second) commands refusal
among_second tokens first second commands refusal b = record {
  front = first ++ b.front;
  next = b.next;
  back = b.back;
  spelled = ap (λ (ts : List Token). first ++ ts) b.spelled ∙ sym (append_assoc first b.front (b.next ∷ b.back));
  breaks = subst (λ (ts : List Token). TokenBreaks ts b.next commands refusal) (append_assoc tokens first b.front) b.breaks;
}

-- a token whose name is in the table adds nothing
known_kind : (texts : List (List ℕ)) (k : TokKind) (at : ℕ) (t : Token) → list_any (bytes_eq t.name) texts ≡ true → texts ≡ table_after texts (flat_of k at t ∷ [])
known_kind texts kind.Open at t h = refl
known_kind texts kind.Close at t h = refl
known_kind texts kind.Numeral at t h = rw h refl
known_kind texts kind.Decimal at t h = rw h refl
known_kind texts kind.Hexadecimal at t h = rw h refl
known_kind texts kind.Binary at t h = rw h refl
known_kind texts kind.Str at t h = rw h refl
known_kind texts kind.Symbol at t h = rw h refl
known_kind texts kind.Reserved at t h = rw h refl
known_kind texts kind.Keyword at t h = rw h refl

known_option : (texts : List (List ℕ)) (o : Option Tok) → IsInterned texts o → texts ≡ table_after texts (flat_tokens (option_tokens texts o))
known_option texts None h = refl
known_option texts (Some tok) h = known_kind texts tok.kind tok.at (token_of texts tok) (name_in_table texts tok h)

-- the second token of a byte is awaited where the first was taken
awaits_second : (tokens : List Token) (m : Checker) (o : Option Tok) → HasTokensOf tokens m → IsInterned m.scope.world.names o → Awaits tokens (option_tokens m.scope.world.names o) m
awaits_second tokens m o f h = record { known = m.scope.world.names; follows = f; names = known_option m.scope.world.names o h }

pub awaits_second_of : (c m : Checker) (a : Tok) (o : Option Tok) (tokens : List Token) → TakesTokens c (token_of c.scope.world.names a ∷ []) (token_of c.scope.world.names a ∷ []) m → m.scope.world.names ≡ c.scope.world.names → IsInterned c.scope.world.names o
    → Awaits tokens (token_of c.scope.world.names a ∷ []) c → Awaits (tokens ++ token_of c.scope.world.names a ∷ []) (option_tokens m.scope.world.names o) m
awaits_second_of c m a o tokens first same h w = awaits_second (tokens ++ token_of c.scope.world.names a ∷ []) m o (first tokens w) (subst (λ (ns : List (List ℕ)). IsInterned ns o) (sym same) h)

second_after : (c m : Checker) (a : Tok) (o : Option Tok) (tokens : List Token) → TakesTokens c (token_of c.scope.world.names a ∷ []) (token_of c.scope.world.names a ∷ []) m → m.scope.world.names ≡ c.scope.world.names → IsInterned c.scope.world.names o
    → Awaits tokens (token_of c.scope.world.names a ∷ []) c → Awaits (tokens ++ token_of c.scope.world.names a ∷ []) (option_tokens c.scope.world.names o) m
second_after c m a o tokens first same h w =
    subst (λ (ns : List (List ℕ)). Awaits (tokens ++ token_of c.scope.world.names a ∷ []) (option_tokens ns o) m) same (awaits_second_of c m a o tokens first same h w)

-- the two tokens of a byte
pub fed_more : (c m n : Checker) (a : Tok) (o : Option Tok) (r : Result Progress Stop) → TakesTokens c (token_of c.scope.world.names a ∷ []) (token_of c.scope.world.names a ∷ []) m → m.scope.world.names ≡ c.scope.world.names → IsInterned c.scope.world.names o
    → IfMore r (TakesTokens m (option_tokens m.scope.world.names o) (option_tokens m.scope.world.names o) n) → IfMore r (TakesTokens c (token_of c.scope.world.names a ∷ []) (token_of c.scope.world.names a ∷ option_tokens c.scope.world.names o) n)
fed_more c m n a o (Err stop) first same h second = tt
fed_more c m n a o (Ok progress.Ended) first same h second = tt
fed_more c m n a o (Ok progress.More) first same h second = λ tokens w.
    subst (λ (ts : List Token). HasTokensOf ts n) (append_assoc tokens (token_of c.scope.world.names a ∷ []) (option_tokens c.scope.world.names o))
    (subst (λ (ns : List (List ℕ)). TakesTokens m (option_tokens ns o) (option_tokens ns o) n) same second (tokens ++ token_of c.scope.world.names a ∷ []) (second_after c m a o tokens first same h w))

-- an `exit` among the first tokens is one among more
pub exits_more : (tokens more : List Token) (commands : List PlainCommand) → Exits tokens commands → Exits (tokens ++ more) commands
exits_more tokens more commands x = record {
  front = x.front;
  back = x.back ++ more;
  spelled = ap (λ (ts : List Token). ts ++ more) x.spelled ∙ append_assoc x.front x.back more;
  lists = x.lists;
  reads = x.reads;
  run = x.run;
  runs = x.runs;
  ends = x.ends;
  accepted = x.accepted;
}

pub fed_ends : (c m : Checker) (a : Tok) (o : Option Tok) (r : Result Progress Stop) (commands : List PlainCommand) → TakesTokens c (token_of c.scope.world.names a ∷ []) (token_of c.scope.world.names a ∷ []) m → m.scope.world.names ≡ c.scope.world.names → IsInterned c.scope.world.names o
    → IfEnded r (ExitsWithin m (option_tokens m.scope.world.names o) (option_tokens m.scope.world.names o) commands) → IfEnded r (ExitsWithin c (token_of c.scope.world.names a ∷ []) (token_of c.scope.world.names a ∷ option_tokens c.scope.world.names o) commands)
fed_ends c m a o (Err stop) commands first same h second = tt
fed_ends c m a o (Ok progress.More) commands first same h second = tt
fed_ends c m a o (Ok progress.Ended) commands first same h second = λ tokens w.
    subst (λ (ts : List Token). Exits ts commands) (append_assoc tokens (token_of c.scope.world.names a ∷ []) (option_tokens c.scope.world.names o))
    (subst (λ (ns : List (List ℕ)). ExitsWithin m (option_tokens ns o) (option_tokens ns o) commands) same second (tokens ++ token_of c.scope.world.names a ∷ []) (second_after c m a o tokens first same h w))

pub first_ends : (c : Checker) (a : Tok) (o : Option Tok) (commands : List PlainCommand) → ExitsWithin c (token_of c.scope.world.names a ∷ []) (token_of c.scope.world.names a ∷ []) commands
    → ExitsWithin c (token_of c.scope.world.names a ∷ []) (token_of c.scope.world.names a ∷ option_tokens c.scope.world.names o) commands
first_ends c a o commands first tokens w =
    subst (λ (ts : List Token). Exits ts commands) (append_assoc tokens (token_of c.scope.world.names a ∷ []) (option_tokens c.scope.world.names o))
    (exits_more (tokens ++ token_of c.scope.world.names a ∷ []) (option_tokens c.scope.world.names o) commands (first tokens w))

pub first_breaks : (c : Checker) (a : Tok) (o : Option Tok) (commands : List PlainCommand) (e : Stop) → IfRefused e (BreaksWith c (token_of c.scope.world.names a) commands)
    → IfRefused e (BreaksWithin c (token_of c.scope.world.names a ∷ []) (token_of c.scope.world.names a ∷ option_tokens c.scope.world.names o) commands)
first_breaks c a o commands NoMemory h = tt
first_breaks c a o commands (Refused refusal) h = λ tokens w.
    record { front = []; next = token_of c.scope.world.names a; back = option_tokens c.scope.world.names o; spelled = refl; breaks = subst (λ (ts : List Token). TokenBreaks ts (token_of c.scope.world.names a) commands refusal) (sym (append-nil tokens)) (h tokens w) }

pub second_breaks : (c m : Checker) (a : Tok) (o : Option Tok) (commands : List PlainCommand) (r : Result Progress Stop) → TakesTokens c (token_of c.scope.world.names a ∷ []) (token_of c.scope.world.names a ∷ []) m → m.scope.world.names ≡ c.scope.world.names → IsInterned c.scope.world.names o
    → IfErr r (λ e. IfRefused e (BreaksWithin m (option_tokens m.scope.world.names o) (option_tokens m.scope.world.names o) commands))
    → IfErr r (λ e. IfRefused e (BreaksWithin c (token_of c.scope.world.names a ∷ []) (token_of c.scope.world.names a ∷ option_tokens c.scope.world.names o) commands))
second_breaks c m a o commands (Ok u) first same h second = tt
second_breaks c m a o commands (Err NoMemory) first same h second = tt
second_breaks c m a o commands (Err (Refused refusal)) first same h second = λ tokens w.
    among_second tokens (token_of c.scope.world.names a ∷ []) (option_tokens c.scope.world.names o) commands refusal
    (subst (λ (ns : List (List ℕ)). BreaksWithin m (option_tokens ns o) (option_tokens ns o) commands refusal) same second (tokens ++ token_of c.scope.world.names a ∷ []) (second_after c m a o tokens first same h w))

-- the tokens of a byte whose first is this one
first_is : (names : List (List ℕ)) (fed : Fed) (a : Tok) → fed.first ≡ Some a → fed_tokens names fed ≡ token_of names a ∷ option_tokens names fed.second
first_is names fed a e = ap (λ (o : Option Tok). option_tokens names o ++ option_tokens names fed.second) e

pub by_first : (P : List Token → Type 0) (names : List (List ℕ)) (fed : Fed) (a : Tok) → fed.first ≡ Some a → P (token_of names a ∷ option_tokens names fed.second) → P (fed_tokens names fed)
by_first P names fed a e h = subst P (sym (first_is names fed a e)) h

pub of_first : (P : List Token → Type 0) (names : List (List ℕ)) (fed : Fed) (a : Tok) → fed.first ≡ Some a → P (fed_tokens names fed) → P (token_of names a ∷ option_tokens names fed.second)
of_first P names fed a e h = subst P (first_is names fed a e) h
