-- What one more token makes of a checker that has taken some tokens.
use Rattle.std.proofs.Common.{◌≡◌, ℕ, ◌+◌, ◌<◌, ◌≤◌, Bool, true, false, List, [], ◌∷◌, ◌++◌, length, Option, None, option_map, refl, sym, ◌∙◌, ap, subst, inl, inr, arith}
use Rattle.std.proofs.lemmas.Bool.{cases_Bool}
use Rattle.std.proofs.lemmas.List.{append-nil, map-append}
use Rattle.logic_frag.specs.declared.logic.Logic.{Logic}
use Rattle.logic_frag.specs.Following.{plain_defs}
use Rattle.logic_frag.specs.Logics.{described}
use Rattle.lex_core.proofs.CallClauses.{number_kept, token_kept}
use Rattle.lex_core.specs.LexerCalls.{ExtendsTable, HasRead}
use Rattle.lex_core.specs.LexerSteps.{LexerState}
use Rattle.lex_core.specs.NameTable.{IsNameTable, fixed_texts}
use Rattle.lex_core.specs.Token.{Token, token_of}
use Rattle.lex_core.specs.declared.token.Tok.{Tok}
use Rattle.lex_core.specs.declared.token.TokKind.{TokKind}
use Rattle.lex_core.specs.declared.token.TokKind.TheVariants as kind
use Rattle.sig_table.specs.declared.code.Code.{Code}
use Rattle.sig_table.specs.declared.theories.Theories.{Theories}
use Rattle.sexp_core.proofs.MappedReading.{fault-map, map_none, open_count-map, unfinished-map}
use Rattle.sexp_core.proofs.MappedSexps.{flat-map_sexp, map_flat-flat_of}
use Rattle.sexp_core.proofs.TokensRead.{reads_list, reads_more, reads_nothing}
use Rattle.sexp_core.specs.Builder.{State}
use Rattle.sexp_core.specs.Reading.{IsList, IsUnfinished, Reads, TreeFault}
use Rattle.sexp_core.specs.Sexp.{FlatToken, Opening, Closing, Word, Sexp, atom, list, flat, map_flat}
use Rattle.sexp_core.specs.Tokens.{flat_of, flat_tok, flat_token, flat_tokens}
use Rattle.judgement.specs.Judging.{Outcome, ill_sorted, well_sorted}
use Rattle.term_store.specs.Command.{PlainCommand}
use Rattle.term_store.specs.Script.{Kept, commands_of, empty_script}
use Rattle.scope_stack.specs.Environment.{empty}
use Rattle.scope_stack.specs.Environment.{Environment as Scopes}
use Rattle.typer.proofs.ReadyCalls.{ready_with_names}
use Rattle.typer.specs.Declarations.{declarations_of}
use Rattle.script_core.specs.declared.checker.Checker.{Checker}
use Rattle.script_core.specs.declared.refusal.Progress.{Progress}
use Rattle.script_core.specs.declared.refusal.Progress.TheVariants as progress
use Rattle.script_core.specs.declared.refusal.Refusal.{Refusal}
use Rattle.script_core.specs.Acceptance.{place_of}
use Rattle.script_core.specs.Checking.{Awaits, Exits, Follows, HasTaken, HasTokensOf, IsReadyScope, TakesTree, TokenBreaks, accepted_by, environment_of, progress_of, texts_of}
use Rattle.typer.specs.FunctionSymbols.{datatypes_of}
use Rattle.script_core.specs.Environment.{Environment, core_alone, start}
use Rattle.script_core.specs.Keeping.{KeepsDefined}
use Rattle.script_core.specs.Interned.{AreInterned, sexp_of}
use Rattle.script_core.specs.Numbering.{numbered_sexp, table_after}
use Rattle.script_core.specs.Steps.{Run, Runs, exited, is_exit, judge_list, judge_tree}
use Rattle.script_core.proofs.NameTables.{numbered_tree, table_append}
use Rattle.script_core.proofs.Running.{all_of, next_exits, next_taken}
use Rattle.script_core.proofs.TextLists.{one_token}

told_token : (texts : List (List ℕ)) (tok : Tok) → map_flat (token_of texts) (flat_tok tok) ≡ flat_token (token_of texts tok)
told_token texts tok = map_flat-flat_of (token_of texts) tok.kind tok.at tok

texts_more : (texts : List (List ℕ)) (u : List (FlatToken Tok)) (tok : Tok) → texts_of texts (u ++ flat_tok tok ∷ []) ≡ texts_of texts u ++ flat_token (token_of texts tok) ∷ []
texts_more texts u tok = map-append (map_flat (token_of texts)) u (flat_tok tok ∷ []) ∙ ap (λ (f : FlatToken Token). texts_of texts u ++ f ∷ []) (told_token texts tok)

-- a rule of lists is broken with texts only where it is with numbers
fault_back : (texts : List (List ℕ)) (u : List (FlatToken Tok)) (next : FlatToken Tok) (rule : Code) → TreeFault (texts_of texts u) (map_flat (token_of texts) next) rule → TreeFault u next rule
fault_back texts u (Opening at) rule f = (sym (open_count-map (token_of texts) 0 u) ∙ f.0, f.1)
fault_back texts u Closing rule f = (map_none (map_flat (token_of texts)) u f.0, f.1)
fault_back texts u (Word a) rule f = (map_none (map_flat (token_of texts)) u f.0, f.1)

fault_told : (texts : List (List ℕ)) (u : List (FlatToken Tok)) (tok : Tok) (rule : Code) → TreeFault u (flat_tok tok) rule → TreeFault (texts_of texts u) (flat_token (token_of texts tok)) rule
fault_told texts u tok rule f = subst (λ (n : FlatToken Token). TreeFault (texts_of texts u) n rule) (told_token texts tok) (fault-map (token_of texts) u (flat_tok tok) rule f)

fault_numbers : (texts : List (List ℕ)) (u : List (FlatToken Tok)) (tok : Tok) (rule : Code) → TreeFault (texts_of texts u) (flat_token (token_of texts tok)) rule → TreeFault u (flat_tok tok) rule
fault_numbers texts u tok rule f = fault_back texts u (flat_tok tok) rule (subst (λ (n : FlatToken Token). TreeFault (texts_of texts u) n rule) (sym (told_token texts tok)) f)

one_interned : (texts : List (List ℕ)) (k : TokKind) (at : ℕ) (tok : Tok) → tok.name < length texts → AreInterned texts (flat_of k at tok ∷ [])
one_interned texts kind.Open at tok n = tt
one_interned texts kind.Close at tok n = tt
one_interned texts kind.Numeral at tok n = (n, tt)
one_interned texts kind.Decimal at tok n = (n, tt)
one_interned texts kind.Hexadecimal at tok n = (n, tt)
one_interned texts kind.Binary at tok n = (n, tt)
one_interned texts kind.Str at tok n = (n, tt)
one_interned texts kind.Symbol at tok n = (n, tt)
one_interned texts kind.Reserved at tok n = (n, tt)
one_interned texts kind.Keyword at tok n = (n, tt)

pub interned_last : (texts : List (List ℕ)) (u : List (FlatToken Tok)) (tok : Tok) → AreInterned texts u → tok.name < length texts → AreInterned texts (u ++ flat_tok tok ∷ [])
interned_last texts [] tok h n = one_interned texts tok.kind tok.at tok n
interned_last texts (Opening at ∷ u) tok h n = interned_last texts u tok h n
interned_last texts (Closing ∷ u) tok h n = interned_last texts u tok h n
interned_last texts (Word a ∷ u) tok h n = (h.0, interned_last texts u tok h.1 n)

-- the table after the unfinished list and the next token
next_table : (known : List (List ℕ)) (tokens : List Token) (c : Checker) (t : Token) (f : Follows known tokens c) → c.scope.world.names ≡ table_after known (flat_token t ∷ [])
    → c.scope.world.names ≡ table_after f.names (texts_of c.scope.world.names c.builder.0 ++ flat_token t ∷ [])
next_table known tokens c t f awaited =
    awaited ∙ (ap (λ (k : List (List ℕ)). table_after k (flat_token t ∷ [])) f.table ∙ sym (table_append f.names (texts_of c.scope.world.names c.builder.0) (flat_token t ∷ [])))

-- the next token goes on with the unfinished list
pub follows_inside : (tokens : List Token) (c : Checker) (tok : Tok) (new : State) → Awaits tokens (token_of c.scope.world.names tok ∷ []) c → tok.name < length c.scope.world.names → new ≡ (c.builder.0 ++ flat_tok tok ∷ [], None)
    → IsUnfinished new.0 → ((rule : Code) → TreeFault c.builder.0 (flat_tok tok) rule → ⊥) → HasTokensOf (tokens ++ token_of c.scope.world.names tok ∷ []) (record c { builder = new })
follows_inside tokens c tok new w named held unfinished fine =
    let f = w.follows in
    let u = c.builder.0 in
    let last = texts_more c.scope.world.names u tok in
    let is_unfinished : IsUnfinished (texts_of c.scope.world.names u ++ flat_token (token_of c.scope.world.names tok) ∷ []) =
    subst (λ (fs : List (FlatToken Token)). IsUnfinished fs) last (unfinished-map (token_of c.scope.world.names) (u ++ flat_tok tok ∷ []) (subst (λ (s : State). IsUnfinished s.0) held unfinished)) in
    let reads = one_token tokens (token_of c.scope.world.names tok) f.lists (texts_of c.scope.world.names u ++ flat_token (token_of c.scope.world.names tok) ∷ [])
    (reads_more (flat_tokens tokens) f.lists (texts_of c.scope.world.names u) (flat_token (token_of c.scope.world.names tok)) f.reads (λ rule h. fine rule (fault_numbers c.scope.world.names u tok rule h)) is_unfinished) in
    record {
      lists = f.lists;
      names = f.names;
      reads = subst (λ (s : State). Reads (flat_tokens (tokens ++ token_of c.scope.world.names tok ∷ [])) f.lists (texts_of c.scope.world.names s.0)) (sym held)
          (subst (λ (fs : List (FlatToken Token)). Reads (flat_tokens (tokens ++ token_of c.scope.world.names tok ∷ [])) f.lists fs) (sym last) reads);
      no_error = ap (λ (s : State). s.1) held;
      runs = f.runs;
      interned = subst (λ (s : State). AreInterned c.scope.world.names s.0) (sym held) (interned_last c.scope.world.names u tok f.interned named);
      table = subst (λ (s : State). c.scope.world.names ≡ table_after f.names (texts_of c.scope.world.names s.0)) (sym held)
          (next_table w.known tokens c (token_of c.scope.world.names tok) f w.names ∙ ap (λ (fs : List (FlatToken Token)). table_after f.names fs) (sym last));
      keeps = f.keeps;
      stands = f.stands;
    }

is_list_told : (texts : List (List ℕ)) (t : Sexp Tok) → IsList t → IsList (sexp_of texts t)
is_list_told texts (atom a) h = h
is_list_told texts (list at ts) h = tt

-- the list that a token completes, with its names as texts
told_list : (texts : List (List ℕ)) (u : List (FlatToken Tok)) (tok : Tok) (t : Sexp Tok) → flat t ≡ u ++ flat_tok tok ∷ [] → flat (sexp_of texts t) ≡ texts_of texts u ++ flat_token (token_of texts tok) ∷ []
told_list texts u tok t e = flat-map_sexp (token_of texts) t ∙ ap (texts_of texts) e ∙ texts_more texts u tok

-- what is judged of a tree with numbers is judged of its list
judged_told : (known : List (List ℕ)) (tokens : List Token) (c : Checker) (tok : Tok) (t : Sexp Tok) (o : Outcome (PlainCommand × Environment)) (f : Follows known tokens c)
    → c.scope.world.names ≡ table_after known (flat_token (token_of c.scope.world.names tok) ∷ []) → IsNameTable c.scope.world.names → tok.name < length c.scope.world.names → flat t ≡ c.builder.0 ++ flat_tok tok ∷ []
    → judge_tree (environment_of c.scope.world.names c.scope) t [] o → judge_list (environment_of f.names c.scope) (sexp_of c.scope.world.names t) [] o
judged_told known tokens c tok t o f awaited table named e judged =
    let interned : AreInterned c.scope.world.names (flat t) = rw e (interned_last c.scope.world.names c.builder.0 tok f.interned named) in
    let number : numbered_sexp c.scope.world.names (sexp_of c.scope.world.names t) ≡ t = numbered_tree c.scope.world.names t table.distinct interned in
    let names : table_after f.names (flat (sexp_of c.scope.world.names t)) ≡ c.scope.world.names =
    ap (λ (fs : List (FlatToken Token)). table_after f.names fs) (told_list c.scope.world.names c.builder.0 tok t e) ∙ sym (next_table known tokens c (token_of c.scope.world.names tok) f awaited) in
    subst (λ (ns : List (List ℕ)). judge_tree (environment_of ns c.scope) (numbered_sexp ns (sexp_of c.scope.world.names t)) [] o) (sym names)
    (subst (λ (x : Sexp Tok). judge_tree (environment_of c.scope.world.names c.scope) x [] o) (sym number) judged)

-- the lists of the tokens with the one that the next token completes
reads_told : (known : List (List ℕ)) (tokens : List Token) (c : Checker) (tok : Tok) (t : Sexp Tok) (f : Follows known tokens c) → IsList t → flat t ≡ c.builder.0 ++ flat_tok tok ∷ []
    → Reads (flat_tokens (tokens ++ token_of c.scope.world.names tok ∷ [])) (f.lists ++ sexp_of c.scope.world.names t ∷ []) []
reads_told known tokens c tok t f is_list e =
    one_token tokens (token_of c.scope.world.names tok) (f.lists ++ sexp_of c.scope.world.names t ∷ []) []
    (reads_list (flat_tokens tokens) f.lists (texts_of c.scope.world.names c.builder.0) (flat_token (token_of c.scope.world.names tok)) (sexp_of c.scope.world.names t) f.reads (is_list_told c.scope.world.names t is_list)
    (told_list c.scope.world.names c.builder.0 tok t e))

same_progress : (b : Bool) → progress.More ≡ progress_of b → b ≡ false
same_progress true e = cc
same_progress false e = refl

same_end : (b : Bool) → progress.Ended ≡ progress_of b → b ≡ true
same_end true e = refl
same_end false e = cc

-- the next token completes a list, which is taken
pub follows_list : (tokens : List Token) (c n : Checker) (tok : Tok) (t : Sexp Tok) → Awaits tokens (token_of c.scope.world.names tok ∷ []) c → IsNameTable c.scope.world.names → tok.name < length c.scope.world.names
    → IsList t → flat t ≡ c.builder.0 ++ flat_tok tok ∷ [] → n.builder ≡ ([], None) → n.scope.world.names ≡ c.scope.world.names
    → TakesTree c.scope t progress.More n.scope → IsReadyScope n.scope
    → HasTokensOf (tokens ++ token_of c.scope.world.names tok ∷ []) n
follows_list tokens c n tok t w table named is_list e emptied same takes stands =
    let f = w.follows in
    let after = environment_of c.scope.world.names n.scope in
    let steps = judged_told w.known tokens c tok t (well_sorted (takes.command, after) takes.declared) f w.names table named e takes.judged in
    let runs = next_taken f.lists (sexp_of c.scope.world.names t) start (environment_of f.names c.scope) after (accepted_by c) takes.command f.runs (takes.declared, steps) (same_progress _ takes.goes_on) in
    record {
      lists = f.lists ++ sexp_of c.scope.world.names t ∷ [];
      names = c.scope.world.names;
      reads = subst (λ (s : State). Reads (flat_tokens (tokens ++ token_of c.scope.world.names tok ∷ [])) (f.lists ++ sexp_of c.scope.world.names t ∷ []) (texts_of n.scope.world.names s.0)) (sym emptied)
          (reads_told w.known tokens c tok t f is_list e);
      no_error = ap (λ (s : State). s.1) emptied;
      runs = subst (λ (cs : List PlainCommand). Runs start (f.lists ++ sexp_of c.scope.world.names t ∷ []) (all_of cs after)) (sym takes.put_last) runs;
      interned = subst (λ (s : State). AreInterned n.scope.world.names s.0) (sym emptied) tt;
      table = subst (λ (s : State). n.scope.world.names ≡ table_after c.scope.world.names (texts_of n.scope.world.names s.0)) (sym emptied) same;
      keeps = takes.keeps f.keeps;
      stands = stands;
    }

-- the lists that a command among them is the last of, taken one after the other
pub list_runs : (tokens : List Token) (c n : Checker) (tok : Tok) (t : Sexp Tok) (goes : Progress) → Awaits tokens (token_of c.scope.world.names tok ∷ []) c → IsNameTable c.scope.world.names → tok.name < length c.scope.world.names
    → flat t ≡ c.builder.0 ++ flat_tok tok ∷ [] → TakesTree c.scope t goes n.scope
    → (lists : List (Sexp Token)) × (run : Run) × Runs start lists run × (accepted_by n ≡ run.commands)
list_runs tokens c n tok t goes w table named e takes =
    let f = w.follows in
    let after = environment_of c.scope.world.names n.scope in
    let lists = f.lists ++ sexp_of c.scope.world.names t ∷ [] in
    let steps = judged_told w.known tokens c tok t (well_sorted (takes.command, after) takes.declared) f w.names table named e takes.judged in
    elim (cases_Bool (is_exit takes.command)) [
      | inl ends ↦ (
        lists,
        record { commands = accepted_by c ++ takes.command ∷ []; env = after; cause = exited },
        next_exits f.lists (sexp_of c.scope.world.names t) start (environment_of f.names c.scope) after (accepted_by c) takes.command f.runs (takes.declared, steps) ends,
        takes.put_last,
      )
      | inr on ↦ (
        lists,
        all_of (accepted_by c ++ takes.command ∷ []) after,
        next_taken f.lists (sexp_of c.scope.world.names t) start (environment_of f.names c.scope) after (accepted_by c) takes.command f.runs (takes.declared, steps) on,
        takes.put_last,
      )
    ]

-- the next token completes an `exit`
pub exits_list : (tokens : List Token) (c n : Checker) (tok : Tok) (t : Sexp Tok) → Awaits tokens (token_of c.scope.world.names tok ∷ []) c → IsNameTable c.scope.world.names → tok.name < length c.scope.world.names
    → IsList t → flat t ≡ c.builder.0 ++ flat_tok tok ∷ []
    → TakesTree c.scope t progress.Ended n.scope
    → Exits (tokens ++ token_of c.scope.world.names tok ∷ []) (accepted_by n)
exits_list tokens c n tok t w table named is_list e takes =
    let f = w.follows in
    let after = environment_of c.scope.world.names n.scope in
    let steps = judged_told w.known tokens c tok t (well_sorted (takes.command, after) takes.declared) f w.names table named e takes.judged in
    let runs = next_exits f.lists (sexp_of c.scope.world.names t) start (environment_of f.names c.scope) after (accepted_by c) takes.command f.runs (takes.declared, steps) (same_end _ takes.goes_on) in
    record {
      front = tokens ++ token_of c.scope.world.names tok ∷ [];
      back = [];
      spelled = sym (append-nil (tokens ++ token_of c.scope.world.names tok ∷ []));
      lists = f.lists ++ sexp_of c.scope.world.names t ∷ [];
      reads = reads_told w.known tokens c tok t f is_list e;
      run = record { commands = accepted_by c ++ takes.command ∷ []; env = after; cause = exited };
      runs = runs;
      ends = refl;
      accepted = takes.put_last;
    }

-- the next token breaks a rule of lists
pub breaks_lists : (tokens : List Token) (c : Checker) (tok : Tok) (code : Code) (at : ℕ) → Awaits tokens (token_of c.scope.world.names tok ∷ []) c → TreeFault c.builder.0 (flat_tok tok) code → at ≡ tok.at
    → TokenBreaks tokens (token_of c.scope.world.names tok) (accepted_by c) (record { command = length (accepted_by c) + 1; at = at; rule = code })
breaks_lists tokens c tok code at w fault place = record {
  lists = w.follows.lists;
  env = environment_of w.follows.names c.scope;
  unfinished = texts_of c.scope.world.names c.builder.0;
  reads = w.follows.reads;
  runs = w.follows.runs;
  number = refl;
  fault = inl (fault_told c.scope.world.names c.builder.0 tok code fault, place);
}

-- the next token completes a list that breaks a rule
pub breaks_command : (tokens : List Token) (c : Checker) (tok : Tok) (t : Sexp Tok) (refusal : Refusal) → Awaits tokens (token_of c.scope.world.names tok ∷ []) c → IsNameTable c.scope.world.names → tok.name < length c.scope.world.names
    → IsList t → flat t ≡ c.builder.0 ++ flat_tok tok ∷ []
    → judge_tree (environment_of c.scope.world.names c.scope) t [] (ill_sorted (place_of refusal)) → refusal.command ≡ length (accepted_by c) + 1 → TokenBreaks tokens (token_of c.scope.world.names tok) (accepted_by c) refusal
breaks_command tokens c tok t refusal w table named is_list e fault number = record {
  lists = w.follows.lists;
  env = environment_of w.follows.names c.scope;
  unfinished = texts_of c.scope.world.names c.builder.0;
  reads = w.follows.reads;
  runs = w.follows.runs;
  number = number;
  fault = inr (
    sexp_of c.scope.world.names t,
    is_list_told c.scope.world.names t is_list,
    told_list c.scope.world.names c.builder.0 tok t e,
    judged_told w.known tokens c tok t (ill_sorted (place_of refusal)) w.follows w.names table named e fault,
  );
}

-- a table that grows
grown_texts : (old new : List (List ℕ)) (u : List (FlatToken Tok)) → ExtendsTable old new → AreInterned old u → texts_of new u ≡ texts_of old u
grown_texts old new [] e h = refl
grown_texts old new (Opening at ∷ u) e h = ap (λ (fs : List (FlatToken Token)). Opening at ∷ fs) (grown_texts old new u e h)
grown_texts old new (Closing ∷ u) e h = ap (λ (fs : List (FlatToken Token)). Closing ∷ fs) (grown_texts old new u e h)
grown_texts old new (Word a ∷ u) e h =
    let one = token_kept old new a e h.0 in
    ap (λ (t : Token). Word t ∷ texts_of new u) one ∙ ap (λ (fs : List (FlatToken Token)). Word (token_of old a) ∷ fs) (grown_texts old new u e h.1)

grown_interned : (old new : List (List ℕ)) (u : List (FlatToken Tok)) → ExtendsTable old new → AreInterned old u → AreInterned new u
grown_interned old new [] e h = tt
grown_interned old new (Opening at ∷ u) e h = grown_interned old new u e h
grown_interned old new (Closing ∷ u) e h = grown_interned old new u e h
grown_interned old new (Word a ∷ u) e h = (number_kept old new a.name e h.0, grown_interned old new u e h.1)

-- the checker once the lexer has taken a byte
abbrev pub lexed : Checker → List (List ℕ) → Option LexerState → Checker
lexed c names lexer = record c { scope = record c.scope { world = record c.scope.world { names = names } }; lexer = lexer }

pub follows_grown : (known : List (List ℕ)) (tokens : List Token) (c : Checker) (new : List (List ℕ)) (lexer : Option LexerState) → ExtendsTable c.scope.world.names new → Follows known tokens c
    → Follows known tokens (lexed c new lexer)
follows_grown known tokens c new lexer e f =
    let same : texts_of new c.builder.0 ≡ texts_of c.scope.world.names c.builder.0 = grown_texts c.scope.world.names new c.builder.0 e f.interned in record {
      lists = f.lists;
      names = f.names;
      reads = subst (λ (fs : List (FlatToken Token)). Reads (flat_tokens tokens) f.lists fs) (sym same) f.reads;
      no_error = f.no_error;
      runs = f.runs;
      interned = grown_interned c.scope.world.names new c.builder.0 e f.interned;
      table = f.table ∙ ap (λ (fs : List (FlatToken Token)). table_after f.names fs) (sym same);
      keeps = f.keeps;
      stands = record { ready = ready_with_names c.scope.world new e f.stands.ready; undeclared = f.stands.undeclared };
    }

abbrev env_of : List (List ℕ) → Option Logic → Theories → Scopes → Kept → ℕ → Environment
env_of names logic theories scopes script next =
    record { names = names; logic = option_map described logic; theories = theories; declarations = declarations_of scopes; datatypes = datatypes_of script; definitions = plain_defs script.defs; next = next }

-- nothing was taken yet
pub starts : (c : Checker) → c.builder ≡ ([], None) → c.scope.logic ≡ None → c.scope.world.theories ≡ core_alone → c.scope.world.scopes ≡ empty → c.scope.next ≡ 0 → c.scope.world.script ≡ empty_script → HasRead [] [] c.lexer
    → c.scope.world.names ≡ fixed_texts → IsNameTable c.scope.world.names → IsReadyScope c.scope → length c.scope.world.names ≤ 57 → HasTaken [] c
starts c builder logic theories scopes next script read names table stands few = record {
  tokens = [];
  read = read;
  follows = record {
    lists = [];
    names = c.scope.world.names;
    reads = subst (λ (s : State). Reads [] [] (texts_of c.scope.world.names s.0)) (sym builder) reads_nothing;
    no_error = ap (λ (s : State). s.1) builder;
    runs = ap (λ (k : Kept). all_of (commands_of k) (environment_of c.scope.world.names c.scope)) script ∙ ap (λ (e : Environment). all_of [] e)
        (ap (λ (ns : List (List ℕ)). env_of ns c.scope.logic c.scope.world.theories c.scope.world.scopes c.scope.world.script c.scope.next) names
        ∙ (ap (λ (l : Option Logic). env_of fixed_texts l c.scope.world.theories c.scope.world.scopes c.scope.world.script c.scope.next) logic
        ∙ (ap (λ (t : Theories). env_of fixed_texts None t c.scope.world.scopes c.scope.world.script c.scope.next) theories
        ∙ (ap (λ (d : Scopes). env_of fixed_texts None core_alone d c.scope.world.script c.scope.next) scopes
        ∙ (ap (λ (k : Kept). env_of fixed_texts None core_alone empty k c.scope.next) script
        ∙ ap (λ (n : ℕ). env_of fixed_texts None core_alone empty empty_script n) next)))));
    interned = subst (λ (s : State). AreInterned c.scope.world.names s.0) (sym builder) tt;
    table = subst (λ (s : State). c.scope.world.names ≡ table_after c.scope.world.names (texts_of c.scope.world.names s.0)) (sym builder) refl;
    keeps = subst KeepsDefined (sym script) (record { defs = refl; datatypes = refl });
    stands = stands;
  };
  table = table;
  few_names = omega (arith, few);
  few_commands = omega (arith, ap (λ (k : Kept). length (commands_of k)) script);
}
