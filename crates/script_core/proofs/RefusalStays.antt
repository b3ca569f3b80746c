-- A refusal that is seen before the end stays, whatever comes after.
use Rattle.std.proofs.Common.{◌≡◌, ℕ, Bool, true, false, List, [], ◌∷◌, ◌++◌, ◌+◌, length, Option, None, Some, refl, sym, ◌∙◌, ap, subst, append_assoc, append-nil}
use Rattle.lex_core.specs.Token.{Token}
use Rattle.lex_core.specs.declared.place.Place.{Place}
use Rattle.sexp_core.specs.Sexp.{Sexp}
use Rattle.term_store.specs.Command.{PlainCommand}
use Rattle.script_core.specs.declared.refusal.Refusal.{Refusal}
use Rattle.script_core.specs.Acceptance.{IsFirstFault, Refuses, TextFault, place_of}
use Rattle.script_core.specs.Environment.{start}
use Rattle.script_core.specs.Steps.{Cause, all_taken, exited, broken, Run, Runs}
use Rattle.script_core.specs.Text.{AllRead, Broken, BreaksAt, Faulty, GoesOn, HasLists, HasTokens, ListsEnd, Unfinished, Whole}
use Rattle.script_core.proofs.Running.{runs_stay}
use Rattle.script_core.proofs.TextLists.{ListsFrom, lists_from}
use Rattle.script_core.proofs.TextTokens.{complete_state, fault_stays, tokens_from}

-- a token that breaks a rule does so where more tokens follow
broken_stays : (tokens later : List Token) (lists : List (Sexp Token)) (rest : ListsEnd) (place : Place) → rest ≡ Broken place → HasLists tokens lists rest → HasLists (tokens ++ later) lists (Broken place)
broken_stays tokens later lists rest place is (AllRead u reads) = cc
broken_stays tokens later lists rest place is (BreaksAt here before next after u e reads fault at) =
    let same : here ≡ place = cc in
    subst (λ (p : Place). HasLists (tokens ++ later) lists (Broken p)) same
    (BreaksAt here before next (after ++ later) u (ap (λ (ts : List Token). ts ++ later) e ∙ append_assoc before (next ∷ after) later) reads fault at)

-- lists that are complete stay so
lists_stay : (tokens later : List Token) (lists : List (Sexp Token)) (rest : ListsEnd) → HasLists tokens lists rest → ListsFrom tokens lists later
lists_stay tokens later lists rest (AllRead u reads) = lists_from later tokens lists u reads
lists_stay tokens later lists rest (BreaksAt here before next after u e reads fault at) = record {
  more = [];
  rest = Broken here;
  has_lists = subst (λ (ls : List (Sexp Token)). HasLists (tokens ++ later) ls (Broken here)) (sym (append-nil lists))
      (broken_stays tokens later lists (Broken here) here refl (BreaksAt here before next after u e reads fault at));
}

same_fault : (early ended : Bool) (fault place : Place) (rest : ListsEnd) → TextFault early (Some fault) rest place → TextFault ended (Some fault) rest place
same_fault early ended fault place (Broken at) f = f
same_fault early ended fault place (Unfinished tokens) f = f

-- a first fault that is seen before the end is one whatever comes after it
first_stays : (early ended : Bool) (fault : Place) (rest : ListsEnd) (cause : Cause) (place : Place) → IsFirstFault early (Some fault) rest cause place → IsFirstFault ended (Some fault) rest cause place
first_stays early ended fault rest exited place f = f
first_stays early ended fault rest all_taken place f = same_fault early ended fault place rest f
first_stays early ended fault rest (broken here) place f = f

-- where the text goes on, the fault is that of a command, or of a token that breaks a rule of lists
goes_on : (bytes more : List ℕ) (ended : Bool) (tokens : List Token) (lists : List (Sexp Token)) (rest : ListsEnd) (run : Run) (cs : List PlainCommand) (r : Refusal) (cause : Cause)
    → cause ≡ run.cause → (later : List Token) (fault : Option Place) → HasTokens (bytes ++ more) (tokens ++ later) ended fault → HasLists tokens lists rest → Runs start lists run
    → cs ≡ run.commands → r.command ≡ length cs + 1 → IsFirstFault false None rest cause (place_of r) → Refuses (bytes ++ more) ended cs r
goes_on bytes more ended tokens lists rest run cs r exited e later fault has_tokens has runs accepted number first = absurd first
goes_on bytes more ended tokens lists (Unfinished u) run cs r all_taken e later fault has_tokens has runs accepted number first = absurd first
goes_on bytes more ended tokens lists (Broken place) run cs r all_taken e later fault has_tokens has runs accepted number first = record {
  fault = fault;
  rest = Broken place;
  run = run;
  judged = record {
    tokens = tokens ++ later;
    lists = lists;
    has_tokens = has_tokens;
    has_lists = broken_stays tokens later lists (Broken place) place refl has;
    runs = runs;
  };
  accepted = accepted;
  number = number;
  first_fault = subst (λ (c : Cause). IsFirstFault ended fault (Broken place) c (place_of r)) e first;
}
goes_on bytes more ended tokens lists rest run cs r (broken here) e later fault has_tokens has runs accepted number first =
    let on = lists_stay tokens later lists rest has in record {
      fault = fault;
      rest = on.rest;
      run = run;
      judged = record {
        tokens = tokens ++ later;
        lists = lists ++ on.more;
        has_tokens = has_tokens;
        has_lists = on.has_lists;
        runs = runs_stay lists on.more start run runs (λ all. let k : broken here ≡ all_taken = e ∙ all in cc);
      };
      accepted = accepted;
      number = number;
      first_fault = subst (λ (c : Cause). IsFirstFault ended fault on.rest c (place_of r)) e first;
    }

stays_from : (bytes more : List ℕ) (early ended : Bool) (fault : Option Place) (rest : ListsEnd) (run : Run) (tokens : List Token) (lists : List (Sexp Token)) (cs : List PlainCommand) (r : Refusal)
    → early ≡ false → HasTokens bytes tokens early fault → HasLists tokens lists rest → Runs start lists run → cs ≡ run.commands → r.command ≡ length cs + 1 → IsFirstFault early fault rest run.cause (place_of r)
    → Refuses (bytes ++ more) ended cs r
stays_from bytes more early ended fault rest run tokens lists cs r e (Whole l) has runs accepted number first = let k : true ≡ false = e in cc
stays_from bytes more early ended fault rest run tokens lists cs r e (Faulty place shows) has runs accepted number first = record {
  fault = Some place;
  rest = rest;
  run = run;
  judged = record {
    tokens = tokens;
    lists = lists;
    has_tokens = Faulty place (fault_stays bytes tokens early place.at place.code more ended e shows);
    has_lists = has;
    runs = runs;
  };
  accepted = accepted;
  number = number;
  first_fault = first_stays early ended place rest run.cause (place_of r) first;
}
stays_from bytes more early ended fault rest run tokens lists cs r e (GoesOn complete) has runs accepted number first =
    let p = complete_state bytes tokens complete in
    let from = tokens_from more bytes tokens p.0 ended p.1 in
    goes_on bytes more ended tokens lists rest run cs r run.cause refl from.later from.fault from.has_tokens has runs accepted number first

pub refusal_stays : (bytes more : List ℕ) (ended : Bool) (cs : List PlainCommand) (r : Refusal) → Refuses bytes false cs r → Refuses (bytes ++ more) ended cs r
refusal_stays bytes more ended cs r y =
    stays_from bytes more false ended y.fault y.rest y.run y.judged.tokens y.judged.lists cs r refl y.judged.has_tokens y.judged.has_lists y.judged.runs y.accepted y.number y.first_fault
