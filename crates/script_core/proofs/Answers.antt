-- Every text is accepted or refused, never both, and in one way.
use Rattle.std.proofs.Common.{◌≡◌, ℕ, ◌+◌, Bool, true, false, List, [], ◌∷◌, length, Option, None, Some, refl, sym, ◌∙◌, ap, subst, ◌⊎◌, inl, inr}
use Rattle.lex_core.specs.Token.{Token}
use Rattle.lex_core.specs.declared.place.Place.{Place}
use Rattle.sig_table.specs.declared.code.Code.{Code}
use Rattle.sig_table.specs.declared.code.Code.TheVariants.{UnclosedList}
use Rattle.sexp_core.specs.Reading.{IsUnclosed, IsUnfinished}
use Rattle.sexp_core.specs.Sexp.{FlatToken, Opening, Sexp}
use Rattle.term_store.specs.Command.{PlainCommand}
use Rattle.script_core.specs.declared.refusal.Refusal.{Refusal}
use Rattle.script_core.specs.Acceptance.{IsFaultless, IsFirstFault, Judged, Refuses, Sofar, SomeAnswer, TextFault, place_of}
use Rattle.script_core.specs.Environment.{start}
use Rattle.script_core.specs.Steps.{Cause, all_taken, exited, broken, Run, Runs}
use Rattle.script_core.specs.Text.{AllRead, Broken, BreaksAt, HasLists, ListsEnd, Unfinished}
use Rattle.script_core.proofs.LawfulRuns.{run_once, run_some, start_reached}
use Rattle.script_core.proofs.TextLists.{lists_once, some_lists}
use Rattle.script_core.proofs.TextTokens.{same_place, some_tokens, tokens_once}

-- two readings of one text
record SameText (f g : Option Place) (a b : ListsEnd) (r s : Run) : Type 0 where
  fault : f ≡ g
  rest : a ≡ b
  run : r ≡ s

judged_once : (bytes : List ℕ) (ended : Bool) (f g : Option Place) (a b : ListsEnd) (r s : Run) → Judged bytes ended f a r → Judged bytes ended g b s → SameText f g a b r s
judged_once bytes ended f g a b r s x y =
    let tokens = tokens_once bytes x.tokens y.tokens ended ended f g refl x.has_tokens y.has_tokens in
    let lists = lists_once y.tokens x.lists y.lists a b (subst (λ (ts : List Token). HasLists ts x.lists a) tokens.0 x.has_lists) y.has_lists in
    record { fault = tokens.1; rest = lists.1; run = run_once y.lists start start_reached r s (subst (λ (ls : List (Sexp Token)). Runs start ls r) lists.0 x.runs) y.runs }

pub sofar_unique : (bytes : List ℕ) (ended : Bool) (cs ds : List PlainCommand) → Sofar bytes ended cs → Sofar bytes ended ds → cs ≡ ds
sofar_unique bytes ended cs ds x y =
    let same = judged_once bytes ended x.fault y.fault x.rest y.rest x.run y.run x.judged y.judged in
    x.accepted ∙ (ap (λ (r : Run). r.commands) same.run ∙ sym y.accepted)

-- a text without a fault has no first fault
faultless_first : (ended : Bool) (fault : Option Place) (rest : ListsEnd) (cause : Cause) (place : Place) → IsFaultless ended fault rest cause → IsFirstFault ended fault rest cause place → ⊥
faultless_first ended fault rest exited place x y = y
faultless_first ended fault rest all_taken place x y = x place y
faultless_first ended fault rest (broken here) place x y = x

-- what holds of one reading holds of the other
moved : (P : Option Place → ListsEnd → Cause → Type 0) (f g : Option Place) (a b : ListsEnd) (r s : Run) → SameText f g a b r s → P f a r.cause → P g b s.cause
moved P f g a b r s same h =
    subst (λ (x : Option Place). P x b s.cause) same.fault (subst (λ (x : ListsEnd). P f x s.cause) same.rest (subst (λ (x : Run). P f a x.cause) same.run h))

pub sofar_refuses : (bytes : List ℕ) (ended : Bool) (cs ds : List PlainCommand) (refusal : Refusal) → Sofar bytes ended cs → Refuses bytes ended ds refusal → ⊥
sofar_refuses bytes ended cs ds refusal x y =
    let same = judged_once bytes ended x.fault y.fault x.rest y.rest x.run y.run x.judged y.judged in
    faultless_first ended y.fault y.rest y.run.cause (place_of refusal)
    (moved (λ f r c. IsFaultless ended f r c) x.fault y.fault x.rest y.rest x.run y.run same x.faultless) y.first_fault

unclosed_once : (tokens : List (FlatToken Token)) (p q : ℕ) → IsUnclosed tokens p → IsUnclosed tokens q → p ≡ q
unclosed_once tokens p q (rest, e) (others, f) =
    let h : Opening p ∷ rest ≡ Opening q ∷ others = sym e ∙ f in cc

text_fault_once : (ended : Bool) (fault : Option Place) (rest : ListsEnd) (p q : Place) → TextFault ended fault rest p → TextFault ended fault rest q → p ≡ q
text_fault_once ended fault (Broken at) p q f g = f ∙ sym g
text_fault_once ended (Some fault) (Unfinished tokens) p q f g = f ∙ sym g
text_fault_once true None (Unfinished tokens) p q f g = same_place p q (f.1 ∙ sym g.1) (unclosed_once tokens p.at q.at f.0 g.0)
text_fault_once false None (Unfinished tokens) p q f g = absurd f

first_fault_once : (ended : Bool) (fault : Option Place) (rest : ListsEnd) (cause : Cause) (p q : Place) → IsFirstFault ended fault rest cause p → IsFirstFault ended fault rest cause q → p ≡ q
first_fault_once ended fault rest exited p q f g = absurd f
first_fault_once ended fault rest all_taken p q f g = text_fault_once ended fault rest p q f g
first_fault_once ended fault rest (broken here) p q f g = f ∙ sym g

same_parts : (a b : Refusal) → a.command ≡ b.command → place_of a ≡ place_of b → a ≡ b
same_parts a b c p =
    let at : a.at ≡ b.at = ap (λ (x : Place). x.at) p in
    let rule : a.rule ≡ b.rule = ap (λ (x : Place). x.code) p in
    let one : a ≡ record a { command = b.command } = ap (λ (n : ℕ). record a { command = n }) c in
    let two : record a { command = b.command } ≡ record a { command = b.command; at = b.at } = ap (λ (n : ℕ). record a { command = b.command; at = n }) at in
    one ∙ (two ∙ ap (λ (k : Code). record b { rule = k }) rule)

pub refuses_unique : (bytes : List ℕ) (ended : Bool) (cs ds : List PlainCommand) (a b : Refusal) → Refuses bytes ended cs a → Refuses bytes ended ds b → (cs ≡ ds) × (a ≡ b)
refuses_unique bytes ended cs ds a b x y =
    let same = judged_once bytes ended x.fault y.fault x.rest y.rest x.run y.run x.judged y.judged in
    let commands : cs ≡ ds = x.accepted ∙ (ap (λ (r : Run). r.commands) same.run ∙ sym y.accepted) in (
      commands,
      same_parts a b (x.number ∙ (ap (λ (l : List PlainCommand). length l + 1) commands ∙ sym y.number))
          (first_fault_once ended y.fault y.rest y.run.cause (place_of a) (place_of b)
          (moved (λ f r c. IsFirstFault ended f r c (place_of a)) x.fault y.fault x.rest y.rest x.run y.run same x.first_fault) y.first_fault),
    )

-- the text after the commands shows a fault, or it shows none
text_cases : (ended : Bool) (fault : Option Place) (rest : ListsEnd) → ((u : List (FlatToken Token)) → rest ≡ Unfinished u → IsUnfinished u)
    → ((place : Place) × TextFault ended fault rest place) ⊎ ((place : Place) → TextFault ended fault rest place → ⊥)
text_cases ended fault (Broken place) beginning = inl (place, refl)
text_cases ended (Some place) (Unfinished tokens) beginning = inl (place, refl)
text_cases true None (Unfinished []) beginning = inr (λ place fault. let e = fault.0.1 in cc)
text_cases true None (Unfinished (t ∷ tokens)) beginning =
    let b = beginning (t ∷ tokens) refl in
    let first : t ≡ Opening b.at = let e = b.spelled in cc in
    inl (record { code = UnclosedList; at = b.at }, ((tokens, ap (λ (f : FlatToken Token). f ∷ tokens) first), refl))
text_cases false None (Unfinished tokens) beginning = inr (λ place fault. fault)

-- what is unfinished is the beginning of a list
unfinished_beginning : (tokens : List Token) (lists : List (Sexp Token)) (rest : ListsEnd) → HasLists tokens lists rest → (u : List (FlatToken Token)) → rest ≡ Unfinished u → IsUnfinished u
unfinished_beginning tokens lists rest (AllRead v reads) u e = let same : v ≡ u = cc in subst (λ (fs : List (FlatToken Token)). IsUnfinished fs) same reads.is_unfinished
unfinished_beginning tokens lists rest (BreaksAt place before next after v split reads fault at) u e = cc

-- the text has no fault, or a first one
fault_cases : (ended : Bool) (fault : Option Place) (rest : ListsEnd) (cause : Cause) → ((u : List (FlatToken Token)) → rest ≡ Unfinished u → IsUnfinished u)
    → ((place : Place) × IsFirstFault ended fault rest cause place) ⊎ IsFaultless ended fault rest cause
fault_cases ended fault rest exited beginning = inr tt
fault_cases ended fault rest all_taken beginning = text_cases ended fault rest beginning
fault_cases ended fault rest (broken here) beginning = inl (here, refl)

pub some_answer : (bytes : List ℕ) (ended : Bool) → SomeAnswer bytes ended
some_answer bytes ended =
    let t = some_tokens bytes ended in
    let l = some_lists t.later in
    let r = run_some l.more start start_reached in
    let judged : Judged bytes ended t.fault l.rest r.0 = record { tokens = t.later; lists = l.more; has_tokens = t.has_tokens; has_lists = l.has_lists; runs = r.1 } in
    elim (fault_cases ended t.fault l.rest r.0.cause (unfinished_beginning t.later l.more l.rest l.has_lists)) [
      | inl found ↦ (
        r.0.commands,
        inr (
          record { command = length r.0.commands + 1; at = found.0.at; rule = found.0.code },
          record { fault = t.fault; rest = l.rest; run = r.0; judged = judged; accepted = refl; number = refl; first_fault = found.1 },
        ),
      )
      | inr fine ↦ (r.0.commands, inl (record { fault = t.fault; rest = l.rest; run = r.0; judged = judged; accepted = refl; faultless = fine }))
    ]
