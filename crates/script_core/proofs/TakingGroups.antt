-- Functions that are defined together, from what the calls answer.
use Rattle.std.proofs.Common.{◌≡◌, ℕ, zero, suc, ◌<◌, true, IsTrue, List, [], ◌∷◌, ◌++◌, length, map, slice_index_or, Option, Some, None, Result, Ok, Err, refl, ap, sym, ◌∙◌, subst, inl, inr, arith, append_assoc, append-nil}
use Rattle.std.specs.Option.{IsSome, is_some}
use Rattle.std.specs.List.{All}
use Rattle.std.proofs.lemmas.List.{map-append}
use Rattle.std.proofs.lemmas.List.Elements.{All-push}
use Rattle.sig_table.specs.declared.code.Code.TheVariants as code
use Rattle.judgement.specs.Judging.{Judging, Outcome, ◌>>=◌, done, ill_sorted, well_sorted}
use Rattle.sort_store.specs.Interned.{Grows}
use Rattle.sort_store.proofs.GrownStores.{grows_none}
use Rattle.term_grammar.specs.Syntax.{Term, Terms, no_terms, with_term}
use Rattle.term_grammar.specs.TermViews.{SplitsTerms}
use Rattle.cmd_grammar.specs.Commands.{FunDec, define_funs_rec}
use Rattle.cmd_grammar.specs.DeclarationViews.{fun_dec_seen}
use Rattle.cmd_grammar.specs.TreeLists.{SplitsBy}
use Rattle.cmd_grammar.specs.declared.fun_dec.RawFunDec.{RawFunDec}
use Rattle.term_store.specs.Command.{PlainDef, plain_def}
use Rattle.term_store.specs.Command as typed
use Rattle.term_store.specs.Term.{NumberedTerm}
use Rattle.term_store.specs.Term as terms
use Rattle.term_store.specs.declared.command.Def.{Def}
use Rattle.term_store.specs.declared.command.TypedCommand.TheVariants as kept
use Rattle.typer.specs.Ready.{IsReadySchema}
use Rattle.typer.proofs.ReadyKept.{schema_grown}
use Rattle.script_core.specs.declared.definitions.FunHeader.{FunHeader}
use Rattle.script_core.specs.declared.scope.Scope.{Scope}
use Rattle.script_core.specs.declared.scope.StepError.{StepError}
use Rattle.script_core.specs.declared.scope.StepError.TheVariants as error
use Rattle.script_core.specs.Checking.{environment_of}
use Rattle.script_core.specs.Effects.{Answers, AreNamed, BeginsNames, DeclaresNoName, IsReadyHeader, IsSameTo, Meets, MeetsParts, OnlySortsGrow, first_of, plain_header, seen_by}
use Rattle.script_core.specs.Environment.{Environment}
use Rattle.script_core.specs.RuleAnswers.{fun_decs_left, terms_left}
use Rattle.script_core.specs.Rules.{Header, declare_each, defined, judge_body, judge_header, judge_headers, judge_member, judge_members, with_header, with_headers}
use Rattle.script_core.proofs.SetLogics.{some_described}
use Rattle.script_core.proofs.TakingDefinitions.{HasNamed, header_later, named_ready}
use Rattle.script_core.proofs.TakingLists.{Onward, onward_end, onward_fault, onward_part, onward_start}
use Rattle.script_core.proofs.TakingParts.{here_env, same_names, same_pair}

pub fun_decs_split : (fs : List FunDec) (o : Option (RawFunDec × List FunDec)) → SplitsBy fun_dec_seen fs o → fs ≡ fun_decs_left o
fun_decs_split fs None e = e
fun_decs_split fs (Some p) e = e

-- one function more is live
headers_more : (env : Environment) (hs : List Header) (h : Header) → with_headers env (hs ++ h ∷ []) ≡ with_header (with_headers env hs) h
headers_more env [] h = refl
headers_more env (x ∷ hs) h = headers_more (with_header env x) hs h

-- a header that may stand in a declaration still may where the store has grown
header_grown : (old new : Scope) (h : FunHeader) → new.world.names ≡ old.world.names → Grows old.world.sorts new.world.sorts → IsReadyHeader old h → IsReadyHeader new h
header_grown old new h names grows ready = record {
  params = λ k d l. subst (λ (ns : List (List ℕ)). IsReadySchema ns new.world.sorts 0 (slice_index_or (map (λ v. v.1) h.params) k d)) (sym names)
      (schema_grown old.world.names old.world.sorts new.world.sorts grows 0 _ (ready.params k d l));
  result = subst (λ (ns : List (List ℕ)). IsReadySchema ns new.world.sorts 0 h.result) (sym names) (schema_grown old.world.names old.world.sorts new.world.sorts grows 0 _ ready.result);
}

pub headers_ready : (old new : Scope) (made more : List FunHeader) (h : FunHeader) → new.world.names ≡ old.world.names → Grows old.world.sorts new.world.sorts → All (IsReadyHeader old) made → IsReadyHeader new h → more ≡ made ++ h ∷ []
    → All (IsReadyHeader new) more
headers_ready old new made more h names grows ready one put =
    subst (λ (hs : List FunHeader). All (IsReadyHeader new) hs) (sym put) (All-push (IsReadyHeader new) made h (λ k d l. header_grown old new _ names grows (ready k d l)) one)

-- no function is declared yet
pub headers_start : (start : Environment) (decs : List FunDec) (next : Option (RawFunDec × List FunDec)) (made : List FunHeader) → SplitsBy fun_dec_seen decs next → made ≡ []
    → Onward judge_headers start decs (with_headers start (map plain_header made)) (fun_decs_left next) (map plain_header made) [] []
headers_start start decs next made split none =
    subst (λ (hs : List FunHeader). Onward judge_headers start decs (with_headers start (map plain_header hs)) (fun_decs_left next) (map plain_header hs) [] []) (sym none)
    (onward_start plain_header judge_headers start decs (fun_decs_left next) [] [] (sym (fun_decs_split decs next split)) refl)

pub reached_none : (env : Environment) (made : List FunHeader) → made ≡ [] → env ≡ with_headers env (map plain_header made)
reached_none env made none = ap (λ (hs : List FunHeader). with_headers env (map plain_header hs)) (sym none)

-- A declaration among those that are left.
module _ (start here : Environment) (decs left : List FunDec) (first : RawFunDec) (rest : List FunDec) (made : List FunHeader) (is : left ≡ fun_dec_seen first ∷ rest) (reached : here ≡ with_headers start (map plain_header made))
    (onward : Onward judge_headers start decs (with_headers start (map plain_header made)) left (map plain_header made) [] []) where
  abbrev state : Environment
  state = with_headers start (map plain_header made)

  abbrev each : Environment → FunDec → Judging Header
  each env f = judge_header env f.name f.params f.result

  joins : (o : Outcome (List Header)) → (each state (fun_dec_seen first) >>= (λ h. judge_headers (with_header state h) rest >>= (λ hs. done (h ∷ hs)))) [] o → judge_headers state left [] o
  joins (well_sorted x after) h = subst (λ (fs : List FunDec). judge_headers state fs [] (well_sorted x after)) (sym is) h
  joins (ill_sorted place) h = subst (λ (fs : List FunDec). judge_headers state fs [] (ill_sorted place)) (sym is) h

  headed_here : (r : Result FunHeader StepError) → Answers (each here (fun_dec_seen first)) plain_header r → Answers (each state (fun_dec_seen first)) plain_header r
  headed_here r h = subst (λ (e : Environment). Answers (each e (fun_dec_seen first)) plain_header r) reached h

  more_live : (new : List FunHeader) (h : FunHeader) → new ≡ made ++ h ∷ [] → with_headers start (map plain_header new) ≡ with_header state (plain_header h)
  more_live new h put = ap (λ (hs : List FunHeader). with_headers start (map plain_header hs)) put ∙ (ap (with_headers start) (map-append plain_header made (h ∷ [])) ∙ headers_more start (map plain_header made) (plain_header h))

  pub headers_onward : (h : FunHeader) (new : List FunHeader) (next : Option (RawFunDec × List FunDec)) → Answers (each here (fun_dec_seen first)) plain_header (Ok h) → new ≡ made ++ h ∷ [] → SplitsBy fun_dec_seen rest next
      → Onward judge_headers start decs (with_headers start (map plain_header new)) (fun_decs_left next) (map plain_header new) [] []
  headers_onward h new next headed put split =
      onward_part plain_header each with_header judge_headers start decs state left rest (fun_dec_seen first) made [] [] joins onward h new (with_headers start (map plain_header new)) (fun_decs_left next) []
      (headed_here (Ok h) headed) put (more_live new h put) (sym (fun_decs_split rest next split))

  pub headers_broken : (e : StepError) → Answers (each here (fun_dec_seen first)) plain_header (Err e) → Answers {A = List FunHeader} (judge_headers start decs) (map plain_header) (Err e)
  headers_broken e h =
      onward_fault plain_header each with_header judge_headers start decs state left rest (fun_dec_seen first) made [] [] joins onward plain_header (map plain_header) e [] [] (headed_here (Err e) h)

  pub reached_more : (after : Environment) (h : FunHeader) (new : List FunHeader) → after ≡ with_header here (plain_header h) → new ≡ made ++ h ∷ [] → after ≡ with_headers start (map plain_header new)
  reached_more after h new effect put = effect ∙ (ap (λ (e : Environment). with_header e (plain_header h)) reached ∙ sym (more_live new h put))

-- all functions are declared
pub headers_taken : (start : Environment) (decs left : List FunDec) (made : List FunHeader) → left ≡ [] → Onward judge_headers start decs (with_headers start (map plain_header made)) left (map plain_header made) [] []
    → judge_headers start decs [] (well_sorted (map plain_header made) [])
headers_taken start decs left made none onward =
    onward_end plain_header judge_headers start decs (with_headers start (map plain_header made)) left made [] []
    (subst (λ (fs : List FunDec). judge_headers (with_headers start (map plain_header made)) fs [] (well_sorted [] [])) (sym none) (refl, refl)) onward

-- the logic stays set, and the names stay
headers_logic : (env : Environment) (hs : List Header) → (with_headers env hs).logic ≡ env.logic
headers_logic env [] = refl
headers_logic env (h ∷ hs) = headers_logic (with_header env h) hs

headers_names : (env : Environment) (hs : List Header) → (with_headers env hs).names ≡ env.names
headers_names env [] = refl
headers_names env (h ∷ hs) = headers_names (with_header env h) hs

pub logic_set : (names : List (List ℕ)) (old new : Scope) (hs : List Header) → environment_of names new ≡ with_headers (environment_of names old) hs → IsSome old.logic → IsSome new.logic
logic_set names old new hs reached set =
    sym (some_described new.logic) ∙ (ap (λ (e : Environment). is_some e.logic) reached ∙ (ap is_some (headers_logic (environment_of names old) hs) ∙ (some_described old.logic ∙ set)))

-- The members of the group, with the terms that are left, where the first name that the command declares has this number.
abbrev pub members : ℕ → Environment → ℕ → Unit {0} → List Header × Terms → Judging (List PlainDef)
members first env at u p = judge_members first env at p.0 p.1

pub body_left : (ts : Terms) (o : Option (Term × Terms)) → SplitsTerms ts o → ts ≡ terms_left o
body_left ts None e = e
body_left ts (Some p) e = e

pub members_start : (first : ℕ) (env : Environment) (at : ℕ) (headers : List FunHeader) (ts : Terms) (next : Option (Term × Terms)) (made : List Def) (before : List ℕ) → SplitsTerms ts next → made ≡ []
    → Onward (members first env at) tt (map plain_header headers, ts) tt (map plain_header headers, terms_left next) (map plain_def made) before before
members_start first env at headers ts next made before split none =
    onward_start plain_def (members first env at) tt (map plain_header headers, ts) (map plain_header headers, terms_left next) made before
    (ap (λ (us : Terms). (map plain_header headers, us)) (sym (body_left ts next split))) none

module _ (first : ℕ) (env : Environment) (at : ℕ) (all : List Header × Terms) (headers : List FunHeader) (left : Terms) (h : FunHeader) (others : List FunHeader) (t : Term) (rest : Terms) (made : List Def) (before so_far : List ℕ)
    (one_first : headers ≡ h ∷ others) (is : left ≡ with_term t rest) (onward : Onward (members first env at) tt all tt (map plain_header headers, left) (map plain_def made) before so_far) where
  abbrev one : Unit {0} → Header × Term → Judging PlainDef
  one u p = judge_member first env p.0 p.1

  joined : (o : Outcome (List PlainDef)) → (one tt (plain_header h, t) >>= (λ d. members first env at tt (map plain_header others, rest) >>= (λ ds. done (d ∷ ds)))) so_far o → members first env at tt (map plain_header headers, left) so_far o
  joined o j =
      subst (λ (hs : List FunHeader). judge_members first env at (map plain_header hs) left so_far o) (sym one_first) (subst (λ (us : Terms). judge_members first env at (plain_header h ∷ map plain_header others) us so_far o) (sym is) (both o j))
    where
      both : (o : Outcome (List PlainDef)) → (one tt (plain_header h, t) >>= (λ d. members first env at tt (map plain_header others, rest) >>= (λ ds. done (d ∷ ds)))) so_far o
          → judge_members first env at (plain_header h ∷ map plain_header others) (with_term t rest) so_far o
      both (well_sorted x after) j = j
      both (ill_sorted place) j = j

  pub members_onward : (d : Def) (new : List Def) (next : Option (Term × Terms)) (after : List ℕ) → Meets (judge_member first env (plain_header h) t) plain_def (Ok d) so_far after → new ≡ made ++ d ∷ [] → SplitsTerms rest next
      → Onward (members first env at) tt all tt (map plain_header others, terms_left next) (map plain_def new) before after
  members_onward d new next after j put split =
      onward_part plain_def one (λ s v. tt) (members first env at) tt all tt (map plain_header headers, left) (map plain_header others, rest) (plain_header h, t) made before so_far joined onward d new tt (map plain_header others, terms_left next) after
      j put refl (ap (λ (us : Terms). (map plain_header others, us)) (sym (body_left rest next split)))

  pub members_broken : (e : StepError) (later after : List ℕ) → Meets (judge_member first env (plain_header h) t) plain_def (Err e) so_far later → Meets {A = List Def} (members first env at tt all) (map plain_def) (Err e) before after
  members_broken e later after j =
      onward_fault plain_def one (λ s v. tt) (members first env at) tt all tt (map plain_header headers, left) (map plain_header others, rest) (plain_header h, t) made before so_far joined onward plain_def (map plain_def) e later after j

-- a member, by the state in which it is judged
pub member_moved : (first here_first : ℕ) (env here : Environment) (h : Header) (t : Term) (r : Result Def StepError) (before after : List ℕ) → here_first ≡ first → here ≡ env → Meets (judge_member here_first here h t) plain_def r before after
    → Meets (judge_member first env h t) plain_def r before after
member_moved first here_first env here h t r before after e f j =
    subst (λ (x : Environment). Meets (judge_member first x h t) plain_def r before after) f (subst (λ (n : ℕ). Meets (judge_member n here h t) plain_def r before after) e j)

-- a body is missing
pub members_short : (first : ℕ) (env : Environment) (at : ℕ) (all : List Header × Terms) (headers : List FunHeader) (left : Terms) (h : FunHeader) (others : List FunHeader) (made : List Def) (before so_far : List ℕ) → headers ≡ h ∷ others
    → left ≡ no_terms → Onward (members first env at) tt all tt (map plain_header headers, left) (map plain_def made) before so_far → members first env at tt all before (ill_sorted (record { code = code.WrongCommandForm; at = at }))
members_short first env at all headers left h others made before so_far one_first none onward =
    let fault = ill_sorted (record { code = code.WrongCommandForm; at = at }) in
    onward fault (subst (λ (hs : List FunHeader). judge_members first env at (map plain_header hs) left so_far fault) (sym one_first)
    (subst (λ (us : Terms). judge_members first env at (plain_header h ∷ map plain_header others) us so_far fault) (sym none) refl))

-- all are defined
pub members_taken : (first : ℕ) (env : Environment) (at : ℕ) (all : List Header × Terms) (headers : List FunHeader) (left : Terms) (made : List Def) (before so_far : List ℕ) → headers ≡ []
    → Onward (members first env at) tt all tt (map plain_header headers, left) (map plain_def made) before so_far → members first env at tt all before (well_sorted (map plain_def made) so_far)
members_taken first env at all headers left made before so_far none onward =
    onward_end plain_def (members first env at) tt all tt (map plain_header headers, left) made before so_far
    (subst (λ (hs : List FunHeader). judge_members first env at (map plain_header hs) left so_far (well_sorted [] so_far)) (sym none) (refl, refl)) onward

-- one member, from its body
pub member_broken : (first : ℕ) (env : Environment) (h : Header) (t : Term) (e : StepError) (before after : List ℕ) → Meets (judge_body first env h t) terms.tree (Err e) before after → Meets {A = Def} (judge_member first env h t) plain_def (Err e) before after
member_broken first env h t (error.Broken place) before after j = inl j
member_broken first env h t error.NoMemory before after j = tt

pub member_right : (first : ℕ) (env : Environment) (h : Header) (t : Term) (u : NumberedTerm) (d : Def) (before after : List ℕ) → Meets (judge_body first env h t) terms.tree (Ok u) before after → plain_def d ≡ defined h true (terms.tree u)
    → Meets (judge_member first env h t) plain_def (Ok d) before after
member_right first env h t u d before after j is = (terms.tree u, after, j, (is, refl))

-- the names of the headers, one after the other
pub each_declared : (names before : List ℕ) → declare_each names before (well_sorted tt (before ++ names))
each_declared [] before = (refl, append-nil before)
each_declared (n ∷ names) before = (tt, before ++ n ∷ [], refl, subst (λ (ns : List ℕ). declare_each names (before ++ n ∷ []) (well_sorted tt ns)) (append_assoc before (n ∷ []) names) (each_declared names (before ++ n ∷ [])))

names_of_headers : (hs : List FunHeader) → map (λ (h : FunHeader). h.name) hs ≡ map (λ (h : Header). h.name) (map plain_header hs)
names_of_headers [] = refl
names_of_headers (h ∷ hs) = ap (λ ns. h.name ∷ ns) (names_of_headers hs)

-- the group has declared its names
pub names_of_group : (old mid named : Scope) (hs shown : List FunHeader) → BeginsNames old → DeclaresNoName old mid → seen_by named ≡ seen_by mid ++ map (λ (h : FunHeader). h.name) shown → first_of named ≡ first_of mid → shown ≡ hs
    → HasNamed old (map (λ (h : Header). h.name) (map plain_header hs)) named
names_of_group old mid named hs shown begins none seen first same = record {
  seen = seen ∙ (ap (λ (ns : List ℕ). ns ++ map (λ (h : FunHeader). h.name) shown) (none.0 ∙ begins.0) ∙ (ap (map (λ (h : FunHeader). h.name)) same ∙ names_of_headers hs));
  first = first ∙ (none.1 ∙ begins.1);
}

-- the group
module _ (old mid named : Scope) (at : ℕ) (fs : List FunDec) (ts : Terms) (hs : List FunHeader) (headed : Answers {A = List FunHeader} (judge_headers (environment_of old.world.names old) fs) (map plain_header) (Ok hs))
    (kept_names : mid.world.names ≡ old.world.names) (reached : environment_of old.world.names mid ≡ with_headers (environment_of old.world.names old) (map plain_header hs)) (unchanged : IsSameTo mid named)
    (has : HasNamed old (map (λ (h : Header). h.name) (map plain_header hs)) named) where
  abbrev start_env : Environment
  start_env = environment_of old.world.names old

  abbrev own : List ℕ
  own = map (λ (h : Header). h.name) (map plain_header hs)

  named_own : environment_of named.world.names named ≡ with_headers start_env (map plain_header hs)
  named_own = unchanged ∙ (ap (λ (ns : List (List ℕ)). environment_of ns mid) kept_names ∙ reached)

  at_live : (r : Result (List Def) StepError) (shown : List FunHeader) (after : List ℕ) → shown ≡ hs → Meets (judge_members (first_of named) (environment_of named.world.names named) at (map plain_header shown) ts) (map plain_def) r (seen_by named) after
      → Meets (judge_members old.next (with_headers start_env (map plain_header hs)) at (map plain_header hs) ts) (map plain_def) r own after
  at_live r shown after seen j =
      subst (λ (xs : List FunHeader). Meets (judge_members old.next (with_headers start_env (map plain_header hs)) at (map plain_header xs) ts) (map plain_def) r own after) seen
      (subst (λ (e : Environment). Meets (judge_members old.next e at (map plain_header shown) ts) (map plain_def) r own after) named_own
      (subst (λ (n : ℕ). Meets (judge_members n (environment_of named.world.names named) at (map plain_header shown) ts) (map plain_def) r own after) has.first
      (subst (λ (ns : List ℕ). Meets (judge_members (first_of named) (environment_of named.world.names named) at (map plain_header shown) ts) (map plain_def) r ns after) has.seen j)))

  pub group_broken : (new : Environment) (shown : List FunHeader) (e : StepError) (after : List ℕ) → shown ≡ hs
      → Meets {A = List Def} (judge_members (first_of named) (environment_of named.world.names named) at (map plain_header shown) ts) (map plain_def) (Err e) (seen_by named) after → MeetsParts start_env at (define_funs_rec fs ts) (Err e) new after
  group_broken new shown (error.Broken place) after seen j = inr (map plain_header hs, [], headed, inr (tt, own, each_declared own [], inl (at_live (Err (error.Broken place)) shown after seen j)))
  group_broken new shown error.NoMemory after seen j = tt

  pub group_right : (new : Scope) (shown : List FunHeader) (ds : List Def) (after : List ℕ) → shown ≡ hs
      → Meets {A = List Def} (judge_members (first_of named) (environment_of named.world.names named) at (map plain_header shown) ts) (map plain_def) (Ok ds) (seen_by named) after → IsSameTo named new
      → MeetsParts start_env at (define_funs_rec fs ts) (Ok (kept.DefineFunsRec ds)) (environment_of old.world.names new) after
  group_right new shown ds after seen j same =
      let all : environment_of new.world.names new ≡ with_headers start_env (map plain_header hs) = same ∙ named_own in (
        map plain_header hs,
        [],
        headed,
        (
          tt,
          own,
          each_declared own [],
          (
            map plain_def ds,
            after,
            at_live (Ok ds) shown after seen j,
            (
              same_pair (typed.define_funs_rec (map plain_def ds)) (typed.define_funs_rec (map plain_def ds)) _ _ refl
                  (ap (λ (ns : List (List ℕ)). environment_of ns new) (sym (ap (λ (e : Environment). e.names) all ∙ headers_names start_env (map plain_header hs))) ∙ all),
              refl,
            ),
          ),
        ),
      )

-- A function is live once its header is judged.
module _ (old near live : Scope) (h : FunHeader) (grown : OnlySortsGrow old near) (named : live.world.names ≡ near.world.names) (stored : live.world.sorts ≡ near.world.sorts) where
  pub next_effect : environment_of near.world.names live ≡ with_header (environment_of near.world.names near) (plain_header h) → environment_of old.world.names live ≡ with_header (environment_of old.world.names old) (plain_header h)
  next_effect effect =
      ap (λ (ns : List (List ℕ)). environment_of ns live) (sym (same_names old near grown)) ∙ (effect ∙ ap (λ (e : Environment). with_header e (plain_header h)) (here_env old near grown))

  pub next_ready : IsReadyHeader near h → IsReadyHeader live h
  next_ready ready = header_grown near live h named (subst (Grows near.world.sorts) (sym stored) (grows_none near.world.sorts)) ready

  pub next_grows : Grows old.world.sorts live.world.sorts
  next_grows = subst (Grows old.world.sorts) (sym stored) grown.grows

  pub next_names : live.world.names ≡ old.world.names
  next_names = named ∙ same_names old near grown

pub named_left : (texts : List (List ℕ)) (fs : List FunDec) (next : Option (RawFunDec × List FunDec)) → SplitsBy fun_dec_seen fs next → AreNamed texts fs → AreNamed texts (fun_decs_left next)
named_left texts fs next split named = subst (AreNamed texts) (fun_decs_split fs next split) named

pub named_first : (texts here : List (List ℕ)) (left : List FunDec) (first : RawFunDec) (rest : List FunDec) → left ≡ fun_dec_seen first ∷ rest → here ≡ texts → AreNamed texts left → first.name.name < length here
named_first texts here left first rest is same named = subst (λ (ns : List (List ℕ)). first.name.name < length ns) (sym same) (subst (AreNamed texts) is named).0

pub named_rest : (texts : List (List ℕ)) (left : List FunDec) (first : RawFunDec) (rest : List FunDec) → left ≡ fun_dec_seen first ∷ rest → AreNamed texts left → AreNamed texts rest
named_rest texts left first rest is named = (subst (AreNamed texts) is named).1

pub none_ready : (scope : Scope) (made : List FunHeader) → made ≡ [] → All (IsReadyHeader scope) made
none_ready scope made none = subst (λ (hs : List FunHeader). All (IsReadyHeader scope) hs) (sym none) (λ k d l. absurd (omega (arith, l)))

-- under the names of before
pub effect_before : (old here after : Scope) (h : FunHeader) → here.world.names ≡ old.world.names → environment_of here.world.names after ≡ with_header (environment_of here.world.names here) (plain_header h)
    → environment_of old.world.names after ≡ with_header (environment_of old.world.names here) (plain_header h)
effect_before old here after h named effect = subst (λ (ns : List (List ℕ)). environment_of ns after ≡ with_header (environment_of ns here) (plain_header h)) named effect

-- the first header, and the others, may stand in a declaration
pub first_ready : (scope : Scope) (headers : List FunHeader) (h : FunHeader) (others : List FunHeader) → headers ≡ h ∷ others → All (IsReadyHeader scope) headers → IsReadyHeader scope h
first_ready scope headers h others e ready = (subst (λ (hs : List FunHeader). All (IsReadyHeader scope) hs) e ready) zero h (omega arith)

pub others_ready : (old new : Scope) (headers : List FunHeader) (h : FunHeader) (others : List FunHeader) → headers ≡ h ∷ others → IsSameTo old new → Grows old.world.sorts new.world.sorts → All (IsReadyHeader old) headers → All (IsReadyHeader new) others
others_ready old new headers h others e same grows ready =
    λ k d l. header_later old new _ same grows ((subst (λ (hs : List FunHeader). All (IsReadyHeader old) hs) e ready) (suc k) d (omega (arith, l)))

-- headers stay ready where their names are declared
pub all_named_ready : (near named : Scope) (hs shown : List FunHeader) → shown ≡ hs → named.world.names ≡ near.world.names → named.world.sorts ≡ near.world.sorts → All (IsReadyHeader near) hs → All (IsReadyHeader named) shown
all_named_ready near named hs shown same names stored ready = subst (λ (xs : List FunHeader). All (IsReadyHeader named) xs) (sym same) (λ k d l. named_ready near named _ names stored (ready k d l))
