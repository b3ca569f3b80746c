-- The lists of some tokens are fixed, and those of more tokens begin with them.
use Rattle.std.proofs.Common.{◌≡◌, suc, List, [], ◌∷◌, ◌++◌, length, refl, sym, ◌∙◌, ap, subst, append_assoc, append-nil, arith}
use Rattle.sig_table.specs.declared.code.Code.{Code}
use Rattle.lex_core.specs.Token.{Token}
use Rattle.sexp_core.proofs.FirstFault.{reads_no_break, breaks_once}
use Rattle.sexp_core.proofs.TokensRead.{Next, breaks, goes_on, completes, next_token, reads_list, reads_more, reads_nothing, reads_once}
use Rattle.sexp_core.specs.Reading.{BreaksIn, Reads, TreeFault}
use Rattle.sexp_core.specs.Sexp.{FlatToken, Sexp}
use Rattle.sexp_core.specs.Tokens.{flat_token, flat_tokens}
use Rattle.script_core.specs.Text.{AllRead, Broken, BreaksAt, HasLists, ListsEnd, Unfinished}
use Rattle.script_core.proofs.TextTokens.{same_place}

pub flat_tokens-append : (ts us : List Token) → flat_tokens (ts ++ us) ≡ flat_tokens ts ++ flat_tokens us
flat_tokens-append [] us = refl
flat_tokens-append (t ∷ ts) us = ap (λ fs. flat_token t ∷ fs) (flat_tokens-append ts us)

pub length-flat_tokens : (ts : List Token) → length (flat_tokens ts) ≡ length ts
length-flat_tokens [] = refl
length-flat_tokens (t ∷ ts) = ap suc (length-flat_tokens ts)

-- one more token, as a reading sees it
pub one_token : (tokens : List Token) (t : Token) (lists : List (Sexp Token)) (u : List (FlatToken Token)) → Reads (flat_tokens tokens ++ flat_token t ∷ []) lists u → Reads (flat_tokens (tokens ++ t ∷ [])) lists u
one_token tokens t lists u r = subst (λ (fs : List (FlatToken Token)). Reads fs lists u) (sym (flat_tokens-append tokens (t ∷ []))) r

-- the token that breaks a rule, without its byte
broken : (tokens : List Token) (lists : List (Sexp Token)) (rule : Code) (before : List Token) (next : Token) (after : List Token) (u : List (FlatToken Token))
    → tokens ≡ before ++ next ∷ after → Reads (flat_tokens before) lists u → TreeFault u (flat_token next) rule → BreaksIn (flat_tokens tokens)
broken tokens lists rule before next after u e r f = record {
  before = flat_tokens before;
  next = flat_token next;
  after = flat_tokens after;
  rule = rule;
  spelled = ap flat_tokens e ∙ flat_tokens-append before (next ∷ after);
  breaks = record { lists = lists; unfinished = u; reads = r; fault = f };
}

same_next : (bs cs : List Token) (n m : Token) (later others : List Token) → length bs ≡ length cs → bs ++ n ∷ later ≡ cs ++ m ∷ others → n ≡ m
same_next [] [] n m later others l e = cc
same_next [] (c ∷ cs) n m later others l e = absurd (omega (arith, l))
same_next (b ∷ bs) [] n m later others l e = absurd (omega (arith, l))
same_next (b ∷ bs) (c ∷ cs) n m later others l e =
    same_next bs cs n m later others (omega (arith, l)) (let h : bs ++ n ∷ later ≡ cs ++ m ∷ others = cc in h)

-- the tokens fix the lists, and what comes after them
pub lists_once : (tokens : List Token) (ls ms : List (Sexp Token)) (r s : ListsEnd) → HasLists tokens ls r → HasLists tokens ms s → (ls ≡ ms) × (r ≡ s)
unfolding broken
lists_once tokens ls ms r s (AllRead u x) (AllRead v y) = let same = reads_once (flat_tokens tokens) ls ms u v x y in (same.0, ap Unfinished same.1)
lists_once tokens ls ms r s (AllRead u x) (BreaksAt place before next after v e y f at) =
    absurd (reads_no_break (flat_tokens tokens) ls u x (broken tokens ms place.code before next after v e y f))
lists_once tokens ls ms r s (BreaksAt place before next after u e x f at) (AllRead v y) =
    absurd (reads_no_break (flat_tokens tokens) ms v y (broken tokens ls place.code before next after u e x f))
lists_once tokens ls ms r s (BreaksAt p before next after u e x f at) (BreaksAt q front other later v d y g here) =
    let same = breaks_once (flat_tokens tokens) (broken tokens ls p.code before next after u e x f) (broken tokens ms q.code front other later v d y g) in
    let long : length before ≡ length front = sym (length-flat_tokens before) ∙ ap length same.0 ∙ length-flat_tokens front in
    let token : next ≡ other = same_next before front next other after later long (sym e ∙ d) in
    let place : p ≡ q = same_place p q same.2 (at ∙ ap (λ (t : Token). t.at) token ∙ sym here) in
    ((reads_once (flat_tokens front) ls ms u v (subst (λ (fs : List (FlatToken Token)). Reads fs ls u) same.0 x) y).0, ap Broken place)

-- the lists of more tokens
pub record ListsFrom (tokens : List Token) (lists : List (Sexp Token)) (later : List Token) : Type 0 where
  pub more : List (Sexp Token)
  pub rest : ListsEnd
  pub has_lists : HasLists (tokens ++ later) (lists ++ more) rest

none_later : (tokens : List Token) (lists : List (Sexp Token)) (later : List Token) (rest : ListsEnd) → HasLists (tokens ++ later) lists rest → ListsFrom tokens lists later
none_later tokens lists later rest h = record { more = []; rest = rest; has_lists = subst (λ (ls : List (Sexp Token)). HasLists (tokens ++ later) ls rest) (sym (append-nil lists)) h }

one_later : (tokens : List Token) (t : Token) (lists new : List (Sexp Token)) (later : List Token) → ListsFrom (tokens ++ t ∷ []) (lists ++ new) later → ListsFrom tokens lists (t ∷ later)
one_later tokens t lists new later f = record {
  more = new ++ f.more;
  rest = f.rest;
  has_lists = subst (λ (ls : List (Sexp Token)). HasLists (tokens ++ t ∷ later) ls f.rest) (append_assoc lists new f.more)
      (subst (λ (ts : List Token). HasLists ts ((lists ++ new) ++ f.more) f.rest) (append_assoc tokens (t ∷ []) later) f.has_lists);
}

pub lists_from : (later tokens : List Token) (lists : List (Sexp Token)) (u : List (FlatToken Token)) → Reads (flat_tokens tokens) lists u → ListsFrom tokens lists later
lists_from [] tokens lists u r = none_later tokens lists [] (Unfinished u) (subst (λ (ts : List Token). HasLists ts lists (Unfinished u)) (sym (append-nil tokens)) (AllRead u r))
lists_from (t ∷ later) tokens lists u r = on (next_token u (flat_token t) r.is_unfinished) (λ ls v s. lists_from later (tokens ++ t ∷ []) ls v s)
  where
    on : Next u (flat_token t) → ((ls : List (Sexp Token)) (v : List (FlatToken Token)) → Reads (flat_tokens (tokens ++ t ∷ [])) ls v → ListsFrom (tokens ++ t ∷ []) ls later) → ListsFrom tokens lists (t ∷ later)
    on (breaks rule fault) f = none_later tokens lists (t ∷ later) (Broken (record { code = rule; at = t.at })) (BreaksAt (record { code = rule; at = t.at }) tokens t later u refl r fault refl)
    on (goes_on unfinished fine) f = one_later tokens t lists [] later
        (subst (λ (ls : List (Sexp Token)). ListsFrom (tokens ++ t ∷ []) ls later) (sym (append-nil lists))
        (f lists (u ++ flat_token t ∷ []) (one_token tokens t lists (u ++ flat_token t ∷ []) (reads_more (flat_tokens tokens) lists u (flat_token t) r fine unfinished))))
    on (completes s is e) f = one_later tokens t lists (s ∷ []) later
        (f (lists ++ s ∷ []) [] (one_token tokens t (lists ++ s ∷ []) [] (reads_list (flat_tokens tokens) lists u (flat_token t) s r is e)))

-- all tokens have lists
pub some_lists : (tokens : List Token) → ListsFrom [] [] tokens
some_lists tokens = lists_from tokens [] [] [] reads_nothing
