-- What each kind of token makes of the tokens before it.
use Rattle.std.proofs.Common.{◌≡◌, ◌≢◌, ℕ, ◌+◌, ◌≤◌, List, [], ◌∷◌, ◌++◌, length, refl, ap, sym, ◌∙◌, arith, append_assoc, length-append, Result, Ok, Err, Option, Some, None, Bool, true, false, subst, ◌⊎◌, inl, inr}
use Rattle.std.specs.Prelude.{slice_get}
use Rattle.sig_table.specs.declared.code.Code.{Code}
use Rattle.sig_table.specs.declared.code.Code.TheVariants as code
use Rattle.lex_core.specs.declared.token.Tok.{Tok}
use Rattle.lex_core.specs.declared.token.TokKind.TheVariants as kind
use Rattle.sexp_core.specs.declared.tree.Item.{Item}
use Rattle.sexp_core.specs.declared.tree.Item.TheVariants as item
use Rattle.sexp_core.specs.declared.builder.SexpError.{SexpError}
use Rattle.sexp_core.specs.declared.builder.SexpError.TheVariants as error
use Rattle.sexp_core.specs.declared.builder.TheConstants.{MAX_DEPTH}
use Rattle.sexp_core.specs.Sexp.{Sexp, atom, list, Sexps, nil, cons, FlatToken, Opening, Closing, Word, flat, flat_all, append}
use Rattle.sexp_core.specs.Reading.{TreeFault, IsUnfinished, IsUnclosed}
use Rattle.sexp_core.specs.Tokens.{flat_tok}
use Rattle.sexp_core.specs.Items.{items_from, items_all, size, sexp_of, sexp_of-items_from}
use Rattle.sexp_core.specs.OpenLists.{OpenList, add_sexp, open_tokens, open_items, open_places, open_lists, Represents, AreOpenLists, opening_byte}
use Rattle.sexp_core.specs.Builder.{AddsAtom, BeginsList, EndsList, Takes, fault_at, State}
use Rattle.sexp_core.proofs.SexpLists.{open_tokens-add_sexp}
use Rattle.sexp_core.proofs.TokensFixSexps.{flat_fixes}
use Rattle.sexp_core.proofs.OpenListItems.{open_lists-items}
use Rattle.sexp_core.proofs.UnfinishedLists.{not_whole, open_count-open_tokens, unfinished}

-- the answer for an option of a tree from the answer for an atom or a list that begins
abbrev pub without_tree : Result (Unit {0}) SexpError → Result (Option (Sexp Tok)) SexpError
without_tree (Ok _) = Ok None
without_tree (Err e) = Err e

-- a token breaks one rule at most
pub fault_once : {A : Type 0} (before : List (FlatToken A)) (next : FlatToken A) (r s : Code) → TreeFault before next r → TreeFault before next s → r ≡ s
fault_once before Closing r s h k = h.1 ∙ sym k.1
fault_once before (Word a) r s h k = h.1 ∙ sym k.1
fault_once before (Opening at) r s h k = h.1 ∙ sym k.1

pub open_tokens_of : (fs : List (OpenList Tok)) (is : List Item) (os : List ℕ) → Represents fs is os → open_tokens (open_lists os is) ≡ open_tokens fs
open_tokens_of fs is os h = rw (h.starts, h.items, open_lists-items fs) refl

not_nil : {A : Type 0} (ps : List A) (x : A) (qs : List A) → ps ++ x ∷ qs ≢ []
not_nil [] x qs e = cc
not_nil (p ∷ ps) x qs e = cc

pub some_open : {A : Type 0} (f : OpenList A) (fs : List (OpenList A)) → open_tokens (f ∷ fs) ≢ []
some_open f fs e = not_nil (open_tokens fs) (Opening f.0) (flat_all f.1) e

no_tree : (o : Option (Sexp Tok)) (e : SexpError) → ◌≡◌ {A = Result (Option (Sexp Tok)) SexpError} (Err e) (Ok o) → ⊥
no_tree o e n = cc

-- a list is open
still_open : (f : OpenList Tok) (fs : List (OpenList Tok)) (ps : List (FlatToken Tok)) (p : FlatToken Tok) (at : ℕ) (is : List Item) (os : List ℕ)
    → Represents (f ∷ fs) is os → open_tokens (f ∷ fs) ≡ ps ++ p ∷ [] → ((rule : Code) → TreeFault ps p rule → ⊥) → Takes ps p at (Ok None) os is
still_open f fs ps p at is os h e fine = record {
  represented = (f ∷ fs, h.items, h.starts);
  tree = tt;
  emptied = tt;
  inside = λ _. open_tokens_of (f ∷ fs) is os h ∙ e;
  fault = tt;
  kept = tt;
  faulty = λ rule q. absurd (fine rule q);
  complete = λ a ts q. absurd (not_whole f fs a ts (q ∙ sym e));
}

-- the outermost list has ended
outermost_ended : (f : OpenList Tok) (at : ℕ) (t : Sexp Tok) → t ≡ list f.0 f.1 → Takes (open_tokens (f ∷ [])) Closing at (Ok (Some t)) [] []
outermost_ended f at t e =
    let same : flat t ≡ open_tokens (f ∷ []) ++ Closing ∷ [] = ap flat e in
    record {
      represented = ([], refl, refl);
      tree = (rw e tt, same);
      emptied = refl;
      inside = λ n. absurd (no n);
      fault = tt;
      kept = tt;
      faulty = λ rule q. absurd (some_open f [] q.0);
      complete = λ a ts q. ap (λ x. Ok (Some x)) (flat_fixes _ _ (same ∙ sym q));
    }
  where
    no : ◌≡◌ {A = Result (Option (Sexp Tok)) SexpError} (Ok (Some t)) (Ok None) → ⊥
    no n = cc

out_of_memory : (fs : List (OpenList Tok)) (p : FlatToken Tok) (at : ℕ) (is : List Item) (os : List ℕ) → Represents fs is os
    → ((rule : Code) → TreeFault (open_tokens fs) p rule → ⊥) → ((a : ℕ) (ts : Sexps Tok) → flat (list a ts) ≢ open_tokens fs ++ p ∷ []) → Takes (open_tokens fs) p at (Err error.NoMemory) os is
out_of_memory fs p at is os h fine some = record {
  represented = (fs, h.items, h.starts);
  tree = tt;
  emptied = tt;
  inside = λ n. absurd (no_tree None error.NoMemory n);
  fault = tt;
  kept = open_tokens_of fs is os h;
  faulty = λ rule q. absurd (fine rule q);
  complete = λ a ts q. absurd (some a ts q);
}

refused : (fs : List (OpenList Tok)) (p : FlatToken Tok) (rule : Code) (at : ℕ) (is : List Item) (os : List ℕ) → Represents fs is os
    → TreeFault (open_tokens fs) p rule → ((a : ℕ) (ts : Sexps Tok) → flat (list a ts) ≢ open_tokens fs ++ p ∷ []) → Takes (open_tokens fs) p at (Err (fault_at rule at)) os is
refused fs p rule at is os h k some = record {
  represented = (fs, h.items, h.starts);
  tree = tt;
  emptied = tt;
  inside = λ n. absurd (no_tree None (fault_at rule at) n);
  fault = (k, refl);
  kept = open_tokens_of fs is os h;
  faulty = λ s q. ap (λ (x : Code). Err (fault_at x at)) (fault_once (open_tokens fs) p rule s k q);
  complete = λ a ts q. absurd (some a ts q);
}

not_begun : (fs : List (OpenList Tok)) (at a : ℕ) (ts : Sexps Tok) → flat (list a ts) ≢ open_tokens fs ++ Opening at ∷ []
not_begun fs at a ts e = not_whole (at, nil) fs a ts e

not_with_atom : (f : OpenList Tok) (fs : List (OpenList Tok)) (t : Tok) (a : ℕ) (ts : Sexps Tok) → flat (list a ts) ≢ open_tokens (f ∷ fs) ++ Word t ∷ []
not_with_atom f fs t a ts e = not_whole (f.0, append f.1 (cons (atom t) nil)) fs a ts (e ∙ sym (open_tokens-add_sexp (atom t) f fs))

pub atom_taken : (fs : List (OpenList Tok)) (t : Tok) (r : Result (Unit {0}) SexpError) (is : List Item) (os : List ℕ) → AddsAtom fs t r is os → Takes (open_tokens fs) (Word t) t.at (without_tree r) os is
atom_taken [] t (Ok u) is os h = absurd (no h.0)
  where
    no : ◌≡◌ {A = Result (Unit {0}) SexpError} (Ok u) (Err (fault_at code.AtomOutsideLists t.at)) → ⊥
    no n = cc
atom_taken [] t (Err e) is os h =
    let same : e ≡ fault_at code.AtomOutsideLists t.at = let x = h.0 in cc in
    rw same (refused [] (Word t) code.AtomOutsideLists t.at is os h.1 (refl, refl) (λ a ts q. cc))
atom_taken (f ∷ fs) t (Ok u) is os h =
    still_open (f.0, append f.1 (cons (atom t) nil)) fs (open_tokens (f ∷ fs)) (Word t) t.at is os h (open_tokens-add_sexp (atom t) f fs) (λ rule q. some_open f fs q.0)
atom_taken (f ∷ fs) t (Err e) is os h =
    rw h.0 (out_of_memory (f ∷ fs) (Word t) t.at is os h.1 (λ rule q. some_open f fs q.0) (not_with_atom f fs t))

not_too_deep : (fs : List (OpenList Tok)) (at : ℕ) → length fs ≢ MAX_DEPTH → (rule : Code) → TreeFault (open_tokens fs) (Opening at) rule → ⊥
not_too_deep fs at n rule q = n (sym (open_count-open_tokens fs) ∙ q.0)

pub opening_taken : (fs : List (OpenList Tok)) (at : ℕ) (r : Result (Unit {0}) SexpError) (is : List Item) (os : List ℕ) → BeginsList fs at r is os → Takes (open_tokens fs) (Opening at) at (without_tree r) os is
opening_taken fs at (Ok u) is os h = still_open (at, nil) fs (open_tokens fs) (Opening at) at is os h.1 refl (not_too_deep fs at h.0)
opening_taken fs at (Err error.NoMemory) is os h = out_of_memory fs (Opening at) at is os h.1 (not_too_deep fs at h.0) (not_begun fs at)
opening_taken fs at (Err (error.Fault p)) is os h =
    rw h.0 (refused fs (Opening at) code.ListsTooDeep at is os h.2 (open_count-open_tokens fs ∙ h.1, refl) (not_begun fs at))

inner_ended : (f g : OpenList Tok) (fs : List (OpenList Tok)) (at : ℕ) (is : List Item) (os : List ℕ) → Represents (add_sexp (list f.0 f.1) (g ∷ fs)) is os → Takes (open_tokens (f ∷ g ∷ fs)) Closing at (Ok None) os is
inner_ended f g fs at is os h =
    still_open (g.0, append g.1 (cons (list f.0 f.1) nil)) fs (open_tokens (f ∷ g ∷ fs)) Closing at is os h
    (open_tokens-add_sexp (list f.0 f.1) g fs ∙ sym (append_assoc (open_tokens (g ∷ fs)) (Opening f.0 ∷ flat_all f.1) (Closing ∷ [])))
    (λ rule q. some_open f (g ∷ fs) q.0)

unmatched : (e : SexpError) (at : ℕ) (is : List Item) (os : List ℕ) → EndsList [] at (Err e) is os → Takes [] Closing at (Err e) os is
unmatched e at is os h =
    let same : e ≡ fault_at code.UnmatchedClose at = let x = h.0 in cc in
    rw same (refused [] Closing code.UnmatchedClose at is os h.1 (refl, refl) (λ a ts q. cc))

-- The steps as the code has them: items `is` and places `os` before, `ns` and `qs` after.
module _ (is ns : List Item) (os qs : List ℕ) (next : FlatToken Tok) (at : ℕ) where
  pub opening_step : (r : Result (Unit {0}) SexpError) → AreOpenLists os is → next ≡ Opening at → ((fs : List (OpenList Tok)) → Represents fs is os → BeginsList fs at r ns qs)
      → Takes (open_tokens (open_lists os is)) next at (without_tree r) qs ns
  opening_step r (fs, e, s) k f =
      let h : Represents fs is os = record { items = e; starts = s } in
      rw (open_tokens_of fs is os h, k) (opening_taken fs at r ns qs (f fs h))

  pub atom_step : (t : Tok) (r : Result (Unit {0}) SexpError) → AreOpenLists os is → next ≡ Word t → at ≡ t.at → ((fs : List (OpenList Tok)) → Represents fs is os → AddsAtom fs t r ns qs)
      → Takes (open_tokens (open_lists os is)) next at (without_tree r) qs ns
  atom_step t r (fs, e, s) k a f =
      let h : Represents fs is os = record { items = e; starts = s } in
      rw (open_tokens_of fs is os h, k, a) (atom_taken fs t r ns qs (f fs h))

  pub inner_step : AreOpenLists os is → next ≡ Closing → ((fs : List (OpenList Tok)) → Represents fs is os → EndsList fs at (Ok false) ns qs)
      → Takes (open_tokens (open_lists os is)) next at (Ok None) qs ns
  inner_step (fs, e, s) k f =
      let h : Represents fs is os = record { items = e; starts = s } in
      rw (open_tokens_of fs is os h, k) (inner fs (f fs h))
    where
      inner : (fs : List (OpenList Tok)) → EndsList fs at (Ok false) ns qs → Takes (open_tokens fs) Closing at (Ok None) qs ns
      inner [] c = absurd (let x = c.0 in no x)
        where
          no : ◌≡◌ {A = Result Bool SexpError} (Ok false) (Err (fault_at code.UnmatchedClose at)) → ⊥
          no n = cc
      inner (f ∷ []) c = absurd (let x = c.0 in no x)
        where
          no : ◌≡◌ {A = Result Bool SexpError} (Ok false) (Ok true) → ⊥
          no n = cc
      inner (f ∷ g ∷ fs) c = inner_ended f g fs at ns qs c.1

  pub unmatched_step : (e : SexpError) → AreOpenLists os is → next ≡ Closing → ((fs : List (OpenList Tok)) → Represents fs is os → EndsList fs at (Err e) ns qs)
      → Takes (open_tokens (open_lists os is)) next at (Err e) qs ns
  unmatched_step e (fs, i, s) k f =
      let h : Represents fs is os = record { items = i; starts = s } in
      rw (open_tokens_of fs is os h, k) (none fs (f fs h))
    where
      no : (b : Bool) → ◌≡◌ {A = Result Bool SexpError} (Err e) (Ok b) → ⊥
      no b n = cc

      none : (fs : List (OpenList Tok)) → EndsList fs at (Err e) ns qs → Takes (open_tokens fs) Closing at (Err e) qs ns
      none [] c = unmatched e at ns qs c
      none (f ∷ []) c = absurd (no true c.0)
      none (f ∷ g ∷ fs) c = absurd (no false c.0)

  -- the items that are left are those of a whole list
  pub whole_list : AreOpenLists os is → ((fs : List (OpenList Tok)) → Represents fs is os → EndsList fs at (Ok true) ns qs)
      → (f : OpenList Tok) × (is ≡ open_items (f ∷ [])) × (os ≡ open_places (f ∷ [])) × (ns ≡ items_from 0 (list f.0 f.1)) × (qs ≡ [])
  whole_list (fs, e, s) f = outer fs e s (f fs (record { items = e; starts = s }))
    where
      outer : (fs : List (OpenList Tok)) → is ≡ open_items fs → os ≡ open_places fs → EndsList fs at (Ok true) ns qs
          → (f : OpenList Tok) × (is ≡ open_items (f ∷ [])) × (os ≡ open_places (f ∷ [])) × (ns ≡ items_from 0 (list f.0 f.1)) × (qs ≡ [])
      outer [] e s c = absurd (let x = c.0 in no x)
        where
          no : ◌≡◌ {A = Result Bool SexpError} (Ok true) (Err (fault_at code.UnmatchedClose at)) → ⊥
          no n = cc
      outer (f ∷ []) e s c = (f, e, s, c.1, c.2)
      outer (f ∷ g ∷ fs) e s c = absurd (let x = c.0 in no x)
        where
          no : ◌≡◌ {A = Result Bool SexpError} (Ok true) (Ok false) → ⊥
          no n = cc

  pub outermost_step : AreOpenLists os is → next ≡ Closing → ((fs : List (OpenList Tok)) → Represents fs is os → EndsList fs at (Ok true) ns qs)
      → Takes (open_tokens (open_lists os is)) next at (Ok (Some (sexp_of ns))) qs []
  outermost_step i k f =
      let c = whole_list i f in
      at_end qs c.4 (open_tokens_of (c.0 ∷ []) is os (record { items = c.1; starts = c.2 })) (outermost_ended c.0 at (sexp_of ns) (ap sexp_of c.3 ∙ sexp_of-items_from (list c.0.0 c.0.1)))
    where
      at_end : {ps : List (FlatToken Tok)} {r : Result (Option (Sexp Tok)) SexpError} (qs : List ℕ) → qs ≡ [] → open_tokens (open_lists os is) ≡ ps → Takes ps Closing at r [] []
          → Takes (open_tokens (open_lists os is)) next at r qs []
      at_end qs q e t = rw (e, k, q) t

mutual
  length-items-flat : (t : Sexp Tok) (p : ℕ) → length (items_from p t) ≤ length (flat t)
  length-items-flat (atom t) p = omega arith
  length-items-flat (list at ts) p = omega (arith, length-items-flat_all ts (p + 1), length-append (flat_all ts) (Closing ∷ []))

  length-items-flat_all : (ts : Sexps Tok) (p : ℕ) → length (items_all p ts) ≤ length (flat_all ts)
  length-items-flat_all nil p = omega arith
  length-items-flat_all (cons t ts) p =
      omega (arith, length-items-flat t p, length-items-flat_all ts (p + size t), length-append (items_from p t) (items_all (p + size t) ts), length-append (flat t) (flat_all ts))

length-open_items : (fs : List (OpenList Tok)) → length (open_items fs) ≤ length (open_tokens fs)
length-open_items [] = omega arith
length-open_items (f ∷ fs) =
    omega (
      arith,
      length-open_items fs,
      length-items-flat_all f.1 (length (open_items fs) + 1),
      length-append (open_items fs) (item.Open 0 f.0 ∷ items_all (length (open_items fs) + 1) f.1),
      length-append (open_tokens fs) (Opening f.0 ∷ flat_all f.1),
    )

-- there are no more items than tokens
pub length-items : (is : List Item) (os : List ℕ) → AreOpenLists os is → length is ≤ length (open_tokens (open_lists os is))
length-items is os (fs, e, s) = rw (open_tokens_of fs is os (record { items = e; starts = s }), e) (length-open_items fs)

pub length-whole_list : (at : ℕ) (ts : Sexps Tok) → length (items_from 0 (list at ts)) ≡ length (open_items ((at, ts) ∷ []))
length-whole_list at ts = refl

-- a token of one of these kinds is an atom
pub is_word : (t : Tok)
    → (t.kind ≡ kind.Numeral) ⊎ ((t.kind ≡ kind.Decimal) ⊎ ((t.kind ≡ kind.Hexadecimal) ⊎ ((t.kind ≡ kind.Binary) ⊎ ((t.kind ≡ kind.Str) ⊎ ((t.kind ≡ kind.Symbol) ⊎ ((t.kind ≡ kind.Reserved) ⊎ (t.kind ≡ kind.Keyword)))))))
    → flat_tok t ≡ Word t
is_word t (inl e) = rw e refl
is_word t (inr (inl e)) = rw e refl
is_word t (inr (inr (inl e))) = rw e refl
is_word t (inr (inr (inr (inl e)))) = rw e refl
is_word t (inr (inr (inr (inr (inl e))))) = rw e refl
is_word t (inr (inr (inr (inr (inr (inl e)))))) = rw e refl
is_word t (inr (inr (inr (inr (inr (inr (inl e))))))) = rw e refl
is_word t (inr (inr (inr (inr (inr (inr (inr e))))))) = rw e refl

-- what a builder holds lacks the end of a list
pub tokens_unfinished : (is : List Item) (os : List ℕ) → AreOpenLists os is → IsUnfinished (open_tokens (open_lists os is))
tokens_unfinished is os (fs, e, s) = rw (open_tokens_of fs is os (record { items = e; starts = s })) (unfinished fs)

pub state_unfinished : (is : List Item) (os : List ℕ) (e : Option SexpError) (s : State) → AreOpenLists os is → (open_tokens (open_lists os is), e) ≡ s → IsUnfinished s.0
state_unfinished is os e s h k = let P : State → Type 0 = λ x. IsUnfinished x.0 in subst P k (tokens_unfinished is os h)

-- the first item and the first token of open lists
first_of : (f : OpenList Tok) (fs : List (OpenList Tok)) → (a : ℕ) × (is : List Item) × (ps : List (FlatToken Tok)) × (open_items (f ∷ fs) ≡ item.Open 0 a ∷ is) × (open_tokens (f ∷ fs) ≡ Opening a ∷ ps)
first_of f [] = (f.0, items_all 1 f.1, flat_all f.1, refl, refl)
first_of f (g ∷ fs) = let x = first_of g fs in (
  x.0,
  x.1 ++ item.Open 0 f.0 ∷ items_all (length (open_items (g ∷ fs)) + 1) f.1,
  x.2 ++ Opening f.0 ∷ flat_all f.1,
  ap (λ is. is ++ item.Open 0 f.0 ∷ items_all (length (open_items (g ∷ fs)) + 1) f.1) x.3,
  ap (λ ps. ps ++ Opening f.0 ∷ flat_all f.1) x.4,
)

-- with a first item a list is open, which begins there
pub unclosed : (is : List Item) (os : List ℕ) (e : Option SexpError) (s : State) (i : Item) → AreOpenLists os is → (open_tokens (open_lists os is), e) ≡ s
    → Some i ≡ slice_get is 0 → IsUnclosed s.0 (opening_byte i)
unclosed is os e s i (fs, h, k) v g = from fs h k
  where
    same : (fs : List (OpenList Tok)) → is ≡ open_items fs → os ≡ open_places fs → s.0 ≡ open_tokens fs
    same fs h k = sym (ap (λ (x : State). x.0) v) ∙ open_tokens_of fs is os (record { items = h; starts = k })

    none : Some i ≡ slice_get {X = Item} [] 0 → ⊥
    none n = cc

    first_is : (a : ℕ) (js : List Item) → Some i ≡ slice_get (item.Open 0 a ∷ js) 0 → opening_byte i ≡ a
    first_is a js n = let m : i ≡ item.Open 0 a = cc in ap opening_byte m

    from : (fs : List (OpenList Tok)) → is ≡ open_items fs → os ≡ open_places fs → IsUnclosed s.0 (opening_byte i)
    from [] h k = absurd (none (rw h at g))
    from (f ∷ fs) h k = let x = first_of f fs in
        let b = first_is x.0 x.1 (rw (h, x.3) at g) in
        (x.2, same (f ∷ fs) h k ∙ x.4 ∙ ap (λ n. Opening n ∷ x.2) (sym b))

-- with no item no list is open
pub none_open : (is : List Item) (os : List ℕ) (e : Option SexpError) (s : State) → AreOpenLists os is → (open_tokens (open_lists os is), e) ≡ s
    → None ≡ slice_get is 0 → s.0 ≡ []
none_open is os e s (fs, h, k) v g = sym (ap (λ (x : State). x.0) v) ∙ open_tokens_of fs is os (record { items = h; starts = k }) ∙ from fs h
  where
    some : (a : ℕ) (js : List Item) → None ≡ slice_get (item.Open 0 a ∷ js) 0 → ⊥
    some a js n = cc

    from : (fs : List (OpenList Tok)) → is ≡ open_items fs → open_tokens fs ≡ []
    from [] h = refl
    from (f ∷ fs) h = let x = first_of f fs in absurd (some x.0 x.1 (rw (h, x.3) at g))

pub some_unclosed : (ps : List (FlatToken Tok)) (at : ℕ) → IsUnclosed ps at → ps ≢ []
some_unclosed ps at (rest, e) n = absurd (let x = sym e ∙ n in no x)
  where
    no : ◌≡◌ {A = List (FlatToken Tok)} (Opening at ∷ rest) [] → ⊥
    no x = cc
