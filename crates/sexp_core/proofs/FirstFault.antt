-- Tokens that read have no token that breaks a rule, and the first such token and its rule are fixed.
use Rattle.std.proofs.Common.{◌≡◌, ◌≢◌, ℕ, ◌≤◌, List, [], ◌∷◌, ◌++◌, length, length-append, refl, ap, sym, ◌∙◌, arith, append_assoc, append-nil, ◌⊎◌, inl, inr, subst, All}
use Rattle.std.proofs.lemmas.List.Elements.{All-head, All-tail}
use Rattle.std.proofs.lemmas.List.{append_cancel_left}
use Rattle.sig_table.specs.declared.code.Code.{Code}
use Rattle.sexp_core.specs.declared.builder.TheConstants.{MAX_DEPTH}
use Rattle.sexp_core.specs.Sexp.{Sexp, atom, list, Sexps, FlatToken, Opening, Closing, Word, flat, flat_all}
use Rattle.sexp_core.specs.Reading.{open_count, IsUnfinished, TreeFault, IsList, flat_each, Reads, Breaks, BreaksIn}
use Rattle.sexp_core.proofs.UnfinishedLists.{EndsIn, ends_in, not_whole}
use Rattle.sexp_core.proofs.TokensTaken.{fault_once}
use Rattle.sexp_core.proofs.TokensRead.{reads_once, open_count-read, open_count-append}

not_cons : {A : Type 0} (x : A) (xs : List A) → [] ≡ x ∷ xs → ⊥
not_cons x xs e = cc

last_nil : {A : Type 0} (ps qs : List A) → [] ≡ ps ++ qs → qs ≡ []
last_nil [] qs e = sym e
last_nil (p ∷ ps) qs e = absurd (not_cons p (ps ++ qs) e)

-- a list's tokens that begin as another's do begin with all of them
begins_with : {A : Type 0} (at bt : ℕ) (ts us : Sexps A) (x y : List (FlatToken A)) → flat (list at ts) ++ x ≡ flat (list bt us) ++ y
    → (s : List (FlatToken A)) × (flat (list at ts) ≡ flat (list bt us) ++ s)
begins_with {A} at bt ts us x y e = on (ends_in (list bt us) (flat (list at ts)) x y (sym e))
  where
    on : EndsIn (list bt us) (flat (list at ts)) x y → (s : List (FlatToken A)) × (flat (list at ts) ≡ flat (list bt us) ++ s)
    on (inl ([], k)) = absurd (not_cons (Opening at) (flat_all ts ++ Closing ∷ []) (sym k))
    on (inl (f ∷ fs, k)) = absurd (not_whole f fs at ts k)
    on (inr (s, k, l)) = (s, k)

-- no list's tokens begin another's and end before them
same_list : {A : Type 0} (at bt : ℕ) (ts us : Sexps A) (x y : List (FlatToken A)) → flat (list at ts) ++ x ≡ flat (list bt us) ++ y → flat (list at ts) ≡ flat (list bt us)
same_list at bt ts us x y e =
    let a = begins_with at bt ts us x y e in
    let b = begins_with bt at us ts y x (sym e) in
    nothing a.0 a.1 (omega (arith, ap length a.1, ap length b.1, length-append (flat (list bt us)) a.0, length-append (flat (list at ts)) b.0))
  where
    nothing : (s : List _) → flat (list at ts) ≡ flat (list bt us) ++ s → length s ≡ 0 → flat (list at ts) ≡ flat (list bt us)
    nothing [] k l = k ∙ append-nil (flat (list bt us))
    nothing (z ∷ s) k l = absurd (omega arith)

same_rest : {A : Type 0} (at bt : ℕ) (ts us : Sexps A) (x y : List (FlatToken A)) → flat (list at ts) ++ x ≡ flat (list bt us) ++ y → x ≡ y
same_rest at bt ts us x y e = append_cancel_left (flat (list bt us)) x y (sym (ap (λ ps. ps ++ x) (same_list at bt ts us x y e)) ∙ e)

-- after whole lists a token that begins no list is not read
stuck : {A : Type 0} (done lists : List (Sexp A)) (u after : List (FlatToken A)) (next : FlatToken A) → All IsList done → All IsList lists → IsUnfinished u
    → ((a : ℕ) → next ≢ Opening a) → flat_each done ++ next ∷ after ≡ flat_each lists ++ u → ⊥
stuck [] [] u after next d l i n e = n i.at (let h : next ∷ (after ++ i.more) ≡ flat (list i.at i.parts) = ap (λ ps. ps ++ i.more) e ∙ sym i.spelled in cc)
stuck [] (atom a ∷ lists) u after next d l i n e = All-head IsList (atom a) lists l
stuck [] (list at ts ∷ lists) u after next d l i n e = n at (let h : next ≡ Opening at = cc in h)
stuck (atom a ∷ done) lists u after next d l i n e = All-head IsList (atom a) done d
stuck (list at ts ∷ done) [] u after next d l i n e =
    i.lacks_some (last_nil (flat_each done ++ next ∷ after) i.more (same_rest i.at at i.parts ts [] ((flat_each done ++ next ∷ after) ++ i.more) spelled))
  where
    spelled : flat (list i.at i.parts) ++ [] ≡ flat (list at ts) ++ ((flat_each done ++ next ∷ after) ++ i.more)
    spelled =
        append-nil (flat (list i.at i.parts)) ∙ i.spelled ∙ ap (λ ps. ps ++ i.more) (sym e ∙ append_assoc (flat (list at ts)) (flat_each done) (next ∷ after))
        ∙ append_assoc (flat (list at ts)) (flat_each done ++ next ∷ after) i.more
stuck (list at ts ∷ done) (atom a ∷ lists) u after next d l i n e = All-head IsList (atom a) lists l
stuck (list at ts ∷ done) (list bt us ∷ lists) u after next d l i n e =
    stuck done lists u after next (All-tail IsList (list at ts) done d) (All-tail IsList (list bt us) lists l) i n
    (same_rest at bt ts us (flat_each done ++ next ∷ after) (flat_each lists ++ u)
    (sym (append_assoc (flat (list at ts)) (flat_each done) (next ∷ after)) ∙ e ∙ append_assoc (flat (list bt us)) (flat_each lists) u))

-- the tokens before a fault that comes with no list open are whole lists
none_unfinished : {A : Type 0} (tokens : List (FlatToken A)) (lists : List (Sexp A)) (u : List (FlatToken A)) → Reads tokens lists u → u ≡ [] → tokens ≡ flat_each lists
none_unfinished tokens lists u r e = r.spelled ∙ ap (λ ps. flat_each lists ++ ps) e ∙ append-nil (flat_each lists)

-- Tokens that read have no token that breaks a rule.
pub reads_no_break : {A : Type 0} (tokens : List (FlatToken A)) (lists : List (Sexp A)) (u : List (FlatToken A)) → Reads tokens lists u → BreaksIn tokens → ⊥
reads_no_break {A} tokens lists u r b = broken b.next b.spelled b.breaks.fault
  where
    outside : (next : FlatToken A) → tokens ≡ b.before ++ next ∷ b.after → b.breaks.unfinished ≡ [] → ((a : ℕ) → next ≢ Opening a) → ⊥
    outside next e none n =
        let d = none_unfinished b.before b.breaks.lists b.breaks.unfinished b.breaks.reads none in
        stuck b.breaks.lists lists u b.after next b.breaks.reads.are_lists r.are_lists r.is_unfinished n
        (ap (λ ps. ps ++ next ∷ b.after) (sym d) ∙ sym e ∙ r.spelled)

    broken : (next : FlatToken A) → tokens ≡ b.before ++ next ∷ b.after → TreeFault b.breaks.unfinished next b.rule → ⊥
    broken Closing e h = outside Closing e h.0 (λ a k. cc)
    broken (Word a) e h = outside (Word a) e h.0 (λ c k. cc)
    broken (Opening at) e h =
        let w : open_count 0 (b.before ++ Opening at ∷ []) ≤ MAX_DEPTH = r.within_depth (b.before ++ Opening at ∷ []) b.after (e ∙ sym (append_assoc b.before (Opening at ∷ []) b.after)) in
        let c : open_count 0 b.before ≡ MAX_DEPTH = open_count-read b.before b.breaks.lists b.breaks.unfinished b.breaks.reads ∙ h.0 in
        let d = open_count-append 0 b.before (Opening at ∷ []) in
        absurd (omega (arith, w, c, d))

-- two places in one list: the same, or one before the other
places : {A : Type 0} (p q : List A) (x y : A) (r s : List A) → p ++ x ∷ r ≡ q ++ y ∷ s
    → ((p ≡ q) × (x ≡ y)) ⊎ (((m : List A) × (q ≡ p ++ x ∷ m)) ⊎ ((m : List A) × (p ≡ q ++ y ∷ m)))
places [] [] x y r s e = inl (refl, (let h : x ≡ y = cc in h))
places [] (z ∷ q) x y r s e = inr (inl (q, (let h : x ≡ z = cc in rw h refl)))
places (w ∷ p) [] x y r s e = inr (inr (p, (let h : w ≡ y = cc in rw h refl)))
places {A} (w ∷ p) (z ∷ q) x y r s e = on (places p q x y r s (let h : p ++ x ∷ r ≡ q ++ y ∷ s = cc in h))
  where
    same : w ≡ z
    same = cc

    on : ((p ≡ q) × (x ≡ y)) ⊎ (((m : List A) × (q ≡ p ++ x ∷ m)) ⊎ ((m : List A) × (p ≡ q ++ y ∷ m)))
        → ((w ∷ p ≡ z ∷ q) × (x ≡ y)) ⊎ (((m : List A) × (z ∷ q ≡ w ∷ (p ++ x ∷ m))) ⊎ ((m : List A) × (w ∷ p ≡ z ∷ (q ++ y ∷ m))))
    on (inl (h, k)) = inl (rw (same, h) refl, k)
    on (inr (inl (m, h))) = inr (inl (m, rw (same, h) refl))
    on (inr (inr (m, h))) = inr (inr (m, rw (same, h) refl))

same_rule : {A : Type 0} (p q : List (FlatToken A)) (x y : FlatToken A) (r s : Code) → p ≡ q → x ≡ y → Breaks p x r → Breaks q y s → r ≡ s
same_rule {A} p q x y r s e k b c = by (reads_once q b.lists c.lists b.unfinished c.unfinished (subst Along e b.reads) c.reads)
  where
    Along : List (FlatToken A) → Type 0
    Along ps = Reads ps b.lists b.unfinished

    by : (b.lists ≡ c.lists) × (b.unfinished ≡ c.unfinished) → r ≡ s
    by h = fault_once c.unfinished y r s (rw (h.1, k) at b.fault) c.fault

-- The first token that breaks a rule is fixed, with its rule.
pub breaks_once : {A : Type 0} (tokens : List (FlatToken A)) (b c : BreaksIn tokens) → (b.before ≡ c.before) × (b.next ≡ c.next) × (b.rule ≡ c.rule)
breaks_once {A} tokens b c = on (places b.before c.before b.next c.next b.after c.after (sym b.spelled ∙ c.spelled))
  where
    earlier : (d e : BreaksIn tokens) (m : List (FlatToken A)) → e.before ≡ d.before ++ d.next ∷ m → ⊥
    earlier d e m h = reads_no_break e.before e.breaks.lists e.breaks.unfinished e.breaks.reads
        (record { before = d.before; next = d.next; after = m; rule = d.rule; spelled = h; breaks = d.breaks })

    on : ((b.before ≡ c.before) × (b.next ≡ c.next)) ⊎ (((m : List (FlatToken A)) × (c.before ≡ b.before ++ b.next ∷ m)) ⊎ ((m : List (FlatToken A)) × (b.before ≡ c.before ++ c.next ∷ m)))
        → (b.before ≡ c.before) × (b.next ≡ c.next) × (b.rule ≡ c.rule)
    on (inl (h, k)) = (h, k, same_rule b.before c.before b.next c.next b.rule c.rule h k b.breaks c.breaks)
    on (inr (inl (m, h))) = absurd (earlier b c m h)
    on (inr (inr (m, h))) = absurd (earlier c b m h)
