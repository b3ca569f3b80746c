-- Replacing atoms keeps what tokens read as, and which token breaks a rule.
use Rattle.std.specs.Prelude.{map}
use Rattle.std.proofs.Common.{◌≡◌, ℕ, ◌+◌, ◌-◌, List, [], ◌∷◌, ◌++◌, refl, ap, sym, ◌∙◌, All}
use Rattle.std.proofs.lemmas.List.{map-append}
use Rattle.std.proofs.lemmas.List.Elements.{All-head, All-tail, All-cons, All-nil}
use Rattle.sig_table.specs.declared.code.Code.{Code}
use Rattle.lex_core.specs.declared.token.Tok.{Tok}
use Rattle.lex_core.specs.Token.{token_of}
use Rattle.sexp_core.specs.Tokens.{flat_toks, flat_tokens}
use Rattle.sexp_core.specs.Sexp.{Sexp, atom, list, FlatToken, Opening, Closing, Word, flat, map_sexp, map_sexps, map_flat}
use Rattle.sexp_core.specs.Reading.{open_count, IsUnfinished, IsUnclosed, TreeFault, IsWithinDepth, IsList, flat_each, Reads, Breaks}
use Rattle.sexp_core.proofs.MappedSexps.{flat-map_sexp, map_flat-flat_of}

pub map_none : {A B : Type 0} (f : A → B) (xs : List A) → map f xs ≡ [] → xs ≡ []
map_none f [] e = refl
map_none f (x ∷ xs) e = absurd (no e)
  where
    no : f x ∷ map f xs ≡ [] → ⊥
    no h = cc

pub open_count-map : {A B : Type 0} (f : A → B) (n : ℕ) (ps : List (FlatToken A)) → open_count n (map (map_flat f) ps) ≡ open_count n ps
open_count-map f n [] = refl
open_count-map f n (Word a ∷ ps) = open_count-map f n ps
open_count-map f n (Opening at ∷ ps) = open_count-map f (n + 1) ps
open_count-map f n (Closing ∷ ps) = open_count-map f (n - 1) ps

pub flat_each-map : {A B : Type 0} (f : A → B) (ts : List (Sexp A)) → flat_each (map (map_sexp f) ts) ≡ map (map_flat f) (flat_each ts)
flat_each-map f [] = refl
flat_each-map f (t ∷ ts) = rw (flat-map_sexp f t, flat_each-map f ts, map-append (map_flat f) (flat t) (flat_each ts)) refl

is_list-map : {A B : Type 0} (f : A → B) (t : Sexp A) → IsList t → IsList (map_sexp f t)
is_list-map f (atom a) h = h
is_list-map f (list at ts) h = tt

are_lists-map : {A B : Type 0} (f : A → B) (ts : List (Sexp A)) → All IsList ts → All IsList (map (map_sexp f) ts)
are_lists-map f [] h = All-nil IsList
are_lists-map f (t ∷ ts) h = All-cons IsList (map_sexp f t) (map (map_sexp f) ts) (is_list-map f t (All-head IsList t ts h)) (are_lists-map f ts (All-tail IsList t ts h))

pub unfinished-map : {A B : Type 0} (f : A → B) (u : List (FlatToken A)) → IsUnfinished u → IsUnfinished (map (map_flat f) u)
unfinished-map f u i = record {
  at = i.at;
  parts = map_sexps f i.parts;
  more = map (map_flat f) i.more;
  spelled = flat-map_sexp f (list i.at i.parts) ∙ ap (map (map_flat f)) i.spelled ∙ map-append (map_flat f) u i.more;
  lacks_some = λ e. i.lacks_some (map_none (map_flat f) i.more e);
}

-- a part of a mapped list is a mapped part
part-map : {A B : Type 0} (f : A → B) (xs : List A) (p q : List B) → map f xs ≡ p ++ q → (ys : List A) × (zs : List A) × (xs ≡ ys ++ zs) × (map f ys ≡ p)
part-map f xs [] q e = ([], xs, refl, refl)
part-map f [] (y ∷ p) q e = absurd (no e)
  where
    no : [] ≡ y ∷ (p ++ q) → ⊥
    no h = cc
part-map f (x ∷ xs) (y ∷ p) q e =
    let r = part-map f xs p q (let h : map f xs ≡ p ++ q = cc in h) in
    (x ∷ r.0, r.1, ap (λ ws. x ∷ ws) r.2, (let h : f x ≡ y = cc in rw (h, r.3) refl))

within_depth-map : {A B : Type 0} (f : A → B) (ps : List (FlatToken A)) → IsWithinDepth ps → IsWithinDepth (map (map_flat f) ps)
within_depth-map f ps w before after e =
    let r = part-map (map_flat f) ps before after e in
    rw (← r.3, open_count-map f 0 r.0) (w r.0 r.1 r.2)

pub reads-map : {A B : Type 0} (f : A → B) (tokens : List (FlatToken A)) (lists : List (Sexp A)) (u : List (FlatToken A))
    → Reads tokens lists u → Reads (map (map_flat f) tokens) (map (map_sexp f) lists) (map (map_flat f) u)
reads-map f tokens lists u r = record {
  spelled = ap (map (map_flat f)) r.spelled ∙ map-append (map_flat f) (flat_each lists) u ∙ ap (λ ps. ps ++ map (map_flat f) u) (sym (flat_each-map f lists));
  are_lists = are_lists-map f lists r.are_lists;
  is_unfinished = unfinished-map f u r.is_unfinished;
  within_depth = within_depth-map f tokens r.within_depth;
}

pub flat_tokens-token_of : (texts : List (List ℕ)) (toks : List Tok) → map (map_flat (token_of texts)) (flat_toks toks) ≡ flat_tokens (map (token_of texts) toks)
flat_tokens-token_of texts [] = refl
flat_tokens-token_of texts (t ∷ toks) = rw (flat_tokens-token_of texts toks, map_flat-flat_of (token_of texts) t.kind t.at t) refl

pub reads-token_of : (texts : List (List ℕ)) (toks : List Tok) (ts : List (Sexp Tok)) (u : List (FlatToken Tok)) → Reads (flat_toks toks) ts u
    → Reads (flat_tokens (map (token_of texts) toks)) (map (map_sexp (token_of texts)) ts) (map (map_flat (token_of texts)) u)
reads-token_of texts toks ts u r = rw (← flat_tokens-token_of texts toks) (reads-map (token_of texts) (flat_toks toks) ts u r)

pub fault-map : {A B : Type 0} (f : A → B) (u : List (FlatToken A)) (next : FlatToken A) (rule : Code) → TreeFault u next rule → TreeFault (map (map_flat f) u) (map_flat f next) rule
fault-map f u Closing rule h = (ap (map (map_flat f)) h.0, h.1)
fault-map f u (Word a) rule h = (ap (map (map_flat f)) h.0, h.1)
fault-map f u (Opening at) rule h = (open_count-map f 0 u ∙ h.0, h.1)

pub unclosed-map : {A B : Type 0} (f : A → B) (u : List (FlatToken A)) (at : ℕ) → IsUnclosed u at → IsUnclosed (map (map_flat f) u) at
unclosed-map f u at (rest, e) = (map (map_flat f) rest, ap (map (map_flat f)) e)

pub breaks-map : {A B : Type 0} (f : A → B) (tokens : List (FlatToken A)) (next : FlatToken A) (rule : Code) → Breaks tokens next rule → Breaks (map (map_flat f) tokens) (map_flat f next) rule
breaks-map f tokens next rule b = record {
  lists = map (map_sexp f) b.lists;
  unfinished = map (map_flat f) b.unfinished;
  reads = reads-map f tokens b.lists b.unfinished b.reads;
  fault = fault-map f b.unfinished next rule b.fault;
}
