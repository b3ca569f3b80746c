-- Lists of trees that are read one by one, in the grammar and in the reading.
use Rattle.std.proofs.Common.{◌≡◌, ℕ, Bool, true, false, ◌&&◌, List, [], ◌∷◌, map, Result, Ok, Err, IfOk, IsTrue, refl, ap, sym, subst, ◌∙◌}
use Rattle.std.specs.List.{list_all}
use Rattle.lex_core.specs.declared.token.Tok.{Tok}
use Rattle.sexp_core.specs.Sexp.{Sexp, atom, list, Sexps, nil, cons}
use Rattle.term_grammar.specs.Words.{is_symbol}
use Rattle.term_grammar.specs.FirstParts.{atoms}
use Rattle.term_grammar.specs.TermForms.{are_symbols}
use Rattle.term_grammar.specs.Reads.{made_of, made_of_two, made_of_three, tokens_of}
use Rattle.term_grammar.specs.Grammar.{NotEmpty, AreSymbols}
use Rattle.cmd_grammar.specs.TreeLists.{each_tree, read_all}
use Rattle.cmd_grammar.specs.Grammar.{ReadsEach}
use Rattle.cmd_grammar.proofs.EachTree.{both_true}

pub true_both : (a b : Bool) → IsTrue a → IsTrue b → IsTrue (a && b)
true_both true b h k = k
true_both false b h k = absurd (cc)

pub if_ok : {A : Type 0} (r : Result A ℕ) (P : A → Type 0) (a : A) → IfOk r P → r ≡ Ok a → P a
if_ok (Ok b) P a h e = let s : b ≡ a = cc in subst P s h
if_ok (Err x) P a h e = absurd (cc)

pub made_is : {A B : Type 0} (f : A → B) (r : Result A ℕ) (b : B) → made_of f r ≡ Ok b → (a : A) × (r ≡ Ok a) × (f a ≡ b)
made_is f (Ok a) b h = (a, refl, cc)
made_is f (Err e) b h = absurd (cc)

pub made_two_is : {A B C : Type 0} (f : A → B → C) (r : Result A ℕ) (s : Result B ℕ) (c : C) → made_of_two f r s ≡ Ok c
    → (a : A) × (b : B) × (r ≡ Ok a) × (s ≡ Ok b) × (f a b ≡ c)
made_two_is f (Ok a) (Ok b) c h = (a, b, refl, refl, cc)
made_two_is f (Ok a) (Err e) c h = absurd (cc)
made_two_is f (Err e) s c h = absurd (cc)

pub made_three_is : {A B C D : Type 0} (f : A → B → C → D) (r : Result A ℕ) (s : Result B ℕ) (q : Result C ℕ) (d : D) → made_of_three f r s q ≡ Ok d
    → (a : A) × (b : B) × (c : C) × (r ≡ Ok a) × (s ≡ Ok b) × (q ≡ Ok c) × (f a b c ≡ d)
made_three_is f (Ok a) s q d h = let m = made_two_is (f a) s q d h in (a, m.0, m.1, refl, m.2, m.3, m.4)
made_three_is f (Err e) s q d h = absurd (cc)

pub made_three : {A B C D : Type 0} (f : A → B → C → D) (r : Result A ℕ) (s : Result B ℕ) (q : Result C ℕ) (a : A) (b : B) (c : C)
    → r ≡ Ok a → s ≡ Ok b → q ≡ Ok c → made_of_three f r s q ≡ Ok (f a b c)
made_three f r s q a b c h k l = rw (h, k, l) refl

pub empty_not : NotEmpty nil → ⊥
empty_not h = cc

-- what the trees read as

pub each_found : {A : Type 0} (read : Sexp Tok → Result A ℕ) (R : Sexp Tok → A → Type 0) (test : Sexp Tok → Bool)
    → ((t : Sexp Tok) (a : A) → IsTrue (test t) → read t ≡ Ok a → R t a)
    → (ts : Sexps Tok) (zs : List A) → IsTrue (list_all test (each_tree ts)) → read_all read ts ≡ Ok zs → ReadsEach R ts zs
each_found read R test one nil zs h e = let s : [] ≡ zs = cc in subst (ReadsEach R nil) s refl
each_found read R test one (cons t ts) zs h e =
    let b = both_true (test t) (list_all test (each_tree ts)) h in
    let m = made_two_is ◌∷◌ (read t) (read_all read ts) zs e in
    subst (ReadsEach R (cons t ts)) m.4 (t, ts, refl, one t m.0 b.0 m.2, each_found read R test one ts m.1 b.1 m.3)

pub each_read : {A : Type 0} (read : Sexp Tok → Result A ℕ) (R : Sexp Tok → A → Type 0) (test : Sexp Tok → Bool)
    → ((t : Sexp Tok) (a : A) → R t a → (read t ≡ Ok a) × IsTrue (test t))
    → (zs : List A) (ts : Sexps Tok) → ReadsEach R ts zs → (read_all read ts ≡ Ok zs) × IsTrue (list_all test (each_tree ts))
each_read read R test one [] ts e = (ap (read_all read) e, subst (λ xs. IsTrue (list_all test (each_tree xs))) (sym e) refl)
each_read read R test one (a ∷ zs) ts (u, us, e, h, k) =
    let o = one u a h in
    let n = each_read read R test one zs us k in (
      ap (read_all read) e ∙ ap (λ r. made_of_two ◌∷◌ r (read_all read us)) o.0 ∙ ap (made_of (λ xs. a ∷ xs)) n.0,
      subst (λ xs. IsTrue (list_all test (each_tree xs))) (sym e) (true_both (test u) (list_all test (each_tree us)) o.1 n.1),
    )

-- what the trees are seen as

pub each_seen : {A : Type 0} (f : Sexp Tok → A) (R : Sexp Tok → A → Type 0) (test : Sexp Tok → Bool) → ((t : Sexp Tok) → IsTrue (test t) → R t (f t))
    → (ts : Sexps Tok) → IsTrue (list_all test (each_tree ts)) → ReadsEach R ts (map f (each_tree ts))
each_seen f R test one nil h = refl
each_seen f R test one (cons t ts) h =
    let b = both_true (test t) (list_all test (each_tree ts)) h in (t, ts, refl, one t b.0, each_seen f R test one ts b.1)

pub each_shown : {A : Type 0} (f : Sexp Tok → A) (R : Sexp Tok → A → Type 0) (test : Sexp Tok → Bool)
    → ((t : Sexp Tok) (a : A) → R t a → (f t ≡ a) × IsTrue (test t))
    → (zs : List A) (ts : Sexps Tok) → ReadsEach R ts zs → (zs ≡ map f (each_tree ts)) × IsTrue (list_all test (each_tree ts))
each_shown f R test one [] ts e = (ap (λ xs. map f (each_tree xs)) (sym e), subst (λ xs. IsTrue (list_all test (each_tree xs))) (sym e) refl)
each_shown f R test one (a ∷ zs) ts (u, us, e, h, k) =
    let o = one u a h in
    let n = each_shown f R test one zs us k in (
      ap (λ xs. a ∷ xs) n.0 ∙ ap (λ x. x ∷ map f (each_tree us)) (sym o.0) ∙ ap (λ xs. map f (each_tree xs)) (sym e),
      subst (λ xs. IsTrue (list_all test (each_tree xs))) (sym e) (true_both (test u) (list_all test (each_tree us)) o.1 n.1),
    )

-- symbols

pub symbols_found : (ts : Sexps Tok) → IsTrue (are_symbols ts) → (ts ≡ atoms (tokens_of ts)) × AreSymbols (tokens_of ts)
symbols_found nil h = (refl, tt)
symbols_found (cons (list at us) ts) h = absurd (cc)
symbols_found (cons (atom t) ts) h =
    let b = both_true (is_symbol t) (are_symbols ts) h in
    let n = symbols_found ts b.1 in
    (ap (cons (atom t)) n.0, (b.0, n.1))

pub symbols_shown : (ps : List Tok) → AreSymbols ps → IsTrue (are_symbols (atoms ps))
symbols_shown [] h = refl
symbols_shown (p ∷ ps) h = true_both (is_symbol p) (are_symbols (atoms ps)) h.0 (symbols_shown ps h.1)
