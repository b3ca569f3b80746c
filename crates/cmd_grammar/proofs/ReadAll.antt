-- Trees that all read.
use Rattle.std.proofs.Common.{◌≡◌, ℕ, Bool, ◌&&◌, List, [], ◌∷◌, map, Option, Some, None, Result, Ok, Err, is_ok, IsOk, IsTrue, refl, ap, sym, ◌∙◌}
use Rattle.std.specs.Result.{result_unwrap_or}
use Rattle.lex_core.specs.declared.token.Tok.{Tok}
use Rattle.sexp_core.specs.Sexp.{Sexp, Sexps, nil, cons}
use Rattle.sexp_core.specs.Parts.{whole, unsplit}
use Rattle.sexp_core.specs.declared.parts.Part.{Part}
use Rattle.sexp_core.specs.declared.parts.Part.TheVariants as part
use Rattle.term_grammar.specs.Reads.{made_of, made_of_two, tokens_of, no_token}
use Rattle.term_grammar.specs.FormReading.{judged}
use Rattle.cmd_grammar.specs.TreeLists.{each_tree, read_all, EachReads}
use Rattle.cmd_grammar.specs.Commands.{ConstructorDec, plain_data, parametric_data}
use Rattle.cmd_grammar.specs.DeclarationForms.{parametric_parts}
use Rattle.cmd_grammar.specs.DeclarationReads.{read_constructor_dec, constructor_dec, data_dec_by, read_data_dec, constructor_dec_of, data_dec_of}

pub judged_ok : {A : Type 0} (r : Result A ℕ) → judged r ≡ Ok tt → IsOk r
judged_ok (Ok a) e = refl
judged_ok (Err x) e = absurd (cc)

-- what the trees read as, one by one
abbrev pub Seen : {A : Type 0} → (Sexp Tok → Result A ℕ) → A → Sexps Tok → Type 0
Seen read d ts = EachReads read ts × (read_all read ts ≡ Ok (map (λ t. result_unwrap_or (read t) d) (each_tree ts)))

one_more : {A : Type 0} (d : A) (r : Result A ℕ) (s : Result (List A) ℕ) (b : Bool) (xs : List A) → (IsOk s → IsTrue b × (s ≡ Ok xs)) → IsOk (made_of_two ◌∷◌ r s)
    → IsTrue (is_ok r && b) × (made_of_two ◌∷◌ r s ≡ Ok (result_unwrap_or r d ∷ xs))
one_more d (Ok a) (Ok ys) b xs h k = let p = h refl in (p.0, ap (made_of (λ zs. a ∷ zs)) p.1)
one_more d (Ok a) (Err e) b xs h k = absurd (cc)
one_more d (Err e) s b xs h k = absurd (cc)

pub all_seen : {A : Type 0} (read : Sexp Tok → Result A ℕ) (d : A) (ts : Sexps Tok) → IsOk (read_all read ts) → Seen read d ts
all_seen read d nil h = (refl, refl)
all_seen read d (cons t ts) h = one_more d (read t) (read_all read ts) _ _ (all_seen read d ts) h

made_of_all : {A B : Type 0} (f : List A → B) (b : B) (r : Result (List A) ℕ) (xs : List A) → (IsOk r → r ≡ Ok xs) → IsOk (made_of f r)
    → IsOk r × (result_unwrap_or (made_of f r) b ≡ f xs)
made_of_all f b (Ok a) xs h k = (refl, ap (λ r. result_unwrap_or (made_of f r) b) (h refl))
made_of_all f b (Err e) xs h k = absurd (cc)

-- what is made of trees that all read
pub made_of_seen : {A B : Type 0} (read : Sexp Tok → Result A ℕ) (d : A) (f : List A → B) (b : B) (ts : Sexps Tok) → IsOk (made_of f (read_all read ts))
    → EachReads read ts × (result_unwrap_or (made_of f (read_all read ts)) b ≡ f (map (λ t. result_unwrap_or (read t) d) (each_tree ts)))
made_of_seen read d f b ts h =
    let m = made_of_all f b (read_all read ts) _ (λ k. (all_seen read d ts k).1) h in ((all_seen read d ts m.0).0, m.1)

-- a view that does not read contradicts that its tree does
pub reads_not : {A B : Type 0} (see : A → B) (r : Result A ℕ) (q : Result B ℕ) (e : ℕ) → made_of see r ≡ q → r ≡ Err e → IsOk q → ⊥
reads_not see (Ok a) q e h k o = absurd (cc)
reads_not see (Err x) (Ok b) e h k o = absurd (cc)
reads_not see (Err x) (Err y) e h k o = absurd (cc)

-- what a view shows is what its tree reads as
pub shows : {A B : Type 0} (see : A → B) (r : Result A ℕ) (q : Result B ℕ) (a : A) (d : B) → made_of see r ≡ q → r ≡ Ok a → see a ≡ result_unwrap_or q d
shows see r q a d h k = ap (λ x. result_unwrap_or x d) (sym (ap (made_of see) k) ∙ h)

abbrev no_constructor : ConstructorDec
no_constructor = constructor_dec 0 no_token []

-- where nothing is left, all trees read
pub seen_at_end : {A : Type 0} (read : Sexp Tok → Result A ℕ) (d : A) (ts : Sexps Tok) (next : Option (Part × Sexps Tok))
    → judged (read_all read ts) ≡ judged (read_all read (unsplit next)) → next ≡ None → Seen read d ts
seen_at_end read d ts next h e = all_seen read d ts (judged_ok (read_all read ts) (h ∙ ap (λ o. judged (read_all read (unsplit o))) e))

pub parametric_seen : (t : Part) (at : ℕ) (ts : Sexps Tok) (p : Sexps Tok × Sexps Tok) → t ≡ part.List at ts → parametric_parts ts ≡ Some p → IsOk (read_data_dec (whole t))
    → EachReads read_constructor_dec p.1 × (data_dec_of (whole t) ≡ parametric_data at (tokens_of p.0) (map constructor_dec_of (each_tree p.1)))
parametric_seen t at ts p l e h =
    let g : read_data_dec (whole t) ≡ data_dec_by at ts (Some p) = ap (λ x. read_data_dec (whole x)) l ∙ ap (data_dec_by at ts) e in
    let k : IsOk (data_dec_by at ts (Some p)) = sym (ap is_ok g) ∙ h in
    let m = made_of_seen read_constructor_dec no_constructor (parametric_data at (tokens_of p.0)) (plain_data 0 []) p.1 k in
    (m.0, ap (λ r. result_unwrap_or r (plain_data 0 [])) g ∙ m.1)

pub plain_seen : (t : Part) (at : ℕ) (ts us : Sexps Tok) → t ≡ part.List at ts → parametric_parts ts ≡ None → us ≡ ts → IsOk (read_data_dec (whole t))
    → EachReads read_constructor_dec us × (data_dec_of (whole t) ≡ plain_data at (map constructor_dec_of (each_tree us)))
plain_seen t at ts us l e q h =
    let g : read_data_dec (whole t) ≡ data_dec_by at us None = ap (λ x. read_data_dec (whole x)) l ∙ ap (data_dec_by at ts) e ∙ ap (λ x. data_dec_by at x None) (sym q) in
    let k : IsOk (data_dec_by at us None) = sym (ap is_ok g) ∙ h in
    let m = made_of_seen read_constructor_dec no_constructor (plain_data at) (plain_data 0 []) us k in
    (m.0, ap (λ r. result_unwrap_or r (plain_data 0 [])) g ∙ m.1)
