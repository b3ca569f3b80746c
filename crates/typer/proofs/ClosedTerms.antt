-- A sound term without free variables is sound whatever variables are bound round it.
use Rattle.std.proofs.Common.{◌≡◌, ℕ, ◌==◌, ◌||◌, Bool, true, false, List, [], ◌∷◌, ◌++◌, length, map, inl, inr, refl, ap, sym, ◌∙◌, subst, append_assoc, append-nil, arith}
use Rattle.std.proofs.lemmas.Bool.{cases_Bool, eqb-true, eq-eqb, not-false}
use Rattle.std.proofs.lemmas.List.{length-map}
use Rattle.sort_store.specs.Tree.{Sort}
use Rattle.term_store.specs.declared.parts.Pattern.TheVariants as patterns
use Rattle.term_store.specs.Declarations.{Declaration}
use Rattle.term_store.specs.SoundTerms.{Bound, sort_bound, bound_also, bound_to, field_sorts, IsSoundTerm, IsSoundNode, AreSoundTerms, AreSoundCases, IsSoundNote, AreSoundNotes, plain_sorts}
use Rattle.term_store.specs.Term.{PlainTerm, PlainNode, Terms, Cases, Note, Notes, term, lit, var, app, let_in, quant, match_on, ann, no_terms, more_terms, no_cases, more_cases, named, pattern, other, no_notes, more_notes}
use Rattle.typer.specs.FreeVariables.{is_one_of, has_free, node_has_free, any_has_free, any_case_has_free, any_note_has_free, note_has_free}

-- the names have the same sorts in both
abbrev Agree : List ℕ → Bound → Bound → Type 0
Agree names a b = (n : ℕ) → is_one_of names n ≡ true → sort_bound a n ≡ sort_bound b n

both_false : (a b : Bool) → a || b ≡ false → (a ≡ false) × (b ≡ false)
both_false true b e = cc
both_false false b e = (refl, e)

one_of_append : (names : List ℕ) (v n : ℕ) → is_one_of (names ++ v ∷ []) n ≡ true → (v == n) ≡ false → is_one_of names n ≡ true
one_of_append [] v n e f = sym (ap (λ b. b || false) f) ∙ e
one_of_append (m ∷ names) v n e f = elim (cases_Bool (m == n)) [
  | inl t ↦ rw t refl
  | inr t ↦ rw t (one_of_append names v n (sym (ap (λ b. b || is_one_of (names ++ v ∷ []) n) t) ∙ e) f)
]

-- one more variable of one sort in both
agree_more : (names : List ℕ) (v : ℕ × Sort) (a b : Bound) → Agree names a b → Agree (names ++ v.0 ∷ []) (v ∷ a) (v ∷ b)
agree_more names v a b h n e = elim (cases_Bool (n == v.0)) [
  | inl t ↦ rw t refl
  | inr t ↦ rw t (h n (one_of_append names v.0 n e (other v.0 n t)))
]
  where
    other : (m n : ℕ) → (n == m) ≡ false → (m == n) ≡ false
    other m n t = elim (cases_Bool (m == n)) [
      | inl s ↦ (let same : m ≡ n = eqb-true m n s in let u : (n == n) ≡ false = subst (λ z. (n == z) ≡ false) same t in (let w : (n == n) ≡ true = eq-eqb n n refl in cc))
      | inr s ↦ s
    ]

agree_also : (vs : List (ℕ × Sort)) (names : List ℕ) (a b : Bound) → Agree names a b → Agree (names ++ map (λ v. v.0) vs) (bound_also vs a) (bound_also vs b)
agree_also [] names a b h = subst (λ z. Agree z a b) (sym (append-nil names)) h
agree_also (v ∷ vs) names a b h =
    subst (λ z. Agree z (bound_also vs (v ∷ a)) (bound_also vs (v ∷ b))) (append_assoc names (v.0 ∷ []) (map (λ v. v.0) vs)) (agree_also vs (names ++ v.0 ∷ []) (v ∷ a) (v ∷ b) (agree_more names v a b h))

agree_to : (vs : List ℕ) (ss : List Sort) (names : List ℕ) (a b : Bound) → length vs ≡ length ss → Agree names a b → Agree (names ++ vs) (bound_to vs ss a) (bound_to vs ss b)
agree_to [] ss names a b l h = subst (λ z. Agree z a b) (sym (append-nil names)) h
agree_to (v ∷ vs) [] names a b l h = cc
agree_to (v ∷ vs) (s ∷ ss) names a b l h =
    subst (λ z. Agree z (bound_to vs ss ((v, s) ∷ a)) (bound_to vs ss ((v, s) ∷ b))) (append_assoc names (v ∷ []) vs) (agree_to vs ss (names ++ v ∷ []) ((v, s) ∷ a) ((v, s) ∷ b) (omega (arith, l)) (agree_more names (v, s) a b h))

module _ (script : List Declaration) where
  mutual
    closed_term : (t : PlainTerm) (names : List ℕ) (a b : Bound) → Agree names a b → has_free names t ≡ false → IsSoundTerm script a t → IsSoundTerm script b t
    closed_term (term u s x) names a b h e sound = (sound.0, closed_node x s names a b h e sound.1)

    closed_node : (x : PlainNode) (s : Sort) (names : List ℕ) (a b : Bound) → Agree names a b → node_has_free names x ≡ false → IsSoundNode script a s x → IsSoundNode script b s x
    closed_node (lit k n) s names a b h e sound = sound
    closed_node (var n) s names a b h e sound = sym (h n (not-false (is_one_of names n) e)) ∙ sound
    closed_node (app f ts) s names a b h e sound = (closed_terms ts names a b h e sound.0, sound.1)
    closed_node (let_in vs ts t) s names a b h e (l, apart, values, body, same) =
        let p = both_false (any_has_free names ts) (has_free (names ++ vs) t) e in
        (l, apart, closed_terms ts names a b h p.0 values, closed_term t (names ++ vs) (bound_to vs (plain_sorts ts) a) (bound_to vs (plain_sorts ts) b) (agree_to vs (plain_sorts ts) names a b l h) p.1 body, same)
    closed_node (quant all vs t) s names a b h e (sorts, body, is_bool, same) =
        (sorts, closed_term t (names ++ map (λ v. v.0) vs) (bound_also vs a) (bound_also vs b) (agree_also vs names a b h) e body, is_bool, same)
    closed_node (match_on t cs) s names a b h e (of, its_sort, cases) =
        let p = both_false (has_free names t) (any_case_has_free names cs) e in
        (closed_term t names a b h p.0 of, its_sort, closed_cases cs names a b _ s h p.1 cases)
    closed_node (ann t ns) s names a b h e (body, same, notes) =
        let p = both_false (has_free names t) (any_note_has_free names ns) e in
        (closed_term t names a b h p.0 body, same, closed_notes ns names a b h p.1 notes)

    closed_terms : (ts : Terms (Unit {0}) Sort) (names : List ℕ) (a b : Bound) → Agree names a b → any_has_free names ts ≡ false → AreSoundTerms script a ts → AreSoundTerms script b ts
    closed_terms no_terms names a b h e sound = tt
    closed_terms (more_terms t ts) names a b h e sound =
        let p = both_false (has_free names t) (any_has_free names ts) e in (closed_term t names a b h p.0 sound.0, closed_terms ts names a b h p.1 sound.1)

    closed_cases : (cs : Cases (Unit {0}) Sort) (names : List ℕ) (a b : Bound) (of s : Sort) → Agree names a b → any_case_has_free names cs ≡ false → AreSoundCases script a of s cs → AreSoundCases script b of s cs
    closed_cases no_cases names a b of s h e sound = tt
    closed_cases (more_cases (patterns.Var n) t cs) names a b of s h e (branch, same, rest) =
        let p = both_false (has_free (names ++ n ∷ []) t) (any_case_has_free names cs) e in
        (closed_term t (names ++ n ∷ []) ((n, of) ∷ a) ((n, of) ∷ b) (agree_more names (n, of) a b h) p.0 branch, same, closed_cases cs names a b of s h p.1 rest)
    closed_cases (more_cases (patterns.Con d n vs) t cs) names a b of s h e ((c, apart, branch), same, rest) =
        let p = both_false (has_free (names ++ vs) t) (any_case_has_free names cs) e in
        let sorts = field_sorts c.by c.values in
        ((c, apart, closed_term t (names ++ vs) (bound_to vs sorts a) (bound_to vs sorts b) (agree_to vs sorts names a b (c.fields ∙ sym (length-map c.by.fields _)) h) p.0 branch), same, closed_cases cs names a b of s h p.1 rest)

    closed_notes : (ns : Notes (Unit {0}) Sort) (names : List ℕ) (a b : Bound) → Agree names a b → any_note_has_free names ns ≡ false → AreSoundNotes script a ns → AreSoundNotes script b ns
    closed_notes no_notes names a b h e sound = tt
    closed_notes (more_notes n ns) names a b h e sound =
        let p = both_false (note_has_free names n) (any_note_has_free names ns) e in (closed_note n names a b h p.0 sound.0, closed_notes ns names a b h p.1 sound.1)

    closed_note : (n : Note (Unit {0}) Sort) (names : List ℕ) (a b : Bound) → Agree names a b → note_has_free names n ≡ false → IsSoundNote script a n → IsSoundNote script b n
    closed_note (named d m) names a b h e sound = tt
    closed_note (pattern ts) names a b h e sound = closed_terms ts names a b h e sound
    closed_note (other k v) names a b h e sound = tt

  pub closed_sound : (t : PlainTerm) (a b : Bound) → has_free [] t ≡ false → IsSoundTerm script a t → IsSoundTerm script b t
  closed_sound t a b e sound = closed_term t [] a b (λ n f. cc) e sound
