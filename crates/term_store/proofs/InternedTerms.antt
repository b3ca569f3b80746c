-- What is interned in a store stays interned as the store grows, and its number tells its tree.
use Rattle.std.proofs.Common.{◌≡◌, ℕ, List, [], ◌∷◌, ◌++◌, refl, ap, sym, ◌∙◌, append_assoc, subst, Some, inl, inr}
use Rattle.std.specs.List.{Contains, slice_get}
use Rattle.std.proofs.lemmas.List.{append-nil}
use Rattle.sort_store.specs.Tree.{NumberedSort}
use Rattle.sort_store.specs.Tree as sorts
use Rattle.sort_store.proofs.InternedSorts.{get_append, get_push, contains_from_get}
use Rattle.term_store.specs.Term.{Node, Terms, Cases, Note, Notes, NumberedTerm, PlainTerm, term, lit, var, app, let_in, quant, match_on, ann, no_terms, more_terms, no_cases, more_cases, named, pattern, other, no_notes, more_notes, tree, node_tree, node_of, number}
use Rattle.term_store.specs.NumberedNodes.{terms}
use Rattle.term_store.specs.Interned.{IsInterned, ArePartsInterned, AreInterned, AreCasesInterned, IsNoteInterned, AreNotesInterned, AllInterned, HasNoRepeats, InternedTogether, Interns, Grows}

mutual
  pub interned_append : (store more : List PlainTerm) (t : NumberedTerm) → IsInterned store t → IsInterned (store ++ more) t
  interned_append store more (term n s x) p = (get_append store more n (term tt (sorts.tree s) (node_tree x)) p.0, parts_interned_append store more x p.1)

  pub parts_interned_append : (store more : List PlainTerm) (x : Node ℕ NumberedSort) → ArePartsInterned store x → ArePartsInterned (store ++ more) x
  parts_interned_append store more (lit k n) p = tt
  parts_interned_append store more (var n) p = tt
  parts_interned_append store more (app f ts) p = each_interned_append store more ts p
  parts_interned_append store more (let_in vs ts b) p = (each_interned_append store more ts p.0, interned_append store more b p.1)
  parts_interned_append store more (quant all vs b) p = interned_append store more b p
  parts_interned_append store more (match_on t cs) p = (interned_append store more t p.0, cases_interned_append store more cs p.1)
  parts_interned_append store more (ann b ns) p = (interned_append store more b p.0, notes_interned_append store more ns p.1)

  pub each_interned_append : (store more : List PlainTerm) (ts : Terms ℕ NumberedSort) → AreInterned store ts → AreInterned (store ++ more) ts
  each_interned_append store more no_terms p = tt
  each_interned_append store more (more_terms t ts) p = (interned_append store more t p.0, each_interned_append store more ts p.1)

  pub cases_interned_append : (store more : List PlainTerm) (cs : Cases ℕ NumberedSort) → AreCasesInterned store cs → AreCasesInterned (store ++ more) cs
  cases_interned_append store more no_cases p = tt
  cases_interned_append store more (more_cases q t cs) p = (interned_append store more t p.0, cases_interned_append store more cs p.1)

  pub note_interned_append : (store more : List PlainTerm) (n : Note ℕ NumberedSort) → IsNoteInterned store n → IsNoteInterned (store ++ more) n
  note_interned_append store more (named d n) p = tt
  note_interned_append store more (pattern ts) p = each_interned_append store more ts p
  note_interned_append store more (other k v) p = tt

  pub notes_interned_append : (store more : List PlainTerm) (ns : Notes ℕ NumberedSort) → AreNotesInterned store ns → AreNotesInterned (store ++ more) ns
  notes_interned_append store more no_notes p = tt
  notes_interned_append store more (more_notes n ns) p = (note_interned_append store more n p.0, notes_interned_append store more ns p.1)

pub interned_at : (store : List PlainTerm) (t : NumberedTerm) → IsInterned store t → slice_get store (number t) ≡ Some (tree t)
interned_at store (term n s x) p = p.0

pub parts_of_interned : (store : List PlainTerm) (t : NumberedTerm) → IsInterned store t → ArePartsInterned store (node_of t)
parts_of_interned store (term n s x) p = p.1

pub interned_contained : (store : List PlainTerm) (t : NumberedTerm) → IsInterned store t → Contains store (tree t)
interned_contained store t p = contains_from_get store (number t) (tree t) (interned_at store t p)

-- two terms of one store have equal trees exactly where they have one number
pub same_trees : (store : List PlainTerm) (a b : NumberedTerm) → IsInterned store a → IsInterned store b → number a ≡ number b → tree a ≡ tree b
same_trees store a b p q e =
    let x = interned_at store a p in
    let y = interned_at store b q in
    cc (x, y, e)

pub same_numbers : (store : List PlainTerm) (a b : NumberedTerm) → HasNoRepeats store → IsInterned store a → IsInterned store b → tree a ≡ tree b → number a ≡ number b
same_numbers store a b d p q e =
    let x = interned_at store a p in
    let y = interned_at store b q in
    d.distinct (number a) (number b) (tree a) x (cc (y, e))

pub trees_from_numbers : (a b : NumberedTerm) → InternedTogether a b → number a ≡ number b → tree a ≡ tree b
trees_from_numbers a b h e = same_trees h.store a b h.first h.second e

pub numbers_from_trees : (a b : NumberedTerm) → InternedTogether a b → tree a ≡ tree b → number a ≡ number b
numbers_from_trees a b h e = same_numbers h.store a b h.distinct h.first h.second e

pub ruleset number_words = (trees_from_numbers, numbers_from_trees)

pub distinct_push : (store : List PlainTerm) (t : PlainTerm) → HasNoRepeats store → (Contains store t → ⊥) → HasNoRepeats (store ++ t ∷ [])
distinct_push store t h new = record {
  distinct = λ i j u p q.
      elim (get_push store t u i p) [
        | inl a ↦ elim (get_push store t u j q) [
          | inl b ↦ h.distinct i j u a b
          | inr b ↦ absurd (new (contains_from_get store i t (cc (a, b.1))))
        ]
        | inr a ↦ elim (get_push store t u j q) [
          | inl b ↦ absurd (new (contains_from_get store j t (cc (b, a.1))))
          | inr b ↦ cc (a.0, b.0)
        ]
      ];
}

-- a store that gained terms
pub grows_none : (store : List PlainTerm) → Grows store store
grows_none store = ([], sym (append-nil store))

pub grows_more : (a b c : List PlainTerm) → Grows a b → Grows b c → Grows a c
grows_more a b c p q = (p.0 ++ q.0, q.1 ∙ ap (λ z. z ++ q.0) p.1 ∙ append_assoc a p.0 q.0)

pub grows_interned : (a b : List PlainTerm) (t : PlainTerm) → Interns a b t → Grows a b
grows_interned a b t (inl p) = ([], p.1 ∙ sym (append-nil a))
grows_interned a b t (inr p) = (t ∷ [], p.1)

pub interned_grown : (a b : List PlainTerm) (t : NumberedTerm) → Grows a b → IsInterned a t → IsInterned b t
interned_grown a b t g h = subst (λ s. IsInterned s t) (sym g.1) (interned_append a g.0 t h)

pub all_interned_grown : (a b : List PlainTerm) (ts : List NumberedTerm) → Grows a b → AllInterned a ts → AllInterned b ts
all_interned_grown a b ts g h = subst (λ s. AllInterned s ts) (sym g.1) (each_interned_append a g.0 (terms ts) h)

pub all_interned_push : (a : List PlainTerm) (ts : List NumberedTerm) (t : NumberedTerm) → AllInterned a ts → IsInterned a t → AllInterned a (ts ++ t ∷ [])
all_interned_push a [] t h k = (k, tt)
all_interned_push a (x ∷ ts) t h k = (h.0, all_interned_push a ts t h.1 k)

-- two terms that a store made, one before the other
pub together : (old new : List PlainTerm) (a b : NumberedTerm) → Grows old new → HasNoRepeats new → IsInterned old a → IsInterned new b → InternedTogether a b
together old new a b g d p q = record { store = new; distinct = d; first = interned_grown old new a g p; second = q }

-- for callers of a store
pub ruleset grown_words = (grows_none, grows_more, grows_interned, interned_grown, all_interned_grown, all_interned_push)
