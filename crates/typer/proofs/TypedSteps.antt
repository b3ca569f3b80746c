-- What is true of typed terms stays true as the world's stores grow.
use Rattle.std.proofs.Common.{◌≡◌, ℕ, List, [], ◌∷◌, ◌++◌, map, Option, Some, None, refl, ap, sym, ◌∙◌, subst}
use Rattle.std.specs.Global.{Global}
use Rattle.std.specs.Option.{IfSome}
use Rattle.std.specs.Prelude.{Vec}
use Rattle.std.proofs.lemmas.List.{map-append}
use Rattle.sort_store.specs.declared.head.DeclNo.{DeclNo}
use Rattle.sort_store.specs.Tree.{Sort, NumberedSort}
use Rattle.sort_store.specs.Tree as sort_tree
use Rattle.sort_store.specs.Interned as sorts
use Rattle.sort_store.proofs.GrownStores as sort_stores
use Rattle.term_store.specs.NumberedNodes.{numbered_note, numbered_notes, term_of}
use Rattle.term_store.specs.declared.term.Note.{Note}
use Rattle.term_store.specs.declared.term.TermNode.{TermNode}
use Rattle.term_store.specs.Term.{Notes, NumberedTerm, PlainTerm, tree, plain_sort}
use Rattle.term_store.specs.Interned as terms
use Rattle.term_store.proofs.InternedTerms as term_stores
use Rattle.typer.specs.declared.typed.TypedBinding.{TypedBinding}
use Rattle.typer.specs.declared.typed.TypedTerm.{TypedTerm}
use Rattle.typer.specs.declared.typed.TypedTerms.{TypedTerms}
use Rattle.typer.specs.declared.world.World.{World}
use Rattle.typer.specs.FunctionSymbols.{Signature, first_number, signature_of}
use Rattle.typer.specs.Ready.{IsReady}
use Rattle.typer.specs.Typed.{AreBound, AreTyped, AreTypedBindings, HasElaborated, HasGrown, IsTyped, bound_variable}
use Rattle.typer.proofs.ReadyKept.{ready_kept}

abbrev with_stores : List Sort → List PlainTerm → World → World
with_stores s t world = record world { sorts = s; terms = t }

-- growing
pub grown_none : (world : World) → HasGrown world world
grown_none world = record { sorts = sort_stores.grows_none world.sorts; terms = term_stores.grows_none world.terms; others = refl }

pub grown_more : (a b c : World) → HasGrown a b → HasGrown b c → HasGrown a c
grown_more a b c h k = record {
  sorts = sort_stores.grows_more a.sorts b.sorts c.sorts h.sorts k.sorts;
  terms = term_stores.grows_more a.terms b.terms c.terms h.terms k.terms;
  others = k.others ∙ ap (with_stores c.sorts c.terms) h.others;
}

pub grown_sorts : (old new : World) → sorts.Grows old.sorts new.sorts → new ≡ record old { sorts = new.sorts } → HasGrown old new
grown_sorts old new g e = record {
  sorts = g;
  terms = subst (terms.Grows old.terms) (ap (λ (w : World). w.terms) (sym e)) (term_stores.grows_none old.terms);
  others = e ∙ ap (λ t. with_stores new.sorts t old) (ap (λ (w : World). w.terms) (sym e));
}

pub grown_terms : (old : World) (made : List PlainTerm) → terms.Grows old.terms made → HasGrown old (record old { terms = made })
grown_terms old made g = record { sorts = sort_stores.grows_none old.sorts; terms = g; others = refl }

-- .. also so far as names are declared
abbrev with_names : List Sort → List PlainTerm → Vec ℕ Global → DeclNo → World → World
with_names s t seen next world = record world { sorts = s; terms = t; seen = seen; next = next }

pub elaborated_grown : (old new : World) → HasGrown old new → HasElaborated old new
elaborated_grown old new h = record {
  sorts = h.sorts;
  terms = h.terms;
  first = ap first_number h.others;
  others = h.others ∙ ap (λ seen. with_names new.sorts new.terms seen old.next old) (ap (λ (w : World). w.seen) (sym h.others)) ∙ ap (λ next. with_names new.sorts new.terms new.seen next old) (ap (λ (w : World). w.next) (sym h.others));
}

pub elaborated_none : (world : World) → HasElaborated world world
elaborated_none world = elaborated_grown world world (grown_none world)

pub elaborated_more : (a b c : World) → HasElaborated a b → HasElaborated b c → HasElaborated a c
elaborated_more a b c h k = record {
  sorts = sort_stores.grows_more a.sorts b.sorts c.sorts h.sorts k.sorts;
  terms = term_stores.grows_more a.terms b.terms c.terms h.terms k.terms;
  first = k.first ∙ h.first;
  others = k.others ∙ ap (with_names c.sorts c.terms c.seen c.next) h.others;
}

pub elaborated_named : (old new : World) → first_number new ≡ first_number old → new ≡ record old { seen = new.seen; next = new.next } → HasElaborated old new
elaborated_named old new same e = record {
  sorts = subst (sorts.Grows old.sorts) (ap (λ (w : World). w.sorts) (sym e)) (sort_stores.grows_none old.sorts);
  terms = subst (terms.Grows old.terms) (ap (λ (w : World). w.terms) (sym e)) (term_stores.grows_none old.terms);
  first = same;
  others = e ∙ ap (λ s. with_names s old.terms new.seen new.next old) (ap (λ (w : World). w.sorts) (sym e)) ∙ ap (λ t. with_names new.sorts t new.seen new.next old) (ap (λ (w : World). w.terms) (sym e));
}

-- what does not change
pub same_signature : (old new : World) → HasGrown old new → signature_of new ≡ signature_of old
same_signature old new h = ap signature_of h.others

pub same_seen : (old new : World) → HasGrown old new → new.seen.items ≡ old.seen.items
same_seen old new h = ap (λ (w : World). w.seen.items) h.others

pub same_script : (old new : World) → HasElaborated old new → new.script ≡ old.script
same_script old new h = ap (λ (w : World). w.script) h.others

abbrev with_first : ℕ → Signature → Signature
with_first first signature = record signature { first = first }

pub elaborated_signature : (old new : World) → HasElaborated old new → signature_of new ≡ signature_of old
elaborated_signature old new h = ap (λ w. with_first (first_number new) (signature_of w)) h.others ∙ ap (λ n. with_first n (signature_of old)) h.first

pub ready_with_terms : (old : World) (made : List PlainTerm) → IsReady old → IsReady (record old { terms = made })
ready_with_terms old made ready = record { distinct = ready.distinct; sorts = ready.sorts; funs = ready.funs; datatypes = ready.datatypes; numbered = ready.numbered }

module _ (old new : World) (elaborated : HasElaborated old new) where
  pub sort_kept : (r : NumberedSort) → sorts.IsInterned old.sorts r → sorts.IsInterned new.sorts r
  sort_kept r h = sort_stores.interned_grown old.sorts new.sorts r elaborated.sorts h

  pub asked_kept : (o : Option NumberedSort) → IfSome o (sorts.IsInterned old.sorts) → IfSome o (sorts.IsInterned new.sorts)
  asked_kept (Some r) h = sort_kept r h
  asked_kept None h = h

  pub bound_kept : (vars : List (ℕ × NumberedSort)) → AreBound old vars → AreBound new vars
  bound_kept vars h = sort_stores.all_interned_grown old.sorts new.sorts (map (λ v. v.1) vars) elaborated.sorts h

  pub typed_kept : (t : TypedTerm) → IsTyped old t → IsTyped new t
  typed_kept t h = record { term = term_stores.interned_grown old.terms new.terms t.term elaborated.terms h.term; sort = sort_kept t.sort h.sort; same = h.same }

  pub all_typed_kept : (ts : TypedTerms) → AreTyped old ts → AreTyped new ts
  all_typed_kept ts h = record {
    terms = term_stores.all_interned_grown old.terms new.terms ts.terms.items elaborated.terms h.terms;
    sorts = sort_stores.all_interned_grown old.sorts new.sorts ts.sorts.items elaborated.sorts h.sorts;
    same = h.same;
  }

  pub bindings_kept : (bs : List TypedBinding) → AreTypedBindings old bs → AreTypedBindings new bs
  bindings_kept [] h = tt
  bindings_kept (b ∷ bs) h = (typed_kept b.value h.0, bindings_kept bs h.1)

  pub notes_kept : (ns : Notes ℕ NumberedSort) → terms.AreNotesInterned old.terms ns → terms.AreNotesInterned new.terms ns
  notes_kept ns h = subst (λ z. terms.AreNotesInterned z ns) (sym elaborated.terms.1) (term_stores.notes_interned_append old.terms elaborated.terms.0 ns h)

-- .. where no name is declared
module _ (old new : World) (grown : HasGrown old new) where
  pub sort_grown : (r : NumberedSort) → sorts.IsInterned old.sorts r → sorts.IsInterned new.sorts r
  sort_grown r h = sort_kept old new (elaborated_grown old new grown) r h

  pub asked_grown : (o : Option NumberedSort) → IfSome o (sorts.IsInterned old.sorts) → IfSome o (sorts.IsInterned new.sorts)
  asked_grown o h = asked_kept old new (elaborated_grown old new grown) o h

  pub bound_grown : (vars : List (ℕ × NumberedSort)) → AreBound old vars → AreBound new vars
  bound_grown vars h = bound_kept old new (elaborated_grown old new grown) vars h

  pub typed_grown : (t : TypedTerm) → IsTyped old t → IsTyped new t
  typed_grown t h = typed_kept old new (elaborated_grown old new grown) t h

  pub all_typed_grown : (ts : TypedTerms) → AreTyped old ts → AreTyped new ts
  all_typed_grown ts h = all_typed_kept old new (elaborated_grown old new grown) ts h

-- one more binding or attribute
pub bindings_push : (world : World) (bs : List TypedBinding) (b : TypedBinding) → AreTypedBindings world bs → IsTyped world b.value → AreTypedBindings world (bs ++ b ∷ [])
bindings_push world [] b h k = (k, tt)
bindings_push world (c ∷ bs) b h k = (h.0, bindings_push world bs b h.1 k)

pub notes_push : (store : List PlainTerm) (ns : List Note) (n : Note) → terms.AreNotesInterned store (numbered_notes ns) → terms.IsNoteInterned store (numbered_note n) → terms.AreNotesInterned store (numbered_notes (ns ++ n ∷ []))
notes_push store [] n h k = (k, tt)
notes_push store (m ∷ ns) n h k = (h.0, notes_push store ns n h.1 k)

-- variables inside others
pub bound_append : (world : World) (vs ws : List (ℕ × NumberedSort)) → AreBound world vs → AreBound world ws → AreBound world (vs ++ ws)
bound_append world [] ws h k = k
bound_append world (v ∷ vs) ws h k = (h.0, bound_append world vs ws h.1 k)

pub bound_push : (world : World) (vs : List (ℕ × NumberedSort)) (v : ℕ × NumberedSort) → AreBound world vs → sorts.IsInterned world.sorts v.1 → AreBound world (vs ++ v ∷ [])
bound_push world vs v h k = bound_append world vs (v ∷ []) h (k, tt)

pub bindings_bound : (world : World) (bs : List TypedBinding) → AreTypedBindings world bs → AreBound world (map bound_variable bs)
bindings_bound world [] h = tt
bindings_bound world (b ∷ bs) h = (h.0.sort, bindings_bound world bs h.1)

-- the terms of the bindings
pub bindings_interned : (world : World) (bs : List TypedBinding) → AreTypedBindings world bs → terms.AllInterned world.terms (map (λ b. b.value.term) bs)
bindings_interned world [] h = tt
bindings_interned world (b ∷ bs) h = (h.0.term, bindings_interned world bs h.1)

-- no terms, and one more
pub none_typed : (world : World) (ts : TypedTerms) → ts.terms.items ≡ [] → ts.sorts.items ≡ [] → AreTyped world ts
none_typed world ts e f = record {
  terms = subst (terms.AllInterned world.terms) (sym e) tt;
  sorts = subst (sorts.AllInterned world.sorts) (sym f) tt;
  same = ap (map sort_tree.tree) f ∙ sym (ap (λ z. map plain_sort (map tree z)) e);
}

pub typed_push : (world : World) (old new : TypedTerms) (t : TypedTerm) → AreTyped world old → IsTyped world t → new.terms.items ≡ old.terms.items ++ t.term ∷ [] → new.sorts.items ≡ old.sorts.items ++ t.sort ∷ [] → AreTyped world new
typed_push world old new t h k e f = record {
  terms = subst (terms.AllInterned world.terms) (sym e) (term_stores.all_interned_push world.terms old.terms.items t.term h.terms k.term);
  sorts = subst (sorts.AllInterned world.sorts) (sym f) (sort_stores.all_interned_push world.sorts old.sorts.items t.sort h.sorts k.sort);
  same = ap (map sort_tree.tree) f ∙ map-append sort_tree.tree old.sorts.items (t.sort ∷ []) ∙ ap (λ z. z ++ sort_tree.tree t.sort ∷ []) h.same ∙ ap (λ z. map plain_sort (map tree old.terms.items) ++ z ∷ []) k.same
      ∙ sym (ap (λ z. map plain_sort (map tree z)) e ∙ ap (map plain_sort) (map-append tree old.terms.items (t.term ∷ [])) ∙ map-append plain_sort (map tree old.terms.items) (tree t.term ∷ []));
}

-- the sort of a term that was made
pub made_sort : (t : NumberedTerm) (s : NumberedSort) (x : TermNode) → tree t ≡ term_of s x → sort_tree.tree s ≡ plain_sort (tree t)
made_sort t s x e = sym (ap plain_sort e)

pub ruleset typed_words = (grown_none, grown_more, grown_sorts, sort_grown, asked_grown, bound_grown, typed_grown, all_typed_grown, none_typed, ready_kept)

pub ruleset term_words = (elaborated_none, elaborated_more, elaborated_grown, sort_kept, bound_kept, none_typed)
