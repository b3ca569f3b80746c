-- In one store the outline of a node tells its tree, and the tree its outline.
use Rattle.std.proofs.Common.{◌≡◌, ℕ, Bool, List, [], ◌∷◌, ◌++◌, refl, ap, sym, ◌∙◌, append_assoc, map, Some, Option, unwrap_or}
use Rattle.std.specs.List.{slice_get}
use Rattle.sort_store.specs.Tree.{NumberedSort, Sort, sort, no_sorts}
use Rattle.sort_store.specs.declared.head.Head.TheVariants as head
use Rattle.sort_store.specs.Tree as sorts
use Rattle.term_store.specs.declared.parts.Pattern.{Pattern}
use Rattle.term_store.specs.declared.parts.Applied.{Applied}
use Rattle.term_store.specs.declared.term.TermNode.{TermNode}
use Rattle.term_store.specs.Value.{unplaced_value}
use Rattle.term_store.specs.Term.{Node, Terms, Cases, Note, Notes, NumberedTerm, PlainTerm, PlainNode, term, lit, var, app, let_in, quant, match_on, ann, no_terms, more_terms, no_cases, more_cases, named, pattern, other, no_notes, more_notes, tree, node_tree, trees, case_trees, note_tree, note_trees, node_of, sort_of, number, plain_var}
use Rattle.term_store.specs.NumberedNodes.{terms, cases, numbered_node, term_of}
use Rattle.term_store.specs.Interned.{IsInterned, ArePartsInterned, AreInterned, AreCasesInterned, IsNoteInterned, AreNotesInterned, HasNoRepeats}
use Rattle.term_store.specs.Outline.{Outline, NoteOutline, naming, patterns, attribute, literal, variable, applied, bound, quantified, matched, annotated, numbers, case_outline, case_outlines, note_outline, note_outlines, outline, IsMadeOf}
use Rattle.term_store.specs.TermKeys.{case_numbers}
use Rattle.term_store.proofs.InternedTerms.{interned_at, same_numbers}
use Rattle.term_store.proofs.MappedLists.{numbers-terms}

-- the tree at a number of a store
abbrev any_term : PlainTerm
any_term = term tt (sort head.Bool no_sorts) (var 0)

abbrev tree_at : List PlainTerm → ℕ → PlainTerm
tree_at store n = unwrap_or (slice_get store n) any_term

tree_at_number : (store : List PlainTerm) (t : NumberedTerm) → IsInterned store t → tree t ≡ tree_at store (number t)
tree_at_number store t p = sym (ap (λ o. unwrap_or o any_term) (interned_at store t p))

-- the tree of a node, from its outline and the store
abbrev trees_at : List PlainTerm → List ℕ → Terms (Unit {0}) Sort
trees_at store [] = no_terms
trees_at store (n ∷ ns) = more_terms (tree_at store n) (trees_at store ns)

abbrev cases_at : List PlainTerm → List (Pattern × ℕ) → Cases (Unit {0}) Sort
cases_at store [] = no_cases
cases_at store (c ∷ cs) = more_cases c.0 (tree_at store c.1) (cases_at store cs)

abbrev note_at : List PlainTerm → NoteOutline → Note (Unit {0}) Sort
note_at store (naming d n) = named d n
note_at store (patterns ns) = pattern (trees_at store ns)
note_at store (attribute k v) = other k v

abbrev notes_at : List PlainTerm → List NoteOutline → Notes (Unit {0}) Sort
notes_at store [] = no_notes
notes_at store (n ∷ ns) = more_notes (note_at store n) (notes_at store ns)

abbrev node_at : List PlainTerm → Outline → PlainNode
node_at store (literal k n) = lit k n
node_at store (variable n) = var n
node_at store (applied f ns) = app f (trees_at store ns)
node_at store (bound vs ns b) = let_in vs (trees_at store ns) (tree_at store b)
node_at store (quantified all vs b) = quant all vs (tree_at store b)
node_at store (matched t cs) = match_on (tree_at store t) (cases_at store cs)
node_at store (annotated b ns) = ann (tree_at store b) (notes_at store ns)

trees_from_store : (store : List PlainTerm) (ts : Terms ℕ NumberedSort) → AreInterned store ts → trees ts ≡ trees_at store (numbers ts)
trees_from_store store no_terms p = refl
trees_from_store store (more_terms t ts) p = ap (λ z. more_terms z (trees ts)) (tree_at_number store t p.0) ∙ ap (more_terms (tree_at store (number t))) (trees_from_store store ts p.1)

cases_from_store : (store : List PlainTerm) (cs : Cases ℕ NumberedSort) → AreCasesInterned store cs → case_trees cs ≡ cases_at store (case_outlines cs)
cases_from_store store no_cases p = refl
cases_from_store store (more_cases q t cs) p = ap (λ z. more_cases q z (case_trees cs)) (tree_at_number store t p.0) ∙ ap (more_cases q (tree_at store (number t))) (cases_from_store store cs p.1)

note_from_store : (store : List PlainTerm) (n : Note ℕ NumberedSort) → IsNoteInterned store n → note_tree n ≡ note_at store (note_outline n)
note_from_store store (named d n) p = refl
note_from_store store (pattern ts) p = ap pattern (trees_from_store store ts p)
note_from_store store (other k v) p = refl

notes_from_store : (store : List PlainTerm) (ns : Notes ℕ NumberedSort) → AreNotesInterned store ns → note_trees ns ≡ notes_at store (note_outlines ns)
notes_from_store store no_notes p = refl
notes_from_store store (more_notes n ns) p = ap (λ z. more_notes z (note_trees ns)) (note_from_store store n p.0) ∙ ap (more_notes (note_at store (note_outline n))) (notes_from_store store ns p.1)

node_from_store : (store : List PlainTerm) (x : Node ℕ NumberedSort) → ArePartsInterned store x → node_tree x ≡ node_at store (outline x)
node_from_store store (lit k n) p = refl
node_from_store store (var n) p = refl
node_from_store store (app f ts) p = ap (app f) (trees_from_store store ts p)
node_from_store store (let_in vs ts b) p = ap (λ z. let_in vs z (tree b)) (trees_from_store store ts p.0) ∙ ap (let_in vs (trees_at store (numbers ts))) (tree_at_number store b p.1)
node_from_store store (quant all vs b) p = ap (quant all (map plain_var vs)) (tree_at_number store b p)
node_from_store store (match_on t cs) p = ap (λ z. match_on z (case_trees cs)) (tree_at_number store t p.0) ∙ ap (match_on (tree_at store (number t))) (cases_from_store store cs p.1)
node_from_store store (ann b ns) p = ap (λ z. ann z (note_trees ns)) (tree_at_number store b p.0) ∙ ap (ann (tree_at store (number b))) (notes_from_store store ns p.1)

pub tree_from_outline : (store : List PlainTerm) (x y : Node ℕ NumberedSort) → ArePartsInterned store x → ArePartsInterned store y → outline x ≡ outline y → node_tree x ≡ node_tree y
tree_from_outline store x y p q e = node_from_store store x p ∙ ap (node_at store) e ∙ sym (node_from_store store y q)

-- the outline, from the tree
numbers_from_trees : (store : List PlainTerm) → HasNoRepeats store → (ts us : Terms ℕ NumberedSort) → AreInterned store ts → AreInterned store us → trees ts ≡ trees us → numbers ts ≡ numbers us
numbers_from_trees store d no_terms no_terms p q e = refl
numbers_from_trees store d no_terms (more_terms u us) p q e = cc
numbers_from_trees store d (more_terms t ts) no_terms p q e = cc
numbers_from_trees store d (more_terms t ts) (more_terms u us) p q e =
    let h : tree t ≡ tree u = cc in
    let r : trees ts ≡ trees us = cc in
    let n = same_numbers store t u d p.0 q.0 h in
    let ns = numbers_from_trees store d ts us p.1 q.1 r in
    cc (n, ns)

outlines_from_cases : (store : List PlainTerm) → HasNoRepeats store → (cs bs : Cases ℕ NumberedSort) → AreCasesInterned store cs → AreCasesInterned store bs → case_trees cs ≡ case_trees bs → case_outlines cs ≡ case_outlines bs
outlines_from_cases store d no_cases no_cases p q e = refl
outlines_from_cases store d no_cases (more_cases v u bs) p q e = cc
outlines_from_cases store d (more_cases w t cs) no_cases p q e = cc
outlines_from_cases store d (more_cases w t cs) (more_cases v u bs) p q e =
    let g : w ≡ v = cc in
    let h : tree t ≡ tree u = cc in
    let r : case_trees cs ≡ case_trees bs = cc in
    let n = same_numbers store t u d p.0 q.0 h in
    ap (λ (x : Pattern). (x, number t) ∷ case_outlines cs) g ∙ ap (λ x. (v, x) ∷ case_outlines cs) n ∙ ap (λ z. (v, number u) ∷ z) (outlines_from_cases store d cs bs p.1 q.1 r)

outline_from_note : (store : List PlainTerm) → HasNoRepeats store → (n m : Note ℕ NumberedSort) → IsNoteInterned store n → IsNoteInterned store m → note_tree n ≡ note_tree m → note_outline n ≡ note_outline m
outline_from_note store d (named c n) (named b m) p q e = cc
outline_from_note store d (pattern ts) (pattern us) p q e = let r : trees ts ≡ trees us = cc in ap patterns (numbers_from_trees store d ts us p q r)
outline_from_note store d (other k v) (other l w) p q e = cc
outline_from_note store d n m p q e = cc

outlines_from_notes : (store : List PlainTerm) → HasNoRepeats store → (ns ms : Notes ℕ NumberedSort) → AreNotesInterned store ns → AreNotesInterned store ms → note_trees ns ≡ note_trees ms → note_outlines ns ≡ note_outlines ms
outlines_from_notes store d no_notes no_notes p q e = refl
outlines_from_notes store d no_notes (more_notes m ms) p q e = cc
outlines_from_notes store d (more_notes n ns) no_notes p q e = cc
outlines_from_notes store d (more_notes n ns) (more_notes m ms) p q e =
    let g : note_tree n ≡ note_tree m = cc in
    let r : note_trees ns ≡ note_trees ms = cc in
    let o = outline_from_note store d n m p.0 q.0 g in
    let os = outlines_from_notes store d ns ms p.1 q.1 r in
    cc (o, os)

pub outline_from_tree : (store : List PlainTerm) → HasNoRepeats store → (x y : Node ℕ NumberedSort) → ArePartsInterned store x → ArePartsInterned store y → node_tree x ≡ node_tree y → outline x ≡ outline y
outline_from_tree store d (lit k n) (lit l m) p q e = cc
outline_from_tree store d (var n) (var m) p q e = cc
outline_from_tree store d (app f ts) (app g us) p q e =
    let h : f ≡ g = cc in
    let r : trees ts ≡ trees us = cc in
    let ns = numbers_from_trees store d ts us p q r in
    cc (h, ns)
outline_from_tree store d (let_in vs ts b) (let_in ws us c) p q e =
    let h : vs ≡ ws = cc in
    let r : trees ts ≡ trees us = cc in
    let g : tree b ≡ tree c = cc in
    let ns = numbers_from_trees store d ts us p.0 q.0 r in
    let n = same_numbers store b c d p.1 q.1 g in
    cc (h, ns, n)
outline_from_tree store d (quant all vs b) (quant any ws c) p q e =
    let a : all ≡ any = cc in
    let h : map plain_var vs ≡ map plain_var ws = cc in
    let g : tree b ≡ tree c = cc in
    let n = same_numbers store b c d p q g in
    cc (a, h, n)
outline_from_tree store d (match_on t cs) (match_on u bs) p q e =
    let g : tree t ≡ tree u = cc in
    let r : case_trees cs ≡ case_trees bs = cc in
    let n = same_numbers store t u d p.0 q.0 g in
    let os = outlines_from_cases store d cs bs p.1 q.1 r in
    cc (n, os)
outline_from_tree store d (ann b ns) (ann c ms) p q e =
    let g : tree b ≡ tree c = cc in
    let r : note_trees ns ≡ note_trees ms = cc in
    let n = same_numbers store b c d p.0 q.0 g in
    let os = outlines_from_notes store d ns ms p.1 q.1 r in
    cc (n, os)
outline_from_tree store d x y p q e = cc

-- a node that was taken out of a term
pub made_of : (t : NumberedTerm) (n : ℕ) (s : NumberedSort) (x y : TermNode) (r : NumberedSort) → term n s (numbered_node x) ≡ t → sorts.tree s ≡ sorts.tree r → outline (numbered_node x) ≡ outline (numbered_node y) → IsMadeOf t y r
made_of t n s x y r v p q = (ap (λ z. sorts.tree (sort_of z)) (sym v) ∙ p, ap (λ z. outline (node_of z)) (sym v) ∙ q)

pub made_sort : (t : NumberedTerm) (n : ℕ) (s : NumberedSort) (x y : TermNode) (r : NumberedSort) → term n s (numbered_node x) ≡ t → IsMadeOf t y r → sorts.tree s ≡ sorts.tree r
made_sort t n s x y r v h = ap (λ z. sorts.tree (sort_of z)) v ∙ h.0

pub made_outline : (t : NumberedTerm) (n : ℕ) (s : NumberedSort) (x y : TermNode) (r : NumberedSort) → term n s (numbered_node x) ≡ t → IsMadeOf t y r → outline (numbered_node x) ≡ outline (numbered_node y)
made_outline t n s x y r v h = ap (λ z. outline (node_of z)) v ∙ h.1

pub ruleset made_words = (made_of, made_sort, made_outline)

-- the tree of a term made of these
pub tree_of_made : (store : List PlainTerm) (t : NumberedTerm) (x : TermNode) (s : NumberedSort) → IsInterned store t → ArePartsInterned store (numbered_node x) → IsMadeOf t x s → tree t ≡ term_of s x
tree_of_made store (term n r y) x s p q h =
    ap (λ z. term tt z (node_tree y)) h.0 ∙ ap (term tt (sorts.tree s)) (tree_from_outline store y (numbered_node x) p.1 q h.1)

pub made_from_tree : (store : List PlainTerm) (t : NumberedTerm) (x : TermNode) (s : NumberedSort) → HasNoRepeats store → IsInterned store t → ArePartsInterned store (numbered_node x) → tree t ≡ term_of s x → IsMadeOf t x s
made_from_tree store (term n r y) x s d p q e =
    let g : sorts.tree r ≡ sorts.tree s = cc in
    let h : node_tree y ≡ node_tree (numbered_node x) = cc in
    (g, outline_from_tree store d y (numbered_node x) p.1 q h)

-- the numbers of a key, put in a list one after the other
pub numbers-cases : (cs : List (Pattern × NumberedTerm)) → case_numbers (case_outlines (cases cs)) ≡ map (λ (c : Pattern × NumberedTerm). number c.1) cs
numbers-cases [] = refl
numbers-cases (c ∷ cs) = ap (λ z. number c.1 ∷ z) (numbers-cases cs)

pub listed_applied : (list is : List ℕ) (xs : List NumberedTerm) → (list ++ is) ++ map number xs ≡ list ++ (is ++ numbers (terms xs))
listed_applied list is xs = append_assoc list is (map number xs) ∙ ap (λ z. list ++ (is ++ z)) (sym (numbers-terms xs))

pub listed_bound : (list : List ℕ) (xs : List NumberedTerm) (n : ℕ) → (list ++ map number xs) ++ n ∷ [] ≡ list ++ (numbers (terms xs) ++ n ∷ [])
listed_bound list xs n = append_assoc list (map number xs) (n ∷ []) ∙ ap (λ z. list ++ (z ++ n ∷ [])) (sym (numbers-terms xs))

pub listed_matched : (list : List ℕ) (n : ℕ) (cs : List (Pattern × NumberedTerm)) → (list ++ n ∷ []) ++ map (λ (c : Pattern × NumberedTerm). number c.1) cs ≡ list ++ n ∷ case_numbers (case_outlines (cases cs))
listed_matched list n cs = append_assoc list (n ∷ []) (map (λ (c : Pattern × NumberedTerm). number c.1) cs) ∙ ap (λ z. list ++ n ∷ z) (sym (numbers-cases cs))

pub ruleset listed_words = (listed_applied, listed_bound, listed_matched)
