-- A term applies what the terms named in it apply.
use Rattle.std.proofs.Common.{ℕ, ◌≤◌, arith}
use Rattle.sort_store.specs.Tree.{Sort}
use Rattle.term_store.specs.Term.{Cases, Node, Note, Notes, PlainTerm, Terms, term, lit, var, app, let_in, quant, match_on, ann, no_terms, more_terms, no_cases, more_cases, named, pattern, other, no_notes, more_notes}
use Rattle.term_store.specs.Declarations.{names_in, names_in_cases, names_in_each, names_in_node, names_in_note, names_in_notes}
use Rattle.term_store.specs.SoundTerms.{AppliesBelow, CasesApplyBelow, EachAppliesBelow, IsFunBelow, NodeAppliesBelow, NoteAppliesBelow, NotesApplyBelow}
use Rattle.term_store.specs.declared.parts.Fun.{Fun}
use Rattle.term_store.specs.declared.parts.Fun.TheVariants as fun
use Rattle.typer.proofs.EachNamed.{EachNamed, append_named, none_named, one_named}

module _ (n : ℕ) where
  mutual
    pub names_below : (t : PlainTerm) → AppliesBelow n t → EachNamed (AppliesBelow n) (names_in t)
    names_below (term u s x) h = node_names_below x h

    node_names_below : (x : Node (Unit {0}) Sort) → NodeAppliesBelow n x → EachNamed (AppliesBelow n) (names_in_node x)
    node_names_below (lit k m) h = none_named (AppliesBelow n)
    node_names_below (var m) h = none_named (AppliesBelow n)
    node_names_below (app f ts) h = each_names_below ts h.1
    node_names_below (let_in vs ts b) h = append_named (AppliesBelow n) (names_in_each ts) (names_in b) (each_names_below ts h.0) (names_below b h.1)
    node_names_below (quant all vs b) h = names_below b h
    node_names_below (match_on t cs) h = append_named (AppliesBelow n) (names_in t) (names_in_cases cs) (names_below t h.0) (case_names_below cs h.1)
    node_names_below (ann b ns) h = append_named (AppliesBelow n) (names_in b) (names_in_notes b ns) (names_below b h.0) (note_names_below b h.0 ns h.1)

    each_names_below : (ts : Terms (Unit {0}) Sort) → EachAppliesBelow n ts → EachNamed (AppliesBelow n) (names_in_each ts)
    each_names_below no_terms h = none_named (AppliesBelow n)
    each_names_below (more_terms t ts) h = append_named (AppliesBelow n) (names_in t) (names_in_each ts) (names_below t h.0) (each_names_below ts h.1)

    case_names_below : (cs : Cases (Unit {0}) Sort) → CasesApplyBelow n cs → EachNamed (AppliesBelow n) (names_in_cases cs)
    case_names_below no_cases h = none_named (AppliesBelow n)
    case_names_below (more_cases p t cs) h = append_named (AppliesBelow n) (names_in t) (names_in_cases cs) (names_below t h.0) (case_names_below cs h.1)

    note_names_below : (t : PlainTerm) → AppliesBelow n t → (ns : Notes (Unit {0}) Sort) → NotesApplyBelow n ns → EachNamed (AppliesBelow n) (names_in_notes t ns)
    note_names_below t b no_notes h = none_named (AppliesBelow n)
    note_names_below t b (more_notes m ms) h = append_named (AppliesBelow n) (names_in_note t m) (names_in_notes t ms) (one_note_below t b m h.0) (note_names_below t b ms h.1)

    one_note_below : (t : PlainTerm) → AppliesBelow n t → (m : Note (Unit {0}) Sort) → NoteAppliesBelow n m → EachNamed (AppliesBelow n) (names_in_note t m)
    one_note_below t b (named d name) h = one_named (AppliesBelow n) d name t b
    one_note_below t b (pattern ts) h = each_names_below ts h
    one_note_below t b (other k v) h = none_named (AppliesBelow n)

-- .. and a higher bound is one too
module _ (n top : ℕ) (l : n ≤ top) where
  fun_more : (f : Fun) → IsFunBelow n f → IsFunBelow top f
  fun_more (fun.Declared d) h = omega (arith, h, l)
  fun_more (fun.Tester d) h = omega (arith, h, l)
  fun_more fun.Theory h = tt

  mutual
    pub applies_more : (t : PlainTerm) → AppliesBelow n t → AppliesBelow top t
    applies_more (term u s x) h = node_applies_more x h

    node_applies_more : (x : Node (Unit {0}) Sort) → NodeAppliesBelow n x → NodeAppliesBelow top x
    node_applies_more (lit k m) h = tt
    node_applies_more (var m) h = tt
    node_applies_more (app f ts) h = (fun_more f.fun h.0, each_applies_more ts h.1)
    node_applies_more (let_in vs ts b) h = (each_applies_more ts h.0, applies_more b h.1)
    node_applies_more (quant all vs b) h = applies_more b h
    node_applies_more (match_on t cs) h = (applies_more t h.0, cases_apply_more cs h.1)
    node_applies_more (ann b ns) h = (applies_more b h.0, notes_apply_more ns h.1)

    each_applies_more : (ts : Terms (Unit {0}) Sort) → EachAppliesBelow n ts → EachAppliesBelow top ts
    each_applies_more no_terms h = tt
    each_applies_more (more_terms t ts) h = (applies_more t h.0, each_applies_more ts h.1)

    cases_apply_more : (cs : Cases (Unit {0}) Sort) → CasesApplyBelow n cs → CasesApplyBelow top cs
    cases_apply_more no_cases h = tt
    cases_apply_more (more_cases p t cs) h = (applies_more t h.0, cases_apply_more cs h.1)

    notes_apply_more : (ns : Notes (Unit {0}) Sort) → NotesApplyBelow n ns → NotesApplyBelow top ns
    notes_apply_more no_notes h = tt
    notes_apply_more (more_notes m ms) h = (note_applies_more m h.0, notes_apply_more ms h.1)

    note_applies_more : (m : Note (Unit {0}) Sort) → NoteAppliesBelow n m → NoteAppliesBelow top m
    note_applies_more (named d name) h = tt
    note_applies_more (pattern ts) h = each_applies_more ts h
    note_applies_more (other k v) h = tt
