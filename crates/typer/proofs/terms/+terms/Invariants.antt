use Rattle.std.proofs.Common.{◌≡◌, ◌≤◌, ◌+◌, suc, map, [], None, Some}
use Rattle.std.specs.Option.{option_map}
use Rattle.sort_store.specs.Tree as sort_tree
use Rattle.typer.specs.MatchRules.{Instance, instance_of}
use Rattle.term_store.specs.Term.{plain_var, tree}
use Rattle.typer.specs.FunctionSymbols.{datatypes_of, signature_of}
use Rattle.typer.specs.Ready.{IsReady}
use Rattle.term_store.specs.Interned.{AreNotesInterned}
use Rattle.term_store.specs.NumberedNodes.{numbered_notes}
use Rattle.typer.specs.declared.typed.TypedBinding.{TypedBinding}
use Rattle.typer.specs.TermRules.{judge_bindings, judge_cases, judge_notes, judge_terms}
use Rattle.typer.specs.Typed.{AreTyped, AreTypedBindings, AreTypedCases, HasElaborated, binding_tree, case_trees, plain_note}
use Rattle.typer.proofs.ListSteps.{Leads, Onward}
use Rattle.typer.proofs.TermSteps.{size, sizes, bindings_size, cases_size, notes_size, note_size, left, bindings_left, cases_left, notes_left}
use Rattle.typer.proofs.terms.+terms.Given as goal

abbrev pub decreases-elaborate : goal.decreases-elaborate
decreases-elaborate l = size l.raw.now

abbrev pub decreases-elaborate_applied : goal.decreases-elaborate_applied
decreases-elaborate_applied l = suc (sizes l.args.now)

abbrev pub decreases-elaborate_all : goal.decreases-elaborate_all
decreases-elaborate_all l = sizes l.raws.now

abbrev pub invariant-elaborate_all-loop-next : goal.invariant-elaborate_all-loop-next
invariant-elaborate_all-loop-next l = record {
  onward : Onward (judge_terms (signature_of l.fn.world) (map plain_var l.vars)) l.raws (left l.next) (map tree l.typed.terms.items) l.fn.world.seen.items l.world.seen.items;
  typed : AreTyped l.world l.typed;
  grown : HasElaborated l.fn.world l.world;
  ready : IsReady l.world;
  smaller : sizes (left l.next) ≤ sizes l.raws;
}

abbrev pub decreases-elaborate_all-loop-next : goal.decreases-elaborate_all-loop-next
decreases-elaborate_all-loop-next l = sizes (left l.next)

abbrev pub decreases-elaborate_let : goal.decreases-elaborate_let
decreases-elaborate_let l = suc (bindings_size l.bindings.now + size l.body.now)

abbrev pub decreases-elaborate_quantifier : goal.decreases-elaborate_quantifier
decreases-elaborate_quantifier l = suc (size l.body.now)

abbrev pub decreases-elaborate_annotated : goal.decreases-elaborate_annotated
decreases-elaborate_annotated l = suc (size l.body.now + notes_size l.notes.now)

abbrev pub decreases-elaborate_bindings : goal.decreases-elaborate_bindings
decreases-elaborate_bindings l = bindings_size l.raws.now

abbrev pub decreases-elaborate_notes : goal.decreases-elaborate_notes
decreases-elaborate_notes l = notes_size l.raws.now

abbrev pub decreases-elaborate_note : goal.decreases-elaborate_note
decreases-elaborate_note l = note_size l.raw.now

abbrev pub invariant-elaborate_bindings-loop-next : goal.invariant-elaborate_bindings-loop-next
invariant-elaborate_bindings-loop-next l = record {
  onward : Leads (judge_bindings (signature_of l.fn.world) (map plain_var l.vars) [] l.raws)
      (judge_bindings (signature_of l.fn.world) (map plain_var l.vars) (map (λ (b : TypedBinding). b.name) l.bindings.items) (bindings_left l.next)) (map binding_tree l.bindings.items) l.fn.world.seen.items l.world.seen.items;
  typed : AreTypedBindings l.world l.bindings.items;
  grown : HasElaborated l.fn.world l.world;
  ready : IsReady l.world;
  smaller : bindings_size (bindings_left l.next) ≤ bindings_size l.raws;
}

abbrev pub decreases-elaborate_bindings-loop-next : goal.decreases-elaborate_bindings-loop-next
decreases-elaborate_bindings-loop-next l = bindings_size (bindings_left l.next)

abbrev pub invariant-elaborate_notes-loop-next : goal.invariant-elaborate_notes-loop-next
invariant-elaborate_notes-loop-next l = record {
  onward : Onward (judge_notes (signature_of l.fn.world) (map plain_var l.vars) (tree l.body)) l.raws (notes_left l.next) (map plain_note l.notes.items) l.fn.world.seen.items l.world.seen.items;
  interned : AreNotesInterned l.world.terms (numbered_notes l.notes.items);
  grown : HasElaborated l.fn.world l.world;
  ready : IsReady l.world;
  smaller : notes_size (notes_left l.next) ≤ notes_size l.raws;
}

abbrev pub decreases-elaborate_notes-loop-next : goal.decreases-elaborate_notes-loop-next
decreases-elaborate_notes-loop-next l = notes_size (notes_left l.next)

abbrev pub decreases-elaborate_match : goal.decreases-elaborate_match
decreases-elaborate_match l = suc (size l.of.now + cases_size l.cases.now)

abbrev pub decreases-elaborate_case : goal.decreases-elaborate_case
decreases-elaborate_case l = suc (size l.branch.now)

abbrev pub decreases-elaborate_cases : goal.decreases-elaborate_cases
decreases-elaborate_cases l = cases_size l.raws.now

abbrev pub invariant-elaborate_cases-loop-next : goal.invariant-elaborate_cases-loop-next
invariant-elaborate_cases-loop-next l = record {
  onward : (i : Instance) → instance_of (datatypes_of l.fn.world.script) (sort_tree.tree l.sort) ≡ Some i
      → Leads (judge_cases (signature_of l.fn.world) (map plain_var l.vars) i (sort_tree.tree l.sort) None l.raws)
      (judge_cases (signature_of l.fn.world) (map plain_var l.vars) i (sort_tree.tree l.sort) (option_map sort_tree.tree l.cases.sort) (cases_left l.next)) (case_trees l.cases) l.fn.world.seen.items l.world.seen.items;
  typed : AreTypedCases l.world l.cases;
  grown : HasElaborated l.fn.world l.world;
  ready : IsReady l.world;
  smaller : cases_size (cases_left l.next) ≤ cases_size l.raws;
}

abbrev pub decreases-elaborate_cases-loop-next : goal.decreases-elaborate_cases-loop-next
decreases-elaborate_cases-loop-next l = cases_size (cases_left l.next)
