use Rattle.std.proofs.Common.{◌≡◌, ◌==◌, ◌++◌, ◌∙◌, [], List, None, ap, arith, map, Ok, Err, refl, subst, sym}
use Rattle.std.proofs.lemmas.Result.{err_from_is_err_and}
use Rattle.std.specs.List.{list_any}
use Rattle.std.specs.Option.{IsSome, option_copied, option_map}
use Rattle.sort_store.specs.Interned as sorts
use Rattle.sort_store.specs.Tree as sort_tree
use Rattle.term_grammar.specs.Syntax.{annotated, let_in, term_at, with_note, with_term}
use Rattle.term_store.specs.Interned.{AreNotesInterned}
use Rattle.term_store.specs.NumberedNodes.{numbered_notes}
use Rattle.term_store.specs.Command.{plain_datatype}
use Rattle.term_store.specs.Term.{PlainTerm, plain_sort, plain_var, tree}
use Rattle.sig_table.specs.declared.code.Code.TheVariants.{WrongBranchSort, WrongTermSort}
use Rattle.typer.specs.Answers.{Answers, Meets, fault_at, note_answer, typed_answer}
use Rattle.typer.specs.FunctionSymbols.{datatypes_of, signature_of}
use Rattle.typer.specs.MatchRules.{Instance, IsBranchSort, instance_of, judge_typed_pattern, pattern_variables}
use Rattle.typer.specs.declared.typed.TypedBinding.{TypedBinding}
use Rattle.typer.specs.TermRules.{Case, annotated_term, bound_sort, identifier_of, judge_bindings, judge_case, judge_cases, judge_covered, judge_literal, judge_note, judge_notes, judge_quantifier, judge_constant, judge_term, judge_terms, judge_variables, let_term, quantified}
use Rattle.typer.specs.Typed.{AreBound, AreTypedBindings, binding_tree, bound_variable, case_tree, case_trees, plain_note}
use Rattle.typer.proofs.CaseSteps.{at_found, case_branch_fails, case_fails, case_is, case_of_other, case_step, copied_some, found_some, is_some_found, match_cases_fail, match_is, some_by, typed_cases_kept, typed_cases_push}
use Rattle.typer.proofs.BinderSteps.{annotated_fails, annotated_is, annotation_fails, any_name, binding_fails, binding_repeated, binding_step, inner_variables, let_bindings_fail, let_body_fails, let_is, named_is, other_is, pattern_fails, pattern_is, quantifier_body_fails, quantifier_is, quantifier_of_other, quantifier_variables, quantifier_variables_fail}
use Rattle.typer.proofs.ListSteps.{leads_end, part_step, part_fault, no_part}
use Rattle.typer.proofs.SymbolSteps.{applied_is, applied_fails, application_moved, asked_fails, body_moved, made_meets, moved}
use Rattle.typer.proofs.TermKinds.{of_annotated, of_constant, of_exists, of_forall, of_let, of_qualified}
use Rattle.typer.proofs.TermSteps.{sizes, bindings_size, cases_size, cases_left, cases_left_is, no_cases_left, notes_size, left, left_is, bindings_left, bindings_left_is, meets, notes_left, notes_left_is, joins_terms, joins_notes, none_left, no_bindings_left, no_notes_left}
use Rattle.typer.proofs.TypedSteps.{all_typed_kept, asked_grown, asked_kept, bindings_bound, bindings_kept, bindings_push, bound_append, bound_grown, bound_kept, elaborated_grown, elaborated_more, elaborated_signature, notes_kept, notes_push, same_script, same_seen, sort_kept, typed_kept, typed_push}
use Rattle.typer.proofs.terms.+terms.Goals as goal

-- terms in order

pub elaborate_all-elaborate-requires : goal.elaborate_all-elaborate-requires
elaborate_all-elaborate-requires t c =
    (omega (arith, c.decreases, c.loop-next.invariant.smaller, ap sizes (ap left c.in-Some.is)), (c.loop-next.invariant.ready, bound_kept c.args.world.now c.loop-next.world c.loop-next.invariant.grown c.args.vars.now c.requires.vars))

pub elaborate_all-returns-in_err-term-clause-answer :
    goal.elaborate_all-returns-in_err-term-clause-answer
elaborate_all-returns-in_err-term-clause-answer t c =
    let p = err_from_is_err_and c.from_residual.result c.from_residual.ensures.1 in
    let S = signature_of c.args.world.now in
    let V = map plain_var c.args.vars.now in
    let start = c.args.world.now.seen.items in
    let so_far = c.loop-next.world.seen.items in
    let after = c.elaborate.new.world.seen.items in
    rw (p.1, p.2) (
    part_fault tree with_term (judge_term S V) (judge_terms S V) (joins_terms S V)
    c.args.raws.now (left c.loop-next.next) c.in-Some.rest c.in-Some.first c.loop-next.typed.terms.items start so_far (ap left c.in-Some.is) c.loop-next.invariant.onward c.in_err-term.field-0.0 after after
    (moved (λ z. judge_term z V c.in-Some.first) (Err c.in_err-term.field-0.0) c.args.world.now c.loop-next.world so_far after c.loop-next.invariant.grown c.in_err-term.ensures.answer))

pub elaborate_all-loop-next-preserved : goal.elaborate_all-loop-next-preserved
elaborate_all-loop-next-preserved t c =
    let rest = left_is _ _ c.split-next-in-Some.ensures in
    let S = signature_of c.args.world.now in
    let V = map plain_var c.args.vars.now in
    let start = c.args.world.now.seen.items in
    let so_far = c.loop-next.world.seen.items in
    let after = c.elaborate.new.world.seen.items in
    record {
      onward = part_step tree with_term (judge_term S V) (judge_terms S V) (joins_terms S V) c.args.raws.now (left c.loop-next.next) c.in-Some.rest c.in-Some.first c.loop-next.typed.terms.items start so_far
          (ap left c.in-Some.is) c.loop-next.invariant.onward (left c.split-next-in-Some.result) c.push.new.self.terms.items c.in_ok-term.term.term after rest
          (moved (λ z. judge_term z V c.in-Some.first) (Ok (tree c.in_ok-term.term.term)) c.args.world.now c.loop-next.world so_far after c.loop-next.invariant.grown c.in_ok-term.ensures.answer) c.in_ok-push.ensures.terms;
      typed = typed_push c.elaborate.new.world c.loop-next.typed c.push.new.self c.in_ok-term.term
          (all_typed_kept c.loop-next.world c.elaborate.new.world c.in_ok-term.ensures.grown c.loop-next.typed c.loop-next.invariant.typed) c.in_ok-term.ensures.typed c.in_ok-push.ensures.terms c.in_ok-push.ensures.sorts;
      grown = elaborated_more c.args.world.now c.loop-next.world c.elaborate.new.world c.loop-next.invariant.grown c.in_ok-term.ensures.grown;
      ready = c.in_ok-term.ensures.ready;
      smaller = omega (arith, c.loop-next.invariant.smaller, ap sizes (ap left c.in-Some.is), ap sizes rest);
    }

pub elaborate_all-returns-clause-answer : goal.elaborate_all-returns-clause-answer
elaborate_all-returns-clause-answer t c =
    let S = signature_of c.args.world.now in
    let V = map plain_var c.args.vars.now in
    let so_far = c.loop-next.world.seen.items in
    no_part (judge_terms S V) c.args.raws.now (left c.loop-next.next) (map tree c.loop-next.typed.terms.items) c.args.world.now.seen.items so_far
    (none_left S V (left c.loop-next.next) (ap left c.in_default.is) so_far) c.loop-next.invariant.onward

-- a head with its arguments

pub elaborate_applied-returns-in_err-asked-clause-answer :
    goal.elaborate_applied-returns-in_err-asked-clause-answer
elaborate_applied-returns-in_err-asked-clause-answer t c =
    let p = err_from_is_err_and c.from_residual.result c.from_residual.ensures.1 in rw (p.1, p.2) (
    asked_fails (signature_of c.args.world.now) (map plain_var c.args.vars.now) c.args.at c.args.head.now c.args.args.now c.in_err-asked.field-0.0 c.args.world.now.seen.items c.asked_sort.new.world.seen.items c.in_err-asked.ensures.answer)

pub elaborate_applied-elaborate_all-requires : goal.elaborate_applied-elaborate_all-requires
elaborate_applied-elaborate_all-requires t c =
    (omega (arith, c.decreases), (c.in_ok-asked.ensures.ready, bound_grown c.args.world.now c.asked_sort.new.world c.in_ok-asked.ensures.grown c.args.vars.now c.requires.vars))

pub elaborate_applied-returns-in_err-args-clause-answer :
    goal.elaborate_applied-returns-in_err-args-clause-answer
elaborate_applied-returns-in_err-args-clause-answer t c =
    let p = err_from_is_err_and c.from_residual-in_err-args.result c.from_residual-in_err-args.ensures.1 in
    let S = signature_of c.args.world.now in
    let V = map plain_var c.args.vars.now in
    let before = c.args.world.now.seen.items in
    let after = c.elaborate_all.new.world.seen.items in
    rw (p.1, p.2) (
    applied_fails S V c.args.at c.args.head.now c.args.args.now (option_map sort_tree.tree c.in_ok-asked.asked) before c.in_ok-asked.ensures.answer c.in_err-args.field-0.0 after
    (moved (λ z. judge_terms z V c.args.args.now) (Err c.in_err-args.field-0.0) c.args.world.now c.asked_sort.new.world before after (elaborated_grown c.args.world.now c.asked_sort.new.world c.in_ok-asked.ensures.grown)
    (subst (λ z. Meets {A = List PlainTerm} (Err c.in_err-args.field-0.0) (judge_terms (signature_of c.asked_sort.new.world) V c.args.args.now) z after) (same_seen c.args.world.now c.asked_sort.new.world c.in_ok-asked.ensures.grown) c.in_err-args.ensures.answer)))

pub elaborate_applied-application-requires-clause-vars :
    goal.elaborate_applied-application-requires-clause-vars
elaborate_applied-application-requires-clause-vars t c =
    bound_kept c.asked_sort.new.world c.elaborate_all.new.world c.in_ok-args.ensures.grown c.args.vars.now (bound_grown c.args.world.now c.asked_sort.new.world c.in_ok-asked.ensures.grown c.args.vars.now c.requires.vars)

pub elaborate_applied-application-requires-clause-asked :
    goal.elaborate_applied-application-requires-clause-asked
elaborate_applied-application-requires-clause-asked t c = asked_kept c.asked_sort.new.world c.elaborate_all.new.world c.in_ok-args.ensures.grown c.in_ok-asked.asked c.in_ok-asked.ensures.interned

pub elaborate_applied-returns-clause-answer : goal.elaborate_applied-returns-clause-answer
elaborate_applied-returns-clause-answer t c =
    let S = signature_of c.args.world.now in
    let V = map plain_var c.args.vars.now in
    let before = c.args.world.now.seen.items in
    let between = c.elaborate_all.new.world.seen.items in
    let first = elaborated_grown c.args.world.now c.asked_sort.new.world c.in_ok-asked.ensures.grown in
    applied_is S V c.args.at c.args.head.now c.args.args.now (option_map sort_tree.tree c.in_ok-asked.asked) before c.in_ok-asked.ensures.answer (map tree c.in_ok-args.args.terms.items) (typed_answer c.application.result) between c.application.new.world.seen.items
    (moved (λ z. judge_terms z V c.args.args.now) (Ok (map tree c.in_ok-args.args.terms.items)) c.args.world.now c.asked_sort.new.world before between first
    (subst (λ z. Meets (Ok (map tree c.in_ok-args.args.terms.items)) (judge_terms (signature_of c.asked_sort.new.world) V c.args.args.now) z between) (same_seen c.args.world.now c.asked_sort.new.world c.in_ok-asked.ensures.grown) c.in_ok-args.ensures.answer))
    (same_seen c.elaborate_all.new.world c.application.new.world c.application.ensures.grown)
    (application_moved S (signature_of c.elaborate_all.new.world) V c.args.at c.args.at (map tree c.in_ok-args.args.terms.items) (map tree c.in_ok-args.args.terms.items)
    (option_map sort_tree.tree c.in_ok-asked.asked) (identifier_of c.args.head.now) c.identifier_of.result (typed_answer c.application.result)
    (elaborated_signature c.args.world.now c.elaborate_all.new.world (elaborated_more c.args.world.now c.asked_sort.new.world c.elaborate_all.new.world first c.in_ok-args.ensures.grown)) refl refl c.identifier_of.ensures c.application.ensures.answer)

-- a term, by its production

pub elaborate-returns-in-Constant-clause-answer : goal.elaborate-returns-in-Constant-clause-answer
elaborate-returns-in-Constant-clause-answer t c =
    let S = signature_of c.args.world.now in
    let V = map plain_var c.args.vars.now in
    let r = typed_answer c.literal.result in
    let before = c.args.world.now.seen.items in
    let after = c.literal.new.world.seen.items in
    of_constant (λ z. Meets r (judge_term S V z) before after) c.args.raw.now c.in-Constant.tok c.in-Constant.ensures
    (meets r (judge_literal S c.in-Constant.tok) before after (same_seen c.args.world.now c.literal.new.world c.literal.ensures.grown) c.literal.ensures.answer)

pub elaborate-returns-in-Qualified-clause-answer : goal.elaborate-returns-in-Qualified-clause-answer
elaborate-returns-in-Qualified-clause-answer t c =
    let S = signature_of c.args.world.now in
    let V = map plain_var c.args.vars.now in
    let r = typed_answer c.constant.result in
    let before = c.args.world.now.seen.items in
    let after = c.constant.new.world.seen.items in
    of_qualified (λ z. Meets r (judge_term S V z) before after) c.args.raw.now c.in-Qualified.head c.in-Qualified.ensures
    (meets r (judge_constant S V c.in-Qualified.head) before after (same_seen c.args.world.now c.constant.new.world c.constant.ensures.grown) c.constant.ensures.answer)

pub elaborate-returns-in-Let-clause-answer : goal.elaborate-returns-in-Let-clause-answer
elaborate-returns-in-Let-clause-answer t c =
    of_let (λ z. Meets (typed_answer c.elaborate_let.result) (judge_term (signature_of c.args.world.now) (map plain_var c.args.vars.now) z) c.args.world.now.seen.items c.elaborate_let.new.world.seen.items)
    c.args.raw.now c.in-Let.bindings c.in-Let.body c.in-Let.ensures c.elaborate_let.ensures.answer

pub elaborate-returns-in-Forall-clause-answer : goal.elaborate-returns-in-Forall-clause-answer
elaborate-returns-in-Forall-clause-answer t c =
    of_forall (λ z. Meets (typed_answer c.elaborate_quantifier.result) (judge_term (signature_of c.args.world.now) (map plain_var c.args.vars.now) z) c.args.world.now.seen.items c.elaborate_quantifier.new.world.seen.items)
    c.args.raw.now c.in-Forall.variables c.in-Forall.body c.in-Forall.ensures (λ at. c.elaborate_quantifier.ensures.answer)

pub elaborate-returns-in-Exists-clause-answer : goal.elaborate-returns-in-Exists-clause-answer
elaborate-returns-in-Exists-clause-answer t c =
    of_exists (λ z. Meets (typed_answer c.elaborate_quantifier-in-Exists.result) (judge_term (signature_of c.args.world.now) (map plain_var c.args.vars.now) z) c.args.world.now.seen.items c.elaborate_quantifier-in-Exists.new.world.seen.items)
    c.args.raw.now c.in-Exists.variables c.in-Exists.body c.in-Exists.ensures (λ at. c.elaborate_quantifier-in-Exists.ensures.answer)

pub elaborate-returns-in-Annotated-clause-answer : goal.elaborate-returns-in-Annotated-clause-answer
elaborate-returns-in-Annotated-clause-answer t c =
    of_annotated (λ z. Meets (typed_answer c.elaborate_annotated.result) (judge_term (signature_of c.args.world.now) (map plain_var c.args.vars.now) z) c.args.world.now.seen.items c.elaborate_annotated.new.world.seen.items)
    c.args.raw.now c.in-Annotated.term c.in-Annotated.notes c.in-Annotated.ensures c.elaborate_annotated.ensures.answer

-- a term with attributes

pub elaborate_annotated-returns-in_err-body-clause-answer :
    goal.elaborate_annotated-returns-in_err-body-clause-answer
elaborate_annotated-returns-in_err-body-clause-answer t c =
    let p = err_from_is_err_and c.from_residual.result c.from_residual.ensures.1 in rw (p.1, p.2) (λ at.
    annotated_fails (signature_of c.args.world.now) (map plain_var c.args.vars.now) at c.args.body.now c.args.notes.now c.args.world.now.seen.items c.in_err-body.field-0.0 c.elaborate.new.world.seen.items c.elaborate.new.world.seen.items c.in_err-body.ensures.answer)

pub elaborate_annotated-elaborate_notes-requires : goal.elaborate_annotated-elaborate_notes-requires
elaborate_annotated-elaborate_notes-requires t c =
    (omega (arith, c.decreases), (c.in_ok-body.ensures.ready, bound_kept c.args.world.now c.elaborate.new.world c.in_ok-body.ensures.grown c.args.vars.now c.requires.vars))

pub elaborate_annotated-returns-in_err-notes-clause-answer :
    goal.elaborate_annotated-returns-in_err-notes-clause-answer
elaborate_annotated-returns-in_err-notes-clause-answer t c =
    let p = err_from_is_err_and c.from_residual-in_err-notes.result c.from_residual-in_err-notes.ensures.1 in
    let S = signature_of c.args.world.now in
    let V = map plain_var c.args.vars.now in
    let between = c.elaborate.new.world.seen.items in
    let after = c.elaborate_notes.new.world.seen.items in
    rw (p.1, p.2) (λ at.
    annotation_fails S V at c.args.body.now c.args.notes.now c.args.world.now.seen.items (tree c.in_ok-body.body.term) c.in_err-notes.field-0.0 between after c.in_ok-body.ensures.answer
    (moved (λ z. judge_notes z V (tree c.in_ok-body.body.term) c.args.notes.now) (Err c.in_err-notes.field-0.0) c.args.world.now c.elaborate.new.world between after c.in_ok-body.ensures.grown c.in_err-notes.ensures.answer))

pub elaborate_annotated-new_annotation-requires-clause-body :
    goal.elaborate_annotated-new_annotation-requires-clause-body
elaborate_annotated-new_annotation-requires-clause-body t c = typed_kept c.elaborate.new.world c.elaborate_notes.new.world c.in_ok-notes.ensures.grown c.in_ok-body.body c.in_ok-body.ensures.typed

pub elaborate_annotated-returns-clause-answer : goal.elaborate_annotated-returns-clause-answer
elaborate_annotated-returns-clause-answer t c =
    let S = signature_of c.args.world.now in
    let V = map plain_var c.args.vars.now in
    let before = c.args.world.now.seen.items in
    let between = c.elaborate.new.world.seen.items in
    let after = c.elaborate_notes.new.world.seen.items in
    λ at.
    made_meets c.new_annotation.result (annotated_term (tree c.in_ok-body.body.term) (map plain_note c.in_ok-notes.notes.items)) (judge_term S V (annotated at c.args.body.now c.args.notes.now)) before after c.new_annotation.new.world.seen.items
    c.new_annotation.ensures.term c.new_annotation.ensures.err (same_seen c.elaborate_notes.new.world c.new_annotation.new.world c.new_annotation.ensures.grown)
    (annotated_is S V at c.args.body.now c.args.notes.now before (tree c.in_ok-body.body.term) (map plain_note c.in_ok-notes.notes.items) between after c.in_ok-body.ensures.answer
    (moved (λ z. judge_notes z V (tree c.in_ok-body.body.term) c.args.notes.now) (Ok (map plain_note c.in_ok-notes.notes.items)) c.args.world.now c.elaborate.new.world between after c.in_ok-body.ensures.grown c.in_ok-notes.ensures.answer))

-- the bindings of a let

pub elaborate_bindings-returns-then-is_repeated-clause-answer :
    goal.elaborate_bindings-returns-then-is_repeated-clause-answer
elaborate_bindings-returns-then-is_repeated-clause-answer t c =
    let bs = c.loop-next.bindings.items in
    let x = c.in-Some.first.name in
    let so_far = c.loop-next.world.seen.items in
    rw c.fault.ensures (binding_repeated (signature_of c.args.world.now) (map plain_var c.args.vars.now) c.args.raws.now (bindings_left c.loop-next.next) c.in-Some.rest c.in-Some.first.at x c.in-Some.first.term bs c.args.world.now.seen.items so_far
    (ap bindings_left c.in-Some.is) c.loop-next.invariant.onward so_far
    (sym (any_name bs x.name) ∙ ap (λ (z : List TypedBinding). list_any (λ b. b.name == x.name) z) (sym c.deref.ensures.value) ∙ sym c.if-is_repeated.ensures))

pub elaborate_bindings-elaborate-requires : goal.elaborate_bindings-elaborate-requires
elaborate_bindings-elaborate-requires t c =
    (omega (arith, c.decreases, c.loop-next.invariant.smaller, ap bindings_size (ap bindings_left c.in-Some.is)), (c.loop-next.invariant.ready, bound_kept c.args.world.now c.loop-next.world c.loop-next.invariant.grown c.args.vars.now c.requires.vars))

pub elaborate_bindings-returns-in_err-value-clause-answer :
    goal.elaborate_bindings-returns-in_err-value-clause-answer
elaborate_bindings-returns-in_err-value-clause-answer t c =
    let bs = c.loop-next.bindings.items in
    let x = c.in-Some.first.name in
    let V = map plain_var c.args.vars.now in
    let so_far = c.loop-next.world.seen.items in
    let after = c.elaborate.new.world.seen.items in
    let p = err_from_is_err_and c.from_residual.result c.from_residual.ensures.1 in rw (p.1, p.2) (
    binding_fails (signature_of c.args.world.now) V c.args.raws.now (bindings_left c.loop-next.next) c.in-Some.rest c.in-Some.first.at x c.in-Some.first.term bs c.args.world.now.seen.items so_far
    (ap bindings_left c.in-Some.is) c.loop-next.invariant.onward c.in_err-value.field-0.0 after after
    (sym (any_name bs x.name) ∙ ap (λ (z : List TypedBinding). list_any (λ b. b.name == x.name) z) (sym c.deref.ensures.value) ∙ sym c.if-is_repeated.ensures)
    (moved (λ z. judge_term z V c.in-Some.first.term) (Err c.in_err-value.field-0.0) c.args.world.now c.loop-next.world so_far after c.loop-next.invariant.grown c.in_err-value.ensures.answer))

pub elaborate_bindings-loop-next-preserved : goal.elaborate_bindings-loop-next-preserved
elaborate_bindings-loop-next-preserved t c =
    let bs = c.loop-next.bindings.items in
    let x = c.in-Some.first.name in
    let V = map plain_var c.args.vars.now in
    let so_far = c.loop-next.world.seen.items in
    let after = c.elaborate.new.world.seen.items in
    let rest = bindings_left_is _ _ c.split-next-in-Some.ensures in
    record {
      onward = binding_step (signature_of c.args.world.now) V c.args.raws.now (bindings_left c.loop-next.next) c.in-Some.rest c.in-Some.first.at x c.in-Some.first.term bs c.args.world.now.seen.items so_far
          (ap bindings_left c.in-Some.is) c.loop-next.invariant.onward
          (bindings_left c.split-next-in-Some.result) c.push.new.self.items (record { name = x.name; value = c.in_ok-value.value }) after rest refl
          (sym (any_name bs x.name) ∙ ap (λ (z : List TypedBinding). list_any (λ b. b.name == x.name) z) (sym c.deref.ensures.value) ∙ sym c.if-is_repeated.ensures)
          (moved (λ z. judge_term z V c.in-Some.first.term) (Ok (tree c.in_ok-value.value.term)) c.args.world.now c.loop-next.world so_far after c.loop-next.invariant.grown c.in_ok-value.ensures.answer) c.in-Ok.ensures.items;
      typed = subst (AreTypedBindings c.elaborate.new.world) (sym c.in-Ok.ensures.items)
          (bindings_push c.elaborate.new.world bs (record { name = x.name; value = c.in_ok-value.value }) (bindings_kept c.loop-next.world c.elaborate.new.world c.in_ok-value.ensures.grown bs c.loop-next.invariant.typed) c.in_ok-value.ensures.typed);
      grown = elaborated_more c.args.world.now c.loop-next.world c.elaborate.new.world c.loop-next.invariant.grown c.in_ok-value.ensures.grown;
      ready = c.in_ok-value.ensures.ready;
      smaller = omega (arith, c.loop-next.invariant.smaller, ap bindings_size (ap bindings_left c.in-Some.is), ap bindings_size rest);
    }

pub elaborate_bindings-returns-clause-answer : goal.elaborate_bindings-returns-clause-answer
elaborate_bindings-returns-clause-answer t c =
    let names = map (λ (b : TypedBinding). b.name) c.loop-next.bindings.items in
    let S = signature_of c.args.world.now in
    let V = map plain_var c.args.vars.now in
    let so_far = c.loop-next.world.seen.items in
    leads_end (judge_bindings S V [] c.args.raws.now) (judge_bindings S V names (bindings_left c.loop-next.next)) (map binding_tree c.loop-next.bindings.items) c.args.world.now.seen.items so_far
    (no_bindings_left S V names (bindings_left c.loop-next.next) (ap bindings_left c.in_default.is) so_far) c.loop-next.invariant.onward

-- the attributes of a term

pub elaborate_note-returns-in-Named-clause-answer : goal.elaborate_note-returns-in-Named-clause-answer
elaborate_note-returns-in-Named-clause-answer t c =
    named_is (signature_of c.args.world.now) (map plain_var c.args.vars.now) (tree c.args.body.now) c.args.world.now.seen.items c.name_term.new.world.seen.items c.args.raw.now c.in-Named.name (note_answer c.name_term.result) c.in-Named.ensures c.name_term.ensures.answer

pub elaborate_note-returns-in-Ok-clause-answer : goal.elaborate_note-returns-in-Ok-clause-answer
elaborate_note-returns-in-Ok-clause-answer t c =
    pattern_is (signature_of c.args.world.now) (map plain_var c.args.vars.now) (tree c.args.body.now) c.args.world.now.seen.items c.elaborate_all.new.world.seen.items c.args.raw.now c.in-Pattern.terms c.in-Ok.typed.terms c.in-Pattern.ensures c.in-Ok.ensures.answer

pub elaborate_note-returns-in-Err-clause-answer : goal.elaborate_note-returns-in-Err-clause-answer
elaborate_note-returns-in-Err-clause-answer t c =
    pattern_fails (signature_of c.args.world.now) (map plain_var c.args.vars.now) (tree c.args.body.now) c.args.world.now.seen.items c.elaborate_all.new.world.seen.items c.args.raw.now c.in-Pattern.terms c.in-Err.error c.in-Pattern.ensures c.in-Err.ensures.answer

pub elaborate_note-returns-in-Attribute-clause-answer : goal.elaborate_note-returns-in-Attribute-clause-answer
elaborate_note-returns-in-Attribute-clause-answer t c =
    other_is (signature_of c.args.world.now) (map plain_var c.args.vars.now) (tree c.args.body.now) c.args.world.now.seen.items c.args.world.now.seen.items c.args.raw.now c.in-Attribute.attribute c.other_note.result c.in-Attribute.ensures refl c.other_note.ensures.ok c.other_note.ensures.err

pub elaborate_notes-elaborate_note-requires : goal.elaborate_notes-elaborate_note-requires
elaborate_notes-elaborate_note-requires t c =
    (omega (arith, c.decreases, c.loop-next.invariant.smaller, ap notes_size (ap notes_left c.in-Some.is)), (c.loop-next.invariant.ready, bound_kept c.args.world.now c.loop-next.world c.loop-next.invariant.grown c.args.vars.now c.requires.vars))

pub elaborate_notes-returns-in_err-note-clause-answer :
    goal.elaborate_notes-returns-in_err-note-clause-answer
elaborate_notes-returns-in_err-note-clause-answer t c =
    let p = err_from_is_err_and c.from_residual.result c.from_residual.ensures.1 in
    let S = signature_of c.args.world.now in
    let V = map plain_var c.args.vars.now in
    let body = tree c.args.body.now in
    let so_far = c.loop-next.world.seen.items in
    let after = c.elaborate_note.new.world.seen.items in
    rw (p.1, p.2) (
    part_fault plain_note with_note (judge_note S V body) (judge_notes S V body) (joins_notes S V body)
    c.args.raws.now (notes_left c.loop-next.next) c.in-Some.rest c.in-Some.first c.loop-next.notes.items c.args.world.now.seen.items so_far (ap notes_left c.in-Some.is) c.loop-next.invariant.onward c.in_err-note.field-0.0 after after
    (moved (λ z. judge_note z V body c.in-Some.first) (Err c.in_err-note.field-0.0) c.args.world.now c.loop-next.world so_far after c.loop-next.invariant.grown c.in_err-note.ensures.answer))

pub elaborate_notes-loop-next-preserved : goal.elaborate_notes-loop-next-preserved
elaborate_notes-loop-next-preserved t c =
    let rest = notes_left_is _ _ c.split-next-in-Some.ensures in
    let S = signature_of c.args.world.now in
    let V = map plain_var c.args.vars.now in
    let body = tree c.args.body.now in
    let so_far = c.loop-next.world.seen.items in
    let after = c.elaborate_note.new.world.seen.items in
    record {
      onward = part_step plain_note with_note (judge_note S V body) (judge_notes S V body) (joins_notes S V body)
          c.args.raws.now (notes_left c.loop-next.next) c.in-Some.rest c.in-Some.first c.loop-next.notes.items c.args.world.now.seen.items so_far (ap notes_left c.in-Some.is) c.loop-next.invariant.onward
          (notes_left c.split-next-in-Some.result) c.push.new.self.items c.in_ok-note.note after rest
          (moved (λ z. judge_note z V body c.in-Some.first) (Ok (plain_note c.in_ok-note.note)) c.args.world.now c.loop-next.world so_far after c.loop-next.invariant.grown c.in_ok-note.ensures.answer) c.in-Ok.ensures.items;
      interned = subst (λ z. AreNotesInterned c.elaborate_note.new.world.terms (numbered_notes z)) (sym c.in-Ok.ensures.items)
          (notes_push c.elaborate_note.new.world.terms c.loop-next.notes.items c.in_ok-note.note (notes_kept c.loop-next.world c.elaborate_note.new.world c.in_ok-note.ensures.grown (numbered_notes c.loop-next.notes.items) c.loop-next.invariant.interned)
          c.in_ok-note.ensures.interned);
      grown = elaborated_more c.args.world.now c.loop-next.world c.elaborate_note.new.world c.loop-next.invariant.grown c.in_ok-note.ensures.grown;
      ready = c.in_ok-note.ensures.ready;
      smaller = omega (arith, c.loop-next.invariant.smaller, ap notes_size (ap notes_left c.in-Some.is), ap notes_size rest);
    }

pub elaborate_notes-returns-clause-answer : goal.elaborate_notes-returns-clause-answer
elaborate_notes-returns-clause-answer t c =
    let S = signature_of c.args.world.now in
    let V = map plain_var c.args.vars.now in
    let body = tree c.args.body.now in
    let so_far = c.loop-next.world.seen.items in
    no_part (judge_notes S V body) c.args.raws.now (notes_left c.loop-next.next) (map plain_note c.loop-next.notes.items) c.args.world.now.seen.items so_far
    (no_notes_left S V body (notes_left c.loop-next.next) (ap notes_left c.in_default.is) so_far) c.loop-next.invariant.onward

-- a let

pub elaborate_let-returns-in_err-bindings-clause-answer :
    goal.elaborate_let-returns-in_err-bindings-clause-answer
elaborate_let-returns-in_err-bindings-clause-answer t c =
    let p = err_from_is_err_and c.from_residual.result c.from_residual.ensures.1 in rw (p.1, p.2) (λ at.
    let_bindings_fail (signature_of c.args.world.now) (map plain_var c.args.vars.now) at c.args.bindings.now c.args.body.now c.args.world.now.seen.items c.in_err-bindings.field-0.0 c.elaborate_bindings.new.world.seen.items c.elaborate_bindings.new.world.seen.items
    c.in_err-bindings.ensures.answer)

pub elaborate_let-elaborate-requires : goal.elaborate_let-elaborate-requires
elaborate_let-elaborate-requires t c = (
  omega (arith, c.decreases),
  (
    c.in_ok-bindings.ensures.ready,
    subst (AreBound c.elaborate_bindings.new.world) (sym (c.deref-2.ensures.value ∙ c.in_ok-inner.ensures.ok ∙ ap (λ z. c.args.vars.now ++ map bound_variable z) c.deref.ensures.value))
        (bound_append c.elaborate_bindings.new.world c.args.vars.now (map bound_variable c.in_ok-bindings.bindings.items) (bound_kept c.args.world.now c.elaborate_bindings.new.world c.in_ok-bindings.ensures.grown c.args.vars.now c.requires.vars) (bindings_bound c.elaborate_bindings.new.world c.in_ok-bindings.bindings.items c.in_ok-bindings.ensures.typed)),
  ),
)

pub elaborate_let-returns-in_err-body-clause-answer :
    goal.elaborate_let-returns-in_err-body-clause-answer
elaborate_let-returns-in_err-body-clause-answer t c =
    let p = err_from_is_err_and c.from_residual-in_err-body.result c.from_residual-in_err-body.ensures.1 in
    let V = map plain_var c.args.vars.now in
    let cs = map binding_tree c.in_ok-bindings.bindings.items in
    let between = c.elaborate_bindings.new.world.seen.items in
    let after = c.elaborate.new.world.seen.items in
    rw (p.1, p.2) (λ at.
    let_body_fails (signature_of c.args.world.now) V at c.args.bindings.now c.args.body.now c.args.world.now.seen.items cs c.in_err-body.field-0.0 between after c.in_ok-bindings.ensures.answer
    (body_moved c.args.world.now c.elaborate_bindings.new.world (V ++ map bound_sort cs) (map plain_var c.deref-2.result.now) c.args.body.now (Err c.in_err-body.field-0.0) between after c.in_ok-bindings.ensures.grown
    (inner_variables c.elaborate_bindings.new.world c.args.vars.now c.deref-2.result.now c.in_ok-bindings.bindings.items c.in_ok-bindings.ensures.typed (c.deref-2.ensures.value ∙ c.in_ok-inner.ensures.ok ∙ ap (λ z. c.args.vars.now ++ map bound_variable z) c.deref.ensures.value)) c.in_err-body.ensures.answer))

pub elaborate_let-new_let-requires-clause-bindings : goal.elaborate_let-new_let-requires-clause-bindings
elaborate_let-new_let-requires-clause-bindings t c =
    subst (AreTypedBindings c.elaborate.new.world) (sym c.deref-3.ensures.value) (bindings_kept c.elaborate_bindings.new.world c.elaborate.new.world c.in_ok-body.ensures.grown c.in_ok-bindings.bindings.items c.in_ok-bindings.ensures.typed)

pub elaborate_let-returns-clause-answer : goal.elaborate_let-returns-clause-answer
elaborate_let-returns-clause-answer t c =
    let S = signature_of c.args.world.now in
    let V = map plain_var c.args.vars.now in
    let cs = map binding_tree c.in_ok-bindings.bindings.items in
    let v = tree c.in_ok-body.body.term in
    let before = c.args.world.now.seen.items in
    let between = c.elaborate_bindings.new.world.seen.items in
    let after = c.elaborate.new.world.seen.items in
    λ at.
    made_meets c.new_let.result (let_term (map binding_tree c.deref-3.result.now) v) (judge_term S V (let_in at c.args.bindings.now c.args.body.now)) before after c.new_let.new.world.seen.items c.new_let.ensures.term c.new_let.ensures.err
    (same_seen c.elaborate.new.world c.new_let.new.world c.new_let.ensures.grown)
    (subst (λ z. Meets (Ok (let_term (map binding_tree z) v)) (judge_term S V (let_in at c.args.bindings.now c.args.body.now)) before after) (sym c.deref-3.ensures.value)
    (let_is S V at c.args.bindings.now c.args.body.now before cs v between after c.in_ok-bindings.ensures.answer
    (body_moved c.args.world.now c.elaborate_bindings.new.world (V ++ map bound_sort cs) (map plain_var c.deref-2.result.now) c.args.body.now (Ok v) between after c.in_ok-bindings.ensures.grown
    (inner_variables c.elaborate_bindings.new.world c.args.vars.now c.deref-2.result.now c.in_ok-bindings.bindings.items c.in_ok-bindings.ensures.typed (c.deref-2.ensures.value ∙ c.in_ok-inner.ensures.ok ∙ ap (λ z. c.args.vars.now ++ map bound_variable z) c.deref.ensures.value)) c.in_ok-body.ensures.answer)))

-- a quantifier

pub elaborate_quantifier-returns-in_err-own-clause-answer :
    goal.elaborate_quantifier-returns-in_err-own-clause-answer
elaborate_quantifier-returns-in_err-own-clause-answer t c =
    let p = err_from_is_err_and c.from_residual.result c.from_residual.ensures.1 in
    let S = signature_of c.args.world.now in
    rw (p.1, p.2) (
    quantifier_variables_fail c.args.all (term_at c.args.body.now) (judge_variables S c.args.variables.now) (λ own. judge_term S (map plain_var c.args.vars.now ++ own) c.args.body.now) c.args.world.now.seen.items c.in_err-own.field-0.0 c.type_variables.new.world.seen.items
    c.in_err-own.ensures.answer)

pub elaborate_quantifier-elaborate-requires : goal.elaborate_quantifier-elaborate-requires
elaborate_quantifier-elaborate-requires t c = (
  omega (arith, c.decreases),
  (
    c.in_ok-own.ensures.ready,
    subst (AreBound c.type_variables.new.world) (sym (c.deref-2.ensures.value ∙ c.in_ok-inner.ensures.ok ∙ ap (λ z. c.args.vars.now ++ z) c.deref.ensures.value))
        (bound_append c.type_variables.new.world c.args.vars.now c.in_ok-own.own.items (bound_grown c.args.world.now c.type_variables.new.world c.in_ok-own.ensures.grown c.args.vars.now c.requires.vars) c.in_ok-own.ensures.bound),
  ),
)

pub elaborate_quantifier-returns-in_err-typed-clause-answer :
    goal.elaborate_quantifier-returns-in_err-typed-clause-answer
elaborate_quantifier-returns-in_err-typed-clause-answer t c =
    let p = err_from_is_err_and c.from_residual-in_err-typed.result c.from_residual-in_err-typed.ensures.1 in
    let S = signature_of c.args.world.now in
    let V = map plain_var c.args.vars.now in
    let own = map plain_var c.in_ok-own.own.items in
    let before = c.args.world.now.seen.items in
    let after = c.elaborate.new.world.seen.items in
    rw (p.1, p.2) (
    quantifier_body_fails c.args.all (term_at c.args.body.now) (judge_variables S c.args.variables.now) (λ own. judge_term S (V ++ own) c.args.body.now) before own after c.in_ok-own.ensures.answer c.in_err-typed.field-0.0
    (body_moved c.args.world.now c.type_variables.new.world (V ++ own) (map plain_var c.deref-2.result.now) c.args.body.now (Err c.in_err-typed.field-0.0) before after (elaborated_grown c.args.world.now c.type_variables.new.world c.in_ok-own.ensures.grown)
    (quantifier_variables c.args.vars.now c.in_ok-own.own.items c.deref-2.result.now (c.deref-2.ensures.value ∙ c.in_ok-inner.ensures.ok ∙ ap (λ z. c.args.vars.now ++ z) c.deref.ensures.value))
    (subst (λ z. Meets {A = PlainTerm} (Err c.in_err-typed.field-0.0) (judge_term (signature_of c.type_variables.new.world) (map plain_var c.deref-2.result.now) c.args.body.now) z after) (same_seen c.args.world.now c.type_variables.new.world c.in_ok-own.ensures.grown)
    c.in_err-typed.ensures.answer)))

pub elaborate_quantifier-returns-then-not-is_bool-clause-answer :
    goal.elaborate_quantifier-returns-then-not-is_bool-clause-answer
elaborate_quantifier-returns-then-not-is_bool-clause-answer t c =
    let S = signature_of c.args.world.now in
    let V = map plain_var c.args.vars.now in
    let own = map plain_var c.in_ok-own.own.items in
    let u = tree c.in_ok-typed.typed.term in
    let before = c.args.world.now.seen.items in
    let after = c.elaborate.new.world.seen.items in
    rw c.fault.ensures (subst (λ z. Meets {A = PlainTerm} (Err (fault_at WrongTermSort z)) (judge_quantifier c.args.all (term_at c.args.body.now) (judge_variables S c.args.variables.now) (λ own. judge_term S (V ++ own) c.args.body.now)) before after) (sym c.at.ensures)
    (quantifier_of_other c.args.all (term_at c.args.body.now) (judge_variables S c.args.variables.now) (λ own. judge_term S (V ++ own) c.args.body.now) before own after c.in_ok-own.ensures.answer u
    (body_moved c.args.world.now c.type_variables.new.world (V ++ own) (map plain_var c.deref-2.result.now) c.args.body.now (Ok u) before after (elaborated_grown c.args.world.now c.type_variables.new.world c.in_ok-own.ensures.grown)
    (quantifier_variables c.args.vars.now c.in_ok-own.own.items c.deref-2.result.now (c.deref-2.ensures.value ∙ c.in_ok-inner.ensures.ok ∙ ap (λ z. c.args.vars.now ++ z) c.deref.ensures.value))
    (subst (λ z. Meets (Ok u) (judge_term (signature_of c.type_variables.new.world) (map plain_var c.deref-2.result.now) c.args.body.now) z after) (same_seen c.args.world.now c.type_variables.new.world c.in_ok-own.ensures.grown) c.in_ok-typed.ensures.answer))
    (λ e. (let z = c.if-not-is_bool.ensures.1 (c.in_ok-typed.ensures.typed.same ∙ e) in cc))))

pub elaborate_quantifier-returns-clause-answer : goal.elaborate_quantifier-returns-clause-answer
elaborate_quantifier-returns-clause-answer t c =
    let S = signature_of c.args.world.now in
    let V = map plain_var c.args.vars.now in
    let own = map plain_var c.in_ok-own.own.items in
    let u = tree c.in_ok-typed.typed.term in
    let before = c.args.world.now.seen.items in
    let after = c.elaborate.new.world.seen.items in
    made_meets c.new_quantifier.result (quantified c.args.all own u) (judge_quantifier c.args.all (term_at c.args.body.now) (judge_variables S c.args.variables.now) (λ own. judge_term S (V ++ own) c.args.body.now)) before after
    c.new_quantifier.new.world.seen.items c.new_quantifier.ensures.term c.new_quantifier.ensures.err (same_seen c.elaborate.new.world c.new_quantifier.new.world c.new_quantifier.ensures.grown)
    (quantifier_is c.args.all (term_at c.args.body.now) (judge_variables S c.args.variables.now) (λ own. judge_term S (V ++ own) c.args.body.now) before own after c.in_ok-own.ensures.answer u
    (body_moved c.args.world.now c.type_variables.new.world (V ++ own) (map plain_var c.deref-2.result.now) c.args.body.now (Ok u) before after (elaborated_grown c.args.world.now c.type_variables.new.world c.in_ok-own.ensures.grown)
    (quantifier_variables c.args.vars.now c.in_ok-own.own.items c.deref-2.result.now (c.deref-2.ensures.value ∙ c.in_ok-inner.ensures.ok ∙ ap (λ z. c.args.vars.now ++ z) c.deref.ensures.value))
    (subst (λ z. Meets (Ok u) (judge_term (signature_of c.type_variables.new.world) (map plain_var c.deref-2.result.now) c.args.body.now) z after) (same_seen c.args.world.now c.type_variables.new.world c.in_ok-own.ensures.grown) c.in_ok-typed.ensures.answer))
    (sym c.in_ok-typed.ensures.typed.same ∙ c.if-not-is_bool.ensures.0 refl))

-- a case of a match

pub elaborate_case-elaborate-requires : goal.elaborate_case-elaborate-requires
elaborate_case-elaborate-requires t c = (
  omega (arith, c.decreases),
  (
    c.in_ok-typed.ensures.ready,
    subst (AreBound c.typed_pattern.new.world) (sym (c.deref-2.ensures.value ∙ c.in_ok-inner.ensures.ok ∙ ap (λ z. c.args.vars.now ++ z) c.deref.ensures.value))
        (bound_append c.typed_pattern.new.world c.args.vars.now c.in_ok-typed.typed.variables.items (bound_grown c.args.world.now c.typed_pattern.new.world c.in_ok-typed.ensures.grown c.args.vars.now c.requires.vars) c.in_ok-typed.ensures.bound),
  ),
)

pub elaborate_case-returns-in_err-value-clause-answer : goal.elaborate_case-returns-in_err-value-clause-answer
elaborate_case-returns-in_err-value-clause-answer t c =
    let p = err_from_is_err_and c.from_residual-in_err-value.result c.from_residual-in_err-value.ensures.1 in
    let S = signature_of c.args.world.now in
    let V = map plain_var c.args.vars.now in
    let s = sort_tree.tree c.args.sort.now in
    let o = instance_of (datatypes_of c.args.world.now.script) s in
    let F = option_map sort_tree.tree c.args.first.now in
    let before = c.args.world.now.seen.items in
    let after = c.elaborate.new.world.seen.items in
    rw (p.1, p.2) (
    some_by o (λ i. Meets {A = Case} (Err c.in_err-value.field-0.0) (judge_case i s F c.args.pattern (term_at c.args.branch.now) (λ own. judge_term S (V ++ own) c.args.branch.now)) before after)
    (λ i e.
    case_branch_fails i s F c.args.pattern (term_at c.args.branch.now) (λ own. judge_term S (V ++ own) c.args.branch.now) before c.in_ok-typed.typed.pattern before after
    (meets (Ok c.in_ok-typed.typed.pattern) (judge_typed_pattern i c.args.pattern) before before refl (at_found o (λ j. Answers (Ok c.in_ok-typed.typed.pattern) (judge_typed_pattern j c.args.pattern)) i e c.in_ok-typed.ensures.answer))
    c.in_err-value.field-0.0
    (body_moved c.args.world.now c.typed_pattern.new.world (V ++ pattern_variables i s c.in_ok-typed.typed.pattern) (map plain_var c.deref-2.result.now) c.args.branch.now (Err c.in_err-value.field-0.0) before after
    (elaborated_grown c.args.world.now c.typed_pattern.new.world c.in_ok-typed.ensures.grown)
    (quantifier_variables c.args.vars.now c.in_ok-typed.typed.variables.items c.deref-2.result.now (c.deref-2.ensures.value ∙ c.in_ok-inner.ensures.ok ∙ ap (λ z. c.args.vars.now ++ z) c.deref.ensures.value)
    ∙ ap (λ z. V ++ z) (at_found o (λ j. map plain_var c.in_ok-typed.typed.variables.items ≡ pattern_variables j s c.in_ok-typed.typed.pattern) i e c.in_ok-typed.ensures.variables))
    (subst (λ z. Meets {A = PlainTerm} (Err c.in_err-value.field-0.0) (judge_term (signature_of c.typed_pattern.new.world) (map plain_var c.deref-2.result.now) c.args.branch.now) z after) (same_seen c.args.world.now c.typed_pattern.new.world c.in_ok-typed.ensures.grown)
    c.in_err-value.ensures.answer))))

pub elaborate_case-is_branch_sort-requires : goal.elaborate_case-is_branch_sort-requires
elaborate_case-is_branch_sort-requires t c =
    some_by c.args.first.now (λ r. sorts.InternedTogether c.in_ok-value.value.sort r) (λ r e. record {
      store = c.elaborate.new.world.sorts;
      distinct = c.in_ok-value.ensures.ready.distinct;
      first = c.in_ok-value.ensures.typed.sort;
      second = at_found c.args.first.now (sorts.IsInterned c.elaborate.new.world.sorts) r e
          (asked_kept c.typed_pattern.new.world c.elaborate.new.world c.in_ok-value.ensures.grown c.args.first.now (asked_grown c.args.world.now c.typed_pattern.new.world c.in_ok-typed.ensures.grown c.args.first.now c.requires.first));
    })

pub elaborate_case-returns-then-not-is_branch_sort-clause-answer :
    goal.elaborate_case-returns-then-not-is_branch_sort-clause-answer
elaborate_case-returns-then-not-is_branch_sort-clause-answer t c =
    let S = signature_of c.args.world.now in
    let V = map plain_var c.args.vars.now in
    let s = sort_tree.tree c.args.sort.now in
    let o = instance_of (datatypes_of c.args.world.now.script) s in
    let F = option_map sort_tree.tree c.args.first.now in
    let before = c.args.world.now.seen.items in
    let after = c.elaborate.new.world.seen.items in
    rw c.fault.ensures (
    some_by o (λ i. Meets {A = Case} (Err (fault_at WrongBranchSort c.at.result)) (judge_case i s F c.args.pattern (term_at c.args.branch.now) (λ own. judge_term S (V ++ own) c.args.branch.now)) before after)
    (λ i e.
    subst (λ z. Meets {A = Case} (Err (fault_at WrongBranchSort z)) (judge_case i s F c.args.pattern (term_at c.args.branch.now) (λ own. judge_term S (V ++ own) c.args.branch.now)) before after) (sym c.at.ensures)
    (case_of_other i s F c.args.pattern (term_at c.args.branch.now) (λ own. judge_term S (V ++ own) c.args.branch.now) before c.in_ok-typed.typed.pattern before after
    (meets (Ok c.in_ok-typed.typed.pattern) (judge_typed_pattern i c.args.pattern) before before refl (at_found o (λ j. Answers (Ok c.in_ok-typed.typed.pattern) (judge_typed_pattern j c.args.pattern)) i e c.in_ok-typed.ensures.answer))
    (tree c.in_ok-value.value.term)
    (body_moved c.args.world.now c.typed_pattern.new.world (V ++ pattern_variables i s c.in_ok-typed.typed.pattern) (map plain_var c.deref-2.result.now) c.args.branch.now (Ok (tree c.in_ok-value.value.term)) before after
    (elaborated_grown c.args.world.now c.typed_pattern.new.world c.in_ok-typed.ensures.grown)
    (quantifier_variables c.args.vars.now c.in_ok-typed.typed.variables.items c.deref-2.result.now (c.deref-2.ensures.value ∙ c.in_ok-inner.ensures.ok ∙ ap (λ z. c.args.vars.now ++ z) c.deref.ensures.value)
    ∙ ap (λ z. V ++ z) (at_found o (λ j. map plain_var c.in_ok-typed.typed.variables.items ≡ pattern_variables j s c.in_ok-typed.typed.pattern) i e c.in_ok-typed.ensures.variables))
    (subst (λ z. Meets (Ok (tree c.in_ok-value.value.term)) (judge_term (signature_of c.typed_pattern.new.world) (map plain_var c.deref-2.result.now) c.args.branch.now) z after) (same_seen c.args.world.now c.typed_pattern.new.world c.in_ok-typed.ensures.grown)
    c.in_ok-value.ensures.answer))
    (λ h. (let is = c.is_branch_sort.ensures.1 (subst (IsBranchSort F) (sym c.in_ok-value.ensures.typed.same) h) in cc)))))

pub elaborate_case-returns-clause-answer : goal.elaborate_case-returns-clause-answer
elaborate_case-returns-clause-answer t c =
    let S = signature_of c.args.world.now in
    let V = map plain_var c.args.vars.now in
    let s = sort_tree.tree c.args.sort.now in
    let o = instance_of (datatypes_of c.args.world.now.script) s in
    let F = option_map sort_tree.tree c.args.first.now in
    let before = c.args.world.now.seen.items in
    let after = c.elaborate.new.world.seen.items in
    let q = c.in_ok-typed.typed.pattern in
    let u = tree c.in_ok-value.value.term in
    some_by o (λ i. Meets (Ok (q, u)) (judge_case i s F c.args.pattern (term_at c.args.branch.now) (λ own. judge_term S (V ++ own) c.args.branch.now)) before after)
    (λ i e.
    case_is i s F c.args.pattern (term_at c.args.branch.now) (λ own. judge_term S (V ++ own) c.args.branch.now) before q before after
    (meets (Ok q) (judge_typed_pattern i c.args.pattern) before before refl (at_found o (λ j. Answers (Ok q) (judge_typed_pattern j c.args.pattern)) i e c.in_ok-typed.ensures.answer))
    u
    (body_moved c.args.world.now c.typed_pattern.new.world (V ++ pattern_variables i s q) (map plain_var c.deref-2.result.now) c.args.branch.now (Ok u) before after
    (elaborated_grown c.args.world.now c.typed_pattern.new.world c.in_ok-typed.ensures.grown)
    (quantifier_variables c.args.vars.now c.in_ok-typed.typed.variables.items c.deref-2.result.now (c.deref-2.ensures.value ∙ c.in_ok-inner.ensures.ok ∙ ap (λ z. c.args.vars.now ++ z) c.deref.ensures.value)
    ∙ ap (λ z. V ++ z) (at_found o (λ j. map plain_var c.in_ok-typed.typed.variables.items ≡ pattern_variables j s q) i e c.in_ok-typed.ensures.variables))
    (subst (λ z. Meets (Ok u) (judge_term (signature_of c.typed_pattern.new.world) (map plain_var c.deref-2.result.now) c.args.branch.now) z after) (same_seen c.args.world.now c.typed_pattern.new.world c.in_ok-typed.ensures.grown)
    c.in_ok-value.ensures.answer))
    (subst (IsBranchSort F) c.in_ok-value.ensures.typed.same (c.is_branch_sort.ensures.0 c.if-not-is_branch_sort.false)))

-- the cases of a match

pub elaborate_cases-elaborate_case-requires : goal.elaborate_cases-elaborate_case-requires
elaborate_cases-elaborate_case-requires t c = (
  omega (arith, c.decreases, c.loop-next.invariant.smaller, ap cases_size (ap cases_left c.in-Some.is)),
  (
    c.loop-next.invariant.ready,
    (
      bound_kept c.args.world.now c.loop-next.world c.loop-next.invariant.grown c.args.vars.now c.requires.vars,
      (
        sort_kept c.args.world.now c.loop-next.world c.loop-next.invariant.grown c.args.sort.now c.requires.sort,
        (
          c.loop-next.invariant.typed.sort,
          subst (λ z. IsSome (instance_of (datatypes_of z) (sort_tree.tree c.args.sort.now))) (sym (same_script c.args.world.now c.loop-next.world c.loop-next.invariant.grown)) c.requires.instance,
        ),
      ),
    ),
  ),
)

pub elaborate_cases-returns-in_err-case-clause-answer : goal.elaborate_cases-returns-in_err-case-clause-answer
elaborate_cases-returns-in_err-case-clause-answer t c =
    let p = err_from_is_err_and c.from_residual.result c.from_residual.ensures.1 in
    let S = signature_of c.args.world.now in
    let V = map plain_var c.args.vars.now in
    let s = sort_tree.tree c.args.sort.now in
    let o = instance_of (datatypes_of c.args.world.now.script) s in
    let start = c.args.world.now.seen.items in
    let so_far = c.loop-next.world.seen.items in
    let after = c.elaborate_case.new.world.seen.items in
    let F = option_map sort_tree.tree c.loop-next.cases.sort in
    let x = c.in-Some.first in
    rw (p.1, p.2) (
    some_by o (λ i. Meets {A = List Case} (Err c.in_err-case.field-0.0) (judge_cases S V i s None c.args.raws.now) start after)
    (λ i e.
    case_fails S V i s c.args.raws.now (cases_left c.loop-next.next) c.in-Some.rest x.at x.pattern x.term c.loop-next.cases start so_far (ap cases_left c.in-Some.is) (c.loop-next.invariant.onward i e) c.in_err-case.field-0.0 after after
    (moved (λ z. judge_case i s F x.pattern (term_at x.term) (λ own. judge_term z (V ++ own) x.term)) (Err c.in_err-case.field-0.0) c.args.world.now c.loop-next.world so_far after c.loop-next.invariant.grown
    (at_found (instance_of (datatypes_of c.loop-next.world.script) s) (λ j. Meets {A = Case} (Err c.in_err-case.field-0.0) (judge_case j s F x.pattern (term_at x.term) (λ own. judge_term (signature_of c.loop-next.world) (V ++ own) x.term)) so_far after) i
    (ap (λ z. instance_of (datatypes_of z) s) (same_script c.args.world.now c.loop-next.world c.loop-next.invariant.grown) ∙ e) c.in_err-case.ensures.answer))))

pub elaborate_cases-loop-next-preserved : goal.elaborate_cases-loop-next-preserved
elaborate_cases-loop-next-preserved t c =
    let S = signature_of c.args.world.now in
    let V = map plain_var c.args.vars.now in
    let s = sort_tree.tree c.args.sort.now in
    let start = c.args.world.now.seen.items in
    let so_far = c.loop-next.world.seen.items in
    let after = c.elaborate_case.new.world.seen.items in
    let F = option_map sort_tree.tree c.loop-next.cases.sort in
    let x = c.in-Some.first in
    let rest = cases_left_is _ _ c.split-next-in-Some.ensures in
    record {
      onward = λ i e.
          case_step S V i s c.args.raws.now (cases_left c.loop-next.next) c.in-Some.rest x.at x.pattern x.term c.loop-next.cases start so_far (ap cases_left c.in-Some.is) (c.loop-next.invariant.onward i e) c.elaborate_case.new.world
          (cases_left c.split-next-in-Some.result) c.push.new.self c.in_ok-case.case after rest c.in_ok-push.ensures.cases c.in_ok-push.ensures.sort c.in_ok-case.ensures.typed
          (moved (λ z. judge_case i s F x.pattern (term_at x.term) (λ own. judge_term z (V ++ own) x.term)) (Ok (case_tree c.in_ok-case.case)) c.args.world.now c.loop-next.world so_far after c.loop-next.invariant.grown
          (at_found (instance_of (datatypes_of c.loop-next.world.script) s) (λ j. Meets (Ok (case_tree c.in_ok-case.case)) (judge_case j s F x.pattern (term_at x.term) (λ own. judge_term (signature_of c.loop-next.world) (V ++ own) x.term)) so_far after) i
          (ap (λ z. instance_of (datatypes_of z) s) (same_script c.args.world.now c.loop-next.world c.loop-next.invariant.grown) ∙ e) c.in_ok-case.ensures.answer));
      typed = typed_cases_push c.elaborate_case.new.world c.loop-next.cases c.push.new.self c.in_ok-case.case c.in_ok-push.ensures.cases c.in_ok-push.ensures.sort c.in_ok-case.ensures.typed
          (typed_cases_kept c.loop-next.world c.elaborate_case.new.world c.in_ok-case.ensures.grown c.loop-next.cases c.loop-next.invariant.typed);
      grown = elaborated_more c.args.world.now c.loop-next.world c.elaborate_case.new.world c.loop-next.invariant.grown c.in_ok-case.ensures.grown;
      ready = c.in_ok-case.ensures.ready;
      smaller = omega (arith, c.loop-next.invariant.smaller, ap cases_size (ap cases_left c.in-Some.is), ap cases_size rest);
    }

pub elaborate_cases-returns-clause-answer : goal.elaborate_cases-returns-clause-answer
elaborate_cases-returns-clause-answer t c =
    let S = signature_of c.args.world.now in
    let V = map plain_var c.args.vars.now in
    let s = sort_tree.tree c.args.sort.now in
    let start = c.args.world.now.seen.items in
    let so_far = c.loop-next.world.seen.items in
    let F = option_map sort_tree.tree c.loop-next.cases.sort in
    some_by (instance_of (datatypes_of c.args.world.now.script) s) (λ i. Meets (Ok (case_trees c.loop-next.cases)) (judge_cases S V i s None c.args.raws.now) start so_far)
    (λ i e.
    leads_end (judge_cases S V i s None c.args.raws.now) (judge_cases S V i s F (cases_left c.loop-next.next)) (case_trees c.loop-next.cases) start so_far
    (no_cases_left S V i s F (cases_left c.loop-next.next) (ap cases_left c.in_default.is) so_far) (c.loop-next.invariant.onward i e))

-- a match

pub elaborate_match-elaborate_cases-requires : goal.elaborate_match-elaborate_cases-requires
elaborate_match-elaborate_cases-requires t c = (
  omega (arith, c.decreases),
  (
    c.in_ok-typed.ensures.ready,
    (
      bound_kept c.args.world.now c.elaborate.new.world c.in_ok-typed.ensures.grown c.args.vars.now c.requires.vars,
      (
        c.in_ok-typed.ensures.typed.sort,
        (
            let f = found_some plain_datatype (λ (i : Instance). i.0) (option_copied c.datatype_of.result) (instance_of (datatypes_of c.elaborate.new.world.script) (sort_tree.tree c.in_ok-typed.typed.sort)) c.datatype_of.ensures (copied_some c.datatype_of.result ∙ c.if-is_none.ensures) in
            is_some_found (instance_of (datatypes_of c.elaborate.new.world.script) (sort_tree.tree c.in_ok-typed.typed.sort)) f.0 f.1
            ),
      ),
    ),
  ),
)

pub elaborate_match-returns-in_err-cases-clause-answer :
    goal.elaborate_match-returns-in_err-cases-clause-answer
elaborate_match-returns-in_err-cases-clause-answer t c =
    let p = err_from_is_err_and c.from_residual-in_err-cases.result c.from_residual-in_err-cases.ensures.1 in
    let S = signature_of c.args.world.now in
    let V = map plain_var c.args.vars.now in
    let mid = c.elaborate.new.world in
    let s = sort_tree.tree c.in_ok-typed.typed.sort in
    let v = tree c.in_ok-typed.typed.term in
    let after = c.elaborate_cases.new.world.seen.items in
    let f = found_some plain_datatype (λ (i : Instance). i.0) (option_copied c.datatype_of.result) (instance_of (datatypes_of mid.script) s) c.datatype_of.ensures (copied_some c.datatype_of.result ∙ c.if-is_none.ensures) in
    rw (p.1, p.2) (
    match_cases_fail S V c.args.at c.args.of.now c.args.cases.now c.args.world.now.seen.items v mid.seen.items c.in_ok-typed.ensures.answer f.0
    (ap (instance_of S.datatypes) (sym c.in_ok-typed.ensures.typed.same) ∙ sym (ap (λ z. instance_of (datatypes_of z) s) (same_script c.args.world.now mid c.in_ok-typed.ensures.grown)) ∙ f.1) c.in_err-cases.field-0.0 after after
    (moved (λ z. judge_cases z V f.0 (plain_sort v) None c.args.cases.now) (Err c.in_err-cases.field-0.0) c.args.world.now mid mid.seen.items after c.in_ok-typed.ensures.grown
    (subst (λ z. Meets {A = List Case} (Err c.in_err-cases.field-0.0) (judge_cases (signature_of mid) V f.0 z None c.args.cases.now) mid.seen.items after) c.in_ok-typed.ensures.typed.same
    (at_found (instance_of (datatypes_of mid.script) s) (λ i. Meets {A = List Case} (Err c.in_err-cases.field-0.0) (judge_cases (signature_of mid) V i s None c.args.cases.now) mid.seen.items after) f.0 f.1 c.in_err-cases.ensures.answer))))

pub elaborate_match-covered_match-requires-clause-of :
    goal.elaborate_match-covered_match-requires-clause-of
elaborate_match-covered_match-requires-clause-of t c = typed_kept c.elaborate.new.world c.elaborate_cases.new.world c.in_ok-cases.ensures.grown c.in_ok-typed.typed c.in_ok-typed.ensures.typed

pub elaborate_match-returns-clause-answer : goal.elaborate_match-returns-clause-answer
elaborate_match-returns-clause-answer t c =
    let S = signature_of c.args.world.now in
    let V = map plain_var c.args.vars.now in
    let mid = c.elaborate.new.world in
    let later = c.elaborate_cases.new.world in
    let s = sort_tree.tree c.in_ok-typed.typed.sort in
    let v = tree c.in_ok-typed.typed.term in
    let ds = case_trees c.in_ok-cases.cases in
    let f = found_some plain_datatype (λ (i : Instance). i.0) (option_copied c.datatype_of.result) (instance_of (datatypes_of mid.script) s) c.datatype_of.ensures (copied_some c.datatype_of.result ∙ c.if-is_none.ensures) in
    match_is S V c.args.at c.args.of.now c.args.cases.now c.args.world.now.seen.items v mid.seen.items c.in_ok-typed.ensures.answer f.0
    (ap (instance_of S.datatypes) (sym c.in_ok-typed.ensures.typed.same) ∙ sym (ap (λ z. instance_of (datatypes_of z) s) (same_script c.args.world.now mid c.in_ok-typed.ensures.grown)) ∙ f.1) ds (typed_answer c.covered_match.result)
    later.seen.items c.covered_match.new.world.seen.items
    (moved (λ z. judge_cases z V f.0 (plain_sort v) None c.args.cases.now) (Ok ds) c.args.world.now mid mid.seen.items later.seen.items c.in_ok-typed.ensures.grown
    (subst (λ z. Meets (Ok ds) (judge_cases (signature_of mid) V f.0 z None c.args.cases.now) mid.seen.items later.seen.items) c.in_ok-typed.ensures.typed.same
    (at_found (instance_of (datatypes_of mid.script) s) (λ i. Meets (Ok ds) (judge_cases (signature_of mid) V i s None c.args.cases.now) mid.seen.items later.seen.items) f.0 f.1 c.in_ok-cases.ensures.answer)))
    (meets (typed_answer c.covered_match.result) (judge_covered c.args.at f.0.0 v ds) later.seen.items c.covered_match.new.world.seen.items (same_seen later c.covered_match.new.world c.covered_match.ensures.grown)
    (at_found (instance_of (datatypes_of later.script) s) (λ i. Answers (typed_answer c.covered_match.result) (judge_covered c.args.at i.0 v ds)) f.0
    (ap (λ z. instance_of (datatypes_of z) s) (same_script mid later c.in_ok-cases.ensures.grown) ∙ f.1) c.covered_match.ensures.answer))
