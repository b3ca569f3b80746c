use Rattle.std.proofs.Common.{◌∙◌}
use Rattle.script_core.specs.Effects.{seen_by}
use Rattle.std.proofs.Common.{◌++◌}
use Rattle.script_core.specs.Keeping.{definitions_in}
use Rattle.script_core.proofs.ReadyScopes.{script_stands}
use Rattle.script_core.proofs.RuleMeanings.{all_kept, same_datatypes, some_kept, tree_fault, tree_takes, tree_unused}
use Rattle.script_core.proofs.scope.take_tree.Goals as goal

pub returns-in-Err-clause-answer : goal.returns-in-Err-clause-answer
returns-in-Err-clause-answer c =
    tree_fault c.args.scope.now c.typed_of.new.scope c.typed_of.new.scope (seen_by c.typed_of.new.scope) c.args.tree.now c.in-Err.error c.in-Err.ensures.answer

pub keep_definitions-requires : goal.keep_definitions-requires
keep_definitions-requires c = let mid = c.typed_of.new.scope in
    tree_unused c.args.scope.now mid (seen_by mid) c.args.tree.now c.in-Ok.taken c.deref.result.now c.deref.ensures.value c.in-Ok.ensures.answer c.in-Ok.ensures.named
    mid.world.script c.requires.kept c.in-Ok.ensures.script

pub returns-in-Err-keep_definitions-clause-script : goal.returns-in-Err-keep_definitions-clause-script
returns-in-Err-keep_definitions-clause-script c = let mid = c.typed_of.new.scope in
    some_kept c.args.scope.now mid (seen_by mid) c.args.tree.now c.in-Ok.taken c.deref.result.now c.deref.ensures.value c.in-Ok.ensures.answer c.in-Ok.ensures.named
    mid.world.script c.keep_definitions.new.script c.in-Ok.ensures.script c.in-Err-keep_definitions.ensures.left

pub returns-in-Ok-push-clause-answer : goal.returns-in-Ok-push-clause-answer
returns-in-Ok-push-clause-answer c = let mid = c.typed_of.new.scope in
    tree_takes c.args.scope.now mid c.keep_definitions.new.script c.push.new.self (seen_by mid) c.args.tree.now c.in-Ok.taken c.deref.result.now c.progress_after-progress.result c.deref.ensures.value
    c.in-Ok.ensures.answer c.in-Ok.ensures.named c.in-Ok.ensures.script c.in-Ok-keep_definitions.ensures.ok c.in-Ok-push.ensures.ok c.progress_after-progress.ensures

pub returns-clause-script : goal.returns-clause-script
returns-clause-script c = let mid = c.typed_of.new.scope in
    all_kept c.args.scope.now mid (seen_by mid) c.args.tree.now c.in-Ok.taken c.deref.result.now c.deref.ensures.value c.in-Ok.ensures.answer c.in-Ok.ensures.named
    mid.world.script c.push.new.self c.in-Ok.ensures.script (c.in-Err-push.ensures.err ∙ c.in-Ok-keep_definitions.ensures.ok)

pub returns-in-Ok-push-clause-stands : goal.returns-in-Ok-push-clause-stands
returns-in-Ok-push-clause-stands c = let mid = c.typed_of.new.scope in
    script_stands mid c.push.new.self (same_datatypes mid.world.script c.keep_definitions.new.script c.push.new.self c.in-Ok.taken.command (definitions_in c.in-Ok.taken.command ++ c.deref.result.now) c.in-Ok-keep_definitions.ensures.ok c.in-Ok-push.ensures.ok)
    c.typed_of.ensures.stands
