use Rattle.std.proofs.Common.{◌+◌, arith, map, refl}
use Rattle.term_store.specs.Command.{PlainDef, plain_def}
use Rattle.term_store.specs.Declarations.{names_in, names_in_all}
use Rattle.term_store.specs.Term.{tree}
use Rattle.script_core.proofs.NamedWalks.{named_on}
use Rattle.script_core.proofs.naming.take_bodies.Goals as goal

pub loop-def-preserved : goal.loop-def-preserved
loop-def-preserved c = let l = c.loop-def in
    named_on c.args.defs.now l.def-index (l.def-index + 1) c.def-item.result (omega arith) c.loop-def-test.true c.def-item.is (λ ds. names_in_all (map (λ (d : PlainDef). d.body) (map plain_def ds))) (λ d. names_in (tree d.body)) (λ y ys. refl)
    (map plain_def l.named.items) (map plain_def c.take_term.new.named.items) _ c.in_ok-take_term.ensures.ok l.invariant
