use Rattle.std.proofs.Common.{◌<◌, length, refl, arith}
use Rattle.term_store.specs.Outline.{IsMadeOf}
use Rattle.term_store.proofs.KeyedTerms.{ordinal_below, search_goes_on, search_ends}
use Rattle.term_store.proofs.store.find_made.Goals as goal

pub prove-unreachable-requires : goal.prove-unreachable-requires
prove-unreachable-requires c = omega (arith, ordinal_below c.args.table.now.entries c.loop-term.key c.in-Some.term.now c.requires.store c.in-Some.ensures.found)

pub loop-term-preserved : goal.loop-term-preserved
loop-term-preserved c =
    let i = c.loop-term.invariant in
    let t = c.in-Some.term.now in
    let other : IsMadeOf t c.args.node.now c.args.sort.now → ⊥ = λ m. (let h = c.if-is_made_of.ensures.1 m in cc) in
    record {
      key_for = record { kinds = i.key_for.kinds; names = i.key_for.names; counted = i.key_for.counted };
      searched = search_goes_on c.args.table.now.entries c.loop-term.key t c.args.node.now c.args.sort.now _ c.requires.store i.searched c.in-Some.ensures.found other refl refl refl refl;
    }

pub returns-clause-missing : goal.returns-clause-missing
returns-clause-missing c =
    search_ends c.args.table.now.entries c.loop-term.key c.args.node.now c.args.sort.now c.requires.store c.loop-term.invariant.searched c.loop-term.invariant.key_for c.in_default.ensures.missing
