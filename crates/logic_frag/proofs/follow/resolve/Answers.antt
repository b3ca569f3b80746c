use Rattle.std.proofs.Common.{◌≡◌, ◌+◌, None, ap, sym, ◌∙◌, arith}
use Rattle.std.specs.Option.{option_map}
use Rattle.term_store.specs.Term.{tree}
use Rattle.logic_frag.specs.Following.{context_in, next_of, plain_defs}
use Rattle.logic_frag.specs.ScopeFrames.{scope_of}
use Rattle.logic_frag.specs.SeenTerms.{occurrence}
use Rattle.logic_frag.specs.StandsFor.{itself}
use Rattle.logic_frag.proofs.Standing.{end_is, stands_also, stands_next}
use Rattle.logic_frag.proofs.Weights.{falls, measure_falls, weight_stays}
use Rattle.logic_frag.specs.Weights.{bodies_size, weight}
use Rattle.logic_frag.proofs.follow.resolve.Goals as goal

pub links-init : goal.links-init
links-init c = record { stands = itself; bounded = omega arith }

pub links-smaller : goal.links-smaller
links-smaller c =
    let kept = plain_defs c.args.known.now.defs.now in
    let last = c.links.last in
    let next = occurrence c.in-Ok-Some.next in
    let bound = weight (occurrence c.args.seen) + bodies_size kept + 1 in
    let step = sym (ap (option_map occurrence) c.in-Ok-Some.field-0-is) ∙ c.in-Ok-Some.ensures in
    measure_falls kept (occurrence last) next bound (omega arith) c.links.invariant.bounded (falls kept (scope_of last.scope) (tree last.term) next c.requires (sym step))

pub links-preserved : goal.links-preserved
links-preserved c =
    let kept = plain_defs c.args.known.now.defs.now in
    let last = c.links.last in
    let next = occurrence c.in-Ok-Some.next in
    let bound = weight (occurrence c.args.seen) + bodies_size kept + 1 in
    let step = sym (ap (option_map occurrence) c.in-Ok-Some.field-0-is) ∙ c.in-Ok-Some.ensures in
    let context = context_in c.args.known.now in
    record {
      stands = stands_also context (occurrence c.args.seen) (occurrence last) next c.links.invariant.stands (stands_next context (scope_of last.scope) (tree last.term) next (sym step));
      bounded = weight_stays kept (occurrence last) next bound (omega arith) c.links.invariant.bounded (falls kept (scope_of last.scope) (tree last.term) next c.requires (sym step));
    }

pub returns-in-Ok-None : goal.returns-in-Ok-None
returns-in-Ok-None c =
    let last = c.links.last in
    let step : next_of (plain_defs c.args.known.now.defs.now) (scope_of last.scope) (tree last.term) ≡ None = sym (sym (ap (option_map occurrence) c.in-Ok-None.field-0-is) ∙ c.in-Ok-None.ensures) in
    end_is (context_in c.args.known.now) (occurrence c.args.seen) (occurrence last) c.requires (record { stands = c.links.invariant.stands; no_next = step })
