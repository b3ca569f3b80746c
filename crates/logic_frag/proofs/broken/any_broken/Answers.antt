use Rattle.std.proofs.Common.{map, sym, ◌∙◌, refl}
use Rattle.std.proofs.lemmas.Bool.{false≢true}
use Rattle.logic_frag.specs.Following.{context_in}
use Rattle.logic_frag.specs.TermRules.{Breaks}
use Rattle.logic_frag.specs.ScopeFrames.{scope_of}
use Rattle.logic_frag.specs.SeenTerms.{occurrence}
use Rattle.logic_frag.proofs.Walking.{here_any, still_any, pending_smaller, popped_seen}
use Rattle.logic_frag.proofs.broken.any_broken.Goals as goal

pub returns-in-Ok-true : goal.returns-in-Ok-true
returns-in-Ok-true c =
    let seen = c.in-Some.seen in
    let kind = Breaks c.args.rule (context_in c.args.known.now) in
    let popped = popped_seen c.loop-seen.pending.items c.pop.new.self.items seen c.in-Some.ensures.items in
    let here = here_any kind (map occurrence c.pop.new.self.items) (map occurrence c.loop-seen.pending.items) (scope_of seen.scope) seen.term popped (c.in-Ok-true.ensures.0 c.in-Ok-true.field-0-test) in
    (λ t. c.loop-seen.invariant.0 here, λ h. refl)

pub loop-seen-smaller : goal.loop-seen-smaller
loop-seen-smaller c =
    let seen = c.in-Some.seen in
    let popped = popped_seen c.loop-seen.pending.items c.pop.new.self.items seen c.in-Some.ensures.items in
    pending_smaller (map occurrence c.pop.new.self.items) (map occurrence c.loop-seen.pending.items) (map occurrence c.push_parts.new.list.items) (scope_of seen.scope) seen.term popped c.in-Ok.ensures

pub loop-seen-preserved : goal.loop-seen-preserved
loop-seen-preserved c =
    let seen = c.in-Some.seen in
    let kind = Breaks c.args.rule (context_in c.args.known.now) in
    let popped = popped_seen c.loop-seen.pending.items c.pop.new.self.items seen c.in-Some.ensures.items in
    let unkind = λ (k : kind (occurrence seen)). false≢true (sym c.in-Ok-false.field-0-test ∙ c.in-Ok-false.ensures.1 k) in
    let still = still_any kind (map occurrence c.pop.new.self.items) (map occurrence c.loop-seen.pending.items) (scope_of seen.scope) seen.term popped (map occurrence c.push_parts.new.list.items) c.in-Ok.ensures unkind in
    (λ h. c.loop-seen.invariant.0 (still.0 h), λ h. still.1 (c.loop-seen.invariant.1 h))
