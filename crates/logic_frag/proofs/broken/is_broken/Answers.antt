use Rattle.std.proofs.Common.{sym, subst}
use Rattle.std.specs.Prelude.{◌↔◌, IsTrue, IfOk}
use Rattle.term_store.specs.Term.{tree}
use Rattle.logic_frag.specs.Following.{context_in}
use Rattle.logic_frag.specs.TermRules.{Breaks}
use Rattle.logic_frag.specs.ScopeFrames.{scope_of}
use Rattle.logic_frag.specs.SeenTerms.{occurrence}
use Rattle.logic_frag.proofs.DifferenceMeanings.{outside_answer}
use Rattle.logic_frag.proofs.IntegerMeanings.{linear_answer}
use Rattle.logic_frag.proofs.broken.is_broken.Goals as goal

pub returns-in-Linear : goal.returns-in-Linear
returns-in-Linear c =
    let answer = linear_answer (context_in c.args.known.now) c.requires (scope_of c.args.seen.now.scope) (tree c.args.seen.now.term) c.is_nonlinear.result c.is_nonlinear.ensures in
    subst (λ r. IfOk c.is_nonlinear.result (λ b. IsTrue b ↔ Breaks r (context_in c.args.known.now) (occurrence c.args.seen.now))) (sym c.in-Linear.is) answer

pub returns-in-Difference : goal.returns-in-Difference
returns-in-Difference c =
    let answer = outside_answer (context_in c.args.known.now) c.requires (scope_of c.args.seen.now.scope) (tree c.args.seen.now.term) c.is_outside.result c.is_outside.ensures in
    subst (λ r. IfOk c.is_outside.result (λ b. IsTrue b ↔ Breaks r (context_in c.args.known.now) (occurrence c.args.seen.now))) (sym c.in-Difference.is) answer
