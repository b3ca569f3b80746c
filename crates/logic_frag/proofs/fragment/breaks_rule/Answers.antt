use Rattle.std.proofs.Common.{◌≡◌, false, sym, subst}
use Rattle.std.specs.Prelude.{◌↔◌, IsTrue, IfOk}
use Rattle.term_store.specs.Command.{plain_command}
use Rattle.logic_frag.specs.declared.logic.NumPart.TheVariants as ints
use Rattle.logic_frag.specs.Following.{plain_defs}
use Rattle.logic_frag.specs.FragmentRules.{BreaksRule, HasTerm, IsQuantifier, context_of}
use Rattle.logic_frag.specs.IntegerTerms.{IsNonlinear, IsOutsideDifference}
use Rattle.logic_frag.specs.Logics.{described}
use Rattle.logic_frag.proofs.FirstBroken.{with_premise}
use Rattle.logic_frag.proofs.fragment.breaks_rule.Goals as goal

pub returns-else-logic : goal.returns-else-logic
returns-else-logic c =
    let command = plain_command c.args.command.now in
    let context = context_of c.args.names.now (plain_defs c.args.defs.now) command in
    let answer = with_premise (c.args.logic.now.q ≡ false) (HasTerm command (λ o. IsQuantifier o.its)) c.has_term_outside.result c.if-logic.false c.has_term_outside.ensures in
    subst (λ k. IfOk c.has_term_outside.result (λ b. IsTrue b ↔ BreaksRule (described c.args.logic.now) context command k)) (sym c.in-QuantifierOutsideLogic.is) answer

pub returns-in-Linear : goal.returns-in-Linear
returns-in-Linear c =
    let command = plain_command c.args.command.now in
    let context = context_of c.args.names.now (plain_defs c.args.defs.now) command in
    let found = c.has_term_outside-in-Linear in
    let answer = with_premise (c.args.logic.now.ints ≡ ints.Linear) (HasTerm command (IsNonlinear context)) found.result c.in-Linear.is found.ensures in
    subst (λ k. IfOk found.result (λ b. IsTrue b ↔ BreaksRule (described c.args.logic.now) context command k)) (sym c.in-NotLinear.is) answer

pub returns-in-Difference : goal.returns-in-Difference
returns-in-Difference c =
    let command = plain_command c.args.command.now in
    let context = context_of c.args.names.now (plain_defs c.args.defs.now) command in
    let found = c.has_term_outside-in-Difference in
    let answer = with_premise (c.args.logic.now.ints ≡ ints.Difference) (HasTerm command (IsOutsideDifference context)) found.result c.in-Difference.is found.ensures in
    subst (λ k. IfOk found.result (λ b. IsTrue b ↔ BreaksRule (described c.args.logic.now) context command k)) (sym c.in-NotDifference.is) answer

pub returns-in-ArrayOutsideLogic : goal.returns-in-ArrayOutsideLogic
returns-in-ArrayOutsideLogic c =
    let command = plain_command c.args.command.now in
    let context = context_of c.args.names.now (plain_defs c.args.defs.now) command in
    subst (λ k. IfOk c.has_array_outside.result (λ b. IsTrue b ↔ BreaksRule (described c.args.logic.now) context command k)) (sym c.in-ArrayOutsideLogic.is) c.has_array_outside.ensures
