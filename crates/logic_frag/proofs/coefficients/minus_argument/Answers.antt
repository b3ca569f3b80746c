use Rattle.std.proofs.Common.{◌≤◌, length, ap, sym, ◌∙◌, arith}
use Rattle.term_store.specs.NumberedNodes.{numbered_node}
use Rattle.logic_frag.proofs.Texts.{several_of}
use Rattle.logic_frag.proofs.coefficients.minus_argument.Goals as goal

pub returns-in-len2-up : goal.returns-in-len2-up
returns-in-len2-up c =
    let several : 2 ≤ length c.in-App.args.items = omega (arith, c.in-len2-up.len_at_least, ap length c.as_slice.ensures.value) in
    several_of c.args.known.now.names.now c.args.term.now c.in-App.head c.in-App.args.items (sym (ap numbered_node c.in-App.is) ∙ c.node.ensures) several
