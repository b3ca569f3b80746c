use Rattle.std.proofs.Common.{arith, ap, length, rules}
use Rattle.sexp_core.specs.Sexp.{atom}
use Rattle.sexp_core.proofs.parts.Part.copy.Goals as goal

pub invariant_of-result : goal.invariant_of-result
invariant_of-result c = (
  atom c.in-Atom.tok,
  search (rules, c.in_ok-push-in-Atom.ensures.items, c.new-items.ensures.items),
  omega (arith, ap length c.in_ok-push-in-Atom.ensures.items, ap length c.new-items.ensures.items),
)
