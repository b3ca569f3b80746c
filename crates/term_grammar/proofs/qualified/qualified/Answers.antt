use Rattle.std.proofs.Common.{ap, sym, ◌∙◌}
use Rattle.term_grammar.specs.Syntax.{unqualified, qualified as as_sort}
use Rattle.term_grammar.specs.Readings.{sort_of}
use Rattle.sexp_core.specs.Parts.{whole}
use Rattle.term_grammar.proofs.QualifiedSeen.{named_seen, atom_unseen, list_seen, list_unseen}
use Rattle.term_grammar.proofs.qualified.qualified.Goals as goal

pub returns-then-is_identifier : goal.returns-then-is_identifier
returns-then-is_identifier c = ap unqualified c.identifier.ensures ∙ sym (named_seen (whole c.args.tree.now) (sym c.is_identifier.ensures ∙ c.if-is_identifier.true))

pub unreachable-requires : goal.unreachable-requires
unreachable-requires c = atom_unseen c.args.tree.now _ c.in-Atom.is (sym c.is_identifier.ensures ∙ c.if-is_identifier.false) c.requires

pub unreachable-requires-in_default : goal.unreachable-requires-in_default
unreachable-requires-in_default c =
    list_unseen c.args.tree.now _ _ c.in-List.is (sym c.is_identifier.ensures ∙ c.if-is_identifier.false) (sym c.as_parts.ensures ∙ c.in_default.is) c.requires

pub identifier-requires-in-List : goal.identifier-requires-in-List
identifier-requires-in-List c =
    (list_seen c.args.tree.now _ _ _ _ c.in-List.is (sym c.is_identifier.ensures ∙ c.if-is_identifier.false) (sym c.as_parts.ensures ∙ c.in-Some.is) c.requires).0

pub invariant_of-parts : goal.invariant_of-parts
invariant_of-parts c =
    (list_seen c.args.tree.now _ _ _ _ c.in-List.is (sym c.is_identifier.ensures ∙ c.if-is_identifier.false) (sym c.as_parts.ensures ∙ c.in-Some.is) c.requires).1.0

pub returns : goal.returns
returns c =
    let s = list_seen c.args.tree.now _ _ _ _ c.in-List.is (sym c.is_identifier.ensures ∙ c.if-is_identifier.false) (sym c.as_parts.ensures ∙ c.in-Some.is) c.requires in
    ap (λ i. as_sort c.in-List.at i (sort_of (whole c.in-Some.sort))) c.identifier-in-List.ensures ∙ sym s.1.1
