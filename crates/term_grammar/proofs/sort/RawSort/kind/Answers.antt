use Rattle.std.proofs.Common.{ap, sym, ◌∙◌, Ok}
use Rattle.sexp_core.specs.Parts.{whole}
use Rattle.term_grammar.specs.declared.sort.RawSortKind.TheVariants as kind
use Rattle.term_grammar.specs.Readings.{sorts_of}
use Rattle.term_grammar.specs.SortViews.{sort_kind}
use Rattle.term_grammar.proofs.SortsSeen.{identifier_seen, applied_seen, unformed}
use Rattle.term_grammar.proofs.sort.RawSort.kind.Goals as goal

pub invariant_of-result : goal.invariant_of-result
invariant_of-result c =
    (applied_seen (whole c.self.inside.tree) c.in-Ok-Applied.head c.in-Ok-Applied.args (sym c.sort_form.ensures ∙ c.in-Ok-Applied.is ∙ ap Ok c.in-Ok-Applied.field-0-is) c.self.invariant).0

pub unreachable-requires : goal.unreachable-requires
unreachable-requires c = unformed (whole c.self.inside.tree) _ (sym c.sort_form.ensures ∙ c.in-Err.is) c.self.invariant

pub returns-in-Ok-Identifier : goal.returns-in-Ok-Identifier
returns-in-Ok-Identifier c =
    ap kind.Identifier c.identifier.ensures
    ∙ sym (ap sort_kind (sym c.self.view_is ∙ identifier_seen (whole c.self.inside.tree) (sym c.sort_form.ensures ∙ c.in-Ok-Identifier.is ∙ ap Ok c.in-Ok-Identifier.field-0-is)))

pub returns-in-Ok-Applied : goal.returns-in-Ok-Applied
returns-in-Ok-Applied c =
    let s = applied_seen (whole c.self.inside.tree) c.in-Ok-Applied.head c.in-Ok-Applied.args (sym c.sort_form.ensures ∙ c.in-Ok-Applied.is ∙ ap Ok c.in-Ok-Applied.field-0-is) c.self.invariant in
    ap (λ i. kind.Applied i (sorts_of c.in-Ok-Applied.args)) c.identifier-in-Ok-Applied.ensures ∙ sym (ap sort_kind (sym c.self.view_is ∙ s.1))
