use Rattle.std.proofs.Common.{ap, sym, ◌∙◌, Ok}
use Rattle.sexp_core.specs.Parts.{whole}
use Rattle.term_grammar.specs.declared.term_form.TermForm.TheVariants as form
use Rattle.term_grammar.specs.declared.term.RawTermKind.TheVariants as kind
use Rattle.term_grammar.specs.Readings.{terms_of}
use Rattle.term_grammar.specs.TermViews.{term_kind}
use Rattle.term_grammar.proofs.TermsSeen.{term_seen, unformed}
use Rattle.term_grammar.proofs.term.RawTerm.kind.Goals as goal

pub unreachable-requires : goal.unreachable-requires
unreachable-requires c = unformed (whole c.self.inside.tree) _ (sym c.term_form.ensures ∙ c.in_default.is) c.self.invariant

pub qualified-requires : goal.qualified-requires
qualified-requires c = let s = term_seen (whole c.self.inside.tree) _ (form.Qualified) c.term_form.ensures (c.in-Ok.is ∙ ap Ok c.in-Qualified.is) c.self.invariant in s.0

pub qualified-requires-in-Application : goal.qualified-requires-in-Application
qualified-requires-in-Application c = let s = term_seen (whole c.self.inside.tree) _ (form.Application c.in-Application.head c.in-Application.args) c.term_form.ensures (c.in-Ok.is ∙ ap Ok c.in-Application.is) c.self.invariant in s.0

pub invariant_of-result : goal.invariant_of-result
invariant_of-result c = let s = term_seen (whole c.self.inside.tree) _ (form.Application c.in-Application.head c.in-Application.args) c.term_form.ensures (c.in-Ok.is ∙ ap Ok c.in-Application.is) c.self.invariant in s.1.0

pub invariant_of-result-in-Let : goal.invariant_of-result-in-Let
invariant_of-result-in-Let c = let s = term_seen (whole c.self.inside.tree) _ (form.Let c.in-Let.bindings c.in-Let.body) c.term_form.ensures (c.in-Ok.is ∙ ap Ok c.in-Let.is) c.self.invariant in s.0

pub invariant_of-result-in-Let-2 : goal.invariant_of-result-in-Let-2
invariant_of-result-in-Let-2 c = let s = term_seen (whole c.self.inside.tree) _ (form.Let c.in-Let.bindings c.in-Let.body) c.term_form.ensures (c.in-Ok.is ∙ ap Ok c.in-Let.is) c.self.invariant in s.1.0

pub invariant_of-result-in-Forall : goal.invariant_of-result-in-Forall
invariant_of-result-in-Forall c = let s = term_seen (whole c.self.inside.tree) _ (form.Forall c.in-Forall.variables c.in-Forall.body) c.term_form.ensures (c.in-Ok.is ∙ ap Ok c.in-Forall.is) c.self.invariant in s.0

pub invariant_of-result-in-Forall-2 : goal.invariant_of-result-in-Forall-2
invariant_of-result-in-Forall-2 c = let s = term_seen (whole c.self.inside.tree) _ (form.Forall c.in-Forall.variables c.in-Forall.body) c.term_form.ensures (c.in-Ok.is ∙ ap Ok c.in-Forall.is) c.self.invariant in s.1.0

pub invariant_of-result-in-Exists : goal.invariant_of-result-in-Exists
invariant_of-result-in-Exists c = let s = term_seen (whole c.self.inside.tree) _ (form.Exists c.in-Exists.variables c.in-Exists.body) c.term_form.ensures (c.in-Ok.is ∙ ap Ok c.in-Exists.is) c.self.invariant in s.0

pub invariant_of-result-in-Exists-2 : goal.invariant_of-result-in-Exists-2
invariant_of-result-in-Exists-2 c = let s = term_seen (whole c.self.inside.tree) _ (form.Exists c.in-Exists.variables c.in-Exists.body) c.term_form.ensures (c.in-Ok.is ∙ ap Ok c.in-Exists.is) c.self.invariant in s.1.0

pub invariant_of-result-in-Match : goal.invariant_of-result-in-Match
invariant_of-result-in-Match c = let s = term_seen (whole c.self.inside.tree) _ (form.Match c.in-Match.term c.in-Match.cases) c.term_form.ensures (c.in-Ok.is ∙ ap Ok c.in-Match.is) c.self.invariant in s.0

pub invariant_of-result-in-Match-2 : goal.invariant_of-result-in-Match-2
invariant_of-result-in-Match-2 c = let s = term_seen (whole c.self.inside.tree) _ (form.Match c.in-Match.term c.in-Match.cases) c.term_form.ensures (c.in-Ok.is ∙ ap Ok c.in-Match.is) c.self.invariant in s.1.0

pub invariant_of-result-in-Annotated : goal.invariant_of-result-in-Annotated
invariant_of-result-in-Annotated c = let s = term_seen (whole c.self.inside.tree) _ (form.Annotated c.in-Annotated.term c.in-Annotated.notes) c.term_form.ensures (c.in-Ok.is ∙ ap Ok c.in-Annotated.is) c.self.invariant in s.0

pub invariant_of-result-in-Annotated-2 : goal.invariant_of-result-in-Annotated-2
invariant_of-result-in-Annotated-2 c = let s = term_seen (whole c.self.inside.tree) _ (form.Annotated c.in-Annotated.term c.in-Annotated.notes) c.term_form.ensures (c.in-Ok.is ∙ ap Ok c.in-Annotated.is) c.self.invariant in s.1.0

pub returns-in-Constant : goal.returns-in-Constant
returns-in-Constant c = let s = term_seen (whole c.self.inside.tree) _ (form.Constant c.in-Constant.tok) c.term_form.ensures (c.in-Ok.is ∙ ap Ok c.in-Constant.is) c.self.invariant in sym (ap term_kind (sym c.self.view_is ∙ s))

pub returns-in-Qualified : goal.returns-in-Qualified
returns-in-Qualified c = let s = term_seen (whole c.self.inside.tree) _ (form.Qualified) c.term_form.ensures (c.in-Ok.is ∙ ap Ok c.in-Qualified.is) c.self.invariant in ap kind.Qualified c.qualified.ensures ∙ sym (ap term_kind (sym c.self.view_is ∙ s.1))

pub returns-in-Application : goal.returns-in-Application
returns-in-Application c = let s = term_seen (whole c.self.inside.tree) _ (form.Application c.in-Application.head c.in-Application.args) c.term_form.ensures (c.in-Ok.is ∙ ap Ok c.in-Application.is) c.self.invariant in ap (λ q. kind.Application q (terms_of c.in-Application.args)) c.qualified-in-Application.ensures ∙ sym (ap term_kind (sym c.self.view_is ∙ s.1.1))

pub returns-in-Let : goal.returns-in-Let
returns-in-Let c = let s = term_seen (whole c.self.inside.tree) _ (form.Let c.in-Let.bindings c.in-Let.body) c.term_form.ensures (c.in-Ok.is ∙ ap Ok c.in-Let.is) c.self.invariant in sym (ap term_kind (sym c.self.view_is ∙ s.1.1))

pub returns-in-Forall : goal.returns-in-Forall
returns-in-Forall c = let s = term_seen (whole c.self.inside.tree) _ (form.Forall c.in-Forall.variables c.in-Forall.body) c.term_form.ensures (c.in-Ok.is ∙ ap Ok c.in-Forall.is) c.self.invariant in sym (ap term_kind (sym c.self.view_is ∙ s.1.1))

pub returns-in-Exists : goal.returns-in-Exists
returns-in-Exists c = let s = term_seen (whole c.self.inside.tree) _ (form.Exists c.in-Exists.variables c.in-Exists.body) c.term_form.ensures (c.in-Ok.is ∙ ap Ok c.in-Exists.is) c.self.invariant in sym (ap term_kind (sym c.self.view_is ∙ s.1.1))

pub returns-in-Match : goal.returns-in-Match
returns-in-Match c = let s = term_seen (whole c.self.inside.tree) _ (form.Match c.in-Match.term c.in-Match.cases) c.term_form.ensures (c.in-Ok.is ∙ ap Ok c.in-Match.is) c.self.invariant in sym (ap term_kind (sym c.self.view_is ∙ s.1.1))

pub returns-in-Annotated : goal.returns-in-Annotated
returns-in-Annotated c = let s = term_seen (whole c.self.inside.tree) _ (form.Annotated c.in-Annotated.term c.in-Annotated.notes) c.term_form.ensures (c.in-Ok.is ∙ ap Ok c.in-Annotated.is) c.self.invariant in sym (ap term_kind (sym c.self.view_is ∙ s.1.1))
