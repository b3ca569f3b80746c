use Rattle.std.proofs.Common.{ap, sym, ◌∙◌}
use Rattle.sexp_core.specs.Parts.{whole}
use Rattle.sexp_core.specs.Sexp.{cons}
use Rattle.term_grammar.proofs.TermsSeen.{bindings_end, binding_atom, binding_none, binding_begin}
use Rattle.term_grammar.proofs.binder.RawBindings.split.Goals as goal

pub returns-in_default : goal.returns-in_default
returns-in_default c = sym c.self.view_is ∙ bindings_end _ c.in_default.ensures.first

pub returns-in_default-first : goal.returns-in_default-first
returns-in_default-first c =
    sym c.self.view_is
    ∙ binding_atom _ c.in_default-first.field-0 c.in-Some.trees (c.in-Some.ensures.first ∙ ap (λ x. cons (whole x) c.in-Some.trees) c.in_default-first.is)

pub returns-in_default-named_parts : goal.returns-in_default-named_parts
returns-in_default-named_parts c =
    sym c.self.view_is
    ∙ binding_none _ c.in-List.at c.in-List.parts c.in-Some.trees (c.in-Some.ensures.first ∙ ap (λ x. cons (whole x) c.in-Some.trees) c.in-List.is) (sym c.named_parts.ensures ∙ c.in_default-named_parts.is)

pub invariant_of-term : goal.invariant_of-term
invariant_of-term c =
    (binding_begin _ c.in-List.at c.in-List.parts c.in-Some.trees c.in-Some-named_parts.name c.in-Some-named_parts.tree c.self.invariant
    (c.in-Some.ensures.first ∙ ap (λ x. cons (whole x) c.in-Some.trees) c.in-List.is) (sym c.named_parts.ensures ∙ c.in-Some-named_parts.is)).0

pub invariant_of-result : goal.invariant_of-result
invariant_of-result c =
    (binding_begin _ c.in-List.at c.in-List.parts c.in-Some.trees c.in-Some-named_parts.name c.in-Some-named_parts.tree c.self.invariant
    (c.in-Some.ensures.first ∙ ap (λ x. cons (whole x) c.in-Some.trees) c.in-List.is) (sym c.named_parts.ensures ∙ c.in-Some-named_parts.is)).1.0

pub returns : goal.returns
returns c =
    sym c.self.view_is
    ∙ (binding_begin _ c.in-List.at c.in-List.parts c.in-Some.trees c.in-Some-named_parts.name c.in-Some-named_parts.tree c.self.invariant
    (c.in-Some.ensures.first ∙ ap (λ x. cons (whole x) c.in-Some.trees) c.in-List.is) (sym c.named_parts.ensures ∙ c.in-Some-named_parts.is)).1.1
