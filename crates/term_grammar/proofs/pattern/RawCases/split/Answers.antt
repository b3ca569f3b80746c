use Rattle.std.proofs.Common.{ap, sym, ◌∙◌}
use Rattle.sexp_core.specs.Parts.{whole}
use Rattle.sexp_core.specs.Sexp.{cons}
use Rattle.term_grammar.proofs.TermsSeen.{cases_end, case_atom, case_none, case_begin, pattern_seen}
use Rattle.term_grammar.proofs.pattern.RawCases.split.Goals as goal

pub returns-in_default : goal.returns-in_default
returns-in_default c = sym c.self.view_is ∙ cases_end _ c.in_default.ensures.first

pub returns-in_default-first : goal.returns-in_default-first
returns-in_default-first c =
    sym c.self.view_is
    ∙ case_atom _ c.in_default-first.field-0 c.in-Some.trees (c.in-Some.ensures.first ∙ ap (λ x. cons (whole x) c.in-Some.trees) c.in_default-first.is)

pub returns-in_default-case_parts : goal.returns-in_default-case_parts
returns-in_default-case_parts c =
    sym c.self.view_is
    ∙ case_none _ c.in-List.at c.in-List.parts c.in-Some.trees (c.in-Some.ensures.first ∙ ap (λ x. cons (whole x) c.in-Some.trees) c.in-List.is) (sym c.case_parts.ensures ∙ c.in_default-case_parts.is)

pub invariant_of-term : goal.invariant_of-term
invariant_of-term c =
    (case_begin _ c.in-List.at c.in-List.parts c.in-Some.trees c.in-Some-case_parts.head c.in-Some-case_parts.tree c.self.invariant
    (c.in-Some.ensures.first ∙ ap (λ x. cons (whole x) c.in-Some.trees) c.in-List.is) (sym c.case_parts.ensures ∙ c.in-Some-case_parts.is)).0

pub invariant_of-result : goal.invariant_of-result
invariant_of-result c =
    (case_begin _ c.in-List.at c.in-List.parts c.in-Some.trees c.in-Some-case_parts.head c.in-Some-case_parts.tree c.self.invariant
    (c.in-Some.ensures.first ∙ ap (λ x. cons (whole x) c.in-Some.trees) c.in-List.is) (sym c.case_parts.ensures ∙ c.in-Some-case_parts.is)).1.0

pub returns : goal.returns
returns c =
    sym c.self.view_is
    ∙ (case_begin _ c.in-List.at c.in-List.parts c.in-Some.trees c.in-Some-case_parts.head c.in-Some-case_parts.tree c.self.invariant
    (c.in-Some.ensures.first ∙ ap (λ x. cons (whole x) c.in-Some.trees) c.in-List.is) (sym c.case_parts.ensures ∙ c.in-Some-case_parts.is)).1.1

pub invariant_of-pattern : goal.invariant_of-pattern
invariant_of-pattern c = pattern_seen c.in-List.parts c.in-Some-case_parts.head c.in-Some-case_parts.tree (sym c.case_parts.ensures ∙ c.in-Some-case_parts.is)
