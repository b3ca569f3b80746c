use Rattle.std.proofs.Common.{map, ap, sym, ◌∙◌}
use Rattle.cmd_grammar.specs.declared.datatype_dec.RawDataDecKind.TheVariants as kind
use Rattle.cmd_grammar.specs.TreeLists.{each_tree}
use Rattle.cmd_grammar.specs.DeclarationReads.{constructor_dec_of}
use Rattle.cmd_grammar.specs.DeclarationViews.{data_dec_kind}
use Rattle.cmd_grammar.proofs.ReadAll.{parametric_seen, plain_seen}
use Rattle.cmd_grammar.proofs.datatype_dec.RawDataDec.kind.Goals as goal

pub invariant_of-constructors : goal.invariant_of-constructors
invariant_of-constructors c =
    (parametric_seen c.self.inside.tree c.in-List.at c.in-List.parts (c.in-Some.params, c.in-Some.trees) c.in-List.is (sym c.parametric_parts.ensures ∙ c.in-Some.is) c.self.invariant).0

pub invariant_of-constructors-in-None : goal.invariant_of-constructors-in-None
invariant_of-constructors-in-None c =
    (plain_seen c.self.inside.tree c.in-List.at c.in-List.parts c.reborrow-trees.result c.in-List.is (sym c.parametric_parts.ensures ∙ c.in-None.is) c.reborrow-trees.ensures c.self.invariant).0

pub returns-in-Some : goal.returns-in-Some
returns-in-Some c =
    let m = parametric_seen c.self.inside.tree c.in-List.at c.in-List.parts (c.in-Some.params, c.in-Some.trees) c.in-List.is (sym c.parametric_parts.ensures ∙ c.in-Some.is) c.self.invariant in
    ap (λ ps. kind.Parametric ps (map constructor_dec_of (each_tree c.in-Some.trees))) c.of-params.ensures ∙ ap data_dec_kind (sym m.1 ∙ c.self.view_is)

pub returns-in-None : goal.returns-in-None
returns-in-None c =
    let m = plain_seen c.self.inside.tree c.in-List.at c.in-List.parts c.reborrow-trees.result c.in-List.is (sym c.parametric_parts.ensures ∙ c.in-None.is) c.reborrow-trees.ensures c.self.invariant in
    ap data_dec_kind (sym m.1 ∙ c.self.view_is)
