use Rattle.std.proofs.Common.{◌≡◌, ◌==◌, ◌&&◌, ◌∙◌, None, ap, length, sym}
use Rattle.std.proofs.lemmas.List.{length-map}
use Rattle.std.specs.Option.{option_copied, option_map}
use Rattle.sort_store.specs.Tree.{parts, tree}
use Rattle.term_store.specs.Command.{plain_datatype}
use Rattle.term_store.specs.Definitions.{datatype_at}
use Rattle.typer.specs.MatchRules.{Instance}
use Rattle.typer.proofs.MatchSteps.{none_found, other_arity, same_arity}
use Rattle.typer.proofs.patterns.datatype_of.Goals as goal

pub returns-in_err-datatype : goal.returns-in_err-datatype
returns-in_err-datatype c =
    let none : option_copied c.datatype.result ≡ None = ap option_copied c.in_err-datatype.was in
    ap (λ o. option_map plain_datatype (option_copied o)) c.from_residual.ensures
    ∙ sym (ap (option_map {T = Instance} (λ i. i.0)) (none_found c.args.script.now.defs.datatypes c.args.sort.now c.in-Data.no c.in-Data.name (sym c.head.ensures ∙ c.in-Data.is)
    (option_copied c.datatype.result) (c.datatype.ensures ∙ ap (λ k. datatype_at k c.in-Data.no) c.defs.ensures) none))

pub returns-then-not-has_arity : goal.returns-then-not-has_arity
returns-then-not-has_arity c =
    sym (ap (option_map {T = Instance} (λ i. i.0)) (other_arity c.args.script.now.defs.datatypes c.args.sort.now c.in-Data.no c.in-Data.name (sym c.head.ensures ∙ c.in-Data.is)
    c.in_ok-datatype.datatype.now (sym (ap option_copied c.in_ok-datatype.was) ∙ c.datatype.ensures ∙ ap (λ k. datatype_at k c.in-Data.no) c.defs.ensures) c.has_arity.result
    (c.has_arity.ensures ∙ ap (λ n. (c.in-Data.name == c.in_ok-datatype.datatype.now.name) && (n == length c.in_ok-datatype.datatype.now.params)) (c.arg_count.ensures ∙ sym (length-map (parts c.args.sort.now) tree)))
    c.if-not-has_arity.true))

pub returns : goal.returns
returns c =
    sym (ap (option_map {T = Instance} (λ i. i.0)) (same_arity c.args.script.now.defs.datatypes c.args.sort.now c.in-Data.no c.in-Data.name (sym c.head.ensures ∙ c.in-Data.is)
    c.in_ok-datatype.datatype.now (sym (ap option_copied c.in_ok-datatype.was) ∙ c.datatype.ensures ∙ ap (λ k. datatype_at k c.in-Data.no) c.defs.ensures) c.has_arity.result
    (c.has_arity.ensures ∙ ap (λ n. (c.in-Data.name == c.in_ok-datatype.datatype.now.name) && (n == length c.in_ok-datatype.datatype.now.params)) (c.arg_count.ensures ∙ sym (length-map (parts c.args.sort.now) tree)))
    c.if-not-has_arity.false))
