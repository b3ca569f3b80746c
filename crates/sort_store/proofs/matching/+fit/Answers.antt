use Rattle.std.proofs.Common.{◌≡◌, ◌≤◌, Some, None, true, rules, arith, length, ap, sym, ◌∙◌, refl}
use Rattle.sort_store.specs.Tree.{tree, trees, nodes, node}
use Rattle.sort_store.specs.Size.{size_of, size_of_all}
use Rattle.sort_store.specs.Instance.{param_of}
use Rattle.sort_store.specs.FitAnswers.{FitAnswer, FitAnswerEach, FitAnswerParam}
use Rattle.sort_store.specs.declared.sort_ref.SortNode.{SortNode}
use Rattle.sort_store.proofs.ArgumentLists.{size_at}
use Rattle.sort_store.proofs.MatchingLaws.{answer_more, answers_param, below_of, answers_shown, misfit_count, fits_shown, answers_node, params_each, answers_true, fitted_step, each_shown, params_count}
use Rattle.sort_store.proofs.matching.+fit.Goals as goal

pub fit-returns-in-Some : goal.fit-returns-in-Some
fit-returns-in-Some t c =
    let v = c.schema.inside.shared.value in
    let old = c.args.binding.now in
    let new = c.fit_param.new.binding in
    let s = c.args.schema.now in
    let r = c.args.sort.now in
    let i = c.in-Some.i in
    let p : param_of v.head ≡ Some i = search rules in
    answer_more (λ w. FitAnswerParam w old new i r) (λ w. FitAnswer w old new (tree s) r) c.fit_param.result
    (λ w a. answers_shown w old new s r (node v.number v.head (nodes v.args.items)) r c.schema.view_is refl
    (answers_param old v.head (trees (nodes v.args.items)) i r p (below_of (length old) s v.number v.head (nodes v.args.items) i c.schema.view_is p c.requires) w new a))
    c.fit_param.ensures

pub fit-returns-then-len : goal.fit-returns-then-len
fit-returns-then-len t c =
    let v = c.schema.inside.shared.value in
    let w = c.sort.inside.shared.value in
    let none : param_of v.head ≡ None = search rules in
    let a : c.len.result ≡ length v.args.items = search rules in
    let b : c.len-2.result ≡ length w.args.items = search rules in
    let n = λ (e : length v.args.items ≡ length w.args.items). c.if-len.true (a ∙ e ∙ sym b) in
    λ f. misfit_count c.args.binding.now v.head w.head v.args.items w.args.items none n
    (fits_shown c.args.binding.now c.args.schema.now c.args.sort.now (node v.number v.head (nodes v.args.items)) (node w.number w.head (nodes w.args.items)) c.schema.view_is c.sort.view_is f)

pub fit-returns : goal.fit-returns
fit-returns t c =
    let v = c.schema.inside.shared.value in
    let w = c.sort.inside.shared.value in
    let old = c.args.binding.now in
    let new = c.fit_each.new.binding in
    let s = c.args.schema.now in
    let r = c.args.sort.now in
    let none : param_of v.head ≡ None = search rules in
    let same : v.head ≡ w.head = search rules in
    let la : c.len.result ≡ length v.args.items = search rules in
    let lb : c.len-2.result ≡ length w.args.items = search rules in
    let count : length v.args.items ≡ length w.args.items = sym la ∙ c.if-len.false ∙ lb in
    let a : c.deref-7.result.now ≡ v.args.items = c.deref-7.ensures.value ∙ ap (λ (x : SortNode). x.args.items) c.deref-6.ensures in
    let b : c.deref-9.result.now ≡ w.args.items = c.deref-9.ensures.value ∙ ap (λ (x : SortNode). x.args.items) c.deref-8.ensures in
    answer_more (λ q. FitAnswerEach q old new c.deref-7.result.now c.deref-9.result.now) (λ q. FitAnswer q old new (tree s) r) c.fit_each.result
    (λ q f. answers_shown q old new s r (node v.number v.head (nodes v.args.items)) (node w.number w.head (nodes w.args.items)) c.schema.view_is c.sort.view_is
    (answers_node q old new v.head w.head w.number v.args.items w.args.items none same count (each_shown q old new c.deref-7.result.now c.deref-9.result.now v.args.items w.args.items a b f)))
    c.fit_each.ensures

pub fit_each-fit-requires : goal.fit_each-fit-requires
fit_each-fit-requires t c =
    let xs = c.args.schemas.now in
    let i = c.loop-i.i in
    let x = c.index-schemas-i.result in
    let p = params_each (length c.args.binding.now) xs i x c.loop-i-test.true c.index-schemas-i.is c.requires.params in
    let below : size_of x ≤ size_of_all xs = omega (arith, ap size_of c.index-schemas-i.is, size_at xs i x c.loop-i-test.true) in
    (search (rules, below), params_count (length c.args.binding.now) (length c.loop-i.binding) (tree x) c.loop-i.invariant.count p)

pub fit_each-loop-i-preserved : goal.fit_each-loop-i-preserved
fit_each-loop-i-preserved t c =
    let xs = c.args.schemas.now in
    let ys = c.args.sorts.now in
    let i = c.loop-i.i in
    let x = c.index-schemas-i.result in
    let y = c.index-sorts-i.result in
    let w : c.in_ok-fit.field-0 ≡ true = search rules in
    fitted_step xs ys i x y c.args.binding.now c.loop-i.binding c.loop-i.invariant c.index-schemas-i.is c.index-sorts-i.is c.loop-i-test.true (omega arith) c.fit.new.binding
    (answers_true c.in_ok-fit.field-0 c.loop-i.binding c.fit.new.binding (tree x) y w c.in_ok-fit.ensures)
