use Rattle.std.proofs.Common.{rules, arith, length, ◌<◌}
use Rattle.sexp_core.proofs.OpenListItems.{list_ended_by, start_inside}
use Rattle.sexp_core.proofs.builder.end_list.Goals as goal

pub index-requires : goal.index-requires
index-requires c = let h = c.requires.inside in
    let e : c.in-Some.start < length c.args.items.now.items = start_inside h.0 _ _ _ _ (record { items = h.1; starts = h.2 }) c.in-Some.ensures.items in
    omega (arith, c.args.items.now.ok.0)

pub index_mut-requires : goal.index_mut-requires
index_mut-requires c = let h = c.requires.inside in
    let e : c.in-Some.start < length c.args.items.now.items = start_inside h.0 _ _ _ _ (record { items = h.1; starts = h.2 }) c.in-Some.ensures.items in
    omega (arith, c.args.items.now.ok.0)

pub returns : goal.returns
returns c = λ fs h. list_ended_by fs c.args.at _ _ _ _ _ _ _ c.index.result.now _ h c.in-Some.ensures.items
    c.pop.new.self.ok.0 c.is_empty.ensures (search (rules, c.args.items.now.ok.0)) c.opening-opened.ensures c.index.ensures
