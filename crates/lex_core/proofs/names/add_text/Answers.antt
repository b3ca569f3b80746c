use Rattle.std.proofs.Common.{◌≡◌, ap, sym, ◌∙◌, false, map}
use Rattle.std.specs.List.{list_any}
use Rattle.std.specs.Str.{bytes_eq}
use Rattle.std.proofs.lemmas.Bool.{cond-false}
use Rattle.lex_core.proofs.NameNumbers.{number_found, number_new, texts_found, texts_new}
use Rattle.lex_core.proofs.names.add_text.Goals as goal

pub returns-in-Some-clause-number : goal.returns-in-Some-clause-number
returns-in-Some-clause-number c = number_found (λ text. text.items) c.args.text.now c.args.texts.now.keys c.in-Some.index (sym c.in-Some.ensures.index)

pub returns-in-Some-clause-texts : goal.returns-in-Some-clause-texts
returns-in-Some-clause-texts c = texts_found (λ text. text.items) c.args.text.now c.args.texts.now.keys (sym c.in-Some.ensures.found)

pub returns-in_ok-insert-in-None-clause-number : goal.returns-in_ok-insert-in-None-clause-number
returns-in_ok-insert-in-None-clause-number c =
    c.len-index.ensures.len ∙ number_new (λ text. text.items) c.args.text.now c.args.texts.now.keys (sym c.in-None.ensures.found)

pub returns-in_ok-insert-in-None-clause-texts : goal.returns-in_ok-insert-in-None-clause-texts
returns-in_ok-insert-in-None-clause-texts c =
    let found : list_any (λ k. bytes_eq c.args.text.now k.items) c.args.texts.now.keys ≡ false = sym c.in-None.ensures.found in
    let same : c.in_ok-owned-in-None.owned.items ≡ c.args.text.now = c.in_ok-owned-in-None.ensures.items_if_clones_equal (λ x y e. e) in
    let absent : list_any (λ k. bytes_eq c.in_ok-owned-in-None.owned.items k.items) c.args.texts.now.keys ≡ false =
    ap (λ bs. list_any (λ k. bytes_eq bs k.items) c.args.texts.now.keys) same ∙ found in
    ap (map (λ text. text.items)) (c.in_ok-insert-in-None.ensures.keys ∙ cond-false _ _ _ absent)
    ∙ texts_new (λ text. text.items) c.args.text.now c.args.texts.now.keys c.in_ok-owned-in-None.owned same found
