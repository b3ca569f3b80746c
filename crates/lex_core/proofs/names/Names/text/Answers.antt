use Rattle.std.proofs.lemmas.List.{get_or-map, length-map}
use Rattle.std.proofs.Common.{◌≡◌, ◌<◌, length, get_or, [], ap, sym, ◌∙◌, arith}
use Rattle.lex_core.proofs.NameNumbers.{number_at}
use Rattle.lex_core.specs.NameTable.{number_of, texts_of}
use Rattle.lex_core.proofs.names.Names.text.Goals as goal

pub returns-clause-number : goal.returns-clause-number
returns-clause-number c =
    let keys = c.self.inside.texts.keys in
    let below : c.id.inside.number < length (texts_of c.self.inside.texts) = omega (arith, ap length c.self.view_is, c.id.view_is, c.requires) in
    let key = c.index-as_slice-id.result in
    let in_keys : c.id.inside.number < length keys = omega (arith, length-map keys (λ text. text.items), below) in
    let same : key ≡ get_or keys c.id.inside.number key = c.index-as_slice-id.is ∙ ap (λ xs. get_or xs c.id.inside.number key) c.as_slice.ensures.keys in
    let here : c.as_slice-2.result.now ≡ get_or (texts_of c.self.inside.texts) c.id.inside.number [] =
    c.as_slice-2.ensures.value ∙ ap (λ text. text.items) same ∙ sym (get_or-map (λ text. text.items) keys c.id.inside.number key [] in_keys) in
    ap (λ texts. number_of c.as_slice-2.result.now texts) (sym c.self.view_is) ∙ ap (λ text. number_of text (texts_of c.self.inside.texts)) here
    ∙ number_at (texts_of c.self.inside.texts) c.id.inside.number c.self.invariant.distinct below ∙ c.id.view_is
