use Rattle.std.proofs.Common.{sym, ◌∙◌, refl}
use Rattle.term_store.specs.Command.{plain_command}
use Rattle.logic_frag.proofs.OtherArrays.{in_declarations, terms_answer}
use Rattle.logic_frag.proofs.arrays.has_array_outside.Goals as goal

pub returns-then-declares_array : goal.returns-then-declares_array
returns-then-declares_array c =
    let found = sym c.declares_array.ensures ∙ c.if-declares_array.true in
    (λ t. in_declarations c.args.part (plain_command c.args.command.now) found, λ h. refl)

pub returns : goal.returns
returns c =
    let none = sym c.declares_array.ensures ∙ c.if-declares_array.false in
    terms_answer c.args.part (plain_command c.args.command.now) c.has_term_outside.result none c.has_term_outside.ensures
