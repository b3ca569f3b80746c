use Rattle.std.proofs.Common.{arith, refl}
use Rattle.script_core.proofs.TakingBytes.{Lefts, end_accepted, end_refused, left_awaited, left_exits, left_refused, open_refused, short_builder}
use Rattle.script_core.proofs.checker.Checker.take_end.Goals as goal

pub take_option-requires-clause-awaits : goal.take_option-requires-clause-awaits
take_option-requires-clause-awaits c =
    let h = c.requires.taken.1 in
    let l : Lefts c.args.self.now c.in-Ok.left c.finish-left.new.names = record {
      lexes = c.in-Ok.ensures.lexes;
      keeps = c.finish-left.ensures.names;
      table = c.known_table.ensures;
      gain = c.in-Ok.ensures.gain;
      interned = c.in-Ok.ensures.interned;
    } in
    (h.tokens, left_awaited c.requires.taken.0 c.args.self.now c.in-Ok.left c.finish-left.new.names c.finish-left.new.self h l)

pub take_option-requires-clause-short : goal.take_option-requires-clause-short
take_option-requires-clause-short c = omega (arith, short_builder c.requires.taken.0 c.args.self.now c.requires.taken.1, c.requires.taken.2)

pub finish-requires : goal.finish-requires
finish-requires c =
    let h = c.requires.taken.1 in
    let l : Lefts c.args.self.now c.in-Ok.left c.finish-left.new.names = record {
      lexes = c.in-Ok.ensures.lexes;
      keeps = c.finish-left.ensures.names;
      table = c.known_table.ensures;
      gain = c.in-Ok.ensures.gain;
      interned = c.in-Ok.ensures.interned;
    } in
    ((rw c.in-Ok-More.field-0-is at c.in-Ok-More.ensures.more) h.tokens
    (left_awaited c.requires.taken.0 c.args.self.now c.in-Ok.left c.finish-left.new.names c.finish-left.new.self h l)).no_error

pub returns-in-Ok-finish-clause-ok : goal.returns-in-Ok-finish-clause-ok
returns-in-Ok-finish-clause-ok c =
    let l : Lefts c.args.self.now c.in-Ok.left c.finish-left.new.names = record {
      lexes = c.in-Ok.ensures.lexes;
      keeps = c.finish-left.ensures.names;
      table = c.known_table.ensures;
      gain = c.in-Ok.ensures.gain;
      interned = c.in-Ok.ensures.interned;
    } in
    end_accepted c.args.self.now c.take_option.new.self c.finish-left.new.names c.finish-left.new.self c.in-Ok.left l
    (rw c.in-Ok-More.field-0-is at c.in-Ok-More.ensures.more) (c.in-Ok-finish.ensures.ok.0 refl)

pub returns-in-Err-finish-clause-refused : goal.returns-in-Err-finish-clause-refused
returns-in-Err-finish-clause-refused c =
    let l : Lefts c.args.self.now c.in-Ok.left c.finish-left.new.names = record {
      lexes = c.in-Ok.ensures.lexes;
      keeps = c.finish-left.ensures.names;
      table = c.known_table.ensures;
      gain = c.in-Ok.ensures.gain;
      interned = c.in-Ok.ensures.interned;
    } in
    open_refused c.args.self.now c.take_option.new.self c.finish-left.new.names c.finish-left.new.self c.in-Ok.left c.in-Err-finish.place c.refusal.result l
    (rw c.in-Ok-More.field-0-is at c.in-Ok-More.ensures.more) c.in-Err-finish.ensures.unclosed c.refusal.ensures

pub returns-in-Ok-Ended-clause-ok : goal.returns-in-Ok-Ended-clause-ok
returns-in-Ok-Ended-clause-ok c =
    let l : Lefts c.args.self.now c.in-Ok.left c.finish-left.new.names = record {
      lexes = c.in-Ok.ensures.lexes;
      keeps = c.finish-left.ensures.names;
      table = c.known_table.ensures;
      gain = c.in-Ok.ensures.gain;
      interned = c.in-Ok.ensures.interned;
    } in
    left_exits c.args.self.now c.finish-left.new.names c.finish-left.new.self c.in-Ok.left _ l
    (rw c.in-Ok-Ended.field-0-is at c.in-Ok-Ended.ensures.ended)

pub returns-in-Err-clause-refused : goal.returns-in-Err-clause-refused
returns-in-Err-clause-refused c =
    let l : Lefts c.args.self.now c.in-Ok.left c.finish-left.new.names = record {
      lexes = c.in-Ok.ensures.lexes;
      keeps = c.finish-left.ensures.names;
      table = c.known_table.ensures;
      gain = c.in-Ok.ensures.gain;
      interned = c.in-Ok.ensures.interned;
    } in
    left_refused c.args.self.now c.finish-left.new.names c.finish-left.new.self c.in-Ok.left _ c.in-Err.stop l c.in-Err.ensures.refused

pub returns-in-Err-Fault-clause-refused : goal.returns-in-Err-Fault-clause-refused
returns-in-Err-Fault-clause-refused c = let fault = c.in-Err-Fault in
    end_refused c.args.self.now fault.fault.place c.refusal-in-Err-Fault.result (rw fault.field-0-is at fault.ensures.fault) c.refusal-in-Err-Fault.ensures
