use Rattle.std.proofs.Common.{arith}
use Rattle.script_core.proofs.TakingBytes.{Faults, Feeds, before_awaited, before_exits, before_refused, byte_exits, byte_refused, byte_taken, fault_refused, fed_awaited, short_builder}
use Rattle.script_core.proofs.checker.Checker.take_byte.Goals as goal

-- what the lexer says of the tokens of the byte
feeds : (c : goal.After-take_fed) → Feeds c.args.self.now c.args.byte c.in-Ok.fed c.feed-fed.new.names c.feed-fed.new.self
feeds c = record {
  reads = c.in-Ok.ensures.tokens;
  keeps = c.feed-fed.ensures.names;
  table = c.known_table.ensures;
  gain = c.in-Ok.ensures.gain;
  first = c.in-Ok.ensures.interned.0;
  second = c.in-Ok.ensures.interned.1;
}

pub take_fed-requires-clause-awaits : goal.take_fed-requires-clause-awaits
take_fed-requires-clause-awaits c =
    let h = c.requires.taken.1 in
    let l : Feeds c.args.self.now c.args.byte c.in-Ok.fed c.feed-fed.new.names c.feed-fed.new.self = record {
      reads = c.in-Ok.ensures.tokens;
      keeps = c.feed-fed.ensures.names;
      table = c.known_table.ensures;
      gain = c.in-Ok.ensures.gain;
      first = c.in-Ok.ensures.interned.0;
      second = c.in-Ok.ensures.interned.1;
    } in
    (h.tokens, fed_awaited c.requires.taken.0 c.args.self.now c.args.byte c.in-Ok.fed c.feed-fed.new.names c.feed-fed.new.self h l)

pub take_fed-requires-clause-short : goal.take_fed-requires-clause-short
take_fed-requires-clause-short c = omega (arith, short_builder c.requires.taken.0 c.args.self.now c.requires.taken.1, c.requires.taken.2)

pub take_option-requires-clause-awaits : goal.take_option-requires-clause-awaits
take_option-requires-clause-awaits c =
    let h = c.requires.taken.1 in
    let fault = c.in-Err-Fault in
    let l : Faults c.args.self.now c.args.byte fault.fault.before fault.fault.place c.feed-fed.new.names = record {
      faults = rw fault.field-0-is at fault.ensures.fault;
      keeps = c.feed-fed.ensures.names;
      table = c.known_table.ensures;
      gain = rw fault.field-0-is at fault.ensures.gain;
      interned = rw fault.field-0-is at fault.ensures.interned;
    } in
    (h.tokens, before_awaited c.requires.taken.0 c.args.self.now c.args.byte fault.fault.before fault.fault.place c.feed-fed.new.names c.feed-fed.new.self h l)

pub take_option-requires-clause-short : goal.take_option-requires-clause-short
take_option-requires-clause-short c = omega (arith, short_builder c.requires.taken.0 c.args.self.now c.requires.taken.1, c.requires.taken.2)

pub returns-in-Ok-clause-more : goal.returns-in-Ok-clause-more
returns-in-Ok-clause-more c = let fed = c.take_fed.ensures in
    byte_taken c.args.self.now c.take_fed.new.self c.args.byte c.in-Ok.fed c.feed-fed.new.names c.feed-fed.new.self c.take_fed.result (feeds c) fed.more fed.same.0 fed.same.1 fed.counted

pub returns-in-Ok-clause-ended : goal.returns-in-Ok-clause-ended
returns-in-Ok-clause-ended c =
    byte_exits c.args.self.now c.take_fed.new.self c.args.byte c.in-Ok.fed c.feed-fed.new.names c.feed-fed.new.self c.take_fed.result (feeds c) c.take_fed.ensures.ended

pub returns-in-Ok-clause-refused : goal.returns-in-Ok-clause-refused
returns-in-Ok-clause-refused c =
    byte_refused c.args.self.now c.args.byte c.in-Ok.fed c.feed-fed.new.names c.feed-fed.new.self _ c.take_fed.result (feeds c) c.take_fed.ensures.refused

pub returns-in-Ok-More-clause-refused : goal.returns-in-Ok-More-clause-refused
returns-in-Ok-More-clause-refused c = let fault = c.in-Err-Fault in
    let l : Faults c.args.self.now c.args.byte fault.fault.before fault.fault.place c.feed-fed.new.names = record {
      faults = rw fault.field-0-is at fault.ensures.fault;
      keeps = c.feed-fed.ensures.names;
      table = c.known_table.ensures;
      gain = rw fault.field-0-is at fault.ensures.gain;
      interned = rw fault.field-0-is at fault.ensures.interned;
    } in
    fault_refused c.args.self.now c.take_option.new.self c.args.byte fault.fault.before fault.fault.place c.feed-fed.new.names c.feed-fed.new.self c.refusal.result l
    (rw c.in-Ok-More.field-0-is at c.in-Ok-More.ensures.more) c.refusal.ensures

pub returns-in-Ok-Ended-clause-ended : goal.returns-in-Ok-Ended-clause-ended
returns-in-Ok-Ended-clause-ended c = let fault = c.in-Err-Fault in
    let l : Faults c.args.self.now c.args.byte fault.fault.before fault.fault.place c.feed-fed.new.names = record {
      faults = rw fault.field-0-is at fault.ensures.fault;
      keeps = c.feed-fed.ensures.names;
      table = c.known_table.ensures;
      gain = rw fault.field-0-is at fault.ensures.gain;
      interned = rw fault.field-0-is at fault.ensures.interned;
    } in
    before_exits c.args.self.now c.args.byte fault.fault.before fault.fault.place c.feed-fed.new.names c.feed-fed.new.self _ l
    (rw c.in-Ok-Ended.field-0-is at c.in-Ok-Ended.ensures.ended)

pub returns-in-Err-clause-refused : goal.returns-in-Err-clause-refused
returns-in-Err-clause-refused c = let fault = c.in-Err-Fault in
    let l : Faults c.args.self.now c.args.byte fault.fault.before fault.fault.place c.feed-fed.new.names = record {
      faults = rw fault.field-0-is at fault.ensures.fault;
      keeps = c.feed-fed.ensures.names;
      table = c.known_table.ensures;
      gain = rw fault.field-0-is at fault.ensures.gain;
      interned = rw fault.field-0-is at fault.ensures.interned;
    } in
    before_refused c.args.self.now c.args.byte fault.fault.before fault.fault.place c.feed-fed.new.names c.feed-fed.new.self _ c.in-Err.stop l c.in-Err.ensures.refused
