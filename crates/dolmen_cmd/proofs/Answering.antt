-- A verdict whose text or line was put is an answer of a run.
use Rattle.std.proofs.Common.{◌≡◌, ◌≢◌, ℕ, ◌≤◌, ◌^◌, List, length, Option, None, Some, refl, sym, subst, inl, inr, ◌⊎◌, arith}
use Rattle.std.specs.Io.KnownBytes.{Keeps, Appends}
use Rattle.io_core.specs.Causes.{Rose}
use Rattle.io_core.specs.Writing.{IsFlushed}
use Rattle.dolmen_cmd.specs.declared.mode.Mode.TheVariants.{Check}
use Rattle.dolmen_cmd.specs.declared.status.Status.{Status}
use Rattle.dolmen_cmd.specs.declared.status.Status.TheVariants.{Done, Refused, Usage, ReadFault, WriteFault, NoMemory, TooLong}
use Rattle.dolmen_cmd.specs.declared.verdict.Verdict.{Verdict}
use Rattle.dolmen_cmd.specs.Lines.{line_of, ok_line}
use Rattle.dolmen_cmd.specs.Answer.{Input, Output, IsDue, Yields, IsWritten, IsPlain, Answers}
use Rattle.dolmen_cmd.specs.Verdicts.{IsVerdict}
use Rattle.dolmen_cmd.specs.Reports.{IsReported, IsFinished}

pub keeps_same : (bytes : Option (List ℕ)) → Keeps bytes bytes
keeps_same None = tt
keeps_same (Some bytes) = refl

-- a write fault is an answer where it is written down as one
write_fault : (input : Input) (out err : Output) (verdict : Verdict) → IsVerdict input verdict → IsWritten input out err WriteFault
    → ((Rose out.faults_before out.faults_after → ⊥) → (Rose err.faults_before err.faults_after → ⊥) → ⊥) → Answers input out err WriteFault
write_fault input out err verdict v written rose = record {
  cause = λ other. absurd (other refl);
  exact = λ due settled is_due. inr tt;
  written = written;
  complete = λ read_fault out_rose err_rose short. rose out_rose err_rose;
  bounded = v.bounded;
}

-- the text of an accepted script was put and flushed
done : (input : Input) (out err : Output) (verdict : Verdict) → IsVerdict input verdict → verdict.status ≡ Done
    → Appends out.before out.after (ok_line verdict.count) → IsFlushed out.after out.flushed → Keeps err.before err.after → Answers input out err Done
done input out err verdict v is_done text flush line = let accepted = v.counted is_done in record {
  cause = λ other. subst (λ (s : Status). IsDue input s) is_done v.due;
  exact = λ due settled is_due. subst (λ (s : Status). (s ≡ due) ⊎ Yields due s) is_done (v.exact due settled is_due);
  written = (
    Check,
    accepted.accepts.commands,
    record { asks = accepted.asks; whole = accepted.whole; accepts = accepted.accepts.accepts },
    subst (λ (n : ℕ). Appends out.before out.after (ok_line n)) accepted.accepts.counted text,
    flush,
    line,
  );
  complete = λ read_fault out_rose err_rose short. tt;
  bounded = v.bounded;
}

pub finished_answers : (input : Input) (out err : Output) (verdict : Verdict) (result : Status) → IsVerdict input verdict → verdict.status ≡ Done
    → Keeps err.before err.after → err.faults_after ≡ err.faults_before
    → IsFinished out.before out.after out.faults_before out.faults_after out.flushed verdict.count result → Answers input out err result
finished_answers input out err verdict result v is_done line same (inl took) =
    subst (λ (s : Status). Answers input out err s) (sym took.done) (done input out err verdict v is_done took.text took.flush line)
finished_answers input out err verdict result v is_done line same (inr lost) =
    subst (λ (s : Status). Answers input out err s) (sym lost.fault)
    (write_fault input out err verdict v (inl (record { rose = lost.rose; line = line; unfaulted = same })) (λ out_rose err_rose. out_rose lost.rose))

written_line : (input : Input) (out err : Output) (status : Status) → status ≢ Done → IsDue input status → Keeps out.before out.after
    → Appends err.before err.after (line_of status) → IsWritten input out err status
written_line input out err Done not_done due output line = absurd (not_done refl)
written_line input out err (Refused refusal) not_done due output line = (output, line)
written_line input out err Usage not_done due output line = (output, line)
written_line input out err ReadFault not_done due output line = (output, line)
written_line input out err WriteFault not_done due output line = absurd due
written_line input out err NoMemory not_done due output line = (output, line)
written_line input out err TooLong not_done due output line = (output, line)

due_plain : (input : Input) (status : Status) → IsDue input status → (Rose input.faults_before input.faults_after → ⊥) → length input.given ≤ 2 ^ 26 → IsPlain status
due_plain input Done due read_fault short = tt
due_plain input (Refused refusal) due read_fault short = tt
due_plain input Usage due read_fault short = tt
due_plain input ReadFault due read_fault short = read_fault due.1
due_plain input WriteFault due read_fault short = due
due_plain input NoMemory due read_fault short = tt
due_plain input TooLong due read_fault short = omega (arith, due.1, short)

-- the line of an answer that is due was put
reported : (input : Input) (out err : Output) (verdict : Verdict) → IsVerdict input verdict → verdict.status ≢ Done
    → Keeps out.before out.after → Appends err.before err.after (line_of verdict.status) → Answers input out err verdict.status
reported input out err verdict v not_done output line = record {
  cause = λ other. v.due;
  exact = v.exact;
  written = written_line input out err verdict.status not_done v.due output line;
  complete = λ read_fault out_rose err_rose short. due_plain input verdict.status v.due read_fault short;
  bounded = v.bounded;
}

pub reported_answers : (input : Input) (out err : Output) (verdict : Verdict) (result : Status) → IsVerdict input verdict → verdict.status ≢ Done
    → Keeps out.before out.after → IsReported err.before err.after err.faults_before err.faults_after verdict.status result → Answers input out err result
reported_answers input out err verdict result v not_done output (inl took) =
    subst (λ (s : Status). Answers input out err s) (sym took.same) (reported input out err verdict v not_done output took.line)
reported_answers input out err verdict result v not_done output (inr lost) =
    subst (λ (s : Status). Answers input out err s) (sym lost.fault) (write_fault input out err verdict v
    (inr (record { due = verdict.status; is_due = v.due; not_done = not_done; rose = lost.rose; line = lost.line; output = output }))
    (λ out_rose err_rose. err_rose lost.rose))
