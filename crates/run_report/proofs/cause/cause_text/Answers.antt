use Rattle.std.proofs.Common.{refl, append_assoc}
use Rattle.run_report.specs.Cause.{cause_text_of}
use Rattle.run_report.proofs.cause.cause_text.Goals as goal
use Rattle.run_report.proofs.cause.cause_text.Goals.{in-Done, in-Usage+in_ok-text-in-Usage, in-Script+in_ok-text-in-Script, in-ReadFault+in_ok-text-in-ReadFault, in-WriteFault+in_ok-text-in-WriteFault, in-NoDriver+in_ok-text-in-NoDriver, in-StartRefused+in_ok-text-in-StartRefused, in-PollFault+in_ok-text-in-PollFault, in-NoMemory+in_ok-text-in-NoMemory, in-Illegal+in_ok-text-in-Illegal, in-Limit+in_ok-text-in-Limit, in-JournalText+in_ok-text-in-JournalText}

pub returns : goal.returns
unfolding cause_text_of
returns c =
    rw c.into_bytes.ensures.value (elim c.match-cause.branch [
      | in-Done w ↦ rw (w.text-is, w.in-Done.is) w.new-text.ensures.bytes
      | in-Usage+in_ok-text-in-Usage w ↦ rw (w.text-is, w.in_ok-text-in-Usage.ensures.ok, w.in-Usage.is) refl
      | in-Script+in_ok-text-in-Script w ↦ rw (w.text-is, w.in_ok-text-in-Script.ensures, w.in-Script.is) refl
      | in-ReadFault+in_ok-text-in-ReadFault w ↦ rw (w.text-is, w.in_ok-text-in-ReadFault.ensures.ok, w.in-ReadFault.is) refl
      | in-WriteFault+in_ok-text-in-WriteFault w ↦ rw (w.text-is, w.in_ok-text-in-WriteFault.ensures.ok, w.in-WriteFault.is) refl
      | in-NoDriver+in_ok-text-in-NoDriver w ↦ rw (w.text-is, w.in_ok-text-in-NoDriver.ensures.ok, w.in-NoDriver.is) (simp append_assoc)
      | in-StartRefused+in_ok-text-in-StartRefused w ↦ rw (w.text-is, w.in_ok-text-in-StartRefused.ensures.ok, w.refusal_text-refusal.ensures, w.in-StartRefused.is) (simp append_assoc)
      | in-PollFault+in_ok-text-in-PollFault w ↦ rw (w.text-is, w.in_ok-text-in-PollFault.ensures.ok, w.in-PollFault.is) refl
      | in-NoMemory+in_ok-text-in-NoMemory w ↦ rw (w.text-is, w.in_ok-text-in-NoMemory.ensures.ok, w.in-NoMemory.is) refl
      | in-Illegal+in_ok-text-in-Illegal w ↦ rw (w.text-is, w.in_ok-text-in-Illegal.ensures.ok, w.in-Illegal.is) (simp append_assoc)
      | in-Limit+in_ok-text-in-Limit w ↦ rw (w.text-is, w.in_ok-text-in-Limit.ensures.ok, w.in-Limit.is) refl
      | in-JournalText+in_ok-text-in-JournalText w ↦ rw (w.text-is, w.in_ok-text-in-JournalText.ensures.ok, w.in-JournalText.is) refl
    ])
