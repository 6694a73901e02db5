use Rattle.gateway.proofs.writing.put_out.Goals as goal

pub write_summary-requires : goal.write_summary-requires
write_summary-requires g c = λ k d below. (c.requires.ended k d below).known
