use Rattle.port_signal.proofs.Names.{IsUtf8-name_fault}
use Rattle.port_signal.proofs.name.Reason.as_str.Goals as goal

pub unreachable-requires : goal.unreachable-requires
unreachable-requires c =
    c.in-Err.ensures.cases.0 (IsUtf8-name_fault _ (rw c.as_bytes.ensures.value c.as_bytes.ensures.name))
