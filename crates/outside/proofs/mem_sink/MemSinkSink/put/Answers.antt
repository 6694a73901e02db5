use Rattle.std.proofs.Common.{inl, inr, [], Some, take, drop, refl, sym, ap, rules}
use Rattle.std.proofs.lemmas.List.{take-append-drop, append-nil}
use Rattle.outside.proofs.mem_sink.MemSinkSink.put.Goals as goal

-- the bytes are the part that was taken and the rest
pub returns-then-next_fails-clause-put : goal.returns-then-next_fails-clause-put
returns-then-next_fails-clause-put c =
    let part = c.self.inside.part in
    let bytes = c.args.bytes.now in (
      search rules,
      elim c.append_part.ensures.part [
        | inl took ↦ (take part bytes, drop part bytes, sym (take-append-drop part bytes), ap Some (rw (← c.self.view_is) took.written))
        | inr none ↦ ([], bytes, refl, ap Some (rw (← c.self.view_is, append-nil) none.written))
      ],
    )
