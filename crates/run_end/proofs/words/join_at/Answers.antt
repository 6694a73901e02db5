use Rattle.std.proofs.Common.{refl}
use Rattle.std.proofs.lemmas.List.{get_or_read}
use Rattle.run_end.proofs.Rows.{joins_at}
use Rattle.run_end.proofs.words.join_at.Goals as goal

pub returns : goal.returns
returns c = joins_at c.args.place c.args.seats.items c.args.ports.now.items _ c.index_mut.result.now c.join_seats.new.port c.requires.place
    (λ d. get_or_read c.args.ports.now.items c.args.place c.index_mut.result.now c.requires.place c.index_mut.ensures.value d) refl c.join_seats.ensures
