use Rattle.std.proofs.Common.{◌++◌, ◌∷◌, ◌∙◌, [], subst}
use Rattle.port_words.proofs.lemmas.busy.TryLemmas.{tried_again, lets_again, heard_again}
use Rattle.port_words.specs.busy.Views.{seat_view}
use Rattle.port_words.specs.busy.Queue.{added}
use Rattle.port_words.specs.busy.Steps.{TellsQueue, adding, next_name}
use Rattle.port_words.specs.busy.Known.{send_known, weight_known}
use Rattle.port_words.proofs.busy.send.SendSeat.add_command.Goals as goal

pub returns-in-Ok : goal.returns-in-Ok
returns-in-Ok g c =
    let before = c.tries.invariant in
    let ok = c.in-Ok.ensures.ok in
    record {
      found = before.0;
      last = c.tries.word;
      tries = before.3;
      left = ok.0 ∙ (λ i. added (before.1 i).setup.limits c.tries.word c.args.n);
      permitted = lets_again c.args.how before.0 c.tries.word before.4 (c.is_refused.ensures.permitted c.if-is_refused.false);
      seat = ok.2 ∙ (λ i. send_known (before.1 i).table (before.1 i).setup (adding (before.1 i).sender c.args.how c.args.n c.in-Ok.msgq));
      tells = ok.3;
      weight_is = ok.1 ∙ (λ i. weight_known (before.1 i).table (next_name (before.1 i).sender.ledger c.args.n));
    }

pub tries-preserved : goal.tries-preserved
tries-preserved g c =
    let before = c.tries.invariant in
    let err = c.in-Err.ensures.err in
    let n = c.in-Err.found in
    let same = heard_again c.args.self.now c.tries.self c.try_add.new.self before.0 c.tries.word n before.1 err.1 in (
      before.0 ++ c.tries.word ∷ [],
      same,
      subst (λ k. TellsQueue (seat_view k.setup k.sender []) n) same err.2,
      tried_again before.0 c.tries.word n before.3 err.0,
      lets_again c.args.how before.0 c.tries.word before.4 (c.is_refused.ensures.permitted c.if-is_refused.false),
    )
