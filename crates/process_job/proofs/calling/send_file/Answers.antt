use Rattle.std.proofs.Common.{◌<◌, [], ◌∷◌, List, map, take, drop, sym, ap, ◌∙◌, subst, true, false, ℕ}
use Rattle.process_end.specs.process_receipts.Asks.{Asked, asked}
use Rattle.process_end.specs.Commanded.{command_of}
use Rattle.process_job.specs.declared.action.CommandForm.{CommandForm}
use Rattle.process_job.specs.Asks.{pieces, vector_of}
use Rattle.process_job.specs.Actions.{ask_by, file_asks}
use Rattle.process_job.specs.Going.{ProcessState, state}
use Rattle.process_job.specs.Steps.{MakesCommand}
use Rattle.process_job.proofs.Seating.{after_halt, halted_then, ports_kept, seats_none, seats_then}
use Rattle.process_job.proofs.Made.{HasSentOf, some_bytes, not_false, not_true, pieces_more, sent_last, sent_more, sent_none}
use Rattle.process_job.proofs.calling.send_file.Goals as goal

pub pieces-init : goal.pieces-init
pieces-init g c = record {
  seats = seats_none c.args.seats.now c.requires.ports.homes;
  ports = rw c.make_room.ensures.proc c.requires.ports;
  inside = rw c.make_room.ensures.proc c.requires.port;
  sent = rw (c.make_room.ensures.proc, c.make_room.ensures.log) (sent_none (file_asks c.args.file) (state c.args.proc c.args.log.now));
}

pub returns-in_err-after-clause-seats : goal.returns-in_err-after-clause-seats
returns-in_err-after-clause-seats g c =
    after_halt c.from_residual-in_err-after.result c.in_err-after.field-0.0 c.args.seats.now c.send_command.new.seats c.from_residual-in_err-after.ensures.1
    (halted_then c.in_err-after.field-0.0 c.args.seats.now c.pieces.seats c.send_command.new.seats c.pieces.invariant.seats c.in_err-after.ensures.seats)

pub returns-then-not-after-clause-seats : goal.returns-then-not-after-clause-seats
returns-then-not-after-clause-seats g c = seats_then [] c.args.seats.now c.pieces.seats c.send_command.new.seats c.pieces.invariant.seats c.in_ok-after.ensures.seats

pub returns-then-not-after-clause-calls : goal.returns-then-not-after-clause-calls
returns-then-not-after-clause-calls g c =
    let form : CommandForm = c.args.file.form in
    let size : ℕ = c.args.file.size in
    let content : List ℕ = c.pieces.content in
    let ask : Asked = ask_by form (take size content) in
    let rest : List Asked = map (ask_by form) (pieces size (drop size content)) in
    let one : ProcessState = state c.args.proc c.args.log.now in
    let two : ProcessState = state c.pieces.sender c.pieces.log in
    let three : ProcessState = state c.in_ok-after.after.proc c.send_command.new.log in
    let so_far : HasSentOf (file_asks c.args.file) (ask ∷ rest) one two =
    subst (λ ps. HasSentOf (file_asks c.args.file) (map (ask_by form) ps) one two) (pieces_more size content c.requires.size (some_bytes c.is_empty.result content c.is_empty.ensures c.pieces-test.true)) c.pieces.invariant.sent in
    let made : MakesCommand ask two three c.in_ok-after.after.more =
    subst (λ p. MakesCommand (asked form.line form.port (command_of form.how p) form.how) two three c.in_ok-after.after.more)
    (c.payload_of.ensures ∙ ap vector_of c.in_ok-bytes.ensures.piece) c.in_ok-after.ensures.call in
    sent_last (file_asks c.args.file) rest ask one two three c.in_ok-after.after.more so_far made (not_true c.in_ok-after.after.more c.if-not-after.true)

pub pieces-preserved : goal.pieces-preserved
pieces-preserved g c =
    let form : CommandForm = c.args.file.form in
    let size : ℕ = c.args.file.size in
    let content : List ℕ = c.pieces.content in
    let ask : Asked = ask_by form (take size content) in
    let rest : List Asked = map (ask_by form) (pieces size (drop size content)) in
    let one : ProcessState = state c.args.proc c.args.log.now in
    let two : ProcessState = state c.pieces.sender c.pieces.log in
    let three : ProcessState = state c.in_ok-after.after.proc c.send_command.new.log in
    let so_far : HasSentOf (file_asks c.args.file) (ask ∷ rest) one two =
    subst (λ ps. HasSentOf (file_asks c.args.file) (map (ask_by form) ps) one two) (pieces_more size content c.requires.size (some_bytes c.is_empty.result content c.is_empty.ensures c.pieces-test.true)) c.pieces.invariant.sent in
    let made : MakesCommand ask two three c.in_ok-after.after.more =
    subst (λ p. MakesCommand (asked form.line form.port (command_of form.how p) form.how) two three c.in_ok-after.after.more)
    (c.payload_of.ensures ∙ ap vector_of c.in_ok-bytes.ensures.piece) c.in_ok-after.ensures.call in
    let many = made.makes.goes.ports.lanes_many in
    record {
      seats = seats_then [] c.args.seats.now c.pieces.seats c.send_command.new.seats c.pieces.invariant.seats c.in_ok-after.ensures.seats;
      ports = ports_kept [] c.pieces.seats c.send_command.new.seats c.pieces.sender c.in_ok-after.after.proc c.in_ok-after.ensures.seats c.pieces.invariant.ports many;
      inside = subst (λ n. form.port < n) (sym many) c.pieces.invariant.inside;
      sent = subst (λ l. HasSentOf (file_asks c.args.file) (map (ask_by form) (pieces size l)) one three) (sym c.in_ok-bytes.ensures.rest)
          (sent_more (file_asks c.args.file) rest ask one two three c.in_ok-after.after.more so_far made (not_false c.in_ok-after.after.more c.if-not-after.false));
    }
