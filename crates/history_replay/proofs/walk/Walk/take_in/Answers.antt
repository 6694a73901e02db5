use Rattle.history_replay.proofs.Steps.{takes-handled, takes-late, takes-listed, takes-resumed, takes-mark}
use Rattle.history_replay.proofs.walk.Walk.take_in.Goals as goal

pub returns-in_ok-note_handled-in-Handled : goal.returns-in_ok-note_handled-in-Handled
returns-in_ok-note_handled-in-Handled c =
    let row = c.in-Handled in
    takes-handled c.args.row.now row.from row.seq row.task row.outside row.effects c.as_slice.result.now c.signal.result.now c.args.closing c.args.self.now.state c.note_handled.new.self
    c.args.self.now.driver row.is c.signal.ensures c.as_slice.ensures.items c.in_ok-note_handled-in-Handled.ensures

pub returns-in_ok-note_late-in-Late : goal.returns-in_ok-note_late-in-Late
returns-in_ok-note_late-in-Late c =
    let row = c.in-Late in
    takes-late c.args.row.now row.from row.seq row.task c.signal-in-Late.result.now c.args.closing c.args.self.now.state c.note_late.new.self c.args.self.now.driver row.is
    c.signal-in-Late.ensures c.in_ok-note_late-in-Late.ensures

pub returns-in_ok-note_listed-in-Listed : goal.returns-in_ok-note_listed-in-Listed
returns-in_ok-note_listed-in-Listed c =
    takes-listed c.args.row.now c.in-Listed.from c.in-Listed.seq c.args.closing c.args.self.now.state c.note_listed.new.self c.args.self.now.driver c.in-Listed.is
    c.in_ok-note_listed-in-Listed.ensures

pub returns-in-Resumed : goal.returns-in-Resumed
returns-in-Resumed c =
    takes-resumed c.args.row.now c.in-Resumed.from c.in-Resumed.seq c.in-Resumed.word c.args.closing c.args.self.now.state c.note_resumed.new.self c.args.self.now.driver c.in-Resumed.is
    c.note_resumed.ensures

pub returns-in-Mark : goal.returns-in-Mark
returns-in-Mark c =
    takes-mark c.args.row.now c.in-Mark.kind c.args.closing c.args.self.now.state c.note_mark.new.self c.args.self.now.driver c.in-Mark.is c.note_mark.ensures
