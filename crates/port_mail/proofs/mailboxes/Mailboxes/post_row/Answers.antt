use Rattle.port_mail.proofs.Posting.{Puts-failed}
use Rattle.port_mail.proofs.RowParts.{row-fails-first, row-fails-second, row-fails-third, row-puts}
use Rattle.port_mail.proofs.mailboxes.Mailboxes.post_row.Goals as goal

pub returns-in_err-post_effects : goal.returns-in_err-post_effects
returns-in_err-post_effects g c = λ opening s t r.
    Puts-failed c.from_residual.result _ _ _ _ c.from_residual.ensures.0
    (row-fails-first c.args.row.handling c.args.row.effects.now c.args.row.signal.now c.args.row.closing opening s t _ _ _ r c.in_err-post_effects.ensures)

pub returns-in_err-post_answer : goal.returns-in_err-post_answer
returns-in_err-post_answer g c = λ opening s t r.
    Puts-failed c.from_residual-in_err-post_answer.result _ _ _ _ c.from_residual-in_err-post_answer.ensures.0
    (row-fails-second c.args.row.handling c.args.row.effects.now c.args.row.signal.now c.args.row.closing opening s t _ _ _ _ r c.in_ok-post_effects.ensures
    (c.in_err-post_answer.ensures opening s.ties r.before))

pub returns-in_err-post_all : goal.returns-in_err-post_all
returns-in_err-post_all g c = λ opening s t r.
    Puts-failed c.from_residual-in_err-post_all.result _ _ _ _ c.from_residual-in_err-post_all.ensures.0
    (row-fails-third c.args.row.handling c.args.row.effects.now c.args.row.signal.now c.args.row.closing opening s t _ _ _ _ _ r c.in_ok-post_effects.ensures
    (c.in_ok-post_answer.ensures opening s.ties r.before) c.in_err-post_all.ensures)

pub returns : goal.returns
returns g c = λ opening s t r.
    row-puts c.args.row.handling c.args.row.effects.now c.args.row.signal.now c.args.row.closing opening s t c.post_closed.result _ _ _ _ _ _ r c.in_ok-post_effects.ensures
    (c.in_ok-post_answer.ensures opening s.ties r.before) c.in_ok-post_all.ensures c.post_closed.ensures
