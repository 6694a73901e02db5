use Rattle.gateway_script.proofs.FirstLine.{line_of_all, line_in_front, front-is, rest-is}
use Rattle.gateway_script.proofs.lines.first_line.Goals as goal

pub returns-in-empty : goal.returns-in-empty
returns-in-empty c = record {
  lines =
      line_of_all c.args.text.now c.split_at.result.0.now c.split_at.result.1.now c.line_len.result c.line_len.ensures.before
      c.split_at.ensures.front c.split_at.ensures.back c.in-empty.len_below;
  front = front-is c.args.text.now c.split_at.result.0.now c.line_len.result c.line_len.ensures.within c.split_at.ensures.front;
  rest = tt;
}

pub returns-in-len1-up : goal.returns-in-len1-up
returns-in-len1-up c = record {
  lines =
      line_in_front c.args.text.now c.split_at.result.0.now c.split_at.result.1.now c.line_len.result c.line_len.ensures.before c.line_len.ensures.behind
      c.split_at.ensures.front c.split_at.ensures.back c.in-len1-up.len_at_least;
  front = front-is c.args.text.now c.split_at.result.0.now c.line_len.result c.line_len.ensures.within c.split_at.ensures.front;
  rest = rest-is c.args.text.now c.split_at.result.0.now c.split_at.result.1.now c.line_len.result c.line_len.ensures.within c.split_at.ensures.front c.split_at.ensures.back;
}
