use Rattle.std.proofs.Common.{length, map, refl, sym, ap, ◌∙◌, arith}
use Rattle.std.proofs.lemmas.Bool.{eq-eqb, false≢true}
use Rattle.std.proofs.lemmas.List.{get_or_read, get_or-map, length-map, map-set}
use Rattle.run_end.proofs.TakingRests.{takes_at}
use Rattle.run_end.proofs.mailboxes.take_rest_at.Goals as goal

pub returns : goal.returns
returns g c =
    let boxes = c.args.mailboxes.now.items in
    let mails = c.args.mails.now.items in
    let place = c.args.place in
    let many = length-map mails (λ m. m.items) in
    takes_at place c.args.ends.items boxes _ (map (λ m. m.items) mails) _ c.index_mut.result.now c.take_rest.new.mailbox c.index_mut-2.result.now.items c.take_rest.new.mails.items
    c.requires.place.0 (let w = c.requires.place.1 in omega arith) (λ m. get_or_read boxes place c.index_mut.result.now c.requires.place.0 c.index_mut.ensures.value m)
    (λ a. ap (λ m. m.items) c.index_mut-2.ensures.value ∙ sym (get_or-map (λ m. m.items) mails place c.index_mut-2.result.now a c.requires.place.1)) refl
    (map-set (λ m. m.items) mails place c.take_rest.new.mails)
    (record {
      more = c.take_rest.ensures.more;
      taken = λ some. c.in_ok-take_rest.ensures.all;
      none = λ no.
          let few = ap length no in
          let len = c.args.ends.ok.0 in
          absurd (false≢true (sym c.if-is_empty.false ∙ c.is_empty.ensures ∙ eq-eqb c.args.ends.len 0 (omega (arith, few, len))));
    })
