use Rattle.journal_text.proofs.PrintedPorts.{text_from}
use Rattle.journal_text.proofs.printing_ports.print_histories.Goals as goal

pub returns : goal.returns
returns c =
    text_from (record { names = c.args.names.now; ports = c.args.ports.now }) c.new-out.result.items c.put_book.new.out.items c.args.names.now c.args.ports.now c.new-out.ensures.items (λ i. c.args.names.now) (λ i. c.args.ports.now) c.in_ok-put_book.ensures
