use Rattle.journal_text.proofs.PrintedPorts.{book_from}
use Rattle.journal_text.proofs.printing_ports.put_book.Goals as goal

pub returns : goal.returns
returns c =
    book_from c.args.names.now c.args.ports.now c.args.out.now.items c.put.new.out.items c.put_names.new.out.items c.put-2.new.out.items c.put_ports.new.out.items c.in_ok-put.ensures c.in_ok-put_names.ensures c.in_ok-put-2.ensures c.in_ok-put_ports.ensures
