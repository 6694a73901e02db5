use Rattle.std.proofs.Common.{◌≡◌, ◌∙◌, length, ap, sym}
use Rattle.std.proofs.lemmas.List.{length-map}
use Rattle.run_opening.specs.Opened.{limits_of}
use Rattle.run_opening.proofs.Opens.{fits, lacking_told, refusal_told, all_back}
use Rattle.run_opening.proofs.opening.open_ports_of.Goals as goal

pub returns-in-Err-clause-fault : goal.returns-in-Err-clause-fault
returns-in-Err-clause-fault g c = lacking_told g.D.Driver.kind g.D.Driver.stage g.D.Driver.faults c.args.ports.items c.args.hosts.now.items c.in-Err.lacking c.lacking_fault.result
    (rw (sym c.as_slice.ensures.value, sym c.as_slice-2.ensures.value) c.in-Err.ensures.lacking) (rw (sym c.as_slice-in-Err.ensures.value) c.lacking_fault.ensures)

pub open_ports-requires-clause-within : goal.open_ports-requires-clause-within
open_ports-requires-clause-within g c = rw (c.as_slice-6.ensures.value, sym c.as_slice.ensures.value) c.in-Ok.ensures.found.within

pub open_ports-requires-clause-fit : goal.open_ports-requires-clause-fit
open_ports-requires-clause-fit g c =
    let have = c.in_ok-rooms.ensures in
    let many : length have.run.ports.items ≡ length c.args.ports.items = have.are.counts.ports_many ∙ length-map _ (λ p. limits_of p.config) ∙ ap length c.as_slice-5.ensures.value in
    fits c.args.size c.args.ports.items c.in_ok-rooms.rooms.items have.run.ports.items c.requires.ports have.rooms_are many
    (λ port d below. have.are.can_open port d (rw (length-map c.as_slice-5.result.now (λ p. limits_of p.config), c.as_slice-5.ensures.value) below))

pub returns-in-Ok-open_ports-clause-opened : goal.returns-in-Ok-open_ports-clause-opened
returns-in-Ok-open_ports-clause-opened g c =
    let have = c.in_ok-rooms.ensures in
    record {
      run = have.run;
      are = rw (sym c.as_slice-5.ensures.value) have.are;
      lanes_are = have.lanes_are;
      found = rw (sym c.as_slice.ensures.value, sym c.as_slice-2.ensures.value) c.in-Ok.ensures.found;
      count = c.in-Ok-open_ports.ensures.count;
      soft = rw (sym c.as_slice-3.ensures.value, sym c.as_slice-4.ensures.value) c.in_ok-soft.ensures;
      opened = rw (sym c.as_slice-6.ensures.value, sym have.rooms_are) c.in-Ok-open_ports.ensures.opened;
    }

pub returns-in-Err-open_ports-clause-fault : goal.returns-in-Err-open_ports-clause-fault
returns-in-Err-open_ports-clause-fault g c = refusal_told g.D.Driver.kind g.D.Driver.stage g.D.Driver.faults c.args.ports.items c.in-Ok.places.items c.args.hosts.now.items c.open_ports.new.hosts.items
    c.in-Err-open_ports.unopened c.unopened_fault.result (rw (sym c.as_slice.ensures.value, sym c.as_slice-2.ensures.value) c.in-Ok.ensures.found)
    (rw (sym c.as_slice-6.ensures.value) c.in-Err-open_ports.ensures.refused) (rw (sym c.as_slice-6.ensures.value) c.in-Err-open_ports.ensures.back) c.unopened_fault.ensures

pub returns-in-Err-open_ports-clause-back : goal.returns-in-Err-open_ports-clause-back
returns-in-Err-open_ports-clause-back g c = all_back g.D.Driver.kind g.D.Driver.stage g.D.Driver.faults c.args.ports.items c.in-Ok.places.items c.args.hosts.now.items c.open_ports.new.hosts.items
    c.in-Err-open_ports.unopened c.requires.unused (rw (sym c.as_slice-6.ensures.value) c.in-Err-open_ports.ensures.refused)
    (rw (sym c.as_slice-6.ensures.value) c.in-Err-open_ports.ensures.back)
