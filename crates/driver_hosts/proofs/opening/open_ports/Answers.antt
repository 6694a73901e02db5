use Rattle.std.proofs.Common.{arith, rules, ◌≡◌, ◌<◌, ◌≤◌, ◌+◌, length, get_or, ap, refl, subst, sym, ◌∙◌}
use Rattle.std.specs.Prelude.{slice_index_or}
use Rattle.std.proofs.lemmas.List.{get_or_read, length_push, length-set, length-take-le}
use Rattle.std.proofs.lemmas.List.Elements.{All-take}
use Rattle.std.proofs.lemmas.Iterator.{YieldsList-from_zip}
use Rattle.std.proofs.lemmas.Iterator.Adapters.{YieldsList-from_vec}
use Rattle.std.proofs.lemmas.Iterator.Consumers.{YieldsList-turn, YieldsList-end}
use Rattle.script_plan.specs.declared.decl.PortDecl.{PortDecl}
use Rattle.driver_hosts.specs.declared.room.PortRoom.{PortRoom}
use Rattle.driver_hosts.specs.Hosts.{IsUnused}
use Rattle.driver_hosts.specs.Opening.{FitsPort}
use Rattle.driver_hosts.proofs.Returning.{side-by-side, length-side-by-side}
use Rattle.driver_hosts.proofs.Openings.{opened-none, opened-more, stands, all-start, refused-back}
use Rattle.driver_hosts.proofs.opening.open_ports.Goals as goal

pub loop-port-init : goal.loop-port-init
loop-port-init g c = record {
  count = rw c.in-Ok.ensures.items refl;
  long = c.in-Ok.ensures.len;
  room = (let least = c.in-Ok.ensures.capacity in let len = c.len.ensures in let all = c.args.ports.ok.0 in omega (arith, least, len, all));
  opened = rw c.in-Ok.ensures.items (opened-none _ g.D.Driver.stage _ _ _ _ _);
}

pub bounds-places-at : goal.bounds-places-at
bounds-places-at g c =
    let gives = c.into_iter-port-iterator.ensures.into_iter_gives in
    let first = c.zip-port-items.ensures.first in
    let second = c.zip-port-items.ensures.second in
    let ports : c.into_iter-port-iterator.result.a.rest.items ≡ c.args.ports.items = rw (gives, first) c.into_iter.ensures.rest in
    let ports_len : c.into_iter-port-iterator.result.a.rest.len ≡ length c.args.ports.items = rw (gives, first) (c.into_iter.ensures.len ∙ c.args.ports.ok.0) in
    let rooms : c.into_iter-port-iterator.result.b.rest.items ≡ c.args.rooms.items = rw gives second.0 in
    let rooms_len : c.into_iter-port-iterator.result.b.rest.len ≡ length c.args.rooms.items = rw gives (second.1 ∙ c.args.rooms.ok.0) in
    let road = YieldsList-from_zip {s = c.into_iter-port-iterator.result} (YieldsList-from_vec {s = c.into_iter-port-iterator.result.a} c.args.ports.items ports ports_len)
    (YieldsList-from_vec {s = c.into_iter-port-iterator.result.b} c.args.rooms.items rooms rooms_len) in
    let turn = YieldsList-turn road c.loop-port.yielded _ c.loop-port.yielded_by _ c.next.new.self (c.in-Some.port, c.in-Some.room) c.in-Some.is c.next.ensures.steps in
    let next = side-by-side c.args.ports.items c.args.rooms.items (length c.loop-port.yielded) c.in-Some.port c.in-Some.room c.requires.rooms turn.0 turn.1 in
    let number : c.len-at.result ≡ length c.loop-port.yielded = c.len-at.ensures ∙ c.loop-port.invariant.long in
    let less : c.len-at.result < length c.args.ports.items = rw number next.0 in
    let within_places : c.len-at.result < length c.args.places.now = rw c.requires.len less in
    within_places

pub offset_bounds-places-at : goal.offset_bounds-places-at
offset_bounds-places-at g c =
    let gives = c.into_iter-port-iterator.ensures.into_iter_gives in
    let first = c.zip-port-items.ensures.first in
    let second = c.zip-port-items.ensures.second in
    let ports : c.into_iter-port-iterator.result.a.rest.items ≡ c.args.ports.items = rw (gives, first) c.into_iter.ensures.rest in
    let ports_len : c.into_iter-port-iterator.result.a.rest.len ≡ length c.args.ports.items = rw (gives, first) (c.into_iter.ensures.len ∙ c.args.ports.ok.0) in
    let rooms : c.into_iter-port-iterator.result.b.rest.items ≡ c.args.rooms.items = rw gives second.0 in
    let rooms_len : c.into_iter-port-iterator.result.b.rest.len ≡ length c.args.rooms.items = rw gives (second.1 ∙ c.args.rooms.ok.0) in
    let road = YieldsList-from_zip {s = c.into_iter-port-iterator.result} (YieldsList-from_vec {s = c.into_iter-port-iterator.result.a} c.args.ports.items ports ports_len)
    (YieldsList-from_vec {s = c.into_iter-port-iterator.result.b} c.args.rooms.items rooms rooms_len) in
    let turn = YieldsList-turn road c.loop-port.yielded _ c.loop-port.yielded_by _ c.next.new.self (c.in-Some.port, c.in-Some.room) c.in-Some.is c.next.ensures.steps in
    let next = side-by-side c.args.ports.items c.args.rooms.items (length c.loop-port.yielded) c.in-Some.port c.in-Some.room c.requires.rooms turn.0 turn.1 in
    let number : c.len-at.result ≡ length c.loop-port.yielded = c.len-at.ensures ∙ c.loop-port.invariant.long in
    let less : c.len-at.result < length c.args.ports.items = rw number next.0 in
    let within_places : c.len-at.result < length c.args.places.now = rw c.requires.len less in
    search rules

pub open_port-requires : goal.open_port-requires
open_port-requires g c =
    let gives = c.into_iter-port-iterator.ensures.into_iter_gives in
    let first = c.zip-port-items.ensures.first in
    let second = c.zip-port-items.ensures.second in
    let ports : c.into_iter-port-iterator.result.a.rest.items ≡ c.args.ports.items = rw (gives, first) c.into_iter.ensures.rest in
    let ports_len : c.into_iter-port-iterator.result.a.rest.len ≡ length c.args.ports.items = rw (gives, first) (c.into_iter.ensures.len ∙ c.args.ports.ok.0) in
    let rooms : c.into_iter-port-iterator.result.b.rest.items ≡ c.args.rooms.items = rw gives second.0 in
    let rooms_len : c.into_iter-port-iterator.result.b.rest.len ≡ length c.args.rooms.items = rw gives (second.1 ∙ c.args.rooms.ok.0) in
    let road = YieldsList-from_zip {s = c.into_iter-port-iterator.result} (YieldsList-from_vec {s = c.into_iter-port-iterator.result.a} c.args.ports.items ports ports_len)
    (YieldsList-from_vec {s = c.into_iter-port-iterator.result.b} c.args.rooms.items rooms rooms_len) in
    let turn = YieldsList-turn road c.loop-port.yielded _ c.loop-port.yielded_by _ c.next.new.self (c.in-Some.port, c.in-Some.room) c.in-Some.is c.next.ensures.steps in
    let next = side-by-side c.args.ports.items c.args.rooms.items (length c.loop-port.yielded) c.in-Some.port c.in-Some.room c.requires.rooms turn.0 turn.1 in
    let number : c.len-at.result ≡ length c.loop-port.yielded = c.len-at.ensures ∙ c.loop-port.invariant.long in
    let less : c.len-at.result < length c.args.ports.items = rw number next.0 in
    let within_places : c.len-at.result < length c.args.places.now = rw c.requires.len less in
    let roomy : c.len-at.result < length c.args.rooms.items = rw number next.1 in
    let declares : c.in-Some.port ≡ slice_index_or c.args.ports.items c.len-at.result c.in-Some.port = rw number next.2 in
    let holds : c.in-Some.room ≡ slice_index_or c.args.rooms.items c.len-at.result c.in-Some.room = rw number next.3 in
    let counts : length c.loop-port.bodies.items ≡ c.len-at.result = c.loop-port.invariant.count ∙ sym number in
    let place = get_or c.args.places.now c.len-at.result 0 in
    let within : place < length c.args.hosts.now.items = c.requires.within c.len-at.result 0 within_places in
    record {
      unused = subst (IsUnused g.D.Driver.stage)
          (sym (stands g.D.Driver.kind g.D.Driver.stage g.D.Driver.faults c.args.ports.items c.args.rooms.items c.args.places.now c.args.hosts.now.items c.loop-port.hosts.items c.loop-port.bodies.items c.len-at.result place
          c.loop-port.invariant.opened counts refl within (λ earlier h. c.requires.different earlier c.len-at.result 0 h within_places) c.index_mut.result.now c.index_mut.result.now c.index_mut.ensures.value))
          (c.requires.unused place c.index_mut.result.now within);
      fits = subst (λ (p : PortDecl). FitsPort p c.in-Some.room) (sym declares)
          (subst (λ (r : PortRoom). FitsPort (slice_index_or c.args.ports.items c.len-at.result c.in-Some.port) r) (sym holds) (c.requires.fit c.len-at.result c.in-Some.port c.in-Some.room less));
    }

pub overflow_cast-at : goal.overflow_cast-at
overflow_cast-at g c =
    let gives = c.into_iter-port-iterator.ensures.into_iter_gives in
    let first = c.zip-port-items.ensures.first in
    let second = c.zip-port-items.ensures.second in
    let ports : c.into_iter-port-iterator.result.a.rest.items ≡ c.args.ports.items = rw (gives, first) c.into_iter.ensures.rest in
    let ports_len : c.into_iter-port-iterator.result.a.rest.len ≡ length c.args.ports.items = rw (gives, first) (c.into_iter.ensures.len ∙ c.args.ports.ok.0) in
    let rooms : c.into_iter-port-iterator.result.b.rest.items ≡ c.args.rooms.items = rw gives second.0 in
    let rooms_len : c.into_iter-port-iterator.result.b.rest.len ≡ length c.args.rooms.items = rw gives (second.1 ∙ c.args.rooms.ok.0) in
    let road = YieldsList-from_zip {s = c.into_iter-port-iterator.result} (YieldsList-from_vec {s = c.into_iter-port-iterator.result.a} c.args.ports.items ports ports_len)
    (YieldsList-from_vec {s = c.into_iter-port-iterator.result.b} c.args.rooms.items rooms rooms_len) in
    let turn = YieldsList-turn road c.loop-port.yielded _ c.loop-port.yielded_by _ c.next.new.self (c.in-Some.port, c.in-Some.room) c.in-Some.is c.next.ensures.steps in
    let next = side-by-side c.args.ports.items c.args.rooms.items (length c.loop-port.yielded) c.in-Some.port c.in-Some.room c.requires.rooms turn.0 turn.1 in
    let number : c.len-at.result ≡ length c.loop-port.yielded = c.len-at.ensures ∙ c.loop-port.invariant.long in
    let less : c.len-at.result < length c.args.ports.items = rw number next.0 in
    let few = c.requires.few in omega (arith, less, few)

pub overflow_cast-result : goal.overflow_cast-result
overflow_cast-result g c =
    let gives = c.into_iter-port-iterator.ensures.into_iter_gives in
    let first = c.zip-port-items.ensures.first in
    let second = c.zip-port-items.ensures.second in
    let ports : c.into_iter-port-iterator.result.a.rest.items ≡ c.args.ports.items = rw (gives, first) c.into_iter.ensures.rest in
    let ports_len : c.into_iter-port-iterator.result.a.rest.len ≡ length c.args.ports.items = rw (gives, first) (c.into_iter.ensures.len ∙ c.args.ports.ok.0) in
    let rooms : c.into_iter-port-iterator.result.b.rest.items ≡ c.args.rooms.items = rw gives second.0 in
    let rooms_len : c.into_iter-port-iterator.result.b.rest.len ≡ length c.args.rooms.items = rw gives (second.1 ∙ c.args.rooms.ok.0) in
    let road = YieldsList-from_zip {s = c.into_iter-port-iterator.result} (YieldsList-from_vec {s = c.into_iter-port-iterator.result.a} c.args.ports.items ports ports_len)
    (YieldsList-from_vec {s = c.into_iter-port-iterator.result.b} c.args.rooms.items rooms rooms_len) in
    let turn = YieldsList-turn road c.loop-port.yielded _ c.loop-port.yielded_by _ c.next.new.self (c.in-Some.port, c.in-Some.room) c.in-Some.is c.next.ensures.steps in
    let next = side-by-side c.args.ports.items c.args.rooms.items (length c.loop-port.yielded) c.in-Some.port c.in-Some.room c.requires.rooms turn.0 turn.1 in
    let number : c.len-at.result ≡ length c.loop-port.yielded = c.len-at.ensures ∙ c.loop-port.invariant.long in
    let less : c.len-at.result < length c.args.ports.items = rw number next.0 in
    let few = c.requires.few in omega (arith, less, few)

pub push_reserved-requires : goal.push_reserved-requires
push_reserved-requires g c =
    let gives = c.into_iter-port-iterator.ensures.into_iter_gives in
    let first = c.zip-port-items.ensures.first in
    let second = c.zip-port-items.ensures.second in
    let ports : c.into_iter-port-iterator.result.a.rest.items ≡ c.args.ports.items = rw (gives, first) c.into_iter.ensures.rest in
    let ports_len : c.into_iter-port-iterator.result.a.rest.len ≡ length c.args.ports.items = rw (gives, first) (c.into_iter.ensures.len ∙ c.args.ports.ok.0) in
    let rooms : c.into_iter-port-iterator.result.b.rest.items ≡ c.args.rooms.items = rw gives second.0 in
    let rooms_len : c.into_iter-port-iterator.result.b.rest.len ≡ length c.args.rooms.items = rw gives (second.1 ∙ c.args.rooms.ok.0) in
    let road = YieldsList-from_zip {s = c.into_iter-port-iterator.result} (YieldsList-from_vec {s = c.into_iter-port-iterator.result.a} c.args.ports.items ports ports_len)
    (YieldsList-from_vec {s = c.into_iter-port-iterator.result.b} c.args.rooms.items rooms rooms_len) in
    let turn = YieldsList-turn road c.loop-port.yielded _ c.loop-port.yielded_by _ c.next.new.self (c.in-Some.port, c.in-Some.room) c.in-Some.is c.next.ensures.steps in
    let next = side-by-side c.args.ports.items c.args.rooms.items (length c.loop-port.yielded) c.in-Some.port c.in-Some.room c.requires.rooms turn.0 turn.1 in
    let number : c.len-at.result ≡ length c.loop-port.yielded = c.len-at.ensures ∙ c.loop-port.invariant.long in
    let less : c.len-at.result < length c.args.ports.items = rw number next.0 in
    let room = c.loop-port.invariant.room in
    let long = c.loop-port.invariant.long in
    omega (arith, room, long, next.0)

pub slice_bounds-take_back-end : goal.slice_bounds-take_back-end
slice_bounds-take_back-end g c =
    let gives = c.into_iter-port-iterator.ensures.into_iter_gives in
    let first = c.zip-port-items.ensures.first in
    let second = c.zip-port-items.ensures.second in
    let ports : c.into_iter-port-iterator.result.a.rest.items ≡ c.args.ports.items = rw (gives, first) c.into_iter.ensures.rest in
    let ports_len : c.into_iter-port-iterator.result.a.rest.len ≡ length c.args.ports.items = rw (gives, first) (c.into_iter.ensures.len ∙ c.args.ports.ok.0) in
    let rooms : c.into_iter-port-iterator.result.b.rest.items ≡ c.args.rooms.items = rw gives second.0 in
    let rooms_len : c.into_iter-port-iterator.result.b.rest.len ≡ length c.args.rooms.items = rw gives (second.1 ∙ c.args.rooms.ok.0) in
    let road = YieldsList-from_zip {s = c.into_iter-port-iterator.result} (YieldsList-from_vec {s = c.into_iter-port-iterator.result.a} c.args.ports.items ports ports_len)
    (YieldsList-from_vec {s = c.into_iter-port-iterator.result.b} c.args.rooms.items rooms rooms_len) in
    let turn = YieldsList-turn road c.loop-port.yielded _ c.loop-port.yielded_by _ c.next.new.self (c.in-Some.port, c.in-Some.room) c.in-Some.is c.next.ensures.steps in
    let next = side-by-side c.args.ports.items c.args.rooms.items (length c.loop-port.yielded) c.in-Some.port c.in-Some.room c.requires.rooms turn.0 turn.1 in
    let number : c.len-at.result ≡ length c.loop-port.yielded = c.len-at.ensures ∙ c.loop-port.invariant.long in
    let less : c.len-at.result < length c.args.ports.items = rw number next.0 in
    let within_places : c.len-at.result < length c.args.places.now = rw c.requires.len less in
    let most : c.len-at.result ≤ length c.args.places.now = omega (arith, within_places) in
    search rules

pub take_back-requires-clause-len : goal.take_back-requires-clause-len
take_back-requires-clause-len g c =
    let gives = c.into_iter-port-iterator.ensures.into_iter_gives in
    let first = c.zip-port-items.ensures.first in
    let second = c.zip-port-items.ensures.second in
    let ports : c.into_iter-port-iterator.result.a.rest.items ≡ c.args.ports.items = rw (gives, first) c.into_iter.ensures.rest in
    let ports_len : c.into_iter-port-iterator.result.a.rest.len ≡ length c.args.ports.items = rw (gives, first) (c.into_iter.ensures.len ∙ c.args.ports.ok.0) in
    let rooms : c.into_iter-port-iterator.result.b.rest.items ≡ c.args.rooms.items = rw gives second.0 in
    let rooms_len : c.into_iter-port-iterator.result.b.rest.len ≡ length c.args.rooms.items = rw gives (second.1 ∙ c.args.rooms.ok.0) in
    let road = YieldsList-from_zip {s = c.into_iter-port-iterator.result} (YieldsList-from_vec {s = c.into_iter-port-iterator.result.a} c.args.ports.items ports ports_len)
    (YieldsList-from_vec {s = c.into_iter-port-iterator.result.b} c.args.rooms.items rooms rooms_len) in
    let turn = YieldsList-turn road c.loop-port.yielded _ c.loop-port.yielded_by _ c.next.new.self (c.in-Some.port, c.in-Some.room) c.in-Some.is c.next.ensures.steps in
    let next = side-by-side c.args.ports.items c.args.rooms.items (length c.loop-port.yielded) c.in-Some.port c.in-Some.room c.requires.rooms turn.0 turn.1 in
    let number : c.len-at.result ≡ length c.loop-port.yielded = c.len-at.ensures ∙ c.loop-port.invariant.long in
    let less : c.len-at.result < length c.args.ports.items = rw number next.0 in
    let within_places : c.len-at.result < length c.args.places.now = rw c.requires.len less in
    length-take-le c.len-at.result c.args.places.now (omega (arith, within_places)) ∙ (number ∙ sym c.loop-port.invariant.count)

pub take_back-requires-clause-within : goal.take_back-requires-clause-within
take_back-requires-clause-within g c k d l =
    rw (length-set, c.loop-port.invariant.opened.len) (All-take (λ at. at < length c.args.hosts.now.items) c.len-at.result c.args.places.now c.requires.within k d l)

pub returns-in-Err-clause-refused : goal.returns-in-Err-clause-refused
returns-in-Err-clause-refused g c =
    let gives = c.into_iter-port-iterator.ensures.into_iter_gives in
    let first = c.zip-port-items.ensures.first in
    let second = c.zip-port-items.ensures.second in
    let ports : c.into_iter-port-iterator.result.a.rest.items ≡ c.args.ports.items = rw (gives, first) c.into_iter.ensures.rest in
    let ports_len : c.into_iter-port-iterator.result.a.rest.len ≡ length c.args.ports.items = rw (gives, first) (c.into_iter.ensures.len ∙ c.args.ports.ok.0) in
    let rooms : c.into_iter-port-iterator.result.b.rest.items ≡ c.args.rooms.items = rw gives second.0 in
    let rooms_len : c.into_iter-port-iterator.result.b.rest.len ≡ length c.args.rooms.items = rw gives (second.1 ∙ c.args.rooms.ok.0) in
    let road = YieldsList-from_zip {s = c.into_iter-port-iterator.result} (YieldsList-from_vec {s = c.into_iter-port-iterator.result.a} c.args.ports.items ports ports_len)
    (YieldsList-from_vec {s = c.into_iter-port-iterator.result.b} c.args.rooms.items rooms rooms_len) in
    let turn = YieldsList-turn road c.loop-port.yielded _ c.loop-port.yielded_by _ c.next.new.self (c.in-Some.port, c.in-Some.room) c.in-Some.is c.next.ensures.steps in
    let next = side-by-side c.args.ports.items c.args.rooms.items (length c.loop-port.yielded) c.in-Some.port c.in-Some.room c.requires.rooms turn.0 turn.1 in
    let number : c.len-at.result ≡ length c.loop-port.yielded = c.len-at.ensures ∙ c.loop-port.invariant.long in
    let less : c.len-at.result < length c.args.ports.items = rw number next.0 in
    let within_places : c.len-at.result < length c.args.places.now = rw c.requires.len less in
    let roomy : c.len-at.result < length c.args.rooms.items = rw number next.1 in
    let declares : c.in-Some.port ≡ slice_index_or c.args.ports.items c.len-at.result c.in-Some.port = rw number next.2 in
    let holds : c.in-Some.room ≡ slice_index_or c.args.rooms.items c.len-at.result c.in-Some.room = rw number next.3 in
    let counts : length c.loop-port.bodies.items ≡ c.len-at.result = c.loop-port.invariant.count ∙ sym number in
    let place = get_or c.args.places.now c.len-at.result 0 in
    let within : place < length c.args.hosts.now.items = c.requires.within c.len-at.result 0 within_places in
    record {
      within = less;
      line_is = λ p. ap (λ (q : PortDecl). q.line) (get_or_read c.args.ports.items c.len-at.result c.in-Some.port less declares p);
      first = λ k l. all-start g.D.Driver.kind g.D.Driver.stage g.D.Driver.faults c.args.ports.items c.args.rooms.items c.args.places.now c.args.hosts.now.items c.loop-port.hosts.items c.loop-port.bodies.items c.len-at.result place
          c.loop-port.invariant.opened counts refl within (λ earlier h. c.requires.different earlier c.len-at.result 0 h within_places)
          k (rw counts l) (omega (arith, counts, less)) (omega (arith, counts, roomy));
    }

pub returns-in-Err-clause-back : goal.returns-in-Err-clause-back
returns-in-Err-clause-back g c =
    let gives = c.into_iter-port-iterator.ensures.into_iter_gives in
    let first = c.zip-port-items.ensures.first in
    let second = c.zip-port-items.ensures.second in
    let ports : c.into_iter-port-iterator.result.a.rest.items ≡ c.args.ports.items = rw (gives, first) c.into_iter.ensures.rest in
    let ports_len : c.into_iter-port-iterator.result.a.rest.len ≡ length c.args.ports.items = rw (gives, first) (c.into_iter.ensures.len ∙ c.args.ports.ok.0) in
    let rooms : c.into_iter-port-iterator.result.b.rest.items ≡ c.args.rooms.items = rw gives second.0 in
    let rooms_len : c.into_iter-port-iterator.result.b.rest.len ≡ length c.args.rooms.items = rw gives (second.1 ∙ c.args.rooms.ok.0) in
    let road = YieldsList-from_zip {s = c.into_iter-port-iterator.result} (YieldsList-from_vec {s = c.into_iter-port-iterator.result.a} c.args.ports.items ports ports_len)
    (YieldsList-from_vec {s = c.into_iter-port-iterator.result.b} c.args.rooms.items rooms rooms_len) in
    let turn = YieldsList-turn road c.loop-port.yielded _ c.loop-port.yielded_by _ c.next.new.self (c.in-Some.port, c.in-Some.room) c.in-Some.is c.next.ensures.steps in
    let next = side-by-side c.args.ports.items c.args.rooms.items (length c.loop-port.yielded) c.in-Some.port c.in-Some.room c.requires.rooms turn.0 turn.1 in
    let number : c.len-at.result ≡ length c.loop-port.yielded = c.len-at.ensures ∙ c.loop-port.invariant.long in
    let less : c.len-at.result < length c.args.ports.items = rw number next.0 in
    let within_places : c.len-at.result < length c.args.places.now = rw c.requires.len less in
    let roomy : c.len-at.result < length c.args.rooms.items = rw number next.1 in
    let declares : c.in-Some.port ≡ slice_index_or c.args.ports.items c.len-at.result c.in-Some.port = rw number next.2 in
    let holds : c.in-Some.room ≡ slice_index_or c.args.rooms.items c.len-at.result c.in-Some.room = rw number next.3 in
    let counts : length c.loop-port.bodies.items ≡ c.len-at.result = c.loop-port.invariant.count ∙ sym number in
    let place = get_or c.args.places.now c.len-at.result 0 in
    let within : place < length c.args.hosts.now.items = c.requires.within c.len-at.result 0 within_places in
    refused-back g.D.Driver.kind g.D.Driver.stage g.D.Driver.faults c.args.ports.items c.args.rooms.items c.args.places.now c.args.hosts.now.items c.loop-port.hosts.items c.loop-port.bodies.items c.len-at.result place
    c.loop-port.invariant.opened counts refl within (λ earlier h. c.requires.different earlier c.len-at.result 0 h within_places)
    g.D.Driver.own g.D.Driver.program _ c.in-Some.port c.in-Some.room c.in-Err.refusal c.index_mut.result.now c.open_port.new.host within_places less declares c.requires.within c.requires.unused
    c.index_mut.ensures.value c.in-Err.ensures.back c.take_back.ensures.returned

pub loop-port-preserved : goal.loop-port-preserved
loop-port-preserved g c =
    let gives = c.into_iter-port-iterator.ensures.into_iter_gives in
    let first = c.zip-port-items.ensures.first in
    let second = c.zip-port-items.ensures.second in
    let ports : c.into_iter-port-iterator.result.a.rest.items ≡ c.args.ports.items = rw (gives, first) c.into_iter.ensures.rest in
    let ports_len : c.into_iter-port-iterator.result.a.rest.len ≡ length c.args.ports.items = rw (gives, first) (c.into_iter.ensures.len ∙ c.args.ports.ok.0) in
    let rooms : c.into_iter-port-iterator.result.b.rest.items ≡ c.args.rooms.items = rw gives second.0 in
    let rooms_len : c.into_iter-port-iterator.result.b.rest.len ≡ length c.args.rooms.items = rw gives (second.1 ∙ c.args.rooms.ok.0) in
    let road = YieldsList-from_zip {s = c.into_iter-port-iterator.result} (YieldsList-from_vec {s = c.into_iter-port-iterator.result.a} c.args.ports.items ports ports_len)
    (YieldsList-from_vec {s = c.into_iter-port-iterator.result.b} c.args.rooms.items rooms rooms_len) in
    let turn = YieldsList-turn road c.loop-port.yielded _ c.loop-port.yielded_by _ c.next.new.self (c.in-Some.port, c.in-Some.room) c.in-Some.is c.next.ensures.steps in
    let next = side-by-side c.args.ports.items c.args.rooms.items (length c.loop-port.yielded) c.in-Some.port c.in-Some.room c.requires.rooms turn.0 turn.1 in
    let number : c.len-at.result ≡ length c.loop-port.yielded = c.len-at.ensures ∙ c.loop-port.invariant.long in
    let less : c.len-at.result < length c.args.ports.items = rw number next.0 in
    let within_places : c.len-at.result < length c.args.places.now = rw c.requires.len less in
    let roomy : c.len-at.result < length c.args.rooms.items = rw number next.1 in
    let declares : c.in-Some.port ≡ slice_index_or c.args.ports.items c.len-at.result c.in-Some.port = rw number next.2 in
    let holds : c.in-Some.room ≡ slice_index_or c.args.rooms.items c.len-at.result c.in-Some.room = rw number next.3 in
    let counts : length c.loop-port.bodies.items ≡ c.len-at.result = c.loop-port.invariant.count ∙ sym number in
    let place = get_or c.args.places.now c.len-at.result 0 in
    let within : place < length c.args.hosts.now.items = c.requires.within c.len-at.result 0 within_places in
    let items = c.push_reserved.ensures.items in
    let more = length_push c.loop-port.yielded (c.in-Some.port, c.in-Some.room) in
    record {
      count = rw (items, more) (length_push c.loop-port.bodies.items c.in-Ok-open_port.body ∙ ap (λ n. n + 1) c.loop-port.invariant.count);
      long = rw more (c.push_reserved.ensures.len ∙ ap (λ n. n + 1) c.loop-port.invariant.long);
      room = rw c.push_reserved.ensures.capacity c.loop-port.invariant.room;
      opened = rw items (opened-more g.D.Driver.kind g.D.Driver.stage g.D.Driver.faults c.args.ports.items c.args.rooms.items c.args.places.now c.args.hosts.now.items c.loop-port.hosts.items c.loop-port.bodies.items c.len-at.result place
          c.loop-port.invariant.opened counts refl within (λ earlier h. c.requires.different earlier c.len-at.result 0 h within_places)
          c.in-Some.port c.in-Some.room c.index_mut.result.now c.open_port.new.host c.in-Ok-open_port.body less declares roomy holds c.index_mut.ensures.value c.in-Ok-open_port.ensures.opened);
    }

pub returns-clause-count : goal.returns-clause-count
returns-clause-count g c =
    let gives = c.into_iter-port-iterator.ensures.into_iter_gives in
    let first = c.zip-port-items.ensures.first in
    let second = c.zip-port-items.ensures.second in
    let ports : c.into_iter-port-iterator.result.a.rest.items ≡ c.args.ports.items = rw (gives, first) c.into_iter.ensures.rest in
    let ports_len : c.into_iter-port-iterator.result.a.rest.len ≡ length c.args.ports.items = rw (gives, first) (c.into_iter.ensures.len ∙ c.args.ports.ok.0) in
    let rooms : c.into_iter-port-iterator.result.b.rest.items ≡ c.args.rooms.items = rw gives second.0 in
    let rooms_len : c.into_iter-port-iterator.result.b.rest.len ≡ length c.args.rooms.items = rw gives (second.1 ∙ c.args.rooms.ok.0) in
    let road = YieldsList-from_zip {s = c.into_iter-port-iterator.result} (YieldsList-from_vec {s = c.into_iter-port-iterator.result.a} c.args.ports.items ports ports_len)
    (YieldsList-from_vec {s = c.into_iter-port-iterator.result.b} c.args.rooms.items rooms rooms_len) in
    let last = YieldsList-end road c.loop-port.yielded _ c.loop-port.yielded_by _ c.next.new.self c.in-None.is c.next.ensures.steps in
    c.loop-port.invariant.count ∙ last.1 ∙ length-side-by-side c.args.ports.items c.args.rooms.items c.requires.rooms
