use Rattle.std.proofs.Common.{rules, ◌≡◌, ◌<◌, length, sym, ◌∙◌, map}
use Rattle.std.specs.Prelude.{slice_index}
use Rattle.std.specs.Slice.Iter.{iter_rest}
use Rattle.std.proofs.lemmas.List.{get_or_default, map_push, length-map}
use Rattle.std.proofs.lemmas.Iterator.{YieldsList-from_slice, YieldsList-from_zip}
use Rattle.std.proofs.lemmas.Iterator.Adapters.{YieldsList-from_vec}
use Rattle.std.proofs.lemmas.Iterator.Consumers.{YieldsList-turn, YieldsList-end}
use Rattle.driver_hosts.proofs.Returning.{bodies-of, leave-none, leave-more, side-by-side, returned-none, returned-more}
use Rattle.driver_hosts.proofs.ending.take_back.Goals as goal

pub loop-place-init : goal.loop-place-init
loop-place-init g c = record { returned = returned-none _ _ _ _ _ _ _; left = rw c.new.ensures.items leave-none }

pub index_mut-requires : goal.index_mut-requires
index_mut-requires g c =
    let gives = c.into_iter-place-iterator.ensures.into_iter_gives in
    let places : iter_rest c.into_iter-place-iterator.result.a ≡ c.args.places.now = rw (gives, c.zip-place-items.ensures.first) c.iter.ensures.rest in
    let second = c.zip-place-items.ensures.second in
    let items : c.into_iter-place-iterator.result.b.rest.items ≡ c.args.bodies.items = rw gives second.0 in
    let len : c.into_iter-place-iterator.result.b.rest.len ≡ length c.args.bodies.items = rw gives (second.1 ∙ c.args.bodies.ok.0) in
    let road = YieldsList-from_zip {s = c.into_iter-place-iterator.result} (YieldsList-from_slice {s = c.into_iter-place-iterator.result.a} c.args.places.now places)
    (YieldsList-from_vec {s = c.into_iter-place-iterator.result.b} c.args.bodies.items items len) in
    let turn = YieldsList-turn road c.loop-place.yielded _ c.loop-place.yielded_by _ c.next.new.self (c.in-Some.place, c.in-Some.body) c.in-Some.is c.next.ensures.steps in
    let next = side-by-side c.args.places.now c.args.bodies.items (length c.loop-place.yielded) c.in-Some.place.now c.in-Some.body (sym c.requires.len) turn.0 turn.1 in
    let stands : slice_index c.args.places.now (length c.loop-place.yielded) ≡ c.in-Some.place.now = get_or_default c.args.places.now (length c.loop-place.yielded) 0 c.in-Some.place.now next.0 ∙ sym next.2 in
    let within : c.in-Some.place.now < length c.args.hosts.now.items = rw (sym stands) (c.requires.within (length c.loop-place.yielded) 0 next.0) in
    let inside : c.in-Some.place.now < length c.loop-place.hosts.items = rw c.loop-place.invariant.returned.len within in
    search rules

pub loop-place-preserved : goal.loop-place-preserved
loop-place-preserved g c =
    let gives = c.into_iter-place-iterator.ensures.into_iter_gives in
    let places : iter_rest c.into_iter-place-iterator.result.a ≡ c.args.places.now = rw (gives, c.zip-place-items.ensures.first) c.iter.ensures.rest in
    let second = c.zip-place-items.ensures.second in
    let items : c.into_iter-place-iterator.result.b.rest.items ≡ c.args.bodies.items = rw gives second.0 in
    let len : c.into_iter-place-iterator.result.b.rest.len ≡ length c.args.bodies.items = rw gives (second.1 ∙ c.args.bodies.ok.0) in
    let road = YieldsList-from_zip {s = c.into_iter-place-iterator.result} (YieldsList-from_slice {s = c.into_iter-place-iterator.result.a} c.args.places.now places)
    (YieldsList-from_vec {s = c.into_iter-place-iterator.result.b} c.args.bodies.items items len) in
    let turn = YieldsList-turn road c.loop-place.yielded _ c.loop-place.yielded_by _ c.next.new.self (c.in-Some.place, c.in-Some.body) c.in-Some.is c.next.ensures.steps in
    let next = side-by-side c.args.places.now c.args.bodies.items (length c.loop-place.yielded) c.in-Some.place.now c.in-Some.body (sym c.requires.len) turn.0 turn.1 in
    let stands : slice_index c.args.places.now (length c.loop-place.yielded) ≡ c.in-Some.place.now = get_or_default c.args.places.now (length c.loop-place.yielded) 0 c.in-Some.place.now next.0 ∙ sym next.2 in
    let within : c.in-Some.place.now < length c.args.hosts.now.items = rw (sym stands) (c.requires.within (length c.loop-place.yielded) 0 next.0) in
    let ended = map (λ p. p.1) c.loop-place.yielded in
    record {
      returned = rw map_push (returned-more _ _ _ _ _ ended c.args.places.now c.args.hosts.now.items c.loop-place.hosts.items (length c.loop-place.yielded) c.in-Some.place.now c.in-Some.body
          c.index_mut.result.now c.end_port-port.new.host c.loop-place.invariant.returned (sym (length-map c.loop-place.yielded (λ p. p.1))) stands within
          (λ earlier h e. c.requires.different earlier (length c.loop-place.yielded) 0 h next.0 (e ∙ sym stands)) c.index_mut.ensures.value c.end_port-port.ensures.returned);
      left = rw map_push (leave-more _ _ c.end_port-port.result ended c.in-Some.body c.end_port-port.ensures.left c.loop-place.invariant.left c.with_port-ports.ensures);
    }

pub returns-clause-returned : goal.returns-clause-returned
returns-clause-returned g c =
    let gives = c.into_iter-place-iterator.ensures.into_iter_gives in
    let places : iter_rest c.into_iter-place-iterator.result.a ≡ c.args.places.now = rw (gives, c.zip-place-items.ensures.first) c.iter.ensures.rest in
    let second = c.zip-place-items.ensures.second in
    let items : c.into_iter-place-iterator.result.b.rest.items ≡ c.args.bodies.items = rw gives second.0 in
    let len : c.into_iter-place-iterator.result.b.rest.len ≡ length c.args.bodies.items = rw gives (second.1 ∙ c.args.bodies.ok.0) in
    let road = YieldsList-from_zip {s = c.into_iter-place-iterator.result} (YieldsList-from_slice {s = c.into_iter-place-iterator.result.a} c.args.places.now places)
    (YieldsList-from_vec {s = c.into_iter-place-iterator.result.b} c.args.bodies.items items len) in
    let last = YieldsList-end road c.loop-place.yielded _ c.loop-place.yielded_by _ c.next.new.self c.in-None.is c.next.ensures.steps in
    let all : map (λ p. p.1) c.loop-place.yielded ≡ c.args.bodies.items = bodies-of c.args.places.now c.args.bodies.items c.loop-place.yielded (sym c.requires.len) last.0 in
    rw (sym all) c.loop-place.invariant.returned

pub returns-clause-left : goal.returns-clause-left
returns-clause-left g c =
    let gives = c.into_iter-place-iterator.ensures.into_iter_gives in
    let places : iter_rest c.into_iter-place-iterator.result.a ≡ c.args.places.now = rw (gives, c.zip-place-items.ensures.first) c.iter.ensures.rest in
    let second = c.zip-place-items.ensures.second in
    let items : c.into_iter-place-iterator.result.b.rest.items ≡ c.args.bodies.items = rw gives second.0 in
    let len : c.into_iter-place-iterator.result.b.rest.len ≡ length c.args.bodies.items = rw gives (second.1 ∙ c.args.bodies.ok.0) in
    let road = YieldsList-from_zip {s = c.into_iter-place-iterator.result} (YieldsList-from_slice {s = c.into_iter-place-iterator.result.a} c.args.places.now places)
    (YieldsList-from_vec {s = c.into_iter-place-iterator.result.b} c.args.bodies.items items len) in
    let last = YieldsList-end road c.loop-place.yielded _ c.loop-place.yielded_by _ c.next.new.self c.in-None.is c.next.ensures.steps in
    let all : map (λ p. p.1) c.loop-place.yielded ≡ c.args.bodies.items = bodies-of c.args.places.now c.args.bodies.items c.loop-place.yielded (sym c.requires.len) last.0 in
    rw (sym all) c.loop-place.invariant.left
