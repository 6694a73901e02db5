use Rattle.std.proofs.Common.{◌≡◌, ◌+◌, ◌≤◌, ◌∷◌, ◌++◌, [], Some, map, length, vec_len, vec_capacity, sym, refl, ap, ◌∙◌, subst, arith, length-append, append_assoc, append-nil}
use Rattle.std.proofs.lemmas.List.Elements.{All-pop, All-map, All-weaker}
use Rattle.run_queue.proofs.EndLemmas.{map_push}
use Rattle.ticket_account.specs.Opening.{IsCounted, AreAlike, HomesOfBodies}
use Rattle.ticket_account.proofs.Gathered.{nil_of}
use Rattle.ticket_account.proofs.Seats.{map_length}
use Rattle.ticket_account.proofs.Openings.{alike_none, room_left}
use Rattle.ticket_account.proofs.homes.deal_homes.Goals as goal

pub ports-init : goal.ports-init
ports-init g c =
    let items = c.into_iter-rest.ensures.rest in
    let lists = c.requires.lists in (
      (let count = ap length items in omega arith),
      omega arith,
      (λ word all. all),
      refl,
      (
        [],
        refl,
        items,
        alike_none (length c.args.lists.items) (map (λ v. v.items) c.args.lists.items)
            (All-map (λ r. r ≡ []) (λ v. v.items) c.args.lists.items
            (All-weaker (λ l. (l.items ≡ []) × (length c.args.bodies.items ≤ vec_capacity l)) (λ l. l.items ≡ []) (λ l is. is.0) c.args.lists.items lists.2)),
      ),
      All-weaker (λ l. (l.items ≡ []) × (length c.args.bodies.items ≤ vec_capacity l)) (λ l. length c.args.bodies.items ≤ vec_capacity l) (λ l is. is.1) c.args.lists.items lists.2,
      refl,
    )

pub unreachable-requires : goal.unreachable-requires
unreachable-requires g c =
    let ports = c.ports.invariant.0 in
    let places = c.ports.invariant.1 in
    let enough = c.requires.enough.0 in
    let next = ap length c.in-Some.ensures.items in
    let none = ap length c.in_default-pop.ensures.items in
    let gone = c.in_default-pop.ensures.cases.0 in
    let size = c.ports.places.ok.0 in
    absurd (omega arith)

pub new-requires-clause-counted : goal.new-requires-clause-counted
new-requires-clause-counted g c =
    let word = c.requires.places.0 in
    let all = c.ports.invariant.2 word c.requires.places.1 in
    (All-pop (IsCounted word) c.ports.places.items c.pop.new.self.items (Some c.in-Some-pop.over) c.in-Some-pop.ensures.items all).1.counted

pub new-requires-clause-waits : goal.new-requires-clause-waits
new-requires-clause-waits g c =
    let word = c.requires.places.0 in
    let all = c.ports.invariant.2 word c.requires.places.1 in
    (All-pop (IsCounted word) c.ports.places.items c.pop.new.self.items (Some c.in-Some-pop.over) c.in-Some-pop.ensures.items all).1.waits

pub add_port-requires-clause-some : goal.add_port-requires-clause-some
add_port-requires-clause-some g c =
    let many = c.ports.invariant.3 in
    let some = c.requires.lists.0 in
    let few = c.requires.lists.1 in
    (omega arith, omega arith)

pub add_port-requires-clause-room : goal.add_port-requires-clause-room
add_port-requires-clause-room g c =
    let inv = c.ports.invariant in
    let alike = inv.4.3 in
    let next = ap length c.in-Some.ensures.items in
    let ports = inv.0 in
    let count = alike.dealt.0 ∙ alike.many ∙ inv.4.1 in (
      length c.args.bodies.items,
      room_left (λ v. v.items) (λ v. vec_len v) (λ v. vec_capacity v) (length c.args.bodies.items) alike.row (λ v. v.ok.0) (omega arith) c.ports.lists.items alike.same inv.5,
    )

pub take_back-requires-clause-some : goal.take_back-requires-clause-some
take_back-requires-clause-some g c =
    let many = c.ports.invariant.3 in
    let some = c.requires.lists.0 in
    let same = ap (λ l. length l.items) c.in-Err.ensures.err.1 in
    omega arith

pub take_back-requires-clause-homes : goal.take_back-requires-clause-homes
take_back-requires-clause-homes g c =
    let inv = c.ports.invariant in
    let lodgers = inv.4.0 in
    let same = sym c.in-Err.ensures.err.1 in
    let bodies = map (λ b. b.body) lodgers in
    let here = subst (λ n. HomesOfBodies n bodies (map (λ v. v.items) c.ports.lists.items)) (sym inv.3) (lodgers, refl, inv.4.3) in
    let count = map_length (λ b. b.body) lodgers in
    let so_many = inv.4.1 in
    let ports = inv.0 in
    let room = c.requires.back.1 in
    let empty = ap length c.requires.back.0 in
    let size = c.args.back.ok.0 in
    let back_len = ap (λ b. vec_len b) inv.6 in
    let back_room = ap (λ b. vec_capacity b) inv.6 in
    (bodies, subst (λ l. HomesOfBodies (length l.items) bodies (map (λ v. v.items) l.items)) same here, omega arith)

pub add-requires : goal.add-requires
add-requires g c =
    let inv = c.ports.invariant in
    let lodgers = inv.4.0 in
    let same = sym c.in-Err.ensures.err.1 in
    let bodies = map (λ b. b.body) lodgers in
    let here = subst (λ n. HomesOfBodies n bodies (map (λ v. v.items) c.ports.lists.items)) (sym inv.3) (lodgers, refl, inv.4.3) in
    let items = c.take_back.ensures.bodies bodies (subst (λ l. HomesOfBodies (length l.items) bodies (map (λ v. v.items) l.items)) same here) in
    let now = ap length items in
    let both = length-append c.ports.back.items bodies in
    let size = c.take_back.new.back.ok.0 in
    let count = map_length (λ b. b.body) lodgers in
    let so_many = inv.4.1 in
    let ports = inv.0 in
    let next = ap length c.in-Some.ensures.items in
    let grown = c.take_back.ensures.capacity in
    let room = c.requires.back.1 in
    let empty = ap length c.requires.back.0 in
    let back_items = ap (λ b. length b.items) inv.6 in
    let back_room = ap (λ b. vec_capacity b) inv.6 in
    omega arith

pub rest-init : goal.rest-init
rest-init g c =
    let inv = c.ports.invariant in
    let lodgers = inv.4.0 in
    let same = sym c.in-Err.ensures.err.1 in
    let bodies = map (λ b. b.body) lodgers in
    let here = subst (λ n. HomesOfBodies n bodies (map (λ v. v.items) c.ports.lists.items)) (sym inv.3) (lodgers, refl, inv.4.3) in
    let items = c.take_back.ensures.bodies bodies (subst (λ l. HomesOfBodies (length l.items) bodies (map (λ v. v.items) l.items)) same here) in
    let back = c.in-Err.lodger.body in
    let body = c.in-Some.body in
    let rest = c.next.new.self.rest.items in
    let gives = c.into_iter-body-iterator.ensures.into_iter_gives in
    let now = ap length items in
    let both = length-append c.ports.back.items bodies in
    let size = c.take_back.new.back.ok.0 in
    let count = map_length (λ b. b.body) lodgers in
    let so_many = inv.4.1 in
    let ports = inv.0 in
    let next = ap length c.in-Some.ensures.items in
    let grown = c.take_back.ensures.capacity in
    let room = c.requires.back.1 in
    let empty = ap length c.requires.back.0 in
    let back_items = ap (λ b. length b.items) inv.6 in
    let back_room = ap (λ b. vec_capacity b) inv.6 in
    let first : c.take_back.new.back.items ≡ bodies = items ∙ ap (λ l. l ++ bodies) (ap (λ b. b.items) inv.6 ∙ c.requires.back.0) in
    let lodger : back ≡ body = ap (λ l. l.body) c.in-Err.ensures.err.0 ∙ c.new.ensures.0 in
    let len = c.next.new.self.rest.ok.0 in
    let rest_len = ap (λ i. i.rest.len) gives in
    let rest_items = ap (λ i. length i.rest.items) gives in
    let more = c.add.ensures.len in
    let kept = c.add.ensures.capacity in (
      omega arith,
      omega arith,
      ap (λ l. c.add.new.all.items ++ l) (ap (λ i. i.rest.items) gives) ∙ ap (λ l. l ++ rest) (c.add.ensures.items ∙ ap (λ l. l ++ back ∷ []) first) ∙ append_assoc bodies (back ∷ []) rest
          ∙ ap (λ b. bodies ++ (b ∷ rest)) lodger ∙ ap (λ l. bodies ++ l) (sym c.in-Some.ensures.items) ∙ inv.4.2,
    )

pub add-requires-in-rest : goal.add-requires-in-rest
add-requires-in-rest g c =
    let room = c.rest.invariant.1 in
    let one = c.in-Some-body.ensures.steps.1 in
    omega arith

pub rest-preserved : goal.rest-preserved
rest-preserved g c =
    let inv = c.rest.invariant in
    let steps = c.in-Some-body.ensures.steps in
    let items = ap length steps.0 in
    let one = steps.1 in
    let was = inv.0 in
    let room = inv.1 in
    let more = c.add-in-rest.ensures.len in
    let kept = c.add-in-rest.ensures.capacity in
    let body = c.in-Some-body.body in
    let rest = c.next-in-rest.new.self.rest.items in (
      omega arith,
      omega arith,
      ap (λ l. l ++ rest) c.add-in-rest.ensures.items ∙ append_assoc c.rest.back.items (body ∷ []) rest ∙ ap (λ l. c.rest.back.items ++ l) (sym steps.0) ∙ inv.2,
    )

pub returns-in-Err-clause-back : goal.returns-in-Err-clause-back
returns-in-Err-clause-back g c =
    let inv = c.rest.invariant in
    let none : length c.rest.body-iterator.rest.items ≡ 0 = sym inv.0 ∙ c.in-None.ensures.steps.0 in
    sym (append-nil c.rest.back.items) ∙ ap (λ l. c.rest.back.items ++ l) (sym (nil_of c.rest.body-iterator.rest.items none)) ∙ inv.2

pub overflow_add-port : goal.overflow_add-port
overflow_add-port g c =
    let ports = c.ports.invariant.0 in
    let next = ap length c.in-Some.ensures.items in
    let enough = c.requires.enough in
    let few = enough.0 in
    let most = enough.1 in
    omega arith

pub ports-preserved : goal.ports-preserved
ports-preserved g c =
    let inv = c.ports.invariant in
    let over = c.in-Some-pop.over in
    let rest = c.next.new.self.rest.items in
    let size = ap length c.in-Some-pop.ensures.items in
    let more = length-append c.pop.new.self.items (over ∷ []) in
    let next = ap length c.in-Some.ensures.items in
    let ports = inv.0 in
    let places = inv.1 in
    let bodies = inv.4.0 in
    let lodger = c.new.result in (
      omega arith,
      omega arith,
      (λ word all. (All-pop (IsCounted word) c.ports.places.items c.pop.new.self.items (Some over) c.in-Some-pop.ensures.items (inv.2 word all)).0),
      c.in_default-add_port.ensures.many ∙ inv.3,
      (
        bodies ++ lodger ∷ [],
        length-append bodies (lodger ∷ []) ∙ ap (λ n. n + 1) inv.4.1,
        ap (λ l. l ++ rest) (map_push (λ b. b.body) bodies lodger) ∙ append_assoc (map (λ b. b.body) bodies) (lodger.body ∷ []) rest
            ∙ ap (λ b. map (λ x. x.body) bodies ++ (b ∷ rest)) c.new.ensures.0 ∙ ap (λ l. map (λ x. x.body) bodies ++ l) (sym c.in-Some.ensures.items) ∙ inv.4.2,
        subst (λ n. AreAlike n (bodies ++ lodger ∷ []) (map (λ v. v.items) c.add_port.new.lists.items)) inv.3
            (c.in_default-add_port.ensures.alike bodies inv.4.1 (subst (λ n. AreAlike n bodies (map (λ v. v.items) c.ports.lists.items)) (sym inv.3) inv.4.3)),
      ),
      c.in_default-add_port.ensures.capacity (length c.args.bodies.items) inv.5,
      inv.6,
    )

pub returns-clause-homes : goal.returns-clause-homes
returns-clause-homes g c =
    let inv = c.ports.invariant in
    let none : c.ports.rest.rest.items ≡ [] = nil_of c.ports.rest.rest.items (let gone = c.in_default.ensures.cases.0 in let size = c.ports.rest.rest.ok.0 in omega arith) in
    (inv.3, (inv.4.0, sym (append-nil (map (λ b. b.body) inv.4.0)) ∙ ap (λ l. map (λ b. b.body) inv.4.0 ++ l) (sym none) ∙ inv.4.2, inv.4.3))

pub returns-clause-places : goal.returns-clause-places
returns-clause-places g c = c.ports.invariant.2

pub returns-clause-left : goal.returns-clause-left
returns-clause-left g c =
    let inv = c.ports.invariant in
    let ports = inv.0 in
    let places = inv.1 in
    let none = c.in_default.ensures.cases.0 in
    let size = c.ports.rest.rest.ok.0 in
    omega arith
