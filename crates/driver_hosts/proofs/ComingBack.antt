-- All drivers come back, with every outcome.
use Rattle.std.proofs.Common.{inl, inr, arith, ◌≡◌, ◌≢◌, ℕ, zero, suc, ◌<◌, ◌⊎◌, List, [], ◌∷◌, length, Option, Some, None, refl, subst, sym, ap, ◌∙◌}
use Rattle.std.specs.Prelude.{All, IsSomeAnd, slice_index, slice_index_or}
use Rattle.std.proofs.lemmas.Bool.{cases_lt, cases_eq}
use Rattle.port_driver.specs.driver_model.Calls.{Kind, Own}
use Rattle.port_driver.specs.driver_model.Programs.{ToldProgram}
use Rattle.port_driver.specs.declared.life.Life.{Life}
use Rattle.port_driver.specs.declared.life.Life.TheVariants.{Fresh}
use Rattle.port_driver.specs.declared.life.StartRefusal.{StartRefusal}
use Rattle.script_plan.specs.declared.decl.PortDecl.{PortDecl}
use Rattle.port_body.specs.Body.{BodyView, name_of}
use Rattle.driver_hosts.specs.declared.hosted.Hosted.{Hosted}
use Rattle.driver_hosts.specs.declared.room.PortRoom.{PortRoom}
use Rattle.driver_hosts.specs.Back.{AllCameBack, CameBack, HasNotStarted, HasServed, HaveServed}
use Rattle.driver_hosts.specs.Hosts.{IsUnused}
use Rattle.driver_hosts.specs.Laws.{RefusedComeBack, ServedComeBack}
use Rattle.driver_hosts.specs.Opening.{HasOpened}
use Rattle.driver_hosts.specs.Returning.{HasReturned}

-- a port of this place, or none
place-or-none : (places : List ℕ) (n at : ℕ) → ((port : ℕ) × (port < n) × (slice_index places port ≡ at)) ⊎ ((port : ℕ) → port < n → slice_index places port ≢ at)
place-or-none places zero at = inr (λ port l. absurd (omega arith))
place-or-none places (suc n) at = elim (cases_eq (slice_index places n) at) [
  | inl same ↦ inl (n, omega arith, same)
  | inr apart ↦ elim (place-or-none places n at) [
    | inl found ↦ inl (found.0, omega (arith, found.1), found.2)
    | inr none ↦ inr (λ port l. elim (cases_lt port n) [
      | inl h ↦ none port h
      | inr h ↦ let e : n ≡ port = omega arith in rw (sym e) apart
    ])
  ]
]

-- an element of a list that isn't empty
some : {A : Type 0} (xs : List A) {n : ℕ} → n < length xs → A
some [] l = absurd (omega arith)
some (x ∷ xs) l = x

module _ {D : Type 0} (kind : D → Kind) (stage : D → Life) (faults : D → ℕ) where
  host-of : (host : Hosted D) (port : Option ℕ) (driver : Option D) → host.port ≡ port → host.driver ≡ driver → host ≡ record { port = port; driver = driver }
  host-of host port driver e f = ap (λ p. record { port = p; driver = host.driver }) e ∙ ap (λ d. record { port = port; driver = d }) f

  -- a driver that served a port is back, whatever turns its body made
  served : (own : D → Own) (program : D → Option ToldProgram) (number : ℕ) (p : PortDecl) (r : PortRoom) (first opened back : Hosted D) (body ended : BodyView) → IsUnused stage first
      → name_of ended ≡ name_of body → HasOpened kind faults number p r first opened body → HasReturned kind stage faults own program ended opened back → HasServed kind stage faults number first back
  served own program number p r first opened back body ended unused named h t = record {
    before = h.driver;
    after = t.driver;
    back = record {
      handed = host-of first None (Some h.driver) unused.0 h.handed;
      returned = t.back ∙ ap (λ (host : Hosted D). record host { driver = Some t.driver }) h.taken;
      same_kind = t.same_kind ∙ (ap (λ n. n.opening.kind) named ∙ h.opened.name.kind_is);
      no_fewer_faults =
          let same = ap (λ n. n.faults) named ∙ h.opened.name.faults_are in
          let rise = t.faults_rise in
          omega (arith, same, rise);
    };
    stopped = t.at_rest;
  }

  -- a driver that wasn't touched is fresh
  untouched : (host : Hosted D) → IsUnused stage host → CameBack kind stage faults host host
  untouched host unused = go host.driver refl unused.1
    where
      go : (driver : Option D) → host.driver ≡ driver → IsSomeAnd driver (λ d. stage d ≡ Fresh) → CameBack kind stage faults host host
      go None e fresh = absurd fresh
      go (Some d) e fresh =
          let is = host-of host None (Some d) unused.0 e in
          record {
            port = None;
            before = d;
            after = d;
            back = record { handed = is; returned = is; same_kind = refl; no_fewer_faults = omega arith };
            at_rest = inl fresh;
          }

  of-served : (port : ℕ) (old new : Hosted D) → HasServed kind stage faults port old new → CameBack kind stage faults old new
  of-served port old new s = record { port = Some port; before = s.before; after = s.after; back = s.back; at_rest = inr s.stopped }

  of-unstarted : (config : _) (refusal : StartRefusal) (old new : Hosted D) → HasNotStarted kind stage faults config refusal old new → CameBack kind stage faults old new
  of-unstarted config refusal old new s = record { port = None; before = s.before; after = s.after; back = s.back; at_rest = s.at_rest }

  here : (old new : List (Hosted D)) (place at : ℕ) (d : Hosted D) → place ≡ at → CameBack kind stage faults (slice_index_or old place d) (slice_index_or new place d)
      → CameBack kind stage faults (slice_index_or old at d) (slice_index_or new at d)
  here old new place at d e back = subst (λ at. CameBack kind stage faults (slice_index_or old at d) (slice_index_or new at d)) e back

  as-handed : (old new : List (Hosted D)) (at : ℕ) (d : Hosted D) → All (IsUnused stage) old → at < length old → slice_index_or new at d ≡ slice_index_or old at d
      → CameBack kind stage faults (slice_index_or old at d) (slice_index_or new at d)
  as-handed old new at d unused within same = rw same (untouched (slice_index_or old at d) (unused at d within))

  all-served-back : (places : List ℕ) (old new : List (Hosted D)) → All (IsUnused stage) old → HaveServed kind stage faults places old new → AllCameBack kind stage faults old new
  all-served-back places old new unused s = record {
    len = s.len;
    hosts = λ at d l. elim (place-or-none places (length places) at) [
      | inl found ↦ here old new (slice_index places found.0) at d found.2 (of-served found.0 _ _ (s.served found.0 d found.1))
      | inr none ↦ as-handed old new at d unused l (s.others at d none)
    ];
  }

  pub refused-come-back : RefusedComeBack kind stage faults
  refused-come-back ports p places port refusal old new unused s = record {
    len = s.len;
    hosts = λ at d l. elim (place-or-none places (suc port) at) [
      | inl found ↦ elim (cases_lt found.0 port) [
        | inl less ↦ here old new (slice_index places found.0) at d found.2 (of-served found.0 _ _ (s.served found.0 d less))
        | inr most ↦
            let last : port ≡ found.0 = omega (arith, found.1, most) in
            here old new (slice_index places port) at d (ap (slice_index places) last ∙ found.2) (of-unstarted (slice_index_or ports port p).config refusal _ _ (s.unstarted p d))
      ]
      | inr none ↦ as-handed old new at d unused l (s.others at d (λ k l. none k (omega arith)))
    ];
  }

  pub served-come-back : (own : D → Own) (program : D → Option ToldProgram) → ServedComeBack kind stage faults own program
  served-come-back own program ports rooms places old mid new opened ended unused within count many roomy keep o t = (all, all-served-back places old new unused all)
    where
      all : HaveServed kind stage faults places old new
      all = record {
        len = t.len ∙ o.len;
        served = λ port d l.
            let lo : port < length opened = rw (sym count) l in
            let le : port < length ended = rw keep.count lo in
            let v = some opened lo in
            let w = some ended le in
            let p = some ports {n = port} (rw many lo) in
            let r = some rooms {n = port} (rw roomy lo) in
            let place = slice_index places port in
            served own program port (slice_index_or ports port p) (slice_index_or rooms port r) (slice_index_or old place d) (slice_index_or mid place d) (slice_index_or new place d)
            (slice_index_or opened port v) (slice_index_or ended port w) (unused place d (within port 0 l)) (keep.each port v w lo) (o.opened port p r d v lo) (t.returned port w d le);
        others = λ at d none. t.others at d (λ port l. none port (rw (count, sym keep.count) l)) ∙ o.others at d (λ port l. none port (rw count l));
      }
