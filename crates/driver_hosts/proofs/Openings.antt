-- One more port is open, or its driver refused and the earlier ones are back.
use Rattle.std.proofs.Common.{inl, inr, arith, ◌≡◌, ◌≢◌, ℕ, ◌<◌, ◌≤◌, List, [], ◌∷◌, ◌++◌, length, take, Option, Some, None, refl, sym, ap, ◌∙◌}
use Rattle.std.specs.Prelude.{All, slice_index, slice_index_or, slice_set}
use Rattle.std.proofs.lemmas.Bool.{cases_lt}
use Rattle.std.proofs.lemmas.List.{get_or_append_left, get_or_push, get_or_read, get_or-take, get_or-set_same, get_or-set_other, length-set, length_push}
use Rattle.port_driver.specs.driver_model.Calls.{Kind, Own}
use Rattle.port_driver.specs.driver_model.Programs.{ToldProgram}
use Rattle.port_driver.specs.declared.life.Life.{Life}
use Rattle.port_driver.specs.declared.life.StartRefusal.{StartRefusal}
use Rattle.script_plan.specs.declared.decl.PortDecl.{PortDecl}
use Rattle.port_body.specs.Body.{BodyView}
use Rattle.driver_hosts.specs.declared.hosted.Hosted.{Hosted}
use Rattle.driver_hosts.specs.declared.room.PortRoom.{PortRoom}
use Rattle.driver_hosts.specs.Back.{HasNotStarted, HasServed, ServedBefore}
use Rattle.driver_hosts.specs.Hosts.{IsUnused}
use Rattle.driver_hosts.specs.Opening.{AreOpened, HasOpened, Starts}
use Rattle.driver_hosts.specs.Returning.{AreReturned, HasReturned}

some : {A : Type 0} (xs : List A) {n : ℕ} → n < length xs → A
some [] l = absurd (omega arith)
some (x ∷ xs) l = x

module _ {D : Type 0} (kind : D → Kind) (stage : D → Life) (faults : D → ℕ) (ports : List PortDecl) (rooms : List PortRoom) (places : List ℕ) (old : List (Hosted D)) where
  host-of : (host : Hosted D) (port : Option ℕ) (driver : Option D) → host.port ≡ port → host.driver ≡ driver → host ≡ record { port = port; driver = driver }
  host-of host port driver e f = ap (λ p. record { port = p; driver = host.driver }) e ∙ ap (λ d. record { port = port; driver = d }) f

  pub opened-none : AreOpened kind faults ports rooms places old old []
  opened-none = record {
    len = refl;
    opened = λ port p r d body l. absurd (omega arith);
    others = λ at d apart. refl;
  }

  module _ (new : List (Hosted D)) (bodies : List BodyView) (port at : ℕ) (o : AreOpened kind faults ports rooms places old new bodies) (counts : length bodies ≡ port)
      (stands_at : slice_index places port ≡ at) (within : at < length old) (apart : (earlier : ℕ) → earlier < port → slice_index places earlier ≢ at) where
    inside : at < length new
    inside = rw o.len within

    -- the driver of the next port stands untouched at its place
    pub stands : (before d : Hosted D) → before ≡ slice_index_or new at before → before ≡ slice_index_or old at d
    stands before d was = get_or_read new at before inside was d ∙ o.others at d (λ p q. apart p (omega arith))

    -- one more port is open
    pub opened-more : (p : PortDecl) (r : PortRoom) (before after : Hosted D) (body : BodyView) → port < length ports → p ≡ slice_index_or ports port p → port < length rooms → r ≡ slice_index_or rooms port r
        → before ≡ slice_index_or new at before → HasOpened kind faults port p r before after body → AreOpened kind faults ports rooms places old (slice_set new at after) (bodies ++ body ∷ [])
    opened-more p r before after body more declares roomy holds was opens = record {
      len = length-set new at after ∙ o.len;
      opened = λ k v w d b l. elim (cases_lt k (length bodies)) [
        | inl h ↦ rw (get_or_append_left bodies (body ∷ []) b k h, get_or-set_other new at (slice_index places k) after d (apart k (omega arith))) (o.opened k v w d b h)
        | inr h ↦ last k v w d b (sym counts ∙ last-place k l h)
      ];
      others = λ k d not. get_or-set_other new at k after d (λ e. not port (rw length_push (omega arith)) (stands_at ∙ sym e))
          ∙ o.others k d (λ p q. not p (rw length_push (omega arith)));
    }
      where
        last-place : (k : ℕ) → k < length (bodies ++ body ∷ []) → length bodies ≤ k → length bodies ≡ k
        last-place k l h = let e = length_push bodies body in omega (arith, e, l)

        last : (k : ℕ) (v : PortDecl) (w : PortRoom) (d : Hosted D) (b : BodyView) → port ≡ k
            → HasOpened kind faults k (slice_index_or ports k v) (slice_index_or rooms k w) (slice_index_or old (slice_index places k) d) (slice_index_or (slice_set new at after) (slice_index places k) d) (slice_index_or (bodies ++ body ∷ []) k b)
        last k v w d b e = rw (
          sym e,
          get_or_push bodies body b port counts,
          stands_at,
          get_or-set_same new at after d inside,
          sym (get_or_read ports port p more declares v),
          sym (get_or_read rooms port r roomy holds w),
          sym (stands before d was),
        ) opens

    -- a driver that served a port is back
    served : (own : D → Own) (program : D → Option ToldProgram) (number : ℕ) (p : PortDecl) (r : PortRoom) (first opened back : Hosted D) (body : BodyView) → IsUnused stage first
        → HasOpened kind faults number p r first opened body → HasReturned kind stage faults own program body opened back → HasServed kind stage faults number first back
    served own program number p r first opened back body unused h t = record {
      before = h.driver;
      after = t.driver;
      back = record {
        handed = host-of first None (Some h.driver) unused.0 h.handed;
        returned = t.back ∙ ap (λ (host : Hosted D). record host { driver = Some t.driver }) h.taken;
        same_kind = t.same_kind ∙ h.opened.name.kind_is;
        no_fewer_faults = rw h.opened.name.faults_are at t.faults_rise;
      };
      stopped = t.at_rest;
    }

    -- no driver of an open port refuses
    pub all-start : (k : ℕ) → k < length bodies → length bodies ≤ length ports → length bodies ≤ length rooms → Starts kind ports places old k
    all-start k l few roomy p d =
        let opened = o.opened k p (some rooms {n = k} (omega arith)) d (some bodies l) l in
        rw opened.handed opened.starts

    -- the drivers are back where one didn't start and the earlier ports were ended
    pub refused-back : (own : D → Own) (program : D → Option ToldProgram) (last : List (Hosted D)) (p : PortDecl) (r : PortRoom) (refusal : StartRefusal) (before after : Hosted D)
        → port < length places → port < length ports → p ≡ slice_index_or ports port p → All (λ at. at < length old) places → All (IsUnused stage) old
        → before ≡ slice_index_or new at before → HasNotStarted kind stage faults p.config refusal before after
        → AreReturned kind stage faults own program bodies (take port places) (slice_set new at after) last → ServedBefore kind stage faults ports places port refusal old last
    refused-back own program last p r refusal before after more many declares among unused was back t = record {
      len = t.len ∙ length-set new at after ∙ o.len;
      served = λ k d l.
          let lp : k < length bodies = rw counts l in
          let place : k < length places = omega (arith, l, more) in
          let here : slice_index (take port places) k ≡ slice_index places k = get_or-take port places k 0 l in
          let opened = o.opened k p r d (some bodies lp) lp in
          let returned = rw (here, get_or-set_other new at (slice_index places k) after d (apart k l)) at (t.returned k (some bodies lp) d lp) in
          served own program k _ _ _ _ _ _ (unused (slice_index places k) d (among k 0 place)) opened returned;
      unstarted = λ v d.
          let final : slice_index_or last at d ≡ after = t.others at d (λ k q. rw (get_or-take port places k 0 (rw counts at q)) (apart k (rw counts at q))) ∙ get_or-set_same new at after d inside in
          rw (stands_at, sym (get_or_read ports port p many declares v), sym (stands before d was), final) back;
      others = λ k d none.
          t.others k d (λ i q. rw (get_or-take port places i 0 (rw counts at q)) (none i (omega (arith, q, counts))))
          ∙ (get_or-set_other new at k after d (λ e. none port (omega arith) (stands_at ∙ sym e)) ∙ o.others k d (λ i q. none i (omega (arith, q, counts))));
    }
