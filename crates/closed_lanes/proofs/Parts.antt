-- What is kept of ended ports, place by place.
use Rattle.std.proofs.Common.{◌≡◌, ◌<◌, ℕ, List, [], ◌∷◌, ◌++◌, length, map, get_or, ap, ◌∙◌, arith}
use Rattle.std.specs.Prelude.{slice_index}
use Rattle.std.proofs.lemmas.List.{get_or_read, map_push}
use Rattle.async_jobs.specs.Pool.{Lanes}
use Rattle.run_opening.specs.driver_hosts.declared.ending.EndedPort.{EndedPort}
use Rattle.run_opening.specs.driver_hosts.declared.hosted.Hosted.{Hosted}
use Rattle.driver_model.specs.Calls.{Own}
use Rattle.run_lanes.proofs.Places.{ArePlaced}
use Rattle.closed_lanes.specs.Parts.{ArePartedInto, closed_of, events_of}
use Rattle.closed_lanes.specs.declared.closing.ClosedPort.{ClosedPort}

-- the ends of the workers' lanes of the port at this place
abbrev pub IsPoolAt : List EndedPort → ℕ → Lanes → Type 0
IsPoolAt left port pool = (l : EndedPort) → pool ≡ (get_or left port l).outlets.ends.pool

-- one list more, by its items
pub pushed : {V X : Type 0} (items : V → X) (old new : List V) (one : V) → new ≡ old ++ one ∷ [] → map items new ≡ map items old ++ items one ∷ []
pushed items old new one is = ap (map items) is ∙ map_push items old one

module _ {D : Type 0} where
  -- what is kept of the port at this place
  abbrev pub IsKeptAt : (D → Own) → List (Hosted D) → List ℕ → List EndedPort → ℕ → ClosedPort → Type 0
  IsKeptAt own hosts places left port kept = (h : Hosted D) (l : EndedPort) → kept ≡ closed_of (events_of own (get_or hosts (slice_index places port) h)) (get_or left port l)

  pub kept-at : (own : D → Own) (hosts : List (Hosted D)) (places : List ℕ) (left : List EndedPort) (n : ℕ) (kept : ClosedPort) (port : EndedPort) (host : Hosted D) (events : ℕ × ℕ)
      → kept ≡ closed_of events port → events ≡ events_of own host → slice_index places n < length hosts → host ≡ get_or hosts (slice_index places n) host → ((l : EndedPort) → port ≡ get_or left n l)
      → IsKeptAt own hosts places left n kept
  kept-at own hosts places left n kept port host events is told within at first h l =
      let here : host ≡ get_or hosts (slice_index places n) h = get_or_read hosts (slice_index places n) host within at h in
      is ∙ ap (λ e. closed_of e port) (told ∙ ap (events_of own) here) ∙ ap (closed_of (events_of own (get_or hosts (slice_index places n) h))) (first l)

  pub parted-all : (own : D → Own) (hosts : List (Hosted D)) (places : List ℕ) (left : List EndedPort) (ports : List ClosedPort) (pools : List Lanes) (n : ℕ) → n ≡ length left
      → ArePlaced (IsKeptAt own hosts places left) n ports → ArePlaced (IsPoolAt left) n pools → ArePartedInto own hosts places left ports pools
  parted-all own hosts places left ports pools n all kept pooled = record {
    many = kept.many ∙ all;
    pools_many = pooled.many ∙ all;
    each = λ port h l p below.
        let many = kept.many in
        kept.each port p (omega (arith, many, all, below)) h l;
    pools_are = λ port l q below.
        let many = pooled.many in
        pooled.each port q (omega (arith, many, all, below)) l;
  }
