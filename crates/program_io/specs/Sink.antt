-- What a sink shows, and what a text leaves of it that is put out.
use Rattle.std.specs.Prelude.{◌≡◌, ℕ, List, ◌++◌, Option, Some, None}
use Rattle.std.specs.Option.{option_map}
use Rattle.outside.specs.Causes.{Rose}

-- what a sink shows: what was written, where it tells it, the bytes that it took, and how many puts failed
pub record SinkView : Type 0 where
  pub written : Option (List ℕ)
  pub took : List ℕ
  pub faults : ℕ

abbrev pub sink_view : {K : Type 0} → (K → Option (List ℕ)) → (K → List ℕ) → (K → ℕ) → K → SinkView
sink_view written took faults sink = record { written = written sink; took = took sink; faults = faults sink }

-- the sink took this text, and no put failed
pub record TookText (old new : SinkView) (text : List ℕ) : Type 0 where
  pub took : new.took ≡ old.took ++ text
  pub written : new.written ≡ option_map (λ written. written ++ text) old.written
  pub faults : new.faults ≡ old.faults

-- a part of this text was written, from its front
abbrev pub WrotePart : Option (List ℕ) → Option (List ℕ) → List ℕ → Type 0
WrotePart None new text = new ≡ None
WrotePart (Some old) new text = (part : List ℕ) × (rest : List ℕ) × (text ≡ part ++ rest) × (new ≡ Some (old ++ part))

-- the put of this text failed
pub record PutFailed (old new : SinkView) (text : List ℕ) : Type 0 where
  pub took : new.took ≡ old.took
  pub written : WrotePart old.written new.written text
  pub rose : Rose old.faults new.faults
