-- Each port gets the driver of its name behind as many of it as earlier ports want: so it is the first that no earlier port got.
use Rattle.std.proofs.Common.{inl, inr, arith, ◌≡◌, ◌≢◌, ℕ, ◌<◌, ◌≤◌, List, [], ◌∷◌, ◌++◌, length, take, Bool, true, false, Option, Some, None, refl, subst, sym, ap, ◌+◌, ◌∙◌}
use Rattle.std.specs.Prelude.{count_by, slice_index, slice_index_or, unwrap_or, if◌then◌else◌}
use Rattle.std.specs.HashMap.{HashMap, UpdatesBy, get_by}
use Rattle.std.proofs.lemmas.Map.Text.{hash_map_updates_str}
use Rattle.std.specs.Option.{option_map_or}
use Rattle.std.specs.Str.{bytes_eq}
use denote.Ref.{Bor}
use Rattle.std.proofs.lemmas.Bool.{cases_lt, cases_Bool}
use Rattle.std.proofs.lemmas.List.{get_or_append_left, get_or_push, get_or_default, get_or_read, length_push}
use Rattle.std.proofs.lemmas.List.Sums.{count_by_more_yes, count_by_more_no}
use Rattle.std.proofs.lemmas.Slice.Eq.{bytes_eq-Decides}
use Rattle.port_driver.specs.driver_model.Calls.{Kind}
use Rattle.port_driver.specs.driver_model.Drivers.{kind_name}
use Rattle.script_plan.specs.declared.decl.PortDecl.{PortDecl}
use Rattle.driver_hosts.specs.declared.hosted.Hosted.{Hosted}
use Rattle.driver_hosts.specs.Hosts.{is_named, named_count}
use Rattle.driver_hosts.specs.Finding.{Found, HasDriver, HasDrivers, LacksDriver, next_of, wanted_before}
use Rattle.driver_hosts.proofs.Counts.{count-rises, count-all, one-behind, same-place}

-- an entry more moves the search for its own name alone
pub moves-next : {S : Type 0} (old new : HashMap (Bor (List ℕ)) ℕ S) (key : Bor (List ℕ)) (name : List ℕ) (place : ℕ) → key.now ≡ name
    → UpdatesBy (λ (x y : Bor (List ℕ)). bytes_eq x.now y.now) (λ (k : Bor (List ℕ)). bytes_eq key.now k.now) old new (Some place)
    → (other : List ℕ) → next_of new other ≡ (if bytes_eq name other then place else next_of old other)
moves-next old new key name place is updates other =
    go (bytes_eq name other) (rw (is) at (hash_map_updates_str key.now old new (Some place) updates other))
  where
    go : (b : Bool) → get_by (λ (k : Bor (List ℕ)). bytes_eq other k.now) new ≡ (if b then Some place else get_by (λ (k : Bor (List ℕ)). bytes_eq other k.now) old)
        → next_of new other ≡ (if b then place else next_of old other)
    go true e = ap (λ o. unwrap_or o 0) e
    go false e = ap (λ o. unwrap_or o 0) e

-- an element of a list that isn't empty
some : {A : Type 0} (xs : List A) (n : ℕ) → n < length xs → A
some [] n h = absurd (omega arith)
some (x ∷ xs) n h = x

module _ {D : Type 0} where
  -- the places of the drivers of the first ports
  pub record Ranked (kind : D → Kind) (hosts : List (Hosted D)) (ports : List PortDecl) (places : List ℕ) : Type 0 where
    pub len : length places ≤ length ports
    pub within : (port : ℕ) → port < length places → slice_index places port < length hosts
    pub named : (port : ℕ) (w : PortDecl) (d : Hosted D) → port < length places
        → is_named kind (slice_index_or ports port w).driver (slice_index_or hosts (slice_index places port) d) ≡ true
    pub behind : (port : ℕ) (w : PortDecl) → port < length places
        → named_count kind (slice_index_or ports port w).driver (take (slice_index places port) hosts) ≡ wanted_before ports port (slice_index_or ports port w).driver

  -- the search for the next driver of a name passed one for each of the first ports that wants it
  pub record Passed {S : Type 0} (kind : D → Kind) (hosts : List (Hosted D)) (ports : List PortDecl) (port : ℕ) (behind : HashMap (Bor (List ℕ)) ℕ S) : Type 0 where
    pub within : (name : List ℕ) → next_of behind name ≤ length hosts
    pub counted : (name : List ℕ) → named_count kind name (take (next_of behind name) hosts) ≡ wanted_before ports port name

  -- a name is that of a driver
  named-as : (kind : D → Kind) (driver : Option D) (m n : List ℕ) → option_map_or (λ d. bytes_eq (kind_name (kind d)) m) driver false ≡ true
      → option_map_or (λ d. bytes_eq (kind_name (kind d)) n) driver false ≡ true → m ≡ n
  named-as kind None m n a b = absurd (cc)
  named-as kind (Some d) m n a b = sym ((bytes_eq-Decides (kind_name (kind d)) m).0 a) ∙ (bytes_eq-Decides (kind_name (kind d)) n).0 b

  -- a driver has one name
  one-name : (kind : D → Kind) (host : Hosted D) (m n : List ℕ) → is_named kind m host ≡ true → is_named kind n host ≡ true → m ≡ n
  one-name kind host m n a b = named-as kind host.driver m n a b

  module _ (kind : D → Kind) (hosts : List (Hosted D)) (ports : List PortDecl) where
    pub ranked-none : Ranked kind hosts ports []
    ranked-none = record {
      len = omega arith;
      within = λ port l. absurd (omega arith);
      named = λ port w d l. absurd (omega arith);
      behind = λ port w l. absurd (omega arith);
    }

    -- one more port has its driver
    pub ranked-push : (places : List ℕ) (n at : ℕ) (port : PortDecl) → Ranked kind hosts ports places → length places ≡ n → n < length ports → port ≡ slice_index_or ports n port
        → at < length hosts → ((d : Hosted D) → is_named kind port.driver (slice_index_or hosts at d) ≡ true)
        → named_count kind port.driver (take at hosts) ≡ count_by (λ p. bytes_eq p.driver port.driver) (take n ports)
        → Ranked kind hosts ports (places ++ at ∷ [])
    ranked-push places n at port r len more stands within named behind = record {
      len = rw (length_push places at) (omega arith);
      within = λ k l. elim (cases_lt k (length places)) [
        | inl h ↦ rw (get_or_append_left places (at ∷ []) 0 k h) (r.within k h)
        | inr h ↦ rw (get_or_push places at 0 k (last k l h)) within
      ];
      named = λ k w d l. elim (cases_lt k (length places)) [
        | inl h ↦ rw (get_or_append_left places (at ∷ []) 0 k h) (r.named k w d h)
        | inr h ↦ rw (get_or_push places at 0 k (last k l h), sym (last k l h) ∙ len, sym (get_or_read ports n port more stands w)) (named d)
      ];
      behind = λ k w l. elim (cases_lt k (length places)) [
        | inl h ↦ rw (get_or_append_left places (at ∷ []) 0 k h) (r.behind k w h)
        | inr h ↦ rw (get_or_push places at 0 k (last k l h), sym (last k l h) ∙ len, sym (get_or_read ports n port more stands w)) behind
      ];
    }
      where
        last : (k : ℕ) → k < length (places ++ at ∷ []) → length places ≤ k → length places ≡ k
        last k l h = let e = length_push places at in omega (arith, e, l)

    -- the search for the drivers of the next port's name passed one more
    pub passed-more : {S : Type 0} (old new : HashMap (Bor (List ℕ)) ℕ S) (n place : ℕ) (port : PortDecl) → Passed kind hosts ports n old → n < length ports → port ≡ slice_index_or ports n port
        → place < length hosts → ((d : Hosted D) → is_named kind port.driver (slice_index_or hosts place d) ≡ true)
        → named_count kind port.driver (take place hosts) ≡ named_count kind port.driver (take (next_of old port.driver) hosts)
        → ((name : List ℕ) → next_of new name ≡ (if bytes_eq port.driver name then place + 1 else next_of old name))
        → Passed kind hosts ports (n + 1) new
    passed-more old new n place port p more stands within named same moves = record {
      within = λ name. rw (moves name) (elim (cases_Bool (bytes_eq port.driver name)) [
        | inl wants ↦ rw wants (omega arith)
        | inr other ↦ rw other (p.within name)
      ]);
      counted = λ name. rw (moves name) (elim (cases_Bool (bytes_eq port.driver name)) [
        | inl wants ↦
            let is : port.driver ≡ name = (bytes_eq-Decides port.driver name).0 wants in
            let d = some hosts place within in
            let host_more = count_by_more_yes (is_named kind port.driver) hosts place d within (named d) in
            let port_more = count_by_more_yes (λ (q : PortDecl). bytes_eq q.driver name) ports n port more (rw (sym stands) wants) in
            rw wants (rw is at (host_more ∙ ap (λ k. k + 1) (same ∙ p.counted port.driver)) ∙ sym port_more)
        | inr other ↦
            let port_more = count_by_more_no (λ (q : PortDecl). bytes_eq q.driver name) ports n port more (rw (sym stands) other) in
            rw other (p.counted name ∙ sym port_more)
      ]);
    }

    -- a port that has a driver had one left
    pub ranked-has : (places : List ℕ) → Ranked kind hosts ports places → (port : ℕ) → port < length places → HasDriver kind hosts ports port
    ranked-has places r port l w =
        let d = some hosts _ (r.within port l) in
        rw (sym (r.behind port w l)) (count-all (is_named kind (slice_index_or ports port w).driver) hosts (slice_index places port) d (r.within port l) (r.named port w d l))

    -- no two ports have one driver
    different : (places : List ℕ) → Ranked kind hosts ports places → (i j : ℕ) → i < j → j < length places → slice_index places i ≢ slice_index places j
    different places r i j less l same =
        let li : i < length places = omega arith in
        let len = r.len in
        let lw : i < length ports = omega arith in
        let w = some ports i lw in
        let d = some hosts _ (r.within j l) in
        let ni = r.named i w d li in
        let nj = r.named j w d l in
        apart i j w (slice_index places j) less lw (one-name kind (slice_index_or hosts (slice_index places j) d) _ _ (rw same at ni) nj) (rw same at (r.behind i w li)) (r.behind j w l)
      where
        apart : (i j : ℕ) (w : PortDecl) (at : ℕ) → i < j → i < length ports → (slice_index_or ports i w).driver ≡ (slice_index_or ports j w).driver
            → named_count kind (slice_index_or ports i w).driver (take at hosts) ≡ wanted_before ports i (slice_index_or ports i w).driver
            → named_count kind (slice_index_or ports j w).driver (take at hosts) ≡ wanted_before ports j (slice_index_or ports j w).driver → ⊥
        apart i j w at less l name a b =
            let rises = count-rises (λ p. bytes_eq p.driver (slice_index_or ports i w).driver) ports i j w less l
            ((bytes_eq-Decides (slice_index_or ports i w).driver (slice_index_or ports i w).driver).1 refl) in
            let b' = rw (sym name) at b in
            omega (arith, a, b', rises)

    -- an earlier driver of the name is that of an earlier port
    first : (places : List ℕ) → Ranked kind hosts ports places → (port at : ℕ) (w : PortDecl) (d : Hosted D) → port < length places → at < slice_index places port
        → is_named kind (slice_index_or ports port w).driver (slice_index_or hosts at d) ≡ true
        → (earlier : ℕ) × (earlier < port) × (slice_index places earlier ≡ at)
    first places r port at w d l before named =
        let name = (slice_index_or ports port w).driver in
        let in_port = r.within port l in
        let in_at : at < length hosts = omega arith in
        let rises = count-rises (is_named kind name) hosts at (slice_index places port) d before in_at named in
        let few : named_count kind name (take at hosts) < wanted_before ports port (slice_index_or ports port w).driver = rw (r.behind port w l) at rises in
        let len = r.len in
        let found = one-behind (λ p. bytes_eq p.driver name) ports port (named_count kind name (take at hosts)) w (omega arith) few in
        let j = found.0 in
        let lj : j < length places = omega (arith, found.1, l) in
        let called : (slice_index_or ports j w).driver ≡ name = (bytes_eq-Decides (slice_index_or ports j w).driver name).0 found.2 in
        let behind = rw called at (r.behind j w lj) in
        (j, found.1, same-place (is_named kind name) hosts (slice_index places j) at d (r.within j lj) in_at (rw called at (r.named j w d lj)) named (behind ∙ found.3))

    pub ranked-found : (places : List ℕ) → Ranked kind hosts ports places → length places ≡ length ports → Found kind hosts ports places
    ranked-found places r len = record {
      len = len;
      within = λ k d l. rw (get_or_default places k d 0 l) (r.within k l);
      different = λ i j d less l. rw (get_or_default places i d 0 (omega arith), get_or_default places j d 0 l) (different places r i j less l);
      named = r.named;
      first = first places r;
    }

    -- the first port that has no driver
    pub lacks : (places : List ℕ) (n handed : ℕ) (port : PortDecl) → Ranked kind hosts ports places → length places ≡ n → n < length ports → port ≡ slice_index_or ports n port
        → handed ≡ named_count kind port.driver hosts → handed ≡ wanted_before ports n port.driver → LacksDriver kind hosts ports n handed
    lacks places n handed port r len more stands counted taken = record {
      within = more;
      counted = λ w. subst (λ (q : PortDecl). handed ≡ named_count kind q.driver hosts) (get_or_read ports n port more stands w) counted;
      taken = λ w. subst (λ (q : PortDecl). handed ≡ wanted_before ports n q.driver) (get_or_read ports n port more stands w) taken;
      before = λ k l. ranked-has places r k (omega arith);
    }

    -- it isn't so where each port has a driver
    pub no-lack : (n handed : ℕ) → PortDecl → HasDrivers kind hosts ports → LacksDriver kind hosts ports n handed → ⊥
    no-lack n handed w has l =
        let a = has n l.within w in
        let b = l.counted w in
        let c = l.taken w in
        less a (sym b ∙ c)
      where
        less : {m n : ℕ} → m < n → n ≡ m → ⊥
        less a c = omega arith
