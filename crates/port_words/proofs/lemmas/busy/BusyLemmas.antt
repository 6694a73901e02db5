-- Each kind of step, split and join keeps the whole rule, and tells what its `Play` says.
use Rattle.std.proofs.Common.{◌≡◌, ℕ, zero, suc, ◌+◌, ◌-◌, ◌*◌, ◌%◌, ◌^◌, ◌<◌, ◌≤◌, ◌≢◌, Bool, true, false, true≢false, eqb, List, [], ◌∷◌, ◌++◌, length, get_or, set, drop, sym, refl, ap, ◌∙◌, subst, arith, ⊎_elim, get_or-set_same, get_or-set_other, length-set, add-zero, append-nil}
use Rattle.std.specs.List.{All, sum_by}
use Rattle.std.proofs.lemmas.List.Elements.{All-head, All-cons, All-nil, All-set, All-push, All-weaker}
use mathlib.Core.Option.{some, some-injective, some-ne-none}
use lib.ListN.{get_elem?}
use prog.Atomic.{either}
use Rattle.atomic_table.proofs.Lists.{exchanged}
use Rattle.atomic_table.specs.Seated.{TableId}
use Rattle.atomic_table.specs.Table.{State, Me, Act, Allows, Splits, Joins, keeps, Valid, homes_after, carried_after, opening}
use Rattle.std.proofs.lemmas.List.Sums.{sum_by-cons}
use Rattle.port_words.specs.sums.Counts.{once_below, one_if}
use Rattle.port_words.proofs.lemmas.sums.Counting.{once_below-not, once_below-step}
use Rattle.port_words.proofs.lemmas.sums.Totals.{sum_at, sum_alone, sum_only, all_at}
use Rattle.port_words.specs.declared.busy.view.AddHow.{AddHow}
use Rattle.port_words.specs.declared.busy.view.BusySetup.{BusySetup}
use Rattle.port_words.specs.declared.busy.view.StatMark.{StatMark}
use Rattle.port_words.specs.declared.busy.view.AddName.{AddName}
use Rattle.port_words.specs.declared.busy.view.QueueAdd.{QueueAdd}
use Rattle.port_words.specs.declared.busy.view.SenderLedger.{SenderLedger}
use Rattle.port_words.specs.declared.busy.view.SenderView.{SenderView}
use Rattle.port_words.specs.declared.busy.view.BusyView.{BusyView}
use Rattle.port_words.specs.declared.busy.view.PlannedAdd.{PlannedAdd}
use Rattle.port_words.specs.busy.Views.{over_senders, adds_of, adds_by, over_adds, undone_weigh, weights_weigh, removed_weigh, size_of, senders_in, is_add, is_numbered, adds_made_by, fresh_sender, WordsIn, seat_view}
use Rattle.port_words.specs.busy.Stat.{stat_of, Rises, EachRises, IsStat}
use Rattle.port_words.specs.busy.Queue.{period_of, bytes_of, Climbs, is_left_at, left_in, is_nosuspend, unsuspended_in, filled_in, add_size, added, taken, IsWithin}
use Rattle.port_words.specs.busy.Parts.{IsSetup, IsLedger, IsLedgered, IsClimbing, IsLevel, IsBounded, IsFilled, RemovesAsPort, IsBusyTable}
use Rattle.port_words.specs.busy.Known.{SendKnown, send_known, with_weight, removed_view, setup_of, fresh_port, fresh_senders, fresh_seats, InRange}
use Rattle.port_words.specs.busy.Steps.{TellsQueue, own, saw, heard, next_name, next_add, adding, undoing, port_heard, marked, removing, first_sender, other_senders, its_weights, no_weights, joined, spent, FindsStat, Marks, Learns, SenderHears, PortHears, Adds, Undoes, Removes}
use Rattle.port_words.proofs.lemmas.busy.ViewLemmas.{same_adds, saw_same, saw_words, heard_same, heard_words, port_heard_same, port_heard_words, marked_same, marked_words, learned_same, learned_words, adding_more, adding_words, undoing_adds, undoing_words, removing_adds, removing_words, sender_cut_same, sender_cut_words, weights_cut_same, weights_cut_words, joined_same, joined_words, all_one}
use Rattle.port_words.proofs.lemmas.busy.WordLemmas.{added_parts, taken_parts, fill_cases, free_cases, Fills, FillsNot, Frees, FreesNot}
use Rattle.port_words.proofs.lemmas.busy.StatLemmas.{stat_set, stat_saw, told_stat, stat_marked, port_stat, stat_sender_cut, stat_weights_cut, stat_joined}
use Rattle.port_words.proofs.lemmas.busy.LedgerLemmas.{ledgered_same, few_adds, few_bytes, bytes_of_adds, ledgered_add, ledgered_undo, ledgered_remove, named_once}
use Rattle.port_words.proofs.lemmas.busy.PeriodLemmas.{climbing_same, climbing_move, climbing_add, climbs_none}
use Rattle.port_words.proofs.lemmas.busy.BoundLemmas.{within_more, bounded_same, bounded_move, bounded_add}
use Rattle.port_words.proofs.lemmas.busy.FillLemmas.{filled_move, filled_same, filled_add, level_add, level_take, within_add, within_take}

-- the rule at the two words
record Holds (setup : BusySetup) (word msgq : ℕ) (views : List BusyView) : Type 0 where
  set_up : IsSetup setup
  stat : IsStat word views
  ledgered : IsLedgered setup msgq views
  removers : All RemovesAsPort views
  climbing : IsClimbing msgq views
  level : IsLevel setup.limits msgq
  bounded : IsBounded setup.limits msgq views
  filled : IsFilled setup.limits msgq views

holds_of : (setup : BusySetup) (s : State PlannedAdd BusyView) → IsBusyTable setup s → Holds setup (get_or s.words 0 0) (get_or s.words 1 0) s.views
holds_of setup s rule = record { set_up = rule.set_up; stat = rule.stat; ledgered = rule.ledgered; removers = rule.removers; climbing = rule.climbing; level = rule.level; bounded = rule.bounded; filled = rule.filled }

-- the rule of a table from the rule of its words
with_words : (setup : BusySetup) (s : State PlannedAdd BusyView) (words : List ℕ) (x y : ℕ) (views : List BusyView) → length words ≡ 2 → get_or words 0 0 ≡ x → get_or words 1 0 ≡ y → Holds setup x y views
    → IsBusyTable setup record { words = words; homes = s.homes; views = views }
with_words setup s words x y views two first second h = record {
  two_words = two;
  set_up = h.set_up;
  stat = subst (λ (k : ℕ). IsStat k views) (sym first) h.stat;
  ledgered = subst (λ (k : ℕ). IsLedgered setup k views) (sym second) h.ledgered;
  removers = h.removers;
  climbing = subst (λ (k : ℕ). IsClimbing k views) (sym second) h.climbing;
  level = subst (λ (k : ℕ). IsLevel setup.limits k) (sym second) h.level;
  bounded = subst (λ (k : ℕ). IsBounded setup.limits k views) (sym second) h.bounded;
  filled = subst (λ (k : ℕ). IsFilled setup.limits k views) (sym second) h.filled;
}

with_stat : (setup : BusySetup) (s : State PlannedAdd BusyView) (x : ℕ) (views : List BusyView) → IsBusyTable setup s → Holds setup x (get_or s.words 1 0) views → IsBusyTable setup record { words = set s.words 0 x; homes = s.homes; views = views }
with_stat setup s x views rule h =
    let two = rule.two_words in
    with_words setup s (set s.words 0 x) x (get_or s.words 1 0) views (length-set s.words 0 x ∙ two) (get_or-set_same s.words 0 x 0 (omega arith)) (get_or-set_other s.words 0 1 x 0 (λ e. absurd (omega arith))) h

with_msgq : (setup : BusySetup) (s : State PlannedAdd BusyView) (y : ℕ) (views : List BusyView) → IsBusyTable setup s → Holds setup (get_or s.words 0 0) y views → IsBusyTable setup record { words = set s.words 1 y; homes = s.homes; views = views }
with_msgq setup s y views rule h =
    let two = rule.two_words in
    with_words setup s (set s.words 1 y) (get_or s.words 0 0) y views (length-set s.words 1 y ∙ two) (get_or-set_other s.words 1 0 y 0 (λ e. absurd (omega arith))) (get_or-set_same s.words 1 y 0 (omega arith)) h

empty_sum : {X : Type 0} (g : X → ℕ) (xs : List X) → length xs ≡ 0 → sum_by g xs ≡ 0
empty_sum g [] e = refl
empty_sum g (x ∷ xs) e = absurd (omega arith)

false_else : (b : Bool) → b ≢ true → b ≡ false
false_else true ne = absurd (ne refl)
false_else false ne = refl

-- what was removed is what the port removed
removed_by_port : (stat : ℕ) (views : List BusyView) (id : ℕ) (v : BusyView) → v.port ≡ true → get_elem? views id ≡ some v → IsStat stat views → All RemovesAsPort views → sum_by (removed_weigh size_of) views ≡ removed_weigh size_of v
removed_by_port stat views id v is_port at part removers =
    sum_only (removed_weigh size_of) views id v at
    (λ j u here other. ap (sum_by size_of) (all_at RemovesAsPort views j u removers here (false_else u.port (λ is. other ((part.one_port j u here is).0 ∙ sym (part.one_port id v at is_port).0)))))

-- what a word tells a seat
tells : (setup : BusySetup) (stat x : ℕ) (views : List BusyView) (id : ℕ) (v : BusyView) → v.setup ≡ setup → get_elem? views id ≡ some v → Holds setup stat x views → TellsQueue v x
tells setup stat x views id v same at h' =
    let h : Holds v.setup stat x views = subst (λ k. Holds k stat x views) (sym same) h' in
    let l = v.setup.limits in
    let few = h.set_up.few in
    let every : (f : QueueAdd → ℕ) → length v.senders ≡ v.setup.senders → over_adds f views ≡ adds_by f v =
    λ f all. sum_alone (adds_by f) senders_in (λ u none'. empty_sum (λ s. adds_of f s.ledger) u.senders none') views id v at (h.ledgered.senders ∙ sym all) in
    record {
      is_word = record {
        period = (let count = few_adds v.setup x views few h.ledgered in let periods = h.climbing.periods in omega arith);
        bytes = (let all = bytes_of_adds v.setup x views h.ledgered in let most = few_bytes v.setup x views few h.ledgered in omega arith);
        off = h.level.off;
        even = h.level.even;
        odd = h.level.odd;
      };
      weights = (let part = sum_at (weights_weigh size_of) views id v at in let bytes = h.ledgered.bytes in omega arith);
      bytes = (λ is_port all.
          let adds = every (λ a. size_of a.name) all in
          let undone = sum_alone (undone_weigh size_of) senders_in (λ u none'. empty_sum (λ s. sum_by size_of s.ledger.undone) u.senders none') views id v at (h.ledgered.senders ∙ sym all) in
          let removed = removed_by_port stat views id v is_port at h.stat h.removers in
          let account = h.ledgered.account size_of in
          let bytes = h.ledgered.bytes in
          omega arith);
      once = (λ n place. named_once v.setup x views id v n place h.ledgered at);
      climbs = all_at (WordsIn (λ ws. Climbs 0 ws (period_of x))) views id v h.climbing.climbs at;
      off = (λ off.
          let none' = h.level.off off in
          let climbs = all_at (WordsIn (λ ws. Climbs 0 ws (period_of x))) views id v h.climbing.climbs at in (
            climbs_none 0 (period_of x) v.words none' climbs.0,
            All-weaker (λ s. Climbs 0 s.words (period_of x)) (λ s. All (λ w. period_of w ≡ 0) s.words) (λ s c. climbs_none 0 (period_of x) s.words none' c) v.senders climbs.1,
          ));
      unsuspended = (λ period is_odd. let part = sum_at (adds_by (unsuspended_in period)) views id v at in let most = h.bounded.unsuspended period is_odd in omega arith);
      bounded = (λ all on.
          let L : ℕ → ℕ = λ period. over_adds (left_in period) views in
          let M : ℕ → ℕ = λ period. adds_by (left_in period) v in
          let more : (period : ℕ) → L period ≤ M period = λ period. (let e = every (left_in period) all in omega arith) in
          let words = all_at (WordsIn (All (IsWithin l L))) views id v (h.bounded.words on) at in (
            within_more l L M x more (h.bounded.now on),
            (
              All-weaker (IsWithin l L) (IsWithin l M) (λ w k. within_more l L M w more k) v.words words.0,
              All-weaker (λ s. All (IsWithin l L) s.words) (λ s. All (IsWithin l M) s.words) (λ s k. All-weaker (IsWithin l L) (IsWithin l M) (λ w j. within_more l L M w more j) s.words k) v.senders words.1,
            ),
          ));
      filled = (λ all on period is_odd below. let e = every (filled_in l.high period) all in let f = h.filled.filled on period is_odd below in omega arith);
      heavy = (λ all on above. let e = every add_size all in let f = h.filled.heavy on above in omega arith);
    }

-- a sender finds MSGQ
hears_holds : (setup : BusySetup) (stat x : ℕ) (views : List BusyView) (id : ℕ) (s : SenderView) (ws : List AddName) → get_elem? views id ≡ some (seat_view setup s ws) → Holds setup stat x views → Holds setup stat x (set views id (seat_view setup (heard s (x ∷ [])) ws))
hears_holds setup stat x views id s ws at h =
    let w = seat_view setup (heard s (x ∷ [])) ws in
    let sums = heard_same views id setup s ws x at in
    let adds = same_adds views (set views id w) sums in
    let words = heard_words views id setup s ws x at in
    record {
      set_up = h.set_up;
      stat = stat_set stat views id (seat_view setup s ws) w at refl refl (λ marks all. all_one (λ u. Rises marks 0 u.stats) (heard s (x ∷ [])) (All-head (λ u. Rises marks 0 u.stats) s [] all)) h.stat;
      ledgered = ledgered_same setup x views (set views id w) sums h.ledgered;
      removers = All-set RemovesAsPort views id w (λ e. refl) h.removers;
      climbing = climbing_move x x views (set views id w) adds words (omega arith) (omega arith) h.climbing;
      level = h.level;
      bounded = bounded_move setup.limits x x views (set views id w) adds words h.bounded.now h.bounded;
      filled = filled_same setup.limits x views (set views id w) adds h.filled;
    }

-- the port finds MSGQ
port_hears_holds : (setup : BusySetup) (stat x : ℕ) (views : List BusyView) (id : ℕ) (v : BusyView) → v.setup ≡ setup → get_elem? views id ≡ some v → Holds setup stat x views → Holds setup stat x (set views id (port_heard v (x ∷ [])))
port_hears_holds setup stat x views id v same at h =
    let w = port_heard v (x ∷ []) in
    let sums = port_heard_same views id v x at in
    let adds = same_adds views (set views id w) sums in
    let words = port_heard_words views id v x at in
    record {
      set_up = h.set_up;
      stat = stat_set stat views id v w at refl refl (λ marks all. all) h.stat;
      ledgered = ledgered_same setup x views (set views id w) sums h.ledgered;
      removers = All-set RemovesAsPort views id w (all_at RemovesAsPort views id v h.removers at) h.removers;
      climbing = climbing_move x x views (set views id w) adds words (omega arith) (omega arith) h.climbing;
      level = h.level;
      bounded = bounded_move setup.limits x x views (set views id w) adds words h.bounded.now h.bounded;
      filled = filled_same setup.limits x views (set views id w) adds h.filled;
    }

learns_holds : (setup : BusySetup) (stat x : ℕ) (views : List BusyView) (id : ℕ) (v : BusyView) → v.setup ≡ setup → get_elem? views id ≡ some v → Holds setup stat x views → Holds setup stat x (set views id v)
learns_holds setup stat x views id v same at h =
    let sums = learned_same views id v at in
    let adds = same_adds views (set views id v) sums in
    let words = learned_words views id v at in
    record {
      set_up = h.set_up;
      stat = stat_set stat views id v v at refl refl (λ marks all. all) h.stat;
      ledgered = ledgered_same setup x views (set views id v) sums h.ledgered;
      removers = All-set RemovesAsPort views id v (all_at RemovesAsPort views id v h.removers at) h.removers;
      climbing = climbing_same x views (set views id v) adds words h.climbing;
      level = h.level;
      bounded = bounded_same setup.limits x views (set views id v) adds words h.bounded;
      filled = filled_same setup.limits x views (set views id v) adds h.filled;
    }

-- a sender finds STAT
saw_holds : (setup : BusySetup) (stat x : ℕ) (views : List BusyView) (id : ℕ) (s : SenderView) (ws : List AddName) → get_elem? views id ≡ some (seat_view setup s ws) → Holds setup stat x views → Holds setup stat x (set views id (seat_view setup (saw s stat) ws))
saw_holds setup stat x views id s ws at h =
    let w = seat_view setup (saw s stat) ws in
    let sums = saw_same views id setup s ws stat at in
    let adds = same_adds views (set views id w) sums in
    let words = saw_words views id setup s ws stat at in
    record {
      set_up = h.set_up;
      stat = stat_saw stat views id (seat_view setup s ws) w s at refl refl refl refl h.stat;
      ledgered = ledgered_same setup x views (set views id w) sums h.ledgered;
      removers = All-set RemovesAsPort views id w (λ e. refl) h.removers;
      climbing = climbing_same x views (set views id w) adds words h.climbing;
      level = h.level;
      bounded = bounded_same setup.limits x views (set views id w) adds words h.bounded;
      filled = filled_same setup.limits x views (set views id w) adds h.filled;
    }

-- the port makes a mark
marked_holds : (setup : BusySetup) (stat x : ℕ) (views : List BusyView) (id : ℕ) (v : BusyView) (m : StatMark) → v.setup ≡ setup → v.port ≡ true → get_elem? views id ≡ some v → Holds setup stat x views → Holds setup (stat_of (v.marks ++ m ∷ [])) x (set views id (marked v m))
marked_holds setup stat x views id v m same is_port at h =
    let w = marked v m in
    let sums = marked_same views id v m at in
    let adds = same_adds views (set views id w) sums in
    let words = marked_words views id v m at in
    record {
      set_up = h.set_up;
      stat = stat_marked stat views id v m at is_port h.stat;
      ledgered = ledgered_same setup x views (set views id w) sums h.ledgered;
      removers = All-set RemovesAsPort views id w (all_at RemovesAsPort views id v h.removers at) h.removers;
      climbing = climbing_same x views (set views id w) adds words h.climbing;
      level = h.level;
      bounded = bounded_same setup.limits x views (set views id w) adds words h.bounded;
      filled = filled_same setup.limits x views (set views id w) adds h.filled;
    }

room_for : (setup : BusySetup) (stat x : ℕ) (views : List BusyView) (size : ℕ) → size ≤ 262143 → Holds setup stat x views → bytes_of x + size < 2 ^ 40
room_for setup stat x views size small h =
    let all = bytes_of_adds setup x views h.ledgered in
    let most = few_bytes setup x views h.set_up.few h.ledgered in
    omega arith

-- an add
adds_holds : (setup : BusySetup) (stat x x' : ℕ) (views : List BusyView) (id : ℕ) (s : SenderView) (how : AddHow) (size : ℕ) → get_elem? views id ≡ some (seat_view setup s []) → x' ≡ added setup.limits x size → length s.ledger.adds < 131072 → size ≤ 262143
    → (is_nosuspend how ≡ true → period_of x % 2 ≡ 0) → Holds setup stat x views → Holds setup stat x' (set views id (seat_view setup (adding s how size x') (next_name s.ledger size ∷ [])))
adds_holds setup stat x x' views id s how size at is few small permitted h =
    let l = setup.limits in
    let v = seat_view setup s [] in
    let w = seat_view setup (adding s how size x') (next_name s.ledger size ∷ []) in
    let a = next_add s.ledger how size x' in
    let room = room_for setup stat x views size small h in
    let bytes : bytes_of x' ≡ bytes_of x + size = ap bytes_of is ∙ (added_parts l x size room).1 in
    let more = adding_more views id setup s [] (next_name s.ledger size ∷ []) how size x' at in
    let words = adding_words views id setup s [] (next_name s.ledger size ∷ []) how size x' at in
    let rises : (period_of x ≤ period_of x') × (period_of x' + period_of x' % 2 ≤ period_of x + period_of x % 2 + 2) =
    ⊎_elim
    (λ (f : Fills l x size). let next : period_of x' ≡ period_of x + 1 = ap period_of is ∙ f.period in let even = f.even in (omega arith, omega arith))
    (λ (f : FillsNot l x size). let same : period_of x' ≡ period_of x = ap period_of is ∙ f.period in (omega arith, omega arith))
    (fill_cases l x size room) in
    record {
      set_up = h.set_up;
      stat = stat_set stat views id v w at refl refl (λ marks all. all_one (λ u. Rises marks 0 u.stats) (adding s how size x') (All-head (λ u. Rises marks 0 u.stats) s [] all)) h.stat;
      ledgered = ledgered_add setup x x' views id s how size at h.ledgered bytes few small;
      removers = All-set RemovesAsPort views id w (λ e. refl) h.removers;
      climbing = climbing_add x a views (set views id w) more words rises.0 rises.1 h.climbing;
      level = subst (IsLevel l) (sym is) (level_add l x size room (λ on. (h.set_up.ordered on).0) h.level);
      bounded = bounded_add l x a views (set views id w) more words permitted rises.0 (λ on. within_add l x size a (λ period. over_adds (left_in period) views) is refl room on h.level (h.bounded.now on)) h.climbing h.bounded;
      filled = filled_add l x size a views (set views id w) more is refl room (bytes_of_adds setup x views h.ledgered) h.filled;
    }

-- what a removal does to the periods
falls : (setup : BusySetup) (x x' n : ℕ) → n ≤ bytes_of x → x' ≡ taken setup.limits x n
    → (period_of x ≤ period_of x') × (period_of x' + period_of x' % 2 ≤ period_of x + period_of x % 2) × ((period : ℕ) → period % 2 ≡ 1 → period ≤ period_of x' → period ≤ period_of x) × (0 < period_of x' → 0 < period_of x) × (bytes_of x' + n ≡ bytes_of x)
falls setup x x' n within is =
    let l = setup.limits in
    let bytes : bytes_of x' ≡ bytes_of x - n = ap bytes_of is ∙ (taken_parts l x n within).1 in
    ⊎_elim
    (λ (f : Frees l x n). let next : period_of x' ≡ period_of x + 1 = ap period_of is ∙ f.period in let is_odd = f.odd in (omega arith, omega arith, (λ period is_odd' below. omega arith), (λ h. omega arith), omega arith))
    (λ (f : FreesNot l x n). let same : period_of x' ≡ period_of x = ap period_of is ∙ f.period in (omega arith, omega arith, (λ period is_odd' below. omega arith), (λ h. omega arith), omega arith))
    (free_cases l x n within)

-- an add taken back
undoes_holds : (setup : BusySetup) (stat x x' : ℕ) (views : List BusyView) (id : ℕ) (s : SenderView) (ws : List AddName) → get_elem? views id ≡ some (seat_view setup s ws) → x' ≡ taken setup.limits x (sum_by size_of ws) → All (λ n. n.sender ≡ s.ledger.number) ws
    → Holds setup stat x views → Holds setup stat x' (set views id (seat_view setup (undoing s ws x') []))
undoes_holds setup stat x x' views id s ws at is own' h =
    let l = setup.limits in
    let v = seat_view setup s ws in
    let w = seat_view setup (undoing s ws x') [] in
    let n = sum_by size_of ws in
    let within : n ≤ bytes_of x = (let part = sum_at (weights_weigh size_of) views id v at in let bytes = h.ledgered.bytes in omega arith) in
    let f = falls setup x x' n within is in
    let adds = undoing_adds views id setup s ws [] x' at in
    let words = undoing_words views id setup s ws [] x' at in
    record {
      set_up = h.set_up;
      stat = stat_set stat views id v w at refl refl (λ marks all. all_one (λ u. Rises marks 0 u.stats) (undoing s ws x') (All-head (λ u. Rises marks 0 u.stats) s [] all)) h.stat;
      ledgered = ledgered_undo setup x x' views id s ws at h.ledgered f.4 own';
      removers = All-set RemovesAsPort views id w (λ e. refl) h.removers;
      climbing = climbing_move x x' views (set views id w) adds words f.0 f.1 h.climbing;
      level = subst (IsLevel l) (sym is) (level_take l x n within (λ on. (h.set_up.ordered on).0) h.level);
      bounded = bounded_move l x x' views (set views id w) adds words (λ on. subst (IsWithin l (λ period. over_adds (left_in period) views)) (sym is) (within_take l x n (λ period. over_adds (left_in period) views) within on (h.set_up.ordered on).0 (h.bounded.now on))) h.bounded;
      filled = filled_move l x x' views (set views id w) adds f.2 f.3 h.filled;
    }

-- a weight removed
removes_holds : (setup : BusySetup) (stat x x' : ℕ) (views : List BusyView) (id : ℕ) (v : BusyView) → v.setup ≡ setup → v.port ≡ true → get_elem? views id ≡ some v → x' ≡ taken setup.limits x (weights_weigh size_of v) → Holds setup stat x views → Holds setup stat x' (set views id (removing v x'))
removes_holds setup stat x x' views id v same is_port at is h =
    let l = setup.limits in
    let w = removing v x' in
    let n = weights_weigh size_of v in
    let within : n ≤ bytes_of x = (let part = sum_at (weights_weigh size_of) views id v at in let bytes = h.ledgered.bytes in omega arith) in
    let f = falls setup x x' n within is in
    let adds = removing_adds views id v x' at in
    let words = removing_words views id v x' at in
    record {
      set_up = h.set_up;
      stat = stat_set stat views id v w at refl refl (λ marks all. all) h.stat;
      ledgered = ledgered_remove setup x x' views id v at h.ledgered f.4;
      removers = All-set RemovesAsPort views id w (λ e. absurd (true≢false (sym is_port ∙ e))) h.removers;
      climbing = climbing_move x x' views (set views id w) adds words f.0 f.1 h.climbing;
      level = subst (IsLevel l) (sym is) (level_take l x n within (λ on. (h.set_up.ordered on).0) h.level);
      bounded = bounded_move l x x' views (set views id w) adds words (λ on. subst (IsWithin l (λ period. over_adds (left_in period) views)) (sym is) (within_take l x n (λ period. over_adds (left_in period) views) within on (h.set_up.ordered on).0 (h.bounded.now on))) h.bounded;
      filled = filled_move l x x' views (set views id w) adds f.2 f.3 h.filled;
    }

pub sender_cuts : (setup : BusySetup) (id : ℕ) (v : BusyView) → v.setup ≡ setup → Splits (IsBusyTable setup) id v (other_senders v) (first_sender v)
sender_cuts setup id v same s rule at =
    let h = holds_of setup s rule in
    let after = set s.views id (other_senders v) ++ first_sender v ∷ [] in
    let sums = sender_cut_same s.views id v at in
    let adds = same_adds s.views after sums in
    let words = sender_cut_words s.views id v at in
    with_words setup s s.words (get_or s.words 0 0) (get_or s.words 1 0) after rule.two_words refl refl (record {
      set_up = h.set_up;
      stat = stat_sender_cut (get_or s.words 0 0) s.views id v at h.stat;
      ledgered = ledgered_same setup (get_or s.words 1 0) s.views after sums h.ledgered;
      removers = All-push RemovesAsPort (set s.views id (other_senders v)) (first_sender v) (All-set RemovesAsPort s.views id (other_senders v) (all_at RemovesAsPort s.views id v h.removers at) h.removers) (λ e. refl);
      climbing = climbing_same (get_or s.words 1 0) s.views after adds words h.climbing;
      level = h.level;
      bounded = bounded_same setup.limits (get_or s.words 1 0) s.views after adds words h.bounded;
      filled = filled_same setup.limits (get_or s.words 1 0) s.views after adds h.filled;
    })

pub weights_cuts : (setup : BusySetup) (id : ℕ) (v : BusyView) → v.setup ≡ setup → Splits (IsBusyTable setup) id v (no_weights v) (its_weights v)
weights_cuts setup id v same s rule at =
    let h = holds_of setup s rule in
    let after = set s.views id (no_weights v) ++ its_weights v ∷ [] in
    let sums = weights_cut_same s.views id v at in
    let adds = same_adds s.views after sums in
    let words = weights_cut_words s.views id v at in
    with_words setup s s.words (get_or s.words 0 0) (get_or s.words 1 0) after rule.two_words refl refl (record {
      set_up = h.set_up;
      stat = stat_weights_cut (get_or s.words 0 0) s.views id v at h.stat;
      ledgered = ledgered_same setup (get_or s.words 1 0) s.views after sums h.ledgered;
      removers = All-push RemovesAsPort (set s.views id (no_weights v)) (its_weights v) (All-set RemovesAsPort s.views id (no_weights v) (all_at RemovesAsPort s.views id v h.removers at) h.removers) (λ e. refl);
      climbing = climbing_same (get_or s.words 1 0) s.views after adds words h.climbing;
      level = h.level;
      bounded = bounded_same setup.limits (get_or s.words 1 0) s.views after adds words h.bounded;
      filled = filled_same setup.limits (get_or s.words 1 0) s.views after adds h.filled;
    })

pub both_join : (setup : BusySetup) (id other : ℕ) (v w : BusyView) → v.setup ≡ setup → w.removed ≡ [] → Joins (IsBusyTable setup) id v other w (joined v w) spent
both_join setup id other v w same nothing s rule at apart there =
    let h = holds_of setup s rule in
    let after = set (set s.views id (joined v w)) other spent in
    let sums = joined_same s.views id v other w at apart there nothing in
    let adds = same_adds s.views after sums in
    let words = joined_words s.views id v other w at apart there in
    with_words setup s s.words (get_or s.words 0 0) (get_or s.words 1 0) after rule.two_words refl refl (record {
      set_up = h.set_up;
      stat = stat_joined (get_or s.words 0 0) s.views id v other w at apart there h.stat;
      ledgered = ledgered_same setup (get_or s.words 1 0) s.views after sums h.ledgered;
      removers = All-set RemovesAsPort (set s.views id (joined v w)) other spent (λ e. refl) (All-set RemovesAsPort s.views id (joined v w) (all_at RemovesAsPort s.views id v h.removers at) h.removers);
      climbing = climbing_same (get_or s.words 1 0) s.views after adds words h.climbing;
      level = h.level;
      bounded = bounded_same setup.limits (get_or s.words 1 0) s.views after adds words h.bounded;
      filled = filled_same setup.limits (get_or s.words 1 0) s.views after adds h.filled;
    })

-- a sender looks at STAT
pub finds_stat : (setup : BusySetup) (slots id : ℕ) (s' : SenderView) (ws : List AddName) (c : List (ℕ × PlannedAdd)) → Allows (IsBusyTable setup) slots id (seat_view setup s' ws, c) 0 (λ n. n) (FindsStat (seat_view setup s' ws, c))
finds_stat setup slots id s' ws c s rule room at below =
    let n : ℕ = get_or s.words 0 0 in
    let w = seat_view setup (saw s' n) ws in
    (w, keeps, tt, with_stat setup s n (set s.views id w) rule (saw_holds setup n (get_or s.words 1 0) s.views id s' ws at (holds_of setup s rule)), (refl, told_stat n s.views id (seat_view setup s' ws) s' at refl rule.stat))

-- the port makes a mark
pub marks : (setup : BusySetup) (slots id : ℕ) (me : Me PlannedAdd BusyView) (m : StatMark) → me.0.setup ≡ setup → me.0.port ≡ true → Allows (IsBusyTable setup) slots id me 0 (λ n. stat_of (me.0.marks ++ m ∷ [])) (Marks m me)
marks setup slots id me m same is_port s rule room at below =
    let v = me.0 in
    let n : ℕ = stat_of (v.marks ++ m ∷ []) in
    (marked v m, keeps, tt, with_stat setup s n (set s.views id (marked v m)) rule (marked_holds setup (get_or s.words 0 0) (get_or s.words 1 0) s.views id v m same is_port at (holds_of setup s rule)), (refl, (port_stat (get_or s.words 0 0) s.views id v at is_port rule.stat).0))

-- the seat's own place among the views after a step
at_own : (views : List BusyView) (id : ℕ) (v w : BusyView) → get_elem? views id ≡ some v → get_elem? (set views id w) id ≡ some w
at_own [] id v w e = absurd (some-ne-none v (sym e))
at_own (x ∷ xs) zero v w e = refl
at_own (x ∷ xs) (suc id) v w e = at_own xs id v w e

-- the port learns
pub learns : (setup : BusySetup) (slots id : ℕ) (me : Me PlannedAdd BusyView) → me.0.setup ≡ setup → me.0.port ≡ true → Allows (IsBusyTable setup) slots id me 1 (λ n. n) (Learns me)
learns setup slots id me same is_port s rule room at below =
    let v = me.0 in
    let stat : ℕ = get_or s.words 0 0 in
    let n : ℕ = get_or s.words 1 0 in
    let h = holds_of setup s rule in
    (v, keeps, tt, with_msgq setup s n (set s.views id v) rule (learns_holds setup stat n s.views id v same at h), (refl, tells setup stat n s.views id v same at h, (port_stat stat s.views id v at is_port rule.stat).1))

pub sender_hears : (setup : BusySetup) (slots id : ℕ) (s' : SenderView) (ws : List AddName) (c : List (ℕ × PlannedAdd)) → Allows (IsBusyTable setup) slots id (seat_view setup s' ws, c) 1 (λ n. n) (SenderHears (seat_view setup s' ws, c))
sender_hears setup slots id s' ws c s rule room at below =
    let stat : ℕ = get_or s.words 0 0 in
    let n : ℕ = get_or s.words 1 0 in
    let w = seat_view setup (heard s' (n ∷ [])) ws in
    let after = hears_holds setup stat n s.views id s' ws at (holds_of setup s rule) in
    (w, keeps, tt, with_msgq setup s n (set s.views id w) rule after, (refl, tells setup stat n (set s.views id w) id w refl (at_own s.views id (seat_view setup s' ws) w at) after))

pub port_hears : (setup : BusySetup) (slots id : ℕ) (me : Me PlannedAdd BusyView) → me.0.setup ≡ setup → me.0.port ≡ true → Allows (IsBusyTable setup) slots id me 1 (λ n. n) (PortHears me)
port_hears setup slots id me same is_port s rule room at below =
    let v = me.0 in
    let stat : ℕ = get_or s.words 0 0 in
    let n : ℕ = get_or s.words 1 0 in
    let w = port_heard v (n ∷ []) in
    let after = port_hears_holds setup stat n s.views id v same at (holds_of setup s rule) in
    (w, keeps, tt, with_msgq setup s n (set s.views id w) rule after, (refl, tells setup stat n (set s.views id w) id w same (at_own s.views id v w at) after, (port_stat stat s.views id v at is_port rule.stat).1))

-- an add, an add taken back and a weight removed, by an exchange
pub adds : (setup : BusySetup) (slots id : ℕ) (s' : SenderView) (t : PlannedAdd) (expected new : ℕ) → new ≡ added setup.limits expected t.size → length s'.ledger.adds < 131072 → t.size ≤ 262143 → (is_nosuspend t.how ≡ true → period_of expected % 2 ≡ 0)
    → Allows (IsBusyTable setup) slots id (seat_view setup s' [], []) 1 (λ n. either (eqb n expected) new n) (Adds expected new (some t) (seat_view setup s' [], []))
adds setup slots id s' t expected new is few small permitted s rule room at below =
    let me : Me PlannedAdd BusyView = (seat_view setup s' [], []) in
    let stat : ℕ = get_or s.words 0 0 in
    let m : ℕ = get_or s.words 1 0 in
    let h = holds_of setup s rule in
    exchanged m expected new
    (λ k. (w : BusyView) × (a : Act PlannedAdd) × Valid s.homes [] a × IsBusyTable setup record { words = set s.words 1 k; homes = homes_after s.homes [] a; views = set s.views id w } × Adds expected new (some t) me m (w, carried_after [] a))
    (λ hit.
    let w = seat_view setup (adding s' t.how t.size new) (next_name s'.ledger t.size ∷ []) in
    let after = adds_holds setup stat m new s.views id s' t.how t.size at (is ∙ ap (λ k. added setup.limits k t.size) (sym hit)) few small (λ no. (ap (λ k. period_of k % 2) hit) ∙ permitted no) h in
    (w, keeps, tt, with_msgq setup s new (set s.views id w) rule after, ((λ e. (refl, tells setup stat new (set s.views id w) id w refl (at_own s.views id (seat_view setup s' []) w at) after)), (λ ne. absurd (ne hit)))))
    (λ miss.
    let w = seat_view setup (heard s' (m ∷ [])) [] in
    let after = hears_holds setup stat m s.views id s' [] at h in
    (w, keeps, tt, with_msgq setup s m (set s.views id w) rule after, ((λ e. absurd (miss e)), (λ ne. (refl, tells setup stat m (set s.views id w) id w refl (at_own s.views id (seat_view setup s' []) w at) after)))))

pub undoes : (setup : BusySetup) (slots id : ℕ) (s' : SenderView) (ws : List AddName) (expected new : ℕ) → new ≡ taken setup.limits expected (sum_by size_of ws) → All (λ n. n.sender ≡ s'.ledger.number) ws
    → Allows (IsBusyTable setup) slots id (seat_view setup s' ws, []) 1 (λ n. either (eqb n expected) new n) (Undoes expected new (seat_view setup s' ws, []))
undoes setup slots id s' ws expected new is own' s rule room at below =
    let me : Me PlannedAdd BusyView = (seat_view setup s' ws, []) in
    let stat : ℕ = get_or s.words 0 0 in
    let m : ℕ = get_or s.words 1 0 in
    let h = holds_of setup s rule in
    exchanged m expected new
    (λ k. (w : BusyView) × (a : Act PlannedAdd) × Valid s.homes [] a × IsBusyTable setup record { words = set s.words 1 k; homes = homes_after s.homes [] a; views = set s.views id w } × Undoes expected new me m (w, carried_after [] a))
    (λ hit.
    let w = seat_view setup (undoing s' ws new) [] in
    let after = undoes_holds setup stat m new s.views id s' ws at (is ∙ ap (λ k. taken setup.limits k (sum_by size_of ws)) (sym hit)) own' h in
    (w, keeps, tt, with_msgq setup s new (set s.views id w) rule after, ((λ e. (refl, tells setup stat new (set s.views id w) id w refl (at_own s.views id (seat_view setup s' ws) w at) after)), (λ ne. absurd (ne hit)))))
    (λ miss.
    let w = seat_view setup (heard s' (m ∷ [])) ws in
    let after = hears_holds setup stat m s.views id s' ws at h in
    (w, keeps, tt, with_msgq setup s m (set s.views id w) rule after, ((λ e. absurd (miss e)), (λ ne. (refl, tells setup stat m (set s.views id w) id w refl (at_own s.views id (seat_view setup s' ws) w at) after)))))

pub removes : (setup : BusySetup) (slots id : ℕ) (v : BusyView) (expected new : ℕ) → v.setup ≡ setup → v.port ≡ true → new ≡ taken setup.limits expected (weights_weigh size_of v)
    → Allows (IsBusyTable setup) slots id (v, []) 1 (λ n. either (eqb n expected) new n) (Removes expected new (v, []))
removes setup slots id v expected new same is_port is s rule room at below =
    let me : Me PlannedAdd BusyView = (v, []) in
    let stat : ℕ = get_or s.words 0 0 in
    let m : ℕ = get_or s.words 1 0 in
    let h = holds_of setup s rule in
    exchanged m expected new
    (λ k. (w : BusyView) × (a : Act PlannedAdd) × Valid s.homes [] a × IsBusyTable setup record { words = set s.words 1 k; homes = homes_after s.homes [] a; views = set s.views id w } × Removes expected new me m (w, carried_after [] a))
    (λ hit.
    let w = removing v new in
    let after = removes_holds setup stat m new s.views id v same is_port at (is ∙ ap (λ k. taken setup.limits k (weights_weigh size_of v)) (sym hit)) h in
    (w, keeps, tt, with_msgq setup s new (set s.views id w) rule after, ((λ e. (refl, tells setup stat new (set s.views id w) id w same (at_own s.views id v w at) after)), (λ ne. absurd (ne hit)))))
    (λ miss.
    let w = port_heard v (m ∷ []) in
    let after = port_hears_holds setup stat m s.views id v same at h in
    (w, keeps, tt, with_msgq setup s m (set s.views id w) rule after, ((λ e. absurd (miss e)), (λ ne. (refl, tells setup stat m (set s.views id w) id w same (at_own s.views id v w at) after, (port_stat stat s.views id v at is_port rule.stat).1)))))

only_first : (v : BusyView) (i : ℕ) (u : BusyView) → get_elem? (v ∷ []) i ≡ some u → (i ≡ 0) × (u.marks ≡ v.marks)
only_first v zero u e = (refl, ap (λ (k : BusyView). k.marks) (sym (some-injective v u e)))
only_first v (suc i) u e = absurd (some-ne-none u (sym e))

fresh_sum : (g : SenderLedger → ℕ) → ((n : ℕ) → g (fresh_sender n).ledger ≡ 0) → (n count : ℕ) → sum_by (λ s. g s.ledger) (fresh_senders n count) ≡ 0
fresh_sum g none' n zero = refl
fresh_sum g none' n (suc count) =
    let inner = fresh_sum g none' (n + 1) count in
    let head : sum_by (λ s. g s.ledger) (fresh_senders n (suc count)) ≡ g (fresh_sender n).ledger + sum_by (λ s. g s.ledger) (fresh_senders (n + 1) count) = sum_by-cons (λ s. g s.ledger) (fresh_sender n) (fresh_senders (n + 1) count) in
    let here = none' n in
    omega arith

fresh_numbers : (n k count : ℕ) → sum_by (λ s. is_numbered k s.ledger) (fresh_senders n count) + once_below n k ≡ once_below (n + count) k
fresh_numbers n k zero = let bound : once_below (n + 0) k ≡ once_below n k = ap (λ m. once_below m k) (add-zero n) in omega arith
fresh_numbers n k (suc count) =
    let inner = fresh_numbers (n + 1) k count in
    let head : sum_by (λ s. is_numbered k s.ledger) (fresh_senders n (suc count)) ≡ one_if (eqb n k) + sum_by (λ s. is_numbered k s.ledger) (fresh_senders (n + 1) count) = sum_by-cons (λ s. is_numbered k s.ledger) (fresh_sender n) (fresh_senders (n + 1) count) in
    let step = once_below-step n k in
    let bound : once_below (n + suc count) k ≡ once_below (n + 1 + count) k = ap (λ m. once_below m k) (omega arith) in
    omega arith

pub fresh_length : (n count : ℕ) → length (fresh_senders n count) ≡ count
fresh_length n zero = refl
fresh_length n (suc count) = let inner = fresh_length (n + 1) count in omega arith

all_fresh : (P : SenderView → Type 0) → ((n : ℕ) → P (fresh_sender n)) → (n count : ℕ) → All P (fresh_senders n count)
all_fresh P each n zero = All-nil P
all_fresh P each n (suc count) = All-cons P (fresh_sender n) (fresh_senders (n + 1) count) (each n) (all_fresh P each (n + 1) count)

zero_times : (k : ℕ) → k * 0 ≡ 0
zero_times k = omega arith

pub opens : (setup : BusySetup) → IsSetup setup → IsBusyTable setup (opening (0 ∷ 0 ∷ []) [] (fresh_port setup (fresh_senders 0 setup.senders)))
opens setup right =
    let all = fresh_senders 0 setup.senders in
    let v = fresh_port setup all in
    let no_adds : (f : QueueAdd → ℕ) → sum_by (λ s. adds_of f s.ledger) all ≡ 0 = λ f. fresh_sum (adds_of f) (λ n. refl) 0 setup.senders in
    record {
      two_words = refl;
      set_up = right;
      stat = record {
        port = 0;
        marks = [];
        stat = refl;
        one_port = (λ i u here is_port. only_first v i u here);
        found = all_one (λ u. EachRises [] u.senders) v (all_fresh (λ s. Rises [] 0 s.stats) (λ n. tt) 0 setup.senders);
      };
      ledgered = record {
        bytes = refl;
        account = (λ h. let a = no_adds (λ b. h b.name) in let u = fresh_sum (λ l. sum_by h l.undone) (λ n. refl) 0 setup.senders in omega arith);
        numbers = (λ n. let e = fresh_numbers 0 n setup.senders in let low = once_below-not 0 n (omega arith) in let bound : once_below (0 + setup.senders) n ≡ once_below setup.senders n = ap (λ m. once_below m n) (omega arith) in omega arith);
        senders = (let e = fresh_length 0 setup.senders in omega arith);
        places = (λ n place.
            let a = no_adds (λ b. is_add n place b.name) in
            let made = fresh_sum (adds_made_by n) (λ k. zero_times (one_if (eqb k n))) 0 setup.senders in
            let bound : once_below (over_senders (adds_made_by n) (v ∷ [])) place ≡ once_below 0 place = ap (λ m. once_below m place) (omega arith) in
            let low = once_below-not 0 place (omega arith) in
            omega arith);
        each = all_one (λ u. All (λ s. IsLedger s.ledger) u.senders) v (all_fresh (λ s. IsLedger s.ledger) (λ n. record { few = omega arith; small = All-nil (λ a. a.name.size ≤ 262143); own = All-nil (λ m. m.sender ≡ n) }) 0 setup.senders);
      };
      removers = all_one RemovesAsPort v (λ e. absurd (true≢false e));
      climbing = record {
        climbs = all_one (WordsIn (λ ws. Climbs 0 ws 0)) v (omega arith, all_fresh (λ s. Climbs 0 s.words 0) (λ n. omega arith) 0 setup.senders);
        periods = omega arith;
        later = (λ period h. let a = no_adds (is_left_at period) in omega arith);
      };
      level = record { off = (λ off. refl); even = (λ on is_even. (right.ordered on).1); odd = (λ on is_odd. absurd (omega arith)) };
      bounded = record {
        now = (λ on. record { even = (λ is_even. (right.ordered on).1); odd = (λ is_odd. absurd (omega arith)) });
        words = (λ on. all_one (WordsIn (All (IsWithin setup.limits (λ period. over_adds (left_in period) (v ∷ []))))) v (All-nil (IsWithin setup.limits (λ period. over_adds (left_in period) (v ∷ []))), all_fresh (λ s. All (IsWithin setup.limits (λ period. over_adds (left_in period) (v ∷ []))) s.words) (λ n. All-nil (IsWithin setup.limits (λ period. over_adds (left_in period) (v ∷ [])))) 0 setup.senders));
        unsuspended = (λ period is_odd. let a = no_adds (unsuspended_in period) in omega arith);
      };
      filled = record { filled = (λ on period is_odd below. absurd (omega arith)); heavy = (λ on above. absurd (omega arith)) };
    }

-- a seat with fewer weights knows no less of the words
pub tells_lighter : (setup : BusySetup) (s : SenderView) (ws : List AddName) (x : ℕ) → TellsQueue (seat_view setup s ws) x → TellsQueue (seat_view setup s []) x
tells_lighter setup s ws x t = record {
  is_word = t.is_word;
  weights = omega arith;
  once = (λ n place. let o = t.once n place in omega arith);
  bytes = (λ is_port all. absurd (true≢false (sym is_port)));
  climbs = t.climbs;
  off = t.off;
  unsuspended = t.unsuspended;
  bounded = t.bounded;
  filled = t.filled;
  heavy = t.heavy;
}

-- The same, of a seat whose view is one of these, and of a table whose key is the setup
pub finds_stat_at : (setup key : BusySetup) (slots id : ℕ) (me : Me PlannedAdd BusyView) (s : SenderView) (ws : List AddName) → key ≡ setup → me ≡ (seat_view setup s ws, []) → Allows (IsBusyTable key) slots id me 0 (λ n. n) (FindsStat me)
finds_stat_at setup key slots id me s ws same is =
    subst (λ m. Allows (IsBusyTable key) slots id m 0 (λ n. n) (FindsStat m)) (sym is)
    (subst (λ k. Allows (IsBusyTable k) slots id (seat_view setup s ws, []) 0 (λ n. n) (FindsStat (seat_view setup s ws, []))) (sym same) (finds_stat setup slots id s ws []))

pub sender_hears_at : (setup key : BusySetup) (slots id : ℕ) (me : Me PlannedAdd BusyView) (s : SenderView) (ws : List AddName) → key ≡ setup → me ≡ (seat_view setup s ws, []) → Allows (IsBusyTable key) slots id me 1 (λ n. n) (SenderHears me)
sender_hears_at setup key slots id me s ws same is =
    subst (λ m. Allows (IsBusyTable key) slots id m 1 (λ n. n) (SenderHears m)) (sym is)
    (subst (λ k. Allows (IsBusyTable k) slots id (seat_view setup s ws, []) 1 (λ n. n) (SenderHears (seat_view setup s ws, []))) (sym same) (sender_hears setup slots id s ws []))

pub adds_at : (setup key : BusySetup) (slots id : ℕ) (me : Me PlannedAdd BusyView) (s : SenderView) (t : PlannedAdd) (expected new : ℕ) → key ≡ setup → me ≡ (seat_view setup s [], []) → new ≡ added setup.limits expected t.size → length s.ledger.adds < 131072 → t.size ≤ 262143
    → (is_nosuspend t.how ≡ true → period_of expected % 2 ≡ 0) → Allows (IsBusyTable key) slots id me 1 (λ n. either (eqb n expected) new n) (Adds expected new (some t) me)
adds_at setup key slots id me s t expected new same is left few small permitted =
    subst (λ m. Allows (IsBusyTable key) slots id m 1 (λ n. either (eqb n expected) new n) (Adds expected new (some t) m)) (sym is)
    (subst (λ k. Allows (IsBusyTable k) slots id (seat_view setup s [], []) 1 (λ n. either (eqb n expected) new n) (Adds expected new (some t) (seat_view setup s [], []))) (sym same) (adds setup slots id s t expected new left few small permitted))

pub undoes_at : (setup key : BusySetup) (slots id : ℕ) (me : Me PlannedAdd BusyView) (s : SenderView) (ws : List AddName) (expected new : ℕ) → key ≡ setup → me ≡ (seat_view setup s ws, []) → new ≡ taken setup.limits expected (sum_by size_of ws) → All (λ n. n.sender ≡ s.ledger.number) ws
    → Allows (IsBusyTable key) slots id me 1 (λ n. either (eqb n expected) new n) (Undoes expected new me)
undoes_at setup key slots id me s ws expected new same is left own' =
    subst (λ m. Allows (IsBusyTable key) slots id m 1 (λ n. either (eqb n expected) new n) (Undoes expected new m)) (sym is)
    (subst (λ k. Allows (IsBusyTable k) slots id (seat_view setup s ws, []) 1 (λ n. either (eqb n expected) new n) (Undoes expected new (seat_view setup s ws, []))) (sym same) (undoes setup slots id s ws expected new left own'))

pub removes_at : (key : BusySetup) (slots id : ℕ) (me : Me PlannedAdd BusyView) (expected new : ℕ) → me.0.setup ≡ key → me.0.port ≡ true → me.1 ≡ [] → new ≡ taken key.limits expected (weights_weigh size_of me.0)
    → Allows (IsBusyTable key) slots id me 1 (λ n. either (eqb n expected) new n) (Removes expected new me)
removes_at key slots id me expected new same is_port empty left =
    subst (λ c. Allows (IsBusyTable key) slots id (me.0, c) 1 (λ n. either (eqb n expected) new n) (Removes expected new (me.0, c))) (sym empty) (removes key slots id me.0 expected new same is_port left)

pub undo_one_at : (setup key : BusySetup) (slots id : ℕ) (me : Me PlannedAdd BusyView) (s : SenderView) (n : AddName) (size expected new : ℕ) → key ≡ setup → me ≡ (seat_view setup s (n ∷ []), []) → new ≡ taken setup.limits expected size → size ≡ n.size → n.sender ≡ s.ledger.number
    → Allows (IsBusyTable key) slots id me 1 (λ k. either (eqb k expected) new k) (Undoes expected new me)
undo_one_at setup key slots id me s n size expected new same is left size_is own' =
    undoes_at setup key slots id me s (n ∷ []) expected new same is (left ∙ ap (λ k. taken setup.limits expected k) (omega arith)) (all_one (λ m. m.sender ≡ s.ledger.number) n own')

pub remove_one_at : (setup key : BusySetup) (slots id : ℕ) (me : Me PlannedAdd BusyView) (n : AddName) (size expected new : ℕ) → key ≡ setup → me.0.setup ≡ setup → me.0.port ≡ true → me.1 ≡ [] → me.0.weights ≡ n ∷ [] → size ≡ n.size → new ≡ taken setup.limits expected size
    → Allows (IsBusyTable key) slots id me 1 (λ k. either (eqb k expected) new k) (Removes expected new me)
remove_one_at setup key slots id me n size expected new same own' is_port empty weight size_is left =
    let all : size ≡ weights_weigh size_of me.0 = (let one : sum_by size_of me.0.weights ≡ sum_by size_of (n ∷ []) = ap (sum_by size_of) weight in omega arith) in
    subst (λ k. Allows (IsBusyTable k) slots id me 1 (λ n'. either (eqb n' expected) new n') (Removes expected new me)) (sym same)
    (removes_at setup slots id me expected new own' is_port empty (left ∙ ap (λ k. taken setup.limits expected k) all))

pub marks_at : (key : BusySetup) (slots id : ℕ) (me : Me PlannedAdd BusyView) (m : StatMark) (new : ℕ) → me.0.setup ≡ key → me.0.port ≡ true → new ≡ stat_of (me.0.marks ++ m ∷ []) → Allows (IsBusyTable key) slots id me 0 (λ n. new) (Marks m me)
marks_at key slots id me m new same is_port is = subst (λ k. Allows (IsBusyTable key) slots id me 0 (λ n. k) (Marks m me)) (sym is) (marks key slots id me m same is_port)

-- what a port that took in a weight and removed it again knows
pub removed_is : (v : BusyView) (n : AddName) (ns : List ℕ) (left : ℕ) → v.weights ≡ [] → removing (port_heard (with_weight v n) ns) left ≡ removed_view v n ns left
removed_is v n ns left none' = λ i. record {
  setup = v.setup;
  port = v.port;
  marks = v.marks;
  senders = append-nil v.senders i;
  weights = sym none' i;
  removed = v.removed ++ (none' i ++ n ∷ []);
  words = v.words ++ ns ++ left ∷ [];
}

-- the seats of the senders below n have been cut off
pub record Dealing (table : TableId) (setup : BusySetup) (n : ℕ) (seat : TableId) (me : Me PlannedAdd BusyView) (seats : List SendKnown) : Type 0 where
  pub own : seat ≡ table
  pub two : seat.words ≡ 2
  pub rest : me ≡ (fresh_port setup (fresh_senders n (setup.senders - n)), [])
  pub dealt : seats ≡ fresh_seats seat setup 0 n

rest_fresh : (n m : ℕ) → n < m → drop 1 (fresh_senders n (m - n)) ≡ fresh_senders (n + 1) (m - (n + 1))
rest_fresh n m h = let more : m - n ≡ suc (m - (n + 1)) = omega arith in ap (λ k. drop 1 (fresh_senders n k)) more

own_fresh : (n m : ℕ) (setup : BusySetup) → n < m → own (fresh_port setup (fresh_senders n (m - n))) ≡ fresh_sender n
own_fresh n m setup h = let more : m - n ≡ suc (m - (n + 1)) = omega arith in ap (λ k. own (fresh_port setup (fresh_senders n k))) more

fresh_seats-more : (table : TableId) (setup : BusySetup) (n count : ℕ) → fresh_seats table setup n (suc count) ≡ fresh_seats table setup n count ++ send_known table setup (fresh_sender (n + count)) ∷ []
fresh_seats-more table setup n zero = ap (λ k. send_known table setup (fresh_sender k) ∷ []) (sym (add-zero n))
fresh_seats-more table setup n (suc count) =
    let next : n + 1 + count ≡ n + suc count = omega arith in
    ap (λ (k : List SendKnown). send_known table setup (fresh_sender n) ∷ k) (fresh_seats-more table setup (n + 1) count)
    ∙ ap (λ (k : ℕ). send_known table setup (fresh_sender n) ∷ (fresh_seats table setup (n + 1) count ++ send_known table setup (fresh_sender k) ∷ [])) next

pub some_left : (table : TableId) (setup : BusySetup) (n : ℕ) (seat : TableId) (me : Me PlannedAdd BusyView) (seats : List SendKnown) → Dealing table setup n seat me seats → n < setup.senders → (0 < length me.0.senders) × (me.0.setup ≡ setup) × (me.1 ≡ [])
some_left table setup n seat me seats d h =
    let count : length me.0.senders ≡ setup.senders - n = ap (λ (m : Me PlannedAdd BusyView). length m.0.senders) d.rest ∙ fresh_length n (setup.senders - n) in
    (omega arith, ap (λ (m : Me PlannedAdd BusyView). m.0.setup) d.rest, ap (λ (m : Me PlannedAdd BusyView). m.1) d.rest)

-- one more seat
pub deals : (table : TableId) (setup : BusySetup) (n : ℕ) (seat seat' : TableId) (me me' : Me PlannedAdd BusyView) (seats seats' : List SendKnown) (one : SendKnown)
    → Dealing table setup n seat me seats → n < setup.senders → seat' ≡ seat → me'.1 ≡ [] → one ≡ send_known seat setup (own me.0) → me'.0 ≡ other_senders me.0 → seats' ≡ seats ++ one ∷ []
    → Dealing table setup (n + 1) seat' me' seats'
deals table setup n seat seat' me me' seats seats' one d h same none' cut left more = record {
  own = same ∙ d.own;
  two = ap (λ (z : TableId). z.words) same ∙ d.two;
  rest = (let now : me'.0 ≡ fresh_port setup (fresh_senders (n + 1) (setup.senders - (n + 1))) = left ∙ ap (λ (m : Me PlannedAdd BusyView). other_senders m.0) d.rest ∙ ap (λ ss. fresh_port setup ss) (rest_fresh n setup.senders h) in λ i. (now i, none' i));
  dealt = (let new : one ≡ send_known seat setup (fresh_sender n) = cut ∙ ap (λ (m : Me PlannedAdd BusyView). send_known seat setup (own m.0)) d.rest ∙ ap (λ s. send_known seat setup s) (own_fresh n setup.senders setup h) in
      more ∙ ap (λ l. l ++ one ∷ []) d.dealt ∙ ap (λ o. fresh_seats seat setup 0 n ++ o ∷ []) new ∙ (let zero' : n ≡ 0 + n = omega arith in ap (λ k. fresh_seats seat setup 0 n ++ send_known seat setup (fresh_sender k) ∷ []) zero')
      ∙ sym (fresh_seats-more seat setup 0 n) ∙ (let next : suc n ≡ n + 1 = omega arith in ap (λ k. fresh_seats seat setup 0 k) next) ∙ ap (λ z. fresh_seats z setup 0 (n + 1)) (sym same));
}

pub right_setup : (on : Bool) (low high senders : ℕ) → senders ≤ 32 → InRange on low high → IsSetup (setup_of (record { on = on; low = low; high = high }) senders)
right_setup on low high senders few range = record { ordered = (λ is_on. let r = range is_on in (r.1, omega arith)); few = few }
