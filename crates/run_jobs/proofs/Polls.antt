-- The rounds of the poller, one after another.
use Rattle.std.proofs.Common.{◌≡◌, ◌<◌, ◌+◌, ℕ, List, [], ◌∷◌, ◌++◌, length, take, drop, get_or, sym, refl, ap, ◌∙◌, subst, arith, append_assoc, length-append}
use Rattle.std.specs.List.{All}
use Rattle.std.proofs.lemmas.List.{append-nil, drop_more, take_more, take-append-drop}
use Rattle.std.proofs.lemmas.List.Elements.{All-nil, All-cons}
use Rattle.std.proofs.lemmas.List.Concat.{flat_map-append}
use Rattle.process_end.specs.Views.{LaneEnd}
use Rattle.ready_select.specs.declared.ask.PollAsk.{PollAsk}
use Rattle.ready_select.specs.declared.ask.Polled.{Polled}
use Rattle.ready_select.specs.declared.ask.Polled.TheVariants as polled
use Rattle.ready_select.specs.Answered.{IsAnswered}
use Rattle.ready_select.specs.Polling.{Poller}
use Rattle.ready_select.proofs.Counting.{answered-rounds}
use Rattle.run_jobs.specs.declared.poller.PollerEnd.TheVariants as end
use Rattle.run_jobs.specs.declared.poller.RoundEnd.{RoundEnd}
use Rattle.run_jobs.specs.declared.poller.RoundEnd.TheVariants as round
use Rattle.run_jobs.specs.Telling.{PortTask, Sends}
use Rattle.run_jobs.specs.Rounds.{told_of, tasks_of, FoundRound, WasRound, RoundsTo, all_found, PollsTo, RoundOf}
use Rattle.run_jobs.proofs.Tells.{sends_none, sends_then}

answered_then : (x y z : List ℕ) (f g : List PollAsk) → IsAnswered x y f → IsAnswered y z g → IsAnswered x z (f ++ g)
answered_then x y z f g one two =
    subst (λ l. IsAnswered x z (f ++ l)) (append-nil g) (answered-rounds x (record { found = f; after = y } ∷ record { found = g; after = z } ∷ []) (one, (two, tt)))

-- these rounds each waited once, and all that they found was told
pub record PollsSo (old new : Poller) (lanes lanes' : List LaneEnd) : Type 0 where
  pub rounds : List FoundRound
  pub ran : RoundsTo old rounds new
  pub waited : All WasRound rounds
  pub each_answered : IsAnswered old.answered new.answered (all_found rounds)
  pub sends : Sends (tasks_of (all_found rounds)) lanes lanes'

pub polls_none : (p : Poller) (lanes : List LaneEnd) → PollsSo p p lanes lanes
polls_none p lanes = record { rounds = []; ran = refl; waited = All-nil WasRound; each_answered = answered-rounds p.answered [] tt; sends = sends_none lanes }

-- one round more
record OneMore (old new : Poller) (lanes lanes' : List LaneEnd) (earlier : List FoundRound) (last : Polled) (left : List PortTask) : Type 0 where
  found : List PollAsk
  told : List PortTask
  ran : RoundsTo old (record { polled = last; found = found } ∷ earlier) new
  each_answered : IsAnswered old.answered new.answered (all_found earlier ++ found)
  whole : tasks_of (all_found earlier ++ found) ≡ told ++ left
  sends : Sends told lanes lanes'

one_more : (how : RoundEnd) (old mid new : Poller) (lanes lanes' lanes'' : List LaneEnd) → (so : PollsSo old mid lanes lanes') → (r : RoundOf how mid new lanes' lanes'') → OneMore old new lanes lanes'' so.rounds r.polled r.left
one_more how old mid new lanes lanes' lanes'' so r = record {
  found = r.found;
  told = tasks_of (all_found so.rounds) ++ r.told;
  ran = (mid, so.ran, r.is_round);
  each_answered = answered_then old.answered mid.answered new.answered (all_found so.rounds) r.found so.each_answered r.each_answered;
  whole = flat_map-append told_of (all_found so.rounds) r.found ∙ ap (λ l. tasks_of (all_found so.rounds) ++ l) r.whole ∙ sym (append_assoc (tasks_of (all_found so.rounds)) r.told r.left);
  sends = sends_then (tasks_of (all_found so.rounds)) r.told lanes lanes' lanes'' so.sends r.sends;
}

pub polls_more : (how : RoundEnd) (old mid new : Poller) (lanes lanes' lanes'' : List LaneEnd) → PollsSo old mid lanes lanes' → (r : RoundOf how mid new lanes' lanes'') → r.polled ≡ polled.Round → r.left ≡ [] → PollsSo old new lanes lanes''
polls_more how old mid new lanes lanes' lanes'' so r waited none =
    let more = one_more how old mid new lanes lanes' lanes'' so r in
    record {
      rounds = record { polled = r.polled; found = more.found } ∷ so.rounds;
      ran = more.ran;
      waited = All-cons WasRound (record { polled = r.polled; found = more.found }) so.rounds waited so.waited;
      each_answered = more.each_answered;
      sends = subst (λ l. Sends l lanes lanes'') (sym (more.whole ∙ ap (λ l. more.told ++ l) none ∙ append-nil more.told)) more.sends;
    }

pub polls_stopped : (old new : Poller) (lanes lanes' : List LaneEnd) → PollsSo old new lanes lanes' → PollsTo end.Stopped old new lanes lanes'
polls_stopped old new lanes lanes' so = record {
  rounds = so.rounds;
  told = tasks_of (all_found so.rounds);
  left = [];
  ran = so.ran;
  each_answered = so.each_answered;
  whole = sym (append-nil (tasks_of (all_found so.rounds)));
  sends = so.sends;
  ends = (so.waited, refl);
}

pub polls_finished : (old mid new : Poller) (lanes lanes' lanes'' : List LaneEnd) → PollsSo old mid lanes lanes' → RoundOf round.Finished mid new lanes' lanes'' → PollsTo end.Finished old new lanes lanes''
polls_finished old mid new lanes lanes' lanes'' so r =
    let more = one_more round.Finished old mid new lanes lanes' lanes'' so r in
    record {
      rounds = record { polled = r.polled; found = more.found } ∷ so.rounds;
      told = more.told;
      left = r.left;
      ran = more.ran;
      each_answered = more.each_answered;
      whole = more.whole;
      sends = more.sends;
      ends = ((r.ends.0, so.waited), r.ends.1);
    }

pub polls_faulted : (old mid new : Poller) (lanes lanes' lanes'' : List LaneEnd) → PollsSo old mid lanes lanes' → RoundOf round.Failed mid new lanes' lanes'' → PollsTo end.PollFault old new lanes lanes''
polls_faulted old mid new lanes lanes' lanes'' so r =
    let more = one_more round.Failed old mid new lanes lanes' lanes'' so r in
    record {
      rounds = record { polled = r.polled; found = more.found } ∷ so.rounds;
      told = more.told;
      left = r.left;
      ran = more.ran;
      each_answered = more.each_answered;
      whole = more.whole;
      sends = more.sends;
      ends = ((r.ends.0, so.waited), r.ends.1);
    }

pub polls_failed : (old mid new : Poller) (lanes lanes' lanes'' : List LaneEnd) → PollsSo old mid lanes lanes' → RoundOf round.NoMemory mid new lanes' lanes'' → PollsTo end.NoMemory old new lanes lanes''
unfolding one_more
polls_failed old mid new lanes lanes' lanes'' so r =
    let more = one_more round.NoMemory old mid new lanes lanes' lanes'' so r in
    record {
      rounds = record { polled = r.polled; found = more.found } ∷ so.rounds;
      told = more.told;
      left = r.left;
      ran = more.ran;
      each_answered = more.each_answered;
      whole = more.whole;
      sends = more.sends;
      ends = (so.waited, (r.told, r.whole), r.ends);
    }

-- what is told of one more
pub told_next : (found : List PollAsk) (i : ℕ) (ask : PollAsk) → i < length found → ask ≡ get_or found i ask → tasks_of (take (i + 1) found) ≡ tasks_of (take i found) ++ told_of ask
told_next found i ask within is =
    ap tasks_of (take_more found i ask within ∙ ap (λ a. take i found ++ a ∷ []) (sym is)) ∙ flat_map-append told_of (take i found) (ask ∷ []) ∙ ap (λ l. tasks_of (take i found) ++ l) (append-nil (told_of ask))

-- what is left of all where one was told in part
pub told_in_part : (found : List PollAsk) (i : ℕ) (ask : PollAsk) (told left : List PortTask) → i < length found → ask ≡ get_or found i ask → told_of ask ≡ told ++ left
    → tasks_of found ≡ (tasks_of (take i found) ++ told) ++ (left ++ tasks_of (drop (i + 1) found))
told_in_part found i ask told left within is whole =
    ap tasks_of (sym (take-append-drop i found) ∙ ap (λ l. take i found ++ l) (drop_more found i ask within ∙ ap (λ a. a ∷ drop (i + 1) found) (sym is)))
    ∙ flat_map-append told_of (take i found) (ask ∷ drop (i + 1) found) ∙ ap (λ l. tasks_of (take i found) ++ (l ++ tasks_of (drop (i + 1) found))) whole
    ∙ ap (λ l. tasks_of (take i found) ++ l) (append_assoc told left (tasks_of (drop (i + 1) found)))
    ∙ sym (append_assoc (tasks_of (take i found)) told (left ++ tasks_of (drop (i + 1) found)))

-- there was something to tell of all where there was of one
pub told_some : (found : List PollAsk) (i : ℕ) (ask : PollAsk) → i < length found → ask ≡ get_or found i ask → 0 < length (told_of ask) → 0 < length (tasks_of found)
told_some found i ask within is some =
    let whole = ap length (told_in_part found i ask (told_of ask) [] within is (sym (append-nil (told_of ask)))) in
    let first = length-append (tasks_of (take i found) ++ told_of ask) (tasks_of (drop (i + 1) found)) in
    let second = length-append (tasks_of (take i found)) (told_of ask) in
    omega arith
