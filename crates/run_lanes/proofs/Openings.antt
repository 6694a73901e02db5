-- What was made and dealt is what a run has, by place.
use Rattle.std.proofs.Common.{◌≡◌, ◌<◌, ◌+◌, ◌-◌, ℕ, List, [], ◌∷◌, ◌++◌, length, map, get_or, sym, refl, ap, ◌∙◌, subst, arith}
use Rattle.std.specs.List.{All}
use Rattle.std.proofs.lemmas.List.{get_or_append_left, get_or_at, get_or-append_right, get_or-map, length-map, length_push}
use Rattle.task_queue.specs.Ends.{Sending, Taking}
use Rattle.async_jobs.specs.Pool.{PoolEnd}
use Rattle.async_jobs.specs.Turns.{Worker}
use Rattle.process_end.specs.port_lanes.Keys.{Key}
use Rattle.process_end.specs.port_lanes.Parcels.{ParcelView}
use Rattle.port_mail.specs.Ends.{MailEnd}
use Rattle.port_words.specs.declared.busy.view.QueueLimits.{QueueLimits}
use Rattle.port_words.specs.busy.Known.{PortKnown, SendKnown}
use Rattle.port_words.specs.busy.Views.{fresh_sender}
use Rattle.process_end.specs.Mailbox.{Mailbox}
use Rattle.process_end.specs.Views.{LaneEnd}
use Rattle.run_lanes.specs.declared.size.LaneSize.{LaneSize}
use Rattle.run_lanes.specs.declared.parts.PortLanes.{PortLanes}
use Rattle.run_lanes.specs.declared.parts.ProcessLanes.{ProcessLanes}
use Rattle.run_lanes.specs.declared.parts.WorkerLanes.{WorkerLanes}
use Rattle.run_lanes.specs.declared.parts.RunLanes.{RunLanes}
use Rattle.run_lanes.specs.Ends.{IsUntaken, AreAllEnds, AreEndsOf, AreEndColumns, new_end}
use Rattle.run_lanes.specs.Words.{IsPortSeat, AreSeatsWith, AreWords, new_seat}
use Rattle.run_lanes.specs.Keyed.{ends_in, key_of, ArePortLanes}
use Rattle.run_lanes.proofs.WordsDealt.{no_limits}
use Rattle.run_lanes.specs.Dealt.{AskEnd, ArePorts, AreProcesses, AreWorkers}
use Rattle.run_lanes.specs.Opened.{HasCounts, HasPort, HasLaneEnds, HasProcess, HasWorker, HasPoller, HasFinish, CanOpen, CanBegin}

-- the lists that were made for a run, and dealt
pub record IsMade (size : LaneSize) (limits : List QueueLimits) (run : RunLanes) : Type 0 where
  pub seats : List PortKnown
  pub send_seats : List (List SendKnown)
  pub takers : List (Taking ParcelView Key)
  pub columns : List (List LaneEnd)
  pub process_ends : List (List LaneEnd)
  pub worker_ends : List (List LaneEnd)
  pub mailboxes : List Mailbox
  pub mail : List (List MailEnd)
  pub jobs : List Worker
  pub job_ends : List (List PoolEnd)
  pub pools : List (List PoolEnd)
  pub ask_ends : List AskEnd
  pub asks : List AskEnd
  pub words : AreWords limits size.processes seats send_seats
  pub lanes : ArePortLanes size seats takers
  pub ends : AreEndColumns takers (ends_in size) columns
  pub parted : columns ≡ (process_ends ++ run.poller.lanes.items ∷ []) ++ worker_ends
  pub parted_at : length process_ends ≡ size.processes
  pub mailboxes_many : length mailboxes ≡ size.processes
  pub mailboxes_new : All (IsUntaken tt) mailboxes
  pub mail_ends : AreEndColumns mailboxes (length limits) mail
  pub jobs_many : length jobs ≡ size.workers
  pub jobs_new : All (IsUntaken tt) jobs
  pub job_columns : AreEndColumns jobs (length limits + 1) job_ends
  pub jobs_parted : job_ends ≡ pools ++ run.finish.workers.items ∷ []
  pub asks_new : IsUntaken tt run.poller.asks
  pub all_asks : AreAllEnds run.poller.asks (length limits + 1) ask_ends
  pub asks_parted : ask_ends ≡ asks ++ run.finish.poller ∷ []
  pub ports : ArePorts takers mail seats asks pools run.ports.items
  pub processes : AreProcesses mailboxes process_ends send_seats run.processes.items
  pub workers : AreWorkers jobs worker_ends run.workers.items

some_of : {X : Type 0} (xs : List X) → 0 < length xs → X
some_of [] some = absurd (omega arith)
some_of (x ∷ xs) some = x

-- the same ends, told in other words
ends_as : {T K : Type 0} (lanes lanes' ends ends' number : ℕ) (taker taker' : ℕ → Taking T K) (mine mine' : List (Sending T K)) → lanes ≡ lanes' → ends ≡ ends' → mine' ≡ mine
    → ((k : ℕ) → k < lanes → taker' k ≡ taker k) → AreEndsOf lanes taker ends number mine → AreEndsOf lanes' taker' ends' number mine'
ends_as lanes lanes' ends ends' number taker taker' mine mine' many count same takers are = record {
  many = ap length same ∙ are.many ∙ many;
  each = λ k d below.
      let within : k < lanes = omega arith in
      ap (λ l. get_or l k d) same ∙ are.each k d within ∙ ap (λ t. new_end t ends number) (sym (takers k within)) ∙ ap (λ n. new_end (taker' k) n number) count;
}

seats_as : (ports ports' sender : ℕ) (seat seat' : ℕ → PortKnown) (mine mine' : List SendKnown) → ports ≡ ports' → mine' ≡ mine → ((k : ℕ) → k < ports → seat' k ≡ seat k)
    → AreSeatsWith ports seat sender mine → AreSeatsWith ports' seat' sender mine'
seats_as ports ports' sender seat seat' mine mine' many same seats are = record {
  many = ap length same ∙ are.many ∙ many;
  each = λ k d below.
      let within : k < ports = omega arith in
      ap (λ l. get_or l k d) same ∙ are.each k d within ∙ ap (λ s. new_seat s sender) (sym (seats k within));
}

module _ (size : LaneSize) (limits : List QueueLimits) (run : RunLanes) (made : IsMade size limits run) where
  ports_many : length run.ports.items ≡ length limits
  ports_many = made.ports.many ∙ made.lanes.many ∙ made.words.many

  takers_many : length made.takers ≡ length run.ports.items
  takers_many = sym made.ports.many

  pools_many : length made.pools ≡ length limits
  pools_many = (let e = ap length made.jobs_parted in let l = length_push made.pools run.finish.workers.items in let m = made.job_columns.many in omega arith)

  asks_many : length made.asks ≡ length limits
  asks_many = (let e = ap length made.asks_parted in let l = length_push made.asks run.finish.poller in let m = made.all_asks.many in omega arith)

  ends_more : length limits + 1 ≡ length run.ports.items + 1
  ends_more = ap (λ n. n + 1) (sym ports_many)

  mailbox_at : (d : ProcessLanes) (k : ℕ) → k < length made.mailboxes → (get_or run.processes.items k d).mailbox ≡ get_or made.mailboxes k d.mailbox
  mailbox_at d k below = (made.processes.each k d (let m = made.processes.many in omega arith)).mailbox d.mailbox

  jobs_at : (d : WorkerLanes) (k : ℕ) → k < length made.jobs → (get_or run.workers.items k d).jobs ≡ get_or made.jobs k d.jobs
  jobs_at d k below = (made.workers.each k d (let m = made.workers.many in omega arith)).jobs_are d.jobs

  lane_at : (d : PortLanes) (k : ℕ) → k < length made.takers → (get_or run.ports.items k d).lane ≡ get_or made.takers k d.lane
  lane_at d k below = (made.ports.each k d (let m = made.ports.many in omega arith)).lane d.lane

  seat_of : (d : PortLanes) (k : ℕ) → k < length limits → (get_or run.ports.items k d).seat ≡ get_or made.seats k d.seat
  seat_of d k below = (made.ports.each k d (let m = ports_many in omega arith)).seat d.seat

  pub counts : HasCounts size (length limits) run
  counts = record { ports_many = ports_many; processes_many = made.processes.many ∙ made.mailboxes_many; workers_many = made.workers.many ∙ made.jobs_many }

  pub port_of : (n : ℕ) (l : QueueLimits) (d : PortLanes) → n < length limits → HasPort size (get_or limits n l) run n (get_or run.ports.items n d)
  port_of n l d below =
      let p = get_or run.ports.items n d in
      let at = made.ports.each n d (let m = ports_many in omega arith) in
      let seat : p.seat ≡ get_or made.seats n p.seat = at.seat p.seat in
      let lane : p.lane ≡ get_or made.takers n p.lane = at.lane p.lane in
      let pool_is : (e : List PoolEnd) → p.pool ≡ get_or made.job_ends n e =
      λ e. at.pool e ∙ sym (get_or_append_left made.pools (run.finish.workers.items ∷ []) e n (let m = pools_many in omega arith)) ∙ ap (λ l. get_or l n e) (sym made.jobs_parted) in
      record {
        lane = subst (λ s. IsUntaken (key_of size s) p.lane) (sym seat)
            (subst (IsUntaken (key_of size (get_or made.seats n p.seat))) (sym lane) (made.lanes.each n p.seat p.lane (let m = made.words.many in omega arith)));
        seat = subst (IsPortSeat (get_or limits n l) size.processes) (sym seat) (made.words.ports n l p.seat below);
        mailboxes_many = ap length (at.mailboxes p.mailboxes) ∙ made.mail_ends.long n p.mailboxes below ∙ made.mailboxes_many;
        mailboxes = λ e. ends_as (length made.mailboxes) size.processes (length limits) (length run.ports.items) n (λ k. get_or made.mailboxes k e.mailbox) (λ k. (get_or run.processes.items k e).mailbox)
            (get_or made.mail n p.mailboxes) p.mailboxes made.mailboxes_many (sym ports_many) (at.mailboxes p.mailboxes) (mailbox_at e) (made.mail_ends.each n e.mailbox p.mailboxes below);
        asks = at.asks_are p.asks ∙ sym (get_or_append_left made.asks (run.finish.poller ∷ []) p.asks n (let m = asks_many in omega arith)) ∙ ap (λ l. get_or l n p.asks) (sym made.asks_parted)
            ∙ made.all_asks.each n p.asks (omega arith) ∙ ap (λ m. new_end run.poller.asks m n) ends_more;
        pool_many = ap length (pool_is p.pool) ∙ made.job_columns.long n p.pool (omega arith) ∙ made.jobs_many;
        pool = λ e. ends_as (length made.jobs) size.workers (length limits + 1) (length run.ports.items + 1) n (λ k. get_or made.jobs k e.jobs) (λ k. (get_or run.workers.items k e).jobs)
            (get_or made.job_ends n p.pool) p.pool made.jobs_many ends_more
            (pool_is p.pool) (jobs_at e) (made.job_columns.each n e.jobs p.pool (omega arith));
      }

  lane_ends_of : (number : ℕ) (mine : List LaneEnd) → number < ends_in size → mine ≡ get_or made.columns number mine → HasLaneEnds size run number mine
  lane_ends_of number mine below is = record {
    many = ap length is ∙ made.ends.long number mine below ∙ takers_many;
    each = λ d. ends_as (length made.takers) (length run.ports.items) (ends_in size) (ends_in size) number (λ k. get_or made.takers k d.lane) (λ k. (get_or run.ports.items k d).lane)
        (get_or made.columns number mine) mine takers_many refl is (lane_at d) (made.ends.each number d.lane mine below);
  }

  front : (n : ℕ) (d : List LaneEnd) → n < length made.process_ends → get_or made.process_ends n d ≡ get_or made.columns n d
  front n d below =
      sym (get_or_append_left made.process_ends (run.poller.lanes.items ∷ []) d n below)
      ∙ sym (get_or_append_left (made.process_ends ++ run.poller.lanes.items ∷ []) made.worker_ends d n (let l = length_push made.process_ends run.poller.lanes.items in omega arith))
      ∙ ap (λ l. get_or l n d) (sym made.parted)

  middle : (d : List LaneEnd) → run.poller.lanes.items ≡ get_or made.columns size.processes d
  middle d =
      sym (get_or_at made.process_ends run.poller.lanes.items [] d size.processes made.parted_at)
      ∙ sym (get_or_append_left (made.process_ends ++ run.poller.lanes.items ∷ []) made.worker_ends d size.processes (let l = length_push made.process_ends run.poller.lanes.items in let a = made.parted_at in omega arith))
      ∙ ap (λ l. get_or l size.processes d) (sym made.parted)

  back : (n : ℕ) (d : List LaneEnd) → get_or made.worker_ends n d ≡ get_or made.columns (size.processes + 1 + n) d
  back n d =
      let many : length (made.process_ends ++ run.poller.lanes.items ∷ []) ≡ size.processes + 1 = length_push made.process_ends run.poller.lanes.items ∙ ap (λ m. m + 1) made.parted_at in
      ap (λ m. get_or made.worker_ends m d) (let e : n ≡ size.processes + 1 + n - (size.processes + 1) = omega arith in e)
      ∙ sym (get_or-append_right (made.process_ends ++ run.poller.lanes.items ∷ []) made.worker_ends (size.processes + 1) (size.processes + 1 + n) d many (omega arith))
      ∙ ap (λ l. get_or l (size.processes + 1 + n) d) (sym made.parted)

  pub process_of : (n : ℕ) (d : ProcessLanes) → n < size.processes → HasProcess size run n (get_or run.processes.items n d)
  process_of n d below =
      let p = get_or run.processes.items n d in
      let at = made.processes.each n d (let m = made.processes.many in let k = made.mailboxes_many in omega arith) in
      record {
        mailbox = subst (IsUntaken tt) (sym (at.mailbox p.mailbox)) (made.mailboxes_new n p.mailbox (let k = made.mailboxes_many in omega arith));
        lanes = lane_ends_of n p.lanes.items (omega arith) (at.lanes_are p.lanes.items ∙ front n p.lanes.items (let a = made.parted_at in omega arith));
        seats_many = ap length (at.seats_are p.seats.items) ∙ made.words.long n p.seats.items below ∙ sym ports_many;
        seats = λ e. seats_as (length limits) (length run.ports.items) n (λ k. get_or made.seats k e.seat) (λ k. (get_or run.ports.items k e).seat) (get_or made.send_seats n p.seats.items) p.seats.items
            (sym ports_many) (at.seats_are p.seats.items) (seat_of e) (made.words.each n e.seat p.seats.items below);
      }

  pub worker_of : (n : ℕ) (d : WorkerLanes) → n < size.workers → HasWorker size run n (get_or run.workers.items n d)
  worker_of n d below =
      let w = get_or run.workers.items n d in
      let at = made.workers.each n d (let m = made.workers.many in let k = made.jobs_many in omega arith) in
      record {
        jobs = subst (IsUntaken tt) (sym (at.jobs_are w.jobs)) (made.jobs_new n w.jobs (let k = made.jobs_many in omega arith));
        lanes = lane_ends_of (size.processes + 1 + n) w.lanes.items (omega arith) (at.lanes_are w.lanes.items ∙ back n w.lanes.items);
      }

  pub poller_of : HasPoller size run
  poller_of = record { asks = made.asks_new; lanes = lane_ends_of size.processes run.poller.lanes.items (omega arith) (middle run.poller.lanes.items) }

  finish_is : (d : List PoolEnd) → run.finish.workers.items ≡ get_or made.job_ends (length run.ports.items) d
  finish_is d = sym (get_or_at made.pools run.finish.workers.items [] d (length run.ports.items) (pools_many ∙ sym ports_many)) ∙ ap (λ l. get_or l (length run.ports.items) d) (sym made.jobs_parted)

  pub finish_of : HasFinish size run
  finish_of = record {
    poller = sym (get_or_at made.asks run.finish.poller [] run.finish.poller (length run.ports.items) (asks_many ∙ sym ports_many)) ∙ ap (λ l. get_or l (length run.ports.items) run.finish.poller) (sym made.asks_parted)
        ∙ made.all_asks.each (length run.ports.items) run.finish.poller (let m = ports_many in omega arith) ∙ ap (λ m. new_end run.poller.asks m (length run.ports.items)) ends_more;
    workers_many = ap length (finish_is run.finish.workers.items) ∙ made.job_columns.long (length run.ports.items) run.finish.workers.items (let m = ports_many in omega arith) ∙ made.jobs_many;
    workers = λ e. ends_as (length made.jobs) size.workers (length limits + 1) (length run.ports.items + 1) (length run.ports.items) (λ k. get_or made.jobs k e.jobs) (λ k. (get_or run.workers.items k e).jobs)
        (get_or made.job_ends (length run.ports.items) run.finish.workers.items) run.finish.workers.items made.jobs_many ends_more
        (finish_is run.finish.workers.items) (jobs_at e) (made.job_columns.each (length run.ports.items) e.jobs run.finish.workers.items (let m = ports_many in omega arith));
  }

  -- each port can be opened
  pub can_open : (n : ℕ) (d : PortLanes) → n < length limits → CanOpen size (get_or run.ports.items n d)
  can_open n d below =
      let p = get_or run.ports.items n d in
      let has = port_of n no_limits d below in
      record {
        taken = has.lane.taken;
        processes = ap (λ k. k.processes) has.lane.key_is;
        workers = ap (λ k. k.workers) has.lane.key_is;
        table = ap (λ k. k.table) has.lane.key_is;
        mail = λ k e within.
            let m = has.mailboxes_many in
            let q = counts.processes_many in
            ap (λ (x : MailEnd). x.sent) ((has.mailboxes (some_of run.processes.items (omega arith))).each k e (omega arith));
        asks = ap (λ (x : AskEnd). x.sent) has.asks;
        jobs = λ k e within.
            let m = has.pool_many in
            let q = counts.workers_many in
            ap (λ (x : PoolEnd). x.sent) ((has.pool (some_of run.workers.items (omega arith))).each k e (omega arith));
        marks = ap (λ k. k.marks) has.seat.known;
        removed = ap (λ k. k.removed) has.seat.known;
      }

  -- each process can begin
  pub can_begin : (n : ℕ) (d : ProcessLanes) → n < size.processes → CanBegin (length limits) n (get_or run.processes.items n d)
  can_begin n d below = λ soft soft_many.
      let p = get_or run.processes.items n d in
      let has = process_of n d below in
      let many : length p.lanes.items ≡ length run.ports.items = has.lanes.many in
      record {
        seats_many = has.seats_many ∙ sym many;
        soft_many = soft_many ∙ sym ports_many ∙ sym many;
        ends = λ k e within.
            let port = some_of run.ports.items (omega arith) in
            let end = (has.lanes.each port).each k e (omega arith) in
            let key = (can_open k port (let m = ports_many in omega arith)).processes in
            let count = ap (λ (x : LaneEnd). x.key.processes) end in
            (ap (λ (x : LaneEnd). x.number) end, omega arith, ap (λ (x : LaneEnd). x.sent) end);
        tables = λ k e f within.
            let port = some_of run.ports.items (omega arith) in
            ap (λ (x : LaneEnd). x.key.table) ((has.lanes.each port).each k e (omega arith)) ∙ (can_open k port (let m = ports_many in omega arith)).table
            ∙ sym (ap (λ (x : SendKnown). x.table) ((has.seats port).each k f (omega arith)));
        fresh = λ k f within.
            let port = some_of run.ports.items (omega arith) in
            let sender = ap (λ (x : SendKnown). x.sender) ((has.seats port).each k f (omega arith)) in
            sender ∙ ap fresh_sender (sym (ap (λ s. s.ledger.number) sender));
        untaken = has.mailbox.taken;
      }

-- a pool has a lane for each worker
pub some_workers : {V : Type 0} (items : V → List PoolEnd) (jobs : List Worker) (ends workers : ℕ) (all pools : List V) (last : V) → all ≡ pools ++ last ∷ [] → AreEndColumns jobs ends (map items all) → length jobs ≡ workers → 0 < workers
    → (k : ℕ) (d : V) → k < length pools → 0 < length (items (get_or pools k d))
some_workers items [] ends workers all pools last parted are many some k d below = absurd (omega arith)
some_workers items (j ∷ jobs) ends workers all pools last parted are many some k d below =
    let size = ap length parted ∙ length_push pools last in
    let width = are.many in
    let mapped = length-map all items in
    let here : get_or (map items all) k [] ≡ items (get_or pools k d) =
    get_or-map items all k d [] (omega arith) ∙ ap (λ l. items (get_or l k d)) parted ∙ ap items (get_or_append_left pools (last ∷ []) d k below) in
    let long = (are.each k j [] (omega arith)).many in
    let same = ap length here in
    omega arith
