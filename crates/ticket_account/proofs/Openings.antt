-- The seats of a run in the midst of being made.
use Rattle.std.proofs.Common.{◌≡◌, ◌≢◌, ℕ, zero, suc, ◌+◌, ◌<◌, ◌≤◌, ◌^◌, List, [], ◌∷◌, ◌++◌, Some, map, length, take, drop, set, get_or, slice_get, replicate, sym, refl, ap, ◌∙◌, subst, arith, length-append, ⊎_elim}
use Rattle.std.specs.List.{All}
use Rattle.std.proofs.lemmas.List.Elements.{All-nil, All-cons, All-head, All-tail, All-drop, All-pop, All-map, All-weaker, All-same}
use Rattle.std.proofs.lemmas.Option.{same_Some, none-some, slice_get_within}
use Rattle.std.proofs.lemmas.Bool.Decides.{nat_tests}
use Rattle.std.specs.declared.snapshot.Snapshot.{Snapshot}
use Rattle.atomic_blocks.specs.Laid.{WebId}
use Rattle.atomic_blocks.specs.Lent.{RowsId}
use Rattle.atomic_table.specs.Seated.{TableId}
use Rattle.port_words.specs.home.Home.{fresh_view}
use Rattle.port_words.specs.home.Seats.{HomeKnown, home_known, AreSeatsOf}
use Rattle.port_words.specs.over.Over.{OverKnown, over_size, fresh_seat, fresh_seats}
use Rattle.run_queue.specs.Account.{hand}
use Rattle.run_queue.specs.Seats.{RunKnown, EntryKnown, entry_known, entry_parts, changed_at, AreSeats}
use Rattle.run_queue.specs.Seats as seats
use Rattle.run_queue.proofs.OpeningLemmas.{get_push}
use Rattle.run_queue.proofs.EndLemmas.{map_push}
use Rattle.run_queue.proofs.SeatLemmas.{all_from_get}
use Rattle.port_sched.specs.declared.body.PortBody.{Ghosts}
use Rattle.port_sched.specs.declared.lodger.Lodger.{Lodger}
use Rattle.port_sched.specs.declared.schedulers.Scheduler.{Scheduler}
use Rattle.port_sched.specs.declared.waking.JobSeats.{JobSeats}
use Rattle.port_sched.specs.Homes.{AreHomes}
use Rattle.port_sched.specs.Schedulers.{CanBegin}
use Rattle.ticket_account.specs.Run.{IsDealt, AreDealt, IsOpenedFor}
use Rattle.ticket_account.specs.Opening.{IsOther, IsCounted, ArePlaces, GivesEach, AreAlike, IsSeated, AreSeated, IsJobSeat, AreJobSeats, IsReadyJob}
use Rattle.ticket_account.proofs.Seats.{found_at}

-- the counted seats of a new word are those of the lowest numbers
fresh_counted : (word : TableId) (counted seats n count k : ℕ) → n + k ≤ counted → All (IsCounted word) (take k (fresh_seats word (over_size counted seats) n count))
fresh_counted word counted seats n zero zero few = All-nil (IsCounted word)
fresh_counted word counted seats n zero (suc k) few = All-nil (IsCounted word)
fresh_counted word counted seats n (suc count) zero few = All-nil (IsCounted word)
fresh_counted word counted seats n (suc count) (suc k) few = All-cons (IsCounted word) (fresh_seat word (over_size counted seats) n) (take k (fresh_seats word (over_size counted seats) (n + 1) count))
    (record { word_is = refl; counted = (let lt : n < counted = omega arith in grind (arith, nat_tests)); waits = refl; has_to = (omega arith, refl); runs = refl })
    (fresh_counted word counted seats (n + 1) count k (omega arith))

fresh_other : (word : TableId) (counted seats n count : ℕ) → All (IsOther word) (fresh_seats word (over_size counted seats) n count)
fresh_other word counted seats n zero = All-nil (IsOther word)
fresh_other word counted seats n (suc count) = All-cons (IsOther word) (fresh_seat word (over_size counted seats) n) (fresh_seats word (over_size counted seats) (n + 1) count)
    (record { word_is = refl; runs = refl }) (fresh_other word counted seats (n + 1) count)

pub fresh_length : (word : TableId) (counted seats n count : ℕ) → length (fresh_seats word (over_size counted seats) n count) ≡ count
fresh_length word counted seats n zero = refl
fresh_length word counted seats n (suc count) = ap suc (fresh_length word counted seats (n + 1) count)

pub places_split : (word : TableId) (counted others : ℕ) (all firsts rest : List OverKnown) → all ≡ fresh_seats word (over_size counted (counted + others)) 0 (counted + others)
    → firsts ≡ take counted all → rest ≡ drop counted all → length firsts ≡ counted → length rest + counted ≡ length all → ArePlaces counted others firsts rest
places_split word counted others all firsts rest fresh front back many left = record {
  word = word;
  many = many;
  others_many = (let l = ap length fresh in let f = fresh_length word counted (counted + others) 0 (counted + others) in omega arith);
  firsts_are = subst (All (IsCounted word)) (sym (front ∙ ap (take counted) fresh)) (fresh_counted word counted (counted + others) 0 (counted + others) counted (omega arith));
  rest_are = subst (All (IsOther word)) (sym (back ∙ ap (drop counted) fresh)) (All-drop (IsOther word) counted _ (fresh_other word counted (counted + others) 0 (counted + others)));
}

-- one row has one element more
pub set_rows : {V H : Type 0} (items : V → List H) (xs : List V) (n : ℕ) (x y : V) (s : H) → n < length xs → x ≡ get_or xs n x → items y ≡ items x ++ s ∷ []
    → map items (set xs n y) ≡ changed_at (λ row. row ++ s ∷ []) n (map items xs)
set_rows items [] n x y s lt at more = absurd (omega arith)
set_rows items (z ∷ zs) zero x y s lt at more = ap (λ r. r ∷ map items zs) (more ∙ ap (λ v. items v ++ s ∷ []) at)
set_rows items (z ∷ zs) (suc n) x y s lt at more = ap (λ l. items z ∷ l) (set_rows items zs n x y s (omega arith) at more)

module _ {H : Type 0} where
  -- the rows below a number have got the element
  abbrev pub given : ℕ → H → List (List H) → List (List H)
  given zero s rows = rows
  given (suc n) s [] = []
  given (suc n) s (r ∷ rs) = (r ++ s ∷ []) ∷ given n s rs

  pub given_next : (n : ℕ) (s : H) (rows : List (List H)) → changed_at (λ row. row ++ s ∷ []) n (given n s rows) ≡ given (suc n) s rows
  given_next zero s [] = refl
  given_next zero s (r ∷ rs) = refl
  given_next (suc n) s [] = refl
  given_next (suc n) s (r ∷ rs) = ap (λ l. (r ++ s ∷ []) ∷ l) (given_next n s rs)

  pub given_all : (n : ℕ) (s : H) (rows : List (List H)) → n ≡ length rows → given n s rows ≡ map (λ row. row ++ s ∷ []) rows
  given_all zero s [] e = refl
  given_all zero s (r ∷ rs) e = absurd (omega arith)
  given_all (suc n) s [] e = refl
  given_all (suc n) s (r ∷ rs) e = ap (λ l. (r ++ s ∷ []) ∷ l) (given_all n s rs (omega arith))

  -- the last of elements that are all alike
  pub pop_alike : (n : ℕ) (rest : List H) (x s : H) → rest ++ x ∷ [] ≡ replicate n s → (x ≡ s) × (rest ≡ replicate (length rest) s)
  pop_alike zero [] x s e = absurd (let l = ap length e in omega arith)
  pop_alike zero (r ∷ rs) x s e = absurd (let l = ap length e in omega arith)
  pop_alike (suc n) [] x s e = (same_Some x s (ap (λ l. slice_get l 0) e), refl)
  pop_alike (suc n) (r ∷ rs) x s e =
      let here : r ≡ s = same_Some r s (ap (λ l. slice_get l 0) e) in
      let more = pop_alike n rs x s (ap (λ l. drop 1 l) e) in
      (more.0, (λ i. here i ∷ more.1 i))

  get_before : (xs : List H) (x k : H) (n : ℕ) → slice_get xs n ≡ Some k → slice_get (xs ++ x ∷ []) n ≡ Some k
  get_before [] x k n e = absurd (none-some k e)
  get_before (y ∷ ys) x k zero e = e
  get_before (y ∷ ys) x k (suc n) e = get_before ys x k n e

  get_last : (xs : List H) (x : H) → slice_get (xs ++ x ∷ []) (length xs) ≡ Some x
  get_last [] x = refl
  get_last (y ∷ ys) x = get_last ys x

  pub alike_length : (n : ℕ) (x : H) → length (replicate n x) ≡ n
  alike_length zero x = refl
  alike_length (suc n) x = ap suc (alike_length n x)

  get_alike : (n count : ℕ) (x k : H) → slice_get (replicate count x) n ≡ Some k → k ≡ x
  get_alike n zero x k e = absurd (none-some k e)
  get_alike zero (suc count) x k e = sym (same_Some x k e)
  get_alike (suc n) (suc count) x k e = get_alike n count x k e

module _ {B : Type 0} where
  fresh_dealt : (homes : List TableId) (bodies : List B) (home : TableId) (first : Snapshot B) (seats port : ℕ) → slice_get homes port ≡ Some home → slice_get bodies port ≡ Some first.value
      → IsDealt homes bodies seats port (home_known home port (fresh_view (Some first) seats 1))
  fresh_dealt homes bodies home first seats port at stands = record { home = at; home_of = record { first = first; fixed = refl; made_with = stands }; port_is = refl; rests = refl; share = refl; seats_are = refl; unused = (refl, refl, refl); begun_none = record { claimed = refl; idle = refl; withdrawn = refl } }

  pub alike_none : (seats : ℕ) (rows : List (List (HomeKnown B))) → All (λ r. r ≡ []) rows → AreAlike seats [] rows
  alike_none seats rows all = record { homes = []; many = refl; row = []; dealt = (refl, λ port s e. absurd (none-some s e)); same = all }

  pub alike_more : (seats port : ℕ) (body : B) (all : List (HomeKnown B)) (rows rows' : List (List (HomeKnown B))) → length rows ≡ seats → AreSeatsOf port body seats all → GivesEach all rows rows'
      → (bodies : List B) → length bodies ≡ port → AreAlike seats bodies rows → AreAlike seats (bodies ++ body ∷ []) rows'
  alike_more seats port body all rows rows' many are gives bodies so_many alike =
      let s = home_known are.home port (fresh_view (Some are.first) seats 1) in
      let homes = alike.homes ++ are.home ∷ [] in
      let row = alike.row ++ s ∷ [] in
      let count : length alike.row ≡ port = alike.dealt.0 ∙ alike.many ∙ so_many in
      let now : rows' ≡ map (λ r. r ++ s ∷ []) rows = gives s (are.dealt ∙ ap (λ n. replicate n s) (sym many)) in
      record {
        homes = homes;
        many = length-append alike.homes (are.home ∷ []) ∙ ap (λ n. n + 1) alike.many ∙ sym (length-append bodies (body ∷ []));
        row = row;
        dealt = (
          length-append alike.row (s ∷ []) ∙ ap (λ n. n + 1) alike.dealt.0 ∙ sym (length-append alike.homes (are.home ∷ [])),
          λ p t e. ⊎_elim
              (λ (before : slice_get alike.row p ≡ Some t).
              let d = alike.dealt.1 p t before in
              record { home = get_before alike.homes are.home t.home p d.home; home_of = record { first = d.home_of.first; fixed = d.home_of.fixed; made_with = get_before bodies body _ p d.home_of.made_with }; port_is = d.port_is; rests = d.rests; share = d.share; seats_are = d.seats_are; unused = d.unused; begun_none = d.begun_none })
              (λ (last : (p ≡ length alike.row) × (t ≡ s)).
              let at : p ≡ port = last.0 ∙ count in
              let stands : slice_get homes port ≡ Some are.home = ap (slice_get homes) (sym (alike.many ∙ so_many)) ∙ get_last alike.homes are.home in
              let mine : slice_get (bodies ++ body ∷ []) port ≡ Some are.first.value = ap (slice_get (bodies ++ body ∷ [])) (sym so_many) ∙ get_last bodies body ∙ ap Some (sym are.made_with) in
              subst (λ (u : HomeKnown B). IsDealt homes (bodies ++ body ∷ []) seats p u) (sym last.1)
              (subst (λ n. IsDealt homes (bodies ++ body ∷ []) seats n s) (sym at) (fresh_dealt homes (bodies ++ body ∷ []) are.home are.first seats port stands mine)))
              (get_push alike.row s t p e),
        );
        same = All-same (λ r. r ≡ row) rows' (map (λ r. r ++ s ∷ []) rows) now
            (All-map (λ r. r ≡ row) (λ r. r ++ s ∷ []) rows (All-weaker (λ r. r ≡ alike.row) (λ r. r ++ s ∷ [] ≡ row) (λ r is. ap (λ l. l ++ s ∷ []) is) rows alike.same));
      }

  -- the seats that were dealt rest, each in its place
  pub dealt_homes : (homes : List TableId) (bodies : List B) (seats : ℕ) (mine : List (HomeKnown B)) → AreDealt homes bodies seats mine → AreHomes mine
  dealt_homes homes bodies seats mine dealt port s e = let d = dealt.1 port s e in (d.port_is, d.rests)

-- the last row of rows that are all alike
pub pop_row : {V H : Type 0} (items : V → List H) (old rest : List V) (x : V) (row : List H) → old ≡ rest ++ x ∷ [] → All (λ r. r ≡ row) (map items old)
    → All (λ r. r ≡ row) (map items rest) × (items x ≡ row)
pop_row items old rest x row taken all =
    All-pop (λ r. r ≡ row) (map items old) (map items rest) (Some (items x)) (ap (map items) taken ∙ map_push items rest x) all

module _ {B : Type 0} {g : Ghosts B} where
  pub seated_none : (row : List (HomeKnown (Lodger B g))) (word : TableId) → AreSeated {B = B} {g = g} [] row word []
  seated_none row word = (refl, λ n run s here there. absurd (none-some run here))

  pub seated_more : (runs : List RunKnown) (run : RunKnown) (row : List (HomeKnown (Lodger B g))) (word : TableId) (all : List (Scheduler B g)) (s : Scheduler B g)
      → AreSeated runs row word all → IsSeated run row word s → AreSeated (runs ++ run ∷ []) row word (all ++ s ∷ [])
  seated_more runs run row word all s before seat = (
    length-append all (s ∷ []) ∙ ap (λ n. n + 1) before.0 ∙ sym (length-append runs (run ∷ [])),
    λ n r t here there. ⊎_elim
        (λ (a : slice_get runs n ≡ Some r). ⊎_elim
        (λ (b : slice_get all n ≡ Some t). before.1 n r t a b)
        (λ (b : (n ≡ length all) × (t ≡ s)). absurd (let w = slice_get_within runs n r a in let c = before.0 in let e = b.0 in omega arith))
        (get_push all s t n there))
        (λ (a : (n ≡ length runs) × (r ≡ run)). ⊎_elim
        (λ (b : slice_get all n ≡ Some t). absurd (let w = slice_get_within all n t b in let c = before.0 in let e = a.0 in omega arith))
        (λ (b : (n ≡ length all) × (t ≡ s)). subst (λ (x : RunKnown). IsSeated x row word t) (sym a.1) (subst (λ (u : Scheduler B g). IsSeated run row word u) (sym b.1) seat))
        (get_push all s t n there))
        (get_push runs run r n here),
  )

  pub jobs_none : (row : List (HomeKnown (Lodger B g))) → AreJobSeats {B = B} {g = g} [] row []
  jobs_none row = (refl, λ n entry j here there. absurd (none-some entry here))

  pub jobs_more : (entries : List EntryKnown) (entry : EntryKnown) (row : List (HomeKnown (Lodger B g))) (all : List (JobSeats B g)) (j : JobSeats B g)
      → AreJobSeats entries row all → IsJobSeat entry row j → AreJobSeats (entries ++ entry ∷ []) row (all ++ j ∷ [])
  jobs_more entries entry row all j before seat = (
    length-append all (j ∷ []) ∙ ap (λ n. n + 1) before.0 ∙ sym (length-append entries (entry ∷ [])),
    λ n r t here there. ⊎_elim
        (λ (a : slice_get entries n ≡ Some r). ⊎_elim
        (λ (b : slice_get all n ≡ Some t). before.1 n r t a b)
        (λ (b : (n ≡ length all) × (t ≡ j)). absurd (let w = slice_get_within entries n r a in let c = before.0 in let e = b.0 in omega arith))
        (get_push all j t n there))
        (λ (a : (n ≡ length entries) × (r ≡ entry)). ⊎_elim
        (λ (b : slice_get all n ≡ Some t). absurd (let w = slice_get_within all n t b in let c = before.0 in let e = a.0 in omega arith))
        (λ (b : (n ≡ length all) × (t ≡ j)). subst (λ (x : EntryKnown). IsJobSeat x row t) (sym a.1) (subst (λ (u : JobSeats B g). IsJobSeat entry row u) (sym b.1) seat))
        (get_push all j t n there))
        (get_push entries entry r n here),
  )

  -- what was seated are the seats of one run
  pub opened : (schedulers jobs : ℕ) (runs : List RunKnown) (entries : List EntryKnown) (row : List (HomeKnown (Lodger B g))) (homes : List TableId) (bodies : List (Lodger B g)) (word : TableId)
      (all : List (Scheduler B g)) (others : List (JobSeats B g)) → 0 < schedulers → jobs + schedulers ≤ 2 ^ 32 → AreSeats schedulers jobs runs entries → length homes ≡ length bodies → AreDealt homes bodies (schedulers + jobs) row
      → AreSeated runs row word all → AreJobSeats entries row others → (given : List B) → map (λ l. l.body) bodies ≡ given → IsOpenedFor given all others
  opened schedulers jobs runs entries row homes bodies word all others some few are each_home dealt seated job_seats given stand =
      let many : length all ≡ schedulers = seated.0 ∙ are.seats_count in
      let ends_many : length entries ≡ jobs = ap length are.ends ∙ alike_length jobs (entry_known are.injector (hand 1 [] [])) in
      let jobs_many : length others ≡ jobs = job_seats.0 ∙ ends_many in
      let total : schedulers + jobs ≡ length all + length others = omega arith in (
        record {
          deques = are.deques;
          injector = are.injector;
          homes = homes;
          bodies = bodies;
          each_home = each_home;
          word = word;
          some = omega arith;
          deques_count = are.deques_count ∙ sym many;
          few = omega arith;
          each = λ n s e.
              let run = found_at runs n (let w = slice_get_within all n s e in let c = seated.0 in omega arith) in
              let seat = seated.1 n run.0 s run.1 e in
              record {
                run = seat.run_is ∙ are.each n run.0 run.1 ∙ (λ i. fresh_at are.deques are.injector n (sym many i) (sym jobs_many i));
                homes_are = subst (λ l. AreDealt homes bodies (length all + length others) l) (sym seat.homes_are) (subst (λ t. AreDealt homes bodies t row) total dealt);
                over = seat.over.word_is;
              };
          each_job = λ n j e.
              let entry = found_at entries n (let w = slice_get_within others n j e in let c = job_seats.0 in omega arith) in
              let seat = job_seats.1 n entry.0 j entry.1 e in
              record {
                entry_is = seat.entry_is ∙ get_alike n jobs _ entry.0 (ap (λ l. slice_get l n) (sym are.ends) ∙ entry.1);
                homes_are = subst (λ l. AreDealt homes bodies (length all + length others) l) (sym seat.homes_are) (subst (λ t. AreDealt homes bodies t row) total dealt);
              };
        },
        stand,
      )
    where
      fresh_at : (deques : List RowsId) (injector : WebId) (n schedulers jobs : ℕ) → RunKnown
      fresh_at deques injector n schedulers jobs = seats.fresh_seat deques injector n (entry_parts schedulers jobs n)

  -- each scheduler can begin
  pub can_begin : (runs : List RunKnown) (row : List (HomeKnown (Lodger B g))) (homes : List TableId) (bodies : List (Lodger B g)) (seats : ℕ) (word : TableId) (all : List (Scheduler B g)) → AreDealt homes bodies seats row → length row ≤ 2 ^ 32
      → AreSeated runs row word all → All CanBegin all
  can_begin runs row homes bodies seats word all dealt few seated = all_from_get CanBegin all (λ n s e.
      let run = found_at runs n (let w = slice_get_within all n s e in let c = seated.0 in omega arith) in
      let seat = seated.1 n run.0 s run.1 e in
      record {
        homes = subst AreHomes (sym seat.homes_are) (dealt_homes homes bodies seats row dealt);
        few = (let l = ap length seat.homes_are in omega arith);
        stop = seat.over.runs;
      })

  -- and each job can wake each port
  pub ready_jobs : (ports : ℕ) (entries : List EntryKnown) (row : List (HomeKnown (Lodger B g))) (homes : List TableId) (bodies : List (Lodger B g)) (seats : ℕ) (all : List (JobSeats B g)) → AreDealt homes bodies seats row → length homes ≡ ports
      → AreJobSeats entries row all → All (IsReadyJob ports) all
  ready_jobs ports entries row homes bodies seats all dealt many job_seats = all_from_get (IsReadyJob ports) all (λ n j e.
      let entry = found_at entries n (let w = slice_get_within all n j e in let c = job_seats.0 in omega arith) in
      let seat = job_seats.1 n entry.0 j entry.1 e in
      record {
        many = ap length seat.homes_are ∙ dealt.0 ∙ many;
        homes_are = subst AreHomes (sym seat.homes_are) (dealt_homes homes bodies seats row dealt);
      })

module _ {X : Type 0} where
  -- a write leaves what stands elsewhere
  pub set_others : (xs : List X) (i : ℕ) (y : X) (n : ℕ) → n ≢ i → slice_get (set xs i y) n ≡ slice_get xs n
  set_others [] i y n differ = refl
  set_others (x ∷ xs) zero y zero differ = absurd (differ refl)
  set_others (x ∷ xs) zero y (suc n) differ = refl
  set_others (x ∷ xs) (suc i) y zero differ = refl
  set_others (x ∷ xs) (suc i) y (suc n) differ = set_others xs i y n (λ same. differ (ap suc same))

-- lists that are all one row have room for more where each has room for so many
pub room_left : {V H : Type 0} (items : V → List H) (len room_of : V → ℕ) (room : ℕ) (row : List H) → ((v : V) → len v ≡ length (items v)) → length row < room
    → (vs : List V) → All (λ r. r ≡ row) (map items vs) → All (λ v. room ≤ room_of v) vs → All (λ v. (len v < room) × (room ≤ room_of v)) vs
room_left items len room_of room row sizes few [] same rooms = All-nil (λ v. (len v < room) × (room ≤ room_of v))
room_left items len room_of room row sizes few (v ∷ vs) same rooms =
    let size = sizes v in
    let is = ap length (All-head (λ r. r ≡ row) (items v) (map items vs) same) in
    All-cons (λ v. (len v < room) × (room ≤ room_of v)) v vs (omega arith, All-head (λ v. room ≤ room_of v) v vs rooms)
    (room_left items len room_of room row sizes few vs (All-tail (λ r. r ≡ row) (items v) (map items vs) same) (All-tail (λ v. room ≤ room_of v) v vs rooms))
