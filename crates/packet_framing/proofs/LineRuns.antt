-- The messages of lines, one byte after another: what holds while a part of a line is held back.
use Rattle.std.proofs.Common.{◌≡◌, ◌≢◌, ◌+◌, ◌<◌, ◌≤◌, ◌==◌, nat_lt, if◌then◌else◌, ℕ, zero, suc, List, [], ◌∷◌, ◌++◌, length, take, drop, All, refl, sym, ◌∙◌, ap, inl, inr, arith, append_assoc, length-append, length-drop}
use Rattle.std.specs.List.{onto_first}
use Rattle.std.proofs.lemmas.Bool.{cond-true, cond-false, cases_eq, cases_lt, eq-eqb, ne_eqb, lt-ltb, le-ltb}
use Rattle.std.proofs.lemmas.List.{append-nil, take_at, drop_at, length_push}
use Rattle.std.proofs.lemmas.List.Elements.{All-nil, All-push, All-head, All-tail}
use Rattle.std.proofs.lemmas.List.Splits.{slice_split-cons_yes, slice_split-cons_no, length-slice_split}
use Rattle.io_vector.specs.declared.flag.Flag.TheVariants.{Eol, Noeol}
use Rattle.packet_framing.specs.declared.message.Message.{Message}
use Rattle.packet_framing.specs.Lines.{cut_within, cut, message, ended_pieces, open_pieces, last_of, runs_of, told_runs, line_messages, line_rest}
use Rattle.packet_framing.specs.Unframed.{IsOpenLine}

-- what the bytes tell after a part that is held back
abbrev pub told_after : ℕ → List ℕ → List ℕ → List Message
told_after limit part [] = []
told_after limit part (b ∷ bs) =
    (if b == 10 then message Eol part ∷ told_after limit [] bs
    else (if nat_lt (length part) limit then told_after limit (part ++ b ∷ []) bs else message Noeol part ∷ told_after limit (b ∷ []) bs))

-- what is held back after them
abbrev pub left_after : ℕ → List ℕ → List ℕ → List ℕ
left_after limit part [] = part
left_after limit part (b ∷ bs) =
    (if b == 10 then left_after limit [] bs
    else (if nat_lt (length part) limit then left_after limit (part ++ b ∷ []) bs else left_after limit (b ∷ []) bs))

-- one byte: it ends the line, goes on in the part, or begins a new one
data Look (limit : ℕ) (part : List ℕ) (b : ℕ) : Type 0 where
  ends : b ≡ 10 → Look limit part b
  goes_on : b ≢ 10 → length part < limit → Look limit part b
  is_full : b ≢ 10 → limit ≤ length part → Look limit part b

look : (limit : ℕ) (part : List ℕ) (b : ℕ) → Look limit part b
look limit part b =
    elim (cases_eq b 10) [
      | inl is ↦ ends is
      | inr not ↦ elim (cases_lt (length part) limit) [ inl room ↦ goes_on not room | inr full ↦ is_full not full ]
    ]

pub told-end : (limit : ℕ) (part : List ℕ) (b : ℕ) (bs : List ℕ) → b ≡ 10 →
    told_after limit part (b ∷ bs) ≡ message Eol part ∷ told_after limit [] bs
told-end limit part b bs is = cond-true (b == 10) _ _ (eq-eqb b 10 is)

pub told-on : (limit : ℕ) (part : List ℕ) (b : ℕ) (bs : List ℕ) → b ≢ 10 → length part < limit →
    told_after limit part (b ∷ bs) ≡ told_after limit (part ++ b ∷ []) bs
told-on limit part b bs not room =
    cond-false (b == 10) _ _ (ne_eqb b 10 not) ∙ cond-true (nat_lt (length part) limit) _ _ (lt-ltb (length part) limit room)

pub told-full : (limit : ℕ) (part : List ℕ) (b : ℕ) (bs : List ℕ) → b ≢ 10 → limit ≤ length part →
    told_after limit part (b ∷ bs) ≡ message Noeol part ∷ told_after limit (b ∷ []) bs
told-full limit part b bs not full =
    cond-false (b == 10) _ _ (ne_eqb b 10 not) ∙ cond-false (nat_lt (length part) limit) _ _ (le-ltb (length part) limit full)

pub left-end : (limit : ℕ) (part : List ℕ) (b : ℕ) (bs : List ℕ) → b ≡ 10 →
    left_after limit part (b ∷ bs) ≡ left_after limit [] bs
left-end limit part b bs is = cond-true (b == 10) _ _ (eq-eqb b 10 is)

pub left-on : (limit : ℕ) (part : List ℕ) (b : ℕ) (bs : List ℕ) → b ≢ 10 → length part < limit →
    left_after limit part (b ∷ bs) ≡ left_after limit (part ++ b ∷ []) bs
left-on limit part b bs not room =
    cond-false (b == 10) _ _ (ne_eqb b 10 not) ∙ cond-true (nat_lt (length part) limit) _ _ (lt-ltb (length part) limit room)

pub left-full : (limit : ℕ) (part : List ℕ) (b : ℕ) (bs : List ℕ) → b ≢ 10 → limit ≤ length part →
    left_after limit part (b ∷ bs) ≡ left_after limit (b ∷ []) bs
left-full limit part b bs not full =
    cond-false (b == 10) _ _ (ne_eqb b 10 not) ∙ cond-false (nat_lt (length part) limit) _ _ (le-ltb (length part) limit full)

-- more bytes tell more, from what is held back then
pub told-append : (limit : ℕ) (part xs ys : List ℕ) →
    told_after limit part (xs ++ ys) ≡ told_after limit part xs ++ told_after limit (left_after limit part xs) ys
told-append limit part [] ys = refl
told-append limit part (b ∷ xs) ys =
    elim (look limit part b) [
      | ends is ↦
          rw (told-end limit part b (xs ++ ys) is, told-end limit part b xs is, left-end limit part b xs is)
          (ap (λ ms. message Eol part ∷ ms) (told-append limit [] xs ys))
      | goes_on not room ↦
          rw (told-on limit part b (xs ++ ys) not room, told-on limit part b xs not room, left-on limit part b xs not room)
          (told-append limit (part ++ b ∷ []) xs ys)
      | is_full not full ↦
          rw (told-full limit part b (xs ++ ys) not full, told-full limit part b xs not full, left-full limit part b xs not full)
          (ap (λ ms. message Noeol part ∷ ms) (told-append limit (b ∷ []) xs ys))
    ]

pub left-append : (limit : ℕ) (part xs ys : List ℕ) →
    left_after limit part (xs ++ ys) ≡ left_after limit (left_after limit part xs) ys
left-append limit part [] ys = refl
left-append limit part (b ∷ xs) ys =
    elim (look limit part b) [
      | ends is ↦
          rw (left-end limit part b (xs ++ ys) is, left-end limit part b xs is) (left-append limit [] xs ys)
      | goes_on not room ↦
          rw (left-on limit part b (xs ++ ys) not room, left-on limit part b xs not room) (left-append limit (part ++ b ∷ []) xs ys)
      | is_full not full ↦
          rw (left-full limit part b (xs ++ ys) not full, left-full limit part b xs not full) (left-append limit (b ∷ []) xs ys)
    ]

-- The cut of a run.

-- a run of no more than `limit` bytes is one piece
pub cut_short : (limit most : ℕ) (run : List ℕ) → length run ≤ limit → cut_within most limit run ≡ run ∷ []
cut_short limit zero run fits = refl
cut_short limit (suc most) run fits = cond-false (nat_lt limit (length run)) _ _ (le-ltb limit (length run) fits)

-- how often a run may be cut doesn't matter, from its length on
cut_enough : (limit most more : ℕ) (run : List ℕ) → 0 < limit → length run ≤ most → length run ≤ more →
    cut_within most limit run ≡ cut_within more limit run
cut_enough limit zero more run some within enough =
    let none : length run ≤ limit = omega arith in
    sym (cut_short limit more run none)
cut_enough limit (suc most) zero run some within enough =
    let none : length run ≤ limit = omega arith in
    cut_short limit (suc most) run none
cut_enough limit (suc most) (suc more) run some within enough =
    ap (λ (pieces : List (List ℕ)). if nat_lt limit (length run) then take limit run ∷ pieces else run ∷ [])
    (cut_enough limit most more (drop limit run) some (omega (arith, length-drop limit run)) (omega (arith, length-drop limit run)))

-- a full piece stands alone where its line goes on
pub cut_full : (limit : ℕ) (part : List ℕ) (b : ℕ) (bs : List ℕ) → 0 < limit → length part ≡ limit →
    cut limit (part ++ b ∷ bs) ≡ part ∷ cut limit (b ∷ bs)
cut_full limit part b bs some full =
    let run : List ℕ = part ++ b ∷ bs in
    let most : ℕ = length part + length bs in
    let size : length run ≡ length part + suc (length bs) = length-append part (b ∷ bs) in
    let long : limit < length run = omega arith in
    let within : length run ≤ length run = omega arith in
    let enough : length run ≤ suc most = omega arith in
    let rest : length (b ∷ bs) ≤ most = omega arith in
    cut_enough limit (length run) (suc most) run some within enough
    ∙ cond-true (nat_lt limit (length run)) _ _ (lt-ltb limit (length run) long)
    ∙ ap (λ front. front ∷ cut_within most limit (drop limit run)) (take_at part (b ∷ bs) limit full)
    ∙ ap (λ back. part ∷ cut_within most limit back) (drop_at part (b ∷ bs) limit full)
    ∙ ap (λ pieces. part ∷ pieces) (cut_enough limit most (length (b ∷ bs)) (b ∷ bs) some rest (omega arith))

-- a cut has a piece
cut_some : (limit most : ℕ) (run : List ℕ) → (piece : List ℕ) × (pieces : List (List ℕ)) × (cut_within most limit run ≡ piece ∷ pieces)
cut_some limit zero run = (run, [], refl)
cut_some limit (suc most) run =
    elim (cases_lt limit (length run)) [
      | inl long ↦ (take limit run, cut_within most limit (drop limit run), cond-true (nat_lt limit (length run)) _ _ (lt-ltb limit (length run) long))
      | inr short ↦ (run, [], cond-false (nat_lt limit (length run)) _ _ (le-ltb limit (length run) short))
    ]

ended_more : (piece : List ℕ) (others : List (List ℕ)) → (next : List ℕ) × (pieces : List (List ℕ)) × (others ≡ next ∷ pieces) →
    ended_pieces (piece ∷ others) ≡ message Noeol piece ∷ ended_pieces others
ended_more piece others (next, pieces, is) = rw is refl

open_more : (piece : List ℕ) (others : List (List ℕ)) → (next : List ℕ) × (pieces : List (List ℕ)) × (others ≡ next ∷ pieces) →
    open_pieces (piece ∷ others) ≡ message Noeol piece ∷ open_pieces others
open_more piece others (next, pieces, is) = rw is refl

last_more : (piece : List ℕ) (others : List (List ℕ)) → (next : List ℕ) × (pieces : List (List ℕ)) × (others ≡ next ∷ pieces) →
    last_of (piece ∷ others) ≡ last_of others
last_more piece others (next, pieces, is) = rw is refl

ended_full : (limit : ℕ) (part : List ℕ) (b : ℕ) (bs : List ℕ) → 0 < limit → length part ≡ limit →
    ended_pieces (cut limit (part ++ b ∷ bs)) ≡ message Noeol part ∷ ended_pieces (cut limit (b ∷ bs))
ended_full limit part b bs some full =
    ap ended_pieces (cut_full limit part b bs some full) ∙ ended_more part _ (cut_some limit (length (b ∷ bs)) (b ∷ bs))

open_full : (limit : ℕ) (part : List ℕ) (b : ℕ) (bs : List ℕ) → 0 < limit → length part ≡ limit →
    open_pieces (cut limit (part ++ b ∷ bs)) ≡ message Noeol part ∷ open_pieces (cut limit (b ∷ bs))
open_full limit part b bs some full =
    ap open_pieces (cut_full limit part b bs some full) ∙ open_more part _ (cut_some limit (length (b ∷ bs)) (b ∷ bs))

last_full : (limit : ℕ) (part : List ℕ) (b : ℕ) (bs : List ℕ) → 0 < limit → length part ≡ limit →
    last_of (cut limit (part ++ b ∷ bs)) ≡ last_of (cut limit (b ∷ bs))
last_full limit part b bs some full =
    ap last_of (cut_full limit part b bs some full) ∙ last_more part _ (cut_some limit (length (b ∷ bs)) (b ∷ bs))

-- A part that is held back, before the runs of the bytes that come.

onto : List ℕ → List (List ℕ) → List (List ℕ)
onto part [] = part ∷ []
onto part (run ∷ runs) = (part ++ run) ∷ runs

runs_some : (bytes : List ℕ) → 0 < length (runs_of bytes)
runs_some bytes = omega (arith, length-slice_split (λ (byte : ℕ). byte == 10) bytes)

onto_nil : (runs : List (List ℕ)) → 0 < length runs → onto [] runs ≡ runs
unfolding onto
onto_nil [] some = absurd (omega arith)
onto_nil (run ∷ runs) some = refl

onto_first_is : (part : List ℕ) (b : ℕ) (runs : List (List ℕ)) → onto part (onto_first b runs) ≡ onto (part ++ b ∷ []) runs
unfolding onto
onto_first_is part b [] = refl
onto_first_is part b (run ∷ runs) = ap (λ first. first ∷ runs) (sym (append_assoc part (b ∷ []) run))

told_more : (limit : ℕ) (run : List ℕ) (runs : List (List ℕ)) → 0 < length runs →
    told_runs limit (run ∷ runs) ≡ ended_pieces (cut limit run) ++ told_runs limit runs
told_more limit run [] some = absurd (omega arith)
told_more limit run (next ∷ runs) some = refl

last_run : (run : List ℕ) (runs : List (List ℕ)) → 0 < length runs → last_of (run ∷ runs) ≡ last_of runs
last_run run [] some = absurd (omega arith)
last_run run (next ∷ runs) some = refl

onto_full : (limit : ℕ) (part : List ℕ) (b : ℕ) (runs : List (List ℕ)) → 0 < limit → length part ≡ limit →
    told_runs limit (onto (part ++ b ∷ []) runs) ≡ message Noeol part ∷ told_runs limit (onto (b ∷ []) runs)
unfolding onto
onto_full limit part b [] some full = open_full limit part b [] some full
onto_full limit part b (run ∷ []) some full =
    ap (λ first. open_pieces (cut limit first)) (append_assoc part (b ∷ []) run) ∙ open_full limit part b run some full
onto_full limit part b (run ∷ next ∷ runs) some full =
    ap (λ ms. ms ++ told_runs limit (next ∷ runs))
    (ap (λ first. ended_pieces (cut limit first)) (append_assoc part (b ∷ []) run) ∙ ended_full limit part b run some full)

onto_last : (limit : ℕ) (part : List ℕ) (b : ℕ) (runs : List (List ℕ)) → 0 < limit → length part ≡ limit →
    last_of (cut limit (last_of (onto (part ++ b ∷ []) runs))) ≡ last_of (cut limit (last_of (onto (b ∷ []) runs)))
unfolding onto
onto_last limit part b [] some full = last_full limit part b [] some full
onto_last limit part b (run ∷ []) some full =
    ap (λ first. last_of (cut limit first)) (append_assoc part (b ∷ []) run) ∙ last_full limit part b run some full
onto_last limit part b (run ∷ next ∷ runs) some full = refl

-- the definition over all bytes is what they tell one after another
told_is : (limit : ℕ) (part bs : List ℕ) → 0 < limit → length part ≤ limit →
    told_runs limit (onto part (runs_of bs)) ≡ told_after limit part bs
unfolding onto
told_is limit part [] some fits =
    ap (λ run. open_pieces (cut limit run)) (append-nil part) ∙ ap open_pieces (cut_short limit (length part) part fits)
told_is limit part (b ∷ bs) some fits =
    elim (look limit part b) [
      | ends is ↦
          ap (λ runs. told_runs limit (onto part runs)) (slice_split-cons_yes (λ byte. byte == 10) b bs (eq-eqb b 10 is))
          ∙ told_more limit (part ++ []) (runs_of bs) (runs_some bs)
          ∙ ap (λ run. ended_pieces (cut limit run) ++ told_runs limit (runs_of bs)) (append-nil part)
          ∙ ap (λ pieces. ended_pieces pieces ++ told_runs limit (runs_of bs)) (cut_short limit (length part) part fits)
          ∙ ap (λ runs. message Eol part ∷ told_runs limit runs) (sym (onto_nil (runs_of bs) (runs_some bs)))
          ∙ ap (λ ms. message Eol part ∷ ms) (told_is limit [] bs some (omega arith))
          ∙ sym (told-end limit part b bs is)
      | goes_on not room ↦
          ap (λ runs. told_runs limit (onto part runs)) (slice_split-cons_no (λ byte. byte == 10) b bs (ne_eqb b 10 not))
          ∙ ap (told_runs limit) (onto_first_is part b (runs_of bs))
          ∙ told_is limit (part ++ b ∷ []) bs some (omega (arith, length_push part b))
          ∙ sym (told-on limit part b bs not room)
      | is_full not full ↦
          let whole : length part ≡ limit = omega arith in
          ap (λ runs. told_runs limit (onto part runs)) (slice_split-cons_no (λ byte. byte == 10) b bs (ne_eqb b 10 not))
          ∙ ap (told_runs limit) (onto_first_is part b (runs_of bs))
          ∙ onto_full limit part b (runs_of bs) some whole
          ∙ ap (λ ms. message Noeol part ∷ ms) (told_is limit (b ∷ []) bs some (omega arith))
          ∙ sym (told-full limit part b bs not full)
    ]

left_is : (limit : ℕ) (part bs : List ℕ) → 0 < limit → length part ≤ limit →
    last_of (cut limit (last_of (onto part (runs_of bs)))) ≡ left_after limit part bs
unfolding onto
left_is limit part [] some fits =
    ap (λ run. last_of (cut limit run)) (append-nil part) ∙ ap last_of (cut_short limit (length part) part fits)
left_is limit part (b ∷ bs) some fits =
    elim (look limit part b) [
      | ends is ↦
          ap (λ runs. last_of (cut limit (last_of (onto part runs)))) (slice_split-cons_yes (λ byte. byte == 10) b bs (eq-eqb b 10 is))
          ∙ ap (λ run. last_of (cut limit run))
          (last_run (part ++ []) (runs_of bs) (runs_some bs) ∙ ap last_of (sym (onto_nil (runs_of bs) (runs_some bs))))
          ∙ left_is limit [] bs some (omega arith)
          ∙ sym (left-end limit part b bs is)
      | goes_on not room ↦
          ap (λ runs. last_of (cut limit (last_of (onto part runs)))) (slice_split-cons_no (λ byte. byte == 10) b bs (ne_eqb b 10 not))
          ∙ ap (λ runs. last_of (cut limit (last_of runs))) (onto_first_is part b (runs_of bs))
          ∙ left_is limit (part ++ b ∷ []) bs some (omega (arith, length_push part b))
          ∙ sym (left-on limit part b bs not room)
      | is_full not full ↦
          let whole : length part ≡ limit = omega arith in
          ap (λ runs. last_of (cut limit (last_of (onto part runs)))) (slice_split-cons_no (λ byte. byte == 10) b bs (ne_eqb b 10 not))
          ∙ ap (λ runs. last_of (cut limit (last_of runs))) (onto_first_is part b (runs_of bs))
          ∙ onto_last limit part b (runs_of bs) some whole
          ∙ left_is limit (b ∷ []) bs some (omega arith)
          ∙ sym (left-full limit part b bs not full)
    ]

pub line_messages_is : (limit : ℕ) (bytes : List ℕ) → 0 < limit → line_messages limit bytes ≡ told_after limit [] bytes
line_messages_is limit bytes some =
    ap (told_runs limit) (sym (onto_nil (runs_of bytes) (runs_some bytes))) ∙ told_is limit [] bytes some (omega arith)

pub line_rest_is : (limit : ℕ) (bytes : List ℕ) → 0 < limit → line_rest limit bytes ≡ left_after limit [] bytes
line_rest_is limit bytes some =
    ap (λ runs. last_of (cut limit (last_of runs))) (sym (onto_nil (runs_of bytes) (runs_some bytes))) ∙ left_is limit [] bytes some (omega arith)

-- what is held back has no line end and isn't longer than a piece
open_nil : (limit : ℕ) → IsOpenLine limit []
open_nil limit = record { short = omega arith; unbroken = All-nil _ }

left_open : (limit : ℕ) (part bs : List ℕ) → 0 < limit → IsOpenLine limit part → IsOpenLine limit (left_after limit part bs)
left_open limit part [] some open' = open'
left_open limit part (b ∷ bs) some open' =
    elim (look limit part b) [
      | ends is ↦ rw (left-end limit part b bs is) (left_open limit [] bs some (open_nil limit))
      | goes_on not room ↦
          let more : IsOpenLine limit (part ++ b ∷ []) =
          record { short = omega (arith, length_push part b); unbroken = All-push (λ byte. byte ≢ 10) part b open'.unbroken not } in
          rw (left-on limit part b bs not room) (left_open limit (part ++ b ∷ []) bs some more)
      | is_full not full ↦
          let one : IsOpenLine limit (b ∷ []) =
          record { short = omega arith; unbroken = All-push (λ byte. byte ≢ 10) [] b (All-nil _) not } in
          rw (left-full limit part b bs not full) (left_open limit (b ∷ []) bs some one)
    ]

pub rest_open : (limit : ℕ) (bytes : List ℕ) → 0 < limit → IsOpenLine limit (line_rest limit bytes)
rest_open limit bytes some = rw (line_rest_is limit bytes some) (left_open limit [] bytes some (open_nil limit))

-- bytes that can be held back tell nothing, and are held back whole
quiet : (limit : ℕ) (part xs : List ℕ) → length part + length xs ≤ limit → All (λ byte. byte ≢ 10) xs →
    (told_after limit part xs ≡ []) × (left_after limit part xs ≡ part ++ xs)
quiet limit part [] fits unbroken = (refl, sym (append-nil part))
quiet limit part (b ∷ xs) fits unbroken =
    let not : b ≢ 10 = All-head (λ byte. byte ≢ 10) b xs unbroken in
    let room : length part < limit = omega arith in
    let rest = quiet limit (part ++ b ∷ []) xs (omega (arith, length_push part b)) (All-tail (λ byte. byte ≢ 10) b xs unbroken) in
    (told-on limit part b xs not room ∙ rest.0, left-on limit part b xs not room ∙ rest.1 ∙ append_assoc part (b ∷ []) xs)

pub open_messages : (limit : ℕ) (held : List ℕ) → 0 < limit → IsOpenLine limit held → line_messages limit held ≡ []
open_messages limit held some open' =
    line_messages_is limit held some ∙ (quiet limit [] held (omega (arith, open'.short)) open'.unbroken).0

pub open_rest : (limit : ℕ) (held : List ℕ) → 0 < limit → IsOpenLine limit held → line_rest limit held ≡ held
open_rest limit held some open' =
    line_rest_is limit held some ∙ (quiet limit [] held (omega (arith, open'.short)) open'.unbroken).1

-- more bytes tell more, from the rest
pub line_messages-append : (limit : ℕ) (bytes chunk : List ℕ) → 0 < limit →
    line_messages limit (bytes ++ chunk) ≡ line_messages limit bytes ++ told_after limit (line_rest limit bytes) chunk
line_messages-append limit bytes chunk some =
    line_messages_is limit (bytes ++ chunk) some ∙ told-append limit [] bytes chunk
    ∙ ap (λ ms. ms ++ told_after limit (left_after limit [] bytes) chunk) (sym (line_messages_is limit bytes some))
    ∙ ap (λ r. line_messages limit bytes ++ told_after limit r chunk) (sym (line_rest_is limit bytes some))

pub line_rest-append : (limit : ℕ) (bytes chunk : List ℕ) → 0 < limit →
    line_rest limit (bytes ++ chunk) ≡ left_after limit (line_rest limit bytes) chunk
line_rest-append limit bytes chunk some =
    line_rest_is limit (bytes ++ chunk) some ∙ left-append limit [] bytes chunk
    ∙ ap (λ r. left_after limit r chunk) (sym (line_rest_is limit bytes some))

-- the same where the rest stands alone before the chunk
pub line_messages_more : (limit : ℕ) (bytes chunk : List ℕ) → 0 < limit →
    line_messages limit (bytes ++ chunk) ≡ line_messages limit bytes ++ line_messages limit (line_rest limit bytes ++ chunk)
line_messages_more limit bytes chunk some =
    let rest : List ℕ = line_rest limit bytes in
    let open' : IsOpenLine limit rest = rest_open limit bytes some in
    let alone : line_messages limit (rest ++ chunk) ≡ told_after limit rest chunk =
    line_messages-append limit rest chunk some
    ∙ ap (λ ms. ms ++ told_after limit (line_rest limit rest) chunk) (open_messages limit rest some open')
    ∙ ap (λ r. told_after limit r chunk) (open_rest limit rest some open') in
    line_messages-append limit bytes chunk some ∙ ap (λ ms. line_messages limit bytes ++ ms) (sym alone)

pub line_rest_more : (limit : ℕ) (bytes chunk : List ℕ) → 0 < limit →
    line_rest limit (bytes ++ chunk) ≡ line_rest limit (line_rest limit bytes ++ chunk)
line_rest_more limit bytes chunk some =
    let rest : List ℕ = line_rest limit bytes in
    let alone : line_rest limit (rest ++ chunk) ≡ left_after limit rest chunk =
    line_rest-append limit rest chunk some
    ∙ ap (λ r. left_after limit r chunk) (open_rest limit rest some (rest_open limit bytes some)) in
    line_rest-append limit bytes chunk some ∙ sym alone
