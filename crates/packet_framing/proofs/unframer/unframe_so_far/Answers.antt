use Rattle.std.proofs.Common.{◌≡◌, List, ℕ, take, [], subst, arith}
use Rattle.std.specs.List.{concat}
use Rattle.std.proofs.lemmas.List.{take_all, get_or_read}
use Rattle.std.proofs.lemmas.Result.{err_from_is_err_and}
use Rattle.packet_framing.specs.Unframed.{Unframes}
use Rattle.packet_framing.proofs.Laws.{told_not_refused}
use Rattle.packet_framing.proofs.Running.{IsRunning, run_fails, running_more, running_holds}
use Rattle.packet_framing.proofs.unframer.unframe_so_far.Goals as goal

pub returns-in_err-feed-clause-fault : goal.returns-in_err-feed-clause-fault
returns-in_err-feed-clause-fault c =
    let p = err_from_is_err_and c.from_residual.result c.from_residual.ensures.1 in
    rw (p.1, p.2)
    (run_fails c.args.mode c.args.chunks.now c.loop-chunk.chunk-index _ c.loop-chunk.unframer c.feed.new.self
    c.loop-chunk.messages.items _ (omega arith) (get_or_read c.args.chunks.now c.loop-chunk.chunk-index _ (omega arith) c.chunk-item.is []) c.loop-chunk.invariant c.in_err-feed.ensures.fault)

pub loop-chunk-preserved : goal.loop-chunk-preserved
loop-chunk-preserved c =
    running_more c.args.mode c.args.chunks.now c.loop-chunk.chunk-index _ c.loop-chunk.unframer c.feed.new.self
    c.loop-chunk.messages.items _ _ (omega arith) (get_or_read c.args.chunks.now c.loop-chunk.chunk-index _ (omega arith) c.chunk-item.is []) c.loop-chunk.invariant c.in_ok-feed.ensures.messages c.in_ok-feed.ensures.new
    c.in_ok-append.ensures.items

pub returns-clause-served : goal.returns-clause-served
returns-clause-served c =
    let all : take c.loop-chunk.chunk-index c.args.chunks.now ≡ c.args.chunks.now =
    take_all c.loop-chunk.chunk-index c.args.chunks.now (omega arith) in
    let P : List (List ℕ) → Type 0 = λ chunks. Unframes c.args.mode (concat chunks) c.loop-chunk.messages.items c.loop-chunk.unframer.held in
    λ len. told_not_refused c.args.mode (concat c.args.chunks.now) _ _ len (subst P all c.loop-chunk.invariant.told)

pub returns-clause-unframer : goal.returns-clause-unframer
returns-clause-unframer c =
    let all : take c.loop-chunk.chunk-index c.args.chunks.now ≡ c.args.chunks.now =
    take_all c.loop-chunk.chunk-index c.args.chunks.now (omega arith) in
    let P : List (List ℕ) → Type 0 = λ chunks. IsRunning c.args.mode chunks c.loop-chunk.unframer c.loop-chunk.messages.items in
    running_holds c.args.mode c.args.chunks.now c.loop-chunk.unframer c.loop-chunk.messages.items (subst P all c.loop-chunk.invariant)
