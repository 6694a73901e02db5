-- Jobs, and the ends of the lanes that carry them, may cross threads. A crate that hands them to threads answers its goals on that
-- by `search jobs_cross depth 20`.
use denote.Param.Send.{IsSend, IsSync, view_send, sendable}
use denote.Param.SendFields.{declared_send, variants_send}
use Rattle.std.proofs.Crossing.{crosses, frees}
use Rattle.std.specs.contracts.alloc.Global as heap
use Rattle.std.specs.contracts.option.Option as option
use Rattle.std.specs.contracts.sync.Arc as arc
use Rattle.std.specs.contracts.impls.GlobalAllocator.TheImpl as heap_impl
use Rattle.bytes.specs.contracts.shared.Bytes as bytes
use Rattle.bytes.specs.contracts.shared.Bytes.TheInside as bytes_inside
use Rattle.bytes.specs.contracts.block.Block as block
use Rattle.bytes.proofs.Crosses.{block-send, block-sync}
use Rattle.bytes.proofs.block.Seen.TheSendSync as seen_sent
use Rattle.io_vector.specs.contracts.piece.Piece as piece
use Rattle.io_vector.specs.contracts.piece.Piece.TheInside as piece_inside
use Rattle.task_queue.proofs.Sent.{ends_cross}
use Rattle.async_jobs.specs.contracts.job.Job as job
use Rattle.async_jobs.specs.contracts.job.Done as done
use Rattle.async_jobs.specs.contracts.job.WorkItem as item
use Rattle.async_jobs.specs.contracts.pool.Pool as pool

heap_send : IsSend heap.the_row
heap_send = search sendable depth 20

block_send : IsSend (block.the_row heap.the_row heap_impl.ghosts)
block_send = block-send heap.the_row heap_impl.ghosts heap_send frees

block_sync : IsSync (block.the_row heap.the_row heap_impl.ghosts)
block_sync = block-sync heap.the_row heap_impl.ghosts

owner_send : IsSend (option.the_row (arc.the_row (block.the_row heap.the_row heap_impl.ghosts) heap.the_row heap_impl.ghosts))
owner_send = search (crosses, sendable, block_send, block_sync) depth 20

bytes_send : IsSend (bytes.the_row heap.the_row heap_impl.ghosts)
bytes_send =
    view_send _ _ _ _ _ (declared_send (bytes_inside.the_type heap.the_row heap_impl.ghosts) (
      search (crosses, sendable) depth 20,
      (search sendable depth 20, (search sendable depth 20, (owner_send, (seen_sent.the_send, tt)))),
    ))

pub piece_send : IsSend piece.the_row
piece_send = view_send _ _ _ _ _ (declared_send piece_inside.the_type (bytes_send, tt))

pub job_send : IsSend job.the_row
job_send = search (crosses, sendable, piece_send) depth 20

pub done_send : IsSend done.the_row
done_send = search (crosses, sendable, piece_send) depth 20

pub item_send : IsSend item.the_row
item_send = search (crosses, sendable, job_send, variants_send) depth 20

pub pool_send : IsSend pool.the_row
pool_send = search (ends_cross, item_send) depth 20

pub ruleset jobs_cross = (ends_cross, piece_send, job_send, done_send, item_send, pool_send)
