-- Both ends of a lane may cross threads where its values may. A crate that hands ends to threads answers its goals on that by
-- `search ends_cross depth 20`.
use denote.RattleType.{RattleType}
use denote.Param.Send.{IsSend, IsSync, view_send, sendable}
use denote.Param.SendFields.{declared_send, declared_sync}
use Rattle.std.proofs.Crossing.{crosses, frees}
use Rattle.std.specs.contracts.alloc.Global as heap
use Rattle.std.specs.contracts.option.Option as option
use Rattle.std.specs.contracts.sync.Arc as arc
use Rattle.std.specs.contracts.impls.GlobalAllocator.TheImpl as heap_impl
use Rattle.crossbeam_queue.specs.contracts.seg_queue.Going as going
use Rattle.crossbeam_queue.specs.contracts.seg_queue.Ends as ends
use Rattle.crossbeam_queue.specs.contracts.seg_queue.Laps as laps
use Rattle.crossbeam_queue.specs.contracts.seg_queue.LapsBlockRuleOptionGoingEndsOption.TheImpl as lapped
use Rattle.crossbeam_queue.proofs.seg_queue.Chained.TheSendSync as chained_sent
use Rattle.atomic_blocks.specs.contracts.web.Seat as seat
use Rattle.atomic_blocks.proofs.web.Seat.TheSendSync as seat_sent
use Rattle.wake_ups.specs.contracts.waiter.Waiter as waiter
use Rattle.wake_ups.proofs.waiter.Waiter.TheSendSync as waiter_sent
use Rattle.task_queue.specs.declared.fits.Fits as fits
use Rattle.task_queue.specs.contracts.item.Item as item
use Rattle.task_queue.specs.contracts.protocol.Hand as hand
use Rattle.task_queue.specs.contracts.protocol.Rule as rule
use Rattle.task_queue.specs.contracts.protocol.RuleProtocolItemHandKey.TheImpl as ruled
use Rattle.task_queue.specs.contracts.channel.Channel as channel
use Rattle.task_queue.specs.contracts.send_end.SendEnd as send_end
use Rattle.task_queue.specs.contracts.send_end.SendEnd.TheInside as send_inside
use Rattle.task_queue.specs.contracts.take_end.TakeEnd as take_end
use Rattle.task_queue.specs.contracts.take_end.TakeEnd.TheInside as take_inside

waiter_send : IsSend waiter.the_row
waiter_send = waiter_sent.the_send

waiter_sync : IsSync waiter.the_row
waiter_sync = waiter_sent.the_sync

module _ (T K : RattleType) (F : fits.Ghosts T.Denot K.Denot) (s : IsSend T) where
  slot_send : IsSend (option.the_row (item.the_row T))
  slot_send = search sendable depth 20

  ends_send : IsSend (ends.the_row (option.the_row (item.the_row T)))
  ends_send = search sendable depth 20

  ends_sync : IsSync (ends.the_row (option.the_row (item.the_row T)))
  ends_sync = search sendable depth 20

  heap_send : IsSend heap.the_row
  heap_send = search sendable depth 20

  heap_sync : IsSync heap.the_row
  heap_sync = search sendable depth 20

  pub channel_send : IsSend (channel.the_row T K F)
  channel_send = declared_send (channel.the_type T K F) (
    chained_sent.the_send _ (going.the_row (item.the_row T) (hand.the_row T K)) _ (laps.the_row rule.the_row) _
        (lapped.ghosts (item.the_row T) (hand.the_row T K) rule.the_row (ruled.ghosts T K F ruled.no_dict) lapped.no_dict) heap_impl.ghosts slot_send ends_send heap_send frees,
    (search (sendable, crosses) depth 20, (search (crosses, waiter_send, waiter_sync) depth 20, tt)),
  )

  pub channel_sync : IsSync (channel.the_row T K F)
  channel_sync = declared_sync (channel.the_type T K F) (
    chained_sent.the_sync _ (going.the_row (item.the_row T) (hand.the_row T K)) _ (laps.the_row rule.the_row) _
        (lapped.ghosts (item.the_row T) (hand.the_row T K) rule.the_row (ruled.ghosts T K F ruled.no_dict) lapped.no_dict) heap_impl.ghosts slot_send heap_send ends_sync heap_sync frees,
    (search (sendable, crosses) depth 20, (search (crosses, waiter_send, waiter_sync) depth 20, tt)),
  )

  arc_send : IsSend (arc.the_row (channel.the_row T K F) heap.the_row heap_impl.ghosts)
  arc_send = search (crosses, channel_send, channel_sync)

  pass_send : IsSend (seat.the_row (option.the_row (item.the_row T)) (going.the_row (item.the_row T) (hand.the_row T K)) heap.the_row heap_impl.ghosts)
  pass_send = seat_sent.the_send _ (going.the_row (item.the_row T) (hand.the_row T K)) _ heap_impl.ghosts slot_send heap_send frees

  pub send_end_send : IsSend (send_end.the_row T K F)
  send_end_send =
      view_send _ _ _ _ _ (declared_send (send_inside.the_type T K F) (arc_send, (pass_send, (search sendable depth 20, (search sendable depth 20, (search sendable depth 20, tt))))))

  pub take_end_send : IsSend (take_end.the_row T K F)
  take_end_send = view_send _ _ _ _ _ (declared_send (take_inside.the_type T K F) (arc_send, (pass_send, tt)))

pub ruleset ends_cross = (crosses, sendable, send_end_send, take_end_send)
