-- What the driver store does with its queue of bytes.
use Rattle.std.specs.Prelude.{◌≡◌, ℕ, List}
use Rattle.driver_model.specs.Store.{queue_controlled, store_answer}
use Rattle.port_driver.specs.declared.reply.ReplyTo.{ReplyTo}
use Rattle.port_driver.specs.Context.{Context}
use Rattle.port_driver.specs.Replies.{reply_effect}

-- a control was answered so, and left the queue so; it recorded nothing else
pub record Answers (op : ℕ) (bytes : List ℕ) (old new : Context) (answer : ReplyTo) : Type 0 where
  pub replied : reply_effect answer ≡ store_answer op bytes old.queue
  pub context : new ≡ record old { queue = queue_controlled op bytes old.queue }
