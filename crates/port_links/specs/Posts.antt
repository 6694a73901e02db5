-- What the program sends, as the definitions of a history say it.
use Rattle.std.specs.Prelude.{ℕ, List}
use Rattle.port_history.specs.port_model.port_signal.declared.monitor.Monitor.{Monitor}
use Rattle.port_history.specs.port_model.declared.mail.Mail.TheVariants.{Exit, Down}
use Rattle.port_history.specs.Mail.{Sent, send}
use Rattle.port_links.specs.declared.post.Post.{Post}

abbrev pub sent_of : Post → Sent
sent_of post = send post.to post.mail

-- an exit signal of the port of this number to a process
abbrev pub exit_of : ℕ → List ℕ → ℕ → Sent
exit_of port reason process = send process (Exit port reason)

-- what a monitor of the port is told
abbrev pub down_of : ℕ → List ℕ → Monitor → Sent
down_of port reason monitor = send monitor.process (Down port monitor.number reason)
