-- What a row's mail is made of, as the program has it, and the row of a history.
use Rattle.std.specs.Prelude.{◌≡◌, List, [], ◌∷◌, map, Bool, false, Option, Some, None}
use Rattle.port_model.specs.declared.effect.Effect.{Effect}
use Rattle.port_model.specs.declared.signal.Signal.{Signal}
use Rattle.port_model.specs.declared.signal.Signal.TheVariants.{Connect, OwnerConnect}
use Rattle.port_links.specs.port_history.Opening.{Opening, Taken}
use Rattle.port_links.specs.port_history.Ties.{Ties, may_own, tied}
use Rattle.port_links.specs.port_history.State.{State, closing_reason, stops, closer_after}
use Rattle.port_links.specs.port_history.Mail.{Sent, closing_mail}
use Rattle.port_links.specs.declared.post.Post.{Post}
use Rattle.port_links.specs.Posts.{sent_of}
use Rattle.port_mail.specs.declared.handling.Handling.{Handling}
use Rattle.port_mail.specs.declared.handling.Closing.{Closing}

-- what there is of a post that may be none
abbrev pub sent_by : Option Post → List Sent
sent_by None = []
sent_by (Some post) = sent_of post ∷ []

-- whether the process that a connect names may own the port
abbrev pub may_connect : Opening → Ties → Signal → Bool
may_connect opening ties (Connect process) = may_own opening ties process
may_connect opening ties (OwnerConnect process) = may_own opening ties process
may_connect opening ties signal = false

-- what is known of a port for a signal is what its ties say
pub record IsHandling (handling : Handling) (opening : Opening) (ties : Ties) (signal : Signal) : Type 0 where
  pub port : handling.port ≡ opening.number
  pub owner : handling.owner ≡ ties.owner
  pub may_own : handling.may_own ≡ may_connect opening ties signal

-- what a port handles, and how it closes, is what a history says of a task after a state
pub record IsRowOf (handling : Handling) (did : List Effect) (asked : Signal) (closing : Closing) (opening : Opening) (s : State) (t : Taken) : Type 0 where
  pub before : IsHandling handling opening s.ties asked
  pub from : t.from ≡ handling.from
  pub seq : t.seq ≡ handling.seq
  pub signal : t.task.signal ≡ asked
  pub effects : t.effects ≡ did
  pub exits : map sent_of closing.posts.items ≡ closing_mail opening.number (closing_reason s t) (tied opening s.ties t.from t.task.signal)
  pub stops : closing.stops ≡ stops opening s t
  pub closer : closing.closer ≡ closer_after s t
