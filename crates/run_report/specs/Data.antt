-- The mail with data of a process, a list for each port.
use Rattle.std.specs.Prelude.{◌≡◌, ◌<◌, ℕ, List, [], ◌++◌, length, get_or}
use Rattle.port_model.specs.declared.mail.Mail.{Mail}
use Rattle.port_model.specs.declared.mail.Mail.TheVariants.{Message}
use Rattle.port_history.specs.Counts.{line_end, saved_of}

-- what is written of a mail where it is saved
abbrev pub mail_bytes : Mail → List ℕ
mail_bytes (Message port flag bytes) = bytes ++ line_end flag
mail_bytes mail = []

-- there is a list for each of so many ports, and what is written of it is the data of that port
pub record Holds (ports : ℕ) (mails : List Mail) (contents : List (List ℕ)) : Type 0 where
  pub len : length contents ≡ ports
  pub saved : (port : ℕ) → port < ports → get_or contents port [] ≡ saved_of port mails

-- both have as many lists, and to what is written of each list of the older there is so much added
pub record AddsEach (more : ℕ → List ℕ) (older newer : List (List ℕ)) : Type 0 where
  pub len : length newer ≡ length older
  pub added : (port : ℕ) → port < length older → get_or newer port [] ≡ get_or older port [] ++ more port
