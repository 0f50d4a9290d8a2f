-- What happens to the engine: requests, received bytes and moments.
use Rattle.std.specs.Prelude.{ℕ, List}
use Rattle.tcap_model.specs.Words.Address.{Address}
use Rattle.tcap_model.specs.Words.Request.{Request}

-- A new dialogue is asked for; a request is made on a dialogue; bytes are received from an address; the
-- present moment is handed in, in milliseconds (own).
pub data Event : Type 0 where
  new_dialogue : Event
  on_dialogue : (dialogue : ℕ) (request : Request) → Event
  received : (from : Address) (bytes : List ℕ) → Event
  moment : (now : ℕ) → Event
