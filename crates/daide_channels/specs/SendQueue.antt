-- The send queue of a wire, as it is stored.
use Rattle.std.specs.Prelude.{ℕ, List, [], ◌∷◌, ◌++◌, Option, Some, None}
use Rattle.daide_channels.specs.declared.send_queue.QueuedFrame.{QueuedFrame}

-- the maximum number of frames queued for a wire: an answer to each side, and one final frame
abbrev pub most_queued : ℕ
most_queued = 3

-- the queued frames, and how many bytes of the first were sent
pub record Queue : Type 0 where
  pub written : ℕ
  pub items : List QueuedFrame

abbrev pub pushed : Queue → QueuedFrame → Queue
pushed queue item = record { written = queue.written; items = queue.items ++ item ∷ [] }

abbrev pub first_of : List QueuedFrame → Option QueuedFrame
first_of [] = None
first_of (item ∷ items) = Some item

abbrev pub tail_of : List QueuedFrame → List QueuedFrame
tail_of [] = []
tail_of (item ∷ items) = items
