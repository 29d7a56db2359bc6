-- What a cutter holds of a frame.
use Rattle.std.specs.Prelude.{ℕ, ◌≡◌, ◌+◌, ◌*◌, ◌<◌, ◌≤◌, ◌⊎◌, Bool, false, List, [], ◌++◌, length, take, slice_index}
use Rattle.std.specs.Prelude.{drop, Option, None, Some, is_some, MatchOption}
use Rattle.daide_frame.specs.declared.head.Head.{Head}
use Rattle.daide_frame.specs.declared.cutter.Step.{Step}
use Rattle.daide_frame.specs.Frames.{is_alien, alien_in, head_in, missing, fed, fed_items, step_of_events}
use Rattle.daide_frame.specs.Frames.{items_of_step, IsFault, IsEnd, HoldsFrame}

-- whether a body has an alien token
abbrev pub has_alien : Option Head → List ℕ → Bool
has_alien None body = false
has_alien (Some head) body = is_some (alien_in head body)

-- The fields agree: the header's bytes so far, what they were read as, whether the body had a fault, and the body's
-- bytes so far. The capacity is enough for the longest body.
pub record IsConsistent (cap have : ℕ) (header : List ℕ) (head : Option Head) (is_faulty : Bool) (body : List ℕ)
    (capacity : ℕ) : Type 0 where
  pub four : length header ≡ 4
  pub in_header : have ≤ 4
  pub no_body : have < 4 → body ≡ []
  pub read : head ≡ head_in cap (take have header ++ body)
  pub in_body : MatchOption head (body ≡ []) (λ h. length body ≤ h.len)
  pub faulty : is_faulty ≡ has_alien head body
  pub reserved : cap ≤ capacity

-- the postconditions of a cutter's `feed`, for a step that takes a piece
pub record IsFed (cap : ℕ) (old piece : List ℕ) (step : Step) (new : List ℕ) : Type 0 where
  pub bytes : new ≡ fed cap old piece
  pub answer : step ≡ step_of_events (fed_items cap old piece)
  pub items : fed_items cap old piece ≡ items_of_step step (drop 4 new)
  pub whole : IsFault step ⊎ (new ≡ old ++ piece)
  pub frame_bytes : HoldsFrame step (head_in cap new) (drop 4 new)
  pub closed : IsEnd step → missing cap new ≡ 0

-- none of n tokens of a body, from an index on, is alien
abbrev pub AreKnown : List ℕ → ℕ → ℕ → Type 0
AreKnown body first n =
    (k : ℕ) → k < n →
    is_alien (slice_index body (2 * (first + k))) (slice_index body (2 * (first + k) + 1)) ≡ false
