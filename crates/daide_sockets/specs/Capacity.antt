-- Whether a run can accept a further bot, and when this is logged. (own)
use Rattle.std.specs.Prelude.{ℕ, ◌==◌, nat_le, Bool, true, false, Option, Some, None, if◌then◌else◌}
use Rattle.daide_sockets.specs.declared.capacity.Capacity.{Capacity}
use Rattle.daide_sockets.specs.declared.capacity.CapacityNotice.{CapacityNotice}
use Rattle.daide_sockets.specs.declared.capacity.CapacityNotice.TheVariants.{Full, NoLongerFull, Paused, Resumed}

-- The number of bots that had been accepted when a pause was logged, from the number logged before. It stays until a
-- further bot is accepted.
abbrev pub paused_after : Option ℕ → Bool → ℕ → Option ℕ
paused_after None false came = None
paused_after None true came = Some came
paused_after (Some number) paused came = if number == came then Some number else None

-- What is logged last once this number of bots is present, of `most` at once, accepts pause or not, and this number was
-- accepted.
abbrev pub capacity_after : Capacity → ℕ → ℕ → Bool → ℕ → Capacity
capacity_after before present most paused came = record {
  is_full = nat_le most present;
  paused_at = paused_after before.paused_at paused came;
}

-- A run that becomes full has a line, and one that is no longer full. `most` is the most sessions at once.
abbrev pub full_notice : ℕ → Bool → Bool → Option CapacityNotice
full_notice most false true = Some (Full most)
full_notice most true false = Some NoLongerFull
full_notice most false false = None
full_notice most true true = None

-- A pause of accepts has a line, and the first bot that is accepted after it.
abbrev pub pause_notice : Option ℕ → Option ℕ → Option CapacityNotice
pause_notice None (Some number) = Some Paused
pause_notice (Some number) None = Some Resumed
pause_notice None None = None
pause_notice (Some number) (Some other) = None
