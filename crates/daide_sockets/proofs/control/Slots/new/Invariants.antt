use Rattle.std.proofs.Common.{◌≡◌, ◌≤◌, length, true, vec_capacity}
use Rattle.daide_sockets.specs.ControlSlots.{are_places_free}
use Rattle.daide_sockets.proofs.control.Slots.new.Given as goal

-- the places so far are free, and there is room for the others
abbrev pub invariant-loop-place : goal.invariant-loop-place
invariant-loop-place g l = record {
  free : are_places_free l.places.items ≡ true;
  count : length l.places.items ≡ l._place;
  room : 8 ≤ vec_capacity l.places;
}
