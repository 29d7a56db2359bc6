-- The lines about a run's capacity, at waits of a run with two sessions at once, worked out from docs/FORMATS.md.
use Rattle.std.proofs.Common.{◌≡◌, true, false, Some, None, refl}
use Rattle.daide_sockets.specs.declared.capacity.CapacityNotice.TheVariants.{Full, NoLongerFull, Paused, Resumed}
use Rattle.daide_sockets.specs.Capacity.{capacity_after, full_notice, pause_notice, paused_after}

two_are_full : (capacity_after (record { is_full = false; paused_at = None }) 2 2 false 2)
    ≡ record { is_full = true; paused_at = None }
two_are_full = refl

one_is_not_full : (capacity_after (record { is_full = true; paused_at = None }) 1 2 false 2)
    ≡ record { is_full = false; paused_at = None }
one_is_not_full = refl

becomes_full : full_notice 2 false true ≡ Some (Full 2)
becomes_full = refl

stays_full : full_notice 2 true true ≡ None
stays_full = refl

has_a_place : full_notice 2 true false ≡ Some NoLongerFull
has_a_place = refl

-- A pause that began after three bots is logged once, whether a later pause is seen or none, until a fourth bot comes.
pause_begins : paused_after None true 3 ≡ Some 3
pause_begins = refl

pause_goes_on : paused_after (Some 3) true 3 ≡ Some 3
pause_goes_on = refl

pause_is_tried : paused_after (Some 3) false 3 ≡ Some 3
pause_is_tried = refl

pause_ends : paused_after (Some 3) false 4 ≡ None
pause_ends = refl

pause_is_told : pause_notice None (Some 3) ≡ Some Paused
pause_is_told = refl

pause_is_told_once : pause_notice (Some 3) (Some 3) ≡ None
pause_is_told_once = refl

end_of_the_pause_is_told : pause_notice (Some 3) None ≡ Some Resumed
end_of_the_pause_is_told = refl
