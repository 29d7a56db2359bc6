use Rattle.daide_show.proofs.Common.{◌≡◌, ◌≤◌, length, slice_split, is_blank, odd_group_of}
use Rattle.daide_show.proofs.OddGroups.{odd_from}
use Rattle.daide_show.proofs.groups.odd_group.Given as goal

-- the first odd group of the rest is that of the input
abbrev pub invariant-loop-group : goal.invariant-loop-group
invariant-loop-group l =
    (goal.iterator-loop-group).can_next l.group-iterator × (goal.iterator-loop-group).is_finite l.group-iterator
    × (l.place ≤ length l.yielded)
    × (odd_from l.place (length l.yielded) (slice_split is_blank l.input) ≡ odd_group_of l.input)
