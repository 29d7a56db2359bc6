use Rattle.daide_settings.proofs.Common.{◌≡◌, ◌+◌, ◌≤◌, [], length, items_view, words_of, unfit_part}
use Rattle.daide_settings.proofs.settings.parts.unfit_part.Given as goal

-- the part among the entries left, after the words so far, is that among all
abbrev pub invariant-loop-rest : goal.invariant-loop-rest
invariant-loop-rest l = record {
  same : unfit_part l.place (words_of l.words) (items_view l.rest) ≡ unfit_part 0 [] (items_view l.entries);
  few : l.place + length l.rest ≤ length l.entries;
}

abbrev pub decreases-loop-rest : goal.decreases-loop-rest
decreases-loop-rest l = length l.rest
