use Rattle.daide_settings.proofs.Common.{◌≡◌, drop, items_view, words_of, accepted_words, words_of_entries}
use Rattle.daide_settings.proofs.WordEntries.{further}
use Rattle.daide_settings.proofs.settings.words.accepted_words.Given as goal

-- the result of the entries left, after the words so far, is the result of all entries
abbrev pub invariant-loop-entry : goal.invariant-loop-entry
invariant-loop-entry l =
    accepted_words (words_of_entries (items_view l.entries))
    ≡ further (words_of l.words) (items_view (drop l.entry-index l.entries))
