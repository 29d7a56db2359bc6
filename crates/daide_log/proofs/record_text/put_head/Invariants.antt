use Rattle.daide_log.proofs.Common.{◌≡◌, ◌+◌, ◌*◌, ◌≤◌, [], ◌∷◌, ◌++◌, codes, length, take, words_of}
use Rattle.daide_log.specs.RecordText.{config_text, lines_of_words}
use Rattle.daide_log.proofs.record_text.put_head.Given as goal

abbrev pub invariant-loop-place : goal.invariant-loop-place
invariant-loop-place l =
    (l.line.items ≡ codes "daide-log 2\n" ++ (config_text l.config l.count ++ 10 ∷ [])
    ++ lines_of_words (take l.place (words_of l.words)))
    × (length l.line.items ≤ 105 + 64 * l.place)
