-- Lines of a log, computed from the definitions, so that a wrong definition fails to check.
use Rattle.std.proofs.Common.{◌≡◌, ℕ, zero, suc, true, false, [], ◌∷◌, ◌++◌, List, length, map, replicate, Option, Some, None}
use Rattle.std.proofs.Common.{refl, arith, codes}
use Rattle.std.specs.List.{range_with_len}
use Rattle.hex.specs.Hex.{decode_pairs}
use Rattle.daide_frame.specs.declared.side.Side.TheVariants.{Bot, Server}
use Rattle.daide_grammar.specs.declared.level.Level.TheVariants.{L20}
use Rattle.daide_words.specs.declared.slot.Slot.TheVariants.{Press}
use Rattle.daide_words.specs.declared.operand.Operand.TheVariants.{Power}
use Rattle.daide_words.specs.declared.word.Word.{Word}
use Rattle.daide_log_lines.specs.LogLine.{LogEvent, Received, EndOf, ImTimerLine, StopLine, Silence, without_cr, is_name, plain_number}
use Rattle.daide_log_lines.specs.LogLine.{parted_at_space, event_of_line, IsUnbroken, MayBeginLine}
use Rattle.daide_log_lines.specs.MatchLine.{Of, Quiet, match_event_of_line}
use Rattle.daide_log_lines.specs.WordLine.{word_of_line}

-- ---- names and numbers

names : (is_name (codes "daide-log 1") ≡ true) × (is_name (codes "daide-log 2") ≡ false)
    × (is_name (codes "daide-log 1 ") ≡ false) × (is_name [] ≡ false)
names = (refl, refl, refl, refl)

numbers : (plain_number (codes "0") ≡ Some 0) × (plain_number (codes "65535") ≡ Some 65535)
    × (plain_number (codes "65536") ≡ None) × (plain_number (codes "060") ≡ None) × (plain_number [] ≡ None)
    × (plain_number (codes "+1") ≡ None)
unfolding plain_number
numbers = (refl, refl, refl, refl, refl, refl)

-- ---- further lines

traffic : (event_of_line (codes "server 01000000") ≡ Some (Received Server (1 ∷ 0 ∷ 0 ∷ 0 ∷ [])))
    × (event_of_line (codes "bot 0aFf") ≡ Some (Received Bot (10 ∷ 255 ∷ [])))
    × (event_of_line (codes "bot 02000") ≡ None) × (event_of_line (codes "bot ") ≡ None)
    × (event_of_line (codes "bot 0g") ≡ None) × (event_of_line (codes "bot 00 ") ≡ None)
unfolding event_of_line decode_pairs
traffic = (refl, refl, refl, refl, refl, refl)

-- from 2 digits to 2,048, two for each byte
abbrev zeros : ℕ → Option LogEvent
zeros n = Some (Received Bot (replicate n 0))

digits_of_lines : (map (λ n. event_of_line (codes "bot " ++ replicate n 48)) (range_with_len 0 9)
    ≡ None ∷ None ∷ zeros 1 ∷ None ∷ zeros 2 ∷ None ∷ zeros 3 ∷ None ∷ zeros 4 ∷ [])
    × (map (λ n. event_of_line (codes "bot " ++ replicate n 48)) (range_with_len 2044 9)
    ≡ zeros 1022 ∷ None ∷ zeros 1023 ∷ None ∷ zeros 1024 ∷ None ∷ None ∷ None ∷ None ∷ [])
unfolding event_of_line decode_pairs
digits_of_lines = (refl, refl)

-- a line that begins with `#` has no event, whatever follows, nor has an empty one; no other byte begins such a line
first_bytes : map (λ b. event_of_line (b ∷ [])) (range_with_len 0 256)
    ≡ replicate 35 None ++ Some Silence ∷ replicate 220 None
unfolding event_of_line
first_bytes = refl

other_lines : (event_of_line (codes "end bot") ≡ Some (EndOf Bot))
    × (event_of_line (codes "end server") ≡ Some (EndOf Server))
    × (event_of_line (codes "timer") ≡ Some ImTimerLine) × (event_of_line [] ≡ Some Silence)
    × (event_of_line (codes "# bot 0") ≡ Some Silence) × (event_of_line (codes "timer ") ≡ None)
    × (event_of_line (codes "end") ≡ None) × (event_of_line (codes " ") ≡ None)
    × (event_of_line (codes "stop") ≡ Some StopLine) × (event_of_line (codes "stop ") ≡ None)
    × (event_of_line (codes "stop bot") ≡ None) × (event_of_line (codes "Stop") ≡ None)
unfolding event_of_line
other_lines = (refl, refl, refl, refl, refl, refl, refl, refl, refl, refl, refl, refl)

-- one carriage return is removed, at the end only
carriage_returns : (without_cr (codes "timer" ++ 13 ∷ []) ≡ codes "timer") × (without_cr (13 ∷ []) ≡ [])
    × (without_cr (13 ∷ 13 ∷ []) ≡ 13 ∷ []) × (without_cr (13 ∷ 65 ∷ []) ≡ 13 ∷ 65 ∷ [])
carriage_returns = (refl, refl, refl, refl)

-- ---- the beginning of a line

-- after one line fewer than the limit, and not after the limit
last_lines : MayBeginLine 999999 (35 ∷ []) × MayBeginLine 1000000 [] × (MayBeginLine 1000000 (35 ∷ []) → ⊥)
last_lines = (
  ((λ e. absurd (omega (arith, e)), tt), omega arith, λ some. omega arith),
  (tt, omega arith, λ some. absurd (omega (arith, some))),
  λ h. absurd (omega (arith, h.2 (omega arith))),
)

-- without a line feed
line_feeds : MayBeginLine 0 (10 ∷ []) → ⊥
line_feeds h = h.0.0 refl

unbroken_replicate : (n : ℕ) → IsUnbroken (replicate n 35)
unbroken_replicate zero = tt
unbroken_replicate (suc n) = (λ e. absurd (omega (arith, e)), unbroken_replicate n)

-- with 2,100 bytes, and no more
longest_lines : MayBeginLine 0 (replicate 2100 35) × (MayBeginLine 0 (replicate 2101 35) → ⊥)
longest_lines =
    let line : List ℕ = replicate 2100 35 in
    let more : List ℕ = replicate 2101 35 in
    let longest : length line ≡ 2100 = refl in
    let longer : length more ≡ 2101 = refl in (
      (unbroken_replicate 2100, omega (arith, longest), λ some. omega arith),
      λ h. absurd (omega (arith, longer, h.1)),
    )

-- ---- words

unfoldable pub xyz : Word
xyz = record { name = codes "XYZ"; code = 0x4A40; slot = Press; level = L20; operand = Power }

unfoldable pub gof : Word
gof = record { name = codes "GOF"; code = 0x4A40; slot = Press; level = L20; operand = Power }

words : (word_of_line (codes "word XYZ 4A40 press 20 power") ≡ Some xyz)
    × (word_of_line (codes "word XYZ 4a40 press 20 power") ≡ Some xyz)
    × (word_of_line (codes "word GOF 4A40 press 20 power") ≡ Some gof)
    × (word_of_line (codes "word XYZ 4A4 press 20 power") ≡ None)
    × (word_of_line (codes "word XYZ 4A40 pres 20 power") ≡ None)
    × (word_of_line (codes "word XYZ 4A40 press 020 power") ≡ None)
    × (word_of_line (codes "word XYZ 4A40 press 25 power") ≡ None)
    × (word_of_line (codes "word XYZ 4A40 press 20 power ") ≡ None)
    × (word_of_line (codes "word XY 4A40 press 20 power") ≡ None)
unfolding word_of_line parted_at_space plain_number decode_pairs xyz gof
words = (refl, refl, refl, refl, refl, refl, refl, refl, refl)

-- ---- the events of a match

match_events : (match_event_of_line 2 (codes "2 timer") ≡ Some (Of 2 ImTimerLine))
    × (match_event_of_line 2 (codes "1 end bot") ≡ Some (Of 1 (EndOf Bot)))
    × (match_event_of_line 2 (codes "2 stop") ≡ Some (Of 2 StopLine)) × (match_event_of_line 2 (codes "stop") ≡ None)
    × (match_event_of_line 2 (codes "1 server 0100") ≡ Some (Of 1 (Received Server (1 ∷ 0 ∷ []))))
    × (match_event_of_line 2 [] ≡ Some Quiet) × (match_event_of_line 2 (codes "# 3 timer") ≡ Some Quiet)
    × (match_event_of_line 2 (codes "3 timer") ≡ None) × (match_event_of_line 2 (codes "0 timer") ≡ None)
    × (match_event_of_line 2 (codes "01 timer") ≡ None) × (match_event_of_line 2 (codes "1 ") ≡ None)
    × (match_event_of_line 2 (codes "1 #") ≡ None) × (match_event_of_line 2 (codes "1") ≡ None)
    × (match_event_of_line 2 (codes "timer") ≡ None) × (match_event_of_line 2 (codes "1  timer") ≡ None)
unfolding match_event_of_line parted_at_space plain_number event_of_line decode_pairs
match_events = (refl, refl, refl, refl, refl, refl, refl, refl, refl, refl, refl, refl, refl, refl, refl)
