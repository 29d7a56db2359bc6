-- The texts of comments, computed from the definitions.
use Rattle.std.proofs.Common.{pos}
use Rattle.daide_log.proofs.Common.{◌≡◌, ◌++◌, ◌∷◌, [], codes, refl, digits, DateTime}
use Rattle.daide_log.specs.UtcText.{utc_text}
use Rattle.daide_log.specs.RecordItem.{Begun, Timed, line_of_item, begun_text, time_text, address_text}

-- each part has all its digits
record IsMorning (at : DateTime) : Type 0 where
  year : at.date.year ≡ pos 2026
  month : at.date.month ≡ 11
  day : at.date.day ≡ 6
  hour : at.time.hour ≡ 4
  minute : at.time.minute ≡ 1
  second : at.time.second ≡ 2
  fraction : at.time.subsec_nanosecond ≡ 45999999

morning_text : (at : DateTime) → IsMorning at → utc_text at ≡ codes "2026-11-06T04:01:02.045Z"
unfolding utc_text
morning_text at h = rw (h.year, h.month, h.day, h.hour, h.minute, h.second, h.fraction) refl

morning_lines : (at : DateTime) → IsMorning at →
    (line_of_item (Timed at) ≡ codes "# 2026-11-06T04:01:02.045Z" ++ 10 ∷ [])
    × (line_of_item (Begun 3 (codes "127.0.0.1:50000") at)
    ≡ codes "# session 3, bot at 127.0.0.1:50000, 2026-11-06T04:01:02.045Z" ++ 10 ∷ [])
unfolding time_text begun_text digits
morning_lines at h = rw (morning_text at h) (refl, refl)

-- a line feed in an address, and other bytes that are not printable
addresses_printed : address_text (codes "a b~" ++ 10 ∷ 31 ∷ 127 ∷ 255 ∷ []) ≡ codes "a b~????"
addresses_printed = refl
