-- The text of a moment in UTC, to the millisecond, in the form of RFC 3339: 2026-11-26T04:01:02.345Z. (own)
use Rattle.std.specs.Prelude.{◌≡◌, ℕ, ◌+◌, ◌/◌, ◌%◌, ◌||◌, Bool, nat_le, List, [], ◌∷◌, ◌++◌, pos, ◌*ℤ◌, unsigned_abs}
use Rattle.jiff_core.specs.declared.civil.date.Date.{Date}
use Rattle.jiff_core.specs.declared.civil.datetime.DateTime.{DateTime}
use Rattle.jiff_core.specs.declared.civil.time.Time.{Time}
use Rattle.jiff_core.specs.DateTime.{civil_nanos}
use Rattle.daide_log.specs.declared.moment.Moment.{Moment}

-- ---- a moment

-- this date and time of day is the moment's in UTC: as many milliseconds after 1970-01-01T00:00:00
abbrev pub IsUtcOf : Moment → DateTime → Type 0
IsUtcOf moment at = civil_nanos at ≡ pos moment.millisecond *ℤ pos 1000000

-- the least number of milliseconds between two times in a record
abbrev pub time_step : ℕ
time_step = 10

-- at least that long lies between two moments, whichever is first
abbrev pub are_apart : Moment → Moment → Bool
are_apart one other =
    nat_le (one.millisecond + time_step) other.millisecond || nat_le (other.millisecond + time_step) one.millisecond

-- ---- its text

-- two, three and four decimal digits
abbrev pub two_digits : ℕ → List ℕ
two_digits n = (48 + n / 10) ∷ (48 + n % 10) ∷ []

abbrev pub three_digits : ℕ → List ℕ
three_digits n = (48 + n / 100) ∷ two_digits (n % 100)

abbrev pub four_digits : ℕ → List ℕ
four_digits n = two_digits (n / 100) ++ two_digits (n % 100)

-- year-month-day
abbrev pub date_text : Date → List ℕ
date_text date = four_digits (unsigned_abs date.year) ++ 45 ∷ two_digits date.month ++ 45 ∷ two_digits date.day

-- hour:minute:second.milliseconds
abbrev pub clock_text : Time → List ℕ
clock_text time =
    two_digits time.hour ++ 58 ∷ two_digits time.minute ++ 58 ∷ two_digits time.second
    ++ 46 ∷ three_digits (time.subsec_nanosecond / 1000000)

-- the date, T, the time of day, and Z for UTC
unfoldable pub utc_text : DateTime → List ℕ
utc_text at = date_text at.date ++ 84 ∷ clock_text at.time ++ 90 ∷ []
