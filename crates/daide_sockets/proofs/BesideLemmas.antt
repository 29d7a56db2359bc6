-- What a poll watches beside the places, one after another, and its time against each.
use Rattle.std.proofs.Common.{◌≡◌, ℕ, suc, ◌+◌, ◌<◌, Bool, List, [], ◌∷◌, length, drop, get_or, Option, sym, ap, ◌∙◌, arith}
use Rattle.std.specs.Prelude.{All}
use Rattle.std.proofs.Math.Seq.{drop-cons}
use Rattle.std.proofs.lemmas.List.Elements.{All-nil, All-cons, All-head, All-tail}
use Rattle.std.specs.declared.time.Duration.{Duration}
use Rattle.std.specs.declared.time.Instant.{Instant}
use Rattle.daide_sockets.specs.PollTimes.{may_close_on, closing_due, closings_armed, others_armed, WaitsAreInTimeBeside}
use Rattle.daide_sockets.specs.Clock.{IsInTimeFor}
use Rattle.daide_sockets.specs.Table.{arming_all}
use Rattle.daide_sockets.specs.Lingering.{ClosingStream}
use Rattle.daide_sockets.specs.Table.{Table, arming}
use Rattle.daide_sockets.specs.declared.table.Row.{Row}
use Rattle.daide_sockets.proofs.InTimeLemmas.{each_in_time}

abbrev in_time : Table → Option Duration → Bool × Option Instant → Type 0
in_time table time one = IsInTimeFor table.reading time one.0 one.1

module _ {S : Type 0} where
  -- what may be done at once goes by the rows of a table alone
  close_by_rows : (one other : Table) (closing : ClosingStream S) → other.rows ≡ one.rows →
      may_close_on other closing ≡ may_close_on one closing
  close_by_rows one other closing e = ap (λ (rows : List Row). may_close_on (record other { rows = rows }) closing) e

  pub next_closing : (base table : Table) (closings : List (ClosingStream S)) (i : ℕ) (closing : ClosingStream S) →
      i < length closings → closing ≡ get_or closings i closing → table.rows ≡ base.rows →
      arming_all table (closings_armed base (drop i closings))
      ≡ arming_all (arming table (may_close_on table closing) (closing_due closing))
      (closings_armed base (drop (i + 1) closings))
  next_closing base table closings i closing lt is rows =
      let next : suc i ≡ i + 1 = omega arith in
      let others = closings_armed base (drop (i + 1) closings) in
      ap (λ (l : List (ClosingStream S)). arming_all table (closings_armed base l))
      (drop-cons closings i closing lt ∙ ap (λ (n : ℕ). get_or closings i closing ∷ drop n closings) next)
      ∙ ap (λ (c : ClosingStream S). arming_all (arming table (may_close_on base c) (closing_due c)) others) (sym is)
      ∙ ap (λ (b : Bool). arming_all (arming table b (closing_due closing)) others)
      (sym (close_by_rows base table closing rows))

  -- the closing streams are watched alike by tables with the same rows
  pub closings_by_rows : (one other : Table) (closings : List (ClosingStream S)) → other.rows ≡ one.rows →
      closings_armed other closings ≡ closings_armed one closings
  closings_by_rows one other closings e =
      ap (λ (rows : List Row). closings_armed (record other { rows = rows }) closings) e

  -- the listener is watched, and then the closing streams
  pub beside_armed : (base first : Table) (listener : Bool × Option Instant) (closings : List (ClosingStream S)) →
      first ≡ arming base listener.0 listener.1 →
      arming_all first (closings_armed first closings) ≡ arming_all base (others_armed base listener closings)
  beside_armed base first listener closings e =
      ap (λ (w : List (Bool × Option Instant)). arming_all first w)
      (closings_by_rows base first closings (ap (λ (t : Table). t.rows) e))
      ∙ ap (λ (t : Table). arming_all t (closings_armed base closings)) e

  -- ---- the law

  each_closing : (table : Table) (time : Option Duration) (closings : List (ClosingStream S)) →
      All (in_time table time) (closings_armed table closings) →
      All (λ (c : ClosingStream S). IsInTimeFor table.reading time (may_close_on table c) (closing_due c)) closings
  each_closing table time [] h =
      All-nil (λ (c : ClosingStream S). IsInTimeFor table.reading time (may_close_on table c) (closing_due c))
  each_closing table time (closing ∷ others) h =
      All-cons (λ (c : ClosingStream S). IsInTimeFor table.reading time (may_close_on table c) (closing_due c)) closing
      others (All-head (in_time table time) (may_close_on table closing, closing_due closing) (closings_armed table others) h)
      (each_closing table time others
      (All-tail (in_time table time) (may_close_on table closing, closing_due closing) (closings_armed table others) h))

  pub beside_in_time : WaitsAreInTimeBeside S
  beside_in_time table time listener closings lasts =
      let streams = closings_armed table closings in
      let all = each_in_time table (listener ∷ streams) time lasts in
      record {
        accepts = All-head (in_time table time) listener streams all;
        closes = each_closing table time closings (All-tail (in_time table time) listener streams all);
      }
