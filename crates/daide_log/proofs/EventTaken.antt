-- What an event does to a record with times.
use Rattle.daide_log.proofs.Common.{◌≡◌, Option, Some, None, sym, subst, inl, LogEvent, DateTime, Moment, Written}
use Rattle.daide_log.proofs.Common.{GetsText, Recorded}
use Rattle.daide_log.specs.declared.comment.Comment.TheVariants as comments
use Rattle.daide_log.specs.RecordItem.{comment_line}
use Rattle.daide_log.specs.Recording.{RecordsEvent, TakesTime, TakesCall, due_time, last_time}
use Rattle.daide_log.specs.UtcText.{IsUtcOf}

-- an event without a line
pub silent_taken : {P : Type 0} → (failed : Type 0) (old new : Recorded P) (event : Option LogEvent) → event ≡ None →
    new.record_of ≡ old.record_of → new.last ≡ old.last → TakesCall failed old event new
silent_taken failed old new event none same last =
    subst (λ (e : Option LogEvent). TakesCall failed old e new) (sym none) (inl same, last)

-- an event with a line, after the time that was due
pub lined_taken : {P : Type 0} → (failed : Type 0) (old new : Recorded P) (mid : Written) (event : Option LogEvent) →
    (line : LogEvent) × (event ≡ Some line) → TakesTime failed (due_time old.present old.last) old.record_of mid →
    RecordsEvent failed mid event new.record_of → new.last ≡ last_time (due_time old.present old.last) old.last →
    TakesCall failed old event new
lined_taken failed old new mid event lined time taken last =
    subst (λ (e : Option LogEvent). TakesCall failed old e new) (sym lined.1) (
      mid,
      time,
      subst (λ (e : Option LogEvent). RecordsEvent failed mid e new.record_of) lined.1 taken,
      last,
    )

-- the comment of a time that was due
pub time_taken : (failed : Type 0) (due : Moment) (time : Option Moment) (at : DateTime) (old new : Written) →
    Some due ≡ time → IsUtcOf due at → GetsText failed old.ending old (comment_line (comments.Timed at)) new →
    TakesTime failed time old new
unfolding comment_line
time_taken failed due time at old new is utc gets =
    subst (λ (t : Option Moment). TakesTime failed t old new) is (at, utc, gets)
