-- The counts of a session's effects, by what was done with the frame. What is counted, and that it is counted modulo
-- 2^64, is (own); `Counts` relates the counts to the frames that are sent.
use Rattle.std.specs.Prelude.{ℕ, ◌+◌, ◌%◌, ◌^◌, ◌<◌, ◌≤◌, ◌==◌, ◌&&◌, Bool, List, [], ◌∷◌, ◌++◌, codes}
use Rattle.std.specs.Fmt.{decimal}
use Rattle.daide_protocol.specs.declared.note.Deed.TheVariants as Deeds
use Rattle.daide_protocol.specs.declared.note.Note.{Note}
use Rattle.daide_protocol.specs.declared.note.Note.TheVariants as Notes
use Rattle.daide_protocol.specs.declared.summary.Summary.{Summary}
use Rattle.daide_protocol.specs.Machine.{Effect}

abbrev pub nothing_counted : Summary
nothing_counted = record { relayed = 0; prn = 0; huh = 0; faults = 0 }

-- the counts after one more effect, with `more` as the increment; dropped frames and ends are not counted
abbrev pub counted_by : (ℕ → ℕ) → Note → Summary → Summary
counted_by more Notes.Nothing s = s
counted_by more (Notes.Frame head Deeds.Relayed) s =
    record { relayed = more s.relayed; prn = s.prn; huh = s.huh; faults = s.faults }
counted_by more (Notes.Frame head Deeds.Dropped) s = s
counted_by more (Notes.Frame head Deeds.Prn) s =
    record { relayed = s.relayed; prn = more s.prn; huh = s.huh; faults = s.faults }
counted_by more (Notes.Frame head (Deeds.Huh place)) s =
    record { relayed = s.relayed; prn = s.prn; huh = more s.huh; faults = s.faults }
counted_by more (Notes.Fault code) s =
    record { relayed = s.relayed; prn = s.prn; huh = s.huh; faults = more s.faults }
counted_by more Notes.Stopped s = s

-- in unbounded numbers
abbrev pub count_note : Note → Summary → Summary
count_note reported s = counted_by (λ (n : ℕ). n + 1) reported s

-- as a session counts, modulo 2^64
abbrev pub one_more : ℕ → ℕ
one_more n = (n + 1) % 2 ^ 64

abbrev pub counted_on : Note → Summary → Summary
counted_on reported s = counted_by one_more reported s

-- a session's counts after these effects
abbrev pub tallied : List Effect → Summary → Summary
tallied [] s = s
tallied (effect ∷ effects) s = tallied effects (counted_on effect.reported s)

-- each count modulo 2^64
abbrev pub reduced : Summary → Summary
reduced s = record {
  relayed = s.relayed % 2 ^ 64;
  prn = s.prn % 2 ^ 64;
  huh = s.huh % 2 ^ 64;
  faults = s.faults % 2 ^ 64;
}

-- each count can grow by n
pub record HasRoom (n : ℕ) (s : Summary) : Type 0 where
  pub relayed : s.relayed + n < 2 ^ 64
  pub prn : s.prn + n < 2 ^ 64
  pub huh : s.huh + n < 2 ^ 64
  pub faults : s.faults + n < 2 ^ 64

-- each count grew by at most n
pub record IsMoreBy (n : ℕ) (old new : Summary) : Type 0 where
  pub relayed : new.relayed ≤ old.relayed + n
  pub prn : new.prn ≤ old.prn + n
  pub huh : new.huh ≤ old.huh + n
  pub faults : new.faults ≤ old.faults + n

-- no PRN, no HUH and no fault
abbrev pub is_clean : Summary → Bool
is_clean s = s.prn == 0 && s.huh == 0 && s.faults == 0

-- the counts as text: each count after its name
abbrev pub summary_text : Summary → List ℕ
summary_text s =
    codes "relayed " ++ decimal s.relayed ++ codes " prn " ++ decimal s.prn ++ codes " huh " ++ decimal s.huh
    ++ codes " faults " ++ decimal s.faults
