-- The notices of sessions without a complete record. (own)
use Rattle.std.specs.Prelude.{◌≡◌, ◌⊎◌, ⊤, ℕ, List, ◌++◌, Option, Some, codes, slice_get}
use Rattle.std.specs.Fmt.{decimal}
use Rattle.std.specs.Io.KnownBytes.{Appends}
use Rattle.std.specs.declared.io.ErrorKind.{ErrorKind}
use Rattle.daide_log.specs.declared.record.RecordEnd.{RecordEnd}
use Rattle.daide_log.specs.declared.record.RecordEnd.TheVariants.{Failed, Whole}
use Rattle.daide_log.specs.declared.record.RecordEnd.TheVariants as ends
use Rattle.daide_log.specs.Recording.{Written, no_record}
use Rattle.daide_run.specs.declared.notices.RecordNotice.{RecordNotice}
use Rattle.daide_run.specs.declared.notices.RecordNotice.TheVariants.{IsThere, Unmade, Unwritten, Full}

-- the front of the line of a notice, before its reason
abbrev pub notice_front : RecordNotice → List ℕ
notice_front (IsThere session) = codes "daide-gate: session " ++ (decimal session ++ codes " is not recorded: ")
notice_front (Unmade session kind) = codes "daide-gate: session " ++ (decimal session ++ codes " is not recorded: ")
notice_front (Unwritten session kind) = codes "daide-gate: record of session " ++ (decimal session ++ codes " broke off: ")
notice_front (Full session) = codes "daide-gate: record of session " ++ (decimal session ++ codes " broke off: ")

-- the front of the line of a notice was written to a stream, or that write failed
abbrev pub WasReported : {E : Type 0} → (E → Option (List ℕ)) → (E → E → Type 0) → RecordNotice → Type 0
WasReported {E} contents Fails notice =
    (old new : E) × (Appends (contents old) (contents new) (notice_front notice) ⊎ Fails old new)

-- ---- a session without a file

-- a notice that this session has no file
abbrev pub IsNoFileOf : ℕ → RecordNotice → Type 0
IsNoFileOf number (IsThere session) = session ≡ number
IsNoFileOf number (Unmade session kind) = session ≡ number
IsNoFileOf number (Unwritten session kind) = ⊥
IsNoFileOf number (Full session) = ⊥

-- one was reported
abbrev pub HasNoFile : (RecordNotice → Type 0) → ℕ → Type 0
HasNoFile Reported number = (notice : RecordNotice) × IsNoFileOf number notice × Reported notice

-- ---- a record that broke off

-- a notice says that the record of the session with this number has this end; there is none while it is whole
abbrev pub ReportsEnd : (RecordNotice → Type 0) → ℕ → RecordEnd → Type 0
ReportsEnd Reported number Whole = ⊤
ReportsEnd Reported number Failed = (kind : ErrorKind) × Reported (Unwritten number kind)
ReportsEnd Reported number ends.Full = Reported (Full number)

-- of the session with this number there is no record, or its end was reported, if it has one
abbrev pub EndIsReported : (RecordNotice → Type 0) → ℕ → Written → Type 0
EndIsReported Reported number written = (written ≡ no_record) ⊎ ReportsEnd Reported number written.ending

-- ends of records, by place, with the numbers of their sessions, each of which was reported
abbrev pub AreReported : (RecordNotice → Type 0) → List (Option (ℕ × RecordEnd)) → Type 0
AreReported Reported ends = (place : ℕ) (end : ℕ × RecordEnd) → slice_get ends place ≡ Some (Some end) →
    ReportsEnd Reported end.0 end.1
