-- The files with the records of the sessions of a run. (own)
use Rattle.std.specs.Prelude.{◌≡◌, ◌≢◌, ◌⊎◌, ⊤, ℕ, ◌-◌, ◌^◌, false, List, [], ◌∷◌, ◌++◌, Option, Some, None, option_map, codes}
use Rattle.std.specs.Borrow.{Bor}
use Rattle.std.specs.Fmt.{decimal, padded_integral, format_spec}
use Rattle.std.specs.Io.KnownBytes.{Keeps, append_known}
use Rattle.std.specs.Net.Text.{socket_text}
use Rattle.std.specs.declared.net.socket_addr.SocketAddr.{SocketAddr}
use Rattle.jiff_core.specs.declared.civil.datetime.DateTime.{DateTime}
use Rattle.daide_words.specs.declared.word.Word.{Word}
use Rattle.daide_words.specs.Words.{words_of}
use Rattle.daide_io.specs.System.{SystemCall, BeginsTurn, Connects, Rests, Retires}
use Rattle.daide_io.specs.declared.system.Connect.{Connect}
use Rattle.daide_io.specs.declared.system.Connect.TheVariants.{Ready}
use Rattle.daide_protocol.specs.declared.config.Config.{Config}
use Rattle.daide_log.specs.declared.moment.Moment.{Moment}
use Rattle.daide_log.specs.declared.record.RecordEnd.TheVariants.{Failed, Whole}
use Rattle.daide_log.specs.RecordItem.{Begun, line_of_item}
use Rattle.daide_log.specs.RecordText.{head_text, head_count}
use Rattle.daide_log.specs.Recording.{HasFailed, Recorded, Written, GetsText, no_record}
use Rattle.daide_log.specs.UtcText.{IsUtcOf}
use Rattle.daide_settings.specs.declared.settings.Settings.{Settings}
use Rattle.daide_sockets.specs.declared.ports.SocketPorts.{SocketPorts}
use Rattle.daide_run.specs.declared.folder.Folder.{Folder}
use Rattle.daide_run.specs.declared.notices.RecordNotice.{RecordNotice}
use Rattle.daide_run.specs.Notices.{EndIsReported, HasNoFile, ReportsEnd}

-- a number as `{:06}` prints it: in six digits with leading zeros, or in more if it needs more
abbrev pub six_digits : ℕ → List ℕ
six_digits n = padded_integral (format_spec 32 0 4 6 (2 ^ 64 - 1)) false [] (decimal n)

-- the path of a session's file in a folder
abbrev pub path_in : List ℕ → ℕ → List ℕ
path_in folder number = folder ++ (codes "/session-" ++ (six_digits number ++ codes ".log"))

-- ---- the beginning of a record

-- a record that has its head alone, for these settings, behind what its file had before
abbrev pub headed : Option (List ℕ) → Config → List Word → Written
headed before config words = record {
  text = append_known before (head_text config words);
  unwritten = head_text config words;
  lines = head_count words;
  ending = Whole;
}

-- the text of a bot's address, or none
abbrev pub IsAddressOf : Option SocketAddr → Option (List ℕ) → Type 0
IsAddressOf None text = text ≡ None
IsAddressOf (Some bot) None = ⊤
IsAddressOf (Some bot) (Some text) = text ≡ socket_text bot

-- The record gets a comment with the session's number, its bot's address and the time, or nothing if the address or the
-- time is unknown.
abbrev pub BeginsRecord : Type 0 → ℕ → Option (List ℕ) → Option Moment → Written → Written → Type 0
BeginsRecord failed number None now old new = new ≡ old
BeginsRecord failed number (Some address) None old new = new ≡ old
BeginsRecord failed number (Some address) (Some now) old new =
    (at : DateTime) × IsUtcOf now at × GetsText failed old.ending old (line_of_item (Begun number address at)) new

-- the last time in the record then
abbrev pub time_begun : Option (List ℕ) → Option Moment → Option Moment
time_begun None now = None
time_begun (Some address) now = now

-- The record of a session with this number and with a bot at this address, if it is known, and the last time in it: its
-- head, and the comment of its beginning.
abbrev pub Starts : Type 0 → Config → List Word → ℕ × Option SocketAddr → Option Moment → Written → Option Moment → Type 0
Starts failed config words session now written last = (before address : Option (List ℕ)) × IsAddressOf session.1 address
    × BeginsRecord failed session.0 address now (headed before config words) written × (last ≡ time_begun address now)

-- ---- what happened outside of a run to its records

-- A write of a file failed; a file has this text; a notice was written, or that write failed.
pub record RecordEvents : Type 1 where
  pub failed : Type 0
  pub HasText : Option (List ℕ) → Type 0
  pub Reported : RecordNotice → Type 0

-- by the files of records, and by standard error
abbrev pub record_events : {W : Type 0} → (W → Option (List ℕ)) → (W → W → Type 0) → (RecordNotice → Type 0) → RecordEvents
record_events {W} contents Fails Reported = record {
  failed = HasFailed Fails;
  HasText = λ text. (file : W) × Keeps text (contents file);
  Reported = Reported;
}

-- The file has the whole text of a record that had not failed, or a notice says that it could not be written.
abbrev pub IsWritten : RecordEvents → ℕ → Written → Type 0
IsWritten outside number written =
    written.ending ≢ Failed → outside.HasText written.text ⊎ ReportsEnd outside.Reported number Failed

-- So it is when the session with this number is retired, and the end that its record had before was reported.
abbrev pub ClosesRecord : RecordEvents → ℕ → Written → Type 0
ClosesRecord outside number written = EndIsReported outside.Reported number written × IsWritten outside number written

-- ---- the records of a run

-- what heads each record of a run, the limits and the words of its settings; none if the run has no folder
abbrev pub RecordHead : Type 0
RecordHead = Option (Config × List Word)

-- by the settings, and by the folder, if there is one
abbrev pub head_for : {F : Type 0} → Settings → Option F → RecordHead
head_for settings folder = option_map (λ f. (settings.config, words_of settings.words)) folder

abbrev pub folder_head : {R File Dir : Type 0} → Option (Bor (Folder R File Dir)) → RecordHead
folder_head folder = option_map (λ f. (f.now.config, words_of f.now.words)) folder

-- The ports with which a session begins. With a folder they have the record of the session's own number and of its bot's
-- address; or none, and a notice says so. Without a folder they have none. `failed` says that a write of a file failed.
abbrev pub HasOwnRecord : {S : Type 0} → Type 0 → (RecordNotice → Type 0) → RecordHead → Recorded (SocketPorts S) → Type 0
HasOwnRecord failed Reported None ports = ports.record_of ≡ no_record
HasOwnRecord failed Reported (Some head) ports =
    ((ports.record_of ≡ no_record) × HasNoFile Reported ports.ports.identity.number)
    ⊎ ((now : Option Moment) × Starts failed head.0 head.1
    (ports.ports.identity.number, Some ports.ports.identity.address) now ports.record_of ports.last)

module _ {S : Type 0} (outside : RecordEvents) where
  -- so do the ports that a connect returns
  abbrev pub BeginsOwnRecord : RecordHead → Connect (Recorded (SocketPorts S)) → Type 0
  BeginsOwnRecord head (Ready ports) = HasOwnRecord outside.failed outside.Reported head ports
  BeginsOwnRecord head _ = ⊤

  -- A session begins with its own record. When a turn of it begins, when it is to rest and when it is retired, the end that
  -- its record has by then was reported; when it is retired, its record is closed.
  abbrev pub CallRecords : RecordHead → SystemCall (Recorded (SocketPorts S)) → Type 0
  CallRecords head (Connects place connect) = BeginsOwnRecord head connect
  CallRecords head (BeginsTurn place account before after) =
      EndIsReported outside.Reported before.ports.identity.number before.record_of
  CallRecords head (Rests place ports rests) = EndIsReported outside.Reported ports.ports.identity.number ports.record_of
  CallRecords head (Retires place ports end) = ClosesRecord outside ports.ports.identity.number ports.record_of
  CallRecords head _ = ⊤

  -- and so it is in each call of a trace
  abbrev pub TraceRecords : RecordHead → List (SystemCall (Recorded (SocketPorts S))) → Type 0
  TraceRecords head [] = ⊤
  TraceRecords head (call ∷ trace) = CallRecords head call × TraceRecords head trace
