-- The effect of a run, from its network and its settings on. (own)
use Rattle.std.specs.Prelude.{◌≡◌, ◌≢◌, ◌⊎◌, ℕ, false, List, Option, Some, Result, Ok, Err}
use Rattle.std.specs.declared.time.Duration.{Duration}
use Rattle.toml.specs.Parse.{parse_document}
use Rattle.daide_io.specs.Network.{NetworkCall}
use Rattle.daide_io.specs.Ports.{PortCall}
use Rattle.daide_io.specs.Streams.{StreamCall}
use Rattle.daide_io.specs.System.{SystemCall, TransitsBy}
use Rattle.daide_settings.specs.declared.settings.Settings.{Settings}
use Rattle.daide_settings.specs.declared.settings.SettingsError.{SettingsError}
use Rattle.daide_settings.specs.declared.settings.SettingsError.TheVariants as settings_faults
use Rattle.daide_settings.specs.Given.{given_of}
use Rattle.daide_settings.specs.Settings.{judged_settings}
use Rattle.daide_event_loop.specs.declared.serving.ServeFault.{ServeFault}
use Rattle.daide_event_loop.specs.Served.{IsWholeRun}
use Rattle.daide_event_loop.specs.Serving.{GivesUp}
use Rattle.daide_log.specs.Recording.{Recorded}
use Rattle.daide_sockets.specs.declared.ports.SocketPorts.{SocketPorts}
use Rattle.daide_sockets.specs.Finishing.{FinishesAll}
use Rattle.daide_sockets.specs.Lingering.{ClosingList, no_closing}
use Rattle.daide_sockets.specs.Pairing.{RunSockets, pending_connects}
use Rattle.daide_sockets.specs.Scheduling.{BeginsListening, HoldsRows, RunEvolves, RunState, sockets_in}
use Rattle.daide_sockets.specs.Clock.{IsIdleTime}
use Rattle.daide_run.specs.Folder.{RecordEvents, RecordHead, TraceRecords, head_for}
use Rattle.daide_run.specs.Gateway.{Announces, IsBeforeServing}
use Rattle.daide_run.specs.declared.gateway.GatewayFault.TheVariants as gateway_faults
use Rattle.daide_run.specs.declared.running.RunFault.{RunFault}
use Rattle.daide_run.specs.declared.running.RunFault.TheVariants.{Memory, Record, Gateway}
use Rattle.daide_run.specs.declared.running.RunFault.TheVariants as run_faults

-- sockets to which no bot came, of which no connect is pending and none closes; a peer of one that closes has so many seconds
-- to take bytes
abbrev pub HasNoSockets : {S : Type 0} → ℕ → RunSockets S → Type 0
HasNoSockets stall_seconds sockets = (time : Option Duration) × IsIdleTime stall_seconds time
    × (sockets.came ≡ 0) × (pending_connects sockets.arrivals ≡ 0) × (sockets.closing ≡ no_closing time)

-- A run with these settings begins on a network: from this value of it on its listeners are followed. No bot came yet, no
-- connect is pending, no socket closes, and no operator requested a stop. Each peer has the timeouts of the settings.
pub record BeginsRun {N S : Type 0} (transition : N → NetworkCall S → N → Type 0) (settings : Settings) (network : N)
    (begun : RunState N S) : Type 0 where
  pub listens : BeginsListening transition begun.table network begun.network
  pub none : HasNoSockets settings.stall_seconds (sockets_in begun)
  pub idle_time : IsIdleTime settings.idle_seconds begun.times.0
  pub stall_time : IsIdleTime settings.stall_seconds begun.times.1
  pub rows : HoldsRows begun
  pub no_orders : (begun.control.stops_accepting ≡ false) × (begun.control.stops_now ≡ false)

-- the result of a run from the result of its loop
abbrev pub ending_by : Result (Unit {0}) ServeFault → Result (Unit {0}) RunFault
ending_by (Ok done) = Ok done
ending_by (Err fault) = Err (Gateway (gateway_faults.Serve fault))

-- The runs of these settings over networks with this relation, whose sessions have records with this head, if it has one.
-- `outside` says what happened to the records, and `failed` that a write of the output failed.
module _ {N S : Type 0} (transition : N → NetworkCall S → N → Type 0) (to_give taken : S → Option (List ℕ))
    (calls : S → Option (List StreamCall))
    (port_transition : Recorded (SocketPorts S) → PortCall → Recorded (SocketPorts S) → Type 0) (outside : RecordEvents)
    (head : RecordHead) (settings : Settings) (failed : Type 0) where
  -- From this state on the sockets of a run evolved by the system calls of a trace with this property. Each session that
  -- began has its own record, and the file of each that was retired has the whole record, or a notice says what is missing.
  -- Then the run waited for the sockets that closed.
  pub record RunsBy (Kind : List (SystemCall (Recorded (SocketPorts S))) → Type 0) (begun : RunState N S) : Type 0 where
    pub trace : List (SystemCall (Recorded (SocketPorts S)))
    pub ended : RunState N S
    pub last : ClosingList S
    pub evolves : TransitsBy (RunEvolves transition to_give taken calls (λ ports. ports.ports)) begun trace ended
    pub kind : Kind trace
    pub recorded : TraceRecords outside head trace
    pub finishes : FinishesAll transition to_give taken calls 18446744073709551615 ended.network ended.table.reading
        ended.closing last

  -- A run printed `listening`. If all bots were served, its calls are a whole run of the settings. If it was given up, they
  -- are the calls until then.
  abbrev pub Serves : Option (List ℕ) → Option (List ℕ) → RunState N S → Result (Unit {0}) ServeFault → Type 0
  Serves old new begun (Ok done) = Announces failed old new × RunsBy (IsWholeRun port_transition settings) begun
  Serves old new begun (Err fault) =
      Announces failed old new × RunsBy (GivesUp (λ n. Unit {0}) port_transition settings fault) begun

  -- The end of a run on a network: memory was refused before it listened, and nothing was written; or it began from this
  -- value of the network on, and served.
  abbrev pub RunEnds : N → Option (List ℕ) → Option (List ℕ) → Result (Unit {0}) RunFault → Type 0
  RunEnds network old new result = ((result ≡ Err Memory) × (new ≡ old))
      ⊎ ((begun : RunState N S) × BeginsRun transition settings network begun
      × (served : Result (Unit {0}) ServeFault) × (result ≡ ending_by served) × Serves old new begun served)

-- A run of these settings did not begin, with the folder of the records if sessions are recorded: for a fault before
-- serving, or since no file can be made in the folder.
abbrev pub IsBeforeRun : {F : Type 0} → Option F → Settings → RunFault → Type 0
IsBeforeRun records settings (Gateway fault) = IsBeforeServing settings fault
IsBeforeRun {F} records settings (Record cause) = (folder : F) × (records ≡ Some folder)
IsBeforeRun records settings Memory = ⊥
IsBeforeRun records settings (run_faults.Settings fault) = ⊥

-- The end of a run of settings: it did not begin, and nothing was written; or it ended on the network that was bound.
abbrev pub SettingsRun : {F N S : Type 0} → Option F → (N → NetworkCall S → N → Type 0) → (S → Option (List ℕ)) →
    (S → Option (List ℕ)) → (S → Option (List StreamCall)) →
    (Recorded (SocketPorts S) → PortCall → Recorded (SocketPorts S) → Type 0) → RecordEvents → RecordHead → Settings → Type 0 →
    Option (List ℕ) → Option (List ℕ) → Result (Unit {0}) RunFault → Type 0
SettingsRun {N = N} records transition to_give taken calls port_transition outside head settings failed old new result =
    ((fault : RunFault) × (result ≡ Err fault) × (new ≡ old) × IsBeforeRun records settings fault)
    ⊎ ((network : N) × RunEnds transition to_give taken calls port_transition outside head settings failed network old
    new result)

-- a fault of a text, which is found before any socket is opened
abbrev pub IsOfText : RunFault → Type 0
IsOfText (run_faults.Settings fault) = Unit {0}
IsOfText Memory = ⊥
IsOfText (Record cause) = ⊥
IsOfText (Gateway fault) = ⊥

-- a text has settings, or a fault
abbrev pub Reads : List ℕ → Settings → Type 0
Reads text settings = judged_settings (parse_document text) ≡ Ok (given_of settings)

abbrev pub IsRefused : List ℕ → SettingsError → Type 0
IsRefused text fault = fault ≢ settings_faults.Memory → judged_settings (parse_document text) ≡ Err fault

-- The end of a run of a text: it has a fault, and nothing is written; or it has settings, and they run. If there is a folder
-- of records, each session has its own, or a notice.
abbrev pub TextRuns : {F N S : Type 0} → Option F → (N → NetworkCall S → N → Type 0) → (S → Option (List ℕ)) →
    (S → Option (List ℕ)) → (S → Option (List StreamCall)) →
    (Recorded (SocketPorts S) → PortCall → Recorded (SocketPorts S) → Type 0) → RecordEvents → List ℕ → Type 0 →
    Option (List ℕ) → Option (List ℕ) → Result (Unit {0}) RunFault → Type 0
TextRuns records transition to_give taken calls port_transition outside text failed old new result =
    ((fault : SettingsError) × (result ≡ Err (run_faults.Settings fault)) × IsRefused text fault × (new ≡ old))
    ⊎ ((settings : Settings) × Reads text settings
    × SettingsRun records transition to_give taken calls port_transition outside (head_for settings records) settings
    failed old new result)
