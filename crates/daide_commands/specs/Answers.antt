-- The effect of the program's arguments: the order that they give, and how that ends. (own)
use Rattle.std.specs.Prelude.{◌≡◌, ◌≢◌, ◌⊎◌, ◌≤◌, ℕ, List, Option, Result, Ok, Err}
use Rattle.std.specs.Borrow.{Bor}
use Rattle.std.specs.declared.io.ErrorKind.{ErrorKind as IoError}
use Rattle.clap.specs.Words.{Row, Text}
use Rattle.clap.specs.declared.error.kind.ErrorKind.{ErrorKind}
use Rattle.clap.specs.declared.error.kind.ErrorKind.TheVariants.{DisplayHelp, DisplayVersion, OutOfMemory}
use Rattle.daide_command_line.specs.declared.arguments.Order.{Order}
use Rattle.daide_command_line.specs.declared.arguments.Order.TheVariants.{Show, Check, Frame, Settings, Run, BadSide}
use Rattle.daide_command_line.specs.declared.arguments.Order.TheVariants.{BadLevel, Status, Stop, BadFormat, BadTimeout, BadSession}
use Rattle.daide_command_line.specs.declared.arguments.Order.TheVariants.{Transcript, BadMessageFormat}
use Rattle.daide_command_line.specs.CommandLine.{ParsesTo, IsOrderOf}
use Rattle.daide_command_line.specs.declared.arguments.RunOrder.{RunOrder}
use Rattle.daide_run.specs.declared.running.RunFault.{RunFault}
use Rattle.daide_tools.specs.Controlling.{StatusRuns, StopRuns}
use Rattle.daide_tools.specs.Endings.{ShowRuns, CheckRuns, FrameRuns, SettingsRuns}
use Rattle.daide_tools.specs.Opened.{IsTextAt}

-- ---- a run

-- the status by the result of a run
abbrev pub run_status : Result (Unit {0}) RunFault → ℕ
run_status (Ok done) = 0
run_status (Err fault) = 1

-- The runs of a text of settings, with the folder of the records if there is one, by the output before and after and by
-- their result.
abbrev pub RunRelation : Type 1
RunRelation = Option (Bor (List ℕ)) → List ℕ → Option (List ℕ) → Option (List ℕ) → Result (Unit {0}) RunFault → Type 0

-- The text of the settings' file was run, with the folder of the order. If it can't be read, the status is 1, and nothing is
-- written.
abbrev pub RunOrderEnds : {F : Type 0} → (List ℕ → Result F IoError → Type 0) → (F → Option (List ℕ)) → RunRelation →
    RunOrder → Option (List ℕ) → Option (List ℕ) → ℕ → Type 0
RunOrderEnds Opens remaining Runs order old new status = ((status ≡ 1) × (new ≡ old))
    ⊎ ((text : List ℕ) × IsTextAt Opens remaining order.settings.now text × (result : Result (Unit {0}) RunFault)
    × Runs order.record text old new result × (status ≡ run_status result))

-- ---- an order

-- Files by their names, as `IsTextAt` takes them, runs by their control paths, as `ReachesRun` takes them with what was
-- written to a stream and what it has left, and runs of a text. `read`, `file` and `write` say that a read of standard
-- input, a read of a file or a write of the output failed, `refused` and `unsettled` that memory was refused, the latter
-- for settings.
module _ {F S : Type 0} (Opens : List ℕ → Result F IoError → Type 0) (remaining : F → Option (List ℕ))
    (Reaches : List ℕ → Result S IoError → Type 0) (written left : S → Option (List ℕ)) (Runs : RunRelation)
    (read file refused unsettled write : Type 0) where
  -- The end of an order, by the bytes of standard input and by the rest of them that is unread.
  abbrev pub OrderEnds : Order → Option (List ℕ) → Option (List ℕ) → Option (List ℕ) → Option (List ℕ) → ℕ → Type 0
  OrderEnds (Show order) known rest old new status = ShowRuns Opens remaining read refused write order known old new status
  OrderEnds (Check order) known rest old new status =
      CheckRuns Opens remaining read file refused write order known rest old new status
  OrderEnds (Transcript order) known rest old new status = status ≤ 1
  OrderEnds (Frame order) known rest old new status = FrameRuns Opens remaining read refused write order known old new status
  OrderEnds (Settings order) known rest old new status =
      SettingsRuns Opens remaining unsettled write order known rest old new status
  OrderEnds (Run order) known rest old new status = RunOrderEnds Opens remaining Runs order old new status
  OrderEnds BadSide known rest old new status = (status ≡ 2) × (new ≡ old)
  OrderEnds BadLevel known rest old new status = (status ≡ 2) × (new ≡ old)
  OrderEnds (Status order) known rest old new status =
      (status ≤ 1) × StatusRuns Opens remaining Reaches written left write order old new status
  OrderEnds (Stop order) known rest old new status =
      (status ≤ 1) × (new ≡ old) × StopRuns Opens remaining Reaches written left order status
  OrderEnds BadFormat known rest old new status = (status ≡ 2) × (new ≡ old)
  OrderEnds BadMessageFormat known rest old new status = (status ≡ 2) × (new ≡ old)
  OrderEnds BadTimeout known rest old new status = (status ≡ 2) × (new ≡ old)
  OrderEnds BadSession known rest old new status = (status ≡ 2) × (new ≡ old)

-- ---- arguments that give no order

-- The end by the error that clap returned. Refused memory is a fault. Help and version are written to the output, which
-- may fail. With a usage error nothing is written there.
pub record UsageEnds (why : ErrorKind) (old new : Option (List ℕ)) (status : ℕ) : Type 0 where
  pub memory : why ≡ OutOfMemory → (status ≡ 1) × (new ≡ old)
  pub shown : (why ≡ DisplayHelp) ⊎ (why ≡ DisplayVersion) → status ≤ 1
  pub mistaken : why ≢ OutOfMemory → why ≢ DisplayHelp → why ≢ DisplayVersion → (status ≡ 2) × (new ≡ old)

-- ---- the arguments

module _ {F S : Type 0} (Opens : List ℕ → Result F IoError → Type 0) (remaining : F → Option (List ℕ))
    (Reaches : List ℕ → Result S IoError → Type 0) (written left : S → Option (List ℕ)) (Runs : RunRelation)
    (read file refused unsettled write : Type 0) where
  -- the end of the program: that of the order for this parse, or a usage error, which reads nothing of standard input
  abbrev pub GivenEnds : Result (Option (Text × List Row)) ErrorKind → Option (List ℕ) → Option (List ℕ) →
      Option (List ℕ) → Option (List ℕ) → ℕ → Type 0
  GivenEnds (Ok asked) known rest old new status = (order : Order) × IsOrderOf asked order
      × OrderEnds Opens remaining Reaches written left Runs read file refused unsettled write order known rest old new status
  GivenEnds (Err why) known rest old new status = (rest ≡ known) × UsageEnds why old new status

  -- the status and the output are those of the order for the arguments, by what happened outside
  abbrev pub CommandEnds : List Text → Option (List ℕ) → Option (List ℕ) → Option (List ℕ) → Option (List ℕ) → ℕ → Type 0
  CommandEnds words known rest old new status = (given : Result (Option (Text × List Row)) ErrorKind)
      × ParsesTo words given × GivenEnds given known rest old new status
