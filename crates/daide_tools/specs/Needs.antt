-- The comments of `settings` on what a run needs. (own)
use Rattle.std.specs.Prelude.{ℕ, ◌+◌, ◌*◌, min, Bool, true, false, List, [], ◌++◌, codes, Option, Some, None}
use Rattle.std.specs.Fmt.{decimal}
use Rattle.std.specs.Option.{is_some}
use Rattle.daide_driver.specs.Hub.{session_bound}
use Rattle.daide_event_loop.specs.Served.{run_limits}
use Rattle.daide_settings.specs.declared.settings.Settings.{Settings}

-- a number, or the greatest of 64 bits if it is above that
abbrev pub capped : ℕ → ℕ
capped n = min n 18446744073709551615

-- ---- memory

-- the bound of one session, and of all
abbrev pub memory_line : ℕ → ℕ → List ℕ
memory_line one count = codes "# memory: at most " ++ (decimal (capped (one * count))
    ++ (codes " bytes for bodies, brackets and queued frames, " ++ (decimal one ++ (codes " for each of "
    ++ (decimal count ++ codes " sessions;\n")))))

abbrev pub buffers_line : List ℕ
buffers_line =
    codes "#   about 71000 a session for its other fields and its buffers, and 3 MB for the program\n"

-- ---- descriptors

-- those of a control socket: its listener and its eight connections
abbrev pub control_descriptors : Bool → ℕ
control_descriptors false = 0
control_descriptors true = 9

-- seven of its own, two a session, one for each closing socket, and those of the control socket
abbrev pub descriptors : ℕ → Bool → ℕ
descriptors sessions has_control = capped (capped (capped (sessions * 2) + (7 + 256)) + control_descriptors has_control)

abbrev pub descriptors_line : ℕ → List ℕ
descriptors_line count = codes "# descriptors: at most " ++ (decimal count ++ (codes ": " ++ (decimal 7
    ++ (codes ", 2 a session, and 1 for each of " ++ (decimal 256 ++ codes " sockets that close;\n")))))

abbrev pub control_line : Bool → List ℕ
control_line false = []
control_line true = codes "#   " ++ (decimal 9 ++ codes " of these are for the control socket;\n")

abbrev pub descriptors_text : ℕ → Bool → List ℕ
descriptors_text sessions has_control = descriptors_line (descriptors sessions has_control)
    ++ (control_line has_control ++ codes "#   1 a session more with --record\n")

-- ---- both, for settings without a fault

abbrev pub needs_text : Option Settings → List ℕ
needs_text None = []
needs_text (Some settings) = memory_line (session_bound (run_limits settings)) settings.max_sessions
    ++ (buffers_line ++ descriptors_text settings.max_sessions (is_some settings.control))
