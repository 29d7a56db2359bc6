-- The status and the comments of `settings --try`, by the results of the trials. (own)
use Rattle.std.specs.Prelude.{ℕ, ◌&&◌, Bool, true, false, if◌then◌else◌, is_ok, List, [], ◌++◌, codes, Result, Ok, Err}
use Rattle.std.specs.Net.Text.{socket_text}
use Rattle.std.specs.declared.net.socket_addr.SocketAddr.{SocketAddr}
use Rattle.daide_sockets.specs.declared.addresses.AddressFault.{AddressFault}
use Rattle.daide_tools.specs.declared.trying.Trials.{Trials}

abbrev pub trials_status : Trials → ℕ
trials_status trials = if is_ok trials.listen && is_ok trials.server && is_ok trials.control then 0 else 1

-- the comment of a trial that passed
abbrev pub listen_text : Result SocketAddr AddressFault → List ℕ
listen_text (Ok address) = codes "# listen: " ++ (socket_text address ++ codes " is free\n")
listen_text (Err fault) = []

abbrev pub server_text : Result SocketAddr AddressFault → List ℕ
server_text (Ok address) = codes "# server: reached at " ++ (socket_text address ++ codes "\n")
server_text (Err fault) = []

-- there is none for `control` if the settings have none
abbrev pub control_text : Bool → Result (Unit {0}) AddressFault → List ℕ
control_text false control = []
control_text true (Ok done) = codes "# control: its path is free\n"
control_text true (Err fault) = []

abbrev pub passed_text : Bool → Trials → List ℕ
passed_text has_control trials =
    listen_text trials.listen ++ (server_text trials.server ++ control_text has_control trials.control)
