-- The lines by which an operator requests something of a run. (own)
use Rattle.std.specs.Prelude.{ℕ, ◌+◌, ◌-◌, ◌*◌, ◌≤◌, ◌==◌, ◌&&◌, nat_le, if◌then◌else◌, bytes_eq, codes, option_map}
use Rattle.std.specs.Prelude.{List, [], ◌∷◌, ◌++◌, take, drop, Option, Some, None}
use Rattle.std.specs.Fmt.{decimal}
use Rattle.daide_status.specs.declared.request.Format.TheVariants.{Table, Json, Prometheus}
use Rattle.daide_status.specs.declared.request.ControlRequest.{ControlRequest}
use Rattle.daide_status.specs.declared.request.ControlRequest.TheVariants.{Status, Stop, StopNow, StopSession}

-- the line of a request, without its line end
abbrev pub request_text : ControlRequest → List ℕ
request_text (Status Table) = codes "status table"
request_text (Status Json) = codes "status json"
request_text (Status Prometheus) = codes "status prometheus"
request_text Stop = codes "stop"
request_text StopNow = codes "stop now"
request_text (StopSession number) = codes "stop session " ++ decimal number

-- Sessions are counted from 1, in 32 bits.
abbrev pub IsRequest : ControlRequest → Type 0
IsRequest (Status format) = Unit {0}
IsRequest Stop = Unit {0}
IsRequest StopNow = Unit {0}
IsRequest (StopSession number) = (1 ≤ number) × (number ≤ 4294967295)

-- a number of 32 bits, continued by decimal digits
abbrev pub continued_number : ℕ → List ℕ → Option ℕ
continued_number number [] = Some number
continued_number number (digit ∷ digits) =
    if (nat_le 48 digit && nat_le digit 57) && nat_le (10 * number + (digit - 48)) 4294967295
    then continued_number (10 * number + (digit - 48)) digits else None

-- the number of a session: decimal digits without a leading zero
abbrev pub session_of_digits : List ℕ → Option ℕ
session_of_digits [] = None
session_of_digits (first ∷ digits) = if first == 48 then None else continued_number 0 (first ∷ digits)

-- a line that begins with `stop session ` requests the stop of the session with the number after it
abbrev pub session_stop : List ℕ → Option ControlRequest
session_stop line =
    if bytes_eq (take 13 line) (codes "stop session ") then option_map StopSession (session_of_digits (drop 13 line)) else
    None

-- the request with this line, byte for byte
abbrev pub requested_by : List ℕ → Option ControlRequest
requested_by line =
    if bytes_eq line (codes "status table") then Some (Status Table) else
    if bytes_eq line (codes "status json") then Some (Status Json) else
    if bytes_eq line (codes "status prometheus") then Some (Status Prometheus) else
    if bytes_eq line (codes "stop") then Some Stop else
    if bytes_eq line (codes "stop now") then Some StopNow else
    session_stop line
