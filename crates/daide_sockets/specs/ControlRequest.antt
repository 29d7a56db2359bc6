-- The request of a control connection, by the bytes received so far. (own)
use Rattle.std.specs.Prelude.{ℕ, ◌==◌, nat_lt, List, length, take, Option, Some, None, if◌then◌else◌}
use Rattle.std.specs.List.{position}
use Rattle.daide_io.specs.declared.ports.Pull.{Pull}
use Rattle.daide_io.specs.declared.ports.Pull.TheVariants.{Ended}
use Rattle.daide_status.specs.Requests.{requested_by}
use Rattle.daide_status.specs.declared.request.ControlRequest.{ControlRequest}
use Rattle.daide_sockets.specs.declared.control_request.Judgement.{Judgement}
use Rattle.daide_sockets.specs.declared.control_request.Judgement.TheVariants.{Requests, Unknown, Unfinished}

-- the most bytes of a request, with its line feed
abbrev pub request_room : ℕ
request_room = 64

-- the position of the first line feed
abbrev pub line_end : List ℕ → Option ℕ
line_end bytes = position (λ byte. byte == 10) bytes

abbrev pub judged_request : Option ControlRequest → Judgement
judged_request (Some request) = Requests request
judged_request None = Unknown

abbrev pub judged_line : Option ℕ → List ℕ → Judgement
judged_line (Some at) bytes = judged_request (requested_by (take at bytes))
judged_line None bytes = if nat_lt (length bytes) request_room then Unfinished else Unknown

-- The line up to the first line feed is a request or none. Without a line feed in 64 bytes there is none.
abbrev pub judgement_of : List ℕ → Judgement
judgement_of bytes = judged_line (line_end bytes) bytes

-- at the end of the stream, what is unfinished is no request
abbrev pub at_end : Judgement → Pull → Judgement
at_end Unfinished Ended = Unknown
at_end judgement pull = judgement
