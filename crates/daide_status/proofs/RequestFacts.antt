-- The six requests, and lines that are none.
use Rattle.std.proofs.Common.{◌≡◌, [], ◌∷◌, ◌++◌, Some, None, codes, length, map, refl}
use Rattle.std.specs.Fmt.{digits}
use Rattle.daide_status.specs.declared.request.Format.TheVariants.{Table, Json, Prometheus}
use Rattle.daide_status.specs.declared.request.ControlRequest.TheVariants.{Status, Stop, StopNow, StopSession}
use Rattle.daide_status.specs.Requests.{request_text, requested_by}

lines : map requested_by (codes "status table" ∷ codes "status json" ∷ codes "status prometheus" ∷ codes "stop" ∷ codes "stop now" ∷ [])
    ≡ Some (Status Table) ∷ Some (Status Json) ∷ Some (Status Prometheus) ∷ Some Stop ∷ Some StopNow ∷ []
lines = refl

-- sessions are 1 to 4,294,967,295
sessions : map requested_by (codes "stop session 1" ∷ codes "stop session 9" ∷ codes "stop session 10" ∷ codes "stop session 4294967295" ∷ [])
    ≡ Some (StopSession 1) ∷ Some (StopSession 9) ∷ Some (StopSession 10) ∷ Some (StopSession 4294967295) ∷ []
sessions = refl

texts : map request_text (StopSession 1 ∷ StopSession 10 ∷ StopSession 4294967295 ∷ [])
    ≡ codes "stop session 1" ∷ codes "stop session 10" ∷ codes "stop session 4294967295" ∷ []
unfolding digits
texts = refl

-- no sign, no zero before, no blank more and no other number is that of a session
no_sessions : map requested_by (codes "stop session 0" ∷ codes "stop session 00" ∷ codes "stop session 01" ∷ codes "stop session 4294967296"
    ∷ codes "stop session 42949672950" ∷ codes "stop session -1" ∷ codes "stop session +1" ∷ codes "stop session  1" ∷ codes "stop session 1 "
    ∷ codes "stop session " ∷ codes "stop session" ∷ codes "stop session x" ∷ codes "stop session 1x" ∷ codes "stop sessions 1" ∷ [])
    ≡ None ∷ None ∷ None ∷ None ∷ None ∷ None ∷ None ∷ None ∷ None ∷ None ∷ None ∷ None ∷ None ∷ None ∷ []
no_sessions = refl

-- a request is its line to the byte: no blank, no other case and no line end belongs to it
no_requests : map requested_by ([] ∷ codes "status" ∷ codes "status  json" ∷ codes "status xml" ∷ codes "STOP" ∷ codes " stop" ∷ codes "stop "
    ∷ (codes "stop" ++ 10 ∷ []) ∷ (codes "stop" ++ 13 ∷ []) ∷ codes "stop at once" ∷ codes "stop now now" ∷ (0 ∷ []) ∷ [])
    ≡ None ∷ None ∷ None ∷ None ∷ None ∷ None ∷ None ∷ None ∷ None ∷ None ∷ None ∷ None ∷ []
no_requests = refl
