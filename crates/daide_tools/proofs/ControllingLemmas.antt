-- The end of a request for a status, and of several.
use Rattle.std.proofs.Common.{◌<◌, ◌≡◌, ◌≢◌, ◌≤◌, ◌⊎◌, inl, inr, ◌++◌, ℕ, List, [], ◌∷◌, length, map, Option, Some, None, Result, Ok, Err, OnOk, IfSome, subst, refl, ◌∙◌, Bor, Bool, nat_lt, arith, ap, sym}
use Rattle.std.proofs.lemmas.List.{length-map}
use Rattle.std.specs.Io.KnownBytes.{Appends}
use Rattle.std.specs.declared.io.ErrorKind.{ErrorKind}
use Rattle.daide_command_line.specs.declared.arguments.StopOrder.{StopOrder}
use Rattle.daide_settings.specs.Settings.{Given}
use Rattle.daide_status.specs.declared.request.ControlRequest.{ControlRequest}
use Rattle.daide_status.specs.declared.request.ControlRequest.TheVariants.{Status}
use Rattle.daide_status.specs.declared.request.Format.{Format}
use Rattle.daide_tools.specs.Controlling.{AnswersOver, EndsAfter, EndsRequestOr, EndsStatuses, ReachedAt, RunAnswers}
use Rattle.daide_tools.specs.Controlling.{StatusEnds, StopRuns, request_line, longest_answer, title_for}
use Rattle.daide_tools.specs.Endings.{AreSettingsAt}

-- what was read after the request was sent, and was printed after a title, is the answer
pub answered : {S E : Type 0} (contents remaining : S → Option (List ℕ)) (request : ControlRequest) (stream sent : S)
    (title answer shown : List ℕ) (old new : Option (List ℕ)) (result : Result (Unit {0}) E) → shown ≡ answer →
    Appends (contents stream) (contents sent) (request_line request) → length answer ≤ longest_answer →
    IfSome (remaining sent) (λ all. answer ≡ all) → OnOk result (shown ≢ []) → OnOk result (Appends old new (title ++ shown)) →
    OnOk result (AnswersOver contents remaining request stream title old new)
answered contents remaining request stream sent title answer shown old new (Ok done) same asked few whole some printed = record {
  sent = sent;
  asked = asked;
  printed = record {
    answer = answer;
    some = subst (λ (bytes : List ℕ). bytes ≢ []) same some;
    few = few;
    printed = subst (λ (bytes : List ℕ). Appends old new (title ++ bytes)) same printed;
  };
  whole = whole;
}
answered contents remaining request stream sent title answer shown old new (Err fault) same asked few whole some printed = tt

-- the status of no runs
pub none_ended : (Answers : List ℕ → Option (List ℕ) → Option (List ℕ) → Type 0) (rest : List (Bor (List ℕ)))
    (known : Option (List ℕ)) (status : ℕ) → length rest < 1 →
    EndsStatuses Answers (map (λ name. name.now) rest) known known status status
none_ended Answers [] known status few = (refl, refl)
none_ended Answers (name ∷ rest) known status few = absurd (omega (arith, few))

-- the status of some runs, by whether they are several
pub each_ended : {F S : Type 0} (Opens : List ℕ → Result F ErrorKind → Type 0) (bytes : F → Option (List ℕ))
    (Reaches : List ℕ → Result S ErrorKind → Type 0) (contents remaining : S → Option (List ℕ)) (write : Type 0)
    (format : Format) (several : Bool) (names : List (Bor (List ℕ))) (old new : Option (List ℕ)) (status : ℕ) →
    length names ≢ 0 → several ≡ nat_lt 1 (length names) →
    EndsStatuses (RunAnswers Opens bytes Reaches contents remaining several format) (map (λ name. name.now) names) old new 0
    status ⊎ (write × (status ≡ 1)) →
    StatusEnds Opens bytes Reaches contents remaining write format (map (λ name. name.now) names) old new status
each_ended Opens bytes Reaches contents remaining write format several [] old new status some same h = absurd (some refl)
each_ended Opens bytes Reaches contents remaining write format several (name ∷ names) old new status some same h =
    subst
    (λ (b : Bool). EndsStatuses (RunAnswers Opens bytes Reaches contents remaining b format)
    (map (λ name. name.now) (name ∷ names)) old new 0 status ⊎ (write × (status ≡ 1)))
    (same ∙ ap (λ (n : ℕ). nat_lt 1 n) (sym (length-map (name ∷ names) (λ name. name.now)))) h

-- a stop of the run at the control path of these settings is one of the run with the settings of the order's file
pub run_stopped : {F S : Type 0} (Opens : List ℕ → Result F ErrorKind → Type 0) (bytes : F → Option (List ℕ))
    (Reaches : List ℕ → Result S ErrorKind → Type 0) (contents remaining : S → Option (List ℕ)) (order : StopOrder)
    (given : Given) (status : ℕ) → AreSettingsAt Opens bytes order.settings.now given →
    ((status ≡ 0) × ReachedAt Reaches given.control (EndsAfter contents remaining order.request))
    ⊎ (status ≡ 1) → StopRuns Opens bytes Reaches contents remaining order status
run_stopped Opens bytes Reaches contents remaining order given status at (inl (is, reached)) = inl (is, (given, at, reached))
run_stopped Opens bytes Reaches contents remaining order given status at (inr is) = inr is

-- an answer of the run at the control path of these settings is one of the run with the settings of this file
pub run_answered : {F S : Type 0} (Opens : List ℕ → Result F ErrorKind → Type 0) (bytes : F → Option (List ℕ))
    (Reaches : List ℕ → Result S ErrorKind → Type 0) (contents remaining : S → Option (List ℕ)) (write : Type 0)
    (several : Bool) (format : Format) (name : List ℕ) (given : Given) (old new : Option (List ℕ)) (one : Option ℕ) →
    AreSettingsAt Opens bytes name given →
    EndsRequestOr write (ReachedAt Reaches given.control (λ stream.
    AnswersOver contents remaining (Status format) stream (title_for several format name) old new)) old new one →
    EndsRequestOr write (RunAnswers Opens bytes Reaches contents remaining several format name old new) old new one
run_answered Opens bytes Reaches contents remaining write several form name given old new (Some status) at (inl (is, reached)) =
    inl (is, (given, at, reached))
run_answered Opens bytes Reaches contents remaining write several form name given old new (Some status) at (inr h) = inr h
run_answered Opens bytes Reaches contents remaining write several form name given old new None at h = h
