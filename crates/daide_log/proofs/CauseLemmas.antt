-- What a fault of a log names has happened.
use Rattle.daide_log.proofs.Common.{◌≡◌, ◌⊎◌, inl, inr, ℕ, Option, Some, None, IfErr, Result, Ok, Err, LogFault, sym, subst, ◌∙◌}
use Rattle.daide_log.proofs.Common.{LineEnd, IsLateFault, ReportForm, ◌+◌}
use Rattle.std.proofs.Common.{IsErrAnd}
use Rattle.daide_causes.specs.Causes.{HasFailed}
use Rattle.daide_log_lines.specs.Cause.{HasCause}
use Rattle.daide_log_lines.specs.declared.fault.LogFault.TheVariants as Faults
use Rattle.daide_log.proofs.Common.{Held, Line, Last, End}
use Rattle.daide_log.specs.declared.heading.Heading.{Heading}
use Rattle.daide_log.specs.declared.heading.Preamble.{Preamble}
use Rattle.daide_log.specs.declared.page.Unreported.{Unreported}
use Rattle.daide_log.specs.PreambleKnown.{after_line, at_last, whole_preamble}
use Rattle.daide_log.specs.Reporting.{IsCauseIn, IsFailedWrite}

-- a failed write that `?` returns
pub handed_write : {A Answer W : Type 0} (Fails : W → W → Type 0) (form : ReportForm Answer) (refused : Type 0) (r : Result A Unreported)
    (fault : Unreported) → IsErrAnd r (λ reported. reported ≡ fault) → IsFailedWrite Fails fault →
    IfErr r (IsCauseIn form (HasFailed Fails) refused)
handed_write Fails form refused (Ok x) fault e h = absurd e
handed_write Fails form refused (Err reported) fault e h =
    subst (IsCauseIn form (HasFailed Fails) refused) (sym (e ∙ h.0)) h.1

module _ {R W : Type 0} (Reads : R → R → Type 0) (Fails : W → W → Type 0) where
  pub late_cause : {Answer : Type 0} (form : ReportForm Answer) (refused : Type 0) (fault : LogFault) →
      IsLateFault form (HasFailed Fails) refused fault → HasCause Reads Fails refused fault
  late_cause form refused fault (inl h) = subst (HasCause Reads Fails refused) (sym h.0) h.1
  late_cause form refused fault (inr h) = subst (HasCause Reads Fails refused) (sym h.0) h.2

  pub late_causes : {A Answer : Type 0} (form : ReportForm Answer) (refused : Type 0) (r : Result A LogFault) →
      IfErr r (IsLateFault form (HasFailed Fails) refused) → IfErr r (HasCause Reads Fails refused)
  late_causes form refused (Ok x) h = tt
  late_causes form refused (Err fault) h = late_cause form refused fault h

  -- a line without an allowed form, or a fault of writing the report
  pub judged_cause : {Answer : Type 0} (form : ReportForm Answer) (refused P Q : Type 0) (fault : LogFault) (n : ℕ) →
      IsLateFault form (HasFailed Fails) refused fault ⊎ ((fault ≡ Faults.BadLine n) × P × Q) → HasCause Reads Fails refused fault
  judged_cause form refused P Q fault n (inl h) = late_cause form refused fault h
  judged_cause form refused P Q fault n (inr h) = subst (HasCause Reads Fails refused) (sym h.0) tt

  -- memory may be refused by more
  pub more_causes : {P Q : Type 0} (fault : LogFault) → (P → Q) → HasCause Reads Fails P fault → HasCause Reads Fails Q fault
  more_causes (Faults.BadLine n) f h = tt
  more_causes (Faults.LineTooLong n) f h = tt
  more_causes Faults.TooManyLines f h = tt
  more_causes Faults.Read f h = h
  more_causes Faults.Write f h = h
  more_causes Faults.Memory f h = f h

  pub more_at_err : {A P Q : Type 0} (r : Result A LogFault) → (P → Q) → IfErr r (HasCause Reads Fails P) →
      IfErr r (HasCause Reads Fails Q)
  more_at_err (Ok x) f h = tt
  more_at_err (Err fault) f h = more_causes fault f h

  -- memory was refused for the sessions, or for the style
  pub plain_causes : {A : Type 0} (P : Type 0) (r : Result A LogFault) → IfErr r (HasCause Reads Fails (P ⊎ ⊥)) →
      IfErr r (HasCause Reads Fails P)
  plain_causes P r h = more_at_err r plainly h
    where
      plainly : P ⊎ ⊥ → P
      plainly (inl h) = h
      plainly (inr h) = absurd h

  pub explained_causes : {A : Type 0} (P : Type 0) (r : Result A LogFault) → IfErr r (HasCause Reads Fails (P ⊎ P)) →
      IfErr r (HasCause Reads Fails P)
  explained_causes P r h = more_at_err r either h
    where
      either : P ⊎ P → P
      either (inl h) = h
      either (inr h) = h

  -- a fault that `?` returns
  pub handed_on : {A : Type 0} (refused : Type 0) (r : Result A LogFault) (fault : LogFault) →
      IsErrAnd r (λ reported. reported ≡ fault) → HasCause Reads Fails refused fault → IfErr r (HasCause Reads Fails refused)
  handed_on refused (Ok x) fault e h = absurd e
  handed_on refused (Err reported) fault e h = subst (HasCause Reads Fails refused) (sym e) h

  -- the page at the end was written, or that failed
  pub rest_cause : {A : Type 0} (refused : Type 0) (answer r : Result A LogFault) →
      (r ≡ answer) ⊎ ((r ≡ Err Faults.Write) × HasFailed Fails) → IfErr answer (HasCause Reads Fails refused) →
      IfErr r (HasCause Reads Fails refused)
  rest_cause refused answer r (inl same) h = subst (λ x. IfErr x (HasCause Reads Fails refused)) (sym same) h
  rest_cause refused answer r (inr failed) h =
      subst (λ x. IfErr x (HasCause Reads Fails refused)) (sym failed.0) failed.1

  at_last_cause : (lines : ℕ) (whole : Option Preamble) (refused : Type 0) (fault : LogFault) →
      at_last lines whole ≡ Err fault → HasCause Reads Fails refused fault
  at_last_cause lines None refused fault e =
      let same : Faults.BadLine (lines + 1) ≡ fault = cc in subst (HasCause Reads Fails refused) same tt
  at_last_cause lines (Some head) refused fault e = absurd cc

  -- the fault of a line of the head: that of its search, or a wrong line
  pub head_cause : (found : Result LineEnd LogFault) (heading : Option Heading) (count : ℕ) (refused : Type 0) (fault : LogFault) →
      after_line found heading count ≡ Err fault → IfErr found (HasCause Reads Fails refused) →
      HasCause Reads Fails refused fault
  head_cause (Err f) heading count refused fault e h =
      let same : f ≡ fault = cc in subst (HasCause Reads Fails refused) same h
  head_cause (Ok Line) (Some heading) count refused fault e h = absurd cc
  head_cause (Ok Line) None count refused fault e h =
      let same : Faults.BadLine (count + 1) ≡ fault = cc in subst (HasCause Reads Fails refused) same tt
  head_cause (Ok (Held n)) (Some heading) count refused fault e h = absurd cc
  head_cause (Ok (Held n)) None count refused fault e h =
      let same : Faults.BadLine (count + 1) ≡ fault = cc in subst (HasCause Reads Fails refused) same tt
  head_cause (Ok Last) (Some heading) count refused fault e h =
      at_last_cause (count + 1) (whole_preamble heading) refused fault e
  head_cause (Ok Last) None count refused fault e h =
      let same : Faults.BadLine (count + 1) ≡ fault = cc in subst (HasCause Reads Fails refused) same tt
  head_cause (Ok End) heading count refused fault e h =
      let same : Faults.BadLine (count + 1) ≡ fault = cc in subst (HasCause Reads Fails refused) same tt
