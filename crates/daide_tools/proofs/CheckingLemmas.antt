-- The reports of several logs, one after another, and the same without what is said of them.
use Rattle.std.proofs.Common.{◌≡◌, ℕ, Bool, List, [], ◌∷◌, map, Option, Some, None, Result, Ok, Err, IfOk, OnOk, refl, inl, inr, ◌≢◌, ◌<◌, length, Bor, arith}
use Rattle.std.specs.declared.io.ErrorKind.{ErrorKind}
use Rattle.daide_log_lines.specs.declared.fault.LogFault.{LogFault}
use Rattle.daide_tools.specs.Opened.{standard_input}
use Rattle.daide_tools.specs.Checking.{ChecksEach, ChecksLogs, ChecksNames, ChecksSeveral, EndsWithTable, HasCheckCause, LogSaying, SaysOfNamed}

-- what holds of the status of a reported fault, by what was said of it
pub said_of : {E S : Type 0} (result : Result ℕ E) (P : ℕ → Type 0) → IfOk result (λ status. status ≡ 1) → OnOk result S →
    ((status : ℕ) → status ≡ 1 → S → P status) → IfOk result P
said_of (Ok status) P one said holds = holds status one said
said_of (Err error) P one said holds = tt

module _ {F : Type 0} (Opens : List ℕ → Result F ErrorKind → Type 0) (remaining : F → Option (List ℕ))
    (is_explained : Bool) (Says : LogSaying) (refused : Type 0) where
  -- the reports of no logs
  pub none_left : (rest : List (Bor (List ℕ))) (known old said : Option (List ℕ)) (status : ℕ) → length rest < 1 →
      ChecksEach Opens remaining is_explained Says refused (map (λ path. path.now) rest) known known old old said said status status
  none_left [] known old said status few = (refl, refl, refl, refl)
  none_left (path ∷ rest) known old said status few = absurd (omega (arith, few))

  -- several logs are not one
  pub not_one : (paths : List (Bor (List ℕ))) (known rest old new said_before said : Option (List ℕ)) (status : ℕ) →
      length paths ≢ 1 →
      ChecksSeveral Opens remaining is_explained Says refused (map (λ path. path.now) paths) known rest old new said_before said status →
      ChecksNames Opens remaining is_explained Says refused (map (λ path. path.now) paths) known rest old new said_before said status
  not_one [] known rest old new said_before said status other h = h
  not_one (path ∷ []) known rest old new said_before said status other h = absurd (other refl)
  not_one (path ∷ next ∷ paths) known rest old new said_before said status other h = h

-- ---- whatever is said on standard error

-- the cause of a fault stays
caused : (IsUnread : List ℕ → Type 0) (refused write unsaid : Type 0) (label : Option (List ℕ)) (name : List ℕ)
    (result : Result ℕ LogFault) (old new : Option (List ℕ)) → SaysOfNamed IsUnread write unsaid refused label name result old new →
    HasCheckCause IsUnread write refused label name result None None
caused IsUnread refused write unsaid label name (Ok status) old new h = tt
caused IsUnread refused write unsaid label name (Err fault) old new h = h.0

module _ {F : Type 0} (Opens : List ℕ → Result F ErrorKind → Type 0) (remaining : F → Option (List ℕ))
    (is_explained : Bool) (IsUnread : List ℕ → Type 0) (refused write unsaid : Type 0) where
  each_unsaid : (names : List (List ℕ)) (known rest old new said_before said : Option (List ℕ)) (before status : ℕ) →
      ChecksEach Opens remaining is_explained (SaysOfNamed IsUnread write unsaid) refused names known rest old new said_before said before status →
      ChecksEach Opens remaining is_explained (HasCheckCause IsUnread write) refused names known rest old new None None before status
  each_unsaid [] known rest old new said_before said before status h = (h.0, h.1, refl, h.3)
  each_unsaid (name ∷ names) known rest old new said_before said before status h =
      let one = h.4 in (
        h.0,
        h.1,
        None,
        h.3,
        (one.0, one.1, one.2, one.3, caused IsUnread refused write unsaid (Some name) name one.1 said_before h.2 one.4, one.5),
        each_unsaid names h.0 rest h.1 new h.2 said _ status h.5,
      )

  table_unsaid : (old new said_before said : Option (List ℕ)) (before status : ℕ) →
      EndsWithTable (SaysOfNamed IsUnread write unsaid) old new said_before said before status →
      EndsWithTable (HasCheckCause IsUnread write) old new None None before status
  table_unsaid old new said_before said before status (inl h) = inl (h.0, h.1, refl, h.3)
  table_unsaid old new said_before said before status (inr (inl h)) = inr (inl (h.0, tt, h.2))
  table_unsaid old new said_before said before status (inr (inr h)) = inr (inr (h.0.0, h.1))

  several_unsaid : (names : List (List ℕ)) (known rest old new said_before said : Option (List ℕ)) (status : ℕ) →
      ChecksSeveral Opens remaining is_explained (SaysOfNamed IsUnread write unsaid) refused names known rest old new said_before said status →
      ChecksSeveral Opens remaining is_explained (HasCheckCause IsUnread write) refused names known rest old new None None status
  several_unsaid names known rest old new said_before said status (inl h) =
      inl (
        h.0,
        None,
        h.2,
        each_unsaid names known rest old h.0 said_before h.1 0 h.2 h.3,
        table_unsaid h.0 new h.1 said h.2 status h.4,
      )
  several_unsaid names known rest old new said_before said status (inr h) = inr (None, h.1.0, h.2)

  names_unsaid : (names : List (List ℕ)) (known rest old new said_before said : Option (List ℕ)) (status : ℕ) →
      ChecksNames Opens remaining is_explained (SaysOfNamed IsUnread write unsaid) refused names known rest old new said_before said status →
      ChecksNames Opens remaining is_explained (HasCheckCause IsUnread write) refused names known rest old new None None status
  names_unsaid [] known rest old new said_before said status h =
      several_unsaid [] known rest old new said_before said status h
  names_unsaid (name ∷ []) known rest old new said_before said status h =
      (h.0, h.1, caused IsUnread refused write unsaid None name h.0 said_before said h.2, h.3)
  names_unsaid (name ∷ other ∷ names) known rest old new said_before said status h =
      several_unsaid (name ∷ other ∷ names) known rest old new said_before said status h

  pub logs_unsaid : (names : Option (List (List ℕ))) (known rest old new said_before said : Option (List ℕ)) (status : ℕ) →
      ChecksLogs Opens remaining is_explained (SaysOfNamed IsUnread write unsaid) refused names known rest old new said_before said status →
      ChecksLogs Opens remaining is_explained (HasCheckCause IsUnread write) refused names known rest old new None None status
  logs_unsaid None known rest old new said_before said status h =
      (h.0, h.1, caused IsUnread refused write unsaid None standard_input h.0 said_before said h.2, h.3)
  logs_unsaid (Some names) known rest old new said_before said status h =
      names_unsaid names known rest old new said_before said status h
