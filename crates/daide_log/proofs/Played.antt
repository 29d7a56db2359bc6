-- Runs of the machine that are computed. The verdict on a message is the one of the grammar's table, which is the
-- grammar's if no words were added.
use Rattle.daide_log.proofs.Common.{◌≡◌, ℕ, ◌+◌, ◌-◌, ◌<◌, ◌≤◌, Bool, true, false, List, [], ◌∷◌, ◌++◌, length, map}
use Rattle.daide_log.proofs.Common.{Option, Some, None, refl, sym, ap, ◌∙◌, subst, eqb, ◌⊎◌, inl, inr, if◌then◌else◌}
use Rattle.daide_log.proofs.Common.{slice_get, slice_set, eqb_tells, map-append, same_Some, Side, L0, Verdict, Relay}
use Rattle.daide_log.proofs.Common.{Note, SessionPhase, Event, Limits, SessionState, Effect, Successor, Question, Runs}
use Rattle.daide_log.proofs.Common.{event_outcome, question, side2_of, LogEvent, IsUnbroken, without_cr, Of, Version}
use Rattle.daide_log.proofs.Common.{ReportKey, ReportEntry, entries_of, events_of_line, side_of}
use Rattle.daide_frame.specs.PerSide.{both}
use Rattle.daide_grammar.specs.Words.{Words}
use Rattle.daide_reader.proofs.SomeVerdict.{plain_verdict, plain_verdict_right}
use Rattle.daide_protocol.specs.Machine.{IsCorrectVerdict}
use Rattle.daide_log.specs.Log.{ReportsBy, Playing, Reports, event_in, source_in}

-- a session between two messages, with both sides at level 0
abbrev pub state_at : Limits → SessionPhase → SessionState
state_at limits phase = record {
  limits = limits;
  phase = phase;
  sides = both (record { pending = []; noted = L0 }) (record { pending = []; noted = L0 });
}

-- ---- a run

-- the verdict, if it can be computed
unfoldable pub verdict_on : Words → ℕ → Option Question → Option Verdict
verdict_on words depth None = Some Relay
verdict_on [] depth (Some q) = Some (plain_verdict (side2_of q.side) q.level depth q.message)
verdict_on (word ∷ words) depth (Some q) = None

verdict_right : (words : Words) (depth : ℕ) (q : Option Question) (v : Verdict) → verdict_on words depth q ≡ Some v →
    IsCorrectVerdict words depth q v
unfolding verdict_on
verdict_right words depth None v e = sym (same_Some Relay v e)
verdict_right [] depth (Some q) v e =
    subst (λ (verdict : Verdict). IsCorrectVerdict [] depth (Some q) verdict) (same_Some _ v e)
    (plain_verdict_right (side2_of q.side) q.level depth q.message)
verdict_right (word ∷ words) depth (Some q) v e = absurd (cc)

-- the state after a run, and the notes of its moves
pub record Played : Type 0 where
  pub state : SessionState
  pub reported : List Note

abbrev reported_first : List Effect → Option Played → Option Played
reported_first moves None = None
reported_first moves (Some later) =
    Some (record { state = later.state; reported = map (λ move. move.reported) moves ++ later.reported })

abbrev then_played : (SessionState → Option Played) → Successor → Option Played
then_played later outcome = reported_first outcome.effects (later outcome.state)

abbrev played_by : (SessionState → Option Played) → SessionState → Event → Option Verdict → Option Played
played_by later s event None = None
played_by later s event (Some v) = then_played later (event_outcome s event v)

unfoldable pub played : List Event → SessionState → Option Played
played [] s = Some (record { state = s; reported = [] })
played (event ∷ events) s =
    played_by (played events) s event (verdict_on s.limits.words s.limits.max_depth (question s event))

-- it is a run of the machine
abbrev pub AreRuns : List Event → Type 0
AreRuns events =
    (s : SessionState) (p : Played) → played events s ≡ Some p →
    (moves : List Effect) × Runs s events moves p.state × (map (λ move. move.reported) moves ≡ p.reported)

pub played_runs : (events : List Event) → AreRuns events
unfolding played
played_runs [] s p e =
    let same : record { state = s; reported = [] } ≡ p = same_Some _ p e in
    ([], (refl, ap (λ (q : Played). q.state) (sym same)), ap (λ (q : Played). q.reported) same)
played_runs (event ∷ events) s p e =
    by_verdict (λ t q was. played_runs events t q was)
    (verdict_on s.limits.words s.limits.max_depth (question s event)) refl e
  where
    behind : AreRuns events → (v : Verdict) → verdict_on s.limits.words s.limits.max_depth (question s event) ≡ Some v →
        (o : Option Played) → played events (event_outcome s event v).state ≡ o →
        reported_first (event_outcome s event v).effects o ≡ Some p →
        (moves : List Effect) × Runs s (event ∷ events) moves p.state × (map (λ move. move.reported) moves ≡ p.reported)
    behind runs v is None was e = absurd (cc)
    behind runs v is (Some later) was e =
        let out : Successor = event_outcome s event v in
        let rest = runs out.state later was in
        let same : record { state = later.state; reported = map (λ move. move.reported) out.effects ++ later.reported } ≡ p =
        same_Some _ p e in (
          out.effects ++ rest.0,
          (
            out.state,
            out.effects,
            rest.0,
            record {
              verdict = v;
              right = verdict_right s.limits.words s.limits.max_depth (question s event) v is;
              outcome = refl;
            },
            subst (λ (new : SessionState). Runs out.state events rest.0 new) (ap (λ (q : Played). q.state) same) rest.1,
            refl,
          ),
          map-append (λ (move : Effect). move.reported) out.effects rest.0
              ∙ ap (λ (l : List Note). map (λ move. move.reported) out.effects ++ l) rest.2
              ∙ ap (λ (q : Played). q.reported) same,
        )

    by_verdict : AreRuns events → (o : Option Verdict) →
        verdict_on s.limits.words s.limits.max_depth (question s event) ≡ o →
        played_by (played events) s event o ≡ Some p →
        (moves : List Effect) × Runs s (event ∷ events) moves p.state × (map (λ move. move.reported) moves ≡ p.reported)
    by_verdict runs None is e = absurd (cc)
    by_verdict runs (Some v) is e = behind runs v is (played events (event_outcome s event v).state) refl e

-- ---- its entries

-- the entries of a side's moves
unfoldable pub entries_by : ReportKey → Side → List Note → List ReportEntry
entries_by source side [] = []
entries_by source side (reported ∷ notes) =
    record { source = source; side = side; reported = reported } ∷ entries_by source side notes

entries_reported : (source : ReportKey) (side : Side) (moves : List Effect) →
    entries_by source side (map (λ move. move.reported) moves) ≡ entries_of source side moves
unfolding entries_by
entries_reported source side [] = refl
entries_reported source side (move ∷ moves) =
    ap (λ (l : List ReportEntry). record { source = source; side = side; reported = move.reported } ∷ l)
    (entries_reported source side moves)

-- ---- one more line

unfoldable pub has_no_feed : List ℕ → Bool
has_no_feed [] = true
has_no_feed (b ∷ bytes) = if eqb b 10 then false else has_no_feed bytes

pub unbroken : (bytes : List ℕ) → has_no_feed bytes ≡ true → IsUnbroken bytes
unfolding has_no_feed
unbroken [] h = tt
unbroken (b ∷ bytes) h = go (eqb_tells b 10) (unbroken bytes)
  where
    go : ((eqb b 10 ≡ true) × (b ≡ 10)) ⊎ ((eqb b 10 ≡ false) × (b ≡ 10 → ⊥)) →
        (has_no_feed bytes ≡ true → IsUnbroken bytes) → IsUnbroken (b ∷ bytes)
    go (inl t) later = let wrong : false ≡ true = (rw t.0 at h) in absurd (cc)
    go (inr t) later = (t.1, later (rw t.0 at h))

pub line_played : (bytes : List ℕ) (number : ℕ) (reported : List ReportEntry) (version : Version) (states : List SessionState) →
    Reports bytes number reported (Playing version states) → (line : List ℕ) (session : ℕ) (event : LogEvent)
    (state : SessionState) (p : Played) → has_no_feed line ≡ true → length line ≤ 2100 → number < 1000000 →
    event_in version (length states) (without_cr line) ≡ Some (Of session event) →
    slice_get states (session - 1) ≡ Some state → played (events_of_line event) state ≡ Some p →
    Reports (bytes ++ line ++ 10 ∷ []) (number + 1)
    (reported ++ entries_by (source_in version (number + 1) session) (side_of event) p.reported)
    (Playing version (slice_set states (session - 1) p.state))
line_played bytes number reported version states reports line session event state p whole short few is_event place is =
    let run = played_runs (events_of_line event) state p is in
    let source : ReportKey = source_in version (number + 1) session in
    ReportsBy.line bytes number reported (Playing version states) reports line
    (entries_by source (side_of event) p.reported) (Playing version (slice_set states (session - 1) p.state)) few
    (unbroken line whole) short (
      Of session event,
      is_event,
      slice_set states (session - 1) p.state,
      (
        state,
        p.state,
        run.0,
        place,
        run.1,
        ap (entries_by source (side_of event)) (sym run.2) ∙ entries_reported source (side_of event) run.0,
        refl,
      ),
      refl,
    )
