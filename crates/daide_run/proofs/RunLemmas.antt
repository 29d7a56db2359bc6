-- How a run ends, by the calls that the loop made of a system over sockets.
use Rattle.std.proofs.Common.{◌≡◌, ℕ, zero, suc, ◌+◌, ◌*◌, List, [], ◌∷◌, Option, None, Result, Ok, Err, inl, inr, ap, sym, subst}
use Rattle.std.proofs.Common.{refl, ◌∙◌}
use Rattle.std.proofs.lemmas.List.{length-replicate}
use Rattle.std.specs.Prelude.{replicate}
use Rattle.std.specs.Result.{OnOk, IfErr}
use Rattle.std.specs.declared.time.Instant.{Instant}
use Rattle.daide_io.specs.Network.{NetworkCall}
use Rattle.daide_io.specs.Ports.{PortCall}
use Rattle.daide_io.specs.ReadyQueue.{one_if}
use Rattle.daide_io.specs.Streams.{StreamCall}
use Rattle.daide_io.specs.System.{SystemCall, TransitsBy}
use Rattle.daide_settings.specs.declared.settings.Settings.{Settings}
use Rattle.daide_event_loop.specs.declared.serving.ServeFault.{ServeFault}
use Rattle.daide_event_loop.specs.Served.{IsWholeRun}
use Rattle.daide_event_loop.specs.Serving.{GivesUp}
use Rattle.daide_log.specs.Recording.{Recorded}
use Rattle.daide_sockets.specs.declared.ports.SocketPorts.{SocketPorts}
use Rattle.daide_sockets.specs.Finishing.{FinishesAll}
use Rattle.daide_sockets.specs.Lingering.{ClosingList}
use Rattle.daide_sockets.specs.Rows.{AreRowsOf}
use Rattle.daide_sockets.specs.Scheduling.{RunEvolves, RunState}
use Rattle.daide_sockets.specs.Table.{Table, free_row, new_table, row_at}
use Rattle.daide_run.specs.declared.running.RunFault.{RunFault}
use Rattle.daide_run.specs.declared.running.RunFault.TheVariants.{Gateway, Memory, Record}
use Rattle.daide_run.specs.declared.running.RunFault.TheVariants as run_faults
use Rattle.daide_run.specs.Folder.{CallRecords, RecordEvents, RecordHead, TraceRecords, head_for}
use Rattle.daide_run.specs.Gateway.{Announces}
use Rattle.daide_run.specs.Running.{Serves, RunEnds, SettingsRun, IsBeforeRun}

-- a row among free rows is not taken
free_there : (count key : ℕ) → one_if (row_at (replicate count free_row) key).is_taken ≡ 0
free_there zero key = refl
free_there (suc count) zero = refl
free_there (suc count) (suc key) = free_there count key

-- no row of a new table is taken
pub none_taken : (table : Table) (places : ℕ) → table ≡ new_table places 256 → AreRowsOf table []
none_taken table places e = subst (λ (t : Table). AreRowsOf t []) (sym e) (record {
  taken = λ key. free_there (2 * places + 10 + 256) key;
  beyond = λ key lt. refl;
  count = length-replicate (2 * places + 10 + 256) free_row
      ∙ sym (ap (λ (n : ℕ). 2 * n + 10 + 256) (length-replicate {A = Option Instant} places None));
})

module _ {N S : Type 0} (transition : N → NetworkCall S → N → Type 0) (to_give taken : S → Option (List ℕ))
    (calls : S → Option (List StreamCall))
    (port_transition : Recorded (SocketPorts S) → PortCall → Recorded (SocketPorts S) → Type 0) (outside : RecordEvents) where
  abbrev P : Type 0
  P = Recorded (SocketPorts S)

  abbrev Evolves : RunState N S → SystemCall P → RunState N S → Type 0
  Evolves = RunEvolves transition to_give taken calls (λ ports. ports.ports)

  -- A system whose calls evolve the sockets of a run, and begin records with a head that stays.
  module _ {T : Type 0} (state_of : T → RunState N S) (head_of : T → RecordHead) (step : T → SystemCall P → T → Type 0)
      (evolves : (old : T) (call : SystemCall P) (new : T) → step old call new → Evolves (state_of old) call (state_of new)
      × CallRecords outside (head_of old) call × (head_of new ≡ head_of old)) where
    states_go : (trace : List (SystemCall P)) (old new : T) → TransitsBy step old trace new →
        TransitsBy Evolves (state_of old) trace (state_of new)
    states_go [] old new e = ap state_of e
    states_go (call ∷ trace) old new h =
        (state_of h.0, (evolves old call h.0 h.1).0, states_go trace h.0 new h.2)

    records_go : (trace : List (SystemCall P)) (old new : T) → TransitsBy step old trace new →
        TraceRecords outside (head_of old) trace
    records_go [] old new e = tt
    records_go (call ∷ trace) old new h =
        let stepped = evolves old call h.0 h.1 in (
          stepped.1,
          subst (λ (head : RecordHead). TraceRecords outside head trace) stepped.2 (records_go trace h.0 new h.2),
        )

    -- a run on it ends by the result of its loop, and then waits
    serves_from : (settings : Settings) (failed : Type 0) (before after : Option (List ℕ)) (begun ended : T)
        (last : ClosingList S) (served : Result (Unit {0}) ServeFault) → Announces failed before after →
        OnOk served ((trace : List (SystemCall P)) × TransitsBy step begun trace ended
        × IsWholeRun port_transition settings trace) →
        IfErr served (λ fault. (trace : List (SystemCall P)) × TransitsBy step begun trace ended
        × GivesUp (λ n. Unit {0}) port_transition settings fault trace) →
        FinishesAll transition to_give taken calls 18446744073709551615 (state_of ended).network
        (state_of ended).table.reading (state_of ended).closing last →
        Serves transition to_give taken calls port_transition outside (head_of begun) settings failed before after
        (state_of begun) served
    serves_from settings failed before after begun ended last (Ok done) said whole given_up waits = (
      said,
      record {
        trace = whole.0;
        ended = state_of ended;
        last = last;
        evolves = states_go whole.0 begun ended whole.1;
        kind = whole.2;
        recorded = records_go whole.0 begun ended whole.1;
        finishes = waits;
      },
    )
    serves_from settings failed before after begun ended last (Err fault) said whole given_up waits = (
      said,
      record {
        trace = given_up.0;
        ended = state_of ended;
        last = last;
        evolves = states_go given_up.0 begun ended given_up.1;
        kind = given_up.2;
        recorded = records_go given_up.0 begun ended given_up.1;
        finishes = waits;
      },
    )

    -- the same from a state and a head that are those of the system
    pub serves_on : (settings : Settings) (failed : Type 0) (before after : Option (List ℕ)) (begun ended : T)
        (opened : RunState N S) (head : RecordHead) (last : ClosingList S) (served : Result (Unit {0}) ServeFault) →
        state_of begun ≡ opened → head_of begun ≡ head → Announces failed before after →
        OnOk served ((trace : List (SystemCall P)) × TransitsBy step begun trace ended
        × IsWholeRun port_transition settings trace) →
        IfErr served (λ fault. (trace : List (SystemCall P)) × TransitsBy step begun trace ended
        × GivesUp (λ n. Unit {0}) port_transition settings fault trace) →
        FinishesAll transition to_give taken calls 18446744073709551615 (state_of ended).network
        (state_of ended).table.reading (state_of ended).closing last →
        Serves transition to_give taken calls port_transition outside head settings failed before after opened served
    serves_on settings failed before after begun ended opened head last served same same_head said whole given_up waits =
        subst (λ (s : RunState N S).
        Serves transition to_give taken calls port_transition outside head settings failed before after s served)
        same
        (subst (λ (h : RecordHead).
        Serves transition to_give taken calls port_transition outside h settings failed before after (state_of begun) served)
        same_head (serves_from settings failed before after begun ended last served said whole given_up waits))

  -- what does not begin without records does not begin with them
  before_with : {F : Type 0} (records : Option F) (settings : Settings) (fault : RunFault) →
      IsBeforeRun {F = Unit {0}} None settings fault → IsBeforeRun records settings fault
  before_with records settings (Gateway fault) h = h
  before_with records settings (Record cause) h = absurd (let none = h.1 in cc)
  before_with records settings Memory h = absurd h
  before_with records settings (run_faults.Settings fault) h = absurd h

  pub runs_with : {F : Type 0} (records : Option F) (head : RecordHead) (settings : Settings) (failed : Type 0)
      (before after : Option (List ℕ)) (result : Result (Unit {0}) RunFault) → head ≡ head_for settings records →
      SettingsRun {F = Unit {0}} None transition to_give taken calls port_transition outside head settings failed before
      after result →
      SettingsRun records transition to_give taken calls port_transition outside (head_for settings records) settings
      failed before after result
  runs_with records head settings failed before after result same (inl h) =
      inl (h.0, h.1, h.2, before_with records settings h.0 h.3)
  runs_with records head settings failed before after result same (inr h) =
      inr (
        h.0,
        subst (λ (with : RecordHead).
            RunEnds transition to_give taken calls port_transition outside with settings failed h.0 before after result)
            same h.1,
      )
