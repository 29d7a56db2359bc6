-- The result of a sequence of calls on each wire.
use Rattle.std.proofs.lemmas.List.{length-append}
use Rattle.std.proofs.Math.Seq.{drop-append_seam}
use Rattle.daide_protocol.proofs.Common.{◌≡◌, ℕ, Bool, true, false, ◌||◌, List, [], ◌∷◌, ◌++◌, length, nat_lt, refl}
use Rattle.daide_protocol.proofs.Common.{sym, ap, ◌∙◌, subst, append_assoc, append-nil, arith, if◌then◌else◌, nat_tests}
use Rattle.daide_protocol.proofs.Common.{Side, Bot, Server, Note, other, same_side, Event, Ends, Loses, ImTimerExpired}
use Rattle.daide_protocol.proofs.Common.{OperatorStops, bytes_come, Limits, Sent, SessionState, Effect, Runs, is_over}
use Rattle.daide_protocol.proofs.Common.{initial_state, SessionView, IsNew, queued, sent_to, sent_bytes}
use Rattle.daide_protocol.specs.Wires.{Refines, Lost, Wrote, account_after, without}
use Rattle.daide_protocol.specs.Calls.{Call, Feeds, Stops, TimesOut, Terminates, Fails, Puts, first_bytes, IsCall, AreCalls}
use Rattle.daide_protocol.specs.Calls.{events_of_calls, taken_by, some_call_fails, Delivers}
use Rattle.daide_protocol.proofs.OneRun.{one_run, runs_join}
use Rattle.daide_protocol.proofs.PieceRuns.{over_stays}
use Rattle.daide_protocol.proofs.WireLemmas.{sent_to-append, sent_bytes-append}
use Rattle.daide_protocol.proofs.AccountLemmas.{accounted_then}
use Rattle.daide_protocol.proofs.LimitsKept.{runs_limits}

-- ---- the bytes that a wire takes

first_left : (frame : Sent) (frames : List Sent) (bytes rest : List ℕ) (less : Bool) →
    nat_lt (length bytes) (length (bytes ++ rest)) ≡ less →
    bytes ++ sent_bytes
    (if less then record { to = frame.to; answers = frame.answers; bytes = rest } ∷ frames else frames)
    ≡ (bytes ++ rest) ++ sent_bytes frames
first_left frame frames bytes rest true e = sym (append_assoc bytes rest (sent_bytes frames))
first_left frame frames bytes [] false e = ap (λ (x : List ℕ). x ++ sent_bytes frames) (sym (append-nil bytes))
first_left frame frames bytes (x ∷ rest) false e =
    let len = length-append bytes (x ∷ rest) in
    let f : nat_lt (length bytes) (length (bytes ++ x ∷ rest)) ≡ true = grind (arith, nat_tests) in
    absurd cc

-- the bytes taken of the first frame and those still queued are the bytes queued before
taken_first : (bytes rest : List ℕ) (frames : List Sent) → first_bytes frames ≡ bytes ++ rest →
    bytes ++ sent_bytes (without (length bytes) frames) ≡ sent_bytes frames
taken_first [] rest [] e = refl
taken_first (x ∷ bytes) rest [] e = absurd cc
taken_first bytes rest (frame ∷ frames) e =
    rw (e, drop-append_seam)
    (first_left frame frames bytes rest (nat_lt (length bytes) (length (bytes ++ rest))) refl)

-- ---- after the end

is_other : (to side : Side) → same_side to side ≡ false → side ≡ other to
is_other Bot Bot e = absurd cc
is_other Bot Server e = refl
is_other Server Bot e = refl
is_other Server Server e = absurd cc

is_same : (to side : Side) → same_side to side ≡ true → side ≡ to
is_same Bot Bot e = refl
is_same Bot Server e = absurd cc
is_same Server Bot e = absurd cc
is_same Server Server e = refl

-- a session that is over, with an empty queue for one wire
record IsShut (g : SessionView) (side : Side) : Type 0 where
  over : is_over g.state.phase ≡ true
  empty : queued g side ≡ []

goes_shut : (old : SessionView) (events : List Event) (reported : Note) (new : SessionView) (side : Side) → IsShut old side →
    Refines old events reported new → IsShut new side
goes_shut old events reported new side shut goes =
    let none = one_run events old.state goes.effects [] new.state old.state goes.run
    (over_stays old.state events shut.over) in
    record {
      over = ap (λ (s : SessionState). is_over s.phase) none.1 ∙ shut.over;
      empty = goes.kept side ∙ (ap (λ (e : List Effect). queued old side ++ sent_to side e) none.0
          ∙ (append-nil (queued old side) ∙ shut.empty));
    }

lost_shut : (old : SessionView) (to : Side) (new : SessionView) (side : Side) → IsShut old side → Lost old to new →
    IsShut new side
lost_shut old to new side shut lost = record { over = lost.over; empty = go (same_side to side) refl }
  where
    none : (lost.effects ≡ []) × (new.state ≡ old.state)
    none = one_run (Loses to ∷ []) old.state lost.effects [] new.state old.state lost.run
        (over_stays old.state (Loses to ∷ []) shut.over)

    go : (b : Bool) → same_side to side ≡ b → queued new side ≡ []
    go true e = subst (λ (s : Side). queued new s ≡ []) (sym (is_same to side e)) lost.dropped
    go false e =
        let beside = subst (λ (s : Side). queued new s ≡ queued old s ++ sent_to s lost.effects)
        (sym (is_other to side e)) lost.other_wire in
        beside ∙ (ap (λ (e : List Effect). queued old side ++ sent_to side e) none.0
        ∙ (append-nil (queued old side) ∙ shut.empty))

wrote_shut : (old : SessionView) (to : Side) (n : ℕ) (new : SessionView) (side : Side) → IsShut old side →
    Wrote old to n new → IsShut new side
wrote_shut old to n new side shut wrote = record {
  over = ap (λ (s : SessionState). is_over s.phase) wrote.same_state ∙ shut.over;
  empty = go (same_side to side) refl;
}
  where
    go : (b : Bool) → same_side to side ≡ b → queued new side ≡ []
    go true e =
        let its = subst (λ (s : Side). queued new s ≡ without n (queued old s))
        (sym (is_same to side e)) wrote.taken in
        its ∙ ap (without n) shut.empty
    go false e =
        let beside = subst (λ (s : Side). queued new s ≡ queued old s) (sym (is_other to side e)) wrote.other_wire in
        beside ∙ shut.empty

call_shut : (old : SessionView) (call : Call) (new : SessionView) (side : Side) → IsShut old side → IsCall old call new →
    IsShut new side
call_shut old (Feeds from piece) new side shut (reported, goes) =
    goes_shut old (bytes_come from piece) reported new side shut goes
call_shut old (Stops from) new side shut (reported, goes) = goes_shut old (Ends from ∷ []) reported new side shut goes
call_shut old TimesOut new side shut (reported, goes) = goes_shut old (ImTimerExpired ∷ []) reported new side shut goes
call_shut old Terminates new side shut (reported, goes) = goes_shut old (OperatorStops ∷ []) reported new side shut goes
call_shut old (Fails to) new side shut lost = lost_shut old to new side shut lost
call_shut old (Puts to bytes) new side shut (front, wrote) = wrote_shut old to (length bytes) new side shut wrote

-- then that wire takes no more bytes, and its queue stays empty
nothing_taken : (side : Side) (calls : List Call) (old new : SessionView) → IsShut old side → AreCalls old calls new →
    (taken_by side calls ≡ []) × (queued new side ≡ [])
nothing_taken side [] old new shut same = (refl, ap (λ (g : SessionView). queued g side) same ∙ shut.empty)
nothing_taken side (call ∷ calls) old new shut (mid, one, more) =
    go call one (nothing_taken side calls mid new (call_shut old call mid side shut one) more)
  where
    left_nil : (bytes rest : List ℕ) → [] ≡ bytes ++ rest → bytes ≡ []
    left_nil [] rest e = refl
    left_nil (x ∷ bytes) rest e = absurd cc

    go : (call : Call) → IsCall old call mid → (taken_by side calls ≡ []) × (queued new side ≡ []) →
        (taken_by side (call ∷ calls) ≡ []) × (queued new side ≡ [])
    go (Feeds from piece) one ih = ih
    go (Stops from) one ih = ih
    go TimesOut one ih = ih
    go Terminates one ih = ih
    go (Fails to) one ih = ih
    go (Puts to bytes) ((rest, front), wrote) ih = (here (same_side to side) refl, ih.1)
      where
        here : (b : Bool) → same_side to side ≡ b →
            (if same_side to side then bytes ++ taken_by side calls else taken_by side calls) ≡ []
        here true e =
            let at_side = subst (λ (s : Side). first_bytes (queued old s) ≡ bytes ++ rest)
            (sym (is_same to side e)) front in
            let none = left_nil bytes rest (sym (ap first_bytes shut.empty) ∙ at_side) in
            rw (e, none) ih.0
        here false e = rw e ih.0

-- ---- the effect of the first call

-- the wire's frames, and the bytes that the calls took of them
abbrev IsTakenOf : Side → List Call → SessionView → List Sent → Type 0
IsTakenOf side calls new frames =
    (some_call_fails side calls ≡ false → taken_by side calls ++ sent_bytes (queued new side) ≡ sent_bytes frames)
    × (some_call_fails side calls ≡ true → (queued new side ≡ [])
    × ((rest : List ℕ) × (taken_by side calls ++ rest ≡ sent_bytes frames)))

its_wire : (old : SessionView) (calls : List Call) (new : SessionView) (d : Delivers old calls new) (side : Side) →
    IsTakenOf side calls new (queued old side ++ sent_to side d.effects)
its_wire old calls new d side = (d.delivered side, d.cut_off side)

-- the frames queued, and the frames that the effects of the first call and of the later ones send
both_sent : (side : Side) (now later : List Sent) (a b : List Effect) → later ≡ now ++ sent_to side a →
    later ++ sent_to side b ≡ now ++ sent_to side (a ++ b)
both_sent side now later a b first =
    ap (λ (x : List Sent). x ++ sent_to side b) first
    ∙ (append_assoc now (sent_to side a) (sent_to side b)
    ∙ ap (λ (x : List Sent). now ++ x) (sym (sent_to-append side a b)))

goes_on : (calls : List Call) (old mid new : SessionView) (events : List Event) (reported : Note)
    (goes : Refines old events reported mid) (d : Delivers mid calls new) (side : Side) →
    IsTakenOf side calls new (queued old side ++ sent_to side (goes.effects ++ d.effects))
goes_on calls old mid new events reported goes d side =
    subst (IsTakenOf side calls new)
    (both_sent side (queued old side) (queued mid side) goes.effects d.effects (goes.kept side))
    (its_wire mid calls new d side)

not_both : {A : Type 0} → true ≡ false → A
not_both e = absurd cc

fails_on : (calls : List Call) (old mid new : SessionView) (to : Side) (lost : Lost old to mid)
    (d : Delivers mid calls new) → AreCalls mid calls new → (side : Side) →
    IsTakenOf side (Fails to ∷ calls) new (queued old side ++ sent_to side (lost.effects ++ d.effects))
fails_on calls old mid new to lost d are side = go (same_side to side) refl
  where
    frames : List Sent
    frames = queued old side ++ sent_to side (lost.effects ++ d.effects)

    go : (b : Bool) → same_side to side ≡ b → IsTakenOf side (Fails to ∷ calls) new frames
    go true e =
        let empty = subst (λ (s : Side). queued mid s ≡ []) (sym (is_same to side e)) lost.dropped in
        let after = nothing_taken side calls mid new (record { over = lost.over; empty = empty }) are in (
          (λ live. not_both (subst (λ (b : Bool). (b || some_call_fails side calls) ≡ false) e live)),
          (λ failed. (after.1, (sent_bytes frames, ap (λ (x : List ℕ). x ++ sent_bytes frames) after.0))),
        )
    go false e =
        let beside = subst (λ (s : Side). queued mid s ≡ queued old s ++ sent_to s lost.effects)
        (sym (is_other to side e)) lost.other_wire in
        let later = subst (IsTakenOf side calls new)
        (both_sent side (queued old side) (queued mid side) lost.effects d.effects beside)
        (its_wire mid calls new d side) in (
          (λ live. later.0 (subst (λ (b : Bool). (b || some_call_fails side calls) ≡ false) e live)),
          (λ failed. later.1 (subst (λ (b : Bool). (b || some_call_fails side calls) ≡ true) e failed)),
        )

-- the bytes that a wire took, before those that it took later
taken_and_more : (bytes taken left : List ℕ) (now later sent : List Sent) → bytes ++ sent_bytes later ≡ sent_bytes now →
    taken ++ left ≡ sent_bytes (later ++ sent) → (bytes ++ taken) ++ left ≡ sent_bytes (now ++ sent)
taken_and_more bytes taken left now later sent first more =
    append_assoc bytes taken left
    ∙ (ap (λ (x : List ℕ). bytes ++ x) (more ∙ sent_bytes-append later sent)
    ∙ (sym (append_assoc bytes (sent_bytes later) (sent_bytes sent))
    ∙ (ap (λ (x : List ℕ). x ++ sent_bytes sent) first ∙ sym (sent_bytes-append now sent))))

puts_on : (calls : List Call) (old mid new : SessionView) (to : Side) (bytes rest : List ℕ) →
    first_bytes (queued old to) ≡ bytes ++ rest → Wrote old to (length bytes) mid → (d : Delivers mid calls new) →
    (side : Side) → IsTakenOf side (Puts to bytes ∷ calls) new (queued old side ++ sent_to side d.effects)
puts_on calls old mid new to bytes rest front wrote d side = go (same_side to side) refl
  where
    sent : List Sent
    sent = sent_to side d.effects

    go : (b : Bool) → same_side to side ≡ b → IsTakenOf side (Puts to bytes ∷ calls) new (queued old side ++ sent)
    go true e =
        let at_side = subst (λ (s : Side). first_bytes (queued old s) ≡ bytes ++ rest)
        (sym (is_same to side e)) front in
        let left = subst (λ (s : Side). queued mid s ≡ without (length bytes) (queued old s))
        (sym (is_same to side e)) wrote.taken in
        let first : bytes ++ sent_bytes (queued mid side) ≡ sent_bytes (queued old side) =
        ap (λ (x : List Sent). bytes ++ sent_bytes x) left ∙ taken_first bytes rest (queued old side) at_side in
        rw e (
          (λ live. taken_and_more bytes (taken_by side calls) (sent_bytes (queued new side)) (queued old side)
              (queued mid side) sent first (d.delivered side live)),
          (λ failed.
              let later = d.cut_off side failed in (
                later.0,
                (
                  later.1.0,
                  taken_and_more bytes (taken_by side calls) later.1.0 (queued old side)
                      (queued mid side) sent first later.1.1,
                ),
              )),
        )
    go false e =
        let beside = subst (λ (s : Side). queued mid s ≡ queued old s) (sym (is_other to side e)) wrote.other_wire in
        rw e (subst (λ (x : List Sent). IsTakenOf side calls new (x ++ sent)) beside (its_wire mid calls new d side))

-- ---- all calls

by_wires : (old : SessionView) (calls : List Call) (new : SessionView) (effects : List Effect) →
    Runs old.state (events_of_calls calls) effects new.state → new.account ≡ account_after old effects →
    ((side : Side) → IsTakenOf side calls new (queued old side ++ sent_to side effects)) → Delivers old calls new
by_wires old calls new effects run counts wires = record {
  effects = effects;
  run = run;
  counts = counts;
  delivered = λ side. (wires side).0;
  cut_off = λ side. (wires side).1;
}

then_runs : (old mid : SessionView) (events : List Event) (reported : Note) (goes : Refines old events reported mid)
    (calls : List Call) (new : SessionView) (d : Delivers mid calls new) →
    Runs old.state (events ++ events_of_calls calls) (goes.effects ++ d.effects) new.state
then_runs old mid events reported goes calls new d =
    runs_join events (events_of_calls calls) old.state mid.state new.state goes.effects d.effects goes.run d.run

-- one call, and the later ones
first_call : (old mid new : SessionView) (call : Call) (calls : List Call) → IsCall old call mid → AreCalls mid calls new →
    Delivers mid calls new → Delivers old (call ∷ calls) new
first_call old mid new (Feeds from piece) calls (reported, goes) are d =
    by_wires old (Feeds from piece ∷ calls) new (goes.effects ++ d.effects)
    (then_runs old mid (bytes_come from piece) reported goes calls new d)
    (accounted_then goes.effects d.effects old mid new
    (runs_limits (bytes_come from piece) old.state mid.state goes.effects goes.run) goes.counts d.counts)
    (goes_on calls old mid new (bytes_come from piece) reported goes d)
first_call old mid new (Stops from) calls (reported, goes) are d =
    by_wires old (Stops from ∷ calls) new (goes.effects ++ d.effects)
    (then_runs old mid (Ends from ∷ []) reported goes calls new d)
    (accounted_then goes.effects d.effects old mid new
    (runs_limits (Ends from ∷ []) old.state mid.state goes.effects goes.run) goes.counts d.counts)
    (goes_on calls old mid new (Ends from ∷ []) reported goes d)
first_call old mid new TimesOut calls (reported, goes) are d =
    by_wires old (TimesOut ∷ calls) new (goes.effects ++ d.effects)
    (then_runs old mid (ImTimerExpired ∷ []) reported goes calls new d)
    (accounted_then goes.effects d.effects old mid new
    (runs_limits (ImTimerExpired ∷ []) old.state mid.state goes.effects goes.run) goes.counts d.counts)
    (goes_on calls old mid new (ImTimerExpired ∷ []) reported goes d)
first_call old mid new Terminates calls (reported, goes) are d =
    by_wires old (Terminates ∷ calls) new (goes.effects ++ d.effects)
    (then_runs old mid (OperatorStops ∷ []) reported goes calls new d)
    (accounted_then goes.effects d.effects old mid new
    (runs_limits (OperatorStops ∷ []) old.state mid.state goes.effects goes.run) goes.counts d.counts)
    (goes_on calls old mid new (OperatorStops ∷ []) reported goes d)
first_call old mid new (Fails to) calls lost are d =
    by_wires old (Fails to ∷ calls) new (lost.effects ++ d.effects)
    (runs_join (Loses to ∷ []) (events_of_calls calls) old.state mid.state new.state lost.effects d.effects lost.run d.run)
    (accounted_then lost.effects d.effects old mid new
    (runs_limits (Loses to ∷ []) old.state mid.state lost.effects lost.run) lost.counts d.counts)
    (fails_on calls old mid new to lost d are)
first_call old mid new (Puts to bytes) calls ((rest, front), wrote) are d =
    by_wires old (Puts to bytes ∷ calls) new d.effects
    (subst (λ (s : SessionState). Runs s (events_of_calls calls) d.effects new.state) wrote.same_state d.run)
    (accounted_then [] d.effects old mid new (ap (λ (s : SessionState). s.limits) wrote.same_state) wrote.counts d.counts)
    (puts_on calls old mid new to bytes rest front wrote d)

-- for each wire, the bytes taken and those still queued are the bytes queued before and the frames of the run
pub calls_deliver : (calls : List Call) (old new : SessionView) → AreCalls old calls new → Delivers old calls new
calls_deliver [] old new same =
    by_wires old [] new [] (refl, ap (λ (g : SessionView). g.state) same) (ap (λ (g : SessionView). g.account) same) (λ side. (
      (λ live.
          ap (λ (g : SessionView). sent_bytes (queued g side)) same ∙ sym (ap sent_bytes (append-nil (queued old side)))),
      (λ failed. absurd cc),
    ))
calls_deliver (call ∷ calls) old new (mid, one, more) =
    first_call old mid new call calls one more (calls_deliver calls mid new more)

-- ---- from a session's start

-- from the start, a wire gets the frames that are sent
pub from_the_start : (limits : Limits) (old new : SessionView) (calls : List Call) (start : IsNew limits old)
    (d : Delivers old calls new) (side : Side) → some_call_fails side calls ≡ false →
    taken_by side calls ++ sent_bytes (queued new side) ≡ sent_bytes (sent_to side d.effects)
from_the_start limits old new calls start d side live =
    d.delivered side live
    ∙ ap (λ (x : List Sent). sent_bytes (x ++ sent_to side d.effects)) (start.quiet side)

pub wires_get_answers : (limits : Limits) (old new : SessionView) (calls : List Call) → IsNew limits old →
    AreCalls old calls new → (effects : List Effect) × Runs (initial_state limits) (events_of_calls calls) effects new.state
    × ((side : Side) → some_call_fails side calls ≡ false →
    taken_by side calls ++ sent_bytes (queued new side) ≡ sent_bytes (sent_to side effects))
wires_get_answers limits old new calls start are =
    let d = calls_deliver calls old new are in (
      d.effects,
      subst (λ (s : SessionState). Runs s (events_of_calls calls) d.effects new.state) start.state d.run,
      from_the_start limits old new calls start d,
    )

pub events_alone : (limits : Limits) (one other one_new other_new : SessionView) (calls more : List Call) →
    IsNew limits one → IsNew limits other → AreCalls one calls one_new → AreCalls other more other_new →
    events_of_calls calls ≡ events_of_calls more → (one_new.state ≡ other_new.state)
    × ((side : Side) → some_call_fails side calls ≡ false → some_call_fails side more ≡ false →
    taken_by side calls ++ sent_bytes (queued one_new side) ≡ taken_by side more ++ sent_bytes (queued other_new side))
events_alone limits one other one_new other_new calls more one_start other_start one_are other_are same =
    let a = wires_get_answers limits one one_new calls one_start one_are in
    let b = wires_get_answers limits other other_new more other_start other_are in
    let its_run = subst (λ (es : List Event). Runs (initial_state limits) es a.0 one_new.state) same a.1 in
    let runs = one_run (events_of_calls more) (initial_state limits) a.0 b.0 one_new.state other_new.state its_run b.1 in (
      runs.1,
      (λ side one_live other_live.
          a.2 side one_live
          ∙ (ap (λ (e : List Effect). sent_bytes (sent_to side e)) runs.0 ∙ sym (b.2 side other_live))),
    )
