-- The effect of one port call on a session and its wires.
use Rattle.std.proofs.Common.{◌≡◌, ℕ, ◌<◌, ◌≤◌, Bool, true, false, cond, ltb, eqb, List, [], ◌∷◌, ◌++◌, length, take}
use Rattle.std.proofs.Common.{drop}
use Rattle.std.proofs.Common.{refl, sym, ap, ◌∙◌, subst, arith, append_assoc, append-nil, zero, suc, inl}
use Rattle.std.proofs.Common.{inr}
use Rattle.std.proofs.Common.{◌⊎◌}
use Rattle.std.proofs.lemmas.List.{take-append-le, take-append-drop, take_all}
use Rattle.std.proofs.lemmas.Bool.Decides.{leb_tells}
use Rattle.daide_frame.specs.declared.side.Side.{Side}
use Rattle.daide_frame.specs.declared.side.Side.TheVariants.{Bot, Server}
use Rattle.daide_protocol.specs.declared.note.Note.{Note}
use Rattle.daide_frame.specs.Side.{other}
use Rattle.daide_protocol.specs.Events.{Event, Ends, ImTimerExpired, OperatorStops, bytes_come}
use Rattle.daide_protocol.specs.Machine.{Sent, Effect, Runs, is_over}
use Rattle.daide_protocol.specs.Wires.{SessionView, queued, sent_to, sent_bytes, without}
use Rattle.daide_protocol.specs.Wires.{Refines, Lost, Wrote, IsFrontOf}
use Rattle.daide_protocol.proofs.WireLemmas.{sent_bytes-append}
use Rattle.daide_session.proofs.SessionFronts.{apart}
use Rattle.daide_session.proofs.WorkLemmas.{paid_same}
use Rattle.daide_io.specs.declared.ports.ClockEvent.TheVariants.{NoEvent, ImTimeIsOver, StopIsRequested}
use Rattle.daide_io.specs.declared.ports.Pull.TheVariants.{Got, Idle, Ended}
use Rattle.daide_io.specs.declared.ports.Put.TheVariants.{Took, Failed}
use Rattle.daide_io.specs.Ports.{TurnBegins, Clock, Pulled, Offered, taken, has_failed}
use Rattle.daide_driver.specs.Record.{Moved}
use Rattle.daide_driver.specs.Totals.{RefinesRun, Works}

goes_wire : (a : SessionView) (es : List Event) (note : Note) (b : SessionView) (g : Refines a es note b) (side : Side) →
    sent_bytes (queued a side) ++ sent_bytes (sent_to side g.effects) ≡ sent_bytes (queued b side)
goes_wire a es note b g side =
    sym (ap sent_bytes (g.kept side) ∙ sent_bytes-append (queued a side) (sent_to side g.effects))

-- ---- the clock and the pulls

pub turn_begins : (a : SessionView) → RefinesRun a (TurnBegins ∷ []) a
turn_begins a = record {
  sends = record {
    effects = [];
    run = (refl, refl);
    wires = λ side. append-nil (sent_bytes (queued a side));
  };
  counts = refl;
  work = λ side. paid_same side a a refl refl;
}

pub clock_pops : (a b : SessionView) (note : Note) → Works a (Clock ImTimeIsOver ∷ []) b → Refines a (ImTimerExpired ∷ []) note b →
    RefinesRun a (Clock ImTimeIsOver ∷ []) b
clock_pops a b note work g = record {
  sends = record {
    effects = g.effects;
    run = g.run;
    wires = λ side. goes_wire a (ImTimerExpired ∷ []) note b g side;
  };
  counts = g.counts;
  work = work;
}

pub clock_stops : (a b : SessionView) (note : Note) → Works a (Clock StopIsRequested ∷ []) b →
    Refines a (OperatorStops ∷ []) note b → RefinesRun a (Clock StopIsRequested ∷ []) b
clock_stops a b note work g = record {
  sends = record {
    effects = g.effects;
    run = g.run;
    wires = λ side. goes_wire a (OperatorStops ∷ []) note b g side;
  };
  counts = g.counts;
  work = work;
}

pub clock_runs : (a : SessionView) → Works a (Clock NoEvent ∷ []) a → RefinesRun a (Clock NoEvent ∷ []) a
clock_runs a work = record {
  sends = record {
    effects = [];
    run = (refl, refl);
    wires = λ side. append-nil (sent_bytes (queued a side));
  };
  counts = refl;
  work = work;
}

pub got_bytes : (a : SessionView) (side : Side) (len n : ℕ) (bytes : List ℕ) (note : Note) (b : SessionView) →
    Works a (Pulled side len (Got n) bytes ∷ []) b → Refines a (bytes_come side bytes) note b →
    RefinesRun a (Pulled side len (Got n) bytes ∷ []) b
got_bytes a side len n bytes note b work g = record {
  sends = record {
    effects = g.effects;
    run = subst (λ (es : List Event). Runs a.state es g.effects b.state) (sym (append-nil (bytes_come side bytes))) g.run;
    wires = λ one. goes_wire a (bytes_come side bytes) note b g one;
  };
  counts = g.counts;
  work = work;
}

pub was_idle : (a : SessionView) (side : Side) (len : ℕ) (bytes : List ℕ) → Works a (Pulled side len Idle bytes ∷ []) a →
    RefinesRun a (Pulled side len Idle bytes ∷ []) a
was_idle a side len bytes work = record {
  sends = record {
    effects = [];
    run = (refl, refl);
    wires = λ one. append-nil (sent_bytes (queued a one));
  };
  counts = refl;
  work = work;
}

pub has_ended : (a : SessionView) (side : Side) (len : ℕ) (bytes : List ℕ) (note : Note) (b : SessionView) →
    Works a (Pulled side len Ended bytes ∷ []) b → Refines a (Ends side ∷ []) note b →
    RefinesRun a (Pulled side len Ended bytes ∷ []) b
has_ended a side len bytes note b work g = record {
  sends = record {
    effects = g.effects;
    run = g.run;
    wires = λ one. goes_wire a (Ends side ∷ []) note b g one;
  };
  counts = g.counts;
  work = work;
}

-- ---- a front that is removed from the queue

not_less : (a b : ℕ) → ((ltb a b ≡ true) × (suc a ≤ b)) ⊎ ((ltb a b ≡ false) × (b < suc a)) → false ≡ ltb a b → b ≤ a
not_less a b (inl t) e = absurd (let x : false ≡ true = e ∙ t.0 in cc)
not_less a b (inr t) e = omega arith

take_nothing : (n : ℕ) → ◌≡◌ {A = List ℕ} [] (take n [] ++ [])
take_nothing zero = refl
take_nothing (suc n) = refl

by_length : (n : ℕ) (xs rest : List ℕ) (frame : Sent) (frames : List Sent) (b : Bool) → b ≡ ltb n (length frame.bytes) →
    frame.bytes ≡ xs ++ rest → n ≤ length xs →
    frame.bytes ++ sent_bytes frames
    ≡ take n xs ++ sent_bytes (cond b
    (record { to = frame.to; answers = frame.answers; bytes = drop n frame.bytes } ∷ frames) frames)
by_length n xs rest frame frames true l e h =
    let front : take n xs ≡ take n frame.bytes = sym (ap (take n) e ∙ take-append-le n xs rest h) in
    let split : take n xs ++ drop n frame.bytes ≡ frame.bytes =
    ap (λ (t : List ℕ). t ++ drop n frame.bytes) front ∙ take-append-drop n frame.bytes in
    ap (λ (t : List ℕ). t ++ sent_bytes frames) (sym split)
    ∙ append_assoc (take n xs) (drop n frame.bytes) (sent_bytes frames)
by_length n xs rest frame frames false l e h =
    let front : take n xs ≡ take n frame.bytes = sym (ap (take n) e ∙ take-append-le n xs rest h) in
    let all : take n frame.bytes ≡ frame.bytes =
    take_all n frame.bytes (not_less n (length frame.bytes) (leb_tells (suc n) (length frame.bytes)) l) in
    ap (λ (t : List ℕ). t ++ sent_bytes frames) (sym (front ∙ all))

without_bytes : (n : ℕ) (xs : List ℕ) (frames : List Sent) → IsFrontOf xs frames → n ≤ length xs →
    sent_bytes frames ≡ take n xs ++ sent_bytes (without n frames)
without_bytes n xs [] f h = rw f (take_nothing n)
without_bytes n xs (frame ∷ frames) f h =
    by_length n xs f.1.0 frame frames (ltb n (length frame.bytes)) refl f.1.1 h

-- ---- the puts

-- the wire that accepted n bytes
this_wire : (a : SessionView) (side : Side) (bytes : List ℕ) (n : ℕ) (b : SessionView) → IsFrontOf bytes (queued a side) →
    n ≤ length bytes → Wrote a side n b →
    sent_bytes (queued a side) ++ [] ≡ (take n bytes ++ []) ++ sent_bytes (queued b side)
this_wire a side bytes n b f h g =
    append-nil (sent_bytes (queued a side)) ∙ without_bytes n bytes (queued a side) f h
    ∙ rw (append-nil (take n bytes)) (ap (λ (t : List Sent). take n bytes ++ sent_bytes t) (sym g.taken))

-- a wire whose queue is unchanged
same_wire : (a : SessionView) (side : Side) (b : SessionView) → queued b side ≡ queued a side →
    sent_bytes (queued a side) ++ [] ≡ [] ++ sent_bytes (queued b side)
same_wire a side b e = append-nil (sent_bytes (queued a side)) ∙ ap sent_bytes (sym e)

pub took_bytes : (a : SessionView) (side : Side) (bytes : List ℕ) (n : ℕ) (b : SessionView) → IsFrontOf bytes (queued a side) →
    n ≤ length bytes → Works a (Offered side bytes (Took n) ∷ []) b → Wrote a side n b →
    RefinesRun a (Offered side bytes (Took n) ∷ []) b
took_bytes a side bytes n b f h work g = record {
  sends = record {
    effects = [];
    run = (refl, g.same_state);
    wires = λ one. wire side one f g;
  };
  counts = g.counts;
  work = work;
}
  where
    wire : (side one : Side) → IsFrontOf bytes (queued a side) → Wrote a side n b →
        Moved (has_failed one (Offered side bytes (Took n) ∷ [])) (is_over b.state.phase) (sent_bytes (queued a one)) []
        (taken one (Offered side bytes (Took n) ∷ [])) (sent_bytes (queued b one))
    wire Bot Bot f g = this_wire a Bot bytes n b f h g
    wire Bot Server f g = same_wire a Server b g.other_wire
    wire Server Bot f g = same_wire a Bot b g.other_wire
    wire Server Server f g = this_wire a Server bytes n b f h g

pub put_failed : (a : SessionView) (side : Side) (bytes : List ℕ) (b : SessionView) → Works a (Offered side bytes Failed ∷ []) b →
    Lost a side b → RefinesRun a (Offered side bytes Failed ∷ []) b
put_failed a side bytes b work g = record {
  sends = record {
    effects = g.effects;
    run = g.run;
    wires = λ one. wire side one g.effects g.over g.dropped g.other_wire;
  };
  counts = g.counts;
  work = work;
}
  where
    dead : (side : Side) (effects : List Effect) → is_over b.state.phase ≡ true → queued b side ≡ [] →
        Moved true (is_over b.state.phase) (sent_bytes (queued a side)) (sent_bytes (sent_to side effects)) []
        (sent_bytes (queued b side))
    dead side effects o e =
        (o, ap sent_bytes e, (sent_bytes (queued a side) ++ sent_bytes (sent_to side effects), refl))

    alive : (side : Side) (effects : List Effect) → queued b side ≡ queued a side ++ sent_to side effects →
        sent_bytes (queued a side) ++ sent_bytes (sent_to side effects) ≡ sent_bytes (queued b side)
    alive side effects e = sym (ap sent_bytes e ∙ sent_bytes-append (queued a side) (sent_to side effects))

    wire : (side one : Side) (effects : List Effect) → is_over b.state.phase ≡ true → queued b side ≡ [] →
        queued b (other side) ≡ queued a (other side) ++ sent_to (other side) effects →
        Moved (has_failed one (Offered side bytes Failed ∷ [])) (is_over b.state.phase) (sent_bytes (queued a one))
        (sent_bytes (sent_to one effects)) [] (sent_bytes (queued b one))
    wire Bot Bot effects o d w = dead Bot effects o d
    wire Bot Server effects o d w = alive Server effects w
    wire Server Bot effects o d w = alive Bot effects w
    wire Server Server effects o d w = dead Server effects o d

-- ---- an empty front

nothing_waits : (frames : List Sent) → IsFrontOf [] frames → frames ≡ []
nothing_waits [] f = refl
nothing_waits (frame ∷ frames) f = absurd (omega (arith, f.0))

pub filled : (xs : List ℕ) (b : Bool) → b ≡ eqb (length xs) 0 → b ≡ false → 0 < length xs
filled [] b e f = absurd (let x : true ≡ false = sym e ∙ f in cc)
filled (x ∷ xs) b e f = omega arith

pub none_left : (xs : List ℕ) (frames : List Sent) (b : Bool) → b ≡ eqb (length xs) 0 → b ≡ true →
    IsFrontOf xs frames → frames ≡ []
none_left [] frames b e f h = nothing_waits frames h
none_left (x ∷ xs) frames b e f h =
    absurd (let x : false ≡ true = sym (apart (length (x ∷ xs)) (omega arith)) ∙ sym e ∙ f in cc)
