-- Both sides in their initial state: nothing received, and nothing queued.
use Rattle.daide_channels.proofs.Common.{◌≡◌, ℕ, ◌+◌, ◌≤◌, [], None, refl, sym, ap, ◌∙◌, subst, arith, Side, Bot}
use Rattle.daide_channels.proofs.Common.{Server, L0, at, Receiver, ReaderLimits, Queue}
use Rattle.daide_channels.specs.Channels.{Fields, IsPartlySent, IsQuiet, IsSound, answer_at, answer_mark, arrival_of, count_of}
use Rattle.daide_channels.specs.Channels.{final_frame_mark, frames_of, presence, channels_of}

-- a side in its initial state
pub record IsNewSide (cap : ℕ) (rules : ReaderLimits) (side : Side) (i : Receiver) : Type 0 where
  pub its_side : i.side ≡ side
  pub its_cap : i.cap ≡ cap
  pub its_rules : i.rules ≡ rules
  pub lowest : i.level ≡ L0
  pub empty : i.frame_bytes ≡ []
  pub unanswered : i.verdict ≡ None
  pub unasked : i.total ≡ 0
  pub unlooked : i.looked_at ≡ 0

-- both sides are in their initial state
pub record AreNew (cap : ℕ) (rules : ReaderLimits) (f : Fields) : Type 0 where
  pub each : (side : Side) → IsNewSide cap rules side (at f.sides side)
  pub none : (to : Side) → at f.wires to ≡ record { written = 0; items = [] }

pub are_new : {cap : ℕ} {rules : ReaderLimits} (f : Fields) → IsNewSide cap rules Bot f.sides.bot →
    IsNewSide cap rules Server f.sides.server → f.wires.bot ≡ record { written = 0; items = [] } →
    f.wires.server ≡ record { written = 0; items = [] } → AreNew cap rules f
are_new {cap} {rules} f bot server to_bot to_server = record { each = each; none = none }
  where
    each : (side : Side) → IsNewSide cap rules side (at f.sides side)
    each Bot = bot
    each Server = server

    none : (to : Side) → at f.wires to ≡ record { written = 0; items = [] }
    none Bot = to_bot
    none Server = to_server

pub quiet_of : {cap : ℕ} {rules : ReaderLimits} {f : Fields} → AreNew cap rules f → IsQuiet cap rules (channels_of f)
quiet_of {cap} {rules} {f} a = record {
  cap_set = (a.each Bot).its_cap;
  rules_set = (a.each Bot).its_rules;
  coming = λ side. came side (a.each side);
  frame_bytes = λ side. frame_bytes side (a.each side);
  unasked = λ side. unasked side (a.each side);
  unlooked = λ side. unlooked side (a.each side);
  queued = λ to. queued to (a.none to);
}
  where
    came_of : (i : Receiver) (side : Side) → IsNewSide cap rules side i →
        (arrival_of i).coming ≡ record { pending = []; noted = L0 }
    came_of i side n = rw (n.unanswered, n.empty, n.lowest) refl

    came : (side : Side) → IsNewSide cap rules side (at f.sides side) →
        (at (channels_of f).sides side).coming ≡ record { pending = []; noted = L0 }
    came Bot n = came_of f.sides.bot Bot n
    came Server n = came_of f.sides.server Server n

    frame_bytes : (side : Side) → IsNewSide cap rules side (at f.sides side) →
        (at (channels_of f).sides side).holding.frame_bytes ≡ []
    frame_bytes Bot n = n.empty
    frame_bytes Server n = n.empty

    unasked : (side : Side) → IsNewSide cap rules side (at f.sides side) →
        (at (channels_of f).sides side).holding.total ≡ 0
    unasked Bot n = n.unasked
    unasked Server n = n.unasked

    unlooked : (side : Side) → IsNewSide cap rules side (at f.sides side) →
        (at (channels_of f).sides side).holding.looked_at ≡ 0
    unlooked Bot n = n.unlooked
    unlooked Server n = n.unlooked

    queued : (to : Side) → at f.wires to ≡ record { written = 0; items = [] } → at (channels_of f).queued to ≡ []
    queued Bot e = ap (frames_of Bot (answer_at f.sides)) e
    queued Server e = ap (frames_of Server (answer_at f.sides)) e

pub new_sound : {cap : ℕ} {rules : ReaderLimits} {f : Fields} → AreNew cap rules f → IsSound f
new_sound {cap} {rules} {f} a = record {
  its_side = λ side. (a.each side).its_side;
  same_cap = (a.each Server).its_cap ∙ sym (a.each Bot).its_cap;
  same_rules = (a.each Server).its_rules ∙ sym (a.each Bot).its_rules;
  once = λ side. ap (λ (q : Queue). count_of (answer_mark side) q.items
      + count_of (answer_mark side) (at f.wires Server).items) (a.none Bot)
      ∙ ap (λ (q : Queue). 0 + count_of (answer_mark side) q.items) (a.none Server)
      ∙ sym (ap presence (a.each side).unanswered);
  aimed = λ side to verdict given some. absurd (let none = sym (a.each side).unanswered ∙ given in cc);
  ends = λ to. subst (λ (q : Queue). count_of final_frame_mark q.items ≤ 1) (sym (a.none to)) (omega arith);
  filled = λ side one. (let none : presence (at f.sides side).verdict ≡ 0 = ap presence (a.each side).unanswered in
      absurd (omega arith));
  headed = λ side one. (let none : presence (at f.sides side).verdict ≡ 0 = ap presence (a.each side).unanswered in
      absurd (omega arith));
  begun = λ to. subst (λ (q : Queue). IsPartlySent (answer_at f.sides) q.written q.items) (sym (a.none to)) refl;
}
