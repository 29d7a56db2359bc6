-- The weight of a session, and the look-ups in its readers' tables.
use Rattle.std.proofs.Common.{◌*◌, min}
use Rattle.std.proofs.lemmas.List.Sums.{count_by-le-length}
use Rattle.daide_session.proofs.Common.{◌≡◌, ℕ, ◌+◌, ◌≤◌, Bool, true, false, cond, List, length, drop, refl, sym, ap}
use Rattle.daide_session.proofs.Common.{subst, arith, ◌||◌, ◌==◌, bra, Side, Bot, Server, announced, head_in, Holding}
use Rattle.daide_session.proofs.Common.{queued, is_awaited, is_dm_head, frame_tokens, steps_bound, ProtocolState, at}
use Rattle.daide_session.proofs.Common.{Channels, pending, view_of}
use Rattle.daide_channels.specs.Channels.{noted}
use Rattle.daide_channels.specs.Receiver.{message_look_ups}
use Rattle.daide_session.specs.Work.{look_ups_due}
use Rattle.daide_grammar.specs.Paired.{begins_with_prn}
use Rattle.daide_grammar.specs.Depth.{open_brackets, has_unmatched_ket, bras}
use Rattle.daide_reader.proofs.BodyLemmas.{tokens_of-length}
use Rattle.daide_protocol.specs.Weight.{direction_bound, weight_of, weight_bound, IsTied}
use Rattle.daide_session.proofs.FrameEventsLemmas.{holding_at}

-- ---- the open brackets of a held message

bras_few : (p : List ℕ) → bras p ≤ length p
bras_few p = count_by-le-length (λ t. t == bra) p

open_few : (p : List ℕ) → open_brackets p ≤ length p
open_few p = go (begins_with_prn p || has_unmatched_ket p) refl
  where
    go : (b : Bool) → (begins_with_prn p || has_unmatched_ket p) ≡ b → open_brackets p ≤ length p
    go true e = rw e (omega arith)
    go false e = rw e (let few = bras_few p in omega (arith, few))

held_few : (limit : ℕ) (frame_bytes : List ℕ) → length (frame_tokens limit frame_bytes) ≤ length (drop 4 frame_bytes)
held_few limit frame_bytes = go (is_dm_head (head_in limit frame_bytes)) refl
  where
    go : (b : Bool) → is_dm_head (head_in limit frame_bytes) ≡ b → length (frame_tokens limit frame_bytes) ≤ length (drop 4 frame_bytes)
    go true e = rw e (let half = tokens_of-length (drop 4 frame_bytes) in omega (arith, half))
    go false e = rw e (omega arith)

-- ---- one direction

-- a body, and the entries of its reader's stack
pub record IsLight (limit : ℕ) (frame_bytes : List ℕ) (bytes entries : ℕ) : Type 0 where
  pub within : bytes + entries ≤ direction_bound limit frame_bytes
  pub small : bytes + entries ≤ 655260

pub light : (limit : ℕ) (frame_bytes body : List ℕ) (entries : ℕ) → body ≡ drop 4 frame_bytes → length body ≤ announced limit frame_bytes →
    announced limit frame_bytes ≤ limit → length body ≤ 65526 →
    entries ≤ 8 * open_brackets (frame_tokens limit frame_bytes) + 16 → IsLight limit frame_bytes (length body) entries
light limit frame_bytes body entries same within capped short few =
    let brackets = open_few (frame_tokens limit frame_bytes) in
    let tokens = held_few limit frame_bytes in
    let len = ap length same in
    record {
      within = (let fits : length body ≤ limit = omega (arith, within, capped) in
          let least = within_min (length body) (announced limit frame_bytes) limit within fits in
          omega (arith, least, few));
      small = omega (arith, len, brackets, tokens, few, short);
    }
  where
    within_min : (a b c : ℕ) → a ≤ b → a ≤ c → a ≤ min b c
    within_min a b c h k = omega (arith, h, k)

-- ---- the weight

pub weight_is : (t : Channels) (s : ProtocolState) (x y : List ℕ) (a b k l : ℕ) →
    x ≡ drop 4 t.sides.bot.holding.frame_bytes → a ≡ t.sides.bot.holding.entries →
    y ≡ drop 4 t.sides.server.holding.frame_bytes → b ≡ t.sides.server.holding.entries →
    k ≡ length t.queued.bot → l ≡ length t.queued.server →
    length x + a + (length y + b) + (k + l) ≡ weight_of (view_of t s)
unfolding weight_of
weight_is t s x y a b k l ex ea ey eb ek el = rw (ex, ea, ey, eb, ek, el) refl

pub weight_few : (t : Channels) (s : ProtocolState) (a b c d k l : ℕ) → a + b ≤ direction_bound t.cap t.sides.bot.holding.frame_bytes →
    c + d ≤ direction_bound t.cap t.sides.server.holding.frame_bytes → k ≤ 3 → l ≤ 3 →
    a + b + (c + d) + (k + l) ≤ weight_bound (view_of t s)
unfolding weight_bound
weight_few t s a b c d k l x y m n = omega (arith, x, y, m, n)

-- the held bytes without a queued answer, as both calls return them
pub tied_by : (t : Channels) (s : ProtocolState) →
    (is_awaited (at t.queued) Bot ≡ false → t.sides.bot.holding.frame_bytes ≡ pending t Bot) →
    (is_awaited (at t.queued) Server ≡ false → t.sides.server.holding.frame_bytes ≡ pending t Server) →
    IsTied (view_of t s)
tied_by t s bot server Bot free = bot free
tied_by t s bot server Server free = server free

-- ---- the steps

pub steps_few : (t : Channels) (s : ProtocolState) (side : Side) (steps : ℕ) →
    steps ≤ 4 * length (frame_tokens t.cap (at t.sides side).holding.frame_bytes) + cond (is_awaited (at t.queued) side) 4 0 →
    steps ≤ steps_bound (view_of t s) side
steps_few t s side steps few =
    subst (λ (h : Holding).
    steps ≤ 4 * length (frame_tokens t.cap h.frame_bytes) + cond (is_awaited (queued (view_of t s)) side) 4 0)
    (sym (holding_at t s side)) few

-- each token was read once
pub steps_once : (t : Channels) (s : ProtocolState) (side : Side) (steps : ℕ) →
    steps ≤ message_look_ups t.rules side (noted t side) (frame_tokens t.cap (at t.sides side).holding.frame_bytes)
    (is_awaited (at t.queued) side) →
    steps ≤ look_ups_due (view_of t s) side
steps_once t s Bot steps few = few
steps_once t s Server steps few = few
