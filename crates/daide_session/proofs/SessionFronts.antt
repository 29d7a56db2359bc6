-- The next chunk of a wire stays the same if nothing is sent to the wire.
use Rattle.daide_session.proofs.Common.{◌≡◌, ℕ, ◌<◌, Bool, false, eqb, List, [], ◌∷◌, ◌++◌, length, refl, sym, ap, ◌∙◌}
use Rattle.daide_session.proofs.Common.{subst, arith, nat_tests, Side, Bot, Server, other, Sent, SessionView, IsFrontOf}
use Rattle.daide_session.proofs.Common.{frames_to, no_frame, parts_of, PerSide, at, put, AreFresh, KeepsFront, Channels}
use Rattle.daide_session.proofs.Common.{posted, fronts_stay, ProtocolState, view_of}
use Rattle.daide_channels.specs.Fronts.{ArePartsKept, KeepsFronts}
use Rattle.daide_session.proofs.EmitsLemmas.{posted_at}

-- only the first frame has parts, whatever is queued after it
same_first : (parts : List (List ℕ)) (y : Sent) (ys rest : List Sent) → AreFresh parts (y ∷ ys) →
    AreFresh parts (y ∷ ys ++ rest)
same_first parts y ys rest h = h

-- frames are appended to a queue, twice
kept_on : (f g h : List (List ℕ)) (xs ys zs more rest : List Sent) → ys ≡ xs ++ more → zs ≡ ys ++ rest →
    ArePartsKept f xs g ys → ArePartsKept g ys h zs → ArePartsKept f xs h zs
kept_on f g h [] [] zs more rest e k a b = record {
  same = λ some. absurd (cc);
  fresh = λ none some. b.fresh refl some;
}
kept_on f g h [] (y ∷ ys) zs more rest e k a b = record {
  same = λ some. absurd (cc);
  fresh = λ none some. subst (λ (ps : List (List ℕ)). AreFresh ps zs) (sym (b.same refl))
      (subst (λ (ws : List Sent). AreFresh g ws) (sym k) (same_first g y ys rest (a.fresh refl refl)));
}
kept_on f g h (x ∷ xs) [] zs more rest e k a b = absurd (cc)
kept_on f g h (x ∷ xs) (y ∷ ys) zs more rest e k a b = record {
  same = λ some. b.same refl ∙ a.same refl;
  fresh = λ none some. absurd (cc);
}

pub fronts_kept_on : (old mid new : Channels) (frame : Sent) (frames : Side → List Sent) →
    mid.queued ≡ posted old.queued frame →
    ((wire : Side) → at new.queued wire ≡ at mid.queued wire ++ frames wire) →
    KeepsFronts old mid → KeepsFronts mid new → KeepsFronts old new
fronts_kept_on old mid new frame frames post more a b = λ wire.
    kept_on (at old.parts wire) (at mid.parts wire) (at new.parts wire) (at old.queued wire) (at mid.queued wire)
    (at new.queued wire) (frames_to wire (frame ∷ [])) (frames wire)
    (ap (λ (w : PerSide (List Sent)). at w wire) post ∙ posted_at old.queued frame wire) (more wire) (a wire) (b wire)

-- the same frames, and the same fronts
pub fronts_same : (t u : Channels) → u.parts ≡ t.parts → u.queued ≡ t.queued → KeepsFronts t u
fronts_same t u f w = λ to.
    subst (λ (x : PerSide (List (List ℕ))). ArePartsKept (at t.parts to) (at t.queued to) (at x to) (at u.queued to))
    (sym f)
    (subst (λ (x : PerSide (List Sent)). ArePartsKept (at t.parts to) (at t.queued to) (at t.parts to) (at x to)) (sym w)
    (fronts_stay t to))

-- the fronts are the same in the first call, and kept by the second
pub fronts_from : (t u v : Channels) → u.parts ≡ t.parts → u.queued ≡ t.queued → KeepsFronts u v → KeepsFronts t v
fronts_from t u v f w h = λ to.
    subst (λ (x : PerSide (List (List ℕ))). ArePartsKept (at x to) (at t.queued to) (at v.parts to) (at v.queued to)) f
    (subst (λ (x : PerSide (List Sent)). ArePartsKept (at u.parts to) (at x to) (at v.parts to) (at v.queued to)) w
    (h to))

-- ---- a session

-- no change
pub gateway_stays : (g : SessionView) (side : Side) → KeepsFront g side g
gateway_stays g side = record {
  same = λ some. refl;
  fresh = λ none some. (let bad = sym none ∙ some in absurd (cc));
}

pub parts_at : (t : Channels) (s : ProtocolState) (side : Side) → parts_of (view_of t s) side ≡ at t.parts side
parts_at t s side = refl

pub fronts_seen : (t u : Channels) (s r : ProtocolState) → KeepsFronts t u → (side : Side) →
    KeepsFront (view_of t s) side (view_of u r)
fronts_seen t u s r h Bot = h Bot
fronts_seen t u s r h Server = h Server

-- frames for the other wire are removed
pub other_front : (t u v : Channels) (s r : ProtocolState) (side : Side) (frames : List Sent) → KeepsFronts t u →
    v.queued ≡ put u.queued side frames → at v.parts (other side) ≡ at u.parts (other side) →
    KeepsFront (view_of t s) (other side) (view_of v r)
other_front t u v s r Bot frames h w f =
    subst (λ (x : List Sent). ArePartsKept t.parts.server t.queued.server v.parts.server x)
    (sym (ap (λ (b : PerSide (List Sent)). b.server) w))
    (subst (λ (x : List (List ℕ)). ArePartsKept t.parts.server t.queued.server x u.queued.server) (sym f) (h Server))
other_front t u v s r Server frames h w f =
    subst (λ (x : List Sent). ArePartsKept t.parts.bot t.queued.bot v.parts.bot x)
    (sym (ap (λ (b : PerSide (List Sent)). b.bot) w))
    (subst (λ (x : List (List ℕ)). ArePartsKept t.parts.bot t.queued.bot x u.queued.bot) (sym f) (h Bot))

-- ---- an empty front

pub apart : (n : ℕ) → 0 < n → eqb n 0 ≡ false
apart n h = grind (arith, nat_tests)

-- a front is empty exactly if no frame is queued
pub none_waits : (xs : List ℕ) (frames : List Sent) (b : Bool) → b ≡ eqb (length xs) 0 → IsFrontOf xs frames →
    b ≡ no_frame frames
none_waits xs [] b e f = e ∙ ap (λ (ys : List ℕ). eqb (length ys) 0) f
none_waits [] (frame ∷ frames) b e f = absurd (omega (arith, f.0))
none_waits (x ∷ xs) (frame ∷ frames) b e f = e ∙ apart (length (x ∷ xs)) (omega arith)
