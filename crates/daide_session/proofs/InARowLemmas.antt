-- With the same limits and words, the next gateway relays each message from the first, except for a lower level and one
-- bracket.
use Rattle.std.proofs.lemmas.Bool.{cases_lt}
use Rattle.daide_session.proofs.Common.{◌≡◌, ℕ, ◌+◌, ◌≤◌, ◌<◌, true, false, List, [], ◌∷◌, ◌++◌, take, drop, inl, inr}
use Rattle.daide_session.proofs.Common.{refl, sym, ◌∙◌, subst, arith, ◌⊎◌, All, bra, tokens_of, Side, Kind, Im, Rm, Dm}
use Rattle.daide_session.proofs.Common.{Fm, Em, kind_number, head_bytes, Level, level_number, IsMessageOver, Words}
use Rattle.daide_session.proofs.Common.{depth_of, Verdict, Relay, Prn, Huh, are_free, other, Limits, Sent, is_dm}
use Rattle.daide_session.proofs.Common.{side2_of, Came, IsJudged, IsFrame, HasCome, IsWithinPrn, IsWithinHuh, MayBeSent}
use Rattle.daide_session.proofs.Common.{no_message, passed, within_prn, within_huh, IsVerdictAtOneLevel, passes}
use Rattle.daide_session.proofs.Common.{too_deep, IsVerdictOfNext, at_one_level, lower}
use Rattle.daide_token.specs.Token.{ket, huh, err}
use Rattle.daide_grammar.specs.Paired.{IsPaired}
use Rattle.daide_reader.specs.Verdict.{HasVerdict, IsRelayed}
use Rattle.daide_words.proofs.WordsGrow.{levels-only-add-over}
use Rattle.daide_words.proofs.PairedOverWords.{huh-err-over}
use Rattle.daide_protocol.specs.Passing.{IsPassed}
use Rattle.daide_protocol.proofs.PassingLemmas.{not_report}

-- ---- a frame has one kind and one body

pub same_frame : (k l : Kind) (a b bytes : List ℕ) → IsFrame k a bytes → IsFrame l b bytes →
    (kind_number k ≡ kind_number l) × (a ≡ b)
unfolding head_bytes
same_frame k l a b bytes f g =
    let e = sym f.whole ∙ g.whole in
    let kinds : kind_number k ≡ kind_number l = cc in
    let bodies : a ≡ b = cc in
    (kinds, bodies)

pub no_dm : (kind : Kind) → is_dm kind ≡ false → kind_number kind ≡ 2 → ⊥
no_dm Im n e = absurd (omega arith)
no_dm Rm n e = absurd (omega arith)
no_dm Dm n e = absurd (cc)
no_dm Fm n e = absurd (omega arith)
no_dm Em n e = absurd (omega arith)

-- ---- a verdict on a paired message

-- the verdict relays the message, or is HUH if the message is not relayed
pub paired_verdict : (message : List ℕ → Type 0) (max_depth : ℕ) (m : List ℕ) (v : Verdict) → IsPaired m →
    HasVerdict message max_depth m v →
    (v ≡ Relay) ⊎ ((place : ℕ) × (v ≡ Huh place) × (¬ IsRelayed message max_depth m))
unfolding HasVerdict
paired_verdict message max_depth m Relay p h = inl refl
paired_verdict message max_depth m Prn p h = absurd (h p)
paired_verdict message max_depth m (Huh place) p h = inr (place, refl, h.1)

not_within : (a b : ℕ) → (a ≤ b → ⊥) → b < a
not_within a b h = elim (cases_lt b a) [ inl l ↦ l | inr l ↦ absurd (h l) ]

-- ---- the next gateway's verdict

module _ (words : Words) (free : are_free words ≡ true) (limits : Limits) (same : limits.words ≡ words)
    (came : List Came) (to : Side) (level : Level) (body : List ℕ) (v : Verdict) where
  abbrev Message : Level → List ℕ → Type 0
  Message l = IsMessageOver limits.words (side2_of (other to)) l

  abbrev Next : Type 0
  Next = IsVerdictOfNext limits came to level body v

  abbrev AtOne : Type 0
  AtOne = IsVerdictAtOneLevel limits came to body v

  passed_next : (noted : Level) → HasCome came (other to) noted body →
      IsPassed limits (other to) noted (tokens_of body) → IsJudged limits (other to) level body v → Next
  passed_next noted come p h = go (paired_verdict (Message level) limits.max_depth (tokens_of body) v p.paired h)
    where
      higher : level_number noted ≤ level_number level → IsRelayed (Message level) limits.max_depth (tokens_of body)
      higher l = record {
        is_message = levels-only-add-over limits.words (side2_of (other to)) noted level (tokens_of body) l
            p.is_message;
        shallow = p.shallow;
      }

      go : (v ≡ Relay) ⊎ ((place : ℕ) × (v ≡ Huh place)
          × (¬ IsRelayed (Message level) limits.max_depth (tokens_of body))) → Next
      go (inl e) = at_one_level (passes e)
      go (inr q) =
          lower noted q.0 come (not_within (level_number noted) (level_number level) (λ l. q.2 (higher l))) q.1

  pub prn_next : (own : List ℕ) → IsWithinPrn (tokens_of own) (tokens_of body) →
      IsJudged limits (other to) level body v → AtOne
  prn_next own w h = go (paired_verdict (Message level) limits.max_depth (tokens_of body) v report h)
    where
      report : IsPaired (tokens_of body)
      report = inl (tokens_of own, w.answer_is)

      relayed : IsRelayed (Message level) limits.max_depth (tokens_of body)
      relayed = record {
        is_message = inl (tokens_of own, w.answer_is);
        shallow = omega (arith, w.flat);
      }

      go : (v ≡ Relay) ⊎ ((place : ℕ) × (v ≡ Huh place)
          × (¬ IsRelayed (Message level) limits.max_depth (tokens_of body))) → AtOne
      go (inl e) = passes e
      go (inr q) = absurd (q.2 relayed)

  pub huh_next : (noted : Level) (place : ℕ) (own : List ℕ) → HasCome came to noted own →
      IsWithinHuh limits to noted place (tokens_of own) (tokens_of body) →
      IsJudged limits (other to) level body v → AtOne
  huh_next noted place own come w h =
      go (paired_verdict (Message level) limits.max_depth (tokens_of body) v paired h)
    where
      paired : IsPaired (tokens_of body)
      paired = inr (rw w.answer_is refl, w.balanced)

      message : Message level (tokens_of body)
      message =
          let q = not_report (IsMessageOver limits.words (side2_of to) noted) limits.max_depth (tokens_of own)
          (λ r. inl r) w.paired w.refused in
          subst (Message level) (sym w.answer_is)
          (subst (λ (ws : Words). IsMessageOver ws (side2_of (other to)) level
          (huh ∷ bra ∷ ((take place (tokens_of own) ++ err ∷ drop place (tokens_of own)) ++ ket ∷ []))) (sym same)
          (huh-err-over words free (side2_of (other to)) level (tokens_of own) place q.1))

      shallow : depth_of (tokens_of own) + 1 ≤ limits.max_depth →
          IsRelayed (Message level) limits.max_depth (tokens_of body)
      shallow l = record { is_message = message; shallow = omega (arith, w.deeper, l) }

      go : (v ≡ Relay) ⊎ ((at : ℕ) × (v ≡ Huh at)
          × (¬ IsRelayed (Message level) limits.max_depth (tokens_of body))) → AtOne
      go (inl e) = passes e
      go (inr q) =
          too_deep noted place q.0 own come w
          (not_within (depth_of (tokens_of own) + 1) limits.max_depth (λ l. q.2 (shallow l))) q.1

  sent_next : (bytes : List ℕ) → MayBeSent limits came to bytes → IsFrame Dm body bytes →
      IsJudged limits (other to) level body v → Next
  sent_next bytes (no_message kind other_body n f) g h =
      absurd (no_dm kind n (same_frame kind Dm other_body body bytes f g).0)
  sent_next bytes (passed noted same_body f come p) g h =
      let e = (same_frame Dm Dm same_body body bytes f g).1 in
      passed_next noted (subst (HasCome came (other to) noted) e come)
      (subst (λ (b : List ℕ). IsPassed limits (other to) noted (tokens_of b)) e p) h
  sent_next bytes (within_prn noted own same_body f come w) g h =
      let e = (same_frame Dm Dm same_body body bytes f g).1 in
      at_one_level (prn_next own (subst (λ (b : List ℕ). IsWithinPrn (tokens_of own) (tokens_of b)) e w) h)
  sent_next bytes (within_huh noted place own same_body f come w) g h =
      let e = (same_frame Dm Dm same_body body bytes f g).1 in
      at_one_level (huh_next noted place own come
      (subst (λ (b : List ℕ). IsWithinHuh limits to noted place (tokens_of own) (tokens_of b)) e w) h)

-- each of the frames sent to a side
pub all_next : (words : Words) → are_free words ≡ true → (limits : Limits) → limits.words ≡ words → (came : List Came)
    (to : Side) (frames : List Sent) →
    All (λ (sent : Sent). MayBeSent limits came to sent.bytes) frames →
    All (λ (sent : Sent). (body : List ℕ) (level : Level) (verdict : Verdict) → IsFrame Dm body sent.bytes →
    IsJudged limits (other to) level body verdict → IsVerdictOfNext limits came to level body verdict) frames
all_next words free limits same came to frames may k d l body level v f h =
    sent_next words free limits same came to level body v _ (may k d l) f h
