-- The next of two joined gateways, if it is nearer the bot, judges by the levels of the first.
use Rattle.daide_session.proofs.Common.{◌≡◌, ℕ, ◌≤◌, Bool, true, false, cond, List, [], ◌∷◌, ◌++◌, inl, inr, refl, sym}
use Rattle.daide_session.proofs.Common.{◌∙◌, ap, subst, ◌==◌, bra, tokens_of, Side, Bot, Server, Kind, Im, Rm, Dm, Fm}
use Rattle.daide_session.proofs.Common.{Em, head_bytes, Level, IsMessageOver, Words, Verdict, Relay, Prn, Huh, Word}
use Rattle.daide_session.proofs.Common.{grammar_words, are_free, accepted_free, SessionPhase, longest_body}
use Rattle.daide_session.proofs.Common.{answer_bytes, Limits, Sent, Effect, initial_state, is_dm, reply_to, side2_of}
use Rattle.daide_session.proofs.Common.{level_in, same_side, frames_to, sent_to, EventCause, Frame, Fault, End, Timeout}
use Rattle.daide_session.proofs.Common.{Stop, Came, came_in, frames_from, IsJudged, IsFate, HaveFates, IsFrame, HasCome}
use Rattle.daide_session.proofs.Common.{IsWithinPrn, IsWithinHuh, MayBeSent, no_message, passed, within_prn, within_huh}
use Rattle.daide_session.proofs.Common.{frame_whole, run_fates, IsGood, AreGood, run_good, IsVerdictAtOneLevel, passes}
use Rattle.daide_token.specs.Token.{ket, hlo, prn, huh}
use Rattle.daide_reader.proofs.VerdictLemmas.{verdict_is_one}
use Rattle.daide_words.specs.Accepted.{are_accepted}
use Rattle.daide_protocol.proofs.PassingLemmas.{EachTo, cause_may}
use Rattle.daide_session.specs.Joined.{AreFirst, IsFateAtNext, HaveFatesAtNext, JoinedSessionsOver}
use Rattle.daide_session.specs.Joined.{LevelsAgreeTowardTheBotOver}
use Rattle.daide_session.proofs.InARowLemmas.{same_frame, no_dm, prn_next, huh_next}
use Rattle.daide_session.proofs.LevelRuns.{IsLevelled, LevelAt, HaveLevels, run_levels, ready_first, level_then}

-- the cause is a message of the server
abbrev is_message : EventCause → Bool
is_message (Frame Bot noted head body) = false
is_message (Frame Server noted head body) = is_dm head.kind
is_message (Fault side code) = false
is_message (End side) = false
is_message Timeout = false
is_message Stop = false

module _ (words : Words) (free : are_free words ≡ true) (limits : Limits) (same : limits.words ≡ words)
    (small : limits.cap ≤ longest_body) (all : List Came) where
  -- ---- the frames that the one sends to the bot, with its levels

  -- A message with these bytes, judged at level `level`, is relayed or too deep by one bracket. After it the level is
  -- `then`.
  record IsSentAt (level : Level) (bytes : List ℕ) (then : Level) : Type 0 where
    message : (body : List ℕ) (v : Verdict) → IsFrame Dm body bytes → IsJudged limits Server level body v →
        IsVerdictAtOneLevel limits all Bot body v
        × (then ≡ level_then limits.top_level v (tokens_of body) level)
    other_kind : (kind : Kind) (body : List ℕ) → is_dm kind ≡ false → IsFrame kind body bytes → then ≡ level

  abbrev AreSentAt : Level → List Sent → Type 0
  AreSentAt level [] = Unit {0}
  AreSentAt level (frame ∷ frames) =
      (next : Level) × IsSentAt level frame.bytes next × AreSentAt next frames

  not_both_kinds : (kind : Kind) (a b bytes : List ℕ) → is_dm kind ≡ false → IsFrame kind a bytes →
      IsFrame Dm b bytes → ⊥
  not_both_kinds kind a b bytes n f g = no_dm kind n (same_frame kind Dm a b bytes f g).0

  -- a message that the first gateway relayed at this level
  passed_at : (level : Level) (body bytes : List ℕ) → IsFrame Dm body bytes → IsJudged limits Server level body Relay →
      IsSentAt level bytes (level_then limits.top_level Relay (tokens_of body) level)
  passed_at level body bytes f j = record {
    message = λ body_too v g k.
        (let body_is = (same_frame Dm Dm body body_too bytes f g).1 in
        let relays = subst (λ (b : List ℕ). IsJudged limits Server level b Relay) body_is j in
        let v_is : v ≡ Relay =
        verdict_is_one (IsMessageOver limits.words (side2_of Server) level) limits.max_depth (tokens_of body_too) v Relay
        k relays in (
          passes v_is,
          ap (λ (b : List ℕ). level_then limits.top_level Relay (tokens_of b) level) body_is
              ∙ ap (λ (w : Verdict). level_then limits.top_level w (tokens_of body_too) level) (sym v_is),
        ));
    other_kind = λ kind other_body n g. absurd (not_both_kinds kind other_body body bytes n g f);
  }

  -- PRN and HUH set no level
  no_hlo : (level : Level) (v : Verdict) (token : ℕ) (m : List ℕ) → (token == hlo) ≡ false →
      level ≡ level_then limits.top_level v (token ∷ m) level
  no_hlo level Relay token m e = rw e refl
  no_hlo level Prn token m e = refl
  no_hlo level (Huh place) token m e = refl

  -- any other frame that a cause at the first gateway sends
  quiet_at : (level : Level) (came : Came) (bytes : List ℕ) → is_message came.cause ≡ false →
      ((noted : Level) (own : List ℕ) → HasCome (came ∷ []) Bot noted own → HasCome all Bot noted own) →
      MayBeSent limits (came ∷ []) Bot bytes → IsSentAt level bytes level
  quiet_at level came bytes q come (no_message kind body n f) = record {
    message = λ body_too v g k. absurd (not_both_kinds kind body body_too bytes n f g);
    other_kind = λ kind_too other_body m g. refl;
  }
  quiet_at level came bytes q come (passed noted body f (inl e) p) =
      (let bad = sym q ∙ ap is_message e in absurd (cc))
  quiet_at level came bytes q come (passed noted body f (inr e) p) = absurd e
  quiet_at level came bytes q come (within_prn noted own body f h w) = record {
    message = λ body_too v g k.
        (let body_is = (same_frame Dm Dm body body_too bytes f g).1 in
        let within = subst (λ (b : List ℕ). IsWithinPrn (tokens_of own) (tokens_of b)) body_is w in (
          prn_next words free limits same all Bot level body_too v own within k,
          rw within.answer_is (no_hlo level v prn (bra ∷ (tokens_of own ++ ket ∷ [])) refl),
        ));
    other_kind = λ kind other_body n g. absurd (not_both_kinds kind other_body body bytes n g f);
  }
  quiet_at level came bytes q come (within_huh noted place own body f h w) = record {
    message = λ body_too v g k.
        (let body_is = (same_frame Dm Dm body body_too bytes f g).1 in
        let within = subst (λ (b : List ℕ). IsWithinHuh limits Bot noted place (tokens_of own) (tokens_of b)) body_is w in (
          huh_next words free limits same all Bot level body_too v noted place own (come noted own h) within k,
          rw within.answer_is (no_hlo level v huh _ refl),
        ));
    other_kind = λ kind other_body n g. absurd (not_both_kinds kind other_body body bytes n g f);
  }

  is_bot : (side : Side) → same_side side Bot ≡ true → side ≡ Bot
  is_bot Bot e = refl
  is_bot Server e = absurd (cc)

  quiet_frames : (level : Level) (came : Came) (frames rest : List Sent) → is_message came.cause ≡ false →
      ((noted : Level) (own : List ℕ) → HasCome (came ∷ []) Bot noted own → HasCome all Bot noted own) →
      EachTo (λ (s : Sent). MayBeSent limits (came ∷ []) Bot s.bytes) Bot frames → AreSentAt level rest →
      AreSentAt level (frames_to Bot frames ++ rest)
  quiet_frames level came [] rest q come h later = later
  quiet_frames level came (frame ∷ frames) rest q come h later =
      go (same_side frame.to Bot) refl (quiet_frames level came frames rest q come h.1 later)
    where
      go : (b : Bool) → same_side frame.to Bot ≡ b → AreSentAt level (frames_to Bot frames ++ rest) →
          AreSentAt level ((cond b (frame ∷ frames_to Bot frames) (frames_to Bot frames)) ++ rest)
      go true e more =
          (level, quiet_at level came frame.bytes q come (h.0 (is_bot frame.to e)), more)
      go false e more = more

  quiet_cause : (level next : Level) (phase : SessionPhase) (cause : EventCause) (sent rest : List Sent) → next ≡ level →
      is_message cause ≡ false → IsGood limits.cap cause → IsFate limits phase cause sent →
      ((noted : Level) (own : List ℕ) → HasCome (record { phase = phase; cause = cause } ∷ []) Bot noted own →
      HasCome all Bot noted own) → AreSentAt next rest → AreSentAt level (frames_to Bot sent ++ rest)
  quiet_cause level next phase cause sent rest e q good fate come later =
      let came : Came = record { phase = phase; cause = cause } in
      quiet_frames level came sent rest q come
      (cause_may limits small (came ∷ []) Bot phase cause sent good (λ side noted body c. inl c) fate)
      (subst (λ (l : Level). AreSentAt l rest) e later)

  -- a message of the server
  message_sent : (level next noted : Level) (len : ℕ) (body : List ℕ) (v : Verdict) (rest : List Sent) →
      IsGood limits.cap (Frame Server noted (record { kind = Dm; len = len }) body) →
      IsJudged limits Server level body v → next ≡ level_then limits.top_level v (tokens_of body) level →
      AreSentAt next rest →
      AreSentAt level (frames_to Bot (reply_to Server (record { kind = Dm; len = len }) body v ∷ []) ++ rest)
  unfolding answer_bytes
  message_sent level next noted len body Relay rest good j e later = (
    next,
    subst (IsSentAt level (head_bytes (record { kind = Dm; len = len }) ++ body)) (sym e)
        (passed_at level body (head_bytes (record { kind = Dm; len = len }) ++ body)
        (frame_whole limits.cap (record { kind = Dm; len = len }) body small good) j),
    later,
  )
  message_sent level next noted len body Prn rest good j e later = subst (λ (l : Level). AreSentAt l rest) e later
  message_sent level next noted len body (Huh place) rest good j e later =
      subst (λ (l : Level). AreSentAt l rest) e later

  server_sent : (level next : Level) (phase : SessionPhase) (noted : Level) (kind : Kind) (len : ℕ) (body : List ℕ)
      (sent rest : List Sent) → IsLevelled kind limits level noted (record { kind = kind; len = len }) body sent next →
      IsGood limits.cap (Frame Server noted (record { kind = kind; len = len }) body) →
      IsFate limits phase (Frame Server noted (record { kind = kind; len = len }) body) sent →
      ((at : Level) (own : List ℕ) →
      HasCome (record { phase = phase; cause = Frame Server noted (record { kind = kind; len = len }) body } ∷ []) Bot at
      own → HasCome all Bot at own) → AreSentAt next rest → AreSentAt level (frames_to Bot sent ++ rest)
  server_sent level next phase noted Im len body sent rest h good fate come later =
      quiet_cause level next phase (Frame Server noted (record { kind = Im; len = len }) body) sent rest h refl good fate
      come later
  server_sent level next phase noted Rm len body sent rest h good fate come later =
      quiet_cause level next phase (Frame Server noted (record { kind = Rm; len = len }) body) sent rest h refl good fate
      come later
  server_sent level next phase noted Dm len body sent rest h good fate come later =
      subst (λ (s : List Sent). AreSentAt level (frames_to Bot s ++ rest)) (sym h.4)
      (message_sent level next noted len body h.0 rest good h.2 h.3 later)
  server_sent level next phase noted Fm len body sent rest h good fate come later =
      quiet_cause level next phase (Frame Server noted (record { kind = Fm; len = len }) body) sent rest h refl good fate
      come later
  server_sent level next phase noted Em len body sent rest h good fate come later =
      quiet_cause level next phase (Frame Server noted (record { kind = Em; len = len }) body) sent rest h refl good fate
      come later

  cause_sent : (level next : Level) (phase : SessionPhase) (cause : EventCause) (sent rest : List Sent) →
      LevelAt limits level cause sent next → IsGood limits.cap cause → IsFate limits phase cause sent →
      ((noted : Level) (own : List ℕ) → HasCome (record { phase = phase; cause = cause } ∷ []) Bot noted own →
      HasCome all Bot noted own) → AreSentAt next rest → AreSentAt level (frames_to Bot sent ++ rest)
  cause_sent level next phase (Frame Bot noted head body) sent rest h good fate come later =
      quiet_cause level next phase (Frame Bot noted head body) sent rest h refl good fate come later
  cause_sent level next phase (Frame Server noted head body) sent rest h good fate come later =
      server_sent level next phase noted head.kind head.len body sent rest h good fate come later
  cause_sent level next phase (Fault side code) sent rest h good fate come later =
      quiet_cause level next phase (Fault side code) sent rest h refl good fate come later
  cause_sent level next phase (End side) sent rest h good fate come later =
      quiet_cause level next phase (End side) sent rest h refl good fate come later
  cause_sent level next phase Timeout sent rest h good fate come later =
      quiet_cause level next phase Timeout sent rest h refl good fate come later
  cause_sent level next phase Stop sent rest h good fate come later =
      quiet_cause level next phase Stop sent rest h refl good fate come later

  all_sent : (level queue_final : Level) (came : List Came) (effects : List Effect) → HaveLevels limits level came effects queue_final →
      AreGood limits.cap came → HaveFates limits came effects →
      ((noted : Level) (own : List ℕ) → HasCome came Bot noted own → HasCome all Bot noted own) →
      AreSentAt level (sent_to Bot effects)
  all_sent level queue_final [] effects h good fates come =
      subst (λ (es : List Effect). AreSentAt level (sent_to Bot es)) (sym h.0) tt
  all_sent level queue_final (c ∷ more) [] h good fates come = absurd h
  all_sent level queue_final (c ∷ more) (effect ∷ effects) h good fates come =
      cause_sent level h.0 c.phase c.cause effect.sent (sent_to Bot effects) h.1 good.0 fates.0
      (λ noted own k. come noted own (first_come c more noted own k))
      (all_sent h.0 queue_final more effects h.2 good.1 fates.1 (λ noted own k. come noted own (inr k)))
    where
      first_come : (c : Came) (more : List Came) (noted : Level) (own : List ℕ) → HasCome (c ∷ []) Bot noted own →
          HasCome (c ∷ more) Bot noted own
      first_come c more noted own (inl e) = inl e
      first_come c more noted own (inr e) = absurd e

  -- ---- the verdict of the next

  abbrev IsFateHere : EventCause → List Sent → Type 0
  IsFateHere cause sent = IsFateAtNext (λ (level : Level). IsVerdictAtOneLevel limits all Bot) Bot cause sent

  -- the rest of the sent frames, with the level of the next
  abbrev RefinesOn : List Came → Level → Type 0
  RefinesOn more level = (sent : List Sent) × AreFirst (frames_from Server more) sent × AreSentAt level sent

  server_heard : (level next noted : Level) (kind : Kind) (len : ℕ) (body : List ℕ) (moves : List Sent)
      (more : List Came) (bytes : List ℕ) (then : Level) (sent : List Sent) →
      IsLevelled kind limits level noted (record { kind = kind; len = len }) body moves next →
      IsFrame kind body bytes → IsSentAt level bytes then → AreFirst (frames_from Server more) sent →
      AreSentAt then sent →
      IsFateHere (Frame Server noted (record { kind = kind; len = len }) body) moves × RefinesOn more next
  server_heard level next noted Dm len body moves more bytes then sent h f at first later =
      let m = at.message body h.0 f h.2 in (
        λ side kind. (h.0, m.0, h.4),
        (sent, first, subst (λ (l : Level). AreSentAt l sent) (m.1 ∙ sym h.3) later),
      )
  server_heard level next noted Im len body moves more bytes then sent h f at first later = (
    λ side kind. absurd (cc),
    (sent, first, subst (λ (l : Level). AreSentAt l sent) (at.other_kind Im body refl f ∙ sym h) later),
  )
  server_heard level next noted Rm len body moves more bytes then sent h f at first later = (
    λ side kind. absurd (cc),
    (sent, first, subst (λ (l : Level). AreSentAt l sent) (at.other_kind Rm body refl f ∙ sym h) later),
  )
  server_heard level next noted Fm len body moves more bytes then sent h f at first later = (
    λ side kind. absurd (cc),
    (sent, first, subst (λ (l : Level). AreSentAt l sent) (at.other_kind Fm body refl f ∙ sym h) later),
  )
  server_heard level next noted Em len body moves more bytes then sent h f at first later = (
    λ side kind. absurd (cc),
    (sent, first, subst (λ (l : Level). AreSentAt l sent) (at.other_kind Em body refl f ∙ sym h) later),
  )

  cause_heard : (level next : Level) (phase : SessionPhase) (cause : EventCause) (moves : List Sent) (more : List Came)
      (sent : List Sent) → LevelAt limits level cause moves next → IsGood limits.cap cause →
      AreFirst (frames_from Server (record { phase = phase; cause = cause } ∷ more)) sent → AreSentAt level sent →
      IsFateHere cause moves × RefinesOn more next
  cause_heard level next phase (Frame Bot noted head body) moves more sent h good first at =
      (λ side kind. absurd (cc), (sent, first, subst (λ (l : Level). AreSentAt l sent) (sym h) at))
  cause_heard level next phase (Frame Server noted head body) moves more [] h good first at = absurd first
  cause_heard level next phase (Frame Server noted head body) moves more (frame ∷ sent) h good first at =
      server_heard level next noted head.kind head.len body moves more frame.bytes at.0 sent h
      (subst (IsFrame head.kind body) (sym first.0) (frame_whole limits.cap head body small good)) at.1 first.1 at.2
  cause_heard level next phase (Fault side code) moves more sent h good first at =
      (tt, (sent, first, subst (λ (l : Level). AreSentAt l sent) (sym h) at))
  cause_heard level next phase (End side) moves more sent h good first at =
      (tt, (sent, first, subst (λ (l : Level). AreSentAt l sent) (sym h) at))
  cause_heard level next phase Timeout moves more sent h good first at =
      (tt, (sent, first, subst (λ (l : Level). AreSentAt l sent) (sym h) at))
  cause_heard level next phase Stop moves more sent h good first at =
      (tt, (sent, first, subst (λ (l : Level). AreSentAt l sent) (sym h) at))

  all_heard : (level queue_final : Level) (came : List Came) (effects : List Effect) (sent : List Sent) →
      HaveLevels limits level came effects queue_final → AreGood limits.cap came → AreFirst (frames_from Server came) sent →
      AreSentAt level sent →
      HaveFatesAtNext (λ (l : Level). IsVerdictAtOneLevel limits all Bot) Bot came effects
  all_heard level queue_final [] effects sent h good first at = h.0
  all_heard level queue_final (c ∷ more) [] sent h good first at = absurd h
  all_heard level queue_final (c ∷ more) (effect ∷ effects) sent h good first at =
      let here = cause_heard level h.0 c.phase c.cause effect.sent more sent h.1 good.0 first at in
      (here.0, all_heard h.0 queue_final more effects here.1.0 h.2 good.1 here.1.1 here.1.2)

-- ---- two runs

pub levels_agree : (words : List Word) → are_accepted words ≡ true → JoinedSessionsOver words →
    LevelsAgreeTowardTheBotOver words
levels_agree words accepted joined limits events next_events effects next_effects new next_new run next_run same small
    together =
    let first = initial_state limits in
    let one = came_in first events effects new run in
    let next = came_in first next_events next_effects next_new next_run in
    let free = accepted_free words accepted in
    let a = run_levels first events effects new run refl (ready_first limits) in
    let b = run_levels first next_events next_effects next_new next_run refl (ready_first limits) in
    let heard = joined limits Bot events next_events effects next_effects new next_new run next_run same small together in
    all_heard (grammar_words words) free limits same small one (level_in first.phase) b.0 next next_effects (sent_to Bot effects) b.1
    (run_good first next_events next_effects next_new next_run) heard.in_order
    (all_sent (grammar_words words) free limits same small one (level_in first.phase) a.0 one effects a.1
    (run_good first events effects new run) (run_fates first events effects new run) (λ noted own k. k))
