-- The frames that a side gets in a run are whole: the other side's messages, and its own within PRN or HUH.
use Rattle.std.proofs.lemmas.List.Elements.{All-nil, All-cons, All-append}
use Rattle.daide_protocol.proofs.Common.{◌≡◌, ℕ, ◌*◌, ◌%◌, ◌≤◌, Bool, true, false, List, [], ◌∷◌, ◌++◌, length, take}
use Rattle.daide_protocol.proofs.Common.{drop, Option, Some, None, Result, Ok, Err, if◌then◌else◌, inl, inr, refl, sym}
use Rattle.daide_protocol.proofs.Common.{◌∙◌, ap, subst, arith, All, bra, ket, prn, huh, err, tokens_of, Side, Bot}
use Rattle.daide_protocol.proofs.Common.{Server, Kind, Im, Rm, Dm, Fm, Em, Head, Code, ImTimeout, has_right_length}
use Rattle.daide_protocol.proofs.Common.{head_bytes, is_im, im_of, FrameEvent, last_items, Level, tokens_of-length}
use Rattle.daide_protocol.proofs.Common.{SessionPhase, WaitIm, WaitRm, Open, Over, answer_body, answer_bytes, other}
use Rattle.daide_protocol.proofs.Common.{same_side, Event, Comes, Ends, Loses, ImTimerExpired, OperatorStops, Limits}
use Rattle.daide_protocol.proofs.Common.{SessionState, Sent, Effect, Runs, coming, is_over, untimely, is_dm, fm_bytes}
use Rattle.daide_protocol.proofs.Common.{fm_to, em_to, side2_of, initial_state, level_in, sent_to}
use Rattle.daide_frame.specs.Code.{code_number}
use Rattle.daide_grammar.specs.SideMessages.{IsMessageOver}
use Rattle.daide_grammar.specs.Balanced as Balance
use Rattle.daide_grammar.specs.Balanced.{IsBalanced}
use Rattle.daide_grammar.specs.Paired.{begins_with_prn, IsPrnWrapped, IsPaired}
use Rattle.daide_grammar.specs.Depth.{depth_of}
use Rattle.daide_grammar.proofs.DepthLemmas.{huh_depth}
use Rattle.daide_grammar.proofs.ErrPutIn.{err-put-in, huh-err-depth}
use Rattle.daide_reader.specs.ErrorPlace.{IsErrorPlace}
use Rattle.daide_reader.specs.Verdict.{HasVerdict, IsRelayed}
use Rattle.daide_reader.specs.declared.verdict.Verdict.TheVariants as Verdicts
use Rattle.daide_protocol.specs.Bounds.{longest_body}
use Rattle.daide_protocol.specs.Machine.{may_reach, em_bytes}
use Rattle.daide_protocol.specs.Wires.{frames_to}
use Rattle.daide_protocol.specs.Fates.{EventCause, Frame, Fault, End, Timeout, Stop, Came, checked_frame, frame_cause}
use Rattle.daide_protocol.specs.Fates.{fault_or, items_cause, cause_at, timeout_in, came_in_phase, came_in, passed_on}
use Rattle.daide_protocol.specs.Fates.{given_back, IsMessageFate, is_passed_on, is_answered_prn, is_answered_huh}
use Rattle.daide_protocol.specs.Fates.{IsFrameFate, IsFate, HaveFates}
use Rattle.daide_protocol.specs.Passing.{IsFrame, HasCome, IsPassed, IsWithinHuh, MayBeSent, no_message}
use Rattle.daide_protocol.specs.Passing.{passed, within_prn, within_huh}
use Rattle.daide_protocol.proofs.FrameShapes.{IsWholeFrame, Shape, quiet, headed, at_once, shape}
use Rattle.daide_protocol.proofs.FrameShapes as Shapes
use Rattle.daide_protocol.proofs.AnswerBytes.{prn_tokens, huh_tokens, even_right, frame_whole, prn_whole, huh_whole}
use Rattle.daide_protocol.proofs.FateLemmas.{run_fates}
use Rattle.daide_protocol.proofs.LimitsKept.{runs_limits}

-- ---- the frames among the inputs are whole

abbrev pub IsGood : ℕ → EventCause → Type 0
IsGood cap (Frame side noted head body) = IsWholeFrame cap head body
IsGood cap (Fault side code) = Unit {0}
IsGood cap (End side) = Unit {0}
IsGood cap Timeout = Unit {0}
IsGood cap Stop = Unit {0}

abbrev pub AreGood : ℕ → List Came → Type 0
AreGood cap [] = Unit {0}
AreGood cap (came ∷ more) = IsGood cap came.cause × AreGood cap more

good_joins : (cap : ℕ) (a b : List Came) → AreGood cap a → AreGood cap b → AreGood cap (a ++ b)
good_joins cap [] b g h = h
good_joins cap (c ∷ a) b g h = (g.0, good_joins cap a b g.1 h)

checked_good : (cap : ℕ) (side : Side) (noted : Level) (head : Head) (body : List ℕ) (o : Result (Unit {0}) Code) →
    IsWholeFrame cap head body → IsGood cap (checked_frame side noted head body o)
checked_good cap side noted head body (Ok u) w = w
checked_good cap side noted head body (Err code) w = tt

items_good : (cap : ℕ) (phase : SessionPhase) (side : Side) (noted now : Level) (refusal : Kind → Option Code)
    (items : List FrameEvent) →
    Shape cap items → AreGood cap (came_in_phase phase (items_cause side noted now refusal items))
items_good cap phase side noted now refusal items quiet = tt
items_good cap phase side noted now refusal items (headed head) = go (refusal head.kind)
  where
    go : (code : Option Code) → AreGood cap (came_in_phase phase (fault_or side code None))
    go None = tt
    go (Some code) = (tt, tt)
items_good cap phase side noted now refusal items (at_once head w) = go (refusal head.kind)
  where
    go : (code : Option Code) →
        AreGood cap (came_in_phase phase (fault_or side code (Some (frame_cause side now head []))))
    go None = (checked_good cap side now head [] (if is_im head.kind then im_of [] else Ok tt) w, tt)
    go (Some code) = (tt, tt)
items_good cap phase side noted now refusal items (Shapes.whole head body w) =
    (checked_good cap side noted head body (if is_im head.kind then im_of body else Ok tt) w, tt)
items_good cap phase side noted now refusal items (Shapes.wrong code) = (tt, tt)

event_good : (s : SessionState) (event : Event) → AreGood s.limits.cap (came_in_phase s.phase (cause_at s event))
event_good s (Comes side byte) = go (is_over s.phase)
  where
    items : List FrameEvent
    items = last_items s.limits.cap ((coming s side).pending ++ byte ∷ [])

    go : (b : Bool) →
        AreGood s.limits.cap (came_in_phase s.phase
        (if b then None else items_cause side (coming s side).noted (level_in s.phase) (untimely s.phase side) items))
    go true = tt
    go false =
        items_good s.limits.cap s.phase side (coming s side).noted (level_in s.phase) (untimely s.phase side) items
        (shape s.limits.cap ((coming s side).pending ++ byte ∷ []))
event_good s (Ends side) = go (is_over s.phase)
  where
    go : (b : Bool) → AreGood s.limits.cap (came_in_phase s.phase (if b then None else Some (End side)))
    go true = tt
    go false = (tt, tt)
event_good s (Loses side) = go (is_over s.phase)
  where
    go : (b : Bool) → AreGood s.limits.cap (came_in_phase s.phase (if b then None else Some (End side)))
    go true = tt
    go false = (tt, tt)
event_good s ImTimerExpired = go s.phase
  where
    go : (phase : SessionPhase) → AreGood s.limits.cap (came_in_phase s.phase (timeout_in phase))
    go WaitIm = (tt, tt)
    go WaitRm = tt
    go (Open level) = tt
    go (Over ending) = tt
event_good s OperatorStops = go (is_over s.phase)
  where
    go : (b : Bool) → AreGood s.limits.cap (came_in_phase s.phase (if b then None else Some Stop))
    go true = tt
    go false = (tt, tt)

pub run_good : (s : SessionState) (events : List Event) (effects : List Effect) (new : SessionState)
    (run : Runs s events effects new) →
    AreGood s.limits.cap (came_in s events effects new run)
run_good s [] effects new run = tt
run_good s (event ∷ events) effects new run =
    let kept : run.0.limits ≡ s.limits = runs_limits (event ∷ []) s run.0 (run.1 ++ [])
    (run.0, run.1, [], run.3, (refl, refl), refl) in
    good_joins s.limits.cap (came_in_phase s.phase (cause_at s event)) (came_in run.0 events run.2 new run.4)
    (event_good s event)
    (subst (λ (l : Limits). AreGood l.cap (came_in run.0 events run.2 new run.4)) kept
    (run_good run.0 events run.2 new run.4))

-- ---- a frame for a side

same_is : (a b : Side) → same_side a b ≡ true → a ≡ b
same_is Bot Bot e = refl
same_is Bot Server e = absurd (cc)
same_is Server Bot e = absurd (cc)
same_is Server Server e = refl

-- a property of those frames that are for a side
abbrev pub EachTo : (Sent → Type 0) → Side → List Sent → Type 0
EachTo P to [] = Unit {0}
EachTo P to (frame ∷ frames) = (frame.to ≡ to → P frame) × EachTo P to frames

each_to : (P : Sent → Type 0) (to : Side) (frames : List Sent) → EachTo P to frames → All P (frames_to to frames)
each_to P to [] h = All-nil P
each_to P to (frame ∷ frames) h = go (same_side frame.to to) refl (each_to P to frames h.1)
  where
    go : (b : Bool) → same_side frame.to to ≡ b → All P (frames_to to frames) →
        All P (if b then frame ∷ frames_to to frames else frames_to to frames)
    go true e rest = All-cons P frame (frames_to to frames) (h.0 (same_is frame.to to e)) rest
    go false e rest = rest

-- ---- the meaning of a verdict

relay_says : (message : List ℕ → Type 0) (max_depth : ℕ) (m : List ℕ) → HasVerdict message max_depth m Verdicts.Relay →
    IsPaired m × IsRelayed message max_depth m
unfolding HasVerdict
relay_says message max_depth m v = v

prn_says : (message : List ℕ → Type 0) (max_depth : ℕ) (m : List ℕ) → HasVerdict message max_depth m Verdicts.Prn →
    ¬ IsPaired m
unfolding HasVerdict
prn_says message max_depth m v = v

huh_says : (message : List ℕ → Type 0) (max_depth : ℕ) (m : List ℕ) (place : ℕ) →
    HasVerdict message max_depth m (Verdicts.Huh place) →
    IsPaired m × (¬ IsRelayed message max_depth m) × IsErrorPlace message max_depth m place
unfolding HasVerdict
huh_says message max_depth m place v = v

-- a report PRN is always relayed, so a message that gets HUH balances
pub not_report : (message : List ℕ → Type 0) (max_depth : ℕ) (m : List ℕ) → (IsPrnWrapped m → message m) → IsPaired m →
    ¬ IsRelayed message max_depth m → (begins_with_prn m ≡ false) × IsBalanced m
not_report message max_depth m reports (inl r) refused =
    let flat : depth_of m ≡ 0 = ap depth_of r.1 in
    absurd (refused (record { is_message = reports r; shallow = omega (arith, flat) }))
not_report message max_depth m reports (inr p) refused = p

pub huh_balances : (a : List ℕ) → IsBalanced a → IsBalanced (huh ∷ bra ∷ (a ++ ket ∷ []))
huh_balances a h =
    Balance.joined (huh ∷ []) (bra ∷ (a ++ ket ∷ []))
    (Balance.plain huh (λ e. absurd (omega arith)) (λ e. absurd (omega arith))) (Balance.bracketed a h)

-- ---- frames without a message

pub other_other : (side : Side) → other (other side) ≡ side
other_other Bot = refl
other_other Server = refl

em_frame : (code : Code) → IsFrame Em (0 ∷ code_number code ∷ []) (em_bytes code)
unfolding head_bytes
em_frame code = record { whole = refl; right = refl; short = omega arith }

fm_frame : IsFrame Fm [] fm_bytes
unfolding head_bytes
fm_frame = record { whole = refl; right = refl; short = omega arith }

-- ---- the fate of an input may be sent

module _ (limits : Limits) (small : limits.cap ≤ longest_body) (all : List Came) (to : Side) where
  abbrev May : Sent → Type 0
  May frame = MayBeSent limits all to frame.bytes

  fm_may : (phase : SessionPhase) (side : Side) → EachTo May to (fm_to phase side)
  fm_may phase side = go (may_reach phase side)
    where
      go : (b : Bool) →
          EachTo May to (if b then record { to = side; answers = None; bytes = fm_bytes } ∷ [] else [])
      go true = (λ e. no_message Fm [] refl fm_frame, tt)
      go false = tt

  each_may : (some more : List Sent) → EachTo May to some → EachTo May to more → EachTo May to (some ++ more)
  each_may [] more h k = k
  each_may (frame ∷ some) more h k = (h.0, each_may some more h.1 k)

  em_may : (side : Side) (code : Code) (frames : List Sent) → EachTo May to frames →
      EachTo May to (em_to side code ∷ frames)
  em_may side code frames h = (λ e. no_message Em (0 ∷ code_number code ∷ []) refl (em_frame code), h)

  other_frame : (side : Side) (head : Head) (body : List ℕ) → IsWholeFrame limits.cap head body →
      is_dm head.kind ≡ false → EachTo May to (passed_on side head body ∷ [])
  other_frame side head body w n = (λ e. no_message head.kind body n (frame_whole limits.cap head body small w), tt)

  -- an FM or EM
  last_frame : (phase : SessionPhase) (side : Side) (head : Head) (body : List ℕ) → IsWholeFrame limits.cap head body →
      is_dm head.kind ≡ false →
      EachTo May to (if may_reach phase (other side) then passed_on side head body ∷ [] else [])
  last_frame phase side head body w n = go (may_reach phase (other side))
    where
      go : (b : Bool) → EachTo May to (if b then passed_on side head body ∷ [] else [])
      go true = other_frame side head body w n
      go false = tt

  -- a message among the inputs
  module _ (side : Side) (noted : Level) (len : ℕ) (body : List ℕ)
      (w : IsWholeFrame limits.cap (record { kind = Dm; len = len }) body) (come : HasCome all side noted body) where
    abbrev Message : List ℕ → Type 0
    Message = IsMessageOver limits.words (side2_of side) noted

    abbrev head : Head
    head = record { kind = Dm; len = len }

    even : length body % 2 ≡ 0
    even = even_right (length body) (ap (has_right_length Dm) w.long ∙ w.right)

    passed_may : HasVerdict Message limits.max_depth (tokens_of body) Verdicts.Relay →
        EachTo May to (passed_on side head body ∷ [])
    passed_may v = (λ e. here (sym (ap other e) ∙ other_other side), tt)
      where
        says : IsPaired (tokens_of body) × IsRelayed Message limits.max_depth (tokens_of body)
        says = relay_says Message limits.max_depth (tokens_of body) v

        is_passed : IsPassed limits side noted (tokens_of body)
        is_passed = record { is_message = says.1.is_message; shallow = says.1.shallow; paired = says.0 }

        here : other to ≡ side → MayBeSent limits all to (head_bytes head ++ body)
        here e =
            passed noted body (frame_whole limits.cap head body small w)
            (subst (λ (s : Side). HasCome all s noted body) (sym e) come)
            (subst (λ (s : Side). IsPassed limits s noted (tokens_of body)) (sym e) is_passed)

    prn_may : HasVerdict Message limits.max_depth (tokens_of body) Verdicts.Prn →
        EachTo May to (given_back side head body Verdicts.Prn ∷ [])
    prn_may v = (λ e. here e, tt)
      where
        tokens : tokens_of (answer_body body Verdicts.Prn) ≡ prn ∷ bra ∷ (tokens_of body ++ ket ∷ [])
        tokens = prn_tokens body even

        here : side ≡ to → MayBeSent limits all to (answer_bytes head body Verdicts.Prn)
        here e =
            within_prn noted body (answer_body body Verdicts.Prn) (prn_whole limits.cap head body small w even)
            (subst (λ (s : Side). HasCome all s noted body) e come)
            (record {
              answer_is = tokens;
              unpaired = prn_says Message limits.max_depth (tokens_of body) v;
              flat = ap depth_of tokens;
            })

    huh_may : (place : ℕ) → HasVerdict Message limits.max_depth (tokens_of body) (Verdicts.Huh place) →
        EachTo May to (given_back side head body (Verdicts.Huh place) ∷ [])
    huh_may place v = (λ e. here e, tt)
      where
        m : List ℕ
        m = tokens_of body

        says : IsPaired m × (¬ IsRelayed Message limits.max_depth m) × IsErrorPlace Message limits.max_depth m place
        says = huh_says Message limits.max_depth m place v

        within : 2 * place ≤ length body
        within = omega (arith, says.2.within, tokens_of-length body)

        tokens : tokens_of (answer_body body (Verdicts.Huh place))
            ≡ huh ∷ bra ∷ ((take place m ++ err ∷ drop place m) ++ ket ∷ [])
        tokens = huh_tokens place body even within

        quiet_one : (begins_with_prn m ≡ false) × IsBalanced m
        quiet_one = not_report Message limits.max_depth m (λ r. inl r) says.0 says.1

        is_within : IsWithinHuh limits side noted place m (tokens_of (answer_body body (Verdicts.Huh place)))
        is_within = record {
          answer_is = tokens;
          within = says.2.within;
          paired = says.0;
          refused = says.1;
          balanced = subst IsBalanced (sym tokens)
              (huh_balances (take place m ++ err ∷ drop place m) (err-put-in place m quiet_one.1));
          deeper = ap depth_of tokens ∙ huh-err-depth place m ∙ huh_depth m quiet_one.1 quiet_one.0;
        }

        here : side ≡ to → MayBeSent limits all to (answer_bytes head body (Verdicts.Huh place))
        here e =
            within_huh noted place body (answer_body body (Verdicts.Huh place))
            (huh_whole limits.cap head body place small w even within)
            (subst (λ (s : Side). HasCome all s noted body) e come)
            (subst (λ (s : Side). IsWithinHuh limits s noted place m (tokens_of (answer_body body
            (Verdicts.Huh place))))
            e is_within)

    message_may : (sent : List Sent) → IsMessageFate limits side noted head body sent → EachTo May to sent
    message_may sent (is_passed_on v e) = subst (EachTo May to) (sym e) (passed_may v)
    message_may sent (is_answered_prn v e) = subst (EachTo May to) (sym e) (prn_may v)
    message_may sent (is_answered_huh place v e) = subst (EachTo May to) (sym e) (huh_may place v)

  frame_may : (phase : SessionPhase) (side : Side) (noted : Level) (kind : Kind) (len : ℕ) (body : List ℕ) (sent : List Sent) →
      IsWholeFrame limits.cap (record { kind = kind; len = len }) body →
      (◌≡◌ {A = EventCause} (Frame side noted (record { kind = kind; len = len }) body)
      (Frame side noted (record { kind = Dm; len = length body }) body) → HasCome all side noted body) →
      IsFrameFate kind limits phase side noted (record { kind = kind; len = len }) body sent →
      EachTo May to sent
  frame_may phase side noted Im len body sent w come e =
      subst (EachTo May to) (sym e) (other_frame side (record { kind = Im; len = len }) body w refl)
  frame_may phase side noted Rm len body sent w come e =
      subst (EachTo May to) (sym e) (other_frame side (record { kind = Rm; len = len }) body w refl)
  frame_may phase side noted Dm len body sent w come f =
      message_may side noted len body w
      (come (ap (λ (n : ℕ). Frame side noted (record { kind = Dm; len = n }) body) (sym w.long))) sent f
  frame_may phase side noted Fm len body sent w come e =
      subst (EachTo May to) (sym e) (last_frame phase side (record { kind = Fm; len = len }) body w refl)
  frame_may phase side noted Em len body sent w come e =
      subst (EachTo May to) (sym e) (last_frame phase side (record { kind = Em; len = len }) body w refl)

  pub cause_may : (phase : SessionPhase) (cause : EventCause) (sent : List Sent) → IsGood limits.cap cause →
      ((side : Side) (noted : Level) (body : List ℕ) →
      cause ≡ Frame side noted (record { kind = Dm; len = length body }) body → HasCome all side noted body) →
      IsFate limits phase cause sent → EachTo May to sent
  cause_may phase (Frame side noted head body) sent w come f =
      frame_may phase side noted head.kind head.len body sent w (come side noted body) f
  cause_may phase (Fault side code) sent w come e =
      subst (EachTo May to) (sym e) (em_may side code (fm_to phase (other side)) (fm_may phase (other side)))
  cause_may phase (End side) sent w come e = subst (EachTo May to) (sym e) (fm_may phase (other side))
  cause_may phase Timeout sent w come e = subst (EachTo May to) (sym e) (em_may Bot ImTimeout [] tt)
  cause_may phase Stop sent w come e = subst (EachTo May to) (sym e)
      (each_may (fm_to phase Bot) (fm_to phase Server) (fm_may phase Bot) (fm_may phase Server))

  all_may : (came : List Came) (effects : List Effect) → AreGood limits.cap came →
      ((side : Side) (noted : Level) (body : List ℕ) → HasCome came side noted body → HasCome all side noted body) →
      HaveFates limits came effects → All May (sent_to to effects)
  all_may [] effects g come f = subst (λ (e : List Effect). All May (sent_to to e)) (sym f) (All-nil May)
  all_may (c ∷ more) [] g come f = absurd f
  all_may (c ∷ more) (effect ∷ effects) g come f =
      All-append May (frames_to to effect.sent) (sent_to to effects)
      (each_to May to effect.sent
      (cause_may c.phase c.cause effect.sent g.0 (λ side noted body e. come side noted body (inl e)) f.0))
      (all_may more effects g.1 (λ side noted body h. come side noted body (inr h)) f.1)

pub only_messages : (limits : Limits) (events : List Event) (effects : List Effect) (new : SessionState)
    (run : Runs (initial_state limits) events effects new) → limits.cap ≤ longest_body → (to : Side) →
    All (λ (sent : Sent). MayBeSent limits (came_in (initial_state limits) events effects new run) to sent.bytes)
    (sent_to to effects)
only_messages limits events effects new run small to =
    let came = came_in (initial_state limits) events effects new run in
    all_may limits small came to came effects (run_good (initial_state limits) events effects new run)
    (λ side noted body h. h) (run_fates (initial_state limits) events effects new run)
