-- The head of a log, line by line.
use Rattle.daide_log.proofs.Common.{MatchBool, ◌≡◌, ℕ, zero, suc, ◌+◌, ◌≤◌, Bool, true, false, cond, List, [], ◌∷◌}
use Rattle.daide_log.proofs.Common.{length, Option, Some, None, Result, Ok, Err, refl, sym, ap, subst, arith, ◌≢◌, OnOk}
use Rattle.daide_log.proofs.Common.{IfErr, IfSome, option_map, not, replicate, SessionState, SessionView, same_Some}
use Rattle.daide_log.proofs.Common.{LineEnd, Held, Line, Last, End, LogFault, Opened, More, Headed, heading_after}
use Rattle.daide_log.proofs.Common.{has_all_words, preamble_of, heading_of, Keeps, most_lines, Reader, IsFound}
use Rattle.daide_log.proofs.Common.{keeps_appends, ⊤, Word, words_of, ReportForm, IsWritableForm, HasRead, HasReadAll}
use Rattle.daide_log.proofs.Common.{GivesInTime, IsPreambleProgress, IsOpened, IsOpenedBy, IsFaultAfter, states_of}
use Rattle.daide_log_lines.specs.declared.fault.LogFault.TheVariants as Faults
use Rattle.daide_log.specs.declared.opening.PreambleProgress.{PreambleProgress}
use Rattle.daide_log.specs.declared.opening.PreambleProgress.TheVariants.{Done}
use Rattle.daide_log.specs.Heading.{HasSessions}
use Rattle.daide_log.specs.declared.heading.Preamble as heads
use Rattle.daide_log.specs.declared.heading.Heading as headings
use Rattle.daide_log.specs.declared.heading.Heading.TheVariants as Variants
use Rattle.daide_log.specs.PreambleKnown.{IsPreambleKnown, whole_preamble, preamble_after, at_last, after_line}
use Rattle.daide_log.specs.Log.{Opening, stage_at, state_after_preamble}
use Rattle.daide_log.specs.ReportForm.{HasWords}
use Rattle.daide_log.proofs.LogLemmas.{line_read, last_read, end_read, bad_line, bad_last, ends_early, fault_found}

-- while a head is incomplete, another of its lines follows
pub more_to_come : (heading : headings.Heading) → whole_preamble heading ≡ None →
    stage_at (heading_of heading) ≡ Opening (heading_of heading)
more_to_come Variants.Unnamed e = refl
more_to_come (Variants.Named version) e = refl
more_to_come (Variants.Headed head) e = go (has_all_words (preamble_of head)) e
  where
    go : (b : Bool) → cond b (Some head) None ≡ None →
        cond b (state_after_preamble (preamble_of head)) (Opening (Headed (preamble_of head))) ≡ Opening (Headed (preamble_of head))
    go true e = absurd (cc)
    go false e = refl

-- the sessions of a complete head
pub whole_begun : (heading : headings.Heading) (head : heads.Preamble) → whole_preamble heading ≡ Some head →
    stage_at (heading_of heading) ≡ state_after_preamble (preamble_of head)
whole_begun Variants.Unnamed head e = absurd (cc)
whole_begun (Variants.Named version) head e = absurd (cc)
whole_begun (Variants.Headed held) head e = go (has_all_words (preamble_of held)) e
  where
    go : (b : Bool) → cond b (Some held) None ≡ Some head →
        cond b (state_after_preamble (preamble_of held)) (Opening (Headed (preamble_of held))) ≡ state_after_preamble (preamble_of head)
    go true e = ap (λ (h : heads.Preamble). state_after_preamble (preamble_of h)) (same_Some held head e)
    go false e = absurd (cc)

-- an incomplete head has any words, and a complete one its own
any_words : (words : List Word) (heading : headings.Heading) → whole_preamble heading ≡ None → HasWords words (heading_of heading)
any_words words Variants.Unnamed e = tt
any_words words (Variants.Named version) e = tt
any_words words (Variants.Headed head) e = go (has_all_words (preamble_of head)) e
  where
    go : (b : Bool) → cond b (Some head) None ≡ None → MatchBool b (words_of head.words ≡ words) ⊤
    go true e = absurd (cc)
    go false e = tt

own_words : (heading : headings.Heading) (head : heads.Preamble) → whole_preamble heading ≡ Some head →
    HasWords (words_of head.words) (heading_of heading)
own_words Variants.Unnamed head e = absurd (cc)
own_words (Variants.Named version) head e = absurd (cc)
own_words (Variants.Headed held) head e = go (has_all_words (preamble_of held)) e
  where
    go : (b : Bool) → cond b (Some held) None ≡ Some head → MatchBool b (words_of held.words ≡ words_of head.words) ⊤
    go true e = ap (λ (h : heads.Preamble). words_of h.words) (same_Some held head e)
    go false e = absurd (cc)

-- ---- the text written, and the block

pub step_kept : (found : Result LineEnd LogFault) (next : Option headings.Heading) (n : ℕ) (step : PreambleProgress) (P : Type 0) →
    after_line found next n ≡ Ok step → OnOk found P → P
step_kept (Err fault) next n step P e h = absurd (cc)
step_kept (Ok found) next n step P e h = h

pub fault_keeps : (found : Result LineEnd LogFault) (next : Option headings.Heading) (n : ℕ) (fault : LogFault) (P : Type 0) →
    after_line found next n ≡ Err fault → OnOk found P → IfErr found (λ f. f ≢ Faults.Write → P) →
    fault ≢ Faults.Write → P
fault_keeps (Err f) next n fault P e h k other = k (λ w. other (cc))
fault_keeps (Ok found) next n fault P e h k other = h

next_of : (next heading : headings.Heading) (n : ℕ) (o : Option heads.Preamble) →
    ◌≡◌ {A = Result PreambleProgress LogFault} (Ok (preamble_after next (n + 1) o)) (Ok (More heading)) → Some next ≡ Some heading
next_of next heading n None w = cc
next_of next heading n (Some head) w = absurd (cc)

pub next_is : (found : Result LineEnd LogFault) (next : Option headings.Heading) (n : ℕ) (heading : headings.Heading) →
    after_line found next n ≡ Ok (More heading) → next ≡ Some heading
next_is (Err fault) next n heading e = absurd (cc)
next_is (Ok (Held k)) None n heading e = absurd (cc)
next_is (Ok (Held k)) (Some next) n heading e = next_of next heading n (whole_preamble next) e
next_is (Ok Line) None n heading e = absurd (cc)
next_is (Ok Line) (Some next) n heading e = next_of next heading n (whole_preamble next) e
next_is (Ok Last) None n heading e = absurd (cc)
next_is (Ok Last) (Some next) n heading e = go (whole_preamble next) e
  where
    go : (o : Option heads.Preamble) → at_last (n + 1) o ≡ Ok (More heading) → Some next ≡ Some heading
    go None w = absurd (cc)
    go (Some head) w = absurd (cc)
next_is (Ok End) next n heading e = absurd (cc)

pub next_held : (next : Option headings.Heading) (heading : headings.Heading) → next ≡ Some heading →
    IfSome next IsPreambleKnown → IsPreambleKnown heading
next_held next heading e h = subst (λ (o : Option headings.Heading). IfSome o IsPreambleKnown) e h

-- a complete head is within the limits
whole_held : (heading : headings.Heading) (head : heads.Preamble) → whole_preamble heading ≡ Some head →
    IsPreambleKnown heading → HasSessions head.limits
whole_held Variants.Unnamed head e h = absurd (cc)
whole_held (Variants.Named version) head e h = absurd (cc)
whole_held (Variants.Headed held) head e h = go (has_all_words (preamble_of held)) e
  where
    go : (b : Bool) → cond b (Some held) None ≡ Some head → HasSessions head.limits
    go true w = subst (λ (p : heads.Preamble). HasSessions p.limits) (same_Some held head w) h
    go false w = absurd (cc)

more_done : (heading : headings.Heading) (lines : ℕ) (opened : Opened) → preamble_after heading lines (whole_preamble heading) ≡ Done opened →
    IsPreambleKnown heading → HasSessions opened.head.limits
more_done heading lines opened e h = go (whole_preamble heading) refl e
  where
    go : (o : Option heads.Preamble) → whole_preamble heading ≡ o → preamble_after heading lines o ≡ Done opened →
        HasSessions opened.head.limits
    go None w d = absurd (cc)
    go (Some head) w d =
        let same : head ≡ opened.head = cc in
        subst (λ (p : heads.Preamble). HasSessions p.limits) same (whole_held heading head w h)

last_done : (heading : headings.Heading) (lines : ℕ) (opened : Opened) → at_last lines (whole_preamble heading) ≡ Ok (Done opened) →
    IsPreambleKnown heading → HasSessions opened.head.limits
last_done heading lines opened e h = go (whole_preamble heading) refl e
  where
    go : (o : Option heads.Preamble) → whole_preamble heading ≡ o → at_last lines o ≡ Ok (Done opened) →
        HasSessions opened.head.limits
    go None w d = absurd (cc)
    go (Some head) w d =
        let same : head ≡ opened.head = cc in
        subst (λ (p : heads.Preamble). HasSessions p.limits) same (whole_held heading head w h)

pub done_held : (found : Result LineEnd LogFault) (next : Option headings.Heading) (n : ℕ) (opened : Opened) →
    after_line found next n ≡ Ok (Done opened) → IfSome next IsPreambleKnown → HasSessions opened.head.limits
done_held (Err fault) next n opened e h = absurd (cc)
done_held (Ok (Held k)) None n opened e h = absurd (cc)
done_held (Ok (Held k)) (Some next) n opened e h = more_done next (n + 1) opened (cc) h
done_held (Ok Line) None n opened e h = absurd (cc)
done_held (Ok Line) (Some next) n opened e h = more_done next (n + 1) opened (cc) h
done_held (Ok Last) None n opened e h = absurd (cc)
done_held (Ok Last) (Some next) n opened e h = last_done next (n + 1) opened e h
done_held (Ok End) next n opened e h = absurd (cc)

-- as many sessions were created as the head says
pub as_many : (sessions : List SessionView) (n : ℕ) (state : SessionState) → states_of sessions ≡ replicate n state →
    length sessions ≡ n
as_many [] zero state e = refl
as_many [] (suc n) state e = absurd (cc)
as_many (session ∷ sessions) zero state e = absurd (cc)
as_many (session ∷ sessions) (suc n) state e =
    let others : states_of sessions ≡ replicate n state = cc in
    ap suc (as_many sessions n state others)

module _ {Answer : Type 0} (form : ReportForm Answer) where
  -- the end of the head

  pub opened_more : (opened : Opened) (before : Option (List ℕ)) (old new : Reader) (held : List ℕ) → not opened.is_ended ≡ false →
      IsOpened form opened before old new held → HasRead form before old new held opened.lines [] (state_after_preamble (preamble_of opened.head))
  opened_more opened before old new held e h = go opened.is_ended e h.0
    where
      go : (b : Bool) → not b ≡ false → IsOpenedBy form b (preamble_of opened.head) opened.lines before old new held →
          HasRead form before old new held opened.lines [] (state_after_preamble (preamble_of opened.head))
      go true e k = k
      go false e k = absurd (cc)

  pub opened_last : (opened : Opened) (before : Option (List ℕ)) (old new : Reader) (held : List ℕ) → not opened.is_ended ≡ true →
      IsOpened form opened before old new held → HasReadAll form before old new opened.lines [] (state_after_preamble (preamble_of opened.head))
  opened_last opened before old new held e h = go opened.is_ended e h.0
    where
      go : (b : Bool) → not b ≡ true → IsOpenedBy form b (preamble_of opened.head) opened.lines before old new held →
          HasReadAll form before old new opened.lines [] (state_after_preamble (preamble_of opened.head))
      go true e k = absurd (cc)
      go false e k = k

  pub memory_wanted : (opened : Opened) (old new : Reader) (held : List ℕ) (a b : Option (List ℕ))
      (fault : LogFault) → fault ≡ Faults.Memory → IsOpened form opened a old new held → Keeps a b →
      IsFaultAfter form old new a b fault
  memory_wanted opened old new held a b fault e h k =
      subst (IsFaultAfter form old new a b) (sym e) (by_late form.late)
    where
      given : (b : Bool) → IsOpenedBy form b (preamble_of opened.head) opened.lines a old new held →
          (given : List ℕ) × GivesInTime form a old new given
      given true k = (k.given, k.gives)
      given false k = (k.given, k.gives)

      by_late : (late : Bool) →
          MatchBool late ((given : List ℕ) × GivesInTime form a old new given)
          ((opened : Opened) × (held : List ℕ) × IsOpened form opened a old new held × Keeps a b)
      by_late true = given opened.is_ended h.0
      by_late false = (opened, held, h, k)

module _ {Answer : Type 0} (form : List Word → ReportForm Answer) where
  -- this number of lines of the head was read, and nothing was written
  pub record IsReading (old now : Reader) (held : List ℕ) (number : ℕ) (heading : headings.Heading)
      (before after : Option (List ℕ)) : Type 0 where
    pub has_read : (words : List Word) → HasRead (form words) before old now held number [] (Opening (heading_of heading))
    pub held_well : IsPreambleKnown heading
    pub fits : number ≤ most_lines
    pub kept : Keeps before after

  -- ---- a line

  -- a line with its line feed
  line_judged : ((words : List Word) → IsWritableForm words (form words)) → (before all : Option (List ℕ)) (old now new : Reader)
      (held line rest : List ℕ) (n : ℕ) (heading : headings.Heading) (next : Option headings.Heading) →
      ((words : List Word) → HasRead (form words) before old now held n [] (Opening (heading_of heading))) → Keeps before all →
      IsFound all now held n (Ok Line) line new rest → option_map heading_of next ≡ heading_after (heading_of heading) line →
      IsPreambleProgress form before old new rest n (after_line (Ok Line) next n)
  line_judged lawful before all old now new held line rest n heading None h k f e = λ words.
      bad_line (form words) before all old now new held rest line n [] (Opening (heading_of heading)) (h words)
      (keeps_appends before all k) f (sym e)
  line_judged lawful before all old now new held line rest n heading (Some next) h k f e = go (whole_preamble next) refl
    where
      read : (words : List Word) → HasWords words (heading_of next) →
          HasRead (form words) before old new rest (n + 1) [] (stage_at (heading_of next))
      read words has = line_read (form words) before all old now new held rest line n [] [] (Opening (heading_of heading))
          (stage_at (heading_of next)) (h words) (keeps_appends before all k) f
          (heading_of next, sym e, (lawful words).of_head (heading_of next) has, refl)

      go : (o : Option heads.Preamble) → whole_preamble next ≡ o →
          IsPreambleProgress form before old new rest n (Ok (preamble_after next (n + 1) o))
      go None w = (
        λ words. subst (HasRead (form words) before old new rest (n + 1) []) (more_to_come next w)
            (read words (any_words words next w)),
        f.4,
      )
      go (Some head) w = (
        subst (HasRead (form (words_of head.words)) before old new rest (n + 1) []) (whole_begun next head w)
            (read (words_of head.words) (own_words next head w)),
        omega (arith, f.4),
      )

  -- one more line of the head
  pub head_judged : ((words : List Word) → IsWritableForm words (form words)) → (before all : Option (List ℕ))
      (old now new : Reader) (held line rest : List ℕ) (n : ℕ) (found : Result LineEnd LogFault)
      (heading : headings.Heading) (next : Option headings.Heading) →
      ((words : List Word) → HasRead (form words) before old now held n [] (Opening (heading_of heading))) → Keeps before all →
      IsFound all now held n found line new rest → option_map heading_of next ≡ heading_after (heading_of heading) line →
      IsPreambleProgress form before old new rest n (after_line found next n)
  head_judged lawful before all old now new held line rest n (Err fault) heading next h k f e = λ words.
      fault_found (form words) before all old now new held rest line n [] (Opening (heading_of heading)) fault (h words)
      (keeps_appends before all k) f
  head_judged lawful before all old now new held line rest n (Ok (Held j)) heading None h k f e =
      line_judged lawful before all old now new held line rest n heading None h k f e
  head_judged lawful before all old now new held line rest n (Ok (Held j)) heading (Some next) h k f e =
      line_judged lawful before all old now new held line rest n heading (Some next) h k f e
  head_judged lawful before all old now new held line rest n (Ok Line) heading next h k f e =
      line_judged lawful before all old now new held line rest n heading next h k f e
  head_judged lawful before all old now new held line rest n (Ok Last) heading None h k f e = λ words.
      bad_last (form words) before all old now new held rest line n [] (Opening (heading_of heading)) (h words)
      (keeps_appends before all k) f (sym e) refl
  head_judged lawful before all old now new held line rest n (Ok Last) heading (Some next) h k f e = go (whole_preamble next) refl
    where
      read : (words : List Word) → HasWords words (heading_of next) →
          HasReadAll (form words) before old new (n + 1) [] (stage_at (heading_of next))
      read words has = last_read (form words) before all old now new held rest line n [] [] (Opening (heading_of heading))
          (stage_at (heading_of next)) (h words) (keeps_appends before all k) f
          (heading_of next, sym e, (lawful words).of_head (heading_of next) has, refl)

      go : (o : Option heads.Preamble) → whole_preamble next ≡ o →
          IsPreambleProgress form before old new rest n (at_last (n + 1) o)
      go None w = λ words. ends_early (form words) before old new (n + 1) [] (Opening (heading_of next))
          (subst (HasReadAll (form words) before old new (n + 1) []) (more_to_come next w)
          (read words (any_words words next w))) tt
      go (Some head) w = (
        subst (HasReadAll (form (words_of head.words)) before old new (n + 1) []) (whole_begun next head w)
            (read (words_of head.words) (own_words next head w)),
        omega (arith, f.6),
      )
  head_judged lawful before all old now new held line rest n (Ok End) heading next h k f e = λ words.
      ends_early (form words) before old new n [] (Opening (heading_of heading))
      (end_read (form words) before all old now new held rest line n [] (Opening (heading_of heading)) (h words)
      (keeps_appends before all k) f) tt
