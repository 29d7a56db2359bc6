-- How a side's reader follows as more bytes of a frame arrive.
use Rattle.std.proofs.Common.{◌%◌, ◌^◌}
use Rattle.std.proofs.lemmas.List.{take-append-le, drop-append-le, drop_all}
use Rattle.daide_channels.proofs.Common.{◌≡◌, ℕ, ◌+◌, ◌-◌, ◌*◌, ◌/◌, ◌<◌, ◌≤◌, Bool, true, false, List, [], ◌∷◌, ◌++◌}
use Rattle.daide_channels.proofs.Common.{length, take, drop, Option, None, refl, sym, ap, ◌∙◌, subst, arith}
use Rattle.daide_channels.proofs.Common.{length-append, length-drop, append_assoc, append-nil, nat_lt, if◌then◌else◌}
use Rattle.daide_channels.proofs.Common.{nat_tests, tokens_of, Side, Head, fed, head_in, head_part, lvl_scan_of}
use Rattle.daide_channels.proofs.Common.{frame_tokens, is_dm_head, IsCorrectVerdict, question_of, is_dm, side2_of, Level}
use Rattle.daide_channels.proofs.Common.{start_symbol_of, Reading, IsRaised, HasReadPrefix, Verdict, StartsFrame}
use Rattle.daide_channels.proofs.Common.{Receiver, ReaderLimits, ReadsMessageBytes, receiver_of, rules_of, tokens_ended}
use Rattle.daide_frame.specs.Frames.{Cut, is_nothing, last_items}
use Rattle.daide_frame.proofs.FramesLemmas.{head_in-short, head_in-whole, parse_head-append4}
use Rattle.daide_protocol.specs.declared.hlo.HloScan.{HloScan}
use Rattle.daide_grammar.specs.declared.predict.Predict.{Ghosts}
use Rattle.daide_grammar.specs.SideMessages.{IsMessageOver}
use Rattle.daide_grammar.specs.Words.{Words}
use Rattle.daide_reader.specs.declared.verdict.Verdict.TheVariants.{Relay}
use Rattle.daide_reader.specs.Verdict.{IsPlaceIn, HasVerdict}
use Rattle.daide_channels.specs.Receiver.{IsReadOn, HasHuhIndex}
use Rattle.daide_reader.proofs.BodyLemmas.{tokens_of-length, tokens_of-all}

-- a piece lengthens the bytes by at most its own length
pub record Grows (b piece after : List ℕ) : Type 0 where
  pub more : List ℕ
  pub longer : after ≡ b ++ more
  pub few : length more ≤ length piece

pub fed_grows : (limit : ℕ) (b piece : List ℕ) → Grows b piece (fed limit b piece)
fed_grows limit b [] = record { more = []; longer = sym (append-nil b); few = omega arith }
fed_grows limit b (x ∷ piece) = go (is_nothing (last_items limit (b ++ x ∷ []))) refl
    (fed_grows limit (b ++ x ∷ []) piece)
  where
    go : (n : Bool) → is_nothing (last_items limit (b ++ x ∷ [])) ≡ n
        → Grows (b ++ x ∷ []) piece (fed limit (b ++ x ∷ []) piece) → Grows b (x ∷ piece) (fed limit b (x ∷ piece))
    go true e h =
        let few = h.few in
        rw e (record {
          more = x ∷ h.more;
          longer = h.longer ∙ append_assoc b (x ∷ []) h.more;
          few = omega arith;
        })
    go false e h = rw e (record { more = x ∷ []; longer = refl; few = omega arith })

-- a header stays the same when more bytes follow
pub head_in-more : (limit : ℕ) (b more : List ℕ) → 4 ≤ length b → head_in limit (b ++ more) ≡ head_in limit b
head_in-more limit [] more l = absurd (omega arith)
head_in-more limit (p ∷ []) more l = absurd (omega arith)
head_in-more limit (p ∷ q ∷ []) more l = absurd (omega arith)
head_in-more limit (p ∷ q ∷ r ∷ []) more l = absurd (omega arith)
head_in-more limit (p ∷ q ∷ r ∷ s ∷ v) more l =
    head_in-whole limit (p ∷ q ∷ r ∷ s ∷ (v ++ more)) (omega arith)
    ∙ ap head_part (parse_head-append4 limit p q r s (v ++ more) ∙ sym (parse_head-append4 limit p q r s v))
    ∙ sym (head_in-whole limit (p ∷ q ∷ r ∷ s ∷ v) l)

pub below_four : (n : ℕ) → nat_lt n 4 ≡ true → n < 4
below_four n e = grind (arith, nat_tests)

pub not_below_four : (n : ℕ) → nat_lt n 4 ≡ false → 4 ≤ n
not_below_four n e = grind (arith, nat_tests)

-- the reader has read those tokens of the message that lie in the first of these bytes
pub record IsReadFurther (limit : ℕ) (b more : List ℕ) : Type 0 where
  pub within : 2 * length (frame_tokens limit b) ≤ length (drop 4 (b ++ more))
  pub front : tokens_of (take (2 * length (frame_tokens limit b)) (drop 4 (b ++ more))) ≡ frame_tokens limit b
  pub few : length (drop 4 (b ++ more)) / 2 - length (frame_tokens limit b) ≤ length more / 2 + 1

-- the tokens of a front, even if the rest begins inside a token
tokens_front : (w more : List ℕ) → tokens_of (take (2 * (length w / 2)) (w ++ more)) ≡ tokens_of w
tokens_front w more = rw (take-append-le (2 * (length w / 2)) w more (omega arith)) (tokens_of-all w)

pub read_on : (limit : ℕ) (b more : List ℕ) → is_dm_head (head_in limit (b ++ more)) ≡ true → IsReadFurther limit b more
read_on limit b more dm = by_test (nat_lt (length b) 4) refl
  where
    early : length b < 4 → IsReadFurther limit b more
    early l =
        let none : frame_tokens limit b ≡ [] = ap (λ h. if is_dm_head h then tokens_of (drop 4 b) else [])
        (head_in-short limit b l) in
        record {
          within = rw none (omega arith);
          front = rw none refl;
          few = rw none (omega (arith, length-drop 4 (b ++ more), length-append b more));
        }

    later : 4 ≤ length b → IsReadFurther limit b more
    later l =
        let same : is_dm_head (head_in limit b) ≡ true = ap is_dm_head (sym (head_in-more limit b more l)) ∙ dm in
        let all : frame_tokens limit b ≡ tokens_of (drop 4 b) = ap
        (λ (k : Bool). if k then tokens_of (drop 4 b) else []) same in
        let count = tokens_of-length (drop 4 b) in
        record {
          within = rw (all, drop-append-le 4 b more l, count) (omega (arith, length-append (drop 4 b) more));
          front = rw (all, drop-append-le 4 b more l, count) (tokens_front (drop 4 b) more);
          few = rw (all, drop-append-le 4 b more l, count) (omega (arith, length-append (drop 4 b) more));
        }

    by_test : (k : Bool) → nat_lt (length b) 4 ≡ k → IsReadFurther limit b more
    by_test true e = early (below_four (length b) e)
    by_test false e = later (not_below_four (length b) e)

-- the bytes of a frame that is no message hold no token
pub none_held : (limit : ℕ) (b : List ℕ) → is_dm_head (head_in limit b) ≡ false → frame_tokens limit b ≡ []
none_held limit b e = ap (λ (k : Bool). if k then tokens_of (drop 4 b) else []) e

pub all_held : (limit : ℕ) (b : List ℕ) → is_dm_head (head_in limit b) ≡ true → frame_tokens limit b
    ≡ tokens_of (drop 4 b)
all_held limit b e = ap (λ (k : Bool). if k then tokens_of (drop 4 b) else []) e

-- a frame that is no message was no message with fewer bytes either
pub no_dm_before : (limit : ℕ) (b more : List ℕ) → is_dm_head (head_in limit (b ++ more)) ≡ false →
    is_dm_head (head_in limit b) ≡ false
no_dm_before limit b more e = by_test (nat_lt (length b) 4) refl
  where
    by_test : (k : Bool) → nat_lt (length b) 4 ≡ k → is_dm_head (head_in limit b) ≡ false
    by_test true t = ap is_dm_head (head_in-short limit b (below_four (length b) t))
    by_test false t = ap is_dm_head (sym (head_in-more limit b more (not_below_four (length b) t))) ∙ e

-- a cutter consumed a piece of a message, and the reader has read the tokens that the cutter held before
pub record IsFedOn (limit : ℕ) (b piece : List ℕ) (cut : Cut) : Type 0 where
  pub within : 2 * length (frame_tokens limit b) ≤ length (drop 4 cut.bytes)
  pub front : tokens_of (take (2 * length (frame_tokens limit b)) (drop 4 cut.bytes)) ≡ frame_tokens limit b
  pub ended : length (drop 4 cut.bytes) / 2 ≡ length (frame_tokens limit (fed limit b piece))
  pub all : frame_tokens cut.cap cut.bytes ≡ tokens_of (drop 4 cut.bytes)

pub fed_on : (limit : ℕ) (b piece : List ℕ) (cut : Cut) → cut.cap ≡ limit → cut.bytes ≡ fed limit b piece
    → is_dm_head (head_in cut.cap cut.bytes) ≡ true → IsFedOn limit b piece cut
fed_on limit b piece cut same bytes dm =
    let g = fed_grows limit b piece in
    let is : cut.bytes ≡ b ++ g.more = bytes ∙ g.longer in
    let dm2 : is_dm_head (head_in limit (b ++ g.more)) ≡ true =
    sym (ap (λ (n : ℕ). is_dm_head (head_in n cut.bytes)) same ∙ ap (λ (x : List ℕ). is_dm_head (head_in limit x)) is)
    ∙ dm in
    let h = read_on limit b g.more dm2 in
    let all = all_held cut.cap cut.bytes dm in
    record {
      within = rw is h.within;
      front = rw is h.front;
      ended = sym (tokens_of-length (drop 4 cut.bytes)) ∙ ap length (sym all)
          ∙ (ap (λ (n : ℕ). length (frame_tokens n cut.bytes)) same
          ∙ ap (λ (x : List ℕ). length (frame_tokens limit x)) bytes);
      all = all;
    }

-- if no byte of a body is held now, none was held before
pub bodiless_before : (limit : ℕ) (b piece : List ℕ) → drop 4 (fed limit b piece) ≡ [] → drop 4 b ≡ []
bodiless_before limit b piece none =
    let g = fed_grows limit b piece in
    let empty : length (drop 4 (b ++ g.more)) ≡ 0 = ap length (ap (drop 4) (sym g.longer) ∙ none) in
    drop_all 4 b (omega (arith, empty, length-drop 4 (b ++ g.more), length-append b g.more))

-- a piece completes few tokens: those that lie in it, and one that began before it
pub few_ended : (limit : ℕ) (b piece : List ℕ) → tokens_ended limit b piece ≤ length piece / 2 + 1
few_ended limit b piece = by_test (is_dm_head (head_in limit (b ++ g.more))) refl
  where
    g : Grows b piece (fed limit b piece)
    g = fed_grows limit b piece

    by_test : (k : Bool) → is_dm_head (head_in limit (b ++ g.more)) ≡ k →
        tokens_ended limit b piece ≤ length piece / 2 + 1
    by_test true e =
        let h = read_on limit b g.more e in
        let few = h.few in
        let less = g.few in
        let now : length (frame_tokens limit (fed limit b piece)) ≡ length (drop 4 (b ++ g.more)) / 2 =
        ap (λ (x : List ℕ). length (frame_tokens limit x)) g.longer
        ∙ (ap length (all_held limit (b ++ g.more) e) ∙ tokens_of-length (drop 4 (b ++ g.more))) in
        omega (arith, few, less, now)
    by_test false e =
        let none : length (frame_tokens limit (fed limit b piece)) ≡ 0 =
        ap (λ (x : List ℕ). length (frame_tokens limit x)) g.longer ∙ ap length (none_held limit (b ++ g.more) e) in
        omega (arith, none)

-- the cutter consumed a piece of a frame that is no message
pub fed_past : (limit : ℕ) (b piece : List ℕ) (cut : Cut) → cut.cap ≡ limit → cut.bytes ≡ fed limit b piece →
    is_dm_head (head_in cut.cap cut.bytes) ≡ false → is_dm_head (head_in limit b) ≡ false
fed_past limit b piece cut same bytes dm =
    let g = fed_grows limit b piece in
    let is : cut.bytes ≡ b ++ g.more = bytes ∙ g.longer in
    no_dm_before limit b g.more
    (sym (ap (λ (n : ℕ). is_dm_head (head_in n cut.bytes)) same
    ∙ ap (λ (x : List ℕ). is_dm_head (head_in limit x)) is) ∙ dm)

pub stands_deep : {T : Type 0} (table : Ghosts T) (side : Side) (level : Level) (v w : Reading T) (cut : Cut) →
    w.max_depth ≡ v.max_depth → table.words w.table ≡ table.words v.table →
    HasReadPrefix table (table.words v.table) (start_symbol_of (side2_of side) level) v.max_depth w
    (frame_tokens cut.cap cut.bytes) →
    HasReadPrefix table (table.words w.table) (start_symbol_of (side2_of side) level) w.max_depth w
    (frame_tokens cut.cap cut.bytes)
stands_deep table side level v w cut depth words stands =
    subst (λ (n : ℕ). HasReadPrefix table (table.words w.table) (start_symbol_of (side2_of side) level) n w
    (frame_tokens cut.cap cut.bytes))
    (sym depth)
    (subst (λ (x : Words). HasReadPrefix table x (start_symbol_of (side2_of side) level) v.max_depth w
    (frame_tokens cut.cap cut.bytes))
    (sym words) stands)

-- the tokens read stay read when the frame gets other bytes and no answer
pub read_along : {T : Type 0} (table : Ghosts T) (asked : T → ℕ) (side : Side) (level : Level) (old new : Cut)
    (v w : Reading T) (hlo now : HloScan) (header : List ℕ) (verdict : Option Verdict) →
    IsReadOn table asked side level old v hlo header verdict → verdict ≡ None → new.cap ≡ old.cap →
    w.max_depth ≡ v.max_depth → table.words w.table ≡ table.words v.table → w.finished ≡ false →
    HasReadPrefix table (table.words v.table) (start_symbol_of (side2_of side) level) v.max_depth w
    (frame_tokens new.cap new.bytes) →
    now.found ≡ lvl_scan_of (frame_tokens new.cap new.bytes) →
    (is_dm_head (head_in new.cap new.bytes) ≡ false → w.asked_before ≡ asked w.table) →
    (drop 4 new.bytes ≡ [] → w.asked_before ≡ asked w.table) →
    IsReadOn table asked side level new w now header verdict
read_along table asked side level old new v w hlo now header verdict h none same depth words goes_on stands found
    uncounted unasked =
    record {
      four = h.four;
      place = subst (λ (a : Option Verdict). HasHuhIndex new.bytes a) (sym none) tt;
      capped = rw same h.capped;
      stands = stands_deep table side level v w new depth words stands;
      found = found;
      unfinished = λ free. goes_on;
      uncounted = uncounted;
      unasked = λ free. unasked;
    }

-- a reader with the same depth limit and the same words has the same limits
pub rules_kept : {T : Type 0} (words : T → Words) (v w : Reading T) → w.max_depth ≡ v.max_depth →
    words w.table ≡ words v.table → rules_of words w ≡ rules_of words v
rules_kept words v w depth same = rw (depth, same) refl

-- only a side's bytes and the progress of its parse changed
pub reads_of : {T : Type 0} (table : Ghosts T) (words : T → Words) (asked : T → ℕ) (side : Side) (level : Level)
    (old new : Cut) (v w : Reading T) (hlo now : HloScan) (header : List ℕ) (verdict : Option Verdict)
    (bytes : List ℕ) → IsReadOn table asked side level old v hlo header verdict → verdict ≡ None →
    new.cap ≡ old.cap → new.bytes ≡ bytes →
    rules_of words w ≡ rules_of words v → w.asked_before ≡ v.asked_before →
    (is_dm_head (head_in new.cap new.bytes) ≡ false → asked w.table ≡ asked v.table) →
    (drop 4 new.bytes ≡ [] → asked w.table ≡ asked v.table) →
    ReadsMessageBytes (receiver_of words asked side level old v hlo header verdict) bytes
    (receiver_of words asked side level new w now header verdict)
reads_of table words asked side level old new v w hlo now header verdict bytes h none same are rules base no_message
    bodiless =
    record {
      side = refl;
      cap = same;
      rules = rules;
      level = refl;
      frame_bytes = are;
      unanswered = none;
      base = base;
      no_message = λ e. no_message (ap (λ (n : ℕ). is_dm_head (head_in n new.bytes)) same
          ∙ (ap (λ (x : List ℕ). is_dm_head (head_in old.cap x)) are ∙ e));
      bodiless = λ e. bodiless (ap (drop 4) are ∙ e);
      uncounted = h.uncounted;
    }

-- a message is judged by the grammar, and any other frame is relayed
pub right_message : (rules : ReaderLimits) (side : Side) (level : Level) (head : Head) (body : List ℕ) (v : Verdict) →
    is_dm head.kind ≡ true →
    HasVerdict (IsMessageOver rules.words (side2_of side) level) rules.max_depth (tokens_of body) v →
    IsCorrectVerdict rules.words rules.max_depth (question_of side level head body) v
right_message rules side level head body v e h = rw e h

pub right_other : (rules : ReaderLimits) (side : Side) (level : Level) (head : Head) (body : List ℕ) (v : Verdict) →
    is_dm head.kind ≡ false → v ≡ Relay → IsCorrectVerdict rules.words rules.max_depth (question_of side level head body) v
right_other rules side level head body v e h = rw e h

pub raised_most : (a b old new : ℕ) → a ≤ b → IsRaised a old new → IsRaised b old new
raised_most a b old new le h = record { by = h.by; few = (let few = h.few in omega arith); sum = h.sum }

pub raised_none : (most n : ℕ) → IsRaised most n n
raised_none most n = record { by = 0; few = omega arith; sum = ap (λ (k : ℕ). k % 2 ^ 64) (omega arith) }

-- a frame was judged: the progress of its parse, and the answer that the frame turns into
pub record IsJudged {T : Type 0} (table : Ghosts T) (words : T → Words) (asked : T → ℕ) (old : Receiver) (side : Side)
    (level : Level) (cut : Cut) (v : Reading T) (hlo : HloScan) (head : Head) (verdict : Verdict) : Type 0 where
  pub capped : cut.cap ≤ 65526
  pub place : IsPlaceIn (drop 4 cut.bytes) verdict
  pub stands : HasReadPrefix table (table.words v.table) (start_symbol_of (side2_of side) level) v.max_depth v
      (frame_tokens cut.cap cut.bytes)
  pub found : hlo.found ≡ lvl_scan_of (frame_tokens cut.cap cut.bytes)
  pub uncounted : is_dm_head (head_in cut.cap cut.bytes) ≡ false → v.asked_before ≡ asked v.table
  pub right : IsCorrectVerdict old.rules.words old.rules.max_depth (question_of old.side old.level head (drop 4 old.frame_bytes)) verdict
  pub same_side : side ≡ old.side
  pub same_cap : cut.cap ≡ old.cap
  pub same_level : level ≡ old.level
  pub same_held : cut.bytes ≡ old.frame_bytes
  pub same_rules : rules_of words v ≡ old.rules
  pub base : v.asked_before ≡ old.total_before
  pub raised : IsRaised 4 old.total (asked v.table)
  pub no_message : is_dm head.kind ≡ false → asked v.table ≡ old.total
  pub looked_at : hlo.looked_at ≡ old.looked_at

-- ---- a message starts anew

-- if no byte of a body is held, no token is held
pub none_begun : (limit : ℕ) (b : List ℕ) → drop 4 b ≡ [] → frame_tokens limit b ≡ []
none_begun limit b e =
    ap (λ (x : List ℕ). if is_dm_head (head_in limit b) then tokens_of x else []) e ∙ go (is_dm_head (head_in limit b))
  where
    go : (k : Bool) → (if k then tokens_of [] else []) ≡ []
    go true = refl
    go false = refl

-- a reader is at the start of a message if no token of it is held
pub fresh_on : {T : Type 0} (table : Ghosts T) (asked : T → ℕ) (side : Side) (level : Level) (cut : Cut)
    (v w : Reading T) (hlo : HloScan) (header : List ℕ) (now : Option Verdict) → length header ≡ 4 → cut.cap ≤ 65526 →
    drop 4 cut.bytes ≡ [] → HasHuhIndex cut.bytes now → w.table ≡ v.table → w.asked_before ≡ asked v.table →
    w.finished ≡ false →
    HasReadPrefix table (table.words v.table) (start_symbol_of (side2_of side) level) v.max_depth w [] →
    hlo.found ≡ lvl_scan_of [] → IsReadOn table asked side level cut w hlo header now
fresh_on table asked side level cut v w hlo header now four capped none place kept base goes_on stands found = record {
  four = four;
  place = place;
  capped = capped;
  stands = stands_deep table side level v w cut stands.depth_kept stands.words_kept
      (subst (λ (p : List ℕ). HasReadPrefix table (table.words v.table) (start_symbol_of (side2_of side) level) v.max_depth
      w p) (sym (none_begun cut.cap cut.bytes none)) stands);
  found = found ∙ ap lvl_scan_of (sym (none_begun cut.cap cut.bytes none));
  unfinished = λ free. goes_on;
  uncounted = λ no. base ∙ ap asked (sym kept);
  unasked = λ free bare. base ∙ ap asked (sym kept);
}

pub rules_set : {T : Type 0} (words : T → Words) (w : Reading T) (most : ℕ) (all : Words) → w.max_depth ≡ most →
    words w.table ≡ all → rules_of words w ≡ record { max_depth = most; words = all }
rules_set words w most all depth same = rw (depth, same) refl

pub begins_of : {T : Type 0} (words : T → Words) (asked : T → ℕ) (side : Side) (before after level : Level)
    (old cut : Cut) (v w : Reading T) (hlo later : HloScan) (header : List ℕ) (verdict now : Option Verdict)
    (bytes : List ℕ) (t : Receiver) → receiver_of words asked side before old v hlo header verdict ≡ t →
    after ≡ level → cut.cap ≡ old.cap →
    cut.bytes ≡ bytes → now ≡ None → w.max_depth ≡ v.max_depth → w.table ≡ v.table → w.asked_before ≡ asked v.table →
    later.looked_at ≡ hlo.looked_at →
    StartsFrame t level bytes (receiver_of words asked side after cut w later header now)
begins_of words asked side before after level old cut v w hlo later header verdict now bytes t is set same are none
    depth kept base looked_at =
    subst (λ (x : Receiver). StartsFrame x level bytes (receiver_of words asked side after cut w later header now)) is
    (record {
      side = refl;
      cap = same;
      rules = rules_kept words v w depth (ap words kept);
      level_set = set;
      frame_bytes = are;
      unanswered = none;
      total = ap asked kept;
      base = base;
      looked_at = looked_at;
    })
