-- One side: the frame being received, the progress of its parse, and its answer.
use Rattle.std.specs.Prelude.{◌≡◌, ℕ, ◌+◌, ◌-◌, ◌*◌, ◌%◌, ◌^◌, ◌≤◌, Bool, false, nat_lt, List, [], ◌∷◌, ◌++◌, length, take}
use Rattle.std.specs.Prelude.{drop}
use Rattle.std.specs.Prelude.{Option, Some, None, if◌then◌else◌}
use Rattle.daide_frame.specs.declared.side.Side.{Side}
use Rattle.daide_frame.specs.declared.head.Head.{Head}
use Rattle.daide_frame.specs.Frames.{Cut, fed, head_in}
use Rattle.daide_frame.specs.Head.{head_bytes}
use Rattle.daide_grammar.specs.declared.level.Level.{Level}
use Rattle.daide_grammar.specs.declared.predict.Predict.{Ghosts}
use Rattle.daide_grammar.specs.SideMessages.{dialect_of}
use Rattle.daide_grammar.specs.Table.Symbols.{may_end_of, start_symbol_of}
use Rattle.daide_grammar.specs.Words.{Words}
use Rattle.daide_words.specs.declared.extended.Extended.{Extended}
use Rattle.daide_words.specs.Table.Extended.{spoken_words}
use Rattle.daide_words.specs.Table.OverWords.{answer_over, spoken}
use Rattle.daide_reader.specs.LookUps.{look_ups_for}
use Rattle.daide_reader.specs.Reading.{Reading, HasReadPrefix}
use Rattle.daide_reader.specs.declared.verdict.Verdict.{Verdict}
use Rattle.daide_reader.specs.declared.verdict.Verdict.TheVariants.{Relay, Prn, Huh}
use Rattle.daide_reader.specs.Verdict.{IsPlaceIn}
use Rattle.daide_protocol.specs.declared.hlo.HloScan.{HloScan}
use Rattle.daide_protocol.specs.Answers.{answer_body, answer_head, prn_open, huh_open, err_bytes, close_bytes}
use Rattle.daide_protocol.specs.Bounds.{longest_body}
use Rattle.daide_protocol.specs.HloLevel.{lvl_scan_of}
use Rattle.daide_protocol.specs.Machine.{side2_of}
use Rattle.daide_protocol.specs.Weight.{frame_tokens}
use Rattle.daide_protocol.specs.Wires.{is_dm_head}

-- the limits of a parse: the most brackets open at once, and the operator's words
pub record ReaderLimits : Type 0 where
  pub max_depth : ℕ
  pub words : Words

pub record Receiver : Type 0 where
  pub side : Side
  pub cap : ℕ
  pub rules : ReaderLimits
  -- the level at which the message is read
  pub level : Level
  -- the frame's bytes so far, also while its answer is queued
  pub frame_bytes : List ℕ
  -- the header of the answer, and the verdict; none before the frame is judged
  pub header : List ℕ
  pub verdict : Option Verdict
  pub entries : ℕ
  -- the table look-ups so far, and those before the present message, both modulo 2^64
  pub total : ℕ
  pub total_before : ℕ
  -- the tokens that the HLO scan has read, modulo 2^64
  pub looked_at : ℕ

-- how many tokens of a message a piece completes, after these bytes of its frame
abbrev pub tokens_ended : ℕ → List ℕ → List ℕ → ℕ
tokens_ended cap frame_bytes piece = length (frame_tokens cap (fed cap frame_bytes piece)) - length (frame_tokens cap frame_bytes)

-- the look-ups for a message from a side at a level, if each of its tokens is read once, and for its end if it has ended
abbrev pub message_look_ups : ReaderLimits → Side → Level → List ℕ → Bool → ℕ
message_look_ups rules side level tokens ended =
    look_ups_for (answer_over rules.words) (dialect_of rules.words).class_of may_end_of
    (start_symbol_of (side2_of side) level) rules.max_depth tokens ended

-- ---- the answer in place

-- the bytes of the whole answer; empty if there is no answer
abbrev pub bytes_by : List ℕ → List ℕ → Option Verdict → List ℕ
bytes_by header body None = []
bytes_by header body (Some verdict) = header ++ answer_body body verdict

-- The answer in its parts: its header, the word that opens it, the frame's body with ERR in it, and the word that closes
-- it. A part that the answer lacks is empty.
abbrev pub parts_by : List ℕ → List ℕ → Option Verdict → List (List ℕ)
parts_by header body None = []
parts_by header body (Some Relay) = header ∷ [] ∷ body ∷ [] ∷ [] ∷ [] ∷ []
parts_by header body (Some Prn) = header ∷ prn_open ∷ body ∷ [] ∷ [] ∷ close_bytes ∷ []
parts_by header body (Some (Huh place)) =
    header ∷ huh_open ∷ take (2 * place) body ∷ err_bytes ∷ drop (2 * place) body ∷ close_bytes ∷ []

-- the rest, from offset `place` on, of the part that contains this offset
abbrev pub front_in : List (List ℕ) → ℕ → List ℕ
front_in [] place = []
front_in (part ∷ parts) place =
    if nat_lt place (length part) then drop place part else front_in parts (place - length part)

abbrev pub whole_answer : Receiver → List ℕ
whole_answer i = bytes_by i.header (drop 4 i.frame_bytes) i.verdict

abbrev pub answer_parts : Receiver → List (List ℕ)
answer_parts i = parts_by i.header (drop 4 i.frame_bytes) i.verdict

-- the next chunk of the answer, after its first `gone` bytes
abbrev pub front_after : Receiver → ℕ → List ℕ
front_after i gone = front_in (answer_parts i) gone

-- ---- the abstraction function

-- the words that a table takes into account
abbrev pub words_in : Extended → Words
words_in table = spoken (spoken_words table)

-- the limits of a reader over a table with these words
abbrev pub rules_of : {T : Type 0} → (T → Words) → Reading T → ReaderLimits
rules_of words v = record { max_depth = v.max_depth; words = words v.table }

abbrev pub receiver_of : {T : Type 0} → (T → Words) → (T → ℕ) → Side → Level → Cut → Reading T → HloScan → List ℕ →
    Option Verdict → Receiver
receiver_of words asked side level cut v hlo header verdict = record {
  side = side;
  cap = cut.cap;
  rules = rules_of words v;
  level = level;
  frame_bytes = cut.bytes;
  header = header;
  verdict = verdict;
  entries = length v.stack;
  total = asked v.table;
  total_before = v.asked_before;
  looked_at = hlo.looked_at;
}

abbrev pub HasHuhIndex : List ℕ → Option Verdict → Type 0
HasHuhIndex frame_bytes None = Unit {0}
HasHuhIndex frame_bytes (Some verdict) = IsPlaceIn (drop 4 frame_bytes) verdict

-- The reader and the HLO scan have read exactly the whole tokens of the held message. This holds at a header, inside a
-- body, at its end, and while the answer is queued.
pub record IsReadOn {T : Type 0} (table : Ghosts T) (asked : T → ℕ) (side : Side) (level : Level) (cut : Cut)
    (v : Reading T) (hlo : HloScan) (header : List ℕ) (verdict : Option Verdict) : Type 0 where
  pub four : length header ≡ 4
  pub place : HasHuhIndex cut.bytes verdict
  pub capped : cut.cap ≤ longest_body
  pub stands : HasReadPrefix table (table.words v.table) (start_symbol_of (side2_of side) level) v.max_depth v
      (frame_tokens cut.cap cut.bytes)
  pub found : hlo.found ≡ lvl_scan_of (frame_tokens cut.cap cut.bytes)
  pub unfinished : verdict ≡ None → v.finished ≡ false
  -- look-ups are made for a message only
  pub uncounted : is_dm_head (head_in cut.cap cut.bytes) ≡ false → v.asked_before ≡ asked v.table
  -- and for none before its first byte
  pub unasked : verdict ≡ None → drop 4 cut.bytes ≡ [] → v.asked_before ≡ asked v.table

-- ---- what the calls do

-- the frame starts at a level, with these bytes; none of its message was read
pub record StartsFrame (old : Receiver) (level : Level) (bytes : List ℕ) (new : Receiver) : Type 0 where
  pub side : new.side ≡ old.side
  pub cap : new.cap ≡ old.cap
  pub rules : new.rules ≡ old.rules
  pub level_set : new.level ≡ level
  pub frame_bytes : new.frame_bytes ≡ bytes
  pub unanswered : new.verdict ≡ None
  pub total : new.total ≡ old.total
  pub base : new.total_before ≡ old.total
  pub looked_at : new.looked_at ≡ old.looked_at

-- the frame now has these bytes, and its message was read up to them; only tokens of a message are looked up
pub record ReadsMessageBytes (old : Receiver) (bytes : List ℕ) (new : Receiver) : Type 0 where
  pub side : new.side ≡ old.side
  pub cap : new.cap ≡ old.cap
  pub rules : new.rules ≡ old.rules
  pub level : new.level ≡ old.level
  pub frame_bytes : new.frame_bytes ≡ bytes
  pub unanswered : new.verdict ≡ None
  pub base : new.total_before ≡ old.total_before
  pub no_message : is_dm_head (head_in old.cap bytes) ≡ false → new.total ≡ old.total
  pub bodiless : drop 4 bytes ≡ [] → new.total ≡ old.total
  pub uncounted : is_dm_head (head_in old.cap old.frame_bytes) ≡ false → old.total_before ≡ old.total

-- the frame has the answer that a verdict selects
pub record Answers (old : Receiver) (head : Head) (verdict : Verdict) (new : Receiver) : Type 0 where
  pub side : new.side ≡ old.side
  pub cap : new.cap ≡ old.cap
  pub rules : new.rules ≡ old.rules
  pub level : new.level ≡ old.level
  pub frame_bytes : new.frame_bytes ≡ old.frame_bytes
  pub header : new.header ≡ head_bytes (answer_head head verdict)
  pub verdict_set : new.verdict ≡ Some verdict
  pub base : new.total_before ≡ old.total_before
  pub looked_at : new.looked_at ≡ old.looked_at

-- the table look-ups for the present message, modulo 2^64
abbrev pub steps_in : Receiver → ℕ
steps_in i = (i.total + (2 ^ 64 - i.total_before)) % 2 ^ 64
