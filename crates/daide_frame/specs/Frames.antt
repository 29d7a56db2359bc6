-- The frames in the bytes from one side, and the events at each byte.
use Rattle.std.specs.Prelude.{ℕ, zero, suc, ◌≡◌, ◌+◌, ◌-◌, Bool, true, false, ◌||◌, not, nat_lt}
use Rattle.std.specs.Prelude.{nat_le, List, [], ◌∷◌, ◌++◌, length, take, drop, Option, Some, None}
use Rattle.std.specs.Prelude.{is_some, Result, Ok, Err, if◌then◌else◌, ◌==◌}
use Rattle.daide_token.specs.Token.{token_of_bytes}
use Rattle.daide_token.specs.Class.{has_known_category}
use Rattle.daide_frame.specs.declared.head.Head.{Head}
use Rattle.daide_frame.specs.declared.code.Code.{Code}
use Rattle.daide_frame.specs.declared.code.Code.TheVariants.{InvalidToken}
use Rattle.daide_frame.specs.declared.cutter.Step.{Step}
use Rattle.daide_frame.specs.declared.cutter.Step.TheVariants.{More, Headed, Bodied, Fault}
use Rattle.daide_frame.specs.Head.{kind_number, has_right_length, parse_head}

-- Alien tokens, which a DM must not contain

-- whether two bytes are a token of no known category
unfoldable pub is_alien : ℕ → ℕ → Bool
is_alien high low = not (has_known_category (token_of_bytes (high ∷ low ∷ [])))

-- an offset, if there is one, plus a distance
abbrev pub shifted_place : ℕ → Option ℕ → Option ℕ
shifted_place by None = None
shifted_place by (Some place) = Some (by + place)

-- the offset of the end of the first alien token, if its two bytes are there
abbrev pub first_alien : List ℕ → Option ℕ
first_alien [] = None
first_alien (high ∷ []) = None
first_alien (high ∷ low ∷ rest) = if is_alien high low then Some 2 else shifted_place 2 (first_alien rest)

-- the same in the body of a frame, which more bytes may follow; only a DM consists of tokens
abbrev pub alien_in : Head → List ℕ → Option ℕ
alien_in head bytes = if kind_number head.kind == 2 then first_alien (take head.len bytes) else None

-- The first frame of a list of bytes

-- an event in the bytes from one side: a good header, a frame with its body, or a fault
pub data FrameEvent : Type 0 where
  Begun : Head → FrameEvent
  Whole : Head → List ℕ → FrameEvent
  Wrong : Code → FrameEvent

-- an event, and the offset of its end
pub record EventAtOffset : Type 0 where
  pub item : FrameEvent
  pub at : ℕ

-- After a good header: a fault at the second byte of the first alien token, or else the body once it is whole. That the
-- fault is at that byte, and not at the frame's end, is (own).
abbrev pub items_of_body : Head → List ℕ → Option ℕ → List EventAtOffset
items_of_body head bytes (Some n) = record { item = Wrong InvalidToken; at = 4 + n } ∷ []
items_of_body head bytes None =
    if nat_le head.len (length bytes)
    then record { item = Whole head (take head.len bytes); at = 4 + head.len } ∷ []
    else []

-- at the fourth byte a header is refused and nothing follows, or it is good
abbrev pub items_from_head : Result Head Code → List ℕ → List EventAtOffset
items_from_head (Err code) bytes = record { item = Wrong code; at = 4 } ∷ []
items_from_head (Ok head) bytes =
    record { item = Begun head; at = 4 } ∷ items_of_body head bytes (alien_in head bytes)

-- the events of the first frame; fewer than four bytes have none
unfoldable pub first_items : ℕ → List ℕ → List EventAtOffset
first_items cap bytes = if nat_lt (length bytes) 4 then [] else items_from_head (parse_head bytes cap) (drop 4 bytes)

-- events without their offsets
abbrev pub frame_events_of : List EventAtOffset → List FrameEvent
frame_events_of [] = []
frame_events_of (placed ∷ more) = placed.item ∷ frame_events_of more

-- All the frames in the bytes from one side

abbrev pub is_whole_frame : FrameEvent → Bool
is_whole_frame (Begun head) = false
is_whole_frame (Whole head body) = true
is_whole_frame (Wrong code) = false

abbrev pub is_wrong : FrameEvent → Bool
is_wrong (Begun head) = false
is_wrong (Whole head body) = false
is_wrong (Wrong code) = true

-- the end of a frame with these events, if it is whole
abbrev pub frame_end : List EventAtOffset → Option ℕ
frame_end [] = None
frame_end (placed ∷ more) = if is_whole_frame placed.item then Some placed.at else frame_end more

-- events that begin `by` bytes further on
abbrev pub moved : ℕ → List EventAtOffset → List EventAtOffset
moved by [] = []
moved by (placed ∷ more) = record { item = placed.item; at = by + placed.at } ∷ moved by more

abbrev pub or_nothing : (ℕ → List EventAtOffset) → Option ℕ → List EventAtOffset
or_nothing next None = []
or_nothing next (Some place) = next place

-- The events of at most n frames: those of the first, then those of the rest. After a fault or an incomplete frame
-- nothing follows.
abbrev pub cut_frames : ℕ → ℕ → List ℕ → List EventAtOffset
cut_frames zero cap bytes = []
cut_frames (suc n) cap bytes =
    first_items cap bytes
    ++ or_nothing (λ len. moved len (cut_frames n cap (drop len bytes))) (frame_end (first_items cap bytes))

-- The events of all bytes from one side, each with its offset. A frame has at least four bytes, so there are fewer frames
-- than bytes. Each list of bytes has exactly one cut.
unfoldable pub cut : ℕ → List ℕ → List EventAtOffset
cut cap bytes = cut_frames (length bytes) cap bytes

-- The events of the first frame as its bytes arrive

-- the events that end at an offset
abbrev pub events_ending_at : ℕ → List EventAtOffset → List FrameEvent
events_ending_at n [] = []
events_ending_at n (placed ∷ more) = if placed.at == n then placed.item ∷ events_ending_at n more else events_ending_at n more

-- the events of the first frame that end with the last byte
unfoldable pub last_items : ℕ → List ℕ → List FrameEvent
last_items cap bytes = events_ending_at (length bytes) (first_items cap bytes)

abbrev pub is_nothing : List FrameEvent → Bool
is_nothing [] = true
is_nothing (item ∷ items) = false

-- the bytes so far when a piece arrives, up to the first byte that ends an event
abbrev pub fed : ℕ → List ℕ → List ℕ → List ℕ
fed cap bytes [] = bytes
fed cap bytes (x ∷ piece) =
    if is_nothing (last_items cap (bytes ++ x ∷ []))
    then fed cap (bytes ++ x ∷ []) piece
    else bytes ++ x ∷ []

-- the events that end at that byte
abbrev pub fed_items : ℕ → List ℕ → List ℕ → List FrameEvent
fed_items cap bytes [] = []
fed_items cap bytes (x ∷ piece) =
    if is_nothing (last_items cap (bytes ++ x ∷ []))
    then fed_items cap (bytes ++ x ∷ []) piece
    else last_items cap (bytes ++ x ∷ [])

abbrev pub any_item : (FrameEvent → Bool) → List FrameEvent → Bool
any_item test [] = false
any_item test (item ∷ items) = test item || any_item test items

-- events that end at the same offset, with that offset
abbrev pub event_at_offset : ℕ → List FrameEvent → List EventAtOffset
event_at_offset place [] = []
event_at_offset place (item ∷ items) = record { item = item; at = place } ∷ event_at_offset place items

-- The events when all bytes from one side arrive one by one. `place` bytes came before, and `pending` are those since the
-- last whole frame. After a fault nothing follows.
abbrev pub items_by_byte : ℕ → ℕ → List ℕ → List ℕ → List EventAtOffset
items_by_byte cap place pending [] = []
items_by_byte cap place pending (x ∷ bytes) =
    let items = last_items cap (pending ++ x ∷ []) in
    event_at_offset (place + 1) items
    ++ (if any_item is_wrong items
    then []
    else items_by_byte cap (place + 1) (if any_item is_whole_frame items then [] else pending ++ x ∷ []) bytes)

-- The steps of a cutter

-- the step that reports some events; if a header and a body end together, it reports the body
abbrev pub step_of_events : List FrameEvent → Step
step_of_events [] = More
step_of_events (Begun head ∷ []) = Headed head
step_of_events (Begun head ∷ item ∷ items) = Bodied head
step_of_events (Whole head body ∷ items) = Bodied head
step_of_events (Wrong code ∷ items) = Fault code

-- the events that a step reports, by the body after it
abbrev pub items_of_step : Step → List ℕ → List FrameEvent
items_of_step More body = []
items_of_step (Fault code) body = Wrong code ∷ []
items_of_step (Headed head) body = Begun head ∷ []
items_of_step (Bodied head) [] = Begun head ∷ Whole head [] ∷ []
items_of_step (Bodied head) (x ∷ body) = Whole head (x ∷ body) ∷ []

abbrev pub IsFault : Step → Type 0
IsFault More = ⊥
IsFault (Headed head) = ⊥
IsFault (Bodied head) = ⊥
IsFault (Fault code) = Unit {0}

-- the step reports a whole frame
abbrev pub IsBodied : Step → Type 0
IsBodied More = ⊥
IsBodied (Headed head) = ⊥
IsBodied (Bodied head) = Unit {0}
IsBodied (Fault code) = ⊥

-- the step ends the frame: it is whole, or has a fault
abbrev pub IsEnd : Step → Type 0
IsEnd More = ⊥
IsEnd (Headed head) = ⊥
IsEnd (Bodied head) = Unit {0}
IsEnd (Fault code) = Unit {0}

-- What a cutter holds

abbrev pub head_part : Result Head Code → Option Head
head_part (Ok head) = Some head
head_part (Err code) = None

-- the header of the frame, once it is whole and good
unfoldable pub head_in : ℕ → List ℕ → Option Head
head_in cap bytes = if nat_lt (length bytes) 4 then None else head_part (parse_head bytes cap)

abbrev pub announced_by : Option Head → ℕ
announced_by None = 0
announced_by (Some head) = head.len

-- the length that the header announces; 0 until it is whole
unfoldable pub announced : ℕ → List ℕ → ℕ
announced cap bytes = announced_by (head_in cap bytes)

abbrev pub missing_of_body : Option Head → List ℕ → ℕ
missing_of_body None body = 0
missing_of_body (Some head) body = if is_some (alien_in head body) then 0 else head.len - length body

-- how many bytes of the header are missing or, once it is whole, of the body; none after a fault
unfoldable pub missing : ℕ → List ℕ → ℕ
missing cap bytes =
    if nat_lt (length bytes) 4 then 4 - length bytes else missing_of_body (head_in cap bytes) (drop 4 bytes)

-- a body with the length that its header announces, which is right for the header's kind: an IM's body has four bytes
abbrev pub IsWholeBody : Head → List ℕ → Type 0
IsWholeBody head body = (has_right_length head.kind head.len ≡ true) × (length body ≡ head.len)

-- The header and the body that are held when a step is reported: the header that the step carries, without a body at
-- `Headed`, and with its whole body at `Bodied`.
abbrev pub HoldsFrame : Step → Option Head → List ℕ → Type 0
HoldsFrame More header body = Unit {0}
HoldsFrame (Headed head) header body = (header ≡ Some head) × (body ≡ [])
HoldsFrame (Bodied head) header body = (header ≡ Some head) × IsWholeBody head body
HoldsFrame (Fault code) header body = Unit {0}

-- the abstract value of a cutter: the cap, and the bytes of the frame so far
pub record Cut : Type 0 where
  pub cap : ℕ
  pub bytes : List ℕ
