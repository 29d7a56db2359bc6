-- The next parts of a wire, after a call that sends nothing to it. So each put of a turn offers the whole front of the
-- session at that step.
use Rattle.std.specs.Prelude.{◌≡◌, ℕ, true, false, List, [], ◌∷◌, ◌++◌, length, Option, Some, None}
use Rattle.daide_frame.specs.declared.side.Side.{Side}
use Rattle.daide_reader.specs.declared.verdict.Verdict.{Verdict}
use Rattle.daide_protocol.specs.Answers.{answer_body}
use Rattle.daide_protocol.specs.Machine.{Sent, destination}
use Rattle.daide_protocol.specs.Wires.{SessionView, queued, parts_of, no_frame}
use Rattle.daide_frame.specs.PerSide.{at}
use Rattle.daide_channels.specs.Receiver.{parts_by}
use Rattle.daide_channels.specs.Channels.{Channels}

-- The parts of an answer depend on its verdict: the header, the body of the frame, and the fixed words round that body.
-- The wire shows whether the verdict is a relay.
pub record AreAnswerParts (side : Side) (parts : List (List ℕ)) (frame : Sent) : Type 0 where
  pub header : List ℕ
  pub body : List ℕ
  pub verdict : Verdict
  pub aimed : frame.to ≡ destination side verdict
  pub four : length header ≡ 4
  pub whole : frame.bytes ≡ header ++ answer_body body verdict
  pub cut : parts ≡ parts_by header body (Some verdict)

-- a final frame is sent as one part
abbrev pub ArePartsOf : Option Side → List (List ℕ) → Sent → Type 0
ArePartsOf None parts frame = parts ≡ frame.bytes ∷ []
ArePartsOf (Some side) parts frame = AreAnswerParts side parts frame

-- these are the parts of the first of these frames, of which no byte was sent yet
abbrev pub AreFresh : List (List ℕ) → List Sent → Type 0
AreFresh parts [] = parts ≡ []
AreFresh parts (frame ∷ frames) = ArePartsOf frame.answers parts frame

-- If a queue was not empty, its parts stay the same. If it was empty and no longer is, its parts are those of a whole
-- final frame or a whole answer.
pub record ArePartsKept (parts : List (List ℕ)) (waited : List Sent) (parts_now : List (List ℕ))
    (waits : List Sent) : Type 0 where
  pub same : no_frame waited ≡ false → parts_now ≡ parts
  pub fresh : no_frame waited ≡ true → no_frame waits ≡ false → AreFresh parts_now waits

-- the parts of the wire to a side are kept, as a session shows them
abbrev pub KeepsFront : SessionView → Side → SessionView → Type 0
KeepsFront old side new = ArePartsKept (parts_of old side) (queued old side) (parts_of new side) (queued new side)

-- the parts of both wires are kept, as the channels show them
abbrev pub KeepsFronts : Channels → Channels → Type 0
KeepsFronts old new = (to : Side) →
    ArePartsKept (at old.parts to) (at old.queued to) (at new.parts to) (at new.queued to)
