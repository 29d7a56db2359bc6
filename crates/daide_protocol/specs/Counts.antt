-- The frames that a session sent, counted by what they are, by docs/PROTOCOL.md, "The session" and "Verdicts".
use Rattle.std.specs.Prelude.{ℕ, ◌+◌, Bool, false, ◌&&◌, ◌==◌, List, [], ◌∷◌, length, drop, is_none}
use Rattle.std.specs.List.{filter}
use Rattle.daide_token.specs.Token.{prn, huh, tokens_of}
use Rattle.daide_frame.specs.declared.side.Side.{Side}
use Rattle.daide_frame.specs.declared.side.Side.TheVariants.{Bot, Server}
use Rattle.daide_frame.specs.declared.head.Kind.TheVariants.{Em}
use Rattle.daide_frame.specs.Head.{kind_number}
use Rattle.daide_protocol.specs.declared.summary.Summary.{Summary}
use Rattle.daide_frame.specs.Side.{other}
use Rattle.daide_protocol.specs.Machine.{Sent, Effect}
use Rattle.daide_protocol.specs.Wires.{sent_to, is_answer}

-- ---- the kinds of sent frames

abbrev pub begins_with : ℕ → List ℕ → Bool
begins_with first [] = false
begins_with first (number ∷ numbers) = number == first

-- a frame that is relayed from one side to the other
abbrev pub goes_on : Sent → Bool
goes_on frame = is_answer (other frame.to) frame.answers

-- the answer to a side's own message, which begins with this token: PRN or HUH
abbrev pub goes_back : ℕ → Sent → Bool
goes_back token frame = is_answer frame.to frame.answers && begins_with token (tokens_of (drop 4 frame.bytes))

-- the gateway's own EM, which reports a side's fault to it
abbrev pub reports_fault : Sent → Bool
reports_fault frame = is_none frame.answers && begins_with (kind_number Em) frame.bytes

-- ---- their numbers

-- the number of frames that effects send to a side, of those that pass a test
abbrev pub number_to : Side → (Sent → Bool) → List Effect → ℕ
number_to side test effects = length (filter test (sent_to side effects))

-- the number to both sides
abbrev pub number_sent : (Sent → Bool) → List Effect → ℕ
number_sent test effects = number_to Bot test effects + number_to Server test effects

-- the frames that one side sent and the other got, each PRN and HUH, and the reported faults
abbrev pub frames_counted : List Effect → Summary
frames_counted effects = record {
  relayed = number_sent goes_on effects;
  prn = number_sent (goes_back prn) effects;
  huh = number_sent (goes_back huh) effects;
  faults = number_sent reports_fault effects;
}
