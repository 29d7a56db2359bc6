-- The field that each fault is about, worked out by hand from the frame's bytes. Each value is another one, so that the
-- field of another place is seen.
use Rattle.std.proofs.Common.{◌≡◌, ℕ, List, [], ◌∷◌, codes, Option, Some, None, refl}
use Rattle.std.specs.Fmt.{char_count, digits, padded_integral}
use Rattle.daide_frame.specs.declared.side.Side.TheVariants.{Bot, Server}
use Rattle.daide_frame.specs.declared.code.Code.TheVariants.{ImTimeout, ImNotFirst, WrongEndian, WrongMagic}
use Rattle.daide_frame.specs.declared.code.Code.TheVariants.{WrongVersion, SecondIm, ImFromServer, UnknownMessage}
use Rattle.daide_frame.specs.declared.code.Code.TheVariants.{WrongLength, DmBeforeRm, RmNotFirst, SecondRm}
use Rattle.daide_frame.specs.declared.code.Code.TheVariants.{RmFromClient, InvalidToken}
use Rattle.daide_frame.specs.Frames.{head_in}
use Rattle.daide_frame.specs.Head.{parse_head}
use Rattle.daide_grammar.specs.declared.level.Level.TheVariants.{L60}
use Rattle.daide_protocol.specs.declared.ending.Ending.{Ending}
use Rattle.daide_protocol.specs.declared.ending.Ending.TheVariants.{Ended, Final, Fault}
use Rattle.daide_protocol.specs.declared.phase.SessionPhase.TheVariants.{Over}
use Rattle.daide_protocol.specs.Machine.{Limits, initial_state, with_pending}
use Rattle.daide_io.specs.declared.fault_field.FaultField.{FaultField}
use Rattle.daide_io.specs.declared.fault_field.FaultField.TheVariants.{Kind, Length, Version, MagicNumber, Token}
use Rattle.daide_io.specs.FaultField.{cause_text, fault_field_of}
use Rattle.daide_io.specs.ByteCounts.{bytes_of}
use Rattle.daide_io.specs.declared.ports.ClockEvent.TheVariants.{NoEvent}
use Rattle.daide_io.specs.declared.ports.Pull.TheVariants as Pulls
use Rattle.daide_io.specs.declared.ports.Put.TheVariants as Puts
use Rattle.daide_io.specs.Ports.{TurnBegins, Clock, Pulled, Offered}

-- ---- faults

abbrev limits : Limits
limits = record { cap = 1024; top_level = L60; max_depth = 16; words = [] }

-- the field of a session that this event ended, with these bytes of each side since its last whole frame
abbrev field : Ending → List ℕ → List ℕ → Option FaultField
field ending bot server = fault_field_of
    (with_pending (with_pending (record (initial_state limits) { phase = Over ending }) Bot bot) Server server)

-- a header's type, unless its length is wrong; an IM by its version or its magic number
by_header :
    (field (Fault Bot ImNotFirst) (0x02 ∷ 0x00 ∷ 0x00 ∷ 0x06 ∷ []) [] ≡ Some (Kind 2))
    × (field (Fault Bot WrongEndian) (0x00 ∷ 0x00 ∷ 0x04 ∷ 0x00 ∷ []) [] ≡ Some (Length 0x0400))
    × (field (Fault Bot SecondIm) (0x00 ∷ 0x00 ∷ 0x00 ∷ 0x04 ∷ []) [] ≡ Some (Kind 0))
    × (field (Fault Server ImFromServer) [] (0x00 ∷ 0x00 ∷ 0x00 ∷ 0x04 ∷ []) ≡ Some (Kind 0))
    × (field (Fault Bot WrongLength) (0x02 ∷ 0x00 ∷ 0x00 ∷ 0x03 ∷ []) [] ≡ Some (Length 3))
    × (field (Fault Bot DmBeforeRm) (0x02 ∷ 0x00 ∷ 0x00 ∷ 0x06 ∷ []) [] ≡ Some (Kind 2))
    × (field (Fault Server RmNotFirst) [] (0x02 ∷ 0x00 ∷ 0x00 ∷ 0x06 ∷ []) ≡ Some (Kind 2))
    × (field (Fault Server SecondRm) [] (0x01 ∷ 0x00 ∷ 0x00 ∷ 0x06 ∷ []) ≡ Some (Kind 1))
    × (field (Fault Bot RmFromClient) (0x01 ∷ 0x00 ∷ 0x00 ∷ 0x06 ∷ []) [] ≡ Some (Kind 1))
by_header = (refl, refl, refl, refl, refl, refl, refl, refl, refl)

by_body :
    (field (Fault Bot WrongEndian) (0x00 ∷ 0x00 ∷ 0x00 ∷ 0x04 ∷ 0x00 ∷ 0x02 ∷ 0x10 ∷ 0xDA ∷ []) [] ≡ Some (MagicNumber 0x10DA))
    × (field (Fault Bot WrongMagic) (0x00 ∷ 0x00 ∷ 0x00 ∷ 0x04 ∷ 0x00 ∷ 0x02 ∷ 0x12 ∷ 0x34 ∷ []) [] ≡ Some (MagicNumber 0x1234))
    × (field (Fault Bot WrongVersion) (0x00 ∷ 0x00 ∷ 0x00 ∷ 0x04 ∷ 0x00 ∷ 0x02 ∷ 0xDA ∷ 0x10 ∷ []) [] ≡ Some (Version 2))
by_body = (refl, refl, refl)

-- an unknown type; a length above the cap, which is 1,024; an RM of the server before the IM
unknown :
    (field (Fault Bot UnknownMessage) (0x07 ∷ 0x00 ∷ 0x00 ∷ 0x02 ∷ []) [] ≡ Some (Kind 7))
    × (field (Fault Server UnknownMessage) [] (0x02 ∷ 0x00 ∷ 0x04 ∷ 0x02 ∷ []) ≡ Some (Length 0x0402))
    × (field (Fault Server UnknownMessage) [] (0x01 ∷ 0x00 ∷ 0x00 ∷ 0x06 ∷ []) ≡ Some (Kind 1))
unfolding head_in parse_head
unknown = (refl, refl, refl)

-- the last token of the frame, of the side at fault alone
tokens :
    (field (Fault Bot InvalidToken) (0x02 ∷ 0x00 ∷ 0x00 ∷ 0x06 ∷ 0x48 ∷ 0x03 ∷ 0x60 ∷ 0x00 ∷ []) (0x02 ∷ 0x00 ∷ 0x00 ∷ 0x04 ∷ 0x48 ∷ 0x0F ∷ [])
    ≡ Some (Token 0x6000 6))
    × (field (Fault Server InvalidToken) (0x02 ∷ 0x00 ∷ 0x00 ∷ 0x06 ∷ 0x48 ∷ 0x03 ∷ 0x48 ∷ 0x0F ∷ []) (0x02 ∷ 0x00 ∷ 0x00 ∷ 0x04 ∷ 0x58 ∷ 0x01 ∷ [])
    ≡ Some (Token 0x5801 4))
tokens = (refl, refl)

-- neither an IM that came too late nor an end is about a field
no_field :
    (field (Fault Bot ImTimeout) (0x00 ∷ 0x00 ∷ 0x00 ∷ 0x04 ∷ 0x00 ∷ []) [] ≡ None)
    × (field (Ended Bot) (0x02 ∷ 0x00 ∷ 0x00 ∷ 0x06 ∷ 0x48 ∷ 0x03 ∷ []) [] ≡ None)
    × (field (Final Server) (0x02 ∷ 0x00 ∷ 0x00 ∷ 0x06 ∷ []) [] ≡ None)
no_field = (refl, refl, refl)

-- each name with a field that it is about, and one without
texts :
    (cause_text InvalidToken (Some (Token 0x6000 6)) ≡ codes "invalid token 6000 at byte 6")
    × (cause_text UnknownMessage (Some (Kind 7)) ≡ codes "unknown message, type 07 at byte 0")
    × (cause_text UnknownMessage (Some (Length 0xFFFE)) ≡ codes "body above max_body, length FFFE at byte 2")
    × (cause_text WrongEndian (Some (Length 0x0400)) ≡ codes "wrong byte order, length 0400 at byte 2")
    × (cause_text WrongEndian (Some (MagicNumber 0x10DA)) ≡ codes "wrong byte order, magic number 10DA at byte 6")
    × (cause_text WrongMagic (Some (MagicNumber 0x1234)) ≡ codes "wrong magic number 1234 at byte 6")
    × (cause_text WrongVersion (Some (Version 2)) ≡ codes "wrong version 0002 at byte 4")
    × (cause_text WrongLength (Some (Length 3)) ≡ codes "wrong length 0003 at byte 2")
    × (cause_text DmBeforeRm (Some (Kind 2)) ≡ codes "DM before RM, type 02 at byte 0")
    × (cause_text ImTimeout None ≡ codes "no IM in time")
unfolding char_count digits padded_integral
texts = (refl, refl, refl, refl, refl, refl, refl, refl, refl, refl)

-- ---- bytes

-- each side's bytes are its own, and only those that a put took count
counted_by_side :
    bytes_of (TurnBegins ∷ Clock NoEvent ∷ Offered Bot (1 ∷ 2 ∷ 3 ∷ []) (Puts.Took 2) ∷ Offered Server (4 ∷ []) Puts.Failed
    ∷ Pulled Bot 512 (Pulls.Got 5) (1 ∷ 2 ∷ 3 ∷ 4 ∷ 5 ∷ []) ∷ Pulled Server 512 Pulls.Idle [] ∷ TurnBegins ∷ Clock NoEvent
    ∷ Offered Bot (3 ∷ []) (Puts.Took 1) ∷ Offered Server (4 ∷ []) (Puts.Took 0) ∷ Pulled Server 512 (Pulls.Got 7) []
    ∷ Pulled Bot 4 Pulls.Ended [] ∷ [])
    ≡ record { from_bot = 5; from_server = 7; to_bot = 3; to_server = 0 }
counted_by_side = refl
