-- The protocol's error codes.
use Rattle.std.specs.Prelude.{ℕ, List, codes}
use Rattle.daide_token.specs.HexDigits.{digits_of_byte}
use Rattle.daide_frame.specs.declared.code.Code.{Code}
use Rattle.daide_frame.specs.declared.code.Code.TheVariants.{ImTimeout, ImNotFirst, WrongEndian, WrongMagic}
use Rattle.daide_frame.specs.declared.code.Code.TheVariants.{WrongVersion, SecondIm, ImFromServer, UnknownMessage}
use Rattle.daide_frame.specs.declared.code.Code.TheVariants.{WrongLength, DmBeforeRm, RmNotFirst, SecondRm}
use Rattle.daide_frame.specs.declared.code.Code.TheVariants.{RmFromClient, InvalidToken}

-- the number that an error message carries, by the protocol's table of errors
abbrev pub code_number : Code → ℕ
code_number ImTimeout = 0x01
code_number ImNotFirst = 0x02
code_number WrongEndian = 0x03
code_number WrongMagic = 0x04
code_number WrongVersion = 0x05
code_number SecondIm = 0x06
code_number ImFromServer = 0x07
code_number UnknownMessage = 0x08
code_number WrongLength = 0x09
code_number DmBeforeRm = 0x0A
code_number RmNotFirst = 0x0B
code_number SecondRm = 0x0C
code_number RmFromClient = 0x0D
code_number InvalidToken = 0x0E

-- the number as text, in two digits
abbrev pub code_digits : Code → List ℕ
code_digits code = digits_of_byte (code_number code)

-- the meaning of a code, in a few words (own)
abbrev pub code_name : Code → List ℕ
code_name ImTimeout = codes "no IM in time"
code_name ImNotFirst = codes "first frame is no IM"
code_name WrongEndian = codes "wrong byte order"
code_name WrongMagic = codes "wrong magic number"
code_name WrongVersion = codes "wrong version"
code_name SecondIm = codes "second IM"
code_name ImFromServer = codes "IM from server"
code_name UnknownMessage = codes "unknown message"
code_name WrongLength = codes "wrong length"
code_name DmBeforeRm = codes "DM before RM"
code_name RmNotFirst = codes "first frame is no RM"
code_name SecondRm = codes "second RM"
code_name RmFromClient = codes "RM from client"
code_name InvalidToken = codes "invalid token"
