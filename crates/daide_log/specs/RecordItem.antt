-- The text of a record with times: the lines of its calls, and comments. docs/FORMATS.md, "The record". (own)
use Rattle.std.specs.Prelude.{ℕ, ⊤, ◌+◌, ◌<◌, ◌≤◌, ◌&&◌, nat_le, if◌then◌else◌, List, [], ◌∷◌, ◌++◌, length, map, take, codes}
use Rattle.std.specs.Fmt.{decimal}
use Rattle.hex.specs.Hex.{IsBytes}
use Rattle.jiff_core.specs.declared.civil.datetime.DateTime.{DateTime}
use Rattle.daide_words.specs.declared.word.Word.{Word}
use Rattle.daide_protocol.specs.declared.config.Config.{Config}
use Rattle.daide_io.specs.Ports.{PortCall, TurnBegins, Clock, Pulled, Offered}
use Rattle.daide_log_lines.specs.LogLine.{longest_piece}
use Rattle.daide_log.specs.declared.comment.Comment.{Comment}
use Rattle.daide_log.specs.declared.comment.Comment.TheVariants as comments
use Rattle.daide_log.specs.RecordText.{line_of_answer, count_of_answer, head_text, head_count}
use Rattle.daide_log.specs.UtcText.{utc_text}

-- what a record has in its order: a call of the ports, or a comment with its time
pub data RecordItem : Type 0 where
  Called : (answer : PortCall) → RecordItem  -- its line, if it has one
  Begun : (session : ℕ) → (address : List ℕ) → (at : DateTime) → RecordItem  -- when the session began, and with which bot
  Timed : (at : DateTime) → RecordItem  -- when the line after it was recorded

abbrev pub item_of_comment : Comment → RecordItem
item_of_comment (comments.Begun session address at) = Begun session address.now at
item_of_comment (comments.Timed at) = Timed at

-- ---- its line

-- the greatest number of bytes of an address in a comment
abbrev pub longest_address : ℕ
longest_address = 64

-- a byte of an address, or a question mark in place of a byte that is not printable
abbrev pub printable : ℕ → ℕ
printable byte = if nat_le 32 byte && nat_le byte 126 then byte else 63

abbrev pub address_text : List ℕ → List ℕ
address_text address = map printable (take longest_address address)

-- the comment after the head, without its line feed
unfoldable pub begun_text : ℕ → List ℕ → DateTime → List ℕ
begun_text session address at =
    codes "# session " ++ decimal session ++ codes ", bot at " ++ address_text address ++ codes ", " ++ utc_text at

-- the comment before the line of an event, without its line feed
unfoldable pub time_text : DateTime → List ℕ
time_text at = codes "# " ++ utc_text at

-- the line of an item, and how many lines it has
abbrev pub line_of_item : RecordItem → List ℕ
line_of_item (Called answer) = line_of_answer answer
line_of_item (Begun session address at) = begun_text session address at ++ 10 ∷ []
line_of_item (Timed at) = time_text at ++ 10 ∷ []

abbrev pub count_of_item : RecordItem → ℕ
count_of_item (Called answer) = count_of_answer answer
count_of_item (Begun session address at) = 1
count_of_item (Timed at) = 1

-- the line of a comment
unfoldable pub comment_line : Comment → List ℕ
comment_line comment = line_of_item (item_of_comment comment)

-- the bytes that a pull returned fit a line
abbrev pub IsPiece : PortCall → Type 0
IsPiece TurnBegins = ⊤
IsPiece (Clock event) = ⊤
IsPiece (Pulled side buffer pull bytes) = IsBytes bytes × (length bytes ≤ longest_piece)
IsPiece (Offered side bytes put) = ⊤

-- a call's bytes fit a line, and a session's number has 32 bits
abbrev pub IsItem : RecordItem → Type 0
IsItem (Called answer) = IsPiece answer
IsItem (Begun session address at) = session < 4294967296
IsItem (Timed at) = ⊤

-- ---- the whole

-- the lines of items, in order, and their number
abbrev pub lines_of_items : List RecordItem → List ℕ
lines_of_items [] = []
lines_of_items (item ∷ items) = line_of_item item ++ lines_of_items items

abbrev pub count_of_items : List RecordItem → ℕ
count_of_items [] = 0
count_of_items (item ∷ items) = count_of_item item + count_of_items items

-- the calls among items
abbrev pub call_in : RecordItem → List PortCall
call_in (Called answer) = answer ∷ []
call_in (Begun session address at) = []
call_in (Timed at) = []

abbrev pub calls_in : List RecordItem → List PortCall
calls_in [] = []
calls_in (item ∷ items) = call_in item ++ calls_in items

abbrev pub record_text : Config → List Word → List RecordItem → List ℕ
record_text config words items = head_text config words ++ lines_of_items items

abbrev pub record_count : List Word → List RecordItem → ℕ
record_count words items = head_count words + count_of_items items
