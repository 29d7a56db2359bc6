-- What a bot calls itself: the name of its NME, or the power of its IAM, by docs/PROTOCOL.md, "The messages". That the
-- last one that was relayed counts, how much of a name is kept, and the text of a name are (own).
use Rattle.std.specs.Prelude.{ℕ, zero, suc, ◌+◌, ◌/◌, ◌%◌, ◌==◌, nat_lt, if◌then◌else◌, List, [], ◌∷◌, ◌++◌}
use Rattle.std.specs.Prelude.{length, take, map, codes, Option, Some, None, unwrap_or}
use Rattle.daide_token.specs.Text.{text_with}
use Rattle.daide_frame.specs.declared.side.Side.{Side}
use Rattle.daide_frame.specs.declared.side.Side.TheVariants.{Bot}
use Rattle.daide_frame.specs.declared.head.Kind.{Kind}
use Rattle.daide_frame.specs.declared.head.Kind.TheVariants.{Dm}
use Rattle.daide_protocol.specs.declared.bot_name.BotName.{BotName}
use Rattle.daide_protocol.specs.declared.bot_name.BotName.TheVariants.{Unknown, Nme, Iam}
use Rattle.daide_protocol.specs.declared.bot_name.NameText.{NameText}
use Rattle.daide_protocol.specs.declared.note.Deed.{Deed}
use Rattle.daide_protocol.specs.declared.note.Deed.TheVariants.{Relayed}

-- NME ( name ) ( version ), by which a bot asks for a place
abbrev pub nme : ℕ
nme = 0x480C

-- IAM ( power ) ( passcode ), by which a bot asks for its place again
abbrev pub iam : ℕ
iam = 0x4807

-- ---- what is kept

-- the characters at the front of some tokens: the low byte of each token of category 4B
abbrev pub characters : List ℕ → List ℕ
characters [] = []
characters (t ∷ ts) = if t / 256 == 0x4B then t % 256 ∷ characters ts else []

-- the most characters of a name that are kept
abbrev pub most_kept : ℕ
most_kept = 32

-- the first n of some characters, with zeros after them if there are fewer
abbrev pub padded : ℕ → List ℕ → List ℕ
padded zero cs = []
padded (suc n) [] = 0 ∷ padded n []
padded (suc n) (c ∷ cs) = c ∷ padded n cs

-- what is kept of a name: its first characters, and their number, which is one above the most for a longer name
abbrev pub kept : List ℕ → NameText
kept cs = record { bytes = padded most_kept cs; len = length (take (most_kept + 1) cs) }

-- the name in a message with these tokens: an NME has its first text, an IAM its power, any other message none
abbrev pub name_in : List ℕ → Option BotName
name_in (command ∷ bracket ∷ operand ∷ tokens) =
    if command == nme then Some (Nme (kept (characters (operand ∷ tokens)))) else
    if command == iam then Some (Iam operand) else
    None
name_in tokens = None

-- the name after one more frame with these tokens: only a relayed message of the bot changes it
abbrev pub name_after : Kind → Side → Deed → List ℕ → BotName → BotName
name_after Dm Bot Relayed tokens name = unwrap_or (name_in tokens) name
name_after kind side deed tokens name = name

-- ---- its text

-- the token of a character
abbrev pub token_of_character : ℕ → ℕ
token_of_character c = 0x4B00 + c

-- the tokens that a name is printed as
abbrev pub name_tokens : BotName → List ℕ
name_tokens Unknown = []
name_tokens (Nme text) = nme ∷ map token_of_character (take text.len text.bytes)
name_tokens (Iam power) = iam ∷ power ∷ []

-- what follows a name that is longer than what is kept of it
abbrev pub cut_mark : BotName → List ℕ
cut_mark Unknown = []
cut_mark (Nme text) = if nat_lt most_kept text.len then codes ".." else []
cut_mark (Iam power) = []

-- the text of a name: that of its tokens, in which each byte is printable
abbrev pub name_text : BotName → List ℕ
name_text name = text_with [] (name_tokens name) ++ cut_mark name

-- the most bytes of a name's text: eight for a token, of which there are at most 33, and three at the end, rounded up to
-- a multiple of eight
abbrev pub text_room : ℕ
text_room = 272
