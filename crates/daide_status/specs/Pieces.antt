-- The pieces of which the texts of a status are made. (own)
use Rattle.std.specs.Prelude.{◌≡◌, ℕ, ◌-◌, ◌++◌, ◌==◌, ◌||◌, Bool, true, false, if◌then◌else◌, List, [], ◌∷◌}
use Rattle.std.specs.Prelude.{Option, Some, None, Result, MatchResult, Vec, codes, length}
use Rattle.std.specs.List.{flat_map, repeat}
use Rattle.std.specs.Fmt.{decimal}
use Rattle.daide_causes.specs.Causes.{WasRefused}
use Rattle.daide_protocol.specs.declared.phase.Phase.{Phase}
use Rattle.daide_protocol.specs.declared.phase.Phase.TheVariants.{WaitIm, WaitRm, Open, Over}
use Rattle.daide_protocol.specs.declared.bot_name.BotName.{BotName}
use Rattle.daide_protocol.specs.BotName.{name_text}
use Rattle.daide_status.specs.declared.snapshot.ServerState.{ServerState}
use Rattle.daide_status.specs.declared.snapshot.ServerState.TheVariants.{Untried, Up, Away}

-- a call appended a text; or it returned an error, and then an allocation was refused
abbrev pub AppendsOrRefused : {A E : Type 0} → (ℕ → Type 0) → Vec ℕ A → Vec ℕ A → Result (Unit {0}) E → List ℕ → Type 0
AppendsOrRefused Refuses old new result text =
    MatchResult result (λ _. new.items ≡ old.items ++ text) (λ _. WasRefused Refuses)

-- a text after as many spaces as it is shorter than a width
abbrev pub right_aligned : ℕ → List ℕ → List ℕ
right_aligned width text = repeat (width - length text) (codes " ") ++ text

-- the name of a phase
abbrev pub phase_name : Phase → List ℕ
phase_name WaitIm = codes "wait IM"
phase_name WaitRm = codes "wait RM"
phase_name Open = codes "open"
phase_name Over = codes "over"

-- the name of the server's state
abbrev pub server_state_name : ServerState → List ℕ
server_state_name Untried = codes "untried"
server_state_name Up = codes "up"
server_state_name Away = codes "away"

-- a text in a column: a space, however long the text is, and the text to the right of this width
abbrev pub cell : ℕ → List ℕ → List ℕ
cell width text = codes " " ++ right_aligned width text

-- a number in a column, or a dash if there is none
abbrev pub number_or_dash : ℕ → Option ℕ → List ℕ
number_or_dash width (Some number) = cell width (decimal number)
number_or_dash width None = cell width (codes "-")

-- a number in a document, or `null` if there is none
abbrev pub number_or_null : Option ℕ → List ℕ
number_or_null (Some number) = decimal number
number_or_null None = codes "null"

-- a text, if a condition holds
abbrev pub text_if : Bool → List ℕ → List ℕ
text_if true text = text
text_if false text = []

-- a byte of a text between double quotes: a quote and a backslash have a backslash before them
abbrev pub escaped_byte : ℕ → List ℕ
escaped_byte b = if (b == 34) || (b == 92) then 92 ∷ b ∷ [] else b ∷ []

-- a text between double quotes
abbrev pub quoted : List ℕ → List ℕ
quoted text = codes "\"" ++ flat_map escaped_byte text ++ codes "\""

-- the text of a name between double quotes
abbrev pub quoted_name : BotName → List ℕ
quoted_name name = quoted (name_text name)
