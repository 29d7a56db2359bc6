-- Why a frame is at fault: the field that it is about, and what is right there. (own)
use Rattle.std.specs.Prelude.{ℕ, List, [], ◌∷◌, codes, take, unwrap_or, Option, Some, None}
use Rattle.daide_frame.specs.declared.code.Code.{Code}
use Rattle.daide_frame.specs.declared.code.Code.TheVariants.{UnknownMessage, InvalidToken}
use Rattle.daide_frame.specs.declared.head.Kind.{Kind}
use Rattle.daide_frame.specs.declared.head.Kind.TheVariants.{Im, Rm, Dm, Fm, Em}
use Rattle.daide_frame.specs.Frames.{first_alien}
use Rattle.daide_frame.specs.Head.{kind_of}
use Rattle.daide_io.specs.declared.fault_field.FaultField.{FaultField}
use Rattle.daide_io.specs.declared.fault_field.FaultField.TheVariants as fields

-- the body up to a fault: up to the end of the first token of no known category; a fault of the header is before it
abbrev pub faulty_body : Code → List ℕ → List ℕ
faulty_body InvalidToken body = take (unwrap_or (first_alien body) 0) body
faulty_body code body = []

-- the lengths that are right for a kind
abbrev pub right_length : Option Kind → List ℕ
right_length None = []
right_length (Some Im) = codes "0004"
right_length (Some Rm) = codes "a multiple of 6"
right_length (Some Dm) = codes "an even number"
right_length (Some Fm) = codes "0000"
right_length (Some Em) = codes "0002"

abbrev pub kind_in : List ℕ → Option Kind
kind_in [] = None
kind_in (kind ∷ header) = kind_of kind

-- an unknown length is above the cap
abbrev pub expected_length : Code → List ℕ → List ℕ
expected_length UnknownMessage header = codes "at most FFF6"
expected_length code header = right_length (kind_in header)

-- the values that are right for the field of a fault, in a frame with this header
abbrev pub expected_value : Code → List ℕ → FaultField → List ℕ
expected_value code header (fields.Kind value) = codes "00 to 04"
expected_value code header (fields.Length value) = expected_length code header
expected_value code header (fields.Version value) = codes "0001"
expected_value code header (fields.MagicNumber value) = codes "DA10"
expected_value code header (fields.Token value place) = codes "0000 to 4BFF, or 5000 to 57FF"
