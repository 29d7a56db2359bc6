-- The note of an input belongs to its fault.
use Rattle.std.proofs.Common.{ltb, if◌then◌else◌, option_map}
use Rattle.daide_show.proofs.Common.{◌≡◌, ℕ, Bool, true, false, List, [], ◌∷◌, length, ◌+◌, Some, None, Result, Ok, Err}
use Rattle.daide_show.proofs.Common.{ap, sym, refl, ◌∙◌, unwrap_or, MatchBool, FromHexError, longest_body, ShowFault}
use Rattle.daide_show.proofs.Common.{TooLong, NotHex, NotOneFrame, Place, limit, digits_of, parse_hex}
use Rattle.daide_show.specs.declared.frame_view.places.Place.TheVariants.{Outside}
use Rattle.daide_show.specs.declared.notes.InputNote.{InputNote}
use Rattle.daide_show.specs.declared.notes.InputNote.TheVariants.{BadByte, OpenQuote, OddDigits, ShortHeader, ShortBody}
use Rattle.daide_show.specs.declared.notes.InputNote.TheVariants.{AnotherFrame}
use Rattle.daide_show.specs.Input.{may_end_at, next_place, input_byte}
use Rattle.daide_show.specs.Shown.{ShowRequest, Shown, OneFrame, faulty, whole, not_one, parse_frame, IsOneShownAs, IsShownAs}
use Rattle.daide_show.specs.Note.{is_bad, refusal_from, announced_length, note_of_frame}
use Rattle.daide_show.specs.Note.{note_of_bytes, input_note_of, fault_of_note, noted_fault}
use Rattle.daide_show.proofs.OneWay.{Decoded}

of_refusal : (number : ℕ) (place : Place) (bytes : List ℕ) (other : InputNote) → fault_of_note other ≡ NotHex →
    fault_of_note (unwrap_or (refusal_from number place bytes) other) ≡ NotHex
of_refusal number place [] other is = at_end (may_end_at place)
  where
    at_end : (closed : Bool) → fault_of_note (unwrap_or (if closed then None else Some OpenQuote) other) ≡ NotHex
    at_end true = is
    at_end false = refl
of_refusal number place (b ∷ rest) other is =
    at_byte (is_bad (input_byte place b rest)) (of_refusal (number + 1) (next_place place b rest) rest other is)
  where
    at_byte : (bad : Bool) →
        fault_of_note (unwrap_or (refusal_from (number + 1) (next_place place b rest) rest) other) ≡ NotHex →
        fault_of_note
        (unwrap_or
        (if bad then Some (BadByte number b) else refusal_from (number + 1) (next_place place b rest) rest) other)
        ≡ NotHex
    at_byte true later = refl
    at_byte false later = later

of_bytes : (count announced at end : ℕ) (short few : Bool) →
    fault_of_note (if short then ShortHeader count else if few then ShortBody announced at else AnotherFrame end)
    ≡ NotOneFrame
of_bytes count announced at end true few = refl
of_bytes count announced at end false true = refl
of_bytes count announced at end false false = refl

module _ (asked : ShowRequest) (input : List ℕ) where
  of_frame : (frame : OneFrame) (bytes : List ℕ) (outcome : Result Shown ShowFault) →
      IsOneShownAs asked bytes frame outcome → option_map fault_of_note (note_of_frame frame bytes) ≡ noted_fault outcome
  of_frame (faulty code) bytes outcome x = sym (ap noted_fault x)
  of_frame (whole head body) bytes outcome x = sym (ap noted_fault x.1)
  of_frame not_one bytes outcome x =
      ap (λ (f : ShowFault). Some f)
      (of_bytes (length bytes) (announced_length bytes) _ _ (ltb (length bytes) 4) _)
      ∙ sym (ap noted_fault x)

  of_decoded : (bytes : Result (List ℕ) FromHexError) (outcome : Result Shown ShowFault) →
      Decoded asked bytes outcome → option_map fault_of_note (note_of_bytes input bytes) ≡ noted_fault outcome
  of_decoded (Ok bytes) outcome x = of_frame (parse_frame longest_body bytes) bytes outcome x
  of_decoded (Err e) outcome x =
      ap (λ (f : ShowFault). Some f) (of_refusal 1 Outside input (OddDigits (length (digits_of input))) refl) ∙ sym (ap noted_fault x)

  pub of_the_fault : (outcome : Result Shown ShowFault) → IsShownAs asked input outcome →
      option_map fault_of_note (input_note_of input) ≡ noted_fault outcome
  of_the_fault outcome x = by_length (ltb limit (length input)) x
    where
      by_length : (long : Bool) → MatchBool long (outcome ≡ Err TooLong) (Decoded asked (parse_hex input) outcome) →
          option_map fault_of_note (if long then None else note_of_bytes input (parse_hex input)) ≡ noted_fault outcome
      by_length true x = sym (ap noted_fault x)
      by_length false x = of_decoded (parse_hex input) outcome x
