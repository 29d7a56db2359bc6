-- The lines of a fault, from the parts of the bytes.
use Rattle.std.proofs.lemmas.List.{take_all}
use Rattle.daide_show.proofs.Common.{◌≡◌, ℕ, ◌≤◌, List, length, take, drop, refl, sym, Code}
use Rattle.daide_show.specs.Cause.{faulty_body}
use Rattle.daide_show.specs.Shown.{cause_lines, frame_fault_lines}

pub all_in_front : (count : ℕ) (bytes : List ℕ) → length bytes ≤ count → bytes ≡ take count bytes
all_in_front count bytes few = sym (take_all count bytes few)

pub lines_of_parts : (cap count : ℕ) (code : Code) (bytes header rest part body : List ℕ) → header ≡ take 4 bytes →
    rest ≡ drop 4 bytes → count ≡ cap → part ≡ take count rest → body ≡ faulty_body code part →
    cause_lines code header body ≡ frame_fault_lines cap code bytes
unfolding frame_fault_lines
lines_of_parts cap count code bytes header rest part body h r c p b = rw (b, p, c, r, h) refl
