-- The end of `show` and `frame`, without a call of their library, or after a call for the arguments.
use Rattle.std.proofs.Common.{◌≡◌, ◌⊎◌, ◌<◌, ℕ, true, ltb, lt-ltb, List, [], length, Option, Some, None, IfSome, Err, refl, rules, arith}
use Rattle.std.specs.Io.KnownBytes.{Keeps, Appends}
use Rattle.daide_token.specs.Names.{Named}
use Rattle.daide_show.specs.Input.{limit}
use Rattle.daide_show.specs.Shown.{ShowRequest, IsShowCause, IsShownAs, IsFaultAt}
use Rattle.daide_show.specs.declared.frame_view.ShowFault.{ShowFault}
use Rattle.daide_show.specs.declared.frame_view.ShowFault.TheVariants as show_faults
use Rattle.daide_text.specs.Frames.{text_lines, AreLinesOf}
use Rattle.daide_text.specs.declared.frames.TextFault.{TextFault}
use Rattle.daide_text.specs.declared.frames.TextFault.TheVariants as text_faults
use Rattle.daide_tools.specs.Endings.{ShowEnds, FrameEnds}

pub keeps_same : (known : Option (List ℕ)) → Keeps known known
keeps_same None = tt
keeps_same (Some bytes) = refl

pub appends_nothing : (known : Option (List ℕ)) → Appends known known []
appends_nothing None = tt
appends_nothing (Some bytes) = search rules

-- a property of all bytes holds for the known ones
of_any : (P : List ℕ → Type 0) (known : Option (List ℕ)) → ((bytes : List ℕ) → P bytes) → IfSome known P
of_any P None h = tt
of_any P (Some bytes) h = h bytes

-- an input that is too long is refused for that
too_long : (asked : ShowRequest) (input : Option (List ℕ)) → IfSome input (λ bytes. limit < length bytes) →
    IfSome input (λ bytes. IsShownAs asked bytes (Err show_faults.TooLong))
too_long asked None h = tt
too_long asked (Some bytes) h = let e : ltb limit (length bytes) ≡ true = lt-ltb limit (length bytes) h in rw e refl

-- a fault of reading is the input's own, or independent of it
pub reading_fault : (asked : ShowRequest) (input : Option (List ℕ)) (fault : ShowFault) →
    (fault ≡ show_faults.TooLong → IfSome input (λ bytes. limit < length bytes)) →
    (fault ≡ show_faults.Read) ⊎ (fault ≡ show_faults.TooLong) ⊎ (fault ≡ show_faults.Memory) →
    IfSome input (λ bytes. IsFaultAt asked bytes fault)
reading_fault asked input show_faults.Read long one = of_any _ input (λ bytes. tt)
reading_fault asked input show_faults.TooLong long one = too_long asked input (long refl)
reading_fault asked input show_faults.NotHex long one = absurd (grind (arith, one))
reading_fault asked input show_faults.NotOneFrame long one = absurd (grind (arith, one))
reading_fault asked input show_faults.Memory long one = of_any _ input (λ bytes. tt)
reading_fault asked input show_faults.Write long one = absurd (grind (arith, one))

-- before the frame is shown, a fault ends the program with status 1, and leaves the output unchanged
pub show_refused : (IsCause : ShowFault → Type 0) (asked : ShowRequest) (input old : Option (List ℕ)) (fault : ShowFault)
    (status : ℕ) → IfSome input (λ bytes. IsFaultAt asked bytes fault) → IsCause fault → status ≡ 1 →
    ShowEnds IsCause asked input old old status
show_refused IsCause asked input old fault status h cause e = (Err fault, (h, λ other. keeps_same old), cause, e)

-- the same for refused memory, which is independent of the input
pub show_without_memory : (IsCause : ShowFault → Type 0) (asked : ShowRequest) (input old : Option (List ℕ)) (status : ℕ) →
    IsCause show_faults.Memory → status ≡ 1 → ShowEnds IsCause asked input old old status
show_without_memory IsCause asked input old status cause e =
    show_refused IsCause asked input old show_faults.Memory status (of_any _ input (λ bytes. tt)) cause e

-- a cause of a part is one of the whole
pub show_cause_of : {read read' write write' : Type 0} (refused : Type 0) → (read → read') → (write → write') →
    (fault : ShowFault) → IsShowCause read refused write fault → IsShowCause read' refused write' fault
show_cause_of refused on_read on_write show_faults.Read h = on_read h
show_cause_of refused on_read on_write show_faults.TooLong h = tt
show_cause_of refused on_read on_write show_faults.NotHex h = tt
show_cause_of refused on_read on_write show_faults.NotOneFrame h = tt
show_cause_of refused on_read on_write show_faults.Memory h = h
show_cause_of refused on_read on_write show_faults.Write h = on_write h

-- an input has lines, whether it is known or not
some_lines : (known : Option (List ℕ)) → (lines : List (List ℕ)) × AreLinesOf known lines
some_lines None = ([], tt)
some_lines (Some text) = (text_lines text, refl)

-- if memory is refused before a line is read, no frame is written
pub frame_without_memory : (IsCause : TextFault → Type 0) (added : List Named) (input old : Option (List ℕ)) (status : ℕ) →
    IsCause text_faults.Memory → status ≡ 1 → FrameEnds IsCause added input old old status
frame_without_memory IsCause added input old status cause e =
    let lines = some_lines input in
    (Err text_faults.Memory, ([], lines.0, lines.1, tt, [], refl, λ other. appends_nothing old), cause, e)
