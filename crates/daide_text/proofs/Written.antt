-- The lines written so far, and the fault after them.
use Rattle.std.proofs.Common.{◌≡◌, ℕ, ◌+◌, inl, List, [], ◌∷◌, ◌++◌, length, length-append, append_assoc}
use Rattle.std.proofs.Common.{append-nil, Option, Some, None, Result, Ok, Err, IfErr, refl, sym, ◌∙◌, ap, arith, subst}
use Rattle.std.specs.Result.{IsErrAnd}
use Rattle.std.specs.Io.KnownBytes.{Appends}
use Rattle.daide_token.specs.Names.{Named}
use Rattle.daide_text.specs.Frames.{AreFrameLines, AreLinesOf, IsFaultOfNext, IsFrameLine, IsTextCause, WritesUpTo}
use Rattle.daide_text.specs.Frames.{most_text_lines, text_lines}
use Rattle.daide_text.specs.Lines.{AreWritten, IsInputFault, IsLineFrom, LeaveLines, LeavesLines}
use Rattle.daide_text.specs.declared.frames.TextFault.{TextFault}
use Rattle.daide_text.specs.declared.frames.TextFault.TheVariants as fault

-- a fault that is passed on
pub at_error : {A : Type 0} (r : Result A TextFault) (handed : TextFault) (Holds : TextFault → Type 0) →
    IsErrAnd r (λ other. other ≡ handed) → Holds handed → IfErr r Holds
at_error (Ok x) handed Holds same h = tt
at_error (Err other) handed Holds same h = subst Holds (sym same) h

-- a cause of a part is one of the whole
pub cause_of : {read read' write write' : Type 0} (refused : Type 0) → (read → read') → (write → write') → (given : TextFault) →
    IsTextCause read refused write given → IsTextCause read' refused write' given
cause_of refused on_read on_write fault.Read h = on_read h
cause_of refused on_read on_write (fault.NotMessage number column reason) h = tt
cause_of refused on_read on_write (fault.TooLong number) h = tt
cause_of refused on_read on_write fault.TooManyLines h = tt
cause_of refused on_read on_write fault.Memory h = h
cause_of refused on_read on_write fault.Write h = on_write h

lines_left : Option (List ℕ) → List (List ℕ)
lines_left None = []
lines_left (Some rest) = text_lines rest

known_lines : (old now : Option (List ℕ)) (lines : List (List ℕ)) → LeaveLines old now lines →
    AreLinesOf old (lines ++ lines_left now)
unfolding lines_left
known_lines None now lines h = tt
known_lines (Some input) None lines h = absurd h
known_lines (Some input) (Some rest) lines h = h

known_next : (old now new : Option (List ℕ)) (lines : List (List ℕ)) (line : List ℕ) → LeaveLines old now lines →
    LeavesLines now new line → AreLinesOf old (lines ++ line ∷ lines_left new)
unfolding lines_left
known_next None now new lines line h next = tt
known_next (Some input) None new lines line h next = absurd h
known_next (Some input) (Some rest) None lines line h next = absurd next
known_next (Some input) (Some rest) (Some others) lines line h next =
    h ∙ ap (λ (l : List (List ℕ)). lines ++ l) next

known_given : (old now : Option (List ℕ)) (lines next : List (List ℕ)) → LeaveLines old now lines →
    AreLinesOf now next → AreLinesOf old (lines ++ next)
known_given None now lines next h given = tt
known_given (Some input) None lines next h given = absurd h
known_given (Some input) (Some rest) lines next h given = h ∙ ap (λ (l : List (List ℕ)). lines ++ l) given

leave_more : (old now new : Option (List ℕ)) (lines : List (List ℕ)) (line : List ℕ) → LeaveLines old now lines →
    LeavesLines now new line → LeaveLines old new (lines ++ line ∷ [])
leave_more None now new lines line h next = tt
leave_more (Some input) None new lines line h next = absurd h
leave_more (Some input) (Some rest) None lines line h next = absurd next
leave_more (Some input) (Some rest) (Some others) lines line h next =
    h ∙ ap (λ (l : List (List ℕ)). lines ++ l) next ∙ sym (append_assoc lines (line ∷ []) (text_lines others))

appends_more : (a b c : Option (List ℕ)) (xs ys : List ℕ) → Appends a b xs → Appends b c ys → Appends a c (xs ++ ys)
appends_more None b c xs ys h k = tt
appends_more (Some a) None c xs ys h k = absurd h
appends_more (Some a) (Some b) None xs ys h k = absurd k
appends_more (Some a) (Some b) (Some c) xs ys h k = k ∙ ap (λ (t : List ℕ). t ++ ys) h ∙ append_assoc a xs ys

module _ (added : List Named) where
  frames_more : (lines : List (List ℕ)) (text line more : List ℕ) → AreFrameLines added lines text →
      IsFrameLine added line more → AreFrameLines added (lines ++ line ∷ []) (text ++ more)
  frames_more [] text line more h next =
      (more, [], next, refl, ap (λ (t : List ℕ). t ++ more) h ∙ sym (append-nil more))
  frames_more (l ∷ lines) text line more h next = (
    h.0,
    h.1 ++ more,
    h.2,
    frames_more lines h.1 line more h.3 next,
    ap (λ (t : List ℕ). t ++ more) h.4 ∙ append_assoc h.0 h.1 more,
  )

  module _ (input now old new : Option (List ℕ)) (count : ℕ) (so : AreWritten added input now old new count) where
    -- the reader's faults
    pub fault_of_input : (given : TextFault) → IsInputFault now (count + 1) given → WritesUpTo added input old new given
    fault_of_input fault.Read h =
        (so.lines, lines_left now, known_lines input now so.lines so.read, tt, so.text, so.framed, λ _. so.written)
    fault_of_input (fault.NotMessage number column reason) h = absurd h
    fault_of_input (fault.TooLong number) h = (
      so.lines,
      h.1.0 ∷ h.1.1,
      known_given input now so.lines (h.1.0 ∷ h.1.1) so.read h.1.3,
      (omega (arith, h.0, so.counted), inl h.1.2),
      so.text,
      so.framed,
      λ _. so.written,
    )
    fault_of_input fault.TooManyLines h = absurd h
    fault_of_input fault.Memory h =
        (so.lines, lines_left now, known_lines input now so.lines so.read, tt, so.text, so.framed, λ _. so.written)
    fault_of_input fault.Write h = absurd h

    -- after the next line
    module _ (rest : Option (List ℕ)) (line : List ℕ) (next : IsLineFrom now rest line) where
      pub fault_of_line : (given : TextFault) →
          ((k : ℕ) (more : List (List ℕ)) → count + 1 ≡ k + 1 → IsFaultOfNext added k (line ∷ more) given) →
          WritesUpTo added input old new given
      fault_of_line given h = (
        so.lines,
        line ∷ lines_left rest,
        known_next input now rest so.lines line so.read next.1,
        h (length so.lines) (lines_left rest) (omega (arith, so.counted)),
        so.text,
        so.framed,
        λ _. so.written,
      )

      pub fault_of_write : (text : List ℕ) (after : Option (List ℕ)) → IsFrameLine added line text →
          WritesUpTo added input old after fault.Write
      fault_of_write text after h = (
        so.lines,
        line ∷ lines_left rest,
        known_next input now rest so.lines line so.read next.1,
        (text, h),
        so.text,
        so.framed,
        λ other. absurd (other refl),
      )

      pub more_written : (text : List ℕ) (after : Option (List ℕ)) → IsFrameLine added line text →
          Appends new after text → AreWritten added input rest old after (count + 1)
      more_written text after h written = record {
        lines = so.lines ++ line ∷ [];
        text = so.text ++ text;
        read = leave_more input now rest so.lines line so.read next.1;
        counted = omega (arith, so.counted, length-append so.lines (line ∷ []));
        framed = frames_more so.lines so.text line text so.framed h;
        written = appends_more old new after so.text text so.written written;
      }

      pub too_many : count ≡ most_text_lines → WritesUpTo added input old new fault.TooManyLines
      too_many full = (
        so.lines,
        line ∷ lines_left rest,
        known_next input now rest so.lines line so.read next.1,
        (so.counted ∙ full, λ e. absurd (cc)),
        so.text,
        so.framed,
        λ _. so.written,
      )
