-- A record that is written when no bytes move.
use Rattle.daide_log.proofs.Common.{◌≡◌, ◌+◌, ◌<◌, ℕ, List, [], Option, Some, None, refl, sym, ap, ◌∙◌, ◌++◌}
use Rattle.daide_log.proofs.Common.{append_assoc, subst, inl, inr, Keeps, Appends, append_known, most_lines, RecordEnd}
use Rattle.daide_log.proofs.Common.{Whole, Failed, Written, KeepsText, GetsLine, GetsText}

pub unwritten_kept : (failed : Type 0) (old : Written) → KeepsText failed old old
unwritten_kept failed old = inl refl

pub page_written : (failed : Type 0) (old new : Written) → old.ending ≡ Whole → new.lines ≡ old.lines →
    new.ending ≡ Whole → new.unwritten ≡ [] → Keeps old.text new.text → KeepsText failed old new
page_written failed old new whole lines ending none text =
    inr (record { whole = whole; lines = lines; written = inl (ending, none, text) })

pub page_lost : (failed : Type 0) (old new : Written) → old.ending ≡ Whole → new.lines ≡ old.lines →
    new.ending ≡ Failed → failed → KeepsText failed old new
page_lost failed old new whole lines ending why =
    inr (record { whole = whole; lines = lines; written = inr (ending, why) })

-- a whole record got a line, and is whole
pub line_got : (failed : Type 0) (old new : Written) (line : List ℕ) → old.ending ≡ Whole → new.ending ≡ Whole →
    old.lines < most_lines → new.lines ≡ old.lines + 1 → Appends old.text new.text line →
    GetsText failed old.ending old line new
line_got failed old new line whole still few lines text =
    subst (λ (e : RecordEnd). GetsText failed e old line new) (sym whole)
    (subst (λ (e : RecordEnd). GetsLine failed e old line new) (sym still) (few, lines, text))

-- a page was written or kept, and then got a line
pub page_got : (a b old : Option (List ℕ)) (front held items line : List ℕ) → old ≡ append_known a front →
    Keeps (append_known a front) (append_known b held) → items ≡ held ++ line → Appends old (append_known b items) line
page_got None b old front held items line e k f =
    subst (λ (o : Option (List ℕ)). Appends o (append_known b items) line) (sym e) tt
page_got (Some xs) None old front held items line e k f = absurd k
page_got (Some xs) (Some ys) old front held items line e k f =
    subst (λ (o : Option (List ℕ)). Appends o (Some (ys ++ items)) line) (sym e)
    (ap (λ (l : List ℕ). ys ++ l) f ∙ sym (append_assoc ys held line) ∙ ap (λ (l : List ℕ). l ++ line) k)
