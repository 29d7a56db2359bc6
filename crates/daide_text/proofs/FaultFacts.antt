-- Which faults a line has, and what each says of its line, worked out from docs/FORMATS.md.
use Rattle.std.proofs.Common.{◌≡◌, ℕ, [], ◌∷◌, List, Result, Err, codes, refl, ap, sym, ◌∙◌, arith}
use Rattle.daide_token.specs.Names.{token_named, names}
use Rattle.daide_text.specs.Line.{IsReadAs, read_pieces, Word}
use Rattle.daide_text.specs.Frames.{IsFaultOfNext, IsTextCause}
use Rattle.daide_text.specs.declared.frames.TextFault.TheVariants.{Read, NotMessage, TooLong, TooManyLines, Memory, Write}
use Rattle.daide_text.specs.declared.reason.Reason.{Reason}
use Rattle.daide_text.proofs.Cuts.{one_cut}
use Rattle.daide_text.proofs.LineFacts.{read}

-- `gof` is no item
letters : IsReadAs [] (codes "gof") (Err 1)
unfolding token_named names
letters = read [] (Word (codes "gof") ∷ []) refl

one_column : (column : ℕ) → IsReadAs [] (codes "gof") (Err column) → column ≡ 1
one_column column h = column_of (h.2 ∙ ap (read_pieces [] 1) (one_cut h.0 letters.0 (codes "gof") h.1 letters.1) ∙ sym letters.2)
  where
    column_of : ◌≡◌ {A = Result (List ℕ) ℕ} (Err column) (Err 1) → column ≡ 1
    column_of e = cc

-- after two lines: its number and its column are the only ones, and no other fault of the line is possible
third_line : ((number column : ℕ) (reason : Reason) → IsFaultOfNext [] 2 (codes "gof" ∷ []) (NotMessage number column reason) →
    (number ≡ 3) × (column ≡ 1))
    × ((number : ℕ) → IsFaultOfNext [] 2 (codes "gof" ∷ []) (TooLong number) → number ≡ 3)
    × (IsFaultOfNext [] 2 (codes "gof" ∷ []) TooManyLines → ⊥)
third_line = (
  λ number column reason h. (h.0, one_column column h.1.1),
  λ number h. h.0,
  λ h. let e : 2 ≡ 1000000 = h.0 in omega arith,
)

-- after the last line a line at fault, a long line and a failed write are impossible
no_line : ((number column : ℕ) (reason : Reason) → IsFaultOfNext [] 2 [] (NotMessage number column reason) → ⊥)
    × ((number : ℕ) → IsFaultOfNext [] 2 [] (TooLong number) → ⊥) × (IsFaultOfNext [] 2 [] Write → ⊥)
no_line = (λ number column reason h. h.1, λ number h. h.1, λ h. h)

-- each cause is the one that its fault names
causes : (read refused write : Type 0) → (IsTextCause read refused write Read → read)
    × (IsTextCause read refused write Memory → refused) × (IsTextCause read refused write Write → write)
causes read refused write = (λ h. h, λ h. h, λ h. h)
