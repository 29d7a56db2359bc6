-- The added lines: those of a move, each after four spaces, and those at the end.
use Rattle.std.proofs.Common.{◌≡◌, ◌≢◌, ℕ, ◌⊎◌, inl, inr, eqb, Bool, true, false, List, [], ◌∷◌, ◌++◌}
use Rattle.std.proofs.Common.{refl, sym, ap, ◌∙◌, subst, append_assoc, append-nil}
use Rattle.std.proofs.lemmas.Bool.Decides.{eqb_tells}
use Rattle.daide_log_lines.specs.LogLine.{IsUnbroken}
use Rattle.daide_log_lines.proofs.LineLemmas.{unbroken_append}
use Rattle.daide_log.specs.Explained.{indented, indented_from}
use Rattle.daide_log_laws.specs.Added.{without_added}
use Rattle.daide_log_laws.proofs.TextLines.{added_line}

abbrev spaces : List ℕ
spaces = 32 ∷ 32 ∷ 32 ∷ 32 ∷ []

no_feeds : IsUnbroken spaces
no_feeds = (λ e. absurd (cc), (λ e. absurd (cc), (λ e. absurd (cc), (λ e. absurd (cc), tt))))

spaced_line : (front tail : List ℕ) → IsUnbroken front →
    without_added (spaces ++ (front ++ 10 ∷ tail)) ≡ without_added tail
spaced_line front tail whole = added_line (spaces ++ front) tail (unbroken_append spaces front no_feeds whole) refl

at_start : (text tail : List ℕ) →
    indented_from true (text ++ 10 ∷ []) ++ tail ≡ spaces ++ (indented_from false (text ++ 10 ∷ []) ++ tail)
at_start [] tail = refl
at_start (byte ∷ text) tail = refl

abbrev Goes : List ℕ → Type 0
Goes text =
    (front tail : List ℕ) → IsUnbroken front →
    without_added (spaces ++ (front ++ (indented_from false (text ++ 10 ∷ []) ++ tail))) ≡ without_added tail

in_line : (text : List ℕ) → Goes text
in_line [] front tail whole = spaced_line front tail whole
in_line (byte ∷ text) front tail whole = go (eqb_tells byte 10) (in_line text)
  where
    rest : Bool → List ℕ
    rest begins = indented_from begins (text ++ 10 ∷ []) ++ tail

    go : ((eqb byte 10 ≡ true) × (byte ≡ 10)) ⊎ ((eqb byte 10 ≡ false) × (byte ≢ 10)) → Goes text →
        without_added (spaces ++ (front ++ byte ∷ rest (eqb byte 10))) ≡ without_added tail
    go (inl t) goes =
        ap (λ (b : Bool). without_added (spaces ++ (front ++ byte ∷ rest b))) t.0
        ∙ ap (λ (n : ℕ). without_added (spaces ++ (front ++ n ∷ rest true))) t.1
        ∙ spaced_line front (rest true) whole
        ∙ ap without_added (at_start text tail)
        ∙ goes [] tail tt
    go (inr t) goes =
        ap (λ (b : Bool). without_added (spaces ++ (front ++ byte ∷ rest b))) t.0
        ∙ ap (λ (l : List ℕ). without_added (spaces ++ l)) (sym (append_assoc front (byte ∷ []) (rest false)))
        ∙ goes (front ++ byte ∷ []) tail (unbroken_append front (byte ∷ []) whole (t.1, tt))

-- ---- whole lines

-- a line feed ends the text
abbrev pub IsEnded : List ℕ → Type 0
IsEnded text = (front : List ℕ) × (text ≡ front ++ 10 ∷ [])

abbrev pub IsWhole : List ℕ → Type 0
IsWhole text = (text ≡ []) ⊎ IsEnded text

pub ended_behind : (a b : List ℕ) → IsEnded b → IsEnded (a ++ b)
ended_behind a b h = (a ++ h.0, ap (λ (l : List ℕ). a ++ l) h.1 ∙ sym (append_assoc a h.0 (10 ∷ [])))

pub both_whole : (a b : List ℕ) → IsWhole a → IsWhole b → IsWhole (a ++ b)
both_whole a b h (inl e) = subst IsWhole (sym (append-nil a) ∙ ap (λ (l : List ℕ). a ++ l) (sym e)) h
both_whole a b h (inr k) = inr (ended_behind a b k)

pub indented_goes : (text tail : List ℕ) → IsWhole text → without_added (indented text ++ tail) ≡ without_added tail
unfolding indented
indented_goes text tail (inl e) = ap (λ (l : List ℕ). without_added (indented_from true l ++ tail)) e
indented_goes text tail (inr h) =
    ap (λ (l : List ℕ). without_added (indented_from true l ++ tail)) h.1
    ∙ ap without_added (at_start h.0 tail)
    ∙ in_line h.0 [] tail tt
