-- Lines of an explanation, in order.
use Rattle.daide_log.proofs.Common.{◌≡◌, ℕ, List, ◌++◌, Option, take, drop, refl, ap, ◌∙◌, append_assoc}
use Rattle.daide_log.proofs.Common.{take-append-drop, Level, Word, Verdict, Relay, Prn, Huh}
use Rattle.daide_grammar.specs.declared.side.Side2.{Side2}
use Rattle.daide_log.specs.Explained.{AreRefusedLines, AreMessageLines}

pub four_lines : (old a b c d t u v w : List ℕ) → t ≡ old ++ a → u ≡ t ++ b → v ≡ u ++ c → w ≡ v ++ d →
    w ≡ old ++ (((a ++ b) ++ c) ++ d)
four_lines old a b c d t u v w e f g h =
    h ∙ ap (λ (l : List ℕ). l ++ d) (g ∙ ap (λ (l : List ℕ). l ++ c) (f ∙ ap (λ (l : List ℕ). l ++ b) e))
    ∙ simp append_assoc

pub three_parts : (old a b c t u v : List ℕ) → t ≡ old ++ a → u ≡ t ++ b → v ≡ u ++ c → v ≡ old ++ ((a ++ b) ++ c)
three_parts old a b c t u v e f g =
    g ∙ ap (λ (l : List ℕ). l ++ c) (f ∙ ap (λ (l : List ℕ). l ++ b) e) ∙ simp append_assoc

pub as_message : (words : List Word) (end : Side2) (level : Level) (capped : Option Level) (max_depth : ℕ) (body : List ℕ)
    (verdict : Verdict) (lines : List ℕ) → (verdict ≡ Relay → ⊥) →
    AreRefusedLines words end level capped max_depth body verdict lines →
    AreMessageLines words end level capped max_depth body verdict lines
as_message words end level capped max_depth body Relay lines other h = absurd (other refl)
as_message words end level capped max_depth body Prn lines other h = h
as_message words end level capped max_depth body (Huh place) lines other h = h

-- the header and the body are the held bytes
pub held_of_parts : (frame_bytes header body bytes : List ℕ) → header ≡ take 4 frame_bytes → body ≡ drop 4 frame_bytes →
    bytes ≡ header ++ body → bytes ≡ frame_bytes
held_of_parts frame_bytes header body bytes e f both =
    both ∙ ap (λ (l : List ℕ). l ++ body) e ∙ ap (λ (l : List ℕ). take 4 frame_bytes ++ l) f ∙ take-append-drop 4 frame_bytes
