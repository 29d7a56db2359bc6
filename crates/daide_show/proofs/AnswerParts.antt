-- A verdict's name, followed by the answer.
use Rattle.daide_show.proofs.Common.{◌≡◌, ℕ, false, List, ◌++◌, refl, ap, ◌∙◌, append_assoc, tokens_of, Word, Verdict}
use Rattle.daide_show.proofs.Common.{Relay, Prn, Huh, answer_body}
use Rattle.daide_show.specs.Shown.{is_relay, line, printed, verdict_lines, verdict_name}

pub answered : (words : List Word) (verdict : Verdict) (body old named answer text : List ℕ) →
    is_relay verdict ≡ false → named ≡ old ++ line (verdict_name verdict) → answer ≡ answer_body body verdict →
    text ≡ named ++ line (printed words (tokens_of answer))
    → (text ≡ old ++ verdict_lines words verdict body) × (false ≡ is_relay verdict)
answered words Relay body old named answer text sent is_named is_answer written = absurd cc
answered words Prn body old named answer text sent is_named is_answer written = (
  written ∙ ap (λ (l : List ℕ). l ++ line (printed words (tokens_of answer))) is_named
      ∙ append_assoc old (line (verdict_name Prn)) (line (printed words (tokens_of answer)))
      ∙ ap (λ (l : List ℕ). old ++ (line (verdict_name Prn) ++ line (printed words (tokens_of l)))) is_answer,
  refl,
)
answered words (Huh place) body old named answer text sent is_named is_answer written = (
  written ∙ ap (λ (l : List ℕ). l ++ line (printed words (tokens_of answer))) is_named
      ∙ append_assoc old (line (verdict_name (Huh place))) (line (printed words (tokens_of answer)))
      ∙ ap (λ (l : List ℕ). old ++ (line (verdict_name (Huh place)) ++ line (printed words (tokens_of l)))) is_answer,
  refl,
)
