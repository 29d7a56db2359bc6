-- The body of an answer, from its parts.
use Rattle.std.proofs.Common.{length-append}
use Rattle.std.proofs.lemmas.List.{length-drop}
use Rattle.daide_explain.proofs.Common.{◌≡◌, ◌≤◌, ◌%◌, ◌*◌, ℕ, take, drop, List, ◌++◌, length, arith, length-take-le, ◌∙◌}
use Rattle.daide_explain.proofs.Common.{ap, append_assoc, Verdict, Relay, Prn, Huh}
use Rattle.daide_reader.specs.Verdict.{IsPlaceIn}
use Rattle.daide_protocol.specs.Answers.{prn_open, huh_open, err_bytes, close_bytes, answer_body}

pub prn_of_parts : (old body first second last : List ℕ) → first ≡ old ++ prn_open → second ≡ first ++ body →
    last ≡ second ++ close_bytes → last ≡ old ++ answer_body body Prn
prn_of_parts old body first second last a b c =
    c ∙ ap (λ (l : List ℕ). l ++ close_bytes) (b ∙ ap (λ (l : List ℕ). l ++ body) a) ∙ simp append_assoc

pub huh_of_parts : (old body : List ℕ) (place : ℕ) (before after first second third fourth last : List ℕ) →
    before ≡ take (2 * place) body → after ≡ drop (2 * place) body → first ≡ old ++ huh_open → second ≡ first ++ before →
    third ≡ second ++ err_bytes → fourth ≡ third ++ after → last ≡ fourth ++ close_bytes →
    last ≡ old ++ answer_body body (Huh place)
huh_of_parts old body place before after first second third fourth last front back a b c d e =
    e ∙ ap (λ (l : List ℕ). l ++ close_bytes) (d ∙ ap (λ (l : List ℕ). l ++ after)
    (c ∙ ap (λ (l : List ℕ). l ++ err_bytes) (b ∙ ap (λ (l : List ℕ). l ++ before) a)))
    ∙ ap (λ (l : List ℕ). ((((old ++ huh_open) ++ l) ++ err_bytes) ++ after) ++ close_bytes) front
    ∙ ap (λ (l : List ℕ). ((((old ++ huh_open) ++ take (2 * place) body) ++ err_bytes) ++ l) ++ close_bytes) back
    ∙ simp append_assoc

pub even_answer : (body : List ℕ) (verdict : Verdict) → length body % 2 ≡ 0 → IsPlaceIn body verdict →
    length (answer_body body verdict) % 2 ≡ 0
even_answer body Relay even within = even
even_answer body Prn even within = simp length-append (omega arith)
even_answer body (Huh place) even within =
    simp (length-append, length-drop) (omega (arith, length-take-le (2 * place) body within))
