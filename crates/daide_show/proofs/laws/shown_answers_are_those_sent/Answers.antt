use Rattle.daide_show.proofs.Common.{◌≡◌, ◌++◌, ℕ, false, List, refl, tokens_of, Word, Verdict, Relay, Prn, Huh}
use Rattle.daide_show.proofs.Common.{answer_body}
use Rattle.daide_show.specs.Shown.{is_relay, line, printed, verdict_lines, verdict_name}
use Rattle.daide_show.proofs.laws.shown_answers_are_those_sent.Goals as goal

lines_of_answer : (words : List Word) (body : List ℕ) (verdict : Verdict) → is_relay verdict ≡ false →
    verdict_lines words verdict body
    ≡ line (verdict_name verdict) ++ line (printed words (tokens_of (answer_body body verdict)))
lines_of_answer words body Relay answered = absurd cc
lines_of_answer words body Prn answered = refl
lines_of_answer words body (Huh place) answered = refl

pub returns : goal.returns
returns c = lines_of_answer
