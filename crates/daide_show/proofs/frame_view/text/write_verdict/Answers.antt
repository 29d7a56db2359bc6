use Rattle.std.proofs.Common.{◌%◌}
use Rattle.daide_show.proofs.Common.{◌≡◌, ◌++◌, ◌∙◌, false, length, ℕ, List, sym, subst, refl, ap, Verdict, Prn, Huh}
use Rattle.daide_show.proofs.Common.{words_of, answer_body}
use Rattle.daide_show.specs.Shown.{is_relay, verdict_lines}
use Rattle.daide_show.proofs.AnswerParts.{answered}
use Rattle.daide_show.proofs.frame_view.text.write_verdict.Goals as goal
use Rattle.daide_show.proofs.frame_view.text.write_verdict.Goals.{in-Prn+in_ok-append-in-Prn, in-Huh+in_ok-append_text-in-Huh}

pub returns-clause-text : goal.returns-clause-text
returns-clause-text g c =
    let words = words_of c.args.words.now in
    let body = c.args.body.now in
    let old = c.args.text.now.items in
    let text = c.write_tokens.new.text.items in
    let sent = c.as_slice.result.now in
    let answer = c.as_slice.ensures.value ∙ c.in_ok-answer.ensures.body in
    elim c.match-verdict.branch [
      | in-Prn+in_ok-append-in-Prn w ↦
          subst (λ (v : Verdict). (text ≡ old ++ verdict_lines words v body) × (false ≡ is_relay v)) (sym w.in-Prn.is)
          (answered words Prn body old c.match-verdict.text.items sent text refl
          (rw w.text-is w.in_ok-append-in-Prn.ensures.appended)
          (answer ∙ ap (answer_body body) (w.verdict-is ∙ w.in-Prn.is)) c.in_ok-write_tokens.ensures.text)
      | in-Huh+in_ok-append_text-in-Huh w ↦
          subst (λ (v : Verdict). (text ≡ old ++ verdict_lines words v body) × (false ≡ is_relay v)) (sym w.in-Huh.is)
          (answered words (Huh w.in-Huh.place) body old c.match-verdict.text.items sent text refl
          (rw w.text-is w.in_ok-append_text-in-Huh.ensures.appended)
          (answer ∙ ap (answer_body body) w.verdict-is) c.in_ok-write_tokens.ensures.text)
    ]

pub write_tokens-requires : goal.write_tokens-requires
write_tokens-requires g c =
    subst (λ (l : List ℕ). length l % 2 ≡ 0) (sym c.as_slice.ensures.value) c.in_ok-answer.ensures.even
