use Rattle.std.proofs.Common.{inl, inr}
use Rattle.std.proofs.lemmas.Result.{IfErr-weaker, IfOk-weaker}
use Rattle.daide_causes.specs.Causes.{HasFailed, WasRefused}
use Rattle.daide_show.specs.Shown.{IsShowCause}
use Rattle.daide_words.specs.Words.{words_of}
use Rattle.daide_tools.proofs.EndingLemmas.{keeps_same, show_cause_of}
use Rattle.daide_tools.proofs.showing.run_show.Goals as goal

pub returns-in-Err-clause-shown : goal.returns-in-Err-clause-shown
returns-in-Err-clause-shown g c =
    IfOk-weaker c.print_fault.result _ _
    (λ status e. inl (c.in-Err.ensures.none, e, keeps_same (g.O.Write.contents c.args.output.now))) c.print_fault.ensures.status

pub returns-in-Some-clause-shown : goal.returns-in-Some-clause-shown
returns-in-Some-clause-shown g c =
    let refused = WasRefused g.A.Memory.Refuses in
    let write = HasFailed g.O.Sink.Fails in
    IfOk-weaker c.show_words.result _ _
    (λ status h. inr (
      words_of c.in-Ok.words,
      c.in-Ok.ensures.words,
      rw c.in-Some.is (
        h.0,
        h.1,
        IfErr-weaker h.0 (IsShowCause ⊥ refused write) (IsShowCause (HasFailed g.I.Source.Fails) refused write)
            (show_cause_of refused (λ e. absurd e) (λ e. e)) h.2,
        h.3,
      ),
    ))
    c.show_words.ensures

pub returns-in-None-clause-shown : goal.returns-in-None-clause-shown
returns-in-None-clause-shown g c =
    IfOk-weaker c.show_read.result _ _
    (λ status h. inr (words_of c.in-Ok.words, c.in-Ok.ensures.words, rw c.in-None.is h)) c.show_read.ensures
