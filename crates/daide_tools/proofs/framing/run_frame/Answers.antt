use Rattle.std.proofs.Common.{inl, inr}
use Rattle.std.proofs.lemmas.Result.{IfOk-weaker}
use Rattle.daide_words.specs.Words.{words_of}
use Rattle.daide_tools.proofs.EndingLemmas.{keeps_same}
use Rattle.daide_tools.proofs.framing.run_frame.Goals as goal

pub returns-in-Err-clause-framed : goal.returns-in-Err-clause-framed
returns-in-Err-clause-framed g c =
    IfOk-weaker c.print_fault.result _ _
    (λ status e. inl (c.in-Err.ensures.none, e, keeps_same (g.O.Write.contents c.args.output.now))) c.print_fault.ensures.status

pub returns-in-Some-clause-framed : goal.returns-in-Some-clause-framed
returns-in-Some-clause-framed g c =
    IfOk-weaker c.frame_words.result _ _
    (λ status h. inr (words_of c.in-Ok.words, c.in-Ok.ensures.words, rw c.in-Some.is h)) c.frame_words.ensures

pub returns-in-None-clause-framed : goal.returns-in-None-clause-framed
returns-in-None-clause-framed g c =
    IfOk-weaker c.frame_read.result _ _
    (λ status h. inr (words_of c.in-Ok.words, c.in-Ok.ensures.words, rw c.in-None.is h)) c.frame_read.ensures
