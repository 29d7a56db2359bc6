use Rattle.std.proofs.Common.{map, Some}
use Rattle.std.specs.List.{join_with_byte}
use Rattle.std.proofs.lemmas.Result.{IfOk-weaker}
use Rattle.daide_show.specs.Shown.{request_of}
use Rattle.daide_tools.proofs.EndingLemmas.{show_without_memory}
use Rattle.daide_tools.proofs.showing.show_words.Goals as goal

pub returns-in_default : goal.returns-in_default
returns-in_default g c =
    IfOk-weaker c.print_fault.result _ _
    (λ status e. show_without_memory _ (request_of c.args.request.now)
    (Some (join_with_byte 32 (map (λ word. word.now) c.args.words.now))) (g.O.Write.contents c.args.output.now) status c.in_default.ensures.refused e)
    c.print_fault.ensures.status
