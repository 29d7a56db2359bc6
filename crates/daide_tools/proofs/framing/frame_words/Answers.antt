use Rattle.std.proofs.Common.{map, ◌++◌, ◌∷◌, [], Some}
use Rattle.std.specs.List.{join_with_byte}
use Rattle.std.proofs.lemmas.Result.{IfOk-weaker}
use Rattle.daide_words.specs.Word.{names_of}
use Rattle.daide_words.specs.Words.{words_of}
use Rattle.daide_tools.proofs.EndingLemmas.{frame_without_memory}
use Rattle.daide_tools.proofs.framing.frame_words.Goals as goal

pub returns-in_default : goal.returns-in_default
returns-in_default g c =
    IfOk-weaker c.print_fault.result _ _
    (λ status e. frame_without_memory _ (names_of (words_of c.args.words.now))
    (Some (join_with_byte 32 (map (λ word. word.now) c.args.typed.now) ++ 10 ∷ []))
    (g.O.Write.contents c.args.output.now) status c.in_default.ensures.refused e)
    c.print_fault.ensures.status
