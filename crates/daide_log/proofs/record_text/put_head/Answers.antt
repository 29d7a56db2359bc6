use Rattle.daide_log.proofs.Common.{◌≡◌, [], ◌∷◌, ◌++◌, codes, length, sym, ap, ◌∙◌, arith, None, words_of, word_at}
use Rattle.daide_log.specs.RecordText.{config_text}
use Rattle.daide_words.proofs.WordLists.{names-length}
use Rattle.daide_log.proofs.RecordHead.{head_more, no_word}
use Rattle.daide_log.proofs.record_text.put_head.Goals as goal
use Rattle.daide_log.proofs.record_text.put_head.Goals.{in-Some, in_default}

pub loop-place-preserved : goal.loop-place-preserved
loop-place-preserved c =
    let words = words_of c.args.words.now in
    let head = codes "daide-log 2\n" ++ (config_text c.args.config.now (length c.names-count.result.now) ++ 10 ∷ []) in
    elim c.match-get.branch [
      | in-Some w ↦
          let same : c.match-get.line.items ≡ w.put_word.new.line.items = cc in (
            head_more words c.loop-place.place w.in-Some.word head c.loop-place.line.items c.match-get.line.items
                (sym c.get.ensures ∙ w.in-Some.is) c.loop-place.invariant.0 (same ∙ w.put_word.ensures.text),
            omega (arith, ap length same, w.put_word.ensures.few, c.loop-place.invariant.1),
          )
      | in_default w ↦
          let none : word_at c.loop-place.place words ≡ None = sym c.get.ensures ∙ w.in_default.is in
          let few = no_word words c.loop-place.place none in
          let size = ap length c.names-count.ensures.names ∙ names-length words in
          absurd (omega arith)
    ]
