use Rattle.daide_channels.proofs.Common.{[], refl, ap, ◌∙◌, drop, subst, arith, L0, Side2, start_symbol_of}
use Rattle.daide_channels.proofs.Common.{HasReadPrefix, ghosts, extended_look_ups, spoken_words, spoken, words_in}
use Rattle.daide_channels.proofs.ReceiverLemmas.{fresh_on, rules_set}
use Rattle.daide_channels.proofs.receiver.Receiver.new.Goals as goal

pub invariant_of-result : goal.invariant_of-result
invariant_of-result g c =
    let v = c.new-reader.result in
    let e = c.start.ensures in
    let cap = c.in_ok-cutter.ensures.cap in
    fresh_on ghosts extended_look_ups c.args.side L0 c.in_ok-cutter.cutter v c.start.new.self _ _ _ refl (omega arith)
    (ap (drop 4) c.in_ok-cutter.ensures.empty) tt e.table e.base e.unfinished
    (subst (λ (s : Side2). HasReadPrefix ghosts (spoken_words v.table) (start_symbol_of s L0) v.max_depth c.start.new.self [])
    c.side2_of.ensures e.stands_after) c.new-3.ensures.found

pub returns-clause-limits : goal.returns-clause-limits
returns-clause-limits g c = (c.in_ok-cutter.ensures.cap, refl)

pub returns-clause-rules : goal.returns-clause-rules
returns-clause-rules g c =
    let e = c.start.ensures in
    let made = c.new-reader.ensures in
    let table = e.table ∙ made.table in
    rules_set words_in c.start.new.self _ _ (e.stands_after.depth_kept ∙ made.stands_after.depth_kept)
    (ap words_in table ∙ ap spoken c.new-2.ensures.words ∙ c.new-2.ensures.all_spoken)

pub returns-clause-empty : goal.returns-clause-empty
returns-clause-empty g c = (c.in_ok-cutter.ensures.empty, refl)

pub returns-clause-unasked : goal.returns-clause-unasked
returns-clause-unasked g c = ap extended_look_ups (c.start.ensures.table ∙ c.new-reader.ensures.table) ∙ c.new-2.ensures.asked

pub returns-clause-unlooked : goal.returns-clause-unlooked
returns-clause-unlooked g c = c.new-3.ensures.looked_at
