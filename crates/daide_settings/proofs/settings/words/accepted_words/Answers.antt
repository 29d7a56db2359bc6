use Rattle.std.proofs.Common.{not, OnOk, is_ok}
use Rattle.std.proofs.lemmas.List.{drop_all}
use Rattle.daide_settings.proofs.Common.{◌≡◌, ◌+◌, true, List, drop, Ok, Err, Result, sym, ap, ◌∙◌, arith, Items, item}
use Rattle.daide_settings.proofs.Common.{items_view, view, Word, words_of}
use Rattle.toml.proofs.Views.{items_view-drop}
use Rattle.daide_words.specs.declared.word.WordError.{WordError}
use Rattle.daide_settings.proofs.WordEntries.{further, further_last, further_next, further_refused}
use Rattle.daide_settings.proofs.settings.words.accepted_words.Goals as goal

-- the postcondition of success holds for an accepted word
of_ok : (r : Result (Unit {0}) WordError) (P : Type 0) → is_ok r ≡ true → OnOk r P → P
of_ok (Ok done) P e h = h
of_ok (Err fault) P e h = absurd cc

pub returns-then-is_err : goal.returns-then-is_err
returns-then-is_err c =
    let i = c.loop-entry.entry-index in
    let before = words_of c.loop-entry.words in
    let entry = view c.entry-item.result in
    let others = items_view (drop (i + 1) c.args.entries.now) in
    let here : items_view (drop i c.args.entries.now) ≡ item entry others =
    items_view-drop c.args.entries.now i c.entry-item.result (omega (arith, c.loop-entry-test.true))
    ∙ ap (λ v. item (view v) others) (sym c.entry-item.is) in
    c.loop-entry.invariant ∙ ap (λ (items : Items). further before items) here
    ∙ further_refused before c.in-Some.word entry others (sym c.word_of.ensures ∙ c.in-Some.is)
    (ap is_ok (sym c.add.ensures.fault) ∙ c.is_err.ensures.negation ∙ ap not c.if-is_err.true)

pub loop-entry-preserved : goal.loop-entry-preserved
loop-entry-preserved c =
    let i = c.loop-entry.entry-index in
    let before = words_of c.loop-entry.words in
    let entry = view c.entry-item.result in
    let others = items_view (drop (i + 1) c.args.entries.now) in
    let here : items_view (drop i c.args.entries.now) ≡ item entry others =
    items_view-drop c.args.entries.now i c.entry-item.result (omega (arith, c.loop-entry-test.true))
    ∙ ap (λ v. item (view v) others) (sym c.entry-item.is) in
    let added = of_ok c.add.result _ (c.is_err.ensures.negation ∙ ap not c.if-is_err.false) c.add.ensures.added in
    c.loop-entry.invariant ∙ ap (λ (items : Items). further before items) here
    ∙ further_next before c.in-Some.word entry others (sym c.word_of.ensures ∙ c.in-Some.is)
    ∙ ap (λ (words : List Word). further words others) (sym added)

pub returns : goal.returns
unfolding words_of
returns c =
    let before = words_of c.loop-entry.words in
    c.loop-entry.invariant
    ∙ ap (λ l. further before (items_view l))
    (drop_all c.loop-entry.entry-index c.args.entries.now (omega (arith, c.loop-entry-test.false)))
    ∙ further_last before c.loop-entry.words.accepted
