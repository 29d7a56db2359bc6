use Rattle.daide_reader.proofs.Common.{◌≡◌, ℕ, ◌+◌, ◌-◌, ◌%◌, ◌^◌, ◌∷◌, List, take, reverse, refl, sym, ap, ◌∙◌, arith}
use Rattle.daide_reader.proofs.Common.{list_all, take-length, Sym, Words, ends_asked}
use Rattle.daide_reader.proofs.CellLemmas.{on_top, asked_all, asked_one, asked_more}
use Rattle.daide_reader.proofs.CellLemmas.{all_more, all_stopped, ends_more, ends_stopped}
use Rattle.daide_reader.proofs.Sizes.{cells_fit}
use Rattle.daide_reader.proofs.stack.may_all_end.Goals as goal

pub as_slice-symbols-requires : goal.as_slice-symbols-requires
as_slice-symbols-requires g c = cells_fit g.row.N c.requires

pub loop-left-init : goal.loop-left-init
loop-left-init g c =
    let ends = g.T.Predict.ends (g.T.Predict.words c.args.table.now) in
    let all = take-length c.as_slice-symbols.result.now in
    record {
      left = omega arith;
      words = refl;
      all = ap (λ (l : List Sym). list_all ends (reverse l)) all;
      steps = ap (λ (l : List Sym). (g.T.Predict.asked c.args.table.now + ends_asked ends (reverse l)) % 2 ^ 64) all;
    }

pub loop-left-preserved : goal.loop-left-preserved
loop-left-preserved g c =
    let ends = g.T.Predict.ends (g.T.Predict.words c.args.table.now) in
    let inv = c.loop-left.invariant in
    let symbols = c.as_slice-symbols.result.now in
    let s = c.index-symbols-left.result in
    let below = reverse (take (c.loop-left.left - 1) symbols) in
    let is : ends s ≡ c.may_end.result =
    ap (λ (w : Words). g.T.Predict.ends w s) (sym inv.words) ∙ sym c.may_end.ensures.answer in
    let top : reverse (take c.loop-left.left symbols) ≡ s ∷ below =
    on_top symbols c.loop-left.left s (omega arith) (omega arith)
    ∙ ap (λ (x : Sym). x ∷ below) (sym c.index-symbols-left.is) in
    let may_end = is ∙ c.if-not-may_end.false in
    record {
      left = omega arith;
      words = c.may_end.ensures.words_stay ∙ inv.words;
      all = sym (ap (list_all ends) top ∙ all_more ends s below may_end) ∙ inv.all;
      steps = asked_more _ _ _ _ _ c.may_end.ensures.counts_each_answer
          (ap (ends_asked ends) top ∙ ends_more ends s below may_end) inv.steps;
    }

pub returns-then-not-may_end-clause-all : goal.returns-then-not-may_end-clause-all
returns-then-not-may_end-clause-all g c =
    let ends = g.T.Predict.ends (g.T.Predict.words c.args.table.now) in
    let inv = c.loop-left.invariant in
    let symbols = c.as_slice-symbols.result.now in
    let s = c.index-symbols-left.result in
    let below = reverse (take (c.loop-left.left - 1) symbols) in
    let is : ends s ≡ c.may_end.result =
    ap (λ (w : Words). g.T.Predict.ends w s) (sym inv.words) ∙ sym c.may_end.ensures.answer in
    let top : reverse (take c.loop-left.left symbols) ≡ s ∷ below =
    on_top symbols c.loop-left.left s (omega arith) (omega arith)
    ∙ ap (λ (x : Sym). x ∷ below) (sym c.index-symbols-left.is) in
    sym (ap (list_all ends) top ∙ all_stopped ends s below (is ∙ c.if-not-may_end.true))
    ∙ (inv.all ∙ ap (λ (l : List Sym). list_all ends (reverse l)) c.as_slice-symbols.ensures.value)

pub returns-then-not-may_end-clause-words : goal.returns-then-not-may_end-clause-words
returns-then-not-may_end-clause-words g c = c.may_end.ensures.words_stay ∙ c.loop-left.invariant.words

pub returns-then-not-may_end-clause-steps : goal.returns-then-not-may_end-clause-steps
returns-then-not-may_end-clause-steps g c =
    let ends = g.T.Predict.ends (g.T.Predict.words c.args.table.now) in
    let inv = c.loop-left.invariant in
    let symbols = c.as_slice-symbols.result.now in
    let s = c.index-symbols-left.result in
    let below = reverse (take (c.loop-left.left - 1) symbols) in
    let is : ends s ≡ c.may_end.result =
    ap (λ (w : Words). g.T.Predict.ends w s) (sym inv.words) ∙ sym c.may_end.ensures.answer in
    let top : reverse (take c.loop-left.left symbols) ≡ s ∷ below =
    on_top symbols c.loop-left.left s (omega arith) (omega arith)
    ∙ ap (λ (x : Sym). x ∷ below) (sym c.index-symbols-left.is) in
    asked_one _ _ _ _ c.may_end.ensures.counts_each_answer
    (ap (ends_asked ends) top ∙ ends_stopped ends s below (is ∙ c.if-not-may_end.true)) inv.steps
    ∙ ap (λ (l : List Sym). (g.T.Predict.asked c.args.table.now + ends_asked ends (reverse l)) % 2 ^ 64)
    c.as_slice-symbols.ensures.value

pub returns-clause-all : goal.returns-clause-all
returns-clause-all g c =
    let ends = g.T.Predict.ends (g.T.Predict.words c.args.table.now) in
    let none : c.loop-left.left ≡ 0 = omega arith in
    ap (λ (k : ℕ). list_all ends (reverse (take k c.as_slice-symbols.result.now))) (sym none)
    ∙ (c.loop-left.invariant.all ∙ ap (λ (l : List Sym). list_all ends (reverse l)) c.as_slice-symbols.ensures.value)

pub returns-clause-words : goal.returns-clause-words
returns-clause-words g c = c.loop-left.invariant.words

pub returns-clause-steps : goal.returns-clause-steps
returns-clause-steps g c =
    let ends = g.T.Predict.ends (g.T.Predict.words c.args.table.now) in
    let none : c.loop-left.left ≡ 0 = omega arith in
    asked_all _ _ _ (ap (λ (k : ℕ). ends_asked ends (reverse (take k c.as_slice-symbols.result.now))) none)
    c.loop-left.invariant.steps
    ∙ ap (λ (l : List Sym). (g.T.Predict.asked c.args.table.now + ends_asked ends (reverse l)) % 2 ^ 64)
    c.as_slice-symbols.ensures.value
