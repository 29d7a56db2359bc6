use Rattle.daide_reader.proofs.Common.{◌≡◌, ◌≤◌, ℕ, ◌+◌, ◌-◌, ◌∷◌, List, Some, get_or, take, reverse, sym, ap, ◌∙◌}
use Rattle.daide_reader.proofs.Common.{subst, rules, arith, Sym, Words, rest_of, stack_after, steps_at}
use Rattle.daide_reader.proofs.Counts.{below_within}
use Rattle.daide_reader.proofs.CellLemmas.{on_top, put_on_top, room_after, asked_all, asked_one, asked_more}
use Rattle.daide_reader.proofs.CellLemmas.{after_taken, after_stopped, after_skipped}
use Rattle.daide_reader.proofs.CellLemmas.{steps_taken, steps_stopped, steps_skipped}
use Rattle.daide_reader.proofs.cells.follow.Goals as goal

pub loop-left-preserved : goal.loop-left-preserved
loop-left-preserved g c =
    let moves = g.T.Predict.moves (g.T.Predict.words c.args.table.now) in
    let inv = c.loop-left.invariant in
    let cells = c.loop-left.cells in
    let s = get_or cells (c.loop-left.left - 1) c.index-cells-left.result in
    let below = reverse (take (c.loop-left.left - 1) cells) in
    let a = c.predict-answer.result in
    let is : moves s c.args.class ≡ a =
    ap (λ (w : Words). g.T.Predict.moves w s c.args.class) (sym inv.words) ∙ sym c.predict-answer.ensures.answer in
    let inside = subst (λ (n : ℕ). c.loop-left.left ≤ n) (sym inv.room) inv.count in
    let top : reverse (take c.loop-left.left cells) ≡ s ∷ below =
    on_top cells c.loop-left.left c.index-cells-left.result c.loop-left-test.true inside in
    let takes = sym c.is_take.ensures ∙ c.if-is_take.false in
    let stops = sym c.is_stop.ensures ∙ c.if-is_stop.false in
    let after = ap (stack_after moves c.args.class) top ∙ after_skipped moves c.args.class s below a is takes stops in
    let due = ap (steps_at moves c.args.class) top ∙ steps_skipped moves c.args.class s below a is takes stops in
    record {
      words = c.predict-answer.ensures.words_stay ∙ inv.words;
      count = below_within _ _ inv.count;
      room = inv.room;
      stack = sym after ∙ inv.stack;
      steps = asked_more _ _ _ _ _ c.predict-answer.ensures.counts_each_answer due inv.steps;
    }

pub put_slowly-requires : goal.put_slowly-requires
put_slowly-requires g c =
    let moves = g.T.Predict.moves (g.T.Predict.words c.args.table.now) in
    let inv = c.loop-left.invariant in
    let cells = c.loop-left.cells in
    let s = get_or cells (c.loop-left.left - 1) c.index-cells-left.result in
    let below = reverse (take (c.loop-left.left - 1) cells) in
    let a = c.predict-answer.result in
    let is : moves s c.args.class ≡ a =
    ap (λ (w : Words). g.T.Predict.moves w s c.args.class) (sym inv.words) ∙ sym c.predict-answer.ensures.answer in
    let inside = subst (λ (n : ℕ). c.loop-left.left ≤ n) (sym inv.room) inv.count in
    let top : reverse (take c.loop-left.left cells) ≡ s ∷ below =
    on_top cells c.loop-left.left c.index-cells-left.result c.loop-left-test.true inside in
    let after = ap (stack_after moves c.args.class) top
    ∙ after_taken moves c.args.class s below a is (sym c.is_take.ensures ∙ c.if-is_take.true) in
    let room = room_after _ (rest_of a) cells (c.loop-left.left - 1) g.row.N (below_within _ _ inside)
    (sym inv.stack ∙ after) c.requires.room in (
      search rules,
      (
        c.requires.size,
        (c.len.ensures.few, subst (λ (n : ℕ). c.loop-left.left - 1 + n ≤ g.row.N) (sym c.len.ensures.len) room),
      ),
    )

-- the symbol takes the token
pub returns-then-is_take : goal.returns-then-is_take
returns-then-is_take g c =
    let moves = g.T.Predict.moves (g.T.Predict.words c.args.table.now) in
    let inv = c.loop-left.invariant in
    let cells = c.loop-left.cells in
    let s = get_or cells (c.loop-left.left - 1) c.index-cells-left.result in
    let below = reverse (take (c.loop-left.left - 1) cells) in
    let a = c.predict-answer.result in
    let is : moves s c.args.class ≡ a =
    ap (λ (w : Words). g.T.Predict.moves w s c.args.class) (sym inv.words) ∙ sym c.predict-answer.ensures.answer in
    let inside = subst (λ (n : ℕ). c.loop-left.left ≤ n) (sym inv.room) inv.count in
    let top : reverse (take c.loop-left.left cells) ≡ s ∷ below =
    on_top cells c.loop-left.left c.index-cells-left.result c.loop-left-test.true inside in
    let after = ap (stack_after moves c.args.class) top
    ∙ after_taken moves c.args.class s below a is (sym c.is_take.ensures ∙ c.if-is_take.true) in
    let room = room_after _ (rest_of a) cells (c.loop-left.left - 1) g.row.N (below_within _ _ inside)
    (sym inv.stack ∙ after) c.requires.room in
    let due = ap (steps_at moves c.args.class) top
    ∙ steps_taken moves c.args.class s below a is (sym c.is_take.ensures ∙ c.if-is_take.true) in
    let turned = put_on_top c.put_slowly.new.cells cells (rest_of a) c.cells.result (c.loop-left.left - 1) c.len.result
    c.len-then-is_take.result c.put_slowly.ensures c.len.ensures.len c.len-then-is_take.ensures.len c.cells.ensures in
    record {
      taken = sym inv.stack ∙ (after ∙ ap (λ (x : List Sym). Some x) (sym turned));
      inside = subst (λ (n : ℕ). c.loop-left.left - 1 + n ≤ g.row.N) (sym c.len-then-is_take.ensures.len) room;
      reject_at = tt;
      words = c.predict-answer.ensures.words_stay ∙ inv.words;
      steps = asked_one _ _ _ _ c.predict-answer.ensures.counts_each_answer due inv.steps;
    }

-- the symbol stops it
pub returns-then-is_stop : goal.returns-then-is_stop
returns-then-is_stop g c =
    let moves = g.T.Predict.moves (g.T.Predict.words c.args.table.now) in
    let inv = c.loop-left.invariant in
    let cells = c.loop-left.cells in
    let s = get_or cells (c.loop-left.left - 1) c.index-cells-left.result in
    let below = reverse (take (c.loop-left.left - 1) cells) in
    let a = c.predict-answer.result in
    let is : moves s c.args.class ≡ a =
    ap (λ (w : Words). g.T.Predict.moves w s c.args.class) (sym inv.words) ∙ sym c.predict-answer.ensures.answer in
    let inside = subst (λ (n : ℕ). c.loop-left.left ≤ n) (sym inv.room) inv.count in
    let top : reverse (take c.loop-left.left cells) ≡ s ∷ below =
    on_top cells c.loop-left.left c.index-cells-left.result c.loop-left-test.true inside in
    let stops = sym c.is_stop.ensures ∙ c.if-is_stop.true in
    let due = ap (steps_at moves c.args.class) top ∙ steps_stopped moves c.args.class s below a is stops in
    record {
      taken = tt;
      inside = tt;
      reject_at = sym inv.stack
          ∙ (ap (stack_after moves c.args.class) top ∙ after_stopped moves c.args.class s below a is stops);
      words = c.predict-answer.ensures.words_stay ∙ inv.words;
      steps = asked_one _ _ _ _ c.predict-answer.ensures.counts_each_answer due inv.steps;
    }

-- no symbol is left
pub returns : goal.returns
returns g c =
    let moves = g.T.Predict.moves (g.T.Predict.words c.args.table.now) in
    let inv = c.loop-left.invariant in
    let none : c.loop-left.left ≡ 0 = omega arith in
    record {
      taken = tt;
      inside = tt;
      reject_at = sym inv.stack
          ∙ ap (λ (k : ℕ). stack_after moves c.args.class (reverse (take k c.loop-left.cells))) none;
      words = inv.words;
      steps = asked_all _ _ _ (ap (λ (k : ℕ). steps_at moves c.args.class (reverse (take k c.loop-left.cells))) none)
          inv.steps;
    }
