use Rattle.daide_reader.proofs.Common.{◌≡◌, ◌≤◌, ◌<◌, ◌+◌, ◌∷◌, ℕ, IfSome, IfNone, List, Some, None, Option, length}
use Rattle.daide_reader.proofs.Common.{get_or, take, reverse, sym, ap, ◌∙◌, subst, rules, arith, Class, Sym, Words}
use Rattle.daide_reader.proofs.Common.{rest_of, stack_after, steps_at}
use Rattle.daide_reader.proofs.Counts.{less_within, word_asked, word_stopped}
use Rattle.daide_reader.proofs.CellLemmas.{on_place, put_on_top, room_after, after_taken, after_stopped, after_skipped}
use Rattle.daide_reader.proofs.CellLemmas.{steps_taken, steps_stopped, steps_skipped}
use Rattle.daide_reader.proofs.cells.follow_word.Goals as goal

pub put_slowly-requires : goal.put_slowly-requires
put_slowly-requires g c =
    let moves = g.T.Predict.moves (g.T.Predict.words c.args.table.now) in
    let class = g.T.Predict.class_of (g.T.Predict.words c.args.table.now) c.args.token in
    let cells = c.args.cells.now in
    let s = get_or cells c.args.top c.index-cells-top.result in
    let below = reverse (take c.args.top cells) in
    let a = c.predict_word-answer.result in
    let is : moves s class ≡ a = sym c.predict_word-answer.ensures.answer in
    let inside : c.args.top < length cells = omega arith in
    let top : reverse (take (c.args.top + 1) cells) ≡ s ∷ below =
    on_place cells c.args.top c.index-cells-top.result inside in
    let after = ap (stack_after moves class) top
    ∙ after_taken moves class s below a is (sym c.is_take.ensures ∙ c.if-is_take.true) in
    let room = room_after _ (rest_of a) cells c.args.top g.row.N (less_within _ _ inside) after c.requires.room in (
      search rules,
      (
        c.requires.size,
        (c.len.ensures.few, subst (λ (n : ℕ). c.args.top + n ≤ g.row.N) (sym c.len.ensures.len) room),
      ),
    )

-- the word's symbol takes the token
pub returns-then-is_take : goal.returns-then-is_take
returns-then-is_take g c =
    let moves = g.T.Predict.moves (g.T.Predict.words c.args.table.now) in
    let class = g.T.Predict.class_of (g.T.Predict.words c.args.table.now) c.args.token in
    let cells = c.args.cells.now in
    let s = get_or cells c.args.top c.index-cells-top.result in
    let below = reverse (take c.args.top cells) in
    let a = c.predict_word-answer.result in
    let is : moves s class ≡ a = sym c.predict_word-answer.ensures.answer in
    let inside : c.args.top < length cells = omega arith in
    let top : reverse (take (c.args.top + 1) cells) ≡ s ∷ below =
    on_place cells c.args.top c.index-cells-top.result inside in
    let after = ap (stack_after moves class) top
    ∙ after_taken moves class s below a is (sym c.is_take.ensures ∙ c.if-is_take.true) in
    let room = room_after _ (rest_of a) cells c.args.top g.row.N (less_within _ _ inside) after c.requires.room in
    let due = ap (steps_at moves class) top
    ∙ steps_taken moves class s below a is (sym c.is_take.ensures ∙ c.if-is_take.true) in
    let turned = put_on_top c.put_slowly.new.cells cells (rest_of a) c.cells.result c.args.top c.len.result
    c.len-then-is_take.result c.put_slowly.ensures c.len.ensures.len c.len-then-is_take.ensures.len c.cells.ensures in
    record {
      taken = after ∙ ap (λ (x : List Sym). Some x) (sym turned);
      inside = subst (λ (n : ℕ). c.args.top + n ≤ g.row.N) (sym c.len-then-is_take.ensures.len) room;
      reject_at = tt;
      words = c.predict_word-answer.ensures.words_stay;
      steps = word_stopped _ _ _ c.predict_word-answer.ensures.counts_each_answer due;
    }

-- the symbol stops it
pub returns-then-is_stop : goal.returns-then-is_stop
returns-then-is_stop g c =
    let moves = g.T.Predict.moves (g.T.Predict.words c.args.table.now) in
    let class = g.T.Predict.class_of (g.T.Predict.words c.args.table.now) c.args.token in
    let cells = c.args.cells.now in
    let s = get_or cells c.args.top c.index-cells-top.result in
    let below = reverse (take c.args.top cells) in
    let a = c.predict_word-answer.result in
    let is : moves s class ≡ a = sym c.predict_word-answer.ensures.answer in
    let inside : c.args.top < length cells = omega arith in
    let top : reverse (take (c.args.top + 1) cells) ≡ s ∷ below =
    on_place cells c.args.top c.index-cells-top.result inside in
    let stops = sym c.is_stop.ensures ∙ c.if-is_stop.true in
    let due = ap (steps_at moves class) top ∙ steps_stopped moves class s below a is stops in
    record {
      taken = tt;
      inside = tt;
      reject_at = ap (stack_after moves class) top ∙ after_stopped moves class s below a is stops;
      words = c.predict_word-answer.ensures.words_stay;
      steps = word_stopped _ _ _ c.predict_word-answer.ensures.counts_each_answer due;
    }

-- the word's symbol is skipped, and those below it come next
pub follow-requires : goal.follow-requires
follow-requires g c =
    let moves = g.T.Predict.moves (g.T.Predict.words c.args.table.now) in
    let class = g.T.Predict.class_of (g.T.Predict.words c.args.table.now) c.args.token in
    let cells = c.args.cells.now in
    let s = get_or cells c.args.top c.index-cells-top.result in
    let below = reverse (take c.args.top cells) in
    let a = c.predict_word-answer.result in
    let is : moves s class ≡ a = sym c.predict_word-answer.ensures.answer in
    let inside : c.args.top < length cells = omega arith in
    let top : reverse (take (c.args.top + 1) cells) ≡ s ∷ below =
    on_place cells c.args.top c.index-cells-top.result inside in
    let takes = sym c.is_take.ensures ∙ c.if-is_take.false in
    let stops = sym c.is_stop.ensures ∙ c.if-is_stop.false in
    let same = c.predict_word-answer.ensures.words_stay in
    let then = g.T.Predict.moves (g.T.Predict.words c.predict_word-answer.new.self) in
    let after = ap (stack_after moves class) top ∙ after_skipped moves class s below a is takes stops
    ∙ ap (λ (w : Words). stack_after (g.T.Predict.moves w) (g.T.Predict.class_of w c.args.token) below) (sym same)
    ∙ ap (λ (k : Class). stack_after then k below) (sym c.class_of-class.ensures) in (
      search rules,
      (
        c.requires.size,
        (
          omega arith,
          subst (λ (o : Option (List Sym)). IfSome o (λ (after : List Sym). length after ≤ g.row.N)) after
              c.requires.room,
        ),
      ),
    )

pub returns : goal.returns
returns g c =
    let moves = g.T.Predict.moves (g.T.Predict.words c.args.table.now) in
    let class = g.T.Predict.class_of (g.T.Predict.words c.args.table.now) c.args.token in
    let cells = c.args.cells.now in
    let s = get_or cells c.args.top c.index-cells-top.result in
    let below = reverse (take c.args.top cells) in
    let a = c.predict_word-answer.result in
    let is : moves s class ≡ a = sym c.predict_word-answer.ensures.answer in
    let inside : c.args.top < length cells = omega arith in
    let top : reverse (take (c.args.top + 1) cells) ≡ s ∷ below =
    on_place cells c.args.top c.index-cells-top.result inside in
    let takes = sym c.is_take.ensures ∙ c.if-is_take.false in
    let stops = sym c.is_stop.ensures ∙ c.if-is_stop.false in
    let same = c.predict_word-answer.ensures.words_stay in
    let then = g.T.Predict.moves (g.T.Predict.words c.predict_word-answer.new.self) in
    let after = ap (stack_after moves class) top ∙ after_skipped moves class s below a is takes stops
    ∙ ap (λ (w : Words). stack_after (g.T.Predict.moves w) (g.T.Predict.class_of w c.args.token) below) (sym same)
    ∙ ap (λ (k : Class). stack_after then k below) (sym c.class_of-class.ensures) in
    let due : steps_at moves class (reverse (take (c.args.top + 1) cells)) ≡ 1 + steps_at moves class below =
    ap (steps_at moves class) top ∙ steps_skipped moves class s below a is takes stops in
    let here : steps_at then c.class_of-class.result below ≡ steps_at moves class below =
    ap (λ (k : Class). steps_at then k below) c.class_of-class.ensures
    ∙ ap (λ (w : Words). steps_at (g.T.Predict.moves w) (g.T.Predict.class_of w c.args.token) below) same in
    let steps = c.follow.ensures.steps in
    record {
      taken = subst (λ (o : Option (List Sym)). IfSome c.follow.result (λ (left : ℕ). o ≡ Some (reverse (take left
          c.follow.new.cells)))) (sym after)
          c.follow.ensures.taken;
      inside = c.follow.ensures.inside;
      reject_at = subst (λ (o : Option (List Sym)). IfNone c.follow.result (o ≡ None)) (sym after)
          c.follow.ensures.reject_at;
      words = c.follow.ensures.words ∙ same;
      steps = word_asked _ _ _ _ _ _ c.predict_word-answer.ensures.counts_each_answer steps due here;
    }
