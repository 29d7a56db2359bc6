use Rattle.daide_reader.proofs.Common.{◌≡◌, ◌≢◌, ◌≤◌, ◌<◌, ◌+◌, ◌-◌, ◌*◌, ◌/◌, ◌%◌, [], ◌∷◌, ◌++◌, List, ℕ, Option}
use Rattle.daide_reader.proofs.Common.{Some, IfSome, take, drop, length, refl, reverse, sym, ap, ◌∙◌, subst, rules}
use Rattle.daide_reader.proofs.Common.{arith, tokens_of, Sym, is_bra, is_ket, count_one, SliceState, open_count}
use Rattle.daide_token.specs.Class.{class_of as known_class}
use Rattle.daide_reader.proofs.Counts.{before_end, count_low, end_inside, end_moves, filled, from_next, less_deep}
use Rattle.daide_reader.proofs.Counts.{is_last, less_within, never_placed, not_last, once_more, one_behind, place_fits, read_here}
use Rattle.daide_reader.proofs.Counts.{read_inside, rest_inside, room_on_top, shallow_next, some_left, stack_less, start_shallow}
use Rattle.daide_reader.proofs.Counts.{token_fits, token_inside, token_less, top_inside, top_some, top_whole}
use Rattle.daide_reader.proofs.Counts.{whole_token}
use Rattle.daide_reader.proofs.BodyLemmas.{tokens_of-length}
use Rattle.daide_reader.proofs.CellLemmas.{known_on_top, leaves_by_taking, on_top}
use Rattle.daide_reader.proofs.StretchLemmas.{at_start, begun, counted_by_step, due_same, goes_on, low_enough}
use Rattle.daide_reader.proofs.StretchLemmas.{room_for}
use Rattle.daide_reader.proofs.StretchLemmas.{rejects_next, run_whole, said_same, skipped, stops_here, stops_once}
use Rattle.daide_reader.proofs.StretchLemmas.{took, word_once}
use Rattle.daide_reader.proofs.slice.run_below_depth_limit.Given.{Over}
use Rattle.daide_reader.proofs.slice.run_below_depth_limit.Goals.{At-loop-first, Joined-left-ne0}
use Rattle.daide_reader.proofs.slice.run_below_depth_limit.Goals.{else-is_take+else-is_stop, else-left-ne0}
use Rattle.daide_reader.proofs.slice.run_below_depth_limit.Goals.{else-is_take+then-is_stop+in-Some-follow_word+else-next-last-3}
use Rattle.daide_reader.proofs.slice.run_below_depth_limit.Goals.{then-is_take+else-next-last-2, then-left-ne0+in_default+then-left-eq0}
use Rattle.daide_reader.proofs.slice.run_below_depth_limit.Goals as goal

pub loop-first-init : goal.loop-first-init
loop-first-init g c =
    let old : SliceState g.row.T.Denot =
    record { table = c.args.table.now; stack = reverse (take c.args.start.count c.args.cells.now) } in
    record {
      inside = c.requires.count;
      some = c.if-left-ne0.true;
      top = rw c.of-symbol.ensures
          (on_top c.args.cells.now c.args.start.count c.index-cells-left.result (omega (arith, c.if-left-ne0.true))
          (omega (arith, c.requires.count)));
      from = omega arith;
      more = end_moves (length c.args.body.now) c.args.start.read (c.args.max_depth - c.args.start.unclosed)
          c.min-end.result c.min-end.ensures c.requires.read (some_left _ _ c.requires.deep);
      shallow = omega arith;
      front = c.at-loaded.ensures.front;
      rest = c.at-loaded.ensures.rest;
      class = c.known-column.ensures ∙ ap known_class c.token.ensures;
      mid = begun g.T.Predict g.met.T.Predict.laws c.args.max_depth c.args.body.now c.args.start.read c.args.start.unclosed old
          c.args.start.read c.args.start.unclosed c.min-end.result old
          (at_start g.T.Predict g.met.T.Predict.laws c.args.max_depth c.args.body.now c.args.start.read c.args.start.unclosed old
          (less_within _ _ c.requires.deep) c.requires.lawful);
    }

-- the symbol on top takes the last token of the run, and leaves symbols
pub returns-then-next-last-clause-reads : goal.returns-then-next-last-clause-reads
returns-then-next-last-clause-reads g c =
    let old : SliceState g.row.T.Denot =
    record { table = c.args.table.now; stack = reverse (take c.args.start.count c.args.cells.now) } in
    let now : SliceState g.row.T.Denot =
    record { table = c.loop-first.table; stack = reverse (take c.loop-first.left c.loop-first.cells) } in
    let inv = c.loop-first.invariant in
    let i = c.loop-first.next in
    let opened = c.loop-first.opened in
    let end = c.min-end.result in
    let toks = tokens_of c.args.body.now in
    let less = less_deep opened end i c.args.max_depth inv.shallow inv.more in
    let low = count_low opened c.args.max_depth g.row.N (less_within _ _ less) c.requires.size c.requires.at_depth_limit in
    let t = c.token-in-loop-first.result in
    let same = c.token-in-loop-first.ensures in
    let front : take (i + 1) toks ≡ take i toks ++ t ∷ [] = inv.front ∙ ap (λ (k : ℕ). take i toks ++ k ∷ []) (sym same) in
    let rest : drop i toks ≡ t ∷ drop (i + 1) toks = inv.rest ∙ ap (λ (k : ℕ). k ∷ drop (i + 1) toks) (sym same) in
    let class = inv.class ∙ ap known_class (sym same) in
    let counted : count_one (is_bra t) (is_ket t) (Some opened) ≡ open_count ((opened + c.bracket_step-opened.result) % 65536) =
    counted_by_step opened t c.loop-first.column class low
    ∙ ap (λ (k : ℕ). open_count ((opened + k) % 65536)) (sym c.bracket_step-opened.ensures) in
    let cells = c.loop-first.cells in
    let s = c.loop-first.symbol in
    let below = reverse (take (c.loop-first.left - 1) cells) in
    let a = c.predict_token-answer.result in
    let top : now.stack ≡ s ∷ below = inv.top in
    let new : SliceState g.row.T.Denot =
    record { table = c.predict_token-answer.new.self; stack = reverse (take c.put.result c.put.new.cells) } in
    let next = took g.T.Predict g.met.T.Predict.laws c.args.max_depth c.args.body.now c.args.start.read c.args.start.unclosed old
    i opened end t ((opened + c.bracket_step-opened.result) % 65536) now new s below a inv.mid
    front rest top c.predict_token-answer.ensures.answer
    (leaves_by_taking a c.in-Some.first _ c.in-Some.ensures.first) c.put.ensures.stack c.predict_token-answer.ensures.words_stay
    c.predict_token-answer.ensures.counts_each_answer less counted in
    run_whole g.T.Predict g.met.T.Predict.laws c.args.max_depth c.args.body.now c.args.start.read c.args.start.unclosed old
    (i + 1) ((opened + c.bracket_step-opened.result) % 65536) end c.run_end.result.tokens c.run_end.result.unclosed
    c.run_end.result.place new _ next.0 (is_last i end inv.more c.if-next-last.true) c.run_end.ensures.tokens c.run_end.ensures.unclosed
    c.run_end.ensures.place
    (ap (λ (k : ℕ). record { table = c.predict_token-answer.new.self; stack = reverse (take k c.put.new.cells) })
    c.run_end.ensures.count)

-- it leaves nothing
pub returns-then-next-last-2-clause-reads : goal.returns-then-next-last-2-clause-reads
returns-then-next-last-2-clause-reads g c =
    let old : SliceState g.row.T.Denot =
    record { table = c.args.table.now; stack = reverse (take c.args.start.count c.args.cells.now) } in
    let now : SliceState g.row.T.Denot =
    record { table = c.loop-first.table; stack = reverse (take c.loop-first.left c.loop-first.cells) } in
    let inv = c.loop-first.invariant in
    let i = c.loop-first.next in
    let opened = c.loop-first.opened in
    let end = c.min-end.result in
    let toks = tokens_of c.args.body.now in
    let less = less_deep opened end i c.args.max_depth inv.shallow inv.more in
    let low = count_low opened c.args.max_depth g.row.N (less_within _ _ less) c.requires.size c.requires.at_depth_limit in
    let t = c.token-in-loop-first.result in
    let same = c.token-in-loop-first.ensures in
    let front : take (i + 1) toks ≡ take i toks ++ t ∷ [] = inv.front ∙ ap (λ (k : ℕ). take i toks ++ k ∷ []) (sym same) in
    let rest : drop i toks ≡ t ∷ drop (i + 1) toks = inv.rest ∙ ap (λ (k : ℕ). k ∷ drop (i + 1) toks) (sym same) in
    let class = inv.class ∙ ap known_class (sym same) in
    let counted : count_one (is_bra t) (is_ket t) (Some opened) ≡ open_count ((opened + c.bracket_step-opened-then-is_take.result) % 65536) =
    counted_by_step opened t c.loop-first.column class low
    ∙ ap (λ (k : ℕ). open_count ((opened + k) % 65536)) (sym c.bracket_step-opened-then-is_take.ensures) in
    let cells = c.loop-first.cells in
    let s = c.loop-first.symbol in
    let below = reverse (take (c.loop-first.left - 1) cells) in
    let a = c.predict_token-answer.result in
    let top : now.stack ≡ s ∷ below = inv.top in
    let new : SliceState g.row.T.Denot =
    record { table = c.predict_token-answer.new.self; stack = below } in
    let next = took g.T.Predict g.met.T.Predict.laws c.args.max_depth c.args.body.now c.args.start.read c.args.start.unclosed old
    i opened end t ((opened + c.bracket_step-opened-then-is_take.result) % 65536) now new s below a inv.mid
    front rest top c.predict_token-answer.ensures.answer
    (sym c.is_take.ensures ∙ c.if-is_take.true) (rw c.in_default.ensures.none refl) c.predict_token-answer.ensures.words_stay
    c.predict_token-answer.ensures.counts_each_answer less counted in
    run_whole g.T.Predict g.met.T.Predict.laws c.args.max_depth c.args.body.now c.args.start.read c.args.start.unclosed old
    (i + 1) ((opened + c.bracket_step-opened-then-is_take.result) % 65536) end c.run_end-then-next-last-2.result.tokens c.run_end-then-next-last-2.result.unclosed
    c.run_end-then-next-last-2.result.place new _ next.0 (is_last i end inv.more c.if-next-last-2.true) c.run_end-then-next-last-2.ensures.tokens c.run_end-then-next-last-2.ensures.unclosed
    c.run_end-then-next-last-2.ensures.place
    (ap (λ (k : ℕ). record { table = c.predict_token-answer.new.self; stack = reverse (take k c.loop-first.cells) })
    c.run_end-then-next-last-2.ensures.count)

-- the symbol on top takes a token that is not the last one, and leaves a symbol
pub loop-first-preserved-in-Some : goal.loop-first-preserved-in-Some
loop-first-preserved-in-Some g c =
    let old : SliceState g.row.T.Denot =
    record { table = c.args.table.now; stack = reverse (take c.args.start.count c.args.cells.now) } in
    let now : SliceState g.row.T.Denot =
    record { table = c.loop-first.table; stack = reverse (take c.loop-first.left c.loop-first.cells) } in
    let inv = c.loop-first.invariant in
    let i = c.loop-first.next in
    let opened = c.loop-first.opened in
    let end = c.min-end.result in
    let toks = tokens_of c.args.body.now in
    let less = less_deep opened end i c.args.max_depth inv.shallow inv.more in
    let low = count_low opened c.args.max_depth g.row.N (less_within _ _ less) c.requires.size c.requires.at_depth_limit in
    let t = c.token-in-loop-first.result in
    let same = c.token-in-loop-first.ensures in
    let front : take (i + 1) toks ≡ take i toks ++ t ∷ [] = inv.front ∙ ap (λ (k : ℕ). take i toks ++ k ∷ []) (sym same) in
    let rest : drop i toks ≡ t ∷ drop (i + 1) toks = inv.rest ∙ ap (λ (k : ℕ). k ∷ drop (i + 1) toks) (sym same) in
    let class = inv.class ∙ ap known_class (sym same) in
    let counted : count_one (is_bra t) (is_ket t) (Some opened) ≡ open_count ((opened + c.bracket_step-opened.result) % 65536) =
    counted_by_step opened t c.loop-first.column class low
    ∙ ap (λ (k : ℕ). open_count ((opened + k) % 65536)) (sym c.bracket_step-opened.ensures) in
    let cells = c.loop-first.cells in
    let s = c.loop-first.symbol in
    let below = reverse (take (c.loop-first.left - 1) cells) in
    let a = c.predict_token-answer.result in
    let top : now.stack ≡ s ∷ below = inv.top in
    let new : SliceState g.row.T.Denot =
    record { table = c.predict_token-answer.new.self; stack = reverse (take c.put-left.result c.put-left.new.cells) } in
    let next = took g.T.Predict g.met.T.Predict.laws c.args.max_depth c.args.body.now c.args.start.read c.args.start.unclosed old
    i opened end t ((opened + c.bracket_step-opened.result) % 65536) now new s below a inv.mid
    front rest top c.predict_token-answer.ensures.answer
    (leaves_by_taking a c.in-Some.first _ c.in-Some.ensures.first) c.put-left.ensures.stack c.predict_token-answer.ensures.words_stay
    c.predict_token-answer.ensures.counts_each_answer less counted in
    let follows = known_on_top c.put-left.new.cells c.put-left.result c.in-Some.first _
    c.put-left.ensures.written
    (c.put-left.ensures.stack ∙ ap (λ (xs : List Sym). xs ++ below) c.in-Some.ensures.first) in
    record {
      inside = c.put-left.ensures.inside;
      some = follows.0;
      top = follows.1;
      from = from_next c.args.start.read i inv.from;
      more = not_last i end inv.more c.if-next-last.false;
      shallow = shallow_next opened end i c.args.max_depth inv.shallow inv.more _ next.1;
      front = c.at-loaded-in-Some.ensures.front;
      rest = c.at-loaded-in-Some.ensures.rest;
      class = c.known-column-in-Some.ensures ∙ ap known_class c.token-in-Some.ensures;
      mid = next.0;
    }

-- the protocol's own table stops the token, which may be a word
pub follow_word-requires : goal.follow_word-requires
follow_word-requires g c =
    let old : SliceState g.row.T.Denot =
    record { table = c.args.table.now; stack = reverse (take c.args.start.count c.args.cells.now) } in
    let now : SliceState g.row.T.Denot =
    record { table = c.loop-first.table; stack = reverse (take c.loop-first.left c.loop-first.cells) } in
    let inv = c.loop-first.invariant in
    let i = c.loop-first.next in
    let opened = c.loop-first.opened in
    let end = c.min-end.result in
    let toks = tokens_of c.args.body.now in
    let less = less_deep opened end i c.args.max_depth inv.shallow inv.more in
    let low = count_low opened c.args.max_depth g.row.N (less_within _ _ less) c.requires.size c.requires.at_depth_limit in
    let t = c.token-then-is_stop.result in
    let same = c.token-then-is_stop.ensures in
    let front : take (i + 1) toks ≡ take i toks ++ t ∷ [] = inv.front ∙ ap (λ (k : ℕ). take i toks ++ k ∷ []) (sym same) in
    let rest : drop i toks ≡ t ∷ drop (i + 1) toks = inv.rest ∙ ap (λ (k : ℕ). k ∷ drop (i + 1) toks) (sym same) in
    let class = inv.class ∙ ap known_class (sym same) in
    let whole = top_whole c.loop-first.left g.row.N inv.some inv.inside in
    let stack : reverse (take (c.loop-first.left - 1 + 1) c.loop-first.cells) ≡ now.stack =
    ap (λ (k : ℕ). reverse (take k c.loop-first.cells)) whole in
    let asked = c.predict_token-answer.new.self in
    let said = said_same g.T.Predict g.met.T.Predict.laws c.args.max_depth c.args.body.now c.args.start.read c.args.start.unclosed old
    t now asked _ c.predict_token-answer.ensures.words_stay stack in
    let below = top_inside c.loop-first.left g.row.N inv.some inv.inside in
    let room = room_for g.T.Predict g.met.T.Predict.laws c.args.max_depth c.args.body.now c.args.start.read c.args.start.unclosed old
    i opened end g.row.N t now inv.mid less c.requires.at_depth_limit rest in (
      search rules,
      (
        c.requires.size,
        (
          below,
          (
            class,
            subst (λ (o : Option (List Sym)). IfSome o (λ after. length after ≤ g.row.N)) said room,
          ),
        ),
      ),
    )

pub returns-in_default-follow_word-clause-reads : goal.returns-in_default-follow_word-clause-reads
returns-in_default-follow_word-clause-reads g c =
    let old : SliceState g.row.T.Denot =
    record { table = c.args.table.now; stack = reverse (take c.args.start.count c.args.cells.now) } in
    let now : SliceState g.row.T.Denot =
    record { table = c.loop-first.table; stack = reverse (take c.loop-first.left c.loop-first.cells) } in
    let inv = c.loop-first.invariant in
    let i = c.loop-first.next in
    let opened = c.loop-first.opened in
    let end = c.min-end.result in
    let toks = tokens_of c.args.body.now in
    let less = less_deep opened end i c.args.max_depth inv.shallow inv.more in
    let low = count_low opened c.args.max_depth g.row.N (less_within _ _ less) c.requires.size c.requires.at_depth_limit in
    let t = c.token-then-is_stop.result in
    let same = c.token-then-is_stop.ensures in
    let front : take (i + 1) toks ≡ take i toks ++ t ∷ [] = inv.front ∙ ap (λ (k : ℕ). take i toks ++ k ∷ []) (sym same) in
    let rest : drop i toks ≡ t ∷ drop (i + 1) toks = inv.rest ∙ ap (λ (k : ℕ). k ∷ drop (i + 1) toks) (sym same) in
    let class = inv.class ∙ ap known_class (sym same) in
    let counted : count_one (is_bra t) (is_ket t) (Some opened) ≡ open_count ((opened + c.bracket_step-opened-then-is_stop.result) % 65536) =
    counted_by_step opened t c.loop-first.column class low
    ∙ ap (λ (k : ℕ). open_count ((opened + k) % 65536)) (sym c.bracket_step-opened-then-is_stop.ensures) in
    let whole = top_whole c.loop-first.left g.row.N inv.some inv.inside in
    let stack : reverse (take (c.loop-first.left - 1 + 1) c.loop-first.cells) ≡ now.stack =
    ap (λ (k : ℕ). reverse (take k c.loop-first.cells)) whole in
    let asked = c.predict_token-answer.new.self in
    let said = said_same g.T.Predict g.met.T.Predict.laws c.args.max_depth c.args.body.now c.args.start.read c.args.start.unclosed old
    t now asked _ c.predict_token-answer.ensures.words_stay stack in
    let due = due_same g.T.Predict g.met.T.Predict.laws c.args.max_depth c.args.body.now c.args.start.read c.args.start.unclosed old
    t now asked _ c.predict_token-answer.ensures.words_stay stack in
    let steps = c.follow_word.ensures.steps in
    let once = c.predict_token-answer.ensures.counts_each_answer in
    let new : SliceState g.row.T.Denot = record {
      table = c.follow_word.new.table;
      stack = reverse (take c.reject_at.result.count c.follow_word.new.cells);
    } in
    stops_here g.T.Predict g.met.T.Predict.laws c.args.max_depth c.args.body.now c.args.start.read c.args.start.unclosed old
    i opened end t c.reject_at.result.tokens c.reject_at.result.unclosed
    c.reject_at.result.place now new inv.mid
    (token_inside (length c.args.body.now) i
    (before_end _ c.args.start.read (c.args.max_depth - c.args.start.unclosed) end c.min-end.ensures i inv.more) _
    (tokens_of-length c.args.body.now))
    front rest
    (said ∙ c.in_default-follow_word.ensures.reject_at)
    (c.follow_word.ensures.words ∙ c.predict_token-answer.ensures.words_stay) (1, stops_once g.T.Predict g.met.T.Predict.laws c.args.max_depth c.args.body.now c.args.start.read c.args.start.unclosed old t now _ _ inv.top (said ∙ c.in_default-follow_word.ensures.reject_at), once_more _ _ _ _ _ due once steps) less
    (c.reject_at.ensures.unclosed ∙ sym counted)
    (ap (λ (k : ℕ). reverse (take k c.follow_word.new.cells)) c.reject_at.ensures.count)
    c.reject_at.ensures.tokens c.reject_at.ensures.place

-- the last token of the run is a word
pub returns-then-next-last-3-clause-reads : goal.returns-then-next-last-3-clause-reads
returns-then-next-last-3-clause-reads g c =
    let old : SliceState g.row.T.Denot =
    record { table = c.args.table.now; stack = reverse (take c.args.start.count c.args.cells.now) } in
    let now : SliceState g.row.T.Denot =
    record { table = c.loop-first.table; stack = reverse (take c.loop-first.left c.loop-first.cells) } in
    let inv = c.loop-first.invariant in
    let i = c.loop-first.next in
    let opened = c.loop-first.opened in
    let end = c.min-end.result in
    let toks = tokens_of c.args.body.now in
    let less = less_deep opened end i c.args.max_depth inv.shallow inv.more in
    let low = count_low opened c.args.max_depth g.row.N (less_within _ _ less) c.requires.size c.requires.at_depth_limit in
    let t = c.token-then-is_stop.result in
    let same = c.token-then-is_stop.ensures in
    let front : take (i + 1) toks ≡ take i toks ++ t ∷ [] = inv.front ∙ ap (λ (k : ℕ). take i toks ++ k ∷ []) (sym same) in
    let rest : drop i toks ≡ t ∷ drop (i + 1) toks = inv.rest ∙ ap (λ (k : ℕ). k ∷ drop (i + 1) toks) (sym same) in
    let class = inv.class ∙ ap known_class (sym same) in
    let counted : count_one (is_bra t) (is_ket t) (Some opened) ≡ open_count ((opened + c.bracket_step-opened-then-is_stop.result) % 65536) =
    counted_by_step opened t c.loop-first.column class low
    ∙ ap (λ (k : ℕ). open_count ((opened + k) % 65536)) (sym c.bracket_step-opened-then-is_stop.ensures) in
    let whole = top_whole c.loop-first.left g.row.N inv.some inv.inside in
    let stack : reverse (take (c.loop-first.left - 1 + 1) c.loop-first.cells) ≡ now.stack =
    ap (λ (k : ℕ). reverse (take k c.loop-first.cells)) whole in
    let asked = c.predict_token-answer.new.self in
    let said = said_same g.T.Predict g.met.T.Predict.laws c.args.max_depth c.args.body.now c.args.start.read c.args.start.unclosed old
    t now asked _ c.predict_token-answer.ensures.words_stay stack in
    let due = due_same g.T.Predict g.met.T.Predict.laws c.args.max_depth c.args.body.now c.args.start.read c.args.start.unclosed old
    t now asked _ c.predict_token-answer.ensures.words_stay stack in
    let steps = c.follow_word.ensures.steps in
    let once = c.predict_token-answer.ensures.counts_each_answer in
    let new : SliceState g.row.T.Denot =
    record { table = c.follow_word.new.table; stack = reverse (take c.in-Some-follow_word.now c.follow_word.new.cells) } in
    let next = goes_on g.T.Predict g.met.T.Predict.laws c.args.max_depth c.args.body.now c.args.start.read c.args.start.unclosed old
    i opened end t ((opened + c.bracket_step-opened-then-is_stop.result) % 65536) now new inv.mid
    front rest (said ∙ c.in-Some-follow_word.ensures.taken)
    (c.follow_word.ensures.words ∙ c.predict_token-answer.ensures.words_stay) (1, word_once g.T.Predict g.met.T.Predict.laws c.args.max_depth c.args.body.now c.args.start.read c.args.start.unclosed old t _ now _ _ _ _ inv.top (sym c.is_stop.ensures ∙ c.if-is_stop.true) (c.token-in-loop-first.ensures ∙ sym same) c.predict_token-answer.ensures.stops (said ∙ c.in-Some-follow_word.ensures.taken), once_more _ _ _ _ _ due once steps) less
    counted in
    run_whole g.T.Predict g.met.T.Predict.laws c.args.max_depth c.args.body.now c.args.start.read c.args.start.unclosed old
    (i + 1) ((opened + c.bracket_step-opened-then-is_stop.result) % 65536) end c.run_end-then-next-last-3.result.tokens
    c.run_end-then-next-last-3.result.unclosed c.run_end-then-next-last-3.result.place new _ next.0 (is_last i end inv.more c.if-next-last-3.true)
    c.run_end-then-next-last-3.ensures.tokens c.run_end-then-next-last-3.ensures.unclosed
    c.run_end-then-next-last-3.ensures.place
    (ap (λ (k : ℕ). record { table = c.follow_word.new.table; stack = reverse (take k c.follow_word.new.cells) })
    c.run_end-then-next-last-3.ensures.count)

-- the symbol on top takes the token and leaves nothing, a word is taken, or the symbol on top is skipped
pub loop-first-preserved : goal.loop-first-preserved
loop-first-preserved g c =
    let old : SliceState g.row.T.Denot =
    record { table = c.args.table.now; stack = reverse (take c.args.start.count c.args.cells.now) } in
    let now : SliceState g.row.T.Denot =
    record { table = c.loop-first.table; stack = reverse (take c.loop-first.left c.loop-first.cells) } in
    let inv = c.loop-first.invariant in
    let i = c.loop-first.next in
    let opened = c.loop-first.opened in
    let end = c.min-end.result in
    let toks = tokens_of c.args.body.now in
    let less = less_deep opened end i c.args.max_depth inv.shallow inv.more in
    let low = count_low opened c.args.max_depth g.row.N (less_within _ _ less) c.requires.size c.requires.at_depth_limit in
    let long : length c.if-is_take.cells ≡ g.row.N = search rules in
    let top_left = λ (inside : c.if-is_take.left ≤ g.row.N).
    subst (λ (s : Sym). reverse (take c.if-is_take.left c.if-is_take.cells) ≡ s ∷ reverse (take (c.if-is_take.left - 1) c.if-is_take.cells))
    (sym c.of-symbol-in-loop-first.ensures)
    (on_top c.if-is_take.cells c.if-is_take.left c.index-cells-left-in-loop-first.result
    (omega (arith, c.if-left-eq0.false)) (rw long inside)) in
    elim c.if-is_take.branch [
      | then-is_take+else-next-last-2 w ↦
          let t = c.token-in-loop-first.result in
          let same = c.token-in-loop-first.ensures in
          let front : take (i + 1) toks ≡ take i toks ++ t ∷ [] = inv.front ∙ ap (λ (k : ℕ). take i toks ++ k ∷ []) (sym same) in
          let rest : drop i toks ≡ t ∷ drop (i + 1) toks = inv.rest ∙ ap (λ (k : ℕ). k ∷ drop (i + 1) toks) (sym same) in
          let class = inv.class ∙ ap known_class (sym same) in
          let counted : count_one (is_bra t) (is_ket t) (Some opened) ≡ open_count ((opened + w.bracket_step-opened-then-is_take.result) % 65536) =
          counted_by_step opened t c.loop-first.column class low
          ∙ ap (λ (k : ℕ). open_count ((opened + k) % 65536)) (sym w.bracket_step-opened-then-is_take.ensures) in
          let cells = c.loop-first.cells in
          let s = c.loop-first.symbol in
          let below = reverse (take (c.loop-first.left - 1) cells) in
          let a = c.predict_token-answer.result in
          let top : now.stack ≡ s ∷ below = inv.top in
          let new : SliceState g.row.T.Denot =
          record { table = c.predict_token-answer.new.self; stack = below } in
          let next = took g.T.Predict g.met.T.Predict.laws c.args.max_depth c.args.body.now c.args.start.read c.args.start.unclosed old
          i opened end t ((opened + w.bracket_step-opened-then-is_take.result) % 65536) now new s below a inv.mid
          front rest top c.predict_token-answer.ensures.answer
          (sym c.is_take.ensures ∙ w.if-is_take.true) (rw c.in_default.ensures.none refl) c.predict_token-answer.ensures.words_stay
          c.predict_token-answer.ensures.counts_each_answer less counted in
          record {
            inside = rw w.left-is (rest_inside c.loop-first.left g.row.N inv.some inv.inside);
            some = c.if-left-eq0.false;
            top = top_left (rw w.left-is (rest_inside c.loop-first.left g.row.N inv.some inv.inside));
            from = rw w.next-is (from_next c.args.start.read i inv.from);
            more = rw w.next-is (not_last i end inv.more w.if-next-last-2.false);
            shallow = rw (w.opened-is, w.next-is) (shallow_next opened end i c.args.max_depth inv.shallow inv.more _ next.1);
            front = rw (w.next-is, w.loaded-is) w.at-loaded-then-is_take.ensures.front;
            rest = rw (w.next-is, w.loaded-is) w.at-loaded-then-is_take.ensures.rest;
            class = rw (w.column-is, w.loaded-is)
                (w.known-column-then-is_take.ensures ∙ ap known_class w.token-then-is_take.ensures);
            mid = rw (w.next-is, w.opened-is, w.table-is, w.left-is, w.cells-is) next.0;
          }
      | else-is_take+then-is_stop+in-Some-follow_word+else-next-last-3 w ↦
          let t = w.token-then-is_stop.result in
          let same = w.token-then-is_stop.ensures in
          let front : take (i + 1) toks ≡ take i toks ++ t ∷ [] = inv.front ∙ ap (λ (k : ℕ). take i toks ++ k ∷ []) (sym same) in
          let rest : drop i toks ≡ t ∷ drop (i + 1) toks = inv.rest ∙ ap (λ (k : ℕ). k ∷ drop (i + 1) toks) (sym same) in
          let class = inv.class ∙ ap known_class (sym same) in
          let counted : count_one (is_bra t) (is_ket t) (Some opened) ≡ open_count ((opened + w.bracket_step-opened-then-is_stop.result) % 65536) =
          counted_by_step opened t c.loop-first.column class low
          ∙ ap (λ (k : ℕ). open_count ((opened + k) % 65536)) (sym w.bracket_step-opened-then-is_stop.ensures) in
          let whole = top_whole c.loop-first.left g.row.N inv.some inv.inside in
          let stack : reverse (take (c.loop-first.left - 1 + 1) c.loop-first.cells) ≡ now.stack =
          ap (λ (k : ℕ). reverse (take k c.loop-first.cells)) whole in
          let asked = c.predict_token-answer.new.self in
          let said = said_same g.T.Predict g.met.T.Predict.laws c.args.max_depth c.args.body.now c.args.start.read c.args.start.unclosed old
          t now asked _ c.predict_token-answer.ensures.words_stay stack in
          let due = due_same g.T.Predict g.met.T.Predict.laws c.args.max_depth c.args.body.now c.args.start.read c.args.start.unclosed old
          t now asked _ c.predict_token-answer.ensures.words_stay stack in
          let steps = w.follow_word.ensures.steps in
          let once = c.predict_token-answer.ensures.counts_each_answer in
          let new : SliceState g.row.T.Denot =
          record { table = w.follow_word.new.table; stack = reverse (take w.in-Some-follow_word.now w.follow_word.new.cells) } in
          let next = goes_on g.T.Predict g.met.T.Predict.laws c.args.max_depth c.args.body.now c.args.start.read c.args.start.unclosed old
          i opened end t ((opened + w.bracket_step-opened-then-is_stop.result) % 65536) now new inv.mid
          front rest (said ∙ w.in-Some-follow_word.ensures.taken)
          (w.follow_word.ensures.words ∙ c.predict_token-answer.ensures.words_stay) (1, word_once g.T.Predict g.met.T.Predict.laws c.args.max_depth c.args.body.now c.args.start.read c.args.start.unclosed old t _ now _ _ _ _ inv.top (sym w.is_stop.ensures ∙ w.if-is_stop.true) (c.token-in-loop-first.ensures ∙ sym same) c.predict_token-answer.ensures.stops (said ∙ w.in-Some-follow_word.ensures.taken), once_more _ _ _ _ _ due once steps) less
          counted in
          record {
            inside = rw w.left-is w.in-Some-follow_word.ensures.inside;
            some = c.if-left-eq0.false;
            top = top_left (rw w.left-is w.in-Some-follow_word.ensures.inside);
            from = rw w.next-is (from_next c.args.start.read i inv.from);
            more = rw w.next-is (not_last i end inv.more w.if-next-last-3.false);
            shallow = rw (w.opened-is, w.next-is) (shallow_next opened end i c.args.max_depth inv.shallow inv.more _ next.1);
            front = rw (w.next-is, w.loaded-is) w.at-loaded-then-is_stop.ensures.front;
            rest = rw (w.next-is, w.loaded-is) w.at-loaded-then-is_stop.ensures.rest;
            class = rw (w.column-is, w.loaded-is)
                (w.known-column-then-is_stop.ensures ∙ ap known_class w.token-then-is_stop-2.ensures);
            mid = rw (w.next-is, w.opened-is, w.table-is, w.left-is, w.cells-is) next.0;
          }
      | else-is_take+else-is_stop w ↦
          let t = c.token-in-loop-first.result in
          let same = c.token-in-loop-first.ensures in
          let front : take (i + 1) toks ≡ take i toks ++ t ∷ [] = inv.front ∙ ap (λ (k : ℕ). take i toks ++ k ∷ []) (sym same) in
          let rest : drop i toks ≡ t ∷ drop (i + 1) toks = inv.rest ∙ ap (λ (k : ℕ). k ∷ drop (i + 1) toks) (sym same) in
          let class = inv.class ∙ ap known_class (sym same) in
          let cells = c.loop-first.cells in
          let s = c.loop-first.symbol in
          let below = reverse (take (c.loop-first.left - 1) cells) in
          let a = c.predict_token-answer.result in
          let top : now.stack ≡ s ∷ below = inv.top in
          let takes = sym c.is_take.ensures ∙ w.if-is_take.false in
          let stops = sym w.is_stop.ensures ∙ w.if-is_stop.false in
          let new : SliceState g.row.T.Denot = record { table = c.predict_token-answer.new.self; stack = below } in
          let mid = skipped g.T.Predict g.met.T.Predict.laws c.args.max_depth c.args.body.now c.args.start.read c.args.start.unclosed old
          i opened end t now new s a inv.mid inv.more rest top
          (c.predict_token-answer.ensures.answer stops) takes stops c.predict_token-answer.ensures.words_stay
          c.predict_token-answer.ensures.counts_each_answer in
          record {
            inside = rw w.left-is (rest_inside c.loop-first.left g.row.N inv.some inv.inside);
            some = c.if-left-eq0.false;
            top = top_left (rw w.left-is (rest_inside c.loop-first.left g.row.N inv.some inv.inside));
            from = rw w.next-is inv.from;
            more = rw w.next-is inv.more;
            shallow = rw (w.opened-is, w.next-is) inv.shallow;
            front = rw (w.next-is, w.loaded-is) inv.front;
            rest = rw (w.next-is, w.loaded-is) inv.rest;
            class = rw (w.column-is, w.loaded-is) inv.class;
            mid = rw (w.next-is, w.opened-is, w.table-is, w.left-is, w.cells-is) mid;
          }
    ]

-- the stack is empty, so nothing takes the token: after one was taken, after a word or a skipped symbol, or at first
pub returns-clause-reads : goal.returns-clause-reads
returns-clause-reads g c =
    let old : SliceState g.row.T.Denot =
    record { table = c.args.table.now; stack = reverse (take c.args.start.count c.args.cells.now) } in
    let end = c.min-end.result in
    let size = length c.args.body.now in
    let toks = tokens_of c.args.body.now in
    let column = c.if-left-ne0.column in
    let shut = c.reject_at-2 in
    elim c.if-left-ne0.branch [
      | then-left-ne0+in_default+then-left-eq0 w ↦
          let now : SliceState g.row.T.Denot =
          record { table = w.loop-first.table; stack = reverse (take w.loop-first.left w.loop-first.cells) } in
          let inv = w.loop-first.invariant in
          let i = w.loop-first.next in
          let opened = w.loop-first.opened in
          let less = less_deep opened end i c.args.max_depth inv.shallow inv.more in
          let low = count_low opened c.args.max_depth g.row.N (less_within _ _ less) c.requires.size c.requires.at_depth_limit in
          elim w.if-is_take.branch [
            | then-is_take+else-next-last-2 v ↦
                let t = w.token-in-loop-first.result in
                let same = w.token-in-loop-first.ensures in
                let front : take (i + 1) toks ≡ take i toks ++ t ∷ [] = inv.front ∙ ap (λ (k : ℕ). take i toks ++ k ∷ []) (sym same) in
                let rest : drop i toks ≡ t ∷ drop (i + 1) toks = inv.rest ∙ ap (λ (k : ℕ). k ∷ drop (i + 1) toks) (sym same) in
                let class = inv.class ∙ ap known_class (sym same) in
                let counted : count_one (is_bra t) (is_ket t) (Some opened) ≡ open_count ((opened + v.bracket_step-opened-then-is_take.result) % 65536) =
                counted_by_step opened t w.loop-first.column class low
                ∙ ap (λ (k : ℕ). open_count ((opened + k) % 65536)) (sym v.bracket_step-opened-then-is_take.ensures) in
                let cells = w.loop-first.cells in
                let s = w.loop-first.symbol in
                let below = reverse (take (w.loop-first.left - 1) cells) in
                let a = w.predict_token-answer.result in
                let top : now.stack ≡ s ∷ below = inv.top in
                let new : SliceState g.row.T.Denot =
                record { table = w.predict_token-answer.new.self; stack = below } in
                let next = took g.T.Predict g.met.T.Predict.laws c.args.max_depth c.args.body.now c.args.start.read c.args.start.unclosed old
                i opened end t ((opened + v.bracket_step-opened-then-is_take.result) % 65536) now new s below a inv.mid
                front rest top w.predict_token-answer.ensures.answer
                (sym w.is_take.ensures ∙ v.if-is_take.true) (rw w.in_default.ensures.none refl) w.predict_token-answer.ensures.words_stay
                w.predict_token-answer.ensures.counts_each_answer less counted in
                let here = i + 1 in
                let more : here < end = not_last i end inv.more v.if-next-last-2.false in
                let inside = token_inside size here
                (before_end _ c.args.start.read (c.args.max_depth - c.args.start.unclosed) end c.min-end.ensures here more) _
                (tokens_of-length c.args.body.now) in
                let shallow = shallow_next opened end i c.args.max_depth inv.shallow inv.more _ next.1 in
                let few = count_low _ c.args.max_depth g.row.N (less_within _ _ (less_deep _ end here c.args.max_depth shallow more))
                c.requires.size c.requires.at_depth_limit in
                rejects_next g.T.Predict g.met.T.Predict.laws c.args.max_depth c.args.body.now c.args.start.read c.args.start.unclosed old
                c.if-left-ne0.next c.if-left-ne0.opened end v.at-loaded-then-is_take.result c.if-left-ne0.left c.bracket_step.result shut.result.tokens
                shut.result.count column shut.result.unclosed shut.result.place c.if-left-ne0.table c.if-left-ne0.cells
                (rw (w.next-is ∙ v.next-is, w.opened-is ∙ v.opened-is, w.table-is ∙ v.table-is, w.left-is ∙ v.left-is, w.cells-is ∙ v.cells-is) next.0)
                (w.left-is ∙ w.if-left-eq0.true) (rw (w.next-is ∙ v.next-is) inside) (rw (w.next-is ∙ v.next-is) v.at-loaded-then-is_take.ensures.front) (rw (w.next-is ∙ v.next-is) v.at-loaded-then-is_take.ensures.rest)
                (w.column-is ∙ v.column-is ∙ v.known-column-then-is_take.ensures ∙ ap known_class v.token-then-is_take.ensures) (rw (w.opened-is ∙ v.opened-is) (less_deep _ end here c.args.max_depth shallow more)) (rw (w.opened-is ∙ v.opened-is) few) c.bracket_step.ensures
                shut.ensures.tokens shut.ensures.unclosed shut.ensures.place shut.ensures.count
            | else-is_take+then-is_stop+in-Some-follow_word+else-next-last-3 v ↦
                let t = v.token-then-is_stop.result in
                let same = v.token-then-is_stop.ensures in
                let front : take (i + 1) toks ≡ take i toks ++ t ∷ [] = inv.front ∙ ap (λ (k : ℕ). take i toks ++ k ∷ []) (sym same) in
                let rest : drop i toks ≡ t ∷ drop (i + 1) toks = inv.rest ∙ ap (λ (k : ℕ). k ∷ drop (i + 1) toks) (sym same) in
                let class = inv.class ∙ ap known_class (sym same) in
                let counted : count_one (is_bra t) (is_ket t) (Some opened) ≡ open_count ((opened + v.bracket_step-opened-then-is_stop.result) % 65536) =
                counted_by_step opened t w.loop-first.column class low
                ∙ ap (λ (k : ℕ). open_count ((opened + k) % 65536)) (sym v.bracket_step-opened-then-is_stop.ensures) in
                let whole = top_whole w.loop-first.left g.row.N inv.some inv.inside in
                let stack : reverse (take (w.loop-first.left - 1 + 1) w.loop-first.cells) ≡ now.stack =
                ap (λ (k : ℕ). reverse (take k w.loop-first.cells)) whole in
                let asked = w.predict_token-answer.new.self in
                let said = said_same g.T.Predict g.met.T.Predict.laws c.args.max_depth c.args.body.now c.args.start.read c.args.start.unclosed old
                t now asked _ w.predict_token-answer.ensures.words_stay stack in
                let due = due_same g.T.Predict g.met.T.Predict.laws c.args.max_depth c.args.body.now c.args.start.read c.args.start.unclosed old
                t now asked _ w.predict_token-answer.ensures.words_stay stack in
                let steps = v.follow_word.ensures.steps in
                let once = w.predict_token-answer.ensures.counts_each_answer in
                let new : SliceState g.row.T.Denot =
                record { table = v.follow_word.new.table; stack = reverse (take v.in-Some-follow_word.now v.follow_word.new.cells) } in
                let next = goes_on g.T.Predict g.met.T.Predict.laws c.args.max_depth c.args.body.now c.args.start.read c.args.start.unclosed old
                i opened end t ((opened + v.bracket_step-opened-then-is_stop.result) % 65536) now new inv.mid
                front rest (said ∙ v.in-Some-follow_word.ensures.taken)
                (v.follow_word.ensures.words ∙ w.predict_token-answer.ensures.words_stay) (1, word_once g.T.Predict g.met.T.Predict.laws c.args.max_depth c.args.body.now c.args.start.read c.args.start.unclosed old t _ now _ _ _ _ inv.top (sym v.is_stop.ensures ∙ v.if-is_stop.true) (w.token-in-loop-first.ensures ∙ sym same) w.predict_token-answer.ensures.stops (said ∙ v.in-Some-follow_word.ensures.taken), once_more _ _ _ _ _ due once steps) less
                counted in
                let here = i + 1 in
                let more : here < end = not_last i end inv.more v.if-next-last-3.false in
                let inside = token_inside size here
                (before_end _ c.args.start.read (c.args.max_depth - c.args.start.unclosed) end c.min-end.ensures here more) _
                (tokens_of-length c.args.body.now) in
                let shallow = shallow_next opened end i c.args.max_depth inv.shallow inv.more _ next.1 in
                let few = count_low _ c.args.max_depth g.row.N (less_within _ _ (less_deep _ end here c.args.max_depth shallow more))
                c.requires.size c.requires.at_depth_limit in
                rejects_next g.T.Predict g.met.T.Predict.laws c.args.max_depth c.args.body.now c.args.start.read c.args.start.unclosed old
                c.if-left-ne0.next c.if-left-ne0.opened end v.at-loaded-then-is_stop.result c.if-left-ne0.left c.bracket_step.result shut.result.tokens
                shut.result.count column shut.result.unclosed shut.result.place c.if-left-ne0.table c.if-left-ne0.cells
                (rw (w.next-is ∙ v.next-is, w.opened-is ∙ v.opened-is, w.table-is ∙ v.table-is, w.left-is ∙ v.left-is, w.cells-is ∙ v.cells-is) next.0)
                (w.left-is ∙ w.if-left-eq0.true) (rw (w.next-is ∙ v.next-is) inside) (rw (w.next-is ∙ v.next-is) v.at-loaded-then-is_stop.ensures.front) (rw (w.next-is ∙ v.next-is) v.at-loaded-then-is_stop.ensures.rest)
                (w.column-is ∙ v.column-is ∙ v.known-column-then-is_stop.ensures ∙ ap known_class v.token-then-is_stop-2.ensures) (rw (w.opened-is ∙ v.opened-is) (less_deep _ end here c.args.max_depth shallow more)) (rw (w.opened-is ∙ v.opened-is) few) c.bracket_step.ensures
                shut.ensures.tokens shut.ensures.unclosed shut.ensures.place shut.ensures.count
            | else-is_take+else-is_stop v ↦
                let t = w.token-in-loop-first.result in
                let same = w.token-in-loop-first.ensures in
                let front : take (i + 1) toks ≡ take i toks ++ t ∷ [] = inv.front ∙ ap (λ (k : ℕ). take i toks ++ k ∷ []) (sym same) in
                let rest : drop i toks ≡ t ∷ drop (i + 1) toks = inv.rest ∙ ap (λ (k : ℕ). k ∷ drop (i + 1) toks) (sym same) in
                let class = inv.class ∙ ap known_class (sym same) in
                let cells = w.loop-first.cells in
                let s = w.loop-first.symbol in
                let below = reverse (take (w.loop-first.left - 1) cells) in
                let a = w.predict_token-answer.result in
                let top : now.stack ≡ s ∷ below = inv.top in
                let takes = sym w.is_take.ensures ∙ v.if-is_take.false in
                let stops = sym v.is_stop.ensures ∙ v.if-is_stop.false in
                let new : SliceState g.row.T.Denot = record { table = w.predict_token-answer.new.self; stack = below } in
                let mid = skipped g.T.Predict g.met.T.Predict.laws c.args.max_depth c.args.body.now c.args.start.read c.args.start.unclosed old
                i opened end t now new s a inv.mid inv.more rest top
                (w.predict_token-answer.ensures.answer stops) takes stops w.predict_token-answer.ensures.words_stay
                w.predict_token-answer.ensures.counts_each_answer in
                let here = i in
                let more : here < end = inv.more in
                let inside = token_inside size here
                (before_end _ c.args.start.read (c.args.max_depth - c.args.start.unclosed) end c.min-end.ensures here more) _
                (tokens_of-length c.args.body.now) in
                let shallow = inv.shallow in
                let few = count_low _ c.args.max_depth g.row.N (less_within _ _ (less_deep _ end here c.args.max_depth shallow more))
                c.requires.size c.requires.at_depth_limit in
                rejects_next g.T.Predict g.met.T.Predict.laws c.args.max_depth c.args.body.now c.args.start.read c.args.start.unclosed old
                c.if-left-ne0.next c.if-left-ne0.opened end w.loop-first.loaded c.if-left-ne0.left c.bracket_step.result shut.result.tokens
                shut.result.count column shut.result.unclosed shut.result.place c.if-left-ne0.table c.if-left-ne0.cells
                (rw (w.next-is ∙ v.next-is, w.opened-is ∙ v.opened-is, w.table-is ∙ v.table-is, w.left-is ∙ v.left-is, w.cells-is ∙ v.cells-is) mid)
                (w.left-is ∙ w.if-left-eq0.true) (rw (w.next-is ∙ v.next-is) inside) (rw (w.next-is ∙ v.next-is) inv.front) (rw (w.next-is ∙ v.next-is) inv.rest)
                (w.column-is ∙ v.column-is ∙ inv.class) (rw (w.opened-is ∙ v.opened-is) (less_deep _ end here c.args.max_depth shallow more)) (rw (w.opened-is ∙ v.opened-is) few) c.bracket_step.ensures
                shut.ensures.tokens shut.ensures.unclosed shut.ensures.place shut.ensures.count
          ]
      | else-left-ne0 w ↦
          let here = c.args.start.read in
          let more : here < end = end_moves size c.args.start.read (c.args.max_depth - c.args.start.unclosed) end c.min-end.ensures c.requires.read (some_left _ _ c.requires.deep) in
          let inside = token_inside size here
          (before_end _ c.args.start.read (c.args.max_depth - c.args.start.unclosed) end c.min-end.ensures here more) _
          (tokens_of-length c.args.body.now) in
          let shallow = start_shallow c.args.start.unclosed c.args.max_depth size c.args.start.read end c.min-end.ensures c.requires.deep in
          let few = count_low _ c.args.max_depth g.row.N (less_within _ _ (less_deep _ end here c.args.max_depth shallow more))
          c.requires.size c.requires.at_depth_limit in
          rejects_next g.T.Predict g.met.T.Predict.laws c.args.max_depth c.args.body.now c.args.start.read c.args.start.unclosed old
          c.if-left-ne0.next c.if-left-ne0.opened end c.at-loaded.result c.if-left-ne0.left c.bracket_step.result shut.result.tokens
          shut.result.count column shut.result.unclosed shut.result.place c.if-left-ne0.table c.if-left-ne0.cells
          (rw (w.next-is, w.opened-is, w.table-is, w.left-is, w.cells-is) (begun g.T.Predict g.met.T.Predict.laws c.args.max_depth c.args.body.now c.args.start.read c.args.start.unclosed old
          c.args.start.read c.args.start.unclosed end old
          (at_start g.T.Predict g.met.T.Predict.laws c.args.max_depth c.args.body.now c.args.start.read c.args.start.unclosed old
          (less_within _ _ c.requires.deep) c.requires.lawful)))
          (w.left-is ∙ w.if-left-ne0.false) (rw (w.next-is) inside) (rw (w.next-is) c.at-loaded.ensures.front) (rw (w.next-is) c.at-loaded.ensures.rest)
          (w.column-is ∙ c.known-column.ensures ∙ ap known_class c.token.ensures) (rw (w.opened-is) (less_deep _ end here c.args.max_depth shallow more)) (rw (w.opened-is) few) c.bracket_step.ensures
          shut.ensures.tokens shut.ensures.unclosed shut.ensures.place shut.ensures.count
    ]

-- in the loop the token is in the body
place_left : (g : Over) (c : At-loop-first g) → c.loop-first.next < length c.args.body.now / 2
place_left g c =
    before_end (length c.args.body.now) c.args.start.read (c.args.max_depth - c.args.start.unclosed) c.min-end.result
    c.min-end.ensures c.loop-first.next c.loop-first.invariant.more

-- so is the token after it, unless it is the last one of the run
next_left : (g : Over) (c : At-loop-first g) → c.loop-first.next ≢ c.min-end.result - 1
    → c.loop-first.next + 1 < length c.args.body.now / 2
next_left g c other =
    before_end (length c.args.body.now) c.args.start.read (c.args.max_depth - c.args.start.unclosed) c.min-end.result
    c.min-end.ensures (c.loop-first.next + 1)
    (not_last c.loop-first.next c.min-end.result c.loop-first.invariant.more other)

-- a run that ends at the end has moved, and is inside the body
end_left : (g : Over) (c : At-loop-first g) (tokens : ℕ) → tokens ≡ c.min-end.result
    → (c.args.start.read < tokens) × (tokens ≤ length c.args.body.now / 2)
end_left g c tokens is =
    let size = length c.args.body.now in
    let most = c.args.max_depth - c.args.start.unclosed in
    subst (λ (n : ℕ). (c.args.start.read < n) × (n ≤ size / 2)) (sym is) (
      end_moves size c.args.start.read most c.min-end.result c.min-end.ensures c.requires.read
          (some_left _ _ c.requires.deep),
      end_inside size c.args.start.read most c.min-end.result c.min-end.ensures,
    )

-- the stack has room for a rest in the place of its top
room_left : (g : Over) (c : At-loop-first g) → c.loop-first.left - 1 + 8 ≤ g.row.N
room_left g c =
    let old : SliceState g.row.T.Denot =
    record { table = c.args.table.now; stack = reverse (take c.args.start.count c.args.cells.now) } in
    let now : SliceState g.row.T.Denot =
    record { table = c.loop-first.table; stack = reverse (take c.loop-first.left c.loop-first.cells) } in
    let inv = c.loop-first.invariant in
    let less = less_deep c.loop-first.opened c.min-end.result c.loop-first.next c.args.max_depth inv.shallow inv.more in
    room_on_top c.loop-first.left g.row.N inv.some inv.inside c.loop-first.cells
    (filled c.loop-first.cells c.loop-first.left c.loop-first.symbol inv.top)
    (low_enough g.T.Predict g.met.T.Predict.laws c.args.max_depth c.args.body.now c.args.start.read c.args.start.unclosed old
    c.loop-first.next c.loop-first.opened c.min-end.result g.row.N now inv.mid less c.requires.at_depth_limit)

-- after the loop the token is in the body too
stopped_left : (g : Over) (c : Joined-left-ne0 g)
    → (c.args.start.read ≤ c.if-left-ne0.next) × (c.if-left-ne0.next < length c.args.body.now / 2)
stopped_left g c =
    let read = c.args.start.read in
    let size = length c.args.body.now in
    let Inside = λ (n : ℕ). (read ≤ n) × (n < size / 2) in
    let at : (n : ℕ) → read ≤ n → n < c.min-end.result → c.if-left-ne0.next ≡ n → Inside c.if-left-ne0.next =
    λ n from more is. subst Inside (sym is) (
      from,
      before_end size read (c.args.max_depth - c.args.start.unclosed) c.min-end.result c.min-end.ensures n more,
    ) in
    elim c.if-left-ne0.branch [
      | then-left-ne0+in_default+then-left-eq0 w ↦
          let inv = w.loop-first.invariant in
          let i = w.loop-first.next in
          elim w.if-is_take.branch [
            | then-is_take+else-next-last-2 v ↦
                at (i + 1) (from_next read i inv.from) (not_last i c.min-end.result inv.more v.if-next-last-2.false)
                (w.next-is ∙ v.next-is)
            | else-is_take+then-is_stop+in-Some-follow_word+else-next-last-3 v ↦
                at (i + 1) (from_next read i inv.from) (not_last i c.min-end.result inv.more v.if-next-last-3.false)
                (w.next-is ∙ v.next-is)
            | else-is_take+else-is_stop v ↦ at i inv.from inv.more (w.next-is ∙ v.next-is)
          ]
      | else-left-ne0 w ↦ subst Inside (sym w.next-is) (read_here read, c.requires.read)
    ]

pub overflow_sub-top : goal.overflow_sub-top
overflow_sub-top g c =
    top_some c.loop-first.left g.row.N c.loop-first.invariant.some c.loop-first.invariant.inside

pub predict_token-answer-requires : goal.predict_token-answer-requires
predict_token-answer-requires g c = c.loop-first.invariant.class ∙ ap known_class (sym c.token-in-loop-first.ensures)

pub put-requires : goal.put-requires
put-requires g c = (search rules, (c.requires.size, room_left g (goal.at.put-requires g c).At-loop-first))

pub put-left-requires : goal.put-left-requires
put-left-requires g c = (search rules, (c.requires.size, room_left g (goal.at.put-left-requires g c).At-loop-first))

pub returns-then-next-last-clause-inside : goal.returns-then-next-last-clause-inside
returns-then-next-last-clause-inside g c =
    subst (λ (n : ℕ). n ≤ g.row.N) (sym c.run_end.ensures.count) c.put.ensures.inside

pub returns-then-next-last-clause-moves : goal.returns-then-next-last-clause-moves
returns-then-next-last-clause-moves g c =
    (end_left g (goal.at.returns-then-next-last-clause-moves g c).At-loop-first _ c.run_end.ensures.tokens).0

pub returns-then-next-last-clause-tokens : goal.returns-then-next-last-clause-tokens
returns-then-next-last-clause-tokens g c =
    (end_left g (goal.at.returns-then-next-last-clause-tokens g c).At-loop-first _ c.run_end.ensures.tokens).1

pub returns-then-next-last-clause-none_left : goal.returns-then-next-last-clause-none_left
returns-then-next-last-clause-none_left g c = never_placed c.run_end.result.place _ c.run_end.ensures.place

pub returns-then-next-last-2-clause-inside : goal.returns-then-next-last-2-clause-inside
returns-then-next-last-2-clause-inside g c =
    subst (λ (n : ℕ). n ≤ g.row.N) (sym c.run_end-then-next-last-2.ensures.count) (rest_inside c.loop-first.left g.row.N c.loop-first.invariant.some c.loop-first.invariant.inside)

pub returns-then-next-last-2-clause-moves : goal.returns-then-next-last-2-clause-moves
returns-then-next-last-2-clause-moves g c =
    (end_left g (goal.at.returns-then-next-last-2-clause-moves g c).At-loop-first _ c.run_end-then-next-last-2.ensures.tokens).0

pub returns-then-next-last-2-clause-tokens : goal.returns-then-next-last-2-clause-tokens
returns-then-next-last-2-clause-tokens g c =
    (end_left g (goal.at.returns-then-next-last-2-clause-tokens g c).At-loop-first _ c.run_end-then-next-last-2.ensures.tokens).1

pub returns-then-next-last-2-clause-none_left : goal.returns-then-next-last-2-clause-none_left
returns-then-next-last-2-clause-none_left g c = never_placed c.run_end-then-next-last-2.result.place _ c.run_end-then-next-last-2.ensures.place

pub returns-then-next-last-3-clause-inside : goal.returns-then-next-last-3-clause-inside
returns-then-next-last-3-clause-inside g c =
    subst (λ (n : ℕ). n ≤ g.row.N) (sym c.run_end-then-next-last-3.ensures.count) c.in-Some-follow_word.ensures.inside

pub returns-then-next-last-3-clause-moves : goal.returns-then-next-last-3-clause-moves
returns-then-next-last-3-clause-moves g c =
    (end_left g (goal.at.returns-then-next-last-3-clause-moves g c).At-loop-first _ c.run_end-then-next-last-3.ensures.tokens).0

pub returns-then-next-last-3-clause-tokens : goal.returns-then-next-last-3-clause-tokens
returns-then-next-last-3-clause-tokens g c =
    (end_left g (goal.at.returns-then-next-last-3-clause-tokens g c).At-loop-first _ c.run_end-then-next-last-3.ensures.tokens).1

pub returns-then-next-last-3-clause-none_left : goal.returns-then-next-last-3-clause-none_left
returns-then-next-last-3-clause-none_left g c = never_placed c.run_end-then-next-last-3.result.place _ c.run_end-then-next-last-3.ensures.place

pub overflow_add-next : goal.overflow_add-next
overflow_add-next g c =
    token_fits (length c.args.body.now) _ (next_left g (goal.at.overflow_add-next g c).At-loop-first c.if-next-last.false)
    c.requires.room

pub at-loaded-requires-in-Some : goal.at-loaded-requires-in-Some
at-loaded-requires-in-Some g c =
    whole_token (length c.args.body.now) _ (next_left g (goal.at.at-loaded-requires-in-Some g c).At-loop-first c.if-next-last.false)

pub overflow_add-next-then-is_take : goal.overflow_add-next-then-is_take
overflow_add-next-then-is_take g c =
    token_fits (length c.args.body.now) _ (next_left g (goal.at.overflow_add-next-then-is_take g c).At-loop-first c.if-next-last-2.false)
    c.requires.room

pub at-loaded-requires-then-is_take : goal.at-loaded-requires-then-is_take
at-loaded-requires-then-is_take g c =
    whole_token (length c.args.body.now) _ (next_left g (goal.at.at-loaded-requires-then-is_take g c).At-loop-first c.if-next-last-2.false)

pub overflow_add-next-then-is_stop : goal.overflow_add-next-then-is_stop
overflow_add-next-then-is_stop g c =
    token_fits (length c.args.body.now) _ (next_left g (goal.at.overflow_add-next-then-is_stop g c).At-loop-first c.if-next-last-3.false)
    c.requires.room

pub at-loaded-requires-then-is_stop : goal.at-loaded-requires-then-is_stop
at-loaded-requires-then-is_stop g c =
    whole_token (length c.args.body.now) _ (next_left g (goal.at.at-loaded-requires-then-is_stop g c).At-loop-first c.if-next-last-3.false)

-- a token that is taken, or a symbol that is removed, is not read again
pub loop-first-smaller-in-Some : goal.loop-first-smaller-in-Some
loop-first-smaller-in-Some g c =
    token_less c.min-end.result c.loop-first.next c.put-left.result c.loop-first.left g.row.N c.loop-first.invariant.more
    c.put-left.ensures.inside c.requires.size

pub loop-first-smaller : goal.loop-first-smaller
loop-first-smaller g c =
    let end = c.min-end.result in
    let inv = c.loop-first.invariant in
    let left = c.loop-first.left in
    let lower = rest_inside left g.row.N inv.some inv.inside in
    elim c.if-is_take.branch [
      | then-is_take+else-next-last-2 w ↦
          rw (w.next-is, w.left-is)
          (token_less end c.loop-first.next (left - 1) left g.row.N inv.more lower c.requires.size)
      | else-is_take+then-is_stop+in-Some-follow_word+else-next-last-3 w ↦
          rw (w.next-is, w.left-is)
          (token_less end c.loop-first.next w.in-Some-follow_word.now left g.row.N inv.more w.in-Some-follow_word.ensures.inside
          c.requires.size)
      | else-is_take+else-is_stop w ↦
          rw (w.next-is, w.left-is) (stack_less ((end - c.loop-first.next) * 4097) left inv.some)
    ]

pub reject_at-requires : goal.reject_at-requires
reject_at-requires g c =
    place_fits (length c.args.body.now) _ (place_left g (goal.at.reject_at-requires g c).At-loop-first) c.requires.room

pub returns-in_default-follow_word-clause-inside : goal.returns-in_default-follow_word-clause-inside
returns-in_default-follow_word-clause-inside g c = subst (λ (n : ℕ). n ≤ g.row.N) (sym c.reject_at.ensures.count) (omega arith)

pub returns-in_default-follow_word-clause-moves : goal.returns-in_default-follow_word-clause-moves
returns-in_default-follow_word-clause-moves g c =
    one_behind c.args.start.read c.loop-first.next c.reject_at.result.tokens c.loop-first.invariant.from
    c.reject_at.ensures.tokens

pub returns-in_default-follow_word-clause-tokens : goal.returns-in_default-follow_word-clause-tokens
returns-in_default-follow_word-clause-tokens g c =
    read_inside (length c.args.body.now) c.loop-first.next
    (place_left g (goal.at.returns-in_default-follow_word-clause-tokens g c).At-loop-first)
    c.reject_at.result.tokens c.reject_at.ensures.tokens

pub returns-in_default-follow_word-clause-none_left : goal.returns-in_default-follow_word-clause-none_left
returns-in_default-follow_word-clause-none_left g c = λ _. c.reject_at.ensures.count

pub reject_at-requires-2 : goal.reject_at-requires-2
reject_at-requires-2 g c =
    place_fits (length c.args.body.now) _ (stopped_left g (goal.at.reject_at-requires-2 g c).Joined-left-ne0).1
    c.requires.room

pub returns-clause-inside : goal.returns-clause-inside
returns-clause-inside g c = subst (λ (n : ℕ). n ≤ g.row.N) (sym c.reject_at-2.ensures.count) (omega arith)

pub returns-clause-moves : goal.returns-clause-moves
returns-clause-moves g c =
    one_behind c.args.start.read _ c.reject_at-2.result.tokens
    (stopped_left g (goal.at.returns-clause-moves g c).Joined-left-ne0).0 c.reject_at-2.ensures.tokens

pub returns-clause-tokens : goal.returns-clause-tokens
returns-clause-tokens g c =
    read_inside (length c.args.body.now) _ (stopped_left g (goal.at.returns-clause-tokens g c).Joined-left-ne0).1
    c.reject_at-2.result.tokens c.reject_at-2.ensures.tokens

pub returns-clause-none_left : goal.returns-clause-none_left
returns-clause-none_left g c = λ _. c.reject_at-2.ensures.count
