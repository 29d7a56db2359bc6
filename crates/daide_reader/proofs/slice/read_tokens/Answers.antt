use Rattle.daide_reader.proofs.Common.{◌≡◌, ◌≤◌, ◌/◌, ℕ, true, false, None, Some, is_some, take, length, reverse, refl}
use Rattle.daide_reader.proofs.Common.{sym, ap, ◌∙◌, subst, rules, arith, is_bra, ReadsTo, SliceState}
use Rattle.daide_reader.proofs.Counts.{all_of, count_low, fewer_left, next_within, one_less, place_fits}
use Rattle.daide_reader.proofs.Counts.{read_inside, token_inside, whole_token}
use Rattle.daide_reader.proofs.BodyLemmas.{tokens_of-length}
use Rattle.daide_reader.proofs.ReadingLemmas.{none_from_test, room_more}
use Rattle.daide_reader.proofs.SliceLemmas.{never_opens, opens_too_many}
use Rattle.daide_reader.proofs.StretchLemmas.{at_joined, at_next, at_start, few_at_limit, once_at_limit, reads_all}
use Rattle.daide_reader.proofs.StretchLemmas.{reads_joined, reads_refused}
use Rattle.daide_reader.proofs.slice.read_tokens.Goals as goal

pub loop-next-init : goal.loop-next-init
loop-next-init g c =
    let old : SliceState g.row.T.Denot =
    record { table = c.args.table.now; stack = reverse (take c.args.start.count c.args.cells.now) } in
    record {
      inside = c.requires.count;
      upto = c.requires.read;
      at = at_start g.T.Predict g.met.T.Predict.laws c.args.max_depth c.args.body.now c.args.start.read c.args.start.unclosed old
          c.requires.deep c.requires.lawful;
    }

-- a run in which a token is refused
pub returns-then-is_some : goal.returns-then-is_some
returns-then-is_some g c = record {
  inside = c.run_below_depth_limit-reached.ensures.inside;
  tokens = c.run_below_depth_limit-reached.ensures.tokens;
  all = λ none. let f : true ≡ false = c.if-is_some.ensures ∙ ap is_some none in absurd cc;
  reads =
      let old : SliceState g.row.T.Denot =
      record { table = c.args.table.now; stack = reverse (take c.args.start.count c.args.cells.now) } in
      let now : SliceState g.row.T.Denot =
      record { table = c.loop-next.table; stack = reverse (take c.loop-next.left c.loop-next.cells) } in
      let inv = c.loop-next.invariant in
      let i = c.loop-next.next in
      let opened = c.loop-next.opened in
      let new : SliceState g.row.T.Denot = record {
        table = c.run_below_depth_limit-reached.new.table;
        stack = reverse (take c.run_below_depth_limit-reached.result.count c.run_below_depth_limit-reached.new.cells);
      } in
      reads_joined g.T.Predict g.met.T.Predict.laws c.args.max_depth c.args.body.now c.args.start.read c.args.start.unclosed old
      i opened c.run_below_depth_limit-reached.result.tokens c.run_below_depth_limit-reached.result.unclosed c.run_below_depth_limit-reached.result.place now new
      inv.at c.run_below_depth_limit-reached.ensures.reads;
}

-- a run in which all tokens are taken
pub loop-next-preserved-then-opened-max_depth : goal.loop-next-preserved-then-opened-max_depth
loop-next-preserved-then-opened-max_depth g c =
    let old : SliceState g.row.T.Denot =
    record { table = c.args.table.now; stack = reverse (take c.args.start.count c.args.cells.now) } in
    let now : SliceState g.row.T.Denot =
    record { table = c.loop-next.table; stack = reverse (take c.loop-next.left c.loop-next.cells) } in
    let inv = c.loop-next.invariant in
    let i = c.loop-next.next in
    let opened = c.loop-next.opened in
    let new : SliceState g.row.T.Denot = record {
      table = c.run_below_depth_limit-reached.new.table;
      stack = reverse (take c.run_below_depth_limit-reached.result.count c.run_below_depth_limit-reached.new.cells);
    } in
    record {
      inside = c.run_below_depth_limit-reached.ensures.inside;
      upto = c.run_below_depth_limit-reached.ensures.tokens;
      at = at_joined g.T.Predict g.met.T.Predict.laws c.args.max_depth c.args.body.now c.args.start.read c.args.start.unclosed old
          i opened c.run_below_depth_limit-reached.result.tokens c.unwrap_or-opened.result c.run_below_depth_limit-reached.result.unclosed
          c.run_below_depth_limit-reached.result.place now new
          inv.at c.run_below_depth_limit-reached.ensures.reads c.unwrap_or-opened.ensures (none_from_test _ c.if-is_some.ensures);
    }

-- at the depth limit there is room for what the token leaves
pub read_token-requires : goal.read_token-requires
read_token-requires g c = (
  search rules,
  (
    c.requires.size,
    (
      c.loop-next.invariant.inside,
      (
        count_low _ c.args.max_depth g.row.N c.loop-next.invariant.at.deep c.requires.size c.requires.at_depth_limit,
        λ no_bra.
            let Predict = g.T.Predict in
            let w = Predict.words c.loop-next.table in
            let inv = c.loop-next.invariant in
            room_more Predict g.met.T.Predict.laws w g.row.N c.token_at-token.result c.loop-next.opened c.args.max_depth
            _ inv.at.lawful inv.at.deep c.requires.at_depth_limit (never_opens _ _ _ no_bra),
      ),
    ),
  ),
)

pub returns-in_default : goal.returns-in_default
returns-in_default g c = record {
  inside = subst (λ (k : ℕ). k ≤ g.row.N) (sym c.reject_at.ensures.count) (omega arith);
  tokens = read_inside (length c.args.body.now) c.loop-next.next c.loop-next-test.true c.reject_at.result.tokens
      c.reject_at.ensures.tokens;
  all = λ none. let place = c.reject_at.ensures.place in absurd cc;
  reads =
      let old : SliceState g.row.T.Denot =
      record { table = c.args.table.now; stack = reverse (take c.args.start.count c.args.cells.now) } in
      let now : SliceState g.row.T.Denot =
      record { table = c.loop-next.table; stack = reverse (take c.loop-next.left c.loop-next.cells) } in
      let inv = c.loop-next.invariant in
      let i = c.loop-next.next in
      let opened = c.loop-next.opened in
      let t = c.token_at-token.result in
      let moves = g.T.Predict.moves (g.T.Predict.words now.table) in
      let class = g.T.Predict.class_of (g.T.Predict.words now.table) t in
      let new : SliceState g.row.T.Denot =
      record { table = c.read_token.new.table; stack = reverse (take c.reject_at.result.count c.read_token.new.cells) } in
      let whole = reads_refused g.T.Predict g.met.T.Predict.laws c.args.max_depth c.args.body.now c.args.start.read c.args.start.unclosed old
      i t opened c.reject_at.result.unclosed now new inv.at
      (token_inside (length c.args.body.now) i c.loop-next-test.true _ (tokens_of-length c.args.body.now))
      c.token_at-token.ensures.front (ap (λ (k : ℕ). reverse (take k c.read_token.new.cells)) c.reject_at.ensures.count)
      (record {
        words = c.read_token.ensures.words;
        why = opens_too_many _ opened c.args.max_depth _ (all_of _ _ inv.at.deep c.if-opened-max_depth.false)
            c.in_default.ensures.reject_at;
        counted = c.reject_at.ensures.unclosed ∙ sym c.read_token.ensures.counted;
        steps = (c.read_token.ensures.steps.0, few_at_limit moves class (is_bra t) now.stack _ c.read_token.ensures.steps.1, c.read_token.ensures.steps.2);
        once = once_at_limit moves class (is_bra t) now.stack opened c.args.max_depth _ (all_of _ _ inv.at.deep c.if-opened-max_depth.false)
            c.read_token.ensures.steps.1;
      }) in
      rw (c.reject_at.ensures.tokens, c.reject_at.ensures.place) whole;
}

pub loop-next-preserved : goal.loop-next-preserved
loop-next-preserved g c =
    let old : SliceState g.row.T.Denot =
    record { table = c.args.table.now; stack = reverse (take c.args.start.count c.args.cells.now) } in
    let now : SliceState g.row.T.Denot =
    record { table = c.loop-next.table; stack = reverse (take c.loop-next.left c.loop-next.cells) } in
    let inv = c.loop-next.invariant in
    let i = c.loop-next.next in
    let opened = c.loop-next.opened in
    let t = c.token_at-token.result in
    let moves = g.T.Predict.moves (g.T.Predict.words now.table) in
    let class = g.T.Predict.class_of (g.T.Predict.words now.table) t in
    let new : SliceState g.row.T.Denot =
    record { table = c.read_token.new.table; stack = reverse (take c.in-Some.now c.read_token.new.cells) } in
    record {
      inside = c.in-Some.ensures.inside;
      upto = next_within i _ c.loop-next-test.true;
      at = at_next g.T.Predict g.met.T.Predict.laws c.args.max_depth c.args.body.now c.args.start.read c.args.start.unclosed old
          i c.token_at-token.result opened c.read_token.new.opened now new inv.at c.token_at-token.ensures.front
          (record {
            words = c.read_token.ensures.words;
            fits = never_opens _ _ _ (c.in-Some.ensures.fits refl);
            taken = c.in-Some.ensures.taken;
            counted = c.read_token.ensures.counted;
            steps = (c.read_token.ensures.steps.0, few_at_limit moves class (is_bra t) now.stack _ c.read_token.ensures.steps.1, c.read_token.ensures.steps.2);
            once = once_at_limit moves class (is_bra t) now.stack opened c.args.max_depth _ (all_of _ _ inv.at.deep c.if-opened-max_depth.false)
                c.read_token.ensures.steps.1;
          });
    }

pub returns : goal.returns
returns g c = record {
  inside = c.loop-next.invariant.inside;
  tokens = omega arith;
  all = λ _. refl;
  reads =
      let old : SliceState g.row.T.Denot =
      record { table = c.args.table.now; stack = reverse (take c.args.start.count c.args.cells.now) } in
      let now : SliceState g.row.T.Denot =
      record { table = c.loop-next.table; stack = reverse (take c.loop-next.left c.loop-next.cells) } in
      let all : c.loop-next.next ≡ length c.args.body.now / 2 =
      all_of _ _ c.loop-next.invariant.upto c.loop-next-test.false in
      subst (λ (k : ℕ). ReadsTo g.T.Predict c.args.max_depth c.args.body.now c.args.start.read c.args.start.unclosed old k
      (Some c.loop-next.opened) None now) all
      (reads_all g.T.Predict g.met.T.Predict.laws c.args.max_depth c.args.body.now c.args.start.read c.args.start.unclosed old
      c.loop-next.next c.loop-next.opened now c.loop-next.invariant.at);
}

-- the preconditions of the calls
pub token_at-token-requires : goal.token_at-token-requires
token_at-token-requires g c = whole_token (length c.args.body.now) c.loop-next.next c.loop-next-test.true

pub reject_at-requires : goal.reject_at-requires
reject_at-requires g c = place_fits (length c.args.body.now) c.loop-next.next c.loop-next-test.true c.requires.room

-- each iteration leaves fewer tokens
pub loop-next-smaller-then-opened-max_depth : goal.loop-next-smaller-then-opened-max_depth
loop-next-smaller-then-opened-max_depth g c =
    fewer_left (length c.args.body.now / 2) c.loop-next.next c.run_below_depth_limit-reached.result.tokens c.loop-next-test.true
    c.run_below_depth_limit-reached.ensures.moves

pub loop-next-smaller : goal.loop-next-smaller
loop-next-smaller g c = one_less (length c.args.body.now / 2) c.loop-next.next c.loop-next-test.true
