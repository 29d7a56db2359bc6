use Rattle.daide_reader.proofs.Common.{Option, IfSome, IsSome, is_some, length, ◌≡◌, ℕ, ◌≤◌, ◌<◌, ◌+◌, ◌-◌, ◌*◌, ◌/◌}
use Rattle.daide_reader.proofs.Common.{◌++◌, true, false, None, Some, List, take, drop, reverse, rules, refl, sym, ap}
use Rattle.daide_reader.proofs.Common.{◌∙◌, subst, arith, append_assoc, append-nil, take-append-drop, drop-length}
use Rattle.daide_reader.proofs.Common.{tokens_of, begins_with_prn, most_tokens, outline_of, Reading, HasReadPrefix}
use Rattle.daide_reader.proofs.Common.{reading, tokens_read, place_behind}
use Rattle.daide_reader.proofs.BodyLemmas.{tokens_of-length}
use Rattle.daide_reader.proofs.ReadingLemmas.{raised_none, raised_within, none_from_test, stands_along, unsettled}
use Rattle.daide_reader.proofs.SliceLemmas.{as_reading, behind_fits, behind_none, behind_some, count_all-end, count_is}
use Rattle.daide_reader.proofs.SliceLemmas.{counts_past, counts_up, stands_on, stands_report_on, steady_on}
use Rattle.daide_reader.proofs.reader.Reader.go_on.Goals as goal

-- the numbers of a reader, and of the next body
module _ (read before size total : ℕ) (same : before ≡ read) (sum : total ≡ read + size / 2) where
  more_read : 2 ≤ size → before < total
  more_read some = omega arith

  before_total : before ≤ total
  before_total = omega arith

  total_is : (count : ℕ) → count ≡ size / 2 → total ≡ before + count
  total_is count all = omega arith

  -- with the first tokens of the body
  module _ (tokens : ℕ) (inside : tokens ≤ size / 2) (room : total ≤ most_tokens) where
    place_fits : before + tokens ≤ 65535
    place_fits = omega arith

    open_fits : (opened here : ℕ) → opened ≡ here → here ≤ before → opened + (tokens - 0) ≤ most_tokens
    open_fits opened here is few = omega arith

few_open : (opened here before tokens : ℕ) → opened ≡ here → here ≤ before → opened + (tokens - 0) ≤ before + tokens
few_open opened here before tokens is few = omega arith

few_asked : (tokens size : ℕ) → tokens ≤ size → 4 * (tokens - 0) ≤ 4 * size
few_asked tokens size inside = omega arith

inside_of : (tokens size count : ℕ) → tokens ≤ size → count ≡ size → tokens ≤ count
inside_of tokens size count inside all = omega arith

none_inside : (count : ℕ) → 0 ≤ count
none_inside count = omega arith

none_more : (before : ℕ) → before ≤ before + 0
none_more before = omega arith

-- the message begins with PRN
pub invariant_of-self : goal.invariant_of-self
invariant_of-self g c =
    let same = ap (λ (v : Reading g.row.T.Denot). tokens_read v) c.self.view_is in
    let sum = c.requires.tokens in
    steady_on _ _ g.row.N _ _ _ c.self.inside.outline c.args.outline _ _ _ _ c.self.invariant
    (more_read _ c.self.inside.outline.tokens (length c.args.body.now) c.args.outline.tokens same sum c.requires.some)
    c.requires.room
    (counts_up _ _ _
    (before_total _ c.self.inside.outline.tokens (length c.args.body.now) c.args.outline.tokens same sum)
    c.self.invariant.counts)
    (λ plain. let f : true ≡ false = sym c.if-outline.true ∙ plain in absurd cc)
    (λ _. ap reverse c.clear.ensures) (λ _. ap reverse c.clear.ensures)

pub returns-then-outline : goal.returns-then-outline
returns-then-outline g c = record {
  stands_after = λ words first max_depth p outline h.
      stands_report_on g.T.Predict words first max_depth _ _ p (tokens_of c.args.body.now) _
      refl refl refl refl refl refl (λ _. outline) c.if-outline.true
      (ap (λ (v : Reading g.row.T.Denot). v.finished) c.self.view_is ∙ c.requires.unfinished)
      (stands_along g.T.Predict words first max_depth _ _ p c.self.view_is h);
  tokens = refl;
  words = ap (λ (v : Reading g.row.T.Denot). g.T.Predict.words v.table) c.self.view_is;
  depth = ap (λ (v : Reading g.row.T.Denot). v.max_depth) c.self.view_is;
  base = ap (λ (v : Reading g.row.T.Denot). v.asked_before) c.self.view_is;
  raised = raised_none _ _ (ap (λ (v : Reading g.row.T.Denot). g.T.Predict.asked v.table) c.self.view_is);
  unasked = λ _. ap (λ (v : Reading g.row.T.Denot). v.table) c.self.view_is;
  unfinished = ap (λ (v : Reading g.row.T.Denot). v.finished) c.self.view_is ∙ c.requires.unfinished;
}

-- an error place was found before
pub invariant_of-self-then-is_some : goal.invariant_of-self-then-is_some
invariant_of-self-then-is_some g c =
    let m = tokens_of c.args.body.now in
    let before = c.self.inside.outline.tokens in
    let same = ap (λ (v : Reading g.row.T.Denot). tokens_read v) c.self.view_is in
    let size = tokens_of-length c.args.body.now in
    let sum = c.requires.tokens in
    steady_on _ _ g.row.N _ _ _ c.self.inside.outline c.args.outline _ _ _ _ c.self.invariant
    (more_read _ c.self.inside.outline.tokens (length c.args.body.now) c.args.outline.tokens same sum c.requires.some)
    c.requires.room
    (subst (λ (u : Option ℕ). IfSome u (λ n. n ≤ c.args.outline.tokens)) (sym c.count_from-self-inside.ensures.count)
    (counts_past _ before 0 _ m (none_inside (length m))
    (total_is _ c.self.inside.outline.tokens (length c.args.body.now) c.args.outline.tokens same sum _ size)
    (counts_up _ _ _ (none_more before) c.self.invariant.counts)))
    (λ _ none. let f : true ≡ false = c.if-is_some.ensures ∙ ap is_some none in absurd cc)
    c.self.invariant.none_left
    (λ report. let f : true ≡ false = sym report ∙ c.if-outline.false in absurd cc)

pub returns-then-is_some : goal.returns-then-is_some
returns-then-is_some g c = record {
  stands_after = λ words first max_depth p outline h.
      stands_on g.T.Predict words first max_depth _ _ p (tokens_of c.args.body.now) _
      (record {
        whole = refl;
        table_same = refl;
        stack_same = refl;
        depth_same = refl;
        finished_same = refl;
        asked_same = refl;
        place_same = refl;
        outline_more = λ _. outline;
        not_prn = c.if-outline.false;
        unclosed_more = c.count_from-self-inside.ensures.count;
        all_read = λ none. let f : true ≡ false = c.if-is_some.ensures ∙ ap is_some none in absurd cc;
        none_left = c.self.invariant.none_left;
      })
      (stands_along g.T.Predict words first max_depth _ _ p c.self.view_is h);
  tokens = refl;
  words = ap (λ (v : Reading g.row.T.Denot). g.T.Predict.words v.table) c.self.view_is;
  depth = ap (λ (v : Reading g.row.T.Denot). v.max_depth) c.self.view_is;
  base = ap (λ (v : Reading g.row.T.Denot). v.asked_before) c.self.view_is;
  raised = raised_none _ _ (ap (λ (v : Reading g.row.T.Denot). g.T.Predict.asked v.table) c.self.view_is);
  unasked = λ _. ap (λ (v : Reading g.row.T.Denot). v.table) c.self.view_is;
  unfinished = ap (λ (v : Reading g.row.T.Denot). v.finished) c.self.view_is ∙ c.requires.unfinished;
}

pub count_from-self-inside-requires-clause-few : goal.count_from-self-inside-requires-clause-few
count_from-self-inside-requires-clause-few g c = counts_up _ _ _ c.self.invariant.tokens c.self.invariant.counts

-- the reader is in locals
pub read_tokens-reached-requires : goal.read_tokens-reached-requires
read_tokens-reached-requires g c =
    let Predict = g.T.Predict in
    let plain = ap (λ (v : Reading g.row.T.Denot). v.outline.is_prn) c.self.view_is
    ∙ c.requires.plain c.if-outline.false in
    let here = c.self.invariant.lawful_stack plain (none_from_test _ c.if-is_some.ensures) in
    let count = sym (count_is c.self.inside.unclosed here.0 c.unwrap_or-open.result here.1 c.unwrap_or-open.ensures) in (
      search rules,
      (
        c.self.invariant.small,
        (
          c.self.invariant.at_depth_limit,
          (
            c.requires.bytes,
            (
              subst (λ (n : ℕ). n ≤ c.self.inside.max_depth) count here.2,
              subst (λ (n : ℕ). Predict.lawful (Predict.words c.self.inside.table) (reverse c.self.inside.stack) n)
                  count here.3,
            ),
          ),
        ),
      ),
    )

pub place_behind-self-inside-requires : goal.place_behind-self-inside-requires
place_behind-self-inside-requires g c =
    let same = ap (λ (v : Reading g.row.T.Denot). tokens_read v) c.self.view_is in
    let sum = c.requires.tokens in
    behind_fits _ c.read_tokens-reached.result.tokens _ c.read_tokens-reached.ensures.reads.found
    (place_fits _ c.self.inside.outline.tokens (length c.args.body.now) c.args.outline.tokens same sum
    c.read_tokens-reached.result.tokens c.read_tokens-reached.ensures.tokens c.requires.room)

pub count_from-self-inside-requires-2-clause-few : goal.count_from-self-inside-requires-2-clause-few
count_from-self-inside-requires-2-clause-few g c =
    let same = ap (λ (v : Reading g.row.T.Denot). tokens_read v) c.self.view_is in
    let plain = ap (λ (v : Reading g.row.T.Denot). v.outline.is_prn) c.self.view_is
    ∙ c.requires.plain c.if-outline.false in
    let here = c.self.invariant.lawful_stack plain (none_from_test _ c.if-is_some.ensures) in
    let count = count_is c.self.inside.unclosed here.0 c.unwrap_or-open.result here.1 c.unwrap_or-open.ensures in
    let few : here.0 ≤ c.self.inside.outline.tokens = (rw here.1 at c.self.invariant.counts) in
    let sum = c.requires.tokens in
    counts_up _ (c.unwrap_or-open.result + (c.read_tokens-reached.result.tokens - 0)) _
    (open_fits _ c.self.inside.outline.tokens (length c.args.body.now) c.args.outline.tokens same sum
    c.read_tokens-reached.result.tokens c.read_tokens-reached.ensures.tokens c.requires.room _ _ count few)
    c.read_tokens-reached.ensures.reads.counts

pub invariant_of-self-2 : goal.invariant_of-self-2
invariant_of-self-2 g c =
    let m = tokens_of c.args.body.now in
    let before = c.self.inside.outline.tokens in
    let same = ap (λ (v : Reading g.row.T.Denot). tokens_read v) c.self.view_is in
    let size = tokens_of-length c.args.body.now in
    let sum = c.requires.tokens in
    let plain = ap (λ (v : Reading g.row.T.Denot). v.outline.is_prn) c.self.view_is
    ∙ c.requires.plain c.if-outline.false in
    let here = c.self.invariant.lawful_stack plain (none_from_test _ c.if-is_some.ensures) in
    let count = count_is c.self.inside.unclosed here.0 c.unwrap_or-open.result here.1 c.unwrap_or-open.ensures in
    let few : here.0 ≤ before = (rw here.1 at c.self.invariant.counts) in
    let reads = c.read_tokens-reached.ensures.reads in
    let n = c.read_tokens-reached.result.tokens in
    let tokens = c.read_tokens-reached.ensures.tokens in
    let counts = counts_past c.read_tokens-reached.result.unclosed before n c.args.outline.tokens m
    (inside_of n (length c.args.body.now / 2) (length m) tokens size)
    (total_is _ c.self.inside.outline.tokens (length c.args.body.now) c.args.outline.tokens same sum _ size)
    (counts_up _ (c.unwrap_or-open.result + (n - 0)) (before + n) (few_open _ here.0 before n count few)
    reads.counts) in
    let place = c.place_behind-self-inside.ensures in
    let counted = c.count_from-self-inside-2.ensures.count in
    steady_on _ _ g.row.N _ _ _ c.self.inside.outline c.args.outline _ _ _ _ c.self.invariant
    (more_read _ c.self.inside.outline.tokens (length c.args.body.now) c.args.outline.tokens same sum c.requires.some)
    c.requires.room
    (subst (λ (u : Option ℕ). IfSome u (λ n. n ≤ c.args.outline.tokens)) (sym counted) counts)
    (λ _ none.
    let no_place = behind_none before c.read_tokens-reached.result.place (sym place ∙ none) in
    let ok = reads.lawful no_place in
    let all : n ≡ length m = c.read_tokens-reached.ensures.all no_place ∙ sym size in
    (ok.0, counted ∙ (count_all-end c.read_tokens-reached.result.unclosed n m all ∙ ok.1), ok.2, ok.3))
    (λ placed.
    reads.none_left (behind_some before c.read_tokens-reached.result.place (subst (λ (o : Option ℕ). IsSome o) place placed)))
    (λ report. let f : true ≡ false = sym report ∙ c.if-outline.false in absurd cc)

pub returns : goal.returns
returns g c = record {
  stands_after = λ words first max_depth p outline h.
      let Predict = g.T.Predict in
      let b = c.args.body.now in
      let m = tokens_of b in
      let n = c.read_tokens-reached.result.tokens in
      let plain = ap (λ (v : Reading g.row.T.Denot). v.outline.is_prn) c.self.view_is
      ∙ c.requires.plain c.if-outline.false in
      let none = none_from_test _ c.if-is_some.ensures in
      let here = c.self.invariant.lawful_stack plain none in
      let count = count_is c.self.inside.unclosed here.0 c.unwrap_or-open.result here.1 c.unwrap_or-open.ensures in
      let fin : c.self.inside.finished ≡ false =
      ap (λ (v : Reading g.row.T.Denot). v.finished) c.self.view_is ∙ c.requires.unfinished in
      let before = stands_along Predict words first max_depth _ _ p c.self.view_is h in
      let not_prn : begins_with_prn (p ++ m) ≡ false = sym outline.begins ∙ c.if-outline.false in
      let now = as_reading Predict words first max_depth c.unwrap_or-open.result _ p none
      (here.1 ∙ ap (λ (i : ℕ). Some i) (sym count)) fin before in
      let reads = c.read_tokens-reached.ensures.reads in
      let start_symbol = subst (λ (q : List ℕ). HasReadPrefix Predict words first max_depth
      (reading c.self.inside.table c.self.inside.max_depth (reverse c.self.inside.stack) (outline_of q)
      (Some c.unwrap_or-open.result) None c.self.inside.asked_before) q) (sym (append-nil p)) now in
      let reached = reads.stands_after words first max_depth c.self.inside.asked_before p not_prn start_symbol in
      stands_on Predict words first max_depth
      (reading c.read_tokens-reached.new.table c.self.inside.max_depth (reverse c.read_tokens-reached.new.self)
      (outline_of (p ++ take n m)) c.read_tokens-reached.result.unclosed
      (place_behind c.self.inside.outline.tokens c.read_tokens-reached.result.place) c.self.inside.asked_before)
      _ (p ++ take n m) (drop n m) (p ++ m)
      (record {
        whole = append_assoc p (take n m) (drop n m) ∙ ap (λ (q : List ℕ). p ++ q) (take-append-drop n m);
        table_same = refl;
        stack_same = refl;
        depth_same = refl;
        finished_same = fin;
        asked_same = refl;
        place_same = c.place_behind-self-inside.ensures;
        outline_more = λ _. outline;
        not_prn = c.if-outline.false;
        unclosed_more = c.count_from-self-inside-2.ensures.count;
        all_read = λ no_place.
            ap (λ (i : ℕ). drop i m)
            (c.read_tokens-reached.ensures.all (behind_none _ _ no_place) ∙ sym (tokens_of-length b))
            ∙ drop-length m;
        none_left = λ some. reads.none_left (behind_some _ _ some);
      })
      (subst (λ (k : ℕ). HasReadPrefix Predict words first max_depth
      (reading c.read_tokens-reached.new.table c.self.inside.max_depth (reverse c.read_tokens-reached.new.self)
      (outline_of (p ++ take n m)) c.read_tokens-reached.result.unclosed
      (place_behind k c.read_tokens-reached.result.place) c.self.inside.asked_before) (p ++ take n m))
      (sym before.outline.tokens) reached);
  tokens = refl;
  words = c.read_tokens-reached.ensures.reads.words
      ∙ ap (λ (v : Reading g.row.T.Denot). g.T.Predict.words v.table) c.self.view_is;
  depth = ap (λ (v : Reading g.row.T.Denot). v.max_depth) c.self.view_is;
  base = ap (λ (v : Reading g.row.T.Denot). v.asked_before) c.self.view_is;
  raised =
      raised_within _ _ _ _ _ (few_asked _ _ c.read_tokens-reached.ensures.tokens)
      (ap (λ (v : Reading g.row.T.Denot). g.T.Predict.asked v.table) c.self.view_is)
      c.read_tokens-reached.ensures.reads.raised;
  unasked =
      let plain = ap (λ (v : Reading g.row.T.Denot). v.outline.is_prn) c.self.view_is
      ∙ c.requires.plain c.if-outline.false in
      λ settled. absurd (unsettled _ _ c.self.view_is (none_from_test _ c.if-is_some.ensures) plain settled);
  unfinished = ap (λ (v : Reading g.row.T.Denot). v.finished) c.self.view_is ∙ c.requires.unfinished;
}
