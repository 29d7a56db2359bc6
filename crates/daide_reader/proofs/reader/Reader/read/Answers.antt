use Rattle.daide_reader.proofs.Common.{◌≡◌, ◌≤◌, ℕ, ◌-◌, ◌*◌, ◌/◌, ◌++◌, List, length, take, drop, refl, sym, ap, ◌∙◌}
use Rattle.daide_reader.proofs.Common.{subst, rules, arith, take-append-drop, length-drop, tokens_of, begins_with_prn}
use Rattle.daide_reader.proofs.Common.{Outline, IsOutlineOf, Reading, HasReadPrefix, tokens_read}
use Rattle.daide_reader.proofs.BodyLemmas.{tokens_of-length}
use Rattle.daide_reader.proofs.OutlineLemmas.{outline_on-is, plain_before}
use Rattle.daide_reader.proofs.ReadingLemmas.{raised_none, raised_within}
use Rattle.daide_reader.proofs.SliceLemmas.{slice_on, stands_before, stands_still, tokens_of-drop}
use Rattle.daide_reader.proofs.reader.Reader.read.Goals as goal

-- the tokens that were read are within the body
read_within : (tokens read size : ℕ) → tokens ≡ read → 2 * read ≤ size → 2 * tokens ≤ size
read_within tokens read size same within = omega arith

all_within : (size : ℕ) → size ≤ size
all_within size = omega arith

-- no new whole token
pub returns-then-read-body : goal.returns-then-read-body
returns-then-read-body g c = record {
  stands_after = λ words first max_depth h.
      stands_still g.T.Predict words first max_depth _ _ c.args.body.now c.self.view_is
      (c.if-read-body.true ∙ sym (tokens_of-length c.args.body.now)) h;
  unchanged = λ _. refl;
  tokens = sym (ap (λ (v : Reading g.row.T.Denot). tokens_read v) c.self.view_is) ∙ c.if-read-body.true;
  words = refl;
  depth = refl;
  base = refl;
  raised = raised_none _ _ refl;
  unasked = λ _. refl;
  unfinished = c.requires.unfinished;
}

-- a new whole token
pub on-outline-requires : goal.on-outline-requires
on-outline-requires g c =
    let same = ap (λ (v : Reading g.row.T.Denot). tokens_read v) c.self.view_is in
    let within = c.requires.read_before in
    let unread = c.if-read-body.false in
    record { some = omega (arith, same, within, unread); short = c.requires.room }

pub overflow_mul-read : goal.overflow_mul-read
overflow_mul-read g c =
    let same = ap (λ (v : Reading g.row.T.Denot). tokens_read v) c.self.view_is in
    let within = c.requires.read_before in
    let room = c.requires.room in
    omega (arith, same, within, room)

pub slice_bounds-go_on-count : goal.slice_bounds-go_on-count
slice_bounds-go_on-count g c =
    read_within _ _ _ (ap (λ (v : Reading g.row.T.Denot). tokens_read v) c.self.view_is) c.requires.read_before

pub slice_bounds-go_on-start : goal.slice_bounds-go_on-start
slice_bounds-go_on-start g c =
    read_within _ _ _ (ap (λ (v : Reading g.row.T.Denot). tokens_read v) c.self.view_is) c.requires.read_before

pub slice_bounds-go_on-end : goal.slice_bounds-go_on-end
slice_bounds-go_on-end g c = all_within (length c.args.body.now)

-- the unread part is a body of its own
pub go_on-requires : goal.go_on-requires
go_on-requires g c =
    let b = c.args.body.now in
    let k = c.self.inside.outline.tokens in
    let same = ap (λ (v : Reading g.row.T.Denot). tokens_read v) c.self.view_is in
    let within = c.requires.read_before in
    let room = c.requires.room in
    let unread = c.if-read-body.false in
    let size : length (take (length b - 2 * k) (drop (2 * k) b)) ≡ length b - 2 * k =
    ap length (slice_on (2 * k) b) ∙ length-drop (2 * k) b in
    let tokens : c.on-outline.result.tokens ≡ length b / 2 =
    ap (λ (o : Outline). o.tokens) c.on-outline.ensures ∙ tokens_of-length b in (
      search rules,
      (
        c.requires.unfinished,
        (
          omega (arith, size, room),
          (
            omega (arith, size, same, within, unread),
            (
              omega (arith, size, same, within, tokens),
              (
                omega (arith, tokens, room),
                λ now. sym (ap (λ (v : Reading g.row.T.Denot). v.outline.is_prn) c.self.view_is)
                    ∙ plain_before c.self.inside.outline (begins_with_prn (tokens_of b)) c.self.invariant.fresh
                    (sym (ap (λ (o : Outline). o.is_prn) c.on-outline.ensures) ∙ now),
              ),
            ),
          ),
        ),
      ),
    )

pub returns : goal.returns
returns g c = record {
  stands_after = λ words first max_depth h.
      let b = c.args.body.now in
      let m = tokens_of b in
      let k = c.self.inside.outline.tokens in
      let rest = take (length b - 2 * k) (drop (2 * k) b) in
      let before = stands_before g.T.Predict words first max_depth _ _ b c.self.view_is h in
      let whole : take k m ++ tokens_of rest ≡ m =
      ap (λ (q : List ℕ). take k m ++ tokens_of q) (slice_on (2 * k) b)
      ∙ (ap (λ (q : List ℕ). take k m ++ q) (tokens_of-drop k b) ∙ take-append-drop k m) in
      let outline : IsOutlineOf c.on-outline.result m =
      subst (λ (o : Outline). IsOutlineOf o m) (sym c.on-outline.ensures) (outline_on-is _ m before.outline) in
      subst (λ (q : List ℕ). HasReadPrefix g.T.Predict words first max_depth c.go_on.new.self q) whole
      (c.go_on.ensures.stands_after words first max_depth (take k m)
      (subst (λ (q : List ℕ). IsOutlineOf c.on-outline.result q) (sym whole) outline)
      (subst (λ (v : Reading g.row.T.Denot). HasReadPrefix g.T.Predict words first max_depth v (take k m)) c.self.view_is
      before));
  unchanged = λ none.
      absurd (c.if-read-body.false (ap (λ (v : Reading g.row.T.Denot). tokens_read v) c.self.view_is ∙ none));
  tokens =
      c.go_on.ensures.tokens
      ∙ (ap (λ (o : Outline). o.tokens) c.on-outline.ensures ∙ tokens_of-length c.args.body.now);
  words = c.go_on.ensures.words;
  depth = c.go_on.ensures.depth;
  base = c.go_on.ensures.base;
  raised =
      let b = c.args.body.now in
      let k = c.self.inside.outline.tokens in
      let same = ap (λ (v : Reading g.row.T.Denot). tokens_read v) c.self.view_is in
      let size : length (take (length b - 2 * k) (drop (2 * k) b)) ≡ length b - 2 * k =
      ap length (slice_on (2 * k) b) ∙ length-drop (2 * k) b in
      raised_within _ _ _ _ _ (omega (arith, size, same)) refl c.go_on.ensures.raised;
  unasked = c.go_on.ensures.unasked;
  unfinished = c.go_on.ensures.unfinished;
}
