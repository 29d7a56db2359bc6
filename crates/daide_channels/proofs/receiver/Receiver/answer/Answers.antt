use Rattle.daide_channels.proofs.Common.{◌≡◌, ℕ, List, true, false, drop, sym, ap, ◌∙◌, subst, refl, arith, length}
use Rattle.daide_channels.proofs.Common.{tokens_of, head_in, head_bytes, start_symbol_of, ghosts, extended_look_ups}
use Rattle.daide_channels.proofs.Common.{spoken_words, spoken, IsCorrectVerdict, question_of, is_dm, side2_of}
use Rattle.daide_channels.proofs.Common.{frame_tokens, is_dm_head, IsRaised, Receiver, rules_of, words_in}
use Rattle.daide_grammar.specs.SideMessages.{IsMessageOver}
use Rattle.daide_reader.specs.Verdict.{HasVerdict}
use Rattle.daide_reader.specs.declared.verdict.Verdict.TheVariants.{Relay}
use Rattle.daide_reader.proofs.BodyLemmas.{place_in}
use Rattle.daide_protocol.proofs.WordedVerdicts.{spoken_verdicts}
use Rattle.daide_channels.proofs.HeadLemmas.{head_capped}
use Rattle.daide_channels.proofs.ReceiverLemmas.{IsJudged, all_held, raised_none, right_message, right_other, rules_kept}
use Rattle.daide_channels.proofs.ReceiverLemmas.{stands_deep}
use Rattle.daide_channels.proofs.receiver.Receiver.answer.Given as given
use Rattle.daide_channels.proofs.receiver.Receiver.answer.Goals as goal
use Rattle.daide_channels.proofs.receiver.Receiver.answer.Goals.{then-is_message, else-is_message}

-- the length in the header is at most that of the longest body
pub answer_head-requires : goal.answer_head-requires
answer_head-requires g c =
    let i = c.self.inside in
    let limit = c.self.invariant.capped in
    let capped = head_capped i.cutter.cap i.cutter.bytes c.args.head
    (ap (λ (v : Receiver). head_in v.cap v.frame_bytes) c.self.view_is ∙ c.requires.head) in
    omega arith

-- the verdict, and the tokens read
answers : (g : given.Over) (c : goal.After-self-2-1 g) →
    IsJudged ghosts words_in extended_look_ups c.args.self.now c.if-is_message.self-inside.side
    c.if-is_message.self-inside.level c.if-is_message.self-inside.cutter c.if-is_message.self-inside.reader
    c.if-is_message.self-inside.hlo c.args.head c.if-is_message.verdict
answers g c = elim c.if-is_message.branch [
  | then-is_message w ↦ rw (w.self-inside-is, w.verdict-is) (
      let i = c.self.inside in
      let dm : is_dm c.args.head.kind ≡ true = sym c.is_message.ensures ∙ w.if-is_message.true in
      let tokens = frame_tokens i.cutter.cap i.cutter.bytes in
      let words = spoken (spoken_words i.reader.table) in
      let frame_bytes : is_dm_head (head_in i.cutter.cap i.cutter.bytes) ≡ true =
      ap is_dm_head (ap (λ (v : Receiver). head_in v.cap v.frame_bytes) c.self.view_is ∙ c.requires.head) ∙ dm in
      let told = w.finish-verdict.ensures.verdict (spoken_words i.reader.table)
      (start_symbol_of (side2_of i.side) i.level) i.reader.max_depth tokens
      c.self.invariant.stands in
      let right : HasVerdict (IsMessageOver words (side2_of i.side) i.level) i.reader.max_depth
      (tokens_of (drop 4 i.cutter.bytes))
      w.finish-verdict.result =
      subst (λ (p : List ℕ). HasVerdict (IsMessageOver words (side2_of i.side) i.level) i.reader.max_depth p
      w.finish-verdict.result)
      (all_held i.cutter.cap i.cutter.bytes frame_bytes)
      (spoken_verdicts (spoken_words i.reader.table) (side2_of i.side) i.level i.reader.max_depth tokens
      w.finish-verdict.result told) in
      record {
        capped = c.self.invariant.capped;
        place = place_in (IsMessageOver words (side2_of i.side) i.level) i.reader.max_depth (drop 4 i.cutter.bytes)
            w.finish-verdict.result right;
        stands = stands_deep ghosts i.side i.level i.reader w.finish-verdict.new.self i.cutter
            w.finish-verdict.ensures.depth w.finish-verdict.ensures.words
            (w.finish-verdict.ensures.stands_after (spoken_words i.reader.table)
            (start_symbol_of (side2_of i.side) i.level) i.reader.max_depth tokens c.self.invariant.stands);
        found = c.self.invariant.found;
        uncounted = λ no. absurd (cc);
        right = subst (λ (v : Receiver). IsCorrectVerdict v.rules.words v.rules.max_depth
            (question_of v.side v.level c.args.head (drop 4 v.frame_bytes)) w.finish-verdict.result) c.self.view_is
            (right_message (rules_of words_in i.reader) i.side i.level c.args.head
            (drop 4 i.cutter.bytes) w.finish-verdict.result dm
            right);
        same_side = ap (λ (v : Receiver). v.side) c.self.view_is;
        same_cap = ap (λ (v : Receiver). v.cap) c.self.view_is;
        same_level = ap (λ (v : Receiver). v.level) c.self.view_is;
        same_held = ap (λ (v : Receiver). v.frame_bytes) c.self.view_is;
        same_rules = rules_kept words_in i.reader w.finish-verdict.new.self w.finish-verdict.ensures.depth
            (ap spoken w.finish-verdict.ensures.words) ∙ ap (λ (v : Receiver). v.rules) c.self.view_is;
        base = w.finish-verdict.ensures.base ∙ ap (λ (v : Receiver). v.total_before) c.self.view_is;
        raised = subst (λ (v : Receiver). IsRaised 4 v.total (extended_look_ups w.finish-verdict.new.self.table))
            c.self.view_is w.finish-verdict.ensures.raised;
        no_message = λ no. absurd (cc);
        looked_at = ap (λ (v : Receiver). v.looked_at) c.self.view_is;
      })
  | else-is_message w ↦ rw (w.self-inside-is, w.verdict-is) (
      let i = c.self.inside in
      let dm : is_dm c.args.head.kind ≡ false = sym c.is_message.ensures ∙ w.if-is_message.false in
      record {
        capped = c.self.invariant.capped;
        place = tt;
        stands = c.self.invariant.stands;
        found = c.self.invariant.found;
        uncounted = c.self.invariant.uncounted;
        right = subst (λ (v : Receiver). IsCorrectVerdict v.rules.words v.rules.max_depth
            (question_of v.side v.level c.args.head (drop 4 v.frame_bytes)) Relay)
            c.self.view_is
            (right_other (rules_of words_in i.reader) i.side i.level c.args.head (drop 4 i.cutter.bytes) Relay dm refl);
        same_side = ap (λ (v : Receiver). v.side) c.self.view_is;
        same_cap = ap (λ (v : Receiver). v.cap) c.self.view_is;
        same_level = ap (λ (v : Receiver). v.level) c.self.view_is;
        same_held = ap (λ (v : Receiver). v.frame_bytes) c.self.view_is;
        same_rules = ap (λ (v : Receiver). v.rules) c.self.view_is;
        base = ap (λ (v : Receiver). v.total_before) c.self.view_is;
        raised = subst (λ (v : Receiver). IsRaised 4 v.total (extended_look_ups i.reader.table)) c.self.view_is
            (raised_none 4 (extended_look_ups i.reader.table));
        no_message = λ _. ap (λ (v : Receiver). v.total) c.self.view_is;
        looked_at = ap (λ (v : Receiver). v.looked_at) c.self.view_is;
      })
]

pub invariant_of-self : goal.invariant_of-self
unfolding head_bytes
invariant_of-self g c =
    let j = answers g c in
    record {
      four = ap length c.write_head-self-inside.ensures;
      place = j.place;
      capped = j.capped;
      stands = j.stands;
      found = j.found;
      unfinished = λ none. absurd (cc);
      uncounted = j.uncounted;
      unasked = λ none. absurd (cc);
    }

pub returns-clause-right : goal.returns-clause-right
returns-clause-right g c = (answers g c).right

pub returns-clause-answers : goal.returns-clause-answers
returns-clause-answers g c =
    let j = answers g c in
    record {
      side = j.same_side;
      cap = j.same_cap;
      rules = j.same_rules;
      level = j.same_level;
      frame_bytes = j.same_held;
      header = c.write_head-self-inside.ensures ∙ ap head_bytes c.answer_head.ensures;
      verdict_set = refl;
      base = j.base;
      looked_at = j.looked_at;
    }

pub returns-clause-raised : goal.returns-clause-raised
returns-clause-raised g c = (answers g c).raised

pub returns-clause-no_message : goal.returns-clause-no_message
returns-clause-no_message g c = (answers g c).no_message
