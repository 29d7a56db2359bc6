use Rattle.std.proofs.lemmas.List.{nil_from_length}
use Rattle.daide_channels.proofs.Common.{◌≡◌, ℕ, ◌+◌, ◌-◌, ◌*◌, ◌/◌, ◌≤◌, List, [], None, true, false, length, take}
use Rattle.daide_channels.proofs.Common.{drop, rules, refl, sym, ap, ◌∙◌, subst, arith, tokens_of, fed, head_in}
use Rattle.daide_channels.proofs.Common.{start_symbol_of, ghosts, extended_look_ups, spoken_words, spoken, lvl_scan_of}
use Rattle.daide_channels.proofs.Common.{side2_of, frame_tokens, is_dm_head, Reading, IsRaised, HasReadPrefix, Receiver}
use Rattle.daide_channels.proofs.Common.{ReadsMessageBytes, receiver_of, tokens_ended, words_in}
use Rattle.daide_words.specs.declared.extended.Extended.{Extended}
use Rattle.daide_reader.specs.Reading.{tokens_read}
use Rattle.daide_channels.proofs.ReceiverLemmas.{bodiless_before, few_ended, fed_on, fed_past, none_begun, none_held}
use Rattle.daide_channels.proofs.ReceiverLemmas.{raised_most, read_along, reads_of, rules_kept}
use Rattle.daide_channels.proofs.receiver.Receiver.feed.Goals as goal

pub read-requires : goal.read-requires
read-requires g c =
    let i = c.self.inside in
    let cut = c.feed-step.new.self in
    let dm : is_dm_head (head_in cut.cap cut.bytes) ≡ true =
    ap is_dm_head (sym c.head.ensures) ∙ (sym c.is_message.ensures ∙ c.if-is_message.true) in
    let on = fed_on i.cutter.cap i.cutter.bytes c.args.piece.now cut c.feed-step.ensures.cap c.feed-step.ensures.bytes
    dm in
    let none : i.verdict ≡ None = ap (λ (v : Receiver). v.verdict) c.self.view_is ∙ c.requires.free in
    let read = c.self.invariant.stands.outline.tokens in
    let within = on.within in
    let value = ap length c.body-then-is_message.ensures.value in
    let capped = c.body-then-is_message.ensures.capped in
    let inside = c.body-then-is_message.ensures.within in
    let limit = c.self.invariant.capped in
    let same = c.feed-step.ensures.cap in
    (search rules, (c.self.invariant.unfinished none, (omega arith, omega arith)))

pub read-requires-then-is_message-clause-came_before : goal.read-requires-then-is_message-clause-came_before
read-requires-then-is_message-clause-came_before g c =
    let i = c.self.inside in
    let cut = c.feed-step.new.self in
    let dm : is_dm_head (head_in cut.cap cut.bytes) ≡ true =
    ap is_dm_head (sym c.head.ensures) ∙ (sym c.is_message.ensures ∙ c.if-is_message.true) in
    let on = fed_on i.cutter.cap i.cutter.bytes c.args.piece.now cut c.feed-step.ensures.cap c.feed-step.ensures.bytes
    dm in
    let read = c.tokens-read.ensures ∙ c.self.invariant.stands.outline.tokens in
    let within = on.within in
    let value = ap length c.body-then-is_message-2.ensures.value in
    omega arith

pub invariant_of-self : goal.invariant_of-self
invariant_of-self g c =
    let i = c.self.inside in
    let cut = c.feed-step.new.self in
    let first = start_symbol_of (side2_of i.side) i.level in
    let none : i.verdict ≡ None = ap (λ (v : Receiver). v.verdict) c.self.view_is ∙ c.requires.free in
    let empty : length c.body.result.now ≡ 0 = search rules in
    let now : drop 4 cut.bytes ≡ [] = sym c.body.ensures.value ∙ nil_from_length c.body.result.now empty in
    let before = bodiless_before i.cutter.cap i.cutter.bytes c.args.piece.now
    (ap (drop 4) (sym c.feed-step.ensures.bytes) ∙ now) in
    let same = none_begun i.cutter.cap i.cutter.bytes before ∙ sym (none_begun cut.cap cut.bytes now) in
    read_along ghosts extended_look_ups i.side i.level i.cutter cut i.reader i.reader i.hlo i.hlo i.header i.verdict
    c.self.invariant none c.feed-step.ensures.cap refl refl (c.self.invariant.unfinished none)
    (subst (λ (p : List ℕ). HasReadPrefix ghosts (spoken_words i.reader.table) first i.reader.max_depth i.reader p) same
    c.self.invariant.stands)
    (c.self.invariant.found ∙ ap lvl_scan_of same)
    (λ no. c.self.invariant.uncounted (fed_past i.cutter.cap i.cutter.bytes c.args.piece.now cut
    c.feed-step.ensures.cap c.feed-step.ensures.bytes no)) (λ bare. c.self.invariant.unasked none before)

pub invariant_of-self-then-is_message : goal.invariant_of-self-then-is_message
invariant_of-self-then-is_message g c =
    let i = c.self.inside in
    let cut = c.feed-step.new.self in
    let first = start_symbol_of (side2_of i.side) i.level in
    let dm : is_dm_head (head_in cut.cap cut.bytes) ≡ true =
    ap is_dm_head (sym c.head.ensures) ∙ (sym c.is_message.ensures ∙ c.if-is_message.true) in
    let on = fed_on i.cutter.cap i.cutter.bytes c.args.piece.now cut c.feed-step.ensures.cap c.feed-step.ensures.bytes
    dm in
    let read = c.self.invariant.stands.outline.tokens in
    let none : i.verdict ≡ None = ap (λ (v : Receiver). v.verdict) c.self.view_is ∙ c.requires.free in
    let seen : tokens_of (take (2 * tokens_read i.reader) c.body-then-is_message.result.now)
    ≡ frame_tokens i.cutter.cap i.cutter.bytes =
    ap (λ (n : ℕ). tokens_of (take (2 * n) c.body-then-is_message.result.now)) read
    ∙ ap (λ (x : List ℕ). tokens_of (take (2 * length (frame_tokens i.cutter.cap i.cutter.bytes)) x))
    c.body-then-is_message.ensures.value
    ∙ on.front in
    let stands = c.read.ensures.stands_after (spoken_words i.reader.table) first i.reader.max_depth
    (subst (λ (p : List ℕ). HasReadPrefix ghosts (spoken_words i.reader.table) first i.reader.max_depth i.reader p)
    (sym seen) c.self.invariant.stands) in
    let hlo = c.read-then-is_message in
    let whole = c.body-then-is_message-2 in
    let seen_again : tokens_of (take (2 * c.tokens-read.result) whole.result.now)
    ≡ frame_tokens i.cutter.cap i.cutter.bytes =
    ap (λ (n : ℕ). tokens_of (take (2 * n) whole.result.now)) (c.tokens-read.ensures ∙ read)
    ∙ ap (λ (x : List ℕ). tokens_of (take (2 * length (frame_tokens i.cutter.cap i.cutter.bytes)) x))
    whole.ensures.value
    ∙ on.front in
    let found = hlo.ensures.found (c.self.invariant.found ∙ ap lvl_scan_of (sym seen_again))
    ∙ ap lvl_scan_of (ap tokens_of whole.ensures.value ∙ sym on.all) in
    read_along ghosts extended_look_ups i.side i.level i.cutter cut i.reader c.read.new.self i.hlo hlo.new.self i.header
    i.verdict
    c.self.invariant none c.feed-step.ensures.cap c.read.ensures.depth c.read.ensures.words c.read.ensures.unfinished
    (subst (λ (p : List ℕ). HasReadPrefix ghosts (spoken_words i.reader.table) first i.reader.max_depth c.read.new.self p)
    (ap tokens_of c.body-then-is_message.ensures.value ∙ sym on.all) stands) found (λ no. absurd (cc))
    (λ bare. c.read.ensures.base
    ∙ (c.self.invariant.unasked none (bodiless_before i.cutter.cap i.cutter.bytes c.args.piece.now
    (ap (drop 4) (sym c.feed-step.ensures.bytes) ∙ bare))
    ∙ (let within = on.within in
    let z : length (drop 4 cut.bytes) ≡ 0 = ap length bare in
    let value : length c.body-then-is_message.result.now ≡ length (drop 4 cut.bytes) =
    ap length c.body-then-is_message.ensures.value in
    sym (ap (λ (r : Reading Extended). extended_look_ups r.table) (c.read.ensures.unchanged (omega arith))))))

pub invariant_of-self-else-is_message : goal.invariant_of-self-else-is_message
invariant_of-self-else-is_message g c =
    let i = c.self.inside in
    let cut = c.feed-step.new.self in
    let first = start_symbol_of (side2_of i.side) i.level in
    let dm : is_dm_head (head_in cut.cap cut.bytes) ≡ false =
    ap is_dm_head (sym c.head.ensures) ∙ (sym c.is_message.ensures ∙ c.if-is_message.false) in
    let past = fed_past i.cutter.cap i.cutter.bytes c.args.piece.now cut c.feed-step.ensures.cap
    c.feed-step.ensures.bytes dm in
    let none : i.verdict ≡ None = ap (λ (v : Receiver). v.verdict) c.self.view_is ∙ c.requires.free in
    read_along ghosts extended_look_ups i.side i.level i.cutter cut i.reader i.reader i.hlo i.hlo i.header i.verdict
    c.self.invariant none c.feed-step.ensures.cap refl refl (c.self.invariant.unfinished none)
    (subst (λ (p : List ℕ). HasReadPrefix ghosts (spoken_words i.reader.table) first i.reader.max_depth i.reader p)
    (none_held i.cutter.cap i.cutter.bytes past ∙ sym (none_held cut.cap cut.bytes dm)) c.self.invariant.stands)
    (c.self.invariant.found ∙ ap lvl_scan_of (none_held i.cutter.cap i.cutter.bytes past
    ∙ sym (none_held cut.cap cut.bytes dm)))
    (λ no. c.self.invariant.uncounted past)
    (λ bare. c.self.invariant.unasked none (bodiless_before i.cutter.cap i.cutter.bytes c.args.piece.now
    (ap (drop 4) (sym c.feed-step.ensures.bytes) ∙ bare)))

pub returns-then-is_message-clause-reads : goal.returns-then-is_message-clause-reads
returns-then-is_message-clause-reads g c =
    let i = c.self.inside in
    let cut = c.feed-step.new.self in
    let dm : is_dm_head (head_in cut.cap cut.bytes) ≡ true =
    ap is_dm_head (sym c.head.ensures) ∙ (sym c.is_message.ensures ∙ c.if-is_message.true) in
    let on = fed_on i.cutter.cap i.cutter.bytes c.args.piece.now cut c.feed-step.ensures.cap c.feed-step.ensures.bytes
    dm in
    let read = c.self.invariant.stands.outline.tokens in
    let within = on.within in
    let none : i.verdict ≡ None = ap (λ (v : Receiver). v.verdict) c.self.view_is ∙ c.requires.free in
    let value : length c.body-then-is_message.result.now ≡ length (drop 4 cut.bytes) =
    ap length c.body-then-is_message.ensures.value in
    let hlo = c.read-then-is_message.new.self in
    let new = receiver_of words_in extended_look_ups i.side i.level cut c.read.new.self hlo i.header i.verdict in
    subst (λ (v : Receiver). ReadsMessageBytes v (fed v.cap v.frame_bytes c.args.piece.now) new) c.self.view_is
    (reads_of ghosts words_in extended_look_ups i.side i.level i.cutter cut i.reader c.read.new.self i.hlo hlo i.header
    i.verdict (fed i.cutter.cap i.cutter.bytes c.args.piece.now) c.self.invariant none c.feed-step.ensures.cap
    c.feed-step.ensures.bytes
    (rules_kept words_in i.reader c.read.new.self c.read.ensures.depth (ap spoken c.read.ensures.words))
    c.read.ensures.base (λ no. absurd (cc))
    (λ empty. let z : length (drop 4 cut.bytes) ≡ 0 = ap length empty in
    ap (λ (r : Reading Extended). extended_look_ups r.table) (c.read.ensures.unchanged (omega arith))))

pub returns-then-is_message-clause-raised : goal.returns-then-is_message-clause-raised
returns-then-is_message-clause-raised g c =
    let i = c.self.inside in
    let cut = c.feed-step.new.self in
    let dm : is_dm_head (head_in cut.cap cut.bytes) ≡ true =
    ap is_dm_head (sym c.head.ensures) ∙ (sym c.is_message.ensures ∙ c.if-is_message.true) in
    let on = fed_on i.cutter.cap i.cutter.bytes c.args.piece.now cut c.feed-step.ensures.cap c.feed-step.ensures.bytes
    dm in
    let read = c.self.invariant.stands.outline.tokens in
    let ended = on.ended in
    let value : length c.body-then-is_message.result.now ≡ length (drop 4 cut.bytes) =
    ap length c.body-then-is_message.ensures.value in
    let le : 4 * (length c.body-then-is_message.result.now / 2 - tokens_read i.reader)
    ≤ 4 * tokens_ended i.cutter.cap i.cutter.bytes c.args.piece.now = rw (value, read) (omega (arith, ended)) in
    subst (λ (v : Receiver). IsRaised (4 * tokens_ended v.cap v.frame_bytes c.args.piece.now) v.total
    (extended_look_ups c.read.new.self.table))
    c.self.view_is (raised_most _ _ _ _ le c.read.ensures.raised)

pub returns-then-is_message-clause-looked_at : goal.returns-then-is_message-clause-looked_at
returns-then-is_message-clause-looked_at g c =
    let i = c.self.inside in
    let cut = c.feed-step.new.self in
    let dm : is_dm_head (head_in cut.cap cut.bytes) ≡ true =
    ap is_dm_head (sym c.head.ensures) ∙ (sym c.is_message.ensures ∙ c.if-is_message.true) in
    let on = fed_on i.cutter.cap i.cutter.bytes c.args.piece.now cut c.feed-step.ensures.cap c.feed-step.ensures.bytes
    dm in
    let read = c.tokens-read.ensures ∙ c.self.invariant.stands.outline.tokens in
    let ended = on.ended in
    let few = few_ended i.cutter.cap i.cutter.bytes c.args.piece.now in
    let hlo = c.read-then-is_message in
    let whole = c.body-then-is_message-2 in
    let value : length whole.result.now ≡ length (drop 4 cut.bytes) = ap length whole.ensures.value in
    let le : length whole.result.now / 2 - c.tokens-read.result ≤ length c.args.piece.now / 2 + 1 = rw
    (value, read) (omega (arith, ended, few)) in
    subst (λ (v : Receiver). IsRaised (length c.args.piece.now / 2 + 1) v.looked_at hlo.new.self.looked_at)
    c.self.view_is (raised_most _ _ _ _ le hlo.ensures.looked_at)
