use Rattle.daide_show.proofs.Common.{◌≡◌, ℕ, length, List, ◌++◌, arith, ap, ◌∙◌, sym, append_assoc}
use Rattle.daide_frame.specs.Frames.{fed, fed_items, missing}
use Rattle.daide_show.proofs.OneFrame.{found_short, room_of_header, header_found, header_begun, body_found}
use Rattle.daide_show.proofs.OneFrame.{nothing_left}
use Rattle.daide_show.proofs.frame_view.one_frame.find_frame.Goals as goal

pub returns-then-bytes-lt4 : goal.returns-then-bytes-lt4
returns-then-bytes-lt4 g c = found_short _ _ c.if-bytes-lt4.true

pub feed-requires : goal.feed-requires
feed-requires g c =
    let room = room_of_header c.args.cutter.now.cap c.args.cutter.now.bytes c.requires in
    omega (arith, c.split_at.ensures.front_len)

pub returns-in_default : goal.returns-in_default
returns-in_default g c =
    header_found c.args.cutter.now.cap c.args.bytes.now c.split_at.result.0.now c.split_at.result.1.now
    c.feed.new.self.bytes
    c.feed.result c.is_empty.result c.found_of.result c.split_at.ensures.by_index.0
    c.split_at.ensures.front_len
    (rw c.requires at c.feed.ensures.bytes)
    (rw c.requires at c.feed.ensures.items)
    (rw c.requires at c.feed.ensures.whole)
    c.in_default.not-Headed
    c.is_empty.ensures
    c.found_of.ensures

pub returns : goal.returns
returns g c =
    let cap = c.args.cutter.now.cap in
    let header = c.split_at.result.0.now in
    let rest = c.split_at.result.1.now in
    let fed_header = c.feed.new.self.bytes in
    let body = c.split_at-2.result.0.now in
    let after = c.split_at-2.result.1.now in
    let begun = header_begun cap header fed_header c.feed.result _ c.split_at.ensures.front_len
    (rw c.requires at c.feed.ensures.bytes) (rw c.requires at c.feed.ensures.items)
    (rw c.requires at c.feed.ensures.whole) c.in-Headed.is in
    let split : c.args.bytes.now ≡ (fed_header ++ body) ++ after =
    c.split_at.ensures.by_index.0 ∙ ap (λ (l : List ℕ). header ++ l) c.split_at-2.ensures.by_index.0
    ∙ sym (append_assoc header body after)
    ∙ ap (λ (l : List ℕ). (l ++ body) ++ after) (sym begun.0) in
    let four : length fed_header ≡ 4 = ap length begun.0 ∙ c.split_at.ensures.front_len in
    let room : c.room.result ≡ missing cap fed_header =
    c.room.ensures ∙ ap (λ (k : ℕ). missing k fed_header) c.feed.ensures.cap in
    let size = c.split_at-2.ensures.front_len in
    let left = c.split_at-2.ensures.back_len in
    let least = c.min.ensures in
    body_found cap c.args.bytes.now fed_header body after c.feed-step.new.self.bytes _ c.feed-step.result
    c.is_empty-2.result c.found_of-2.result
    split four begun.1 (omega arith) (λ some. nothing_left after (omega arith))
    (c.feed-step.ensures.bytes ∙ ap (λ (k : ℕ). fed k fed_header body) c.feed.ensures.cap)
    (ap (λ (k : ℕ). fed_items k fed_header body) (sym c.feed.ensures.cap) ∙ c.feed-step.ensures.items)
    c.feed-step.ensures.whole
    c.is_empty-2.ensures
    c.found_of-2.ensures
