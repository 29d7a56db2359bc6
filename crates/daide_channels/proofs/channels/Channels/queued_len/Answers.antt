use Rattle.daide_channels.proofs.Common.{◌≡◌, ◌-◌, ℕ, length, sym, ap, ◌∙◌, arith, sum_by, at, sent_bytes, Queue}
use Rattle.daide_channels.specs.Channels.{fields, Channels, answer_at}
use Rattle.daide_channels.proofs.FrontLemmas.{waits_at}
use Rattle.daide_channels.proofs.QueuedLemmas.{len_in, queued_len_is}
use Rattle.daide_channels.proofs.channels.Channels.queued_len.Goals as goal

-- the length of all frames, and the bytes sent of the first
pub overflow_sub-result : goal.overflow_sub-result
overflow_sub-result g c =
    let d = c.self.inside in
    let f = fields d.receivers d.wires in
    let within = (queued_len_is f c.args.to c.self.invariant).0 in
    let all : c.frames_len.result ≡ sum_by (len_in (answer_at f.sides)) (at f.wires c.args.to).items =
    c.frames_len.ensures ∙ ap (sum_by (len_in (answer_at f.sides))) c.frames.ensures.value
    ∙ ap (λ (q : Queue). sum_by (len_in (answer_at f.sides)) q.items) c.at-wire.ensures in
    let written : c.written.result ≡ (at f.wires c.args.to).written =
    c.written.ensures ∙ ap (λ (q : Queue). q.written) c.at-wire.ensures in
    omega (arith, within, all, written)

pub returns : goal.returns
returns g c =
    let d = c.self.inside in
    let f = fields d.receivers d.wires in
    let all : c.frames_len.result ≡ sum_by (len_in (answer_at f.sides)) (at f.wires c.args.to).items =
    c.frames_len.ensures ∙ ap (sum_by (len_in (answer_at f.sides))) c.frames.ensures.value
    ∙ ap (λ (q : Queue). sum_by (len_in (answer_at f.sides)) q.items) c.at-wire.ensures in
    let written : c.written.result ≡ (at f.wires c.args.to).written =
    c.written.ensures ∙ ap (λ (q : Queue). q.written) c.at-wire.ensures in
    ap (λ (n : ℕ). n - c.written.result) all
    ∙ ap (λ (n : ℕ). sum_by (len_in (answer_at f.sides)) (at f.wires c.args.to).items - n) written
    ∙ (queued_len_is f c.args.to c.self.invariant).1
    ∙ ap (λ xs. length (sent_bytes xs)) (sym (waits_at f c.args.to) ∙ ap (λ (v : Channels). at v.queued c.args.to) c.self.view_is)
