use Rattle.daide_channels.proofs.Common.{◌≡◌, ◌-◌, ℕ, sym, ap, ◌∙◌, arith, first_len, at, Queue}
use Rattle.daide_channels.specs.Channels.{fields, Channels, answer_at, size_of_first}
use Rattle.daide_channels.proofs.FrontLemmas.{begun_within, first_len_is, none_left, waits_at}
use Rattle.daide_channels.proofs.channels.Channels.first_len.Goals as goal

pub overflow_sub-result : goal.overflow_sub-result
overflow_sub-result g c =
    let d = c.self.inside in
    let f = fields d.receivers d.wires in
    let within = begun_within f c.args.to c.self.invariant in
    let size : c.first_frame_len.result ≡ size_of_first (answer_at f.sides) (at f.wires c.args.to).items =
    c.first_frame_len.ensures ∙ ap (λ (q : Queue). size_of_first (answer_at f.sides) q.items) c.at-wire.ensures in
    let written : c.written.result ≡ (at f.wires c.args.to).written =
    c.written.ensures ∙ ap (λ (q : Queue). q.written) c.at-wire.ensures in
    omega arith

pub returns-clause-value : goal.returns-clause-value
returns-clause-value g c =
    let d = c.self.inside in
    let f = fields d.receivers d.wires in
    let size : c.first_frame_len.result ≡ size_of_first (answer_at f.sides) (at f.wires c.args.to).items =
    c.first_frame_len.ensures ∙ ap (λ (q : Queue). size_of_first (answer_at f.sides) q.items) c.at-wire.ensures in
    let written : c.written.result ≡ (at f.wires c.args.to).written =
    c.written.ensures ∙ ap (λ (q : Queue). q.written) c.at-wire.ensures in
    ap (λ (n : ℕ). n - c.written.result) size
    ∙ ap (λ (n : ℕ). size_of_first (answer_at f.sides) (at f.wires c.args.to).items - n) written
    ∙ first_len_is f c.args.to
    ∙ ap first_len (sym (waits_at f c.args.to) ∙ ap (λ (v : Channels). at v.queued c.args.to) c.self.view_is)

pub returns-clause-none : goal.returns-clause-none
returns-clause-none g c e =
    let d = c.self.inside in
    let f = fields d.receivers d.wires in
    let size : c.first_frame_len.result ≡ size_of_first (answer_at f.sides) (at f.wires c.args.to).items =
    c.first_frame_len.ensures ∙ ap (λ (q : Queue). size_of_first (answer_at f.sides) q.items) c.at-wire.ensures in
    let written : c.written.result ≡ (at f.wires c.args.to).written =
    c.written.ensures ∙ ap (λ (q : Queue). q.written) c.at-wire.ensures in
    ap (λ (v : Channels). at v.queued c.args.to) (sym c.self.view_is) ∙ waits_at f c.args.to
    ∙ none_left f c.args.to c.self.invariant (omega (arith, size, written, e))
