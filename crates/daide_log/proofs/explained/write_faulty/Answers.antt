use Rattle.daide_log.proofs.Common.{◌++◌, ◌∙◌, ℕ, List, ap, append_assoc, holding}
use Rattle.daide_log.specs.Explained.{fault_name, faulty_bytes, with_line_feed}
use Rattle.daide_log.proofs.EventLemmas.{on_ok}
use Rattle.daide_log.proofs.TextLemmas.{held_of_parts}
use Rattle.daide_log.proofs.explained.write_faulty.Goals as goal

pub returns-clause-text : goal.returns-clause-text
returns-clause-text g c =
    let old = c.args.text.now.items in
    let frame_bytes = (holding c.args.session.now c.args.side).frame_bytes in
    let line = with_line_feed (fault_name c.args.session.now.state.limits.cap c.args.code frame_bytes) in
    let bytes = held_of_parts frame_bytes c.header.result.now c.body.result.now c.append-2.new.list.items c.header.ensures.value
    c.body.ensures.value (c.in_ok-append-2.ensures.appended ∙ ap (λ (l : List ℕ). l ++ c.body.result.now)
    (c.in_ok-append.ensures.appended ∙ ap (λ (l : List ℕ). l ++ c.header.result.now) c.new-bytes.ensures.items)) in
    on_ok c.write_faulty_bytes.result _ _ c.write_faulty_bytes.ensures.text
    (λ e. e
    ∙ ap (λ (l : List ℕ). c.append_text.new.text.items ++ faulty_bytes c.args.code l) (c.as_slice.ensures.value ∙ bytes)
    ∙ ap (λ (l : List ℕ). l ++ faulty_bytes c.args.code frame_bytes)
    (c.in_ok-append_text.ensures.appended ∙ ap (λ (l : List ℕ). old ++ with_line_feed l) c.fault_name-name.ensures)
    ∙ append_assoc old line (faulty_bytes c.args.code frame_bytes))
