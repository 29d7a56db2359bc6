use Rattle.std.proofs.Common.{arith, sym, ◌∙◌, ap, subst, ◌+◌, List, ℕ, drop, true, false}
use Rattle.daide_log_lines.specs.Lines.{Scans}
use Rattle.daide_log_lines.proofs.LineLemmas.{line_scanned, part_scanned}
use Rattle.daide_log_lines.proofs.lines.scan.Goals as goal

pub returns-in-Some : goal.returns-in-Some
returns-in-Some c =
    let grown = c.put.ensures in
    let full = c.len-room.ensures.fits in
    subst (λ (l : List ℕ). Scans l c.args.text.now.items true c.skip.new.self c.put.new.self.items)
    c.as_slice-buffered.ensures.value
    (line_scanned c.as_slice-buffered.result.now c.args.text.now.items c.min.result c.in-Some.n c.skip.new.self
    c.put.new.self.items (omega (arith, c.min.ensures))
    (omega (arith, c.min.ensures, c.len-room.ensures.value, full)) c.in-Some.ensures.0 c.in-Some.ensures.1 c.in-Some.ensures.2
    (c.skip.ensures ∙ ap (drop (c.in-Some.n + 1)) (sym c.as_slice-buffered.ensures.value)) grown c.as_slice-buffered.ensures.fits)

pub returns-in-None : goal.returns-in-None
returns-in-None c =
    let grown = c.put-in-None.ensures in
    let full = c.len-room.ensures.fits in
    subst (λ (l : List ℕ).
    Scans l c.args.text.now.items false c.skip-in-None.new.self c.put-in-None.new.self.items)
    c.as_slice-buffered.ensures.value
    (part_scanned c.as_slice-buffered.result.now c.args.text.now.items c.min.result c.skip-in-None.new.self
    c.put-in-None.new.self.items (omega (arith, c.min.ensures))
    (λ less. omega (arith, c.min.ensures, c.len-room.ensures.value, full)) c.in-None.ensures
    (c.skip-in-None.ensures ∙ ap (drop _) (sym c.as_slice-buffered.ensures.value)) grown c.as_slice-buffered.ensures.fits)
