use Rattle.daide_protocol.proofs.Common.{◌≡◌, ◌-◌, ◌*◌, take, tokens_of, lvl_scan_of}
use Rattle.daide_reader.specs.Reading.{IsRaised}
use Rattle.daide_protocol.proofs.hlo.HloScan.read_on.Given as goal

-- each token before i was examined once
abbrev pub invariant-loop-i : goal.invariant-loop-i
invariant-loop-i l =
    (l.initial.self.found ≡ lvl_scan_of (tokens_of (take (2 * l.from) l.body)) →
    l.self.found ≡ lvl_scan_of (take l.i (tokens_of l.body)))
    × IsRaised (l.i - l.from) l.initial.self.looked_at l.self.looked_at
