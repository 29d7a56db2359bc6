use Rattle.daide_explain.proofs.Common.{◌≤◌, take, tokens_of}
use Rattle.daide_explain.proofs.Scans.{Scan}
use Rattle.daide_explain.proofs.brackets.find_unpaired.Given as goal

abbrev pub invariant-loop-i : goal.invariant-loop-i
invariant-loop-i l =
    record { scanned : Scan (take l.i (tokens_of l.fn.body)) l.opened l.first; few : l.opened ≤ l.i }
