use Rattle.std.proofs.Common.{◌≡◌, true, length}
use Rattle.std.specs.List.{list_all}
use Rattle.std.specs.Io.KnownBytes.{Consumes}
use Rattle.daide_text.specs.Lines.{is_no_end}
use Rattle.daide_text.proofs.input.read_line.Given as goal

-- the line so far is what the reader returned, one byte each turn, without a line feed
abbrev pub invariant-loop-count : goal.invariant-loop-count
invariant-loop-count g l = record {
  given : Consumes (g.R.Read.remaining l.initial.reader) (g.R.Read.remaining l.reader) l.line.items;
  unbroken : list_all is_no_end l.line.items ≡ true;
  counted : length l.line.items ≡ l._count;
}
