use Rattle.std.proofs.Common.{◌≡◌, ◌++◌, false, map, drop}
use Rattle.clap.specs.Words.{rule_of}
use Rattle.daide_command_line.specs.CommandTable.{AreLocal, rule_for}
use Rattle.daide_command_line.proofs.command_line.args_of.Given as goal

-- the rules of the arguments so far and of the rows that are left are those of all rows
abbrev pub invariant-loop-row : goal.invariant-loop-row
invariant-loop-row l = record {
  rules : l.takes_negative ≡ false → map rule_of l.args.items ++ map rule_for (drop l.row-index l.rows) ≡ map rule_for l.rows;
  local : AreLocal l.args.items;
}
