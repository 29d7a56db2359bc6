use Rattle.std.proofs.Common.{◌≡◌, ◌++◌, false, map, drop}
use Rattle.clap.specs.Words.{shape_of}
use Rattle.daide_command_line.specs.CommandTable.{HaveNoGlobals, shape_for}
use Rattle.daide_command_line.proofs.command_line.commands_of.Given as goal

-- the shapes of the commands so far and of the rows that are left are those of all rows
abbrev pub invariant-loop-row : goal.invariant-loop-row
invariant-loop-row l = record {
  shapes : l.takes_negative ≡ false → map shape_of l.commands.items ++ map shape_for (drop l.row-index l.rows) ≡ map shape_for l.rows;
  local : HaveNoGlobals l.commands.items;
}
