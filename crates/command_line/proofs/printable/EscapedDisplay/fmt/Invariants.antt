use Rattle.std.proofs.Common.{◌≤◌, take}
use Rattle.std.specs.Fmt.{HasWritten, IsPlainFormatter}
use Rattle.command_line.specs.Printed.{escaped}
use Rattle.command_line.proofs.Plain.{PlainFrom}
use Rattle.command_line.proofs.printable.EscapedDisplay.fmt.Given as goal

abbrev pub invariant-loop-at : goal.invariant-loop-at
invariant-loop-at g l = record {
  in_order : l.start ≤ l.at;
  run : PlainFrom l.start l.at l.bytes;
  so_far : IsPlainFormatter l.initial.f → HasWritten g.W.Write.write_str_gives l.initial.f (escaped (take l.start l.bytes)) l.f;
}
