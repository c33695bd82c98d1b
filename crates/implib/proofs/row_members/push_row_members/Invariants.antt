use Rattle.std.proofs.Common.{◌≡◌, ◌++◌, take}
use Rattle.implib.specs.ImportLibrary.{row_members}
use Rattle.implib.proofs.row_members.push_row_members.Given as goal

abbrev pub invariant-loop-row : goal.invariant-loop-row
invariant-loop-row l = l.out.items ≡ l.fn.out.items ++ row_members (take l.row-index l.rows) l.dll l.time
