use Rattle.std.proofs.Common.{◌≡◌, ◌++◌, take}
use Rattle.std.specs.List.{flat_map}
use Rattle.image_writer.specs.HeaderTable.{directory_fields}
use Rattle.image_writer.proofs.headers.push_directories.Given as goal

abbrev pub invariant-loop-directory : goal.invariant-loop-directory
invariant-loop-directory l = l.out.items ≡ l.initial.out.items ++ flat_map directory_fields (take l.directory-index l.directories)
