-- The levels of a tree whose tables lead to tables, and runs of resources as plain data.
use Rattle.std.specs.Prelude.{Bool}
use Rattle.res_merge.specs.declared.runs.Level.{Level}
use Rattle.res_merge.specs.declared.runs.Level.TheVariants.{Types, Names}
use Rattle.res_merge.specs.declared.runs.Run as code
use Rattle.res_merge.specs.Entries.{Key, Entry, entry_of}
use Rattle.res_merge.specs.Runs as spec

abbrev pub same_at : Level → Entry → Entry → Bool
same_at Types = spec.same_kind
same_at Names = spec.same_name

abbrev pub key_at : Level → spec.Run → Key
key_at Types = spec.kind_of_run
key_at Names = spec.name_of_run

abbrev pub run_of : code.Run → spec.Run
run_of run = record { head = entry_of run.head; count = run.count }
