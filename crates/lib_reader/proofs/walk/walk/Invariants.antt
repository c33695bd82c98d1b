use Rattle.std.proofs.Common.{◌≡◌, ◌+◌, ◌-◌, ◌*◌, ◌≤◌, None, length}
use Rattle.std.specs.Option.{option_copied}
use Rattle.link_base.specs.Bytes.{first_below}
use Rattle.lib_reader.specs.LibraryWalk.{header_at, ends_walk, first_listed, second_listed, long_names_data}
use Rattle.lib_reader.proofs.walk.walk.Given as goal

abbrev pub invariant-loop-at : goal.invariant-loop-at
invariant-loop-at l = record {
  place : l.at ≡ header_at l.bytes l.position;
  room : 8 + 60 * l.position ≤ l.at;
  near : l.at ≤ length l.bytes + 1;
  goes_on : first_below l.position (ends_walk l.bytes) ≡ None;
  first : l.directories.first ≡ first_listed l.bytes l.position;
  second : l.directories.second ≡ second_listed l.bytes l.position;
  long_names : option_copied l.long_names ≡ long_names_data l.bytes l.position;
}

abbrev pub decreases-loop-at : goal.decreases-loop-at
decreases-loop-at l = length l.bytes + 1 - l.at
