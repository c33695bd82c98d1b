-- What the code reads, as plain data.
use Rattle.std.specs.Prelude.{Result, Ok, Err}
use Rattle.link_base.specs.declared.kinds.resource.ResFault.{ResFault}
use Rattle.res_merge.specs.Entries.{key_of, entry_of}
use Rattle.res_merge.specs.ResourceFile as file
use Rattle.res_merge.specs.declared.names.NameRead.{NameRead}
use Rattle.res_merge.specs.declared.entry.Heading.{Heading}
use Rattle.res_merge.specs.declared.entry.EntryRead.{EntryRead}

abbrev pub name_said : Result NameRead ResFault → Result file.NameRead ResFault
name_said (Ok read) = Ok (record { name = key_of read.name; behind = read.behind })
name_said (Err fault) = Err fault

abbrev pub heading_of : Heading → file.Heading
heading_of heading = record { kind = key_of heading.kind; name = key_of heading.name; fields = heading.fields }

abbrev pub heading_said : Result Heading ResFault → Result file.Heading ResFault
heading_said (Ok heading) = Ok (heading_of heading)
heading_said (Err fault) = Err fault

abbrev pub entry_said : Result EntryRead ResFault → Result file.EntryRead ResFault
entry_said (Ok read) = Ok (record { entry = entry_of read.resource; next = read.next })
entry_said (Err fault) = Err fault
