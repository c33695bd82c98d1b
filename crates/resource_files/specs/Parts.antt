-- What is kept of the resource files that were opened. Own.
use Rattle.std.specs.Prelude.{◌≡◌, ◌≤◌, ◌<◌, ◌^◌, length, map}
use Rattle.std.specs.List.{IsDistinct}
use Rattle.res_merge.specs.Entries.{Key, Number, Text, Entry, entry_of}
use Rattle.res_merge.specs.Order.{RESOURCE_LIMIT}
use Rattle.res_merge.specs.Found.{IsSmallKey, AreNumbered}
use Rattle.resource_files.specs.declared.key.KeyPart.{KeyPart}
use Rattle.resource_files.specs.declared.key.KeyPart.TheVariants as part
use Rattle.resource_files.specs.declared.key.ResourceKey.{ResourceKey}
use Rattle.resource_files.specs.declared.files.ResourceFiles.{ResourceFiles}
use Rattle.resource_files.specs.Held.{same_entry}

abbrev pub part_of : Key → KeyPart
part_of (Number number) = part.Number number
part_of (Text units) = part.Text units

-- what an entry is known by
abbrev pub known_by : Entry → ResourceKey
known_by entry = record { kind = part_of entry.kind; name = part_of entry.name; language = entry.language }

-- its numbers have two bytes
pub record IsSmall (entry : Entry) : Type 0 where
  pub kind : IsSmallKey entry.kind
  pub name : IsSmallKey entry.name
  pub language : entry.language < 2 ^ 16

-- there are not too many, no two have one type, name and language, their numbers have two bytes, and each is
-- known by its type, name and language
pub record KeepsResources (files : ResourceFiles) : Type 0 where
  pub few : length files.resources.items ≤ RESOURCE_LIMIT
  pub apart : IsDistinct same_entry (map entry_of files.resources.items)
  pub numbered : AreNumbered (map entry_of files.resources.items)
  pub keys_are : files.keys.keys ≡ map known_by (map entry_of files.resources.items)
