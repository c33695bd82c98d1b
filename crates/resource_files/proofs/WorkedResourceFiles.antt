-- The definitions on resource files of one resource: the data AB of the type 10, the name 1 and the language 0x409.
use Rattle.std.proofs.Common.{◌≡◌, ℕ, List, [], ◌∷◌, ◌++◌, take, Some, None, refl}
use Rattle.link_base.specs.Bytes.{number_at, first_below}
use Rattle.link_base.specs.declared.fault.Fault.TheVariants.{BadResource, DuplicateResource}
use Rattle.link_base.specs.declared.kinds.resource.ResFault.TheVariants.{Data}
use Rattle.link_base.specs.declared.kinds.resource.ResName.TheVariants as name
use Rattle.coff_object.specs.Forms.{resource_start}
use Rattle.res_merge.specs.Entries.{Entry, Number}
use Rattle.res_merge.specs.ResourceFile.{aligned, text_units, name_read, heading, size_is_bad, header_is_bad, entry_with, entry_read, entries_from, resources_of}
use Rattle.file_search.specs.FoundFiles.{FoundFile}
use Rattle.resource_files.specs.Held.{entries_among, first_again, entries_fault}

unfoldable pub zeros : List ℕ
zeros = 0 ∷ 0 ∷ 0 ∷ 0 ∷ 0 ∷ 0 ∷ 0 ∷ 0 ∷ 0 ∷ 0 ∷ 0 ∷ 0 ∷ 0 ∷ 0 ∷ 0 ∷ 0 ∷ []

unfoldable pub heads : List ℕ
heads = 2 ∷ 0 ∷ 0 ∷ 0 ∷ 32 ∷ 0 ∷ 0 ∷ 0 ∷ 255 ∷ 255 ∷ 10 ∷ 0 ∷ 255 ∷ 255 ∷ 1 ∷ 0 ∷ []

unfoldable pub fields : List ℕ
fields = 0 ∷ 0 ∷ 0 ∷ 0 ∷ 48 ∷ 0 ∷ 9 ∷ 4 ∷ 0 ∷ 0 ∷ 0 ∷ 0 ∷ 0 ∷ 0 ∷ 0 ∷ 0 ∷ []

unfoldable pub bytes : List ℕ
bytes = resource_start ++ (zeros ++ (heads ++ (fields ++ (65 ∷ 66 ∷ []))))

unfoldable pub first : FoundFile
first = record { file = 97 ∷ []; bytes = bytes }

unfoldable pub second : FoundFile
second = record { file = 98 ∷ []; bytes = bytes }

unfoldable pub cut : FoundFile
cut = record { file = 99 ∷ []; bytes = take 65 bytes }

entry : Entry
entry = record { kind = Number 10; name = Number 1; language = 0x409; body = 65 ∷ 66 ∷ [] }

its-entries : entries_among (first ∷ []) ≡ entry ∷ []
unfolding first bytes resource_start zeros heads fields entry number_at first_below aligned text_units name_read heading size_is_bad header_is_bad entry_with entry_read entries_from resources_of
its-entries = refl

it-opens : entries_fault first [] ≡ None
unfolding first bytes resource_start zeros heads fields number_at first_below aligned text_units name_read heading size_is_bad header_is_bad entry_with entry_read entries_from resources_of first_again
it-opens = refl

-- twice
again : entries_fault second (entry ∷ []) ≡ Some (DuplicateResource (98 ∷ []) None (name.Number 10) (name.Number 1) 0x409)
unfolding second bytes resource_start entry zeros heads fields number_at first_below aligned text_units name_read heading size_is_bad header_is_bad entry_with entry_read entries_from resources_of first_again
again = refl

-- without its last byte
malformed : entries_fault cut (entry ∷ []) ≡ Some (BadResource (99 ∷ []) None Data 32)
unfolding cut bytes resource_start zeros heads fields number_at first_below aligned text_units name_read heading size_is_bad header_is_bad entry_with entry_read entries_from resources_of first_again
malformed = refl
