-- The definitions on a file of one resource: the data AB of the type 10, the name 1 and the language 0x409.
use Rattle.std.proofs.Common.{◌≡◌, ℕ, List, [], ◌∷◌, ◌++◌, take, Ok, Err, refl}
use Rattle.link_base.specs.Bytes.{number_at, first_below}
use Rattle.link_base.specs.declared.kinds.resource.ResFault.TheVariants as bad
use Rattle.res_merge.specs.Entries.{Number}
use Rattle.res_merge.specs.ResourceFile.{aligned, text_units, name_read, heading, size_is_bad, header_is_bad, entry_with, entry_read, entries_from, resources_of}

start : List ℕ
start = 0 ∷ 0 ∷ 0 ∷ 0 ∷ 32 ∷ 0 ∷ 0 ∷ 0 ∷ 255 ∷ 255 ∷ 0 ∷ 0 ∷ 255 ∷ 255 ∷ 0 ∷ 0 ∷ []

zeros : List ℕ
zeros = 0 ∷ 0 ∷ 0 ∷ 0 ∷ 0 ∷ 0 ∷ 0 ∷ 0 ∷ 0 ∷ 0 ∷ 0 ∷ 0 ∷ 0 ∷ 0 ∷ 0 ∷ 0 ∷ []

sizes : List ℕ
sizes = 2 ∷ 0 ∷ 0 ∷ 0 ∷ 32 ∷ 0 ∷ 0 ∷ 0 ∷ 255 ∷ 255 ∷ 10 ∷ 0 ∷ 255 ∷ 255 ∷ 1 ∷ 0 ∷ []

rest : List ℕ
rest = 0 ∷ 0 ∷ 0 ∷ 0 ∷ 48 ∷ 0 ∷ 9 ∷ 4 ∷ 0 ∷ 0 ∷ 0 ∷ 0 ∷ 0 ∷ 0 ∷ 0 ∷ 0 ∷ []

file : List ℕ
file = start ++ (zeros ++ (sizes ++ (rest ++ (65 ∷ 66 ∷ []))))

file-entries : resources_of file ≡ Ok (record { kind = Number 10; name = Number 1; language = 0x409; body = 65 ∷ 66 ∷ [] }) ∷ []
unfolding file start zeros sizes rest number_at first_below aligned text_units name_read heading size_is_bad header_is_bad entry_with entry_read entries_from resources_of
file-entries = refl

-- without its last byte
file-cut : resources_of (take 65 file) ≡ Err (record { kind = bad.Data; at = 32 }) ∷ []
unfolding file start zeros sizes rest number_at first_below aligned text_units name_read heading size_is_bad header_is_bad entry_with entry_read entries_from resources_of
file-cut = refl

file-short : resources_of (take 31 file) ≡ Err (record { kind = bad.Header; at = 0 }) ∷ []
unfolding file start zeros sizes rest number_at resources_of
file-short = refl
