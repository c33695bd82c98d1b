-- The files of a generated program, and the words that link it. Own.
use Rattle.std.specs.Prelude.{ℕ, List, [], ◌∷◌, ◌++◌, map, fold, codes}
use Rattle.std.specs.List.{range_with_len}
use Rattle.link_files.specs.Store.{Store, no_files, with_file}
use Rattle.link_files.specs.Outputs.{NamedBytes}
use Rattle.generated_world.specs.GeneratedObject.{object_name, generated_object}

-- the object of each function, by its name
abbrev pub named_object : ℕ → ℕ → NamedBytes
named_object count i = record { name = object_name i; bytes = generated_object count i }

abbrev pub with_named : Store → NamedBytes → Store
with_named files file = with_file files file.name file.bytes

-- the files: the objects
unfoldable pub generated_files : ℕ → Store
generated_files count = fold with_named no_files (map (named_object count) (range_with_len 0 count))

-- the words: the inputs, the entry, and the name of the image
unfoldable pub generated_words : ℕ → List (List ℕ)
generated_words count =
    codes "link" ∷ map object_name (range_with_len 0 count) ++ (codes "/ENTRY:f0" ∷ codes "/OUT:g.exe" ∷ [])
