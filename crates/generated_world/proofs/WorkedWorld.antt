-- The object of a program that has one function, and of one that has two the first object and the words.
use Rattle.std.proofs.Common.{◌≡◌, List, ℕ, [], ◌∷◌, ◌++◌, replicate, refl}
use Rattle.std.specs.Prelude.{codes}
use Rattle.std.specs.Fmt.{digits}
use Rattle.link_base.specs.Bytes.{number_bytes}
use Rattle.generated_world.specs.GeneratedObject.{file_header, section_header, code, relocation, short_name, symbol, generated_object}
use Rattle.generated_world.specs.GeneratedWorld.{generated_words}

-- the headers, the code and the relocations, which all objects have
unfoldable pub front : List ℕ
front =
    0x64 ∷ 0x86 ∷ 1 ∷ 0 ∷ 0 ∷ 0 ∷ 0 ∷ 0 ∷ 96 ∷ 0 ∷ 0 ∷ 0 ∷ 3 ∷ 0 ∷ 0 ∷ 0 ∷ 0 ∷ 0 ∷ 0 ∷ 0
    ∷ codes ".text" ++ replicate 11 0 ++ (16 ∷ 0 ∷ 0 ∷ 0 ∷ 60 ∷ 0 ∷ 0 ∷ 0 ∷ 76 ∷ 0 ∷ 0 ∷ 0 ∷ 0 ∷ 0 ∷ 0 ∷ 0 ∷ 2 ∷ 0 ∷ 0 ∷ 0 ∷ 0x20 ∷ 0 ∷ 0x50 ∷ 0x60 ∷ [])
    ++ (0xE8 ∷ 0 ∷ 0 ∷ 0 ∷ 0 ∷ 0xC3 ∷ 0x90 ∷ 0x90 ∷ replicate 8 0)
    ++ (1 ∷ 0 ∷ 0 ∷ 0 ∷ 1 ∷ 0 ∷ 0 ∷ 0 ∷ 4 ∷ 0 ∷ 8 ∷ 0 ∷ 0 ∷ 0 ∷ 2 ∷ 0 ∷ 0 ∷ 0 ∷ 1 ∷ 0 ∷ [])

-- behind the eight bytes of a name
unfoldable pub defined : List ℕ
defined = 0 ∷ 0 ∷ 0 ∷ 0 ∷ 1 ∷ 0 ∷ 0x20 ∷ 0 ∷ 2 ∷ 0 ∷ []

unfoldable pub not_defined : List ℕ
not_defined = 0 ∷ 0 ∷ 0 ∷ 0 ∷ 0 ∷ 0 ∷ 0x20 ∷ 0 ∷ 2 ∷ 0 ∷ []

pub only_object : generated_object 1 0 ≡ front ++ (codes "f0" ++ replicate 6 0 ++ defined ++ (codes "f0" ++ replicate 6 0 ++ not_defined ++ (codes "f0" ++ replicate 6 0 ++ not_defined ++ (4 ∷ 0 ∷ 0 ∷ 0 ∷ []))))
unfolding front defined not_defined generated_object file_header section_header code relocation short_name symbol number_bytes digits
only_object = refl

-- it calls the other function, and holds the address of that one too
pub first_of_two : generated_object 2 0 ≡ front ++ (codes "f0" ++ replicate 6 0 ++ defined ++ (codes "f1" ++ replicate 6 0 ++ not_defined ++ (codes "f1" ++ replicate 6 0 ++ not_defined ++ (4 ∷ 0 ∷ 0 ∷ 0 ∷ []))))
unfolding front defined not_defined generated_object file_header section_header code relocation short_name symbol number_bytes digits
first_of_two = refl

pub words_of_two : generated_words 2 ≡ codes "link" ∷ codes "o0" ∷ codes "o1" ∷ codes "/ENTRY:f0" ∷ codes "/OUT:g.exe" ∷ []
unfolding generated_words digits
words_of_two = refl
