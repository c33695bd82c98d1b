-- Limits of this linker. Own.
use Rattle.std.specs.Prelude.{ℕ}

-- the greatest length of a name and of a word of the command line
abbrev pub NAME_LIMIT : ℕ
NAME_LIMIT = 32000

-- the greatest length of a file that a link reads, and of all its inputs together
abbrev pub FILE_LIMIT : ℕ
FILE_LIMIT = 268435456

abbrev pub INPUT_LIMIT : ℕ
INPUT_LIMIT = 1073741824

-- the greatest number of modules
abbrev pub MODULE_LIMIT : ℕ
MODULE_LIMIT = 65534

-- the greatest number of sections of an image, and its greatest size in memory
abbrev pub SECTION_LIMIT : ℕ
SECTION_LIMIT = 96

abbrev pub IMAGE_LIMIT : ℕ
IMAGE_LIMIT = 536870912
