-- The numbers and texts of the library format, with the names of the PE Format specification less `IMAGE_`
-- ("Archive (Library) File Format").
use Rattle.std.specs.Prelude.{ℕ, List, [], ◌∷◌, ◌++◌, codes}

-- `!<arch>` and a newline
abbrev pub ARCHIVE_START : List ℕ
ARCHIVE_START = codes "!<arch>" ++ 10 ∷ []

abbrev pub ARCHIVE_START_SIZE : ℕ
ARCHIVE_START_SIZE = 8

abbrev pub SIZEOF_ARCHIVE_MEMBER_HDR : ℕ
SIZEOF_ARCHIVE_MEMBER_HDR = 60

-- the two bytes that end a header: a grave accent and a newline
abbrev pub ARCHIVE_END : List ℕ
ARCHIVE_END = 0x60 ∷ 0x0A ∷ []

-- the names of the special members, without the blanks behind them
abbrev pub ARCHIVE_LINKER_MEMBER : List ℕ
ARCHIVE_LINKER_MEMBER = codes "/"

abbrev pub ARCHIVE_LONGNAMES_MEMBER : List ℕ
ARCHIVE_LONGNAMES_MEMBER = codes "//"

-- how the names of the members for other machines begin, as `/<HYBRIDMAP>/`
abbrev pub ARCHIVE_OTHER_MEMBER : List ℕ
ARCHIVE_OTHER_MEMBER = codes "/<"
