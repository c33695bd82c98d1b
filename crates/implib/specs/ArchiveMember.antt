-- A member of a library as it is written (PE Format, "Archive Member Headers"; that the fields of users are blank, the mode
-- is 0 and the date is the given time is own).
use Rattle.std.specs.Prelude.{ℕ, ◌+◌, ◌-◌, ◌%◌, ◌==◌, if◌then◌else◌, List, [], ◌∷◌, ◌++◌, length, replicate, codes}
use Rattle.std.specs.Fmt.{decimal}
use Rattle.lib_reader.specs.Constants.{SIZEOF_ARCHIVE_MEMBER_HDR, ARCHIVE_END}
use Rattle.lib_reader.specs.ArchiveMember.{even_from}

-- a text, with blanks behind it up to a width
abbrev pub padded : ℕ → List ℕ → List ℕ
padded width text = text ++ replicate (width - length text) 32

-- the name, the date, the IDs of a user and of a group, the mode and the size
unfoldable pub member_header : List ℕ → ℕ → ℕ → List ℕ
member_header name time size =
    padded 16 name
    ++ (padded 12 (decimal time)
    ++ (padded 6 [] ++ (padded 6 [] ++ (padded 8 (codes "0") ++ (padded 10 (decimal size) ++ ARCHIVE_END)))))

-- a newline behind an odd number of bytes
abbrev pub line_end : ℕ → List ℕ
line_end size = if size % 2 == 0 then [] else 10 ∷ []

-- a header, and the data
unfoldable pub member : List ℕ → ℕ → List ℕ → List ℕ
member name time content = member_header name time (length content) ++ (content ++ line_end (length content))

-- how many bytes a member with so many bytes of data has
abbrev pub member_size : ℕ → ℕ
member_size size = SIZEOF_ARCHIVE_MEMBER_HDR + even_from size
