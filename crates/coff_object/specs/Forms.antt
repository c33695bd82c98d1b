-- The forms of files that their first bytes show, of those that are not read as an object. The order is own.
use Rattle.std.specs.Prelude.{ℕ, Bool, ◌&&◌, not, ◌==◌, List, [], ◌∷◌, Option, codes}
use Rattle.link_base.specs.Bytes.{u16_at, has_bytes}
use Rattle.link_base.specs.NameText.{begins}
use Rattle.link_base.specs.Refusals.{shown, first_standing}
use Rattle.link_base.specs.declared.kinds.form.Kind.{Kind}
use Rattle.link_base.specs.declared.kinds.form.Kind.TheVariants as form
use Rattle.coff_records.specs.ObjectFile.{is_big_object}

-- an archive that names its members and does not hold them (LLVM, "llvm-ar", thin archives)
abbrev pub thin_library_start : List ℕ
thin_library_start = codes "!<thin>"

-- LLVM, "LLVM Bitcode File Format", "Magic Numbers"
abbrev pub bitcode_start : List ℕ
bitcode_start = 0x42 ∷ 0x43 ∷ 0xC0 ∷ 0xDE ∷ []

-- PE Format, "MS-DOS Stub (Image Only)"
abbrev pub image_start : List ℕ
image_start = codes "MZ"

-- the empty entry that a resource file begins with (Windows, "Resource File Formats"): its data size, its
-- header's size, and the numbers 0 as its type and its name
unfoldable pub resource_start : List ℕ
resource_start =
    0 ∷ 0 ∷ 0 ∷ 0 ∷ 0x20 ∷ 0 ∷ 0 ∷ 0 ∷ 0xFF ∷ 0xFF ∷ 0 ∷ 0 ∷ 0xFF ∷ 0xFF ∷ 0 ∷ 0 ∷ []

-- no machine, and 0xFFFF in the place of the count of sections (PE Format, "Import Header")
abbrev pub anonymous_start : List ℕ
anonymous_start = 0 ∷ 0 ∷ 0xFF ∷ 0xFF ∷ []

-- a version follows, and is not 0, which is that of a short import; the object is not a big one
abbrev pub is_anonymous : List ℕ → Bool
is_anonymous bytes =
    begins bytes anonymous_start && (has_bytes bytes 4 2 && (not (u16_at bytes 4 == 0) && not (is_big_object bytes)))

-- the first form that the first bytes show, of those that are never read
unfoldable pub form_shown : List ℕ → Option Kind
form_shown bytes =
    first_standing
    (shown (begins bytes thin_library_start) form.ThinLibrary
    ∷ shown (begins bytes bitcode_start) form.Bitcode
    ∷ shown (begins bytes image_start) form.Image
    ∷ shown (begins bytes resource_start) form.Resource
    ∷ shown (is_anonymous bytes) form.Anonymous
    ∷ [])
