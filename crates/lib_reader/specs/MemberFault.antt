-- What is wrong with one header, in the order of the tests. Own; the fields are those of the PE Format specification.
use Rattle.std.specs.Prelude.{ℕ, Bool, ◌&&◌, List, [], ◌∷◌, Option, is_none}
use Rattle.link_base.specs.declared.kinds.library.LibFault.{LibFault}
use Rattle.link_base.specs.declared.kinds.library.LibFault.TheVariants as kind
use Rattle.link_base.specs.Refusals.{shown, first_standing}
use Rattle.lib_reader.specs.declared.error.LibError.{LibError}
use Rattle.lib_reader.specs.ArchiveMember.{name_text, header_is_bad, size_is_bad}
use Rattle.lib_reader.specs.MemberName.{names_an_offset, long_name}

abbrev pub fault : LibFault → ℕ → LibError
fault kind at = record { kind = kind; at = at }

-- the name refers to an offset that is none of the long names
unfoldable pub lacks_long_name : List ℕ → List ℕ → Bool
lacks_long_name long_names text = names_an_offset text && is_none (long_name long_names text)

-- the first that stands: the header, the size, the long name
unfoldable pub member_fault : List ℕ → List ℕ → ℕ → Option LibError
member_fault long_names bytes at =
    first_standing
    (shown (header_is_bad bytes at) (fault kind.Header at)
    ∷ shown (size_is_bad bytes at) (fault kind.Size at)
    ∷ shown (lacks_long_name long_names (name_text bytes at)) (fault kind.LongName at)
    ∷ [])
