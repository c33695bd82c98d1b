-- Where the names stand that the loader of a program looks for in it (PE Format, "The .tls Section" and "The Load Configuration
-- Structure").
use Rattle.std.specs.Prelude.{List, ℕ, Option, None, Result, Ok, codes}
use Rattle.symbol_table.specs.declared.meaning.Meaning.{Meaning}
use Rattle.symbol_table.specs.declared.meaning.Meaning.TheVariants.{Section, Common}
use Rattle.symbol_table.specs.declared.meaning.NoMeaning.{NoMeaning}
use Rattle.link_pieces.specs.LinkParts.{LinkParts}
use Rattle.link_pieces.specs.NameMeaning.{name_meaning}
use Rattle.link_pieces.specs.PieceIndex.{piece_index, common_index}
use Rattle.link_fields.specs.declared.entry.EntryPlace.{EntryPlace}
use Rattle.link_fields.specs.Entry.{place_in}

abbrev pub TLS_NAME : List ℕ
TLS_NAME = codes "_tls_used"

abbrev pub LOAD_CONFIG_NAME : List ℕ
LOAD_CONFIG_NAME = codes "_load_config_used"

-- an offset in a section, or the start of a common: what stands elsewhere is not looked at
abbrev pub own_place : LinkParts → Result Meaning NoMeaning → Option EntryPlace
own_place link (Ok (Section position section value)) = place_in value (piece_index link position section)
own_place link (Ok (Common position symbol)) = place_in 0 (common_index link position symbol)
own_place link other = None

-- the place of what a name means
abbrev pub loader_place : LinkParts → List ℕ → Option EntryPlace
loader_place link name = own_place link (name_meaning link name)
