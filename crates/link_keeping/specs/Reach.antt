-- What of a link is kept: where unreferenced sections are dropped, what a path of references comes to from a root (MSVC linker
-- reference, "/OPT"; what leads to what, and the roots, are own).
use Rattle.std.specs.Prelude.{◌≡◌, ◌<◌, ◌+◌, ℕ, Bool, true, false, ◌&&◌, not, if◌then◌else◌, List, [], ◌∷◌, ◌++◌, length, filter, filter_map, slice_index_or, Option, Some, None, option_map, option_and_then, unwrap_or, Result, Ok, Err, codes}
use Rattle.std.specs.List.{range_with_len, flat_map, cons_option}
use Rattle.link_base.specs.Bytes.{has_flag}
use Rattle.link_base.specs.PeFormat.{SCN_LNK_COMDAT}
use Rattle.link_base.specs.declared.kinds.target.TargetFault.{TargetFault}
use Rattle.directives.specs.Said.{Said}
use Rattle.directives.specs.Said as says
use Rattle.coff_aux.specs.declared.comdat.Comdat.{Comdat}
use Rattle.coff_aux.specs.Comdats.{comdat_of}
use Rattle.module_view.specs.Module.{module_at, ModuleView}
use Rattle.module_view.specs.ModuleDirectives.{module_directives}
use Rattle.relocate.specs.declared.fix.Target.{Target}
use Rattle.reach.specs.Paths.{IsKept}
use Rattle.link_words.specs.Outcome.{LinkOptions}
use Rattle.link_pieces.specs.LinkParts.{LinkParts}
use Rattle.link_pieces.specs.NameMeaning.{name_meaning}
use Rattle.link_pieces.specs.PieceIndex.{is_section, piece_index}
use Rattle.link_pieces.specs.Pieces.{link_pieces}
use Rattle.link_fields.specs.Targets.{meant_target, piece_in}
use Rattle.link_fields.specs.Entry.{entry_place, piece_of_place}
use Rattle.link_fields.specs.ExportTargets.{export_targets}
use Rattle.link_fields.specs.Fixes.{piece_at, field_edges}

-- ---- what can be kept

-- how many pieces there are, and behind them as many as there are modules, for those that are imports
abbrev pub node_count : LinkParts → ℕ
node_count link = length (link_pieces link) + length link.modules

-- ---- what leads to what, besides fields

-- a COMDAT section that is selected with another one follows it
abbrev pub parent_in : Option Comdat → Option ℕ
parent_in said = option_and_then (λ comdat. comdat.parent) said

abbrev pub parent_piece : LinkParts → ℕ → Option ℕ
parent_piece link k =
    if is_section (length link.modules) (piece_at link k)
    then option_and_then (piece_index link (piece_at link k).«module») (parent_in (comdat_of (module_at link.modules (piece_at link k).«module»).bytes (piece_at link k).number))
    else None

abbrev pub child_edge : LinkParts → ℕ → Option (ℕ × ℕ)
child_edge link k = option_map (λ parent. (parent, k)) (parent_piece link k)

abbrev pub child_edges : LinkParts → List (ℕ × ℕ)
child_edges link = filter_map (child_edge link) (range_with_len 0 (length (link_pieces link)))

-- a piece leads to what its fields mean, and a section to those that are selected with it
abbrev pub link_edges : LinkParts → List (ℕ × ℕ)
link_edges link = field_edges link ++ child_edges link

-- ---- roots

-- the piece that a target stands in, or behind the pieces the import
abbrev pub node_of : Result Target TargetFault → Option ℕ
node_of (Ok target) = piece_in target
node_of (Err fault) = None

-- that of what a name means
abbrev pub name_node : LinkParts → List ℕ → Option ℕ
name_node link name = node_of (meant_target link (name_meaning link name))

-- the names that the loader of a program looks for in it (PE Format, "The .tls Section" and "The Load Configuration Structure")
abbrev pub loader_names : List (List ℕ)
loader_names = codes "_tls_used" ∷ codes "_load_config_used" ∷ []

-- what the entry, the exports and these names mean
abbrev pub named_nodes : LinkOptions → LinkParts → List ℕ
named_nodes options link =
    cons_option (piece_of_place (entry_place link options.entry_name)) (filter_map (option_and_then piece_in) (export_targets link) ++ filter_map (name_node link) loader_names)

-- the names that directives include (MSVC linker reference, "/INCLUDE")
abbrev pub included : Said → Option (List ℕ)
included (says.Include name) = Some name
included (says.Exports row) = None
included (says.AlignComm name log) = None
included (says.AlternateName left right) = None
included (says.DefaultLib text) = None
included (says.FailIfMismatch key value) = None
included (says.Merge left right) = None

abbrev pub included_by : ModuleView → List (List ℕ)
included_by view = filter_map included (module_directives view.bytes)

-- with those that the command line includes
abbrev pub included_names : LinkOptions → LinkParts → List (List ℕ)
included_names options link = options.includes ++ flat_map included_by link.modules

-- a section that is no COMDAT section
abbrev pub is_plain : LinkParts → ℕ → Bool
is_plain link k =
    is_section (length link.modules) (piece_at link k) && not (has_flag (piece_at link k).flags SCN_LNK_COMDAT)

abbrev pub plain_sections : LinkParts → List ℕ
plain_sections link = filter (is_plain link) (range_with_len 0 (length (link_pieces link)))

abbrev pub link_roots : LinkOptions → LinkParts → List ℕ
link_roots options link =
    named_nodes options link ++ (filter_map (name_node link) (included_names options link) ++ plain_sections link)

-- ---- what is kept

-- unreferenced sections are dropped, unless the command line says otherwise or asks for what a debugger needs
abbrev pub drops : LinkOptions → Bool
drops options = unwrap_or options.refs (not options.debug)

-- what a path comes to, or all
abbrev pub IsToKeep : Bool → LinkOptions → LinkParts → ℕ → Type 0
IsToKeep true options link node = IsKept (node_count link) (link_edges link) (link_roots options link) node
IsToKeep false options link node = node < node_count link

-- a list says it of each piece, and behind these of each import
pub record AreKept (options : LinkOptions) (link : LinkParts) (flags : List Bool) : Type 0 where
  pub for_each : length flags ≡ node_count link
  pub kept : (node : ℕ) → IsToKeep (drops options) options link node → slice_index_or flags node false ≡ true
  pub only : (node : ℕ) → slice_index_or flags node false ≡ true → IsToKeep (drops options) options link node
