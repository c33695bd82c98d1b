-- The options of a link, from what its words say (MSVC linker reference, "Linker options"). Own where it says so.
use Rattle.std.specs.Prelude.{ℕ, ◌-◌, Bool, true, false, ◌&&◌, ◌||◌, ◌==◌, if◌then◌else◌, List, [], Option, Some, None, option_map, unwrap_or, is_some, slice_index, slice_index_or, length, codes}
use Rattle.std.specs.List.{filter_map, last_or}
use Rattle.std.specs.Str.{bytes_eq}
use Rattle.link_base.specs.PeFormat.{PAGE_SIZE, SUBSYSTEM_WINDOWS_GUI, SUBSYSTEM_WINDOWS_CUI}
use Rattle.directives.specs.declared.item.Export.{Export}
use Rattle.link_words.specs.Extension.{is_slash, with_extension}
use Rattle.link_words.specs.Outcome as outcome
use Rattle.link_words.specs.Setting.{Setting, Input, Alternate, Merged, DefaultLib, Exported, Included, LibPath, NoDefault, NoDefaultAll, Debug, Dll, NoEntry, Dynamic, Entropy, Nx, Large, Fixed, Base, Entry, Heap, Stack, MapFile, ImpLib, Optimize, Out, Pdb, Subsystem, Time, Version}

-- ---- what a setting says of one field

abbrev pub input_in : Setting → Option (List ℕ)
input_in (Input text) = Some text
input_in _ = None

abbrev pub alternate_in : Setting → Option (List ℕ × List ℕ)
alternate_in (Alternate left right) = Some (left, right)
alternate_in _ = None

abbrev pub merge_in : Setting → Option (List ℕ × List ℕ)
merge_in (Merged left right) = Some (left, right)
merge_in _ = None

abbrev pub default_lib_in : Setting → Option (List ℕ)
default_lib_in (DefaultLib text) = Some text
default_lib_in _ = None

abbrev pub export_in : Setting → Option Export
export_in (Exported row) = Some row
export_in _ = None

abbrev pub include_in : Setting → Option (List ℕ)
include_in (Included name) = Some name
include_in _ = None

abbrev pub lib_path_in : Setting → Option (List ℕ)
lib_path_in (LibPath text) = Some text
lib_path_in _ = None

abbrev pub no_default_in : Setting → Option (List ℕ)
no_default_in (NoDefault text) = Some text
no_default_in _ = None

abbrev pub no_default_all_in : Setting → Option Bool
no_default_all_in NoDefaultAll = Some true
no_default_all_in _ = None

abbrev pub debug_in : Setting → Option Bool
debug_in Debug = Some true
debug_in _ = None

abbrev pub dll_in : Setting → Option Bool
dll_in Dll = Some true
dll_in _ = None

abbrev pub noentry_in : Setting → Option Bool
noentry_in NoEntry = Some true
noentry_in _ = None

abbrev pub dynamic_in : Setting → Option Bool
dynamic_in (Dynamic on) = Some on
dynamic_in _ = None

abbrev pub entropy_in : Setting → Option Bool
entropy_in (Entropy on) = Some on
entropy_in _ = None

abbrev pub nx_in : Setting → Option Bool
nx_in (Nx on) = Some on
nx_in _ = None

abbrev pub large_in : Setting → Option Bool
large_in (Large on) = Some on
large_in _ = None

abbrev pub fixed_in : Setting → Option Bool
fixed_in (Fixed on) = Some on
fixed_in _ = None

abbrev pub base_in : Setting → Option ℕ
base_in (Base n) = Some n
base_in _ = None

abbrev pub entry_in : Setting → Option (List ℕ)
entry_in (Entry name) = Some name
entry_in _ = None

abbrev pub heap_in : Setting → Option (ℕ × ℕ)
heap_in (Heap two) = Some two
heap_in _ = None

abbrev pub stack_in : Setting → Option (ℕ × ℕ)
stack_in (Stack two) = Some two
stack_in _ = None

abbrev pub map_in : Setting → Option (Option (List ℕ))
map_in (MapFile file) = Some file
map_in _ = None

abbrev pub implib_in : Setting → Option (List ℕ)
implib_in (ImpLib file) = Some file
implib_in _ = None

abbrev pub refs_in : Setting → Option Bool
refs_in (Optimize (refs, icf)) = refs
refs_in _ = None

abbrev pub icf_in : Setting → Option Bool
icf_in (Optimize (refs, icf)) = icf
icf_in _ = None

abbrev pub out_in : Setting → Option (List ℕ)
out_in (Out text) = Some text
out_in _ = None

abbrev pub pdb_in : Setting → Option (List ℕ)
pdb_in (Pdb text) = Some text
pdb_in _ = None

abbrev pub subsystem_in : Setting → Option ℕ
subsystem_in (Subsystem n) = Some n
subsystem_in _ = None

abbrev pub time_in : Setting → Option ℕ
time_in (Time n) = Some n
time_in _ = None

abbrev pub version_in : Setting → Option (ℕ × ℕ)
version_in (Version two) = Some two
version_in _ = None

-- ---- all that is said of a field, and the last that is said

-- in the order of the words
abbrev pub all_said : {A : Type 0} → (Setting → Option A) → List Setting → List A
all_said says settings = filter_map says settings

abbrev pub last_said : {A : Type 0} → (Setting → Option A) → List Setting → Option A
last_said says settings = last_or None (filter_map says settings)

-- the last that is said, or else a default
abbrev pub said_or : {A : Type 0} → A → (Setting → Option A) → List Setting → A
said_or default says settings = unwrap_or (last_said says settings) default

-- ---- defaults that depend on other options

-- where an image is linked to (MSVC linker reference, "/BASE"; those below 4 GiB are own)
abbrev pub default_base : Bool → Bool → ℕ
default_base large dll =
    if large then (if dll then 0x1_8000_0000 else 0x1_4000_0000) else (if dll then 0x1000_0000 else 0x40_0000)

-- own
abbrev pub default_subsystem : Bool → ℕ
default_subsystem dll = if dll then SUBSYSTEM_WINDOWS_GUI else SUBSYSTEM_WINDOWS_CUI

-- where a program or a DLL begins (MSVC linker reference, "/ENTRY"; own for NATIVE, and for a DLL of any subsystem)
unfoldable pub default_entry : Bool → ℕ → List ℕ
default_entry dll subsystem =
    if dll then codes "_DllMainCRTStartup" else
    (if subsystem == SUBSYSTEM_WINDOWS_GUI then codes "WinMainCRTStartup" else codes "mainCRTStartup")

abbrev pub image_extension : Bool → List ℕ
image_extension dll = if dll then codes ".dll" else codes ".exe"

abbrev pub first_text : List (List ℕ) → List ℕ
first_text texts = slice_index_or texts 0 []

-- a map that is asked for, by its name
abbrev pub map_name : List ℕ → Option (List ℕ) → List ℕ
map_name out file = unwrap_or file (with_extension out (codes ".map"))

-- ---- the options

abbrev pub dll_of : List Setting → Bool
dll_of settings = said_or false dll_in settings

abbrev pub large_of : List Setting → Bool
large_of settings = said_or true large_in settings

abbrev pub subsystem_of : List Setting → ℕ
subsystem_of settings = said_or (default_subsystem (dll_of settings)) subsystem_in settings

-- a link without an entry has none, whatever is said
abbrev pub entry_of : List Setting → Option (List ℕ)
entry_of settings =
    if said_or false noentry_in settings then None
    else Some (said_or (default_entry (dll_of settings) (subsystem_of settings)) entry_in settings)

-- the image's name is that of the first input, with another extension
abbrev pub out_of : List Setting → List ℕ
out_of settings =
    said_or (with_extension (first_text (all_said input_in settings)) (image_extension (dll_of settings))) out_in settings

unfoldable pub options_of : List Setting → outcome.LinkOptions
options_of settings = record {
  inputs = all_said input_in settings;
  alternates = all_said alternate_in settings;
  merges = all_said merge_in settings;
  default_libs = all_said default_lib_in settings;
  exports = all_said export_in settings;
  includes = all_said include_in settings;
  base = said_or (default_base (large_of settings) (dll_of settings)) base_in settings;
  debug = said_or false debug_in settings;
  dll = dll_of settings;
  noentry = said_or false noentry_in settings;
  dynamic = said_or true dynamic_in settings;
  entropy = said_or true entropy_in settings;
  nx = said_or true nx_in settings;
  large = large_of settings;
  entry_name = entry_of settings;
  fixed = said_or false fixed_in settings;
  heap = said_or (0x10_0000, PAGE_SIZE) heap_in settings;
  stack = said_or (0x10_0000, PAGE_SIZE) stack_in settings;
  lib_paths = all_said lib_path_in settings;
  map_file = option_map (map_name (out_of settings)) (last_said map_in settings);
  implib = last_said implib_in settings;
  no_default = all_said no_default_in settings;
  no_default_all = said_or false no_default_all_in settings;
  refs = last_said refs_in settings;
  icf = said_or false icf_in settings;
  out = out_of settings;
  pdb = said_or (with_extension (out_of settings) (codes ".pdb")) pdb_in settings;
  subsystem = subsystem_of settings;
  time = said_or 0 time_in settings;
  version = said_or (0, 0) version_in settings;
}

-- ---- options that do not go together

abbrev pub is_named : List ℕ → Option (List ℕ) → Bool
is_named name None = false
is_named name (Some file) = bytes_eq file name

-- two files that are named have one name
abbrev pub are_one : Option (List ℕ) → Option (List ℕ) → Bool
are_one None file = false
are_one (Some name) file = is_named name file

-- the last byte is a slash
abbrev pub ends_in_slash : List ℕ → Bool
ends_in_slash text = is_slash (slice_index text (length text - 1))

-- two of the files that are written have one name
unfoldable pub outputs_clash : outcome.LinkOptions → Bool
outputs_clash options =
    (options.debug && bytes_eq options.pdb options.out)
    || ((is_named options.out options.map_file || (options.debug && is_named options.pdb options.map_file))
    || (is_named options.out options.implib || ((options.debug && is_named options.pdb options.implib) || are_one options.map_file options.implib)))

-- an import library names the image by what stands after the last slash, which has to be there
unfoldable pub lacks_image_name : outcome.LinkOptions → Bool
lacks_image_name options = is_some options.implib && ends_in_slash options.out
