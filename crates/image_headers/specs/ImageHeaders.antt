-- The headers of an image, by the options of the link (PE Format, "Optional Header (Image Only)" and "DLL
-- Characteristics"; MSVC linker reference, "/BASE", "/DYNAMICBASE", "/FIXED", "/HEAP", "/HIGHENTROPYVA", "/NXCOMPAT",
-- "/STACK", "/SUBSYSTEM", "/VERSION"; the time is own).
use Rattle.std.specs.Prelude.{ℕ, ◌+◌, Bool, ◌&&◌, not, if◌then◌else◌, List, [], ◌∷◌, replicate, slice_set}
use Rattle.link_base.specs.PeFormat.{DLLCHARACTERISTICS_HIGH_ENTROPY_VA, DLLCHARACTERISTICS_DYNAMIC_BASE, DLLCHARACTERISTICS_NX_COMPAT, NUMBEROF_DIRECTORY_ENTRIES, DIRECTORY_ENTRY_EXPORT, DIRECTORY_ENTRY_IMPORT, DIRECTORY_ENTRY_RESOURCE, DIRECTORY_ENTRY_EXCEPTION, DIRECTORY_ENTRY_BASERELOC, DIRECTORY_ENTRY_DEBUG, DIRECTORY_ENTRY_TLS, DIRECTORY_ENTRY_LOAD_CONFIG, DIRECTORY_ENTRY_IAT}
use Rattle.image_writer.specs.declared.headers.Headers.{Headers}
use Rattle.link_words.specs.Outcome.{LinkOptions}
use Rattle.image_headers.specs.declared.headers.Directories.{Directories}

-- it may be loaded at another base
abbrev pub can_move : LinkOptions → Bool
can_move options = options.dynamic && not options.fixed

-- high entropy is for an image that may stand above 2 GiB and can move
abbrev pub dll_characteristics : LinkOptions → ℕ
dll_characteristics options =
    (if can_move options && options.entropy && options.large then DLLCHARACTERISTICS_HIGH_ENTROPY_VA else 0)
    + (if can_move options then DLLCHARACTERISTICS_DYNAMIC_BASE else 0)
    + (if options.nx then DLLCHARACTERISTICS_NX_COMPAT else 0)

-- the directories of an image, each by its number; the others are empty ("Optional Header Data Directories")
abbrev pub entries_of : Directories → List (ℕ × (ℕ × ℕ))
entries_of directories =
    (DIRECTORY_ENTRY_EXPORT, directories.exports) ∷ (DIRECTORY_ENTRY_IMPORT, directories.imports)
    ∷ (DIRECTORY_ENTRY_RESOURCE, directories.resources) ∷ (DIRECTORY_ENTRY_EXCEPTION, directories.exceptions)
    ∷ (DIRECTORY_ENTRY_BASERELOC, directories.relocations) ∷ (DIRECTORY_ENTRY_DEBUG, directories.debug)
    ∷ (DIRECTORY_ENTRY_TLS, directories.tls) ∷ (DIRECTORY_ENTRY_LOAD_CONFIG, directories.load_config) ∷ (DIRECTORY_ENTRY_IAT, directories.slots) ∷ []

abbrev pub with_entries : List (ℕ × (ℕ × ℕ)) → List (ℕ × ℕ) → List (ℕ × ℕ)
with_entries [] list = list
with_entries (entry ∷ entries) list = with_entries entries (slice_set list entry.0 entry.1)

abbrev pub directory_list : Directories → List (ℕ × ℕ)
directory_list directories = with_entries (entries_of directories) (replicate NUMBEROF_DIRECTORY_ENTRIES (0, 0))

-- the headers of an image that begins at an RVA, with these directories
abbrev pub headers_of : LinkOptions → ℕ → Directories → Headers
headers_of options entry directories = record {
  base = options.base;
  entry = entry;
  dll = options.dll;
  fixed = options.fixed;
  large = options.large;
  flags = dll_characteristics options;
  subsystem = options.subsystem;
  version = options.version;
  time = options.time;
  stack = options.stack;
  heap = options.heap;
  directories = directory_list directories;
}
