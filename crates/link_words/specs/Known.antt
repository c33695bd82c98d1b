-- The options of a link, by their names (MSVC linker reference, "Linker options").
use Rattle.std.specs.Prelude.{ℕ, List, [], ◌∷◌, Option, codes}
use Rattle.directives.specs.Names.{lookup}
use Rattle.link_words.specs.declared.known.Known.{Known}
use Rattle.link_words.specs.declared.known.Known.TheVariants.{Shared, LibPath, NoDefaultLib, Debug, Dll, NoEntry, DynamicBase, HighEntropyVa, NxCompat, LargeAddressAware, Fixed, Base, Entry, Heap, Stack, Map, ImpLib, Opt, Out, Pdb, Subsystem, TimeStamp, Version, Machine, NoLogo, Ignored}

abbrev pub option_names : List (List ℕ × Known)
option_names =
    (codes "ALTERNATENAME", Shared) ∷ (codes "DEFAULTLIB", Shared) ∷ (codes "EXPORT", Shared)
    ∷ (codes "INCLUDE", Shared) ∷ (codes "MERGE", Shared) ∷ (codes "LIBPATH", LibPath)
    ∷ (codes "NODEFAULTLIB", NoDefaultLib) ∷ (codes "DEBUG", Debug) ∷ (codes "DLL", Dll)
    ∷ (codes "NOENTRY", NoEntry) ∷ (codes "DYNAMICBASE", DynamicBase) ∷ (codes "HIGHENTROPYVA", HighEntropyVa)
    ∷ (codes "NXCOMPAT", NxCompat) ∷ (codes "LARGEADDRESSAWARE", LargeAddressAware) ∷ (codes "FIXED", Fixed)
    ∷ (codes "BASE", Base) ∷ (codes "ENTRY", Entry) ∷ (codes "HEAP", Heap) ∷ (codes "STACK", Stack)
    ∷ (codes "MAP", Map) ∷ (codes "IMPLIB", ImpLib) ∷ (codes "OPT", Opt) ∷ (codes "OUT", Out) ∷ (codes "PDB", Pdb)
    ∷ (codes "SUBSYSTEM", Subsystem) ∷ (codes "TIMESTAMP", TimeStamp) ∷ (codes "VERSION", Version)
    ∷ (codes "MACHINE", Machine) ∷ (codes "NOLOGO", NoLogo) ∷ (codes "INCREMENTAL", Ignored)
    ∷ (codes "MANIFEST", Ignored) ∷ []

-- the option of this name, in either case
unfoldable pub known : List ℕ → Option Known
known name = lookup option_names name
