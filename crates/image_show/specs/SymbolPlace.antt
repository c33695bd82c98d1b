-- Where a public symbol stands in the memory of an image (LLVM, "CodeView Symbol Records"; PE Format, "Section Table
-- (Section Headers)"; the order of the refusals is own).
use Rattle.std.specs.Prelude.{ℕ, ◌+◌, List, Option, Some, None, Result, Ok, Err}
use Rattle.link_base.specs.declared.fault.Fault.{Fault}
use Rattle.link_base.specs.declared.fault.Fault.TheVariants as faults
use Rattle.link_base.specs.declared.kinds.database.PdbKind.{PdbKind}
use Rattle.pdb_msf.specs.BlockFile.{msf_fault}
use Rattle.pdb_publics.specs.declared.rows.Public.{Public}
use Rattle.pdb_publics.specs.Lookup.{found}

-- at its offset in its section, which has an RVA and a size; the sum is a number, which does not wrap. One in no section
-- of the image is not found
abbrev pub public_place : List ℕ → Option (ℕ × ℕ) → ℕ → Result ℕ Fault
public_place name (Some section) offset = Ok (section.0 + offset)
public_place name None offset = Err (faults.NoSymbol name)

-- the RVA of a name, by the answer of the search for it; sections go by their numbers from 1
abbrev pub found_place : List ℕ → (ℕ → Option (ℕ × ℕ)) → Result (Option Public) PdbKind → Result ℕ Fault
found_place name sections (Ok (Some public)) = public_place name (sections public.section) public.offset
found_place name sections (Ok None) = Err (faults.NoSymbol name)
found_place name sections (Err kind) = Err (faults.BadPdb kind)

-- a file that is not well formed is not searched
abbrev pub searched_place : Option PdbKind → Result ℕ Fault → Result ℕ Fault
searched_place (Some kind) place = Err (faults.BadPdb kind)
searched_place None place = place

-- the RVA of a name in a program database
abbrev pub symbol_place : (ℕ → Option (ℕ × ℕ)) → List ℕ → List ℕ → Result ℕ Fault
symbol_place sections pdb name = searched_place (msf_fault pdb) (found_place name sections (found pdb name))
