-- The line of each diagnostic: `fault`, its number, its name, and its operands, each after one blank. Own.
use Rattle.std.specs.Prelude.{ℕ, List, [], ◌∷◌, ◌++◌, codes}
use Rattle.std.specs.Fmt.{decimal, signed_decimal}
use Rattle.link_base.specs.declared.fault.Fault.{Fault}
use Rattle.link_base.specs.declared.fault.Fault.TheVariants.{NotFound, FileTooLarge, InputLimit, BadObject, BadLibrary, BadImport, BadDirective, Unsupported, Mismatch, Duplicate, ComdatConflict, Undefined, WeakCycle, BadTarget, BadReloc, BadPdata, BadExport, BadMerge, TooManySections, ImageTooLarge, BaseRange, RelocRange, PdbTooLarge, BadResource, DuplicateResource, TooManyResources, ImplibTooLarge, BadImage, BadPdb, BasePermit, NoSymbol, LengthRange}
use Rattle.diagnostics.specs.LineText.{operand, escaped, file_text, module_text, address_text, resource_text, place_operands}
use Rattle.diagnostics.specs.KindWord.{object_fault_word, library_fault_word, import_fault_word, kind_word, target_fault_word, relocation_fault_word, export_fault_word, image_fault_word, database_fault_word, resource_fault_word}

-- the number and the name
abbrev pub fault_head : Fault → List ℕ
fault_head (NotFound file member) = codes "fault 2 NotFound"
fault_head (FileTooLarge file member) = codes "fault 3 FileTooLarge"
fault_head (InputLimit total) = codes "fault 4 InputLimit"
fault_head (BadObject file member kind index) = codes "fault 5 BadObject"
fault_head (BadLibrary file member kind offset) = codes "fault 6 BadLibrary"
fault_head (BadImport file member fault) = codes "fault 7 BadImport"
fault_head (BadDirective file member offset) = codes "fault 8 BadDirective"
fault_head (Unsupported file member kind) = codes "fault 9 Unsupported"
fault_head (Mismatch key first second) = codes "fault 10 Mismatch"
fault_head (Duplicate name first second) = codes "fault 11 Duplicate"
fault_head (ComdatConflict name first second) = codes "fault 12 ComdatConflict"
fault_head (Undefined name position) = codes "fault 13 Undefined"
fault_head (WeakCycle name position) = codes "fault 14 WeakCycle"
fault_head (BadTarget kind position section relocation) = codes "fault 15 BadTarget"
fault_head (BadReloc fault position section relocation) = codes "fault 16 BadReloc"
fault_head (BadPdata position section) = codes "fault 17 BadPdata"
fault_head (BadExport kind name) = codes "fault 18 BadExport"
fault_head (BadMerge name) = codes "fault 19 BadMerge"
fault_head (TooManySections count) = codes "fault 20 TooManySections"
fault_head (ImageTooLarge size) = codes "fault 21 ImageTooLarge"
fault_head (BaseRange base) = codes "fault 22 BaseRange"
fault_head (RelocRange position section relocation value) = codes "fault 23 RelocRange"
fault_head (PdbTooLarge size) = codes "fault 24 PdbTooLarge"
fault_head (BadResource file member kind offset) = codes "fault 25 BadResource"
fault_head (DuplicateResource file member kind name language) = codes "fault 26 DuplicateResource"
fault_head (TooManyResources count) = codes "fault 27 TooManyResources"
fault_head (ImplibTooLarge size) = codes "fault 28 ImplibTooLarge"
fault_head (BadImage kind) = codes "fault 30 BadImage"
fault_head (BadPdb kind) = codes "fault 31 BadPdb"
fault_head (BasePermit base) = codes "fault 32 BasePermit"
fault_head (NoSymbol name) = codes "fault 33 NoSymbol"
fault_head (LengthRange end) = codes "fault 34 LengthRange"

-- the operands
abbrev pub fault_operands : Fault → List ℕ
fault_operands (NotFound file member) = operand (file_text file member)
fault_operands (FileTooLarge file member) = operand (file_text file member)
fault_operands (InputLimit total) = operand (decimal total)
fault_operands (BadObject file member kind index) =
    operand (file_text file member) ++ (operand (object_fault_word kind) ++ operand (decimal index))
fault_operands (BadLibrary file member kind offset) =
    operand (file_text file member) ++ (operand (library_fault_word kind) ++ operand (decimal offset))
fault_operands (BadImport file member kind) = operand (file_text file member) ++ operand (import_fault_word kind)
fault_operands (BadDirective file member offset) = operand (file_text file member) ++ operand (decimal offset)
fault_operands (Unsupported file member kind) = operand (file_text file member) ++ operand (kind_word kind)
fault_operands (Mismatch key first second) =
    operand (escaped key) ++ (operand (escaped first) ++ operand (escaped second))
fault_operands (Duplicate name first second) =
    operand (escaped name) ++ (operand (module_text first) ++ operand (module_text second))
fault_operands (ComdatConflict name first second) =
    operand (escaped name) ++ (operand (module_text first) ++ operand (module_text second))
fault_operands (Undefined name position) = operand (escaped name) ++ operand (module_text position)
fault_operands (WeakCycle name position) = operand (escaped name) ++ operand (module_text position)
fault_operands (BadTarget kind position section relocation) =
    operand (target_fault_word kind) ++ place_operands position section relocation
fault_operands (BadReloc kind position section relocation) =
    operand (relocation_fault_word kind) ++ place_operands position section relocation
fault_operands (BadPdata position section) = operand (module_text position) ++ operand (decimal section)
fault_operands (BadExport kind name) = operand (export_fault_word kind) ++ operand (escaped name)
fault_operands (BadMerge name) = operand (escaped name)
fault_operands (TooManySections count) = operand (decimal count)
fault_operands (ImageTooLarge size) = operand (decimal size)
fault_operands (BaseRange base) = operand (address_text base)
fault_operands (RelocRange position section relocation value) =
    place_operands position section relocation ++ operand (signed_decimal value)
fault_operands (PdbTooLarge size) = operand (decimal size)
fault_operands (BadResource file member kind offset) =
    operand (file_text file member) ++ (operand (resource_fault_word kind) ++ operand (decimal offset))
fault_operands (DuplicateResource file member kind name language) =
    operand (file_text file member)
    ++ (operand (resource_text kind) ++ (operand (resource_text name) ++ operand (decimal language)))
fault_operands (TooManyResources count) = operand (decimal count)
fault_operands (ImplibTooLarge size) = operand (decimal size)
fault_operands (BadImage kind) = operand (image_fault_word kind)
fault_operands (BadPdb kind) = operand (database_fault_word kind)
fault_operands (BasePermit base) = operand (address_text base)
fault_operands (NoSymbol name) = operand (escaped name)
fault_operands (LengthRange end) = operand (decimal end)

-- the whole line, with its newline
abbrev pub fault_line_text : Fault → List ℕ
fault_line_text fault = (fault_head fault ++ fault_operands fault) ++ (10 ∷ [])
