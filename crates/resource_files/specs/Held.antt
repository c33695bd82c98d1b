-- The resource files among the inputs: what they hold, and why one does not open. The order of the tests is own.
use Rattle.std.specs.Prelude.{ℕ, ◌+◌, Bool, nat_lt, if◌then◌else◌, List, [], ◌∷◌, ◌++◌, length, map, filter, filter_map, Option, Some, None, option_map, Result, Ok, Err}
use Rattle.std.specs.List.{list_any, flat_map}
use Rattle.std.specs.Option.{option_or}
use Rattle.link_base.specs.NameText.{begins}
use Rattle.link_base.specs.Refusals.{shown, first_standing}
use Rattle.link_base.specs.declared.fault.Fault.{Fault}
use Rattle.link_base.specs.declared.fault.Fault.TheVariants.{Unsupported, BadResource, DuplicateResource, TooManyResources}
use Rattle.link_base.specs.declared.kinds.form.Kind.TheVariants.{SecondResource}
use Rattle.coff_object.specs.Forms.{resource_start}
use Rattle.res_merge.specs.declared.resource.ResError.{ResError}
use Rattle.res_merge.specs.Entries.{Entry}
use Rattle.res_merge.specs.Order.{RESOURCE_LIMIT}
use Rattle.res_merge.specs.ResourceFile.{resources_of}
use Rattle.res_merge.specs.Found.{is_resource}
use Rattle.file_search.specs.FoundFiles.{FoundFile}
use Rattle.resource_files.specs.SaidFaults.{name_of}

-- ---- what files hold

-- it begins with the empty entry of a resource file
abbrev pub is_resource_file : FoundFile → Bool
is_resource_file found = begins found.bytes resource_start

abbrev pub item_entry : Result Entry ResError → Option Entry
item_entry (Ok entry) = Some entry
item_entry (Err error) = None

abbrev pub item_error : Result Entry ResError → Option ResError
item_error (Ok entry) = None
item_error (Err error) = Some error

-- its entries, in their order
abbrev pub entries_in : FoundFile → List Entry
entries_in found = filter_map item_entry (resources_of found.bytes)

-- the first error of its entries
abbrev pub error_in : FoundFile → Option ResError
error_in found = first_standing (map item_error (resources_of found.bytes))

-- the entries of the resource files among files: in the order of the files, and in each file in its order
abbrev pub entries_among : List FoundFile → List Entry
entries_among files = flat_map entries_in (filter is_resource_file files)

-- one of them is a resource file
abbrev pub merges_resources : List FoundFile → Bool
merges_resources files = list_any is_resource_file files

-- ---- why one does not open

abbrev pub bad_entry : List ℕ → ResError → Fault
bad_entry file error = BadResource file None error.kind error.at

-- so many entries are more than a link takes
abbrev pub too_many : ℕ → Option Fault
too_many count = if nat_lt RESOURCE_LIMIT count then Some (TooManyResources count) else None

-- an entry has the type, the name and the language of another
abbrev pub same_entry : Entry → Entry → Bool
same_entry other entry = is_resource other.kind other.name other.language entry

-- it has those of one of these
abbrev pub is_again : List Entry → Entry → Bool
is_again earlier entry = list_any (λ other. same_entry other entry) earlier

-- the first entry whose type, name and language one before it has, or one of the earlier
unfoldable pub first_again : List Entry → List Entry → Option Entry
first_again earlier [] = None
first_again earlier (entry ∷ rest) = if is_again earlier entry then Some entry else first_again (earlier ++ entry ∷ []) rest

abbrev pub duplicate : List ℕ → Entry → Fault
duplicate file entry = DuplicateResource file None (name_of entry.kind) (name_of entry.name) entry.language

-- what is wrong with its entries, behind those of the files before it
abbrev pub entries_fault : FoundFile → List Entry → Option Fault
entries_fault found earlier =
    option_or (option_map (bad_entry found.file) (error_in found))
    (option_or (too_many (length earlier + length (entries_in found))) (option_map (duplicate found.file) (first_again earlier (entries_in found))))

-- why it does not open after these entries, where a module before it brings resources or not
abbrev pub resource_fault : FoundFile → Bool → List Entry → Option Fault
resource_fault found brings earlier =
    option_or (shown brings (Unsupported found.file None SecondResource)) (entries_fault found earlier)
