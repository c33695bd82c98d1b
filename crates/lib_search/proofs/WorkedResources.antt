-- The definitions on inputs that are resource files of one resource.
use Rattle.std.proofs.Common.{◌≡◌, [], ◌∷◌, Some, None, refl}
use Rattle.link_base.specs.Bytes.{number_at, first_below}
use Rattle.link_base.specs.Refusals.{first_refusal_below}
use Rattle.link_base.specs.declared.fault.Fault.TheVariants.{BadResource, DuplicateResource}
use Rattle.link_base.specs.declared.kinds.resource.ResFault.TheVariants.{Data}
use Rattle.link_base.specs.declared.kinds.resource.ResName.TheVariants as name
use Rattle.coff_object.specs.Forms.{resource_start}
use Rattle.res_merge.specs.ResourceFile.{aligned, text_units, name_read, heading, size_is_bad, header_is_bad, entry_with, entry_read, entries_from, resources_of}
use Rattle.resource_files.specs.Held.{first_again}
use Rattle.resource_files.proofs.WorkedResourceFiles.{zeros, heads, fields, bytes, first, second, cut}
use Rattle.lib_search.specs.Inputs.{modules_among, opening_fault}

it-opens : opening_fault (first ∷ []) ≡ None
unfolding first bytes resource_start zeros heads fields number_at first_below first_refusal_below aligned text_units name_read heading size_is_bad header_is_bad entry_with entry_read entries_from resources_of first_again
it-opens = refl

no-module : modules_among (first ∷ []) ≡ []
unfolding first bytes resource_start
no-module = refl

-- twice
again : opening_fault (first ∷ second ∷ []) ≡ Some (DuplicateResource (98 ∷ []) None (name.Number 10) (name.Number 1) 0x409)
unfolding first second bytes resource_start zeros heads fields number_at first_below first_refusal_below aligned text_units name_read heading size_is_bad header_is_bad entry_with entry_read entries_from resources_of first_again
again = refl

-- without its last byte
malformed : opening_fault (first ∷ cut ∷ []) ≡ Some (BadResource (99 ∷ []) None Data 32)
unfolding first cut bytes resource_start zeros heads fields number_at first_below first_refusal_below aligned text_units name_read heading size_is_bad header_is_bad entry_with entry_read entries_from resources_of first_again
malformed = refl
