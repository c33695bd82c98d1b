-- What `gen` shows of a generated program: the length of its image, and the sums of the bytes of its code, which is the first
-- section, as it stands in memory at two bases. Own.
use Rattle.std.specs.Prelude.{ℕ, List, length, sum, Option, Some, None, option_map}
use Rattle.link_base.specs.Bytes.{bytes_at}
use Rattle.link_base.specs.declared.fault.Fault.TheVariants as faults
use Rattle.pe_loader.specs.LoadedImage.{loaded}
use Rattle.pe_loader.specs.Extents.{numbered_section}
use Rattle.image_writer.specs.ExpectedImage.{image_file}
use Rattle.linker_program.specs.Ending.{Outcome, Usage, Refused, Linked, Shown}
use Rattle.linker_program.specs.RunLines.{OWN_BASE, OTHER_BASE, generated_line}

-- the bytes at an RVA and of a size, where there is such a section
abbrev pub extent_sum : List ℕ → Option (ℕ × ℕ) → ℕ
extent_sum memory None = 0
extent_sum memory (Some extent) = sum (bytes_at memory extent.0 extent.1)

-- at a base, where the image may stand there
unfoldable pub sum_at : List ℕ → ℕ → Option ℕ
sum_at image base = option_map (λ memory. extent_sum memory (numbered_section image 1)) (loaded image base)

-- an image that may not stand at one of the bases is refused
abbrev pub sums_shown : ℕ → ℕ → Option ℕ → Option ℕ → Outcome
sums_shown count len None other = Refused (faults.BasePermit OWN_BASE)
sums_shown count len (Some own) None = Refused (faults.BasePermit OTHER_BASE)
sums_shown count len (Some own) (Some other) = Shown (generated_line count len own other)

abbrev pub image_told : ℕ → List ℕ → Outcome
image_told count image = sums_shown count (length image) (sum_at image OWN_BASE) (sum_at image OTHER_BASE)

-- of what comes of the link of so many objects: what ends it, or what its image shows
abbrev pub generated_shown : ℕ → Outcome → Outcome
generated_shown count (Linked plan) = image_told count (image_file plan.image)
generated_shown count (Refused fault) = Refused fault
generated_shown count (Usage index kind) = Usage index kind
generated_shown count (Shown line) = Shown line
