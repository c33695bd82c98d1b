-- The fields of a candidate, as the code gathers them. It decides nothing.
use Rattle.std.specs.Prelude.{◌≡◌, ℕ, ◌<◌, ◌⊎◌, List, [], length, slice_get, slice_index_or, option_map, unwrap_or, Option, Some, None, Ok, Err, Vec}
use Rattle.std.specs.declared.alloc.Global.{Global}
use Rattle.std.specs.List.{AllPairs, Contains}
use Rattle.relocate.specs.declared.fix.Fix.{Fix}
use Rattle.relocate.specs.declared.fix.Target.TheVariants as target
use Rattle.icf.specs.declared.candidate.FoldCandidate.{FoldCandidate}
use Rattle.icf.specs.declared.field.Owner.{Owner}
use Rattle.icf.specs.declared.field.Place.{Place}
use Rattle.icf.specs.declared.field.Place.TheVariants.{Section, Piece, Absolute, ImageBase}
use Rattle.icf.specs.declared.field.Field.{Field}
use Rattle.icf.specs.Sections.{fields_at, sections_at}
use Rattle.icf.specs.Alike.{Meant}
use Rattle.icf.specs.Owners.{owner_at}

-- ---- what a field's symbol means

-- a place in a piece, or in the section of its owner where it has one
abbrev pub place_by : Option Owner → ℕ → ℕ → Place
place_by (Some owner) piece value = Section owner.candidate owner.rank value
place_by None piece value = Piece piece value

-- what is meant; where that is not known, anything
abbrev pub place_in : List (Option Owner) → Meant → Place
place_in owners (Some (Ok (target.Piece piece value))) = place_by (owner_at owners piece) piece value
place_in owners (Some (Ok (target.Absolute number))) = Absolute number
place_in owners (Some (Ok target.ImageBase)) = ImageBase
place_in owners (Some (Err fault)) = ImageBase
place_in owners None = ImageBase

abbrev pub field_in : List (Option Owner) → ℕ → Fix → Field
field_in owners rank fix = record { rank = rank; at = fix.at; kind = fix.kind; place = place_in owners fix.target }

-- ---- in order

-- the fields of a candidate among those of all
abbrev pub listed : List (Vec Field Global) → ℕ → List Field
listed lists number = unwrap_or (option_map (λ list. list.items) (slice_get lists number)) []

-- by rank, and then by place
abbrev pub IsBefore : Field → Field → Type 0
IsBefore left right = (left.rank < right.rank) ⊎ ((left.rank ≡ right.rank) × (left.at < right.at))

-- a field of one of the first sections
pub record IsAmong (owners : List (Option Owner)) (fixes : List (List Fix)) (sections : List ℕ) (count : ℕ) (field : Field) : Type 0 where
  pub piece : ℕ
  pub fix : Fix
  pub below : field.rank < count
  pub section : slice_get sections field.rank ≡ Some piece
  pub there : Contains (fields_at fixes piece) fix
  pub is : field ≡ field_in owners field.rank fix

-- the fields of the first sections, in order
pub record AreFieldsBelow (owners : List (Option Owner)) (fixes : List (List Fix)) (sections : List ℕ) (count : ℕ) (fields : List Field) : Type 0 where
  pub ascending : AllPairs IsBefore fields
  pub only : (field : Field) → Contains fields field → IsAmong owners fixes sections count field
  pub every : (rank piece : ℕ) (fix : Fix) → rank < count → slice_get sections rank ≡ Some piece → Contains (fields_at fixes piece) fix
      → Contains fields (field_in owners rank fix)

-- those of all sections
abbrev pub AreFields : List (Option Owner) → List (List Fix) → List ℕ → List Field → Type 0
AreFields owners fixes sections fields = AreFieldsBelow owners fixes sections (length sections) fields

-- the fields of the first candidates
pub record AreFieldLists (owners : List (Option Owner)) (fixes : List (List Fix)) (candidates : List FoldCandidate) (count : ℕ) (lists : List (Vec Field Global)) : Type 0 where
  pub same_length : length lists ≡ count
  pub each : (number : ℕ) (d : Vec Field Global) → number < count → AreFields owners fixes (sections_at candidates number) (slice_index_or lists number d).items
