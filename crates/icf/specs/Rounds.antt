-- Rounds of splitting classes of candidates, by the lists of their fields alone. It decides nothing.
use Rattle.std.specs.Prelude.{◌≡◌, ℕ, ◌+◌, ◌-◌, ◌<◌, List, [], ◌∷◌, length, map, slice_index, slice_index_or, Vec}
use Rattle.std.specs.declared.alloc.Global.{Global}
use Rattle.std.specs.List.{Contains}
use Rattle.icf.specs.declared.field.Place.{Place}
use Rattle.icf.specs.declared.field.Place.TheVariants.{Section, Piece, Absolute, ImageBase}
use Rattle.icf.specs.declared.field.Field.{Field}
use Rattle.icf.specs.declared.rounds.Key.{Key}
use Rattle.icf.specs.Folding.{AreLeast, ArePairsBelow, RelatedBy}
use Rattle.icf.specs.Fields.{listed}

-- ---- fields as classes name them

abbrev pub renamed_place : List ℕ → Place → Place
renamed_place classes (Section candidate rank value) = Section (slice_index classes candidate) rank value
renamed_place classes (Piece piece value) = Piece piece value
renamed_place classes (Absolute number) = Absolute number
renamed_place classes ImageBase = ImageBase

abbrev pub renamed_field : List ℕ → Field → Field
renamed_field classes field = record { rank = field.rank; at = field.at; kind = field.kind; place = renamed_place classes field.place }

abbrev pub renamed : List ℕ → List Field → List Field
renamed classes fields = map (renamed_field classes) fields

-- the candidate that a place names is below a number
abbrev pub IsPlaceBelow : ℕ → Place → Type 0
IsPlaceBelow count (Section candidate rank value) = candidate < count
IsPlaceBelow count (Piece piece value) = Unit {0}
IsPlaceBelow count (Absolute number) = Unit {0}
IsPlaceBelow count ImageBase = Unit {0}

abbrev pub AreFieldsWithin : ℕ → List Field → Type 0
AreFieldsWithin count fields = (field : Field) → Contains fields field → IsPlaceBelow count field.place

abbrev pub AreListsWithin : ℕ → List (Vec Field Global) → Type 0
AreListsWithin count lists = (number : ℕ) → AreFieldsWithin count (listed lists number)

-- ---- a round

-- a key has the class of a candidate and its fields
pub record IsKey (lists : List (Vec Field Global)) (classes : List ℕ) (number : ℕ) (key : Key) : Type 0 where
  pub class : key.class ≡ slice_index classes number
  pub fields : key.fields.items ≡ renamed classes (listed lists number)

pub record AreKeys (lists : List (Vec Field Global)) (classes : List ℕ) (count : ℕ) (keys : List Key) : Type 0 where
  pub same_length : length keys ≡ count
  pub each : (number : ℕ) (d : Key) → number < count → IsKey lists classes number (slice_index_or keys number d)

-- candidates stay in one class where they were and their fields are equal as the classes name them
pub record Refines (lists : List (Vec Field Global)) (classes refined : List ℕ) : Type 0 where
  pub same_length : length refined ≡ length classes
  pub first : AreLeast refined
  pub finer : (i j : ℕ) → i < length classes → j < length classes → slice_index refined i ≡ slice_index refined j → slice_index classes i ≡ slice_index classes j
  pub equal : (i j : ℕ) → i < length classes → j < length classes → slice_index refined i ≡ slice_index refined j
      → renamed classes (listed lists i) ≡ renamed classes (listed lists j)
  pub every : (i j : ℕ) → i < length classes → j < length classes → slice_index classes i ≡ slice_index classes j
      → renamed classes (listed lists i) ≡ renamed classes (listed lists j) → slice_index refined i ≡ slice_index refined j

-- ---- all rounds

-- each pair is in one class
abbrev pub JoinsAll : List (ℕ × ℕ) → List ℕ → Type 0
JoinsAll pairs classes = (left right : ℕ) → RelatedBy pairs left right → slice_index classes left ≡ slice_index classes right

-- each pair has equal fields under classes that have it in one
abbrev pub StaysTogether : List (Vec Field Global) → List (ℕ × ℕ) → Type 0
StaysTogether lists pairs =
    (classes : List ℕ) → JoinsAll pairs classes → (left right : ℕ) → RelatedBy pairs left right
    → renamed classes (listed lists left) ≡ renamed classes (listed lists right)

-- what classes keep from round to round: they split the first ones, and part no pairs that stay together
pub record AreSplit (lists : List (Vec Field Global)) (start classes : List ℕ) : Type 0 where
  pub same_length : length classes ≡ length start
  pub first : AreLeast classes
  pub finer : (i j : ℕ) → i < length start → j < length start → slice_index classes i ≡ slice_index classes j → slice_index start i ≡ slice_index start j
  pub joins : (pairs : List (ℕ × ℕ)) → ArePairsBelow (length start) pairs → JoinsAll pairs start → StaysTogether lists pairs → JoinsAll pairs classes

-- and no class splits any more
pub record AreSettled (lists : List (Vec Field Global)) (start classes : List ℕ) : Type 0 where
  pub split : AreSplit lists start classes
  pub stable : (i j : ℕ) → i < length start → j < length start → slice_index classes i ≡ slice_index classes j
      → renamed classes (listed lists i) ≡ renamed classes (listed lists j)

-- ---- how far classes may still split

-- how far the numbers of classes are below so many
abbrev pub room : ℕ → List ℕ → ℕ
room count [] = 0
room count (class ∷ classes) = (count - class) + room count classes
