-- What candidates are first told apart by, as the code gathers it. It decides nothing.
use Rattle.std.specs.Prelude.{◌≡◌, ℕ, ◌<◌, List, length, map, slice_index, slice_index_or, Option, option_copied, Vec}
use Rattle.std.specs.declared.alloc.Global.{Global}
use Rattle.section_group.specs.declared.piece.Piece.{Piece}
use Rattle.section_group.specs.SectionOrder.{no_piece}
use Rattle.icf.specs.declared.candidate.FoldCandidate.{FoldCandidate}
use Rattle.icf.specs.declared.contents.Contents.{Contents}
use Rattle.icf.specs.Folding.{AreLeast}
use Rattle.icf.specs.Sections.{sections_at}

abbrev pub contents_of : Piece → Contents
contents_of piece = record { name = piece.name; flags = piece.flags; size = piece.size; «data» = piece.body }

-- those of each section
abbrev pub all_contents : List Piece → List ℕ → List Contents
all_contents pieces sections = map (λ piece. contents_of (slice_index_or pieces piece no_piece)) sections

-- those of the first candidates
pub record AreContentLists (pieces : List Piece) (candidates : List FoldCandidate) (count : ℕ) (lists : List (Vec Contents Global)) : Type 0 where
  pub same_length : length lists ≡ count
  pub each : (number : ℕ) (d : Vec Contents Global) → number < count → (slice_index_or lists number d).items ≡ all_contents pieces (sections_at candidates number)

-- what two sections have to share
pub record Shown : Type 0 where
  pub name : List ℕ
  pub flags : ℕ
  pub size : ℕ
  pub bytes : Option (List ℕ)

abbrev pub shown : Contents → Shown
shown contents = record { name = contents.name; flags = contents.flags; size = contents.size; bytes = option_copied contents.data }

abbrev pub all_shown : List Piece → List ℕ → List Shown
all_shown pieces sections = map shown (all_contents pieces sections)

-- the first classes are of candidates whose sections share that, one by one
pub record AreFirstClasses (pieces : List Piece) (candidates : List FoldCandidate) (classes : List ℕ) : Type 0 where
  pub same_length : length classes ≡ length candidates
  pub first : AreLeast classes
  pub equal : (i j : ℕ) → i < length candidates → j < length candidates → slice_index classes i ≡ slice_index classes j
      → all_shown pieces (sections_at candidates i) ≡ all_shown pieces (sections_at candidates j)
  pub every : (i j : ℕ) → i < length candidates → j < length candidates
      → all_shown pieces (sections_at candidates i) ≡ all_shown pieces (sections_at candidates j) → slice_index classes i ≡ slice_index classes j
