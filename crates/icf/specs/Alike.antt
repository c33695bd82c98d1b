-- When two candidates are alike under a relation of candidates. Own, after the folding of identical COMDATs (MSVC linker
-- reference, "/OPT").
use Rattle.std.specs.Prelude.{◌≡◌, ℕ, ◌⊎◌, length, Option, Some, Result, Ok}
use Rattle.std.specs.List.{Contains}
use Rattle.link_base.specs.declared.kinds.target.TargetFault.{TargetFault}
use Rattle.relocate.specs.declared.fix.Fix.{Fix}
use Rattle.relocate.specs.declared.fix.Target.{Target}
use Rattle.relocate.specs.declared.fix.Target.TheVariants.{Piece}
use Rattle.icf.specs.Sections.{Input, piece_at, data_at, fields_at, sections_at, HasSection}

-- what a field's symbol means
abbrev pub Meant : Type 0
Meant = Option (Result Target TargetFault)

module _ (input : Input) (E : ℕ → ℕ → Type 0) where
  -- two targets are at equal values in the sections of one rank of two candidates that are related: in the candidates
  -- themselves, or in two of their children
  pub record StandAlike (left right : Meant) : Type 0 where
    pub candidate : ℕ
    pub other : ℕ
    pub related : E candidate other
    pub rank : ℕ
    pub piece : ℕ
    pub other_piece : ℕ
    pub value : ℕ
    pub section : HasSection input.candidates candidate rank piece
    pub other_section : HasSection input.candidates other rank other_piece
    pub stands : left ≡ Some (Ok (Piece piece value))
    pub other_stands : right ≡ Some (Ok (Piece other_piece value))

  -- two targets agree: they are of one meaning, or stand alike
  abbrev pub Agree : Meant → Meant → Type 0
  Agree left right = (left ≡ right) ⊎ StandAlike left right

  -- two fields agree in place, type and target
  pub record AreAlikeFields (left right : Fix) : Type 0 where
    pub place : left.at ≡ right.at
    pub kind : left.kind ≡ right.kind
    pub targets : Agree left.target right.target

  -- two sections are alike: in name, flags, size and data, and each field of either has one of the other that agrees with it
  pub record AreAlikeSections (left right : ℕ) : Type 0 where
    pub names : (piece_at input left).name ≡ (piece_at input right).name
    pub flags : (piece_at input left).flags ≡ (piece_at input right).flags
    pub sizes : (piece_at input left).size ≡ (piece_at input right).size
    pub contents : data_at input left ≡ data_at input right
    pub left_fields : (fix : Fix) → Contains (fields_at input.fixes left) fix → (other : Fix) × (Contains (fields_at input.fixes right) other × AreAlikeFields fix other)
    pub right_fields : (fix : Fix) → Contains (fields_at input.fixes right) fix → (other : Fix) × (Contains (fields_at input.fixes left) other × AreAlikeFields other fix)

  -- two candidates are alike: they are so themselves, and their children, which are as many, pairwise
  pub record AreAlike (left right : ℕ) : Type 0 where
    pub as_many : length (sections_at input.candidates left) ≡ length (sections_at input.candidates right)
    pub pairwise : (rank left_piece right_piece : ℕ) → HasSection input.candidates left rank left_piece → HasSection input.candidates right rank right_piece
        → AreAlikeSections left_piece right_piece
