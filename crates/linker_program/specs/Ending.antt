-- How a run can end where its files are told and nothing fails. Own.
use Rattle.std.specs.Prelude.{ℕ, List, Option}
use Rattle.link_base.specs.declared.fault.Fault.{Fault}
use Rattle.image_writer.specs.ExpectedImage.{ImagePlan}
use Rattle.module_view.specs.Module.{ModuleView}
use Rattle.res_merge.specs.Entries.{Entry}
use Rattle.link_words.specs.Outcome.{LinkOptions}

-- what is linked, and of what it is made: the options, the modules in the order of joining, and the resources in the order of
-- their files; and the text of its map, the file of its PDB and that of its import library, which a link without exports has
-- not, whether they are asked for or not
pub record Plan : Type 0 where
  pub options : LinkOptions
  pub modules : List ModuleView
  pub resources : List Entry
  pub image : ImagePlan
  pub map : List ℕ
  pub pdb : List ℕ
  pub library : Option (List ℕ)

pub data Outcome : Type 0 where
  -- the words are refused: the index of the word and the kind of the refusal
  Usage : ℕ → List ℕ → Outcome
  -- the input is refused
  Refused : Fault → Outcome
  -- the link is done
  Linked : Plan → Outcome
  -- the line of a command that shows something
  Shown : List ℕ → Outcome
