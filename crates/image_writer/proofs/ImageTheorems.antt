-- The file of a loadable plan loads as the plan says.
use Rattle.std.proofs.Common.{◌≡◌, ℕ, Bool, true, false, cond, List, Some, None, refl, sym, ap}
use Rattle.base_reloc.specs.Blocks.{raised_all}
use Rattle.pe_loader.specs.LoadedImage.{base_delta, loaded}
use Rattle.image_writer.specs.ExpectedImage.{ImagePlan, MeansPlan, permits, expected_image, expected_at, image_file}
use Rattle.image_writer.specs.LoadablePlan.{IsLoadable}
use Rattle.image_writer.proofs.HeaderFields.{fixed_reads, large_reads, base_reads, size_reads}
use Rattle.image_writer.proofs.ImageTests.{no_fault}
use Rattle.image_writer.proofs.ImageMemory.{copied_is, walk_is}
use Rattle.image_writer.proofs.ImageSlack.{zero_slack}

where_permitted : (b : Bool) (x y : List ℕ) → (b ≡ true → y ≡ x) → cond b (Some x) None ≡ cond b (Some y) None
where_permitted true x y same = ap Some (sym (same refl))
where_permitted false x y same = refl

loads_as_planned : (plan : ImagePlan) (base : ℕ) → IsLoadable plan → loaded (image_file plan) base ≡ expected_at plan base
unfolding loaded
loads_as_planned plan base placed =
    let own = plan.headers.base in
    rw (no_fault plan placed, fixed_reads plan, large_reads plan, base_reads plan placed, size_reads plan placed, walk_is plan placed, copied_is plan placed) (
    where_permitted (permits plan base) (raised_all (base_delta own base) (expected_image plan own) placed.relocatable.fields) (expected_image plan base) (placed.relocatable.raises base))

pub file_means_plan : (plan : ImagePlan) → IsLoadable plan → MeansPlan plan (image_file plan)
file_means_plan plan placed = record {
  loads = λ base. loads_as_planned plan base placed;
  own = base_reads plan placed;
  permitted = placed.permitted;
  slack = zero_slack plan placed;
}
