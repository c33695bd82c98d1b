-- A plan has one file.
use Rattle.std.proofs.Common.{◌≡◌, ◌<◌, ℕ, List, Some, ap, ◌∙◌}
use Rattle.std.specs.List.{All}
use Rattle.std.proofs.lemmas.Bool.{cond-true}
use Rattle.pe_loader.specs.LoadedImage.{image_base, loaded}
use Rattle.pe_loader.proofs.CallerLemmas.{one_image}
use Rattle.image_writer.specs.ExpectedImage.{ImagePlan, MeansPlan, permits, expected_image}

loads_own : (plan : ImagePlan) (image : List ℕ) → MeansPlan plan image → loaded image (image_base image) ≡ Some (expected_image plan plan.headers.base)
loads_own plan image means =
    ap (loaded image) means.own ∙ means.loads plan.headers.base ∙ cond-true (permits plan plan.headers.base) _ _ means.permitted

pub one_file : (plan : ImagePlan) (first second : List ℕ) → All (λ byte. byte < 256) first → All (λ byte. byte < 256) second → MeansPlan plan first → MeansPlan plan second → first ≡ second
one_file plan first second small_first small_second means_first means_second =
    one_image first second (expected_image plan plan.headers.base) small_first small_second (loads_own plan first means_first) (loads_own plan second means_second) means_first.slack means_second.slack
