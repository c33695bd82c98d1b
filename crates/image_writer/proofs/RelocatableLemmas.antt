-- A layout has a file that loads as planned, where its contents stay at each permitted base, or move and their fields are listed.
use Rattle.std.proofs.Common.{◌≡◌, ℕ, true, List, [], ◌∷◌, length, get_or, map, refl, sym, ap, ◌∙◌, subst, arith}
use Rattle.std.specs.List.{range_with_len}
use Rattle.std.proofs.lemmas.List.Elements.{All-nil}
use Rattle.link_base.specs.Bytes.{bytes_at}
use Rattle.section_group.specs.declared.piece.Piece.{Piece}
use Rattle.section_group.specs.declared.piece.OutSection.{OutSection}
use Rattle.section_group.specs.Uniqueness.{rows_of}
use Rattle.address_layout.specs.declared.layout.Layout.{Layout}
use Rattle.base_reloc.specs.declared.field.BaseField.{BaseField}
use Rattle.base_reloc.specs.PageBlocks.{blocks_of, pages_of}
use Rattle.pe_loader.specs.LoadedImage.{base_delta}
use Rattle.image_writer.specs.declared.headers.Headers.{Headers}
use Rattle.image_writer.specs.ExpectedImage.{ImagePlan, MeansPlan, plan_bytes, permits, expected_byte, expected_image, image_file}
use Rattle.image_writer.specs.LoadablePlan.{IsRelocatable}
use Rattle.image_writer.specs.MovedContents.{HaveOneLength, Stay, Move}
use Rattle.image_writer.specs.PieceInFile.{piece_at}
use Rattle.image_writer.specs.RawData.{all_bytes}
use Rattle.image_writer.specs.WrittenImage.{written_plan, layout_plan, HaveRoom, IsLaidOut}
use Rattle.image_writer.proofs.ImageTheorems.{file_means_plan}
use Rattle.image_writer.proofs.LoadableLemmas.{written_loadable}
use Rattle.image_writer.proofs.MovedLemmas.{bytes_in_memory, lie_within, moved_memory}
use Rattle.image_writer.proofs.PlanBytes.{written_bytes}

-- ---- contents that stay

same_maps : (f g : ℕ → ℕ) (xs : List ℕ) → ((x : ℕ) → f x ≡ g x) → map f xs ≡ map g xs
same_maps f g [] same = refl
same_maps f g (x ∷ xs) same = rw (same x, same_maps f g xs same) refl

same_image : (plan : ImagePlan) (base other : ℕ) → plan_bytes plan base ≡ plan_bytes plan other → expected_image plan base ≡ expected_image plan other
unfolding expected_image expected_byte
same_image plan base other same = same_maps (expected_byte plan base) (expected_byte plan other) (range_with_len 0 plan.size) (λ rva. rw same refl)

unmoved : (headers : Headers) (sections : List OutSection) (layout : Layout) (contents : ℕ → List (List ℕ)) → Stay headers sections layout contents → IsRelocatable (layout_plan headers sections layout contents)
unfolding written_plan blocks_of pages_of
unmoved headers sections layout contents stay =
    let plan = layout_plan headers sections layout contents in
    let bytes = written_bytes headers (rows_of sections) layout.sections.items layout.pieces.items layout.image contents in
    record {
      fields = [];
      table = (0, 0);
      directory = stay.directory;
      inside = omega arith;
      lists = refl;
      ascending = λ k lt. absurd (omega arith);
      within = All-nil _;
      raises = λ base permitted. same_image plan base headers.base (bytes base ∙ ap (λ (cs : List (List ℕ)). all_bytes layout.pieces.items cs (rows_of sections)) (stay.same base permitted) ∙ sym (bytes headers.base));
    }

-- ---- contents that move

relocated : (headers : Headers) (pieces : List Piece) (sections : List OutSection) (layout : Layout) (contents : ℕ → List (List ℕ)) (fields : List BaseField) → IsLaidOut pieces sections layout → ((base : ℕ) → HaveRoom pieces sections (contents base)) → HaveOneLength contents → permits (layout_plan headers sections layout contents) headers.base ≡ true → Move headers sections layout contents fields → IsRelocatable (layout_plan headers sections layout contents)
unfolding written_plan
relocated headers pieces sections layout contents fields out room same permitted move =
    let own = headers.base in
    let k = piece_at sections move.section move.number in
    let plan = layout_plan headers sections layout contents in
    record {
      fields = fields;
      table = (get_or layout.pieces.items k 0, length (blocks_of fields));
      directory = move.directory;
      inside = move.inside;
      lists = subst (λ (bytes : List ℕ). bytes_at (expected_image plan own) (get_or layout.pieces.items k 0) (length bytes) ≡ bytes) move.table (bytes_in_memory headers pieces sections layout contents out own move.section move.number (room own) move.there move.below);
      ascending = move.ascending;
      within = lie_within headers pieces sections layout contents out own own (base_delta own own) (room own) (room own) (λ n. refl) fields (move.moved own permitted);
      raises = λ base allowed. moved_memory headers pieces sections layout contents out own base (base_delta own base) (room own) (room base) (λ n. same base own n) fields (move.moved base allowed) move.apart;
    }

-- ---- the file

pub stays_means : (headers : Headers) (pieces : List Piece) (sections : List OutSection) (layout : Layout) (contents : ℕ → List (List ℕ)) → IsLaidOut pieces sections layout → HaveRoom pieces sections (contents headers.base) → HaveOneLength contents → length headers.directories ≡ 16 → permits (layout_plan headers sections layout contents) headers.base ≡ true → Stay headers sections layout contents → MeansPlan (layout_plan headers sections layout contents) (image_file (layout_plan headers sections layout contents))
stays_means headers pieces sections layout contents out room same directories permitted stay =
    file_means_plan (layout_plan headers sections layout contents)
    (written_loadable headers pieces sections layout contents out room same directories permitted (unmoved headers sections layout contents stay))

pub moves_means : (headers : Headers) (pieces : List Piece) (sections : List OutSection) (layout : Layout) (contents : ℕ → List (List ℕ)) (fields : List BaseField) → IsLaidOut pieces sections layout → ((base : ℕ) → HaveRoom pieces sections (contents base)) → HaveOneLength contents → length headers.directories ≡ 16 → permits (layout_plan headers sections layout contents) headers.base ≡ true → Move headers sections layout contents fields → MeansPlan (layout_plan headers sections layout contents) (image_file (layout_plan headers sections layout contents))
moves_means headers pieces sections layout contents fields out room same directories permitted move =
    file_means_plan (layout_plan headers sections layout contents)
    (written_loadable headers pieces sections layout contents out (room headers.base) same directories permitted (relocated headers pieces sections layout contents fields out room same permitted move))
