-- The fields that a table in a made memory lists are those of the definitions, and the fault of its blocks is the image's.
use Rattle.std.proofs.Common.{◌≡◌, ℕ, ◌+◌, ◌-◌, ◌^◌, ◌%◌, ◌<◌, ◌≤◌, Bool, true, false, cond, ◌&&◌, ◌||◌, ◌==◌, nat_le, leb, List, length, Some, None, Ok, Err, refl, sym, ap, ◌∙◌, le-leb, arith}
use Rattle.std.proofs.lemmas.Bool.{and_left, eq-eqb, ne_eqb, lt-leb, false≢true}
use Rattle.link_base.specs.Bytes.{bytes_at}
use Rattle.link_base.specs.declared.kinds.image.ImageKind.TheVariants as bad
use Rattle.base_reloc.specs.declared.loading.BadBlocks.{BadBlocks}
use Rattle.base_reloc.specs.Blocks.{Walk, Fields, MalformedAt, IsAnswer, blocks_at, walk_of, walked_fields, raised_all}
use Rattle.pe_loader.specs.LoadedImage.{size_of_image, image_base, directory_rva, directory_size, copied, base_walk, base_delta, is_walked, has_blocks, file_fault, image_fault}
use Rattle.pe_loader.specs.Extents.{directory_extent}
use Rattle.pe_loader.proofs.ImageTests.{length-copied}
use Rattle.pe_loader.proofs.FaultLemmas.{blocks_decide, file_size}

-- ---- no table

pub none_fine : (image : List ℕ) (extent : ℕ × ℕ) → file_fault image ≡ None → extent ≡ directory_extent image 5 → extent.1 ≡ 0 → image_fault image ≡ None
unfolding has_blocks
none_fine image extent fine is none =
    let size : directory_size image 5 ≡ 0 = sym (ap (λ (e : ℕ × ℕ). e.1) is) ∙ none in
    blocks_decide image fine
    ∙ ap (λ (b : Bool). cond (b || (nat_le (directory_rva image 5 + directory_size image 5) (size_of_image image) && is_walked (base_walk image))) None (Some bad.Blocks)) (eq-eqb _ _ size)

pub none_raised : (image memory : List ℕ) (extent : ℕ × ℕ) (delta : ℕ) → memory ≡ copied image → extent ≡ directory_extent image 5 → extent.1 ≡ 0 → memory ≡ raised_all delta (copied image) (walked_fields (base_walk image))
unfolding base_walk blocks_at
none_raised image memory extent delta same is none =
    let size : directory_size image 5 ≡ 0 = sym (ap (λ (e : ℕ × ℕ). e.1) is) ∙ none in
    same
    ∙ sym (ap (λ (n : ℕ). raised_all delta (copied image) (walked_fields (walk_of (size_of_image image) (bytes_at (copied image) (directory_rva image 5) n)))) size)

-- ---- a table

not_blocks : (image : List ℕ) (rest : Bool) → (directory_size image 5 ≡ 0 → ⊥) → rest ≡ false → ((directory_size image 5 == 0) || rest) ≡ false
not_blocks image rest some fails = ap (λ (b : Bool). b || rest) (ne_eqb _ _ some) ∙ fails

pub leaves : (image memory : List ℕ) (extent : ℕ × ℕ) → file_fault image ≡ None → memory ≡ copied image → extent ≡ directory_extent image 5 → (extent.1 ≡ 0 → ⊥) → length memory < extent.0 + extent.1 → image_fault image ≡ Some bad.Blocks
unfolding has_blocks
leaves image memory extent fine same is some past =
    let rva : extent.0 ≡ directory_rva image 5 = ap (λ (e : ℕ × ℕ). e.0) is in
    let size : extent.1 ≡ directory_size image 5 = ap (λ (e : ℕ × ℕ). e.1) is in
    let len : length memory ≡ size_of_image image = ap length same ∙ length-copied image in
    let outside : leb (directory_rva image 5 + directory_size image 5) (size_of_image image) ≡ false = lt-leb _ _ (omega (arith, past, rva, size, len)) in
    blocks_decide image fine
    ∙ ap (λ (b : Bool). cond b None (Some bad.Blocks)) (not_blocks image _ (λ none. some (size ∙ none)) (and_left _ (is_walked (base_walk image)) outside))

walk_is : (image memory blocks : List ℕ) (extent : ℕ × ℕ) → memory ≡ copied image → extent ≡ directory_extent image 5 → blocks ≡ bytes_at memory extent.0 extent.1 → walk_of (length memory) blocks ≡ base_walk image
unfolding base_walk
walk_is image memory blocks extent same is listed =
    ap (λ (n : ℕ). walk_of n blocks) (ap length same ∙ length-copied image)
    ∙ ap (walk_of (size_of_image image)) (listed ∙ ap (λ (xs : List ℕ). bytes_at xs extent.0 extent.1) same ∙ ap (λ (e : ℕ × ℕ). bytes_at (copied image) e.0 e.1) is)

-- what is known where the blocks are applied
pub record IsRead (image memory blocks : List ℕ) (extent : ℕ × ℕ) : Type 0 where
  pub fine : file_fault image ≡ None
  pub same : memory ≡ copied image
  pub is : extent ≡ directory_extent image 5
  pub some : extent.1 ≡ 0 → ⊥
  pub inside : extent.0 + extent.1 ≤ length memory
  pub listed : blocks ≡ bytes_at memory extent.0 extent.1

pub is_read : (image memory copy blocks part : List ℕ) (extent : ℕ × ℕ) → file_fault image ≡ None → memory ≡ copied image → extent ≡ directory_extent image 5 → (extent.1 ≡ 0 → ⊥) → extent.0 + extent.1 ≤ length memory → part ≡ bytes_at memory extent.0 extent.1 → copy ≡ part → blocks ≡ copy → IsRead image memory blocks extent
is_read image memory copy blocks part extent fine same is some inside listed first second = record {
  fine = fine;
  same = same;
  is = is;
  some = some;
  inside = inside;
  listed = second ∙ first ∙ listed;
}

fault_by_walk : (image memory blocks : List ℕ) (extent : ℕ × ℕ) (b : Bool) → IsRead image memory blocks extent → is_walked (walk_of (length memory) blocks) ≡ b → image_fault image ≡ cond b None (Some bad.Blocks)
unfolding has_blocks
fault_by_walk image memory blocks extent b read walked =
    let rva : extent.0 ≡ directory_rva image 5 = ap (λ (e : ℕ × ℕ). e.0) read.is in
    let size : extent.1 ≡ directory_size image 5 = ap (λ (e : ℕ × ℕ). e.1) read.is in
    let len : length memory ≡ size_of_image image = ap length read.same ∙ length-copied image in
    let inside : leb (directory_rva image 5 + directory_size image 5) (size_of_image image) ≡ true = le-leb _ _ (omega (arith, read.inside, rva, size, len)) in
    blocks_decide image read.fine
    ∙ ap (λ (c : Bool). cond (c || (leb (directory_rva image 5 + directory_size image 5) (size_of_image image) && is_walked (base_walk image))) None (Some bad.Blocks)) (ne_eqb _ _ (λ none. read.some (size ∙ none)))
    ∙ ap (λ (c : Bool). cond (c && is_walked (base_walk image)) None (Some bad.Blocks)) inside
    ∙ ap (λ (walk : Walk). cond (is_walked walk) None (Some bad.Blocks)) (sym (walk_is image memory blocks extent read.same read.is read.listed))
    ∙ ap (λ (c : Bool). cond c None (Some bad.Blocks)) walked

pub blocks_fine : (image memory blocks : List ℕ) (extent : ℕ × ℕ) → IsRead image memory blocks extent → IsAnswer (walk_of (length memory) blocks) (Ok tt) → image_fault image ≡ None
blocks_fine image memory blocks extent read answer = fault_by_walk image memory blocks extent true read (go (walk_of (length memory) blocks) answer)
  where
    go : (walk : Walk) → IsAnswer walk (Ok tt) → is_walked walk ≡ true
    go (Fields fields) answer = refl
    go (MalformedAt offset) answer = absurd answer

pub blocks_malformed : (image memory blocks : List ℕ) (extent : ℕ × ℕ) (error : BadBlocks) → IsRead image memory blocks extent → IsAnswer (walk_of (length memory) blocks) (Err error) → image_fault image ≡ Some bad.Blocks
blocks_malformed image memory blocks extent error read answer = fault_by_walk image memory blocks extent false read (go (walk_of (length memory) blocks) answer)
  where
    go : (walk : Walk) → IsAnswer walk (Err error) → is_walked walk ≡ false
    go (Fields fields) answer = absurd (false≢true answer)
    go (MalformedAt offset) answer = refl

-- how far a base lies above another, as a machine subtracts
delta_is : (own rule base : ℕ) → rule ≡ own → rule < 2 ^ 64 → (base + (2 ^ 64 - rule)) % 2 ^ 64 ≡ base_delta own base
delta_is own rule base same lt = ap (λ (n : ℕ). n % 2 ^ 64) (sums own rule base same lt)
  where
    sums : (own rule base : ℕ) → rule ≡ own → rule < 2 ^ 64 → base + (2 ^ 64 - rule) ≡ base + 2 ^ 64 - own
    sums own rule base same lt = omega arith

pub blocks_raised : (image memory blocks new : List ℕ) (extent : ℕ × ℕ) (rule base : ℕ) → IsRead image memory blocks extent → rule ≡ image_base image → rule < 2 ^ 64 → new ≡ raised_all ((base + (2 ^ 64 - rule)) % 2 ^ 64) memory (walked_fields (walk_of (length memory) blocks)) → new ≡ raised_all (base_delta (image_base image) base) (copied image) (walked_fields (base_walk image))
blocks_raised image memory blocks new extent rule base read own lt raised =
    raised
    ∙ ap (λ (d : ℕ). raised_all d memory (walked_fields (walk_of (length memory) blocks))) (delta_is (image_base image) rule base own lt)
    ∙ ap (λ (xs : List ℕ). raised_all (base_delta (image_base image) base) xs (walked_fields (walk_of (length memory) blocks))) read.same
    ∙ ap (λ (walk : Walk). raised_all (base_delta (image_base image) base) (copied image) (walked_fields walk)) (walk_is image memory blocks extent read.same read.is read.listed)

pub memory_small : (image memory : List ℕ) → file_fault image ≡ None → memory ≡ copied image → length memory < 2 ^ 32
memory_small image memory fine same = omega (arith, ap length same, length-copied image, file_size image fine)
