-- What the comparisons of the code tell: fields and keys that are equal, and contents that show the same.
use Rattle.std.proofs.Common.{◌≡◌, ℕ, true, false, ◌&&◌, eqb, List, [], ◌∷◌, map, Option, Some, None, refl, ap, ◌∙◌}
use Rattle.std.specs.Bool.{Decides}
use Rattle.std.specs.Borrow.{Bor}
use Rattle.std.specs.Option.{option_copied, option_eq}
use Rattle.std.specs.Prelude.{nat_eq}
use Rattle.std.specs.Cmp.Lexicographic.{pointwise}
use Rattle.std.proofs.lemmas.Bool.{false≢true, and_parts, and_from, eqb-true, eq-eqb}
use Rattle.std.proofs.lemmas.Slice.Eq.{slice_eq-Decides, bytes_eq-Decides}
use Rattle.icf.specs.contracts.field.PlacePartialEq.TheImpl as place_eq
use Rattle.icf.specs.contracts.field.FieldPartialEq.TheImpl as field_eq
use Rattle.icf.specs.contracts.rounds.KeyPartialEq.TheImpl as key_eq
use Rattle.icf.specs.contracts.contents.ContentsPartialEq.TheImpl as contents_eq
use Rattle.icf.specs.declared.field.Place.{Place}
use Rattle.icf.specs.declared.field.Place.TheVariants.{Section, Piece, Absolute, ImageBase}
use Rattle.icf.specs.declared.field.Field.{Field}
use Rattle.icf.specs.declared.rounds.Key.{Key}
use Rattle.icf.specs.declared.contents.Contents.{Contents}
use Rattle.icf.specs.Contents.{Shown, shown}

differ : {P : Type 0} → false ≡ true → P
differ e = absurd (false≢true e)

-- ---- fields

pub places_decide : (a b : Place) → Decides ((place_eq.ghosts).eq a b) (a ≡ b)
places_decide (Section c r v) (Section c' r' v') = (
  λ e.
      let first = and_parts (eqb c c') (eqb r r' && eqb v v') e in
      let rest = and_parts (eqb r r') (eqb v v') first.1 in
      ap (λ (n : ℕ). Section n r v) (eqb-true c c' first.0) ∙ ap (λ (n : ℕ). Section c' n v) (eqb-true r r' rest.0) ∙ ap (λ (n : ℕ). Section c' r' n) (eqb-true v v' rest.1),
  λ e.
      let one : c ≡ c' = cc in
      let two : r ≡ r' = cc in
      let three : v ≡ v' = cc in
      and_from (eqb c c') (eqb r r' && eqb v v') (eq-eqb c c' one) (and_from (eqb r r') (eqb v v') (eq-eqb r r' two) (eq-eqb v v' three)),
)
places_decide (Section c r v) (Piece p' v') = (λ e. differ e, λ e. absurd cc)
places_decide (Section c r v) (Absolute n') = (λ e. differ e, λ e. absurd cc)
places_decide (Section c r v) ImageBase = (λ e. differ e, λ e. absurd cc)
places_decide (Piece p v) (Section c' r' v') = (λ e. differ e, λ e. absurd cc)
places_decide (Piece p v) (Piece p' v') = (
  λ e.
      let parts = and_parts (eqb p p') (eqb v v') e in
      ap (λ (n : ℕ). Piece n v) (eqb-true p p' parts.0) ∙ ap (λ (n : ℕ). Piece p' n) (eqb-true v v' parts.1),
  λ e.
      let one : p ≡ p' = cc in
      let two : v ≡ v' = cc in
      and_from (eqb p p') (eqb v v') (eq-eqb p p' one) (eq-eqb v v' two),
)
places_decide (Piece p v) (Absolute n') = (λ e. differ e, λ e. absurd cc)
places_decide (Piece p v) ImageBase = (λ e. differ e, λ e. absurd cc)
places_decide (Absolute n) (Section c' r' v') = (λ e. differ e, λ e. absurd cc)
places_decide (Absolute n) (Piece p' v') = (λ e. differ e, λ e. absurd cc)
places_decide (Absolute n) (Absolute n') = (λ e. ap Absolute (eqb-true n n' e), λ e. let one : n ≡ n' = cc in eq-eqb n n' one)
places_decide (Absolute n) ImageBase = (λ e. differ e, λ e. absurd cc)
places_decide ImageBase (Section c' r' v') = (λ e. differ e, λ e. absurd cc)
places_decide ImageBase (Piece p' v') = (λ e. differ e, λ e. absurd cc)
places_decide ImageBase (Absolute n') = (λ e. differ e, λ e. absurd cc)
places_decide ImageBase ImageBase = (λ e. refl, λ e. refl)

pub fields_decide : (a b : Field) → Decides ((field_eq.ghosts).eq a b) (a ≡ b)
fields_decide a b = (
  λ e.
      let ranks = and_parts (eqb a.rank b.rank) (eqb a.at b.at && (eqb a.kind b.kind && (place_eq.ghosts).eq a.place b.place)) e in
      let offsets = and_parts (eqb a.at b.at) (eqb a.kind b.kind && (place_eq.ghosts).eq a.place b.place) ranks.1 in
      let kinds = and_parts (eqb a.kind b.kind) ((place_eq.ghosts).eq a.place b.place) offsets.1 in
      ap (λ (n : ℕ). record a { rank = n }) (eqb-true a.rank b.rank ranks.0)
      ∙ ap (λ (n : ℕ). record a { rank = b.rank; at = n }) (eqb-true a.at b.at offsets.0)
      ∙ ap (λ (n : ℕ). record a { rank = b.rank; at = b.at; kind = n }) (eqb-true a.kind b.kind kinds.0)
      ∙ ap (λ (p : Place). record b { place = p }) ((places_decide a.place b.place).0 kinds.1),
  λ e.
      and_from (eqb a.rank b.rank) (eqb a.at b.at && (eqb a.kind b.kind && (place_eq.ghosts).eq a.place b.place)) (eq-eqb a.rank b.rank (ap (λ (f : Field). f.rank) e))
      (and_from (eqb a.at b.at) (eqb a.kind b.kind && (place_eq.ghosts).eq a.place b.place) (eq-eqb a.at b.at (ap (λ (f : Field). f.at) e))
      (and_from (eqb a.kind b.kind) ((place_eq.ghosts).eq a.place b.place) (eq-eqb a.kind b.kind (ap (λ (f : Field). f.kind) e))
      ((places_decide a.place b.place).1 (ap (λ (f : Field). f.place) e)))),
)

-- ---- keys

pub keys_equal : (a b : Key) → (key_eq.ghosts).eq a b ≡ true → (a.class ≡ b.class) × (a.fields.items ≡ b.fields.items)
keys_equal a b e =
    let parts = and_parts (eqb a.class b.class) (pointwise (field_eq.ghosts).eq a.fields.items b.fields.items) e in
    (eqb-true a.class b.class parts.0, (slice_eq-Decides fields_decide a.fields.items b.fields.items (pointwise (field_eq.ghosts).eq a.fields.items b.fields.items) refl).0 parts.1)

pub keys_tell : (a b : Key) → a.class ≡ b.class → a.fields.items ≡ b.fields.items → (key_eq.ghosts).eq a b ≡ true
keys_tell a b classes fields =
    and_from (eqb a.class b.class) (pointwise (field_eq.ghosts).eq a.fields.items b.fields.items) (eq-eqb a.class b.class classes)
    ((slice_eq-Decides fields_decide a.fields.items b.fields.items (pointwise (field_eq.ghosts).eq a.fields.items b.fields.items) refl).1 fields)

-- ---- contents

bytes_equal : (a b : Option (Bor (List ℕ))) → option_eq (λ x y. pointwise nat_eq x.now y.now) a b ≡ true → option_copied a ≡ option_copied b
bytes_equal None None e = refl
bytes_equal None (Some y) e = differ e
bytes_equal (Some x) None e = differ e
bytes_equal (Some x) (Some y) e = ap Some ((bytes_eq-Decides x.now y.now).0 e)

bytes_tell : (a b : Option (Bor (List ℕ))) → option_copied a ≡ option_copied b → option_eq (λ x y. pointwise nat_eq x.now y.now) a b ≡ true
bytes_tell None None e = refl
bytes_tell None (Some y) e = absurd cc
bytes_tell (Some x) None e = absurd cc
bytes_tell (Some x) (Some y) e = let same : x.now ≡ y.now = cc in (bytes_eq-Decides x.now y.now).1 same

one_equal : (a b : Contents) → (contents_eq.ghosts).eq a b ≡ true → shown a ≡ shown b
one_equal a b e =
    let names = and_parts (pointwise nat_eq a.name b.name) (eqb a.flags b.flags && (eqb a.size b.size && option_eq (λ x y. pointwise nat_eq x.now y.now) a.data b.data)) e in
    let flags = and_parts (eqb a.flags b.flags) (eqb a.size b.size && option_eq (λ x y. pointwise nat_eq x.now y.now) a.data b.data) names.1 in
    let sizes = and_parts (eqb a.size b.size) (option_eq (λ x y. pointwise nat_eq x.now y.now) a.data b.data) flags.1 in
    ap (λ (text : List ℕ). record (shown a) { name = text }) ((bytes_eq-Decides a.name b.name).0 names.0)
    ∙ ap (λ (n : ℕ). record (shown a) { name = b.name; flags = n }) (eqb-true a.flags b.flags flags.0)
    ∙ ap (λ (n : ℕ). record (shown a) { name = b.name; flags = b.flags; size = n }) (eqb-true a.size b.size sizes.0)
    ∙ ap (λ (bytes : Option (List ℕ)). record (shown b) { bytes = bytes }) (bytes_equal a.data b.data sizes.1)

one_tells : (a b : Contents) → shown a ≡ shown b → (contents_eq.ghosts).eq a b ≡ true
one_tells a b e =
    and_from (pointwise nat_eq a.name b.name) (eqb a.flags b.flags && (eqb a.size b.size && option_eq (λ x y. pointwise nat_eq x.now y.now) a.data b.data)) ((bytes_eq-Decides a.name b.name).1 (ap (λ (s : Shown). s.name) e))
    (and_from (eqb a.flags b.flags) (eqb a.size b.size && option_eq (λ x y. pointwise nat_eq x.now y.now) a.data b.data) (eq-eqb a.flags b.flags (ap (λ (s : Shown). s.flags) e))
    (and_from (eqb a.size b.size) (option_eq (λ x y. pointwise nat_eq x.now y.now) a.data b.data) (eq-eqb a.size b.size (ap (λ (s : Shown). s.size) e))
    (bytes_tell a.data b.data (ap (λ (s : Shown). s.bytes) e))))

pub all_equal : (left right : List Contents) → pointwise (contents_eq.ghosts).eq left right ≡ true → map shown left ≡ map shown right
all_equal [] [] e = refl
all_equal [] (b ∷ right) e = differ e
all_equal (a ∷ left) [] e = differ e
all_equal (a ∷ left) (b ∷ right) e =
    let parts = and_parts ((contents_eq.ghosts).eq a b) (pointwise (contents_eq.ghosts).eq left right) e in
    ap (λ (s : Shown). s ∷ map shown left) (one_equal a b parts.0) ∙ ap (λ (ss : List Shown). shown b ∷ ss) (all_equal left right parts.1)

pub all_tell : (left right : List Contents) → map shown left ≡ map shown right → pointwise (contents_eq.ghosts).eq left right ≡ true
all_tell [] [] e = refl
all_tell [] (b ∷ right) e = absurd cc
all_tell (a ∷ left) [] e = absurd cc
all_tell (a ∷ left) (b ∷ right) e =
    let heads : shown a ≡ shown b = cc in
    let tails : map shown left ≡ map shown right = cc in
    and_from ((contents_eq.ghosts).eq a b) (pointwise (contents_eq.ghosts).eq left right) (one_tells a b heads) (all_tell left right tails)
