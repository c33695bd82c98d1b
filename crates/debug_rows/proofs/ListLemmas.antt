-- Lists of numbered rows, one row more at a time.
use Rattle.std.proofs.Common.{◌≡◌, ℕ, zero, suc, ◌+◌, ◌<◌, List, [], ◌∷◌, ◌++◌, Option, length, length-take-le, get_or, take, map, sym, ap, ◌∙◌, append_assoc, add-one, arith}
use Rattle.std.specs.List.{flat_map, filter_map, cons_option, enumerate_from}
use Rattle.std.proofs.Math.ListN.{get_or-map}
use Rattle.std.proofs.lemmas.List.{append-nil, take_more, take_all, length-map, map-append}
use Rattle.std.proofs.lemmas.List.Elements.{filter_map-append}

abbrev pub numbered : {X Y : Type 0} → (ℕ × X → List Y) → ℕ → List X → List Y
numbered rows_of start items = flat_map rows_of (enumerate_from start items)

numbered_suc : {X Y : Type 0} (f : ℕ × X → List Y) (start : ℕ) (items : List X) (i : ℕ) (d : X) → i < length items → numbered f start (take (suc i) items) ≡ numbered f start (take i items) ++ f (start + i, get_or items i d)
numbered_suc f start [] i d lt = absurd (omega (arith, lt))
numbered_suc {X} {Y} f start (item ∷ items) zero d lt =
    let place : start ≡ start + 0 = omega arith in
    append-nil (f (start, item)) ∙ ap (λ (k : ℕ). f (k, item)) place
numbered_suc {X} {Y} f start (item ∷ items) (suc i) d lt =
    let place : start + 1 + i ≡ start + suc i = omega arith in
    ap (λ (rest : List Y). f (start, item) ++ rest) (numbered_suc f (start + 1) items i d (omega (arith, lt)))
    ∙ sym (append_assoc (f (start, item)) (numbered f (start + 1) (take i items)) (f (start + 1 + i, get_or items i d)))
    ∙ ap (λ (k : ℕ). (f (start, item) ++ numbered f (start + 1) (take i items)) ++ f (k, get_or items i d)) place

-- the rows of one item more, which was read
pub numbered_grows : {X Y : Type 0} (f : ℕ × X → List Y) (start i number : ℕ) (items : List X) (item : X) (old now new : List Y) → i < length items → number ≡ start + i → item ≡ get_or items i item → now ≡ old ++ numbered f start (take i items) → new ≡ now ++ f (number, item) → new ≡ old ++ numbered f start (take (i + 1) items)
numbered_grows {X} {Y} f start i number items item old now new lt place is was grown =
    grown
    ∙ ap (λ (rows : List Y). rows ++ f (number, item)) was
    ∙ append_assoc old (numbered f start (take i items)) (f (number, item))
    ∙ ap (λ (k : ℕ). old ++ (numbered f start (take i items) ++ f (k, item))) place
    ∙ ap (λ (x : X). old ++ (numbered f start (take i items) ++ f (start + i, x))) is
    ∙ ap (λ (rows : List Y). old ++ rows) (sym (numbered_suc f start items i item lt) ∙ ap (λ (k : ℕ). numbered f start (take k items)) (sym (add-one i)))

-- ---- items that are each made of another

-- one that was read
pub mapped_read : {X Y : Type 0} (g : X → Y) (items : List X) (i : ℕ) (item : X) → item ≡ get_or items i item → g item ≡ get_or (map g items) i (g item)
mapped_read g items i item is = ap g is ∙ sym (get_or-map g items i item)

-- all of them
pub mapped_whole : {X Y : Type 0} (g : X → Y) (items : List X) (i : ℕ) → length items ≡ i → take i (map g items) ≡ map g items
mapped_whole g items i all = take_all i (map g items) (omega (arith, all, length-map items g))

-- one numbered item more
mapped_suc : {X Y : Type 0} (f : ℕ × X → Y) (start : ℕ) (items : List X) (i : ℕ) (d : X) → i < length items → map f (enumerate_from start (take (suc i) items)) ≡ map f (enumerate_from start (take i items)) ++ f (start + i, get_or items i d) ∷ []
mapped_suc f start [] i d lt = absurd (omega (arith, lt))
mapped_suc {X} {Y} f start (item ∷ items) zero d lt =
    let place : start ≡ start + 0 = omega arith in
    ap (λ (k : ℕ). f (k, item) ∷ []) place
mapped_suc {X} {Y} f start (item ∷ items) (suc i) d lt =
    let place : start + 1 + i ≡ start + suc i = omega arith in
    ap (λ (rest : List Y). f (start, item) ∷ rest) (mapped_suc f (start + 1) items i d (omega (arith, lt)))
    ∙ ap (λ (k : ℕ). (f (start, item) ∷ map f (enumerate_from (start + 1) (take i items))) ++ f (k, get_or items i d) ∷ []) place

pub mapped_grows : {X Y : Type 0} (f : ℕ × X → Y) (i : ℕ) (items : List X) (item : X) (row : Y) (now new : List Y) → i < length items → item ≡ get_or items i item → row ≡ f (i, item) → now ≡ map f (enumerate_from 0 (take i items)) → new ≡ now ++ row ∷ [] → new ≡ map f (enumerate_from 0 (take (i + 1) items))
mapped_grows {X} {Y} f i items item row now new lt is made was grown =
    let place : i ≡ 0 + i = omega arith in
    grown
    ∙ ap (λ (rows : List Y). rows ++ row ∷ []) was
    ∙ ap (λ (r : Y). map f (enumerate_from 0 (take i items)) ++ r ∷ []) (made ∙ ap (λ (x : X). f (i, x)) is)
    ∙ ap (λ (k : ℕ). map f (enumerate_from 0 (take i items)) ++ f (k, get_or items i item) ∷ []) place
    ∙ sym (mapped_suc f 0 items i item lt)
    ∙ ap (λ (k : ℕ). map f (enumerate_from 0 (take k items))) (sym (add-one i))

-- what is kept of one item more
pub kept_grows : {X Y : Type 0} (f : X → Option Y) (i : ℕ) (items : List X) (d : X) (old now new : List Y) → i < length items → now ≡ old ++ filter_map f (take i items) → new ≡ now ++ cons_option (f (get_or items i d)) [] → new ≡ old ++ filter_map f (take (i + 1) items)
kept_grows {X} {Y} f i items d old now new lt was grown =
    let item = get_or items i d in
    grown
    ∙ ap (λ (rows : List Y). rows ++ cons_option (f item) []) was
    ∙ append_assoc old (filter_map f (take i items)) (cons_option (f item) [])
    ∙ ap (λ (rows : List Y). old ++ rows) (sym (ap (filter_map f) (take_more items i d lt) ∙ filter_map-append f (take i items) (item ∷ [])))

-- the same where the item was read
pub kept_item_grows : {X Y : Type 0} (f : X → Option Y) (i : ℕ) (items : List X) (item : X) (old now new : List Y) → i < length items → item ≡ get_or items i item → now ≡ old ++ filter_map f (take i items) → new ≡ now ++ cons_option (f item) [] → new ≡ old ++ filter_map f (take (i + 1) items)
kept_item_grows {X} {Y} f i items item old now new lt is was grown =
    kept_grows f i items item old now new lt was (grown ∙ ap (λ (x : X). now ++ cons_option (f x) []) is)

-- ---- what is kept of numbered items

enumerate_more : {X : Type 0} (start : ℕ) (items : List X) (item : X) → enumerate_from start (items ++ item ∷ []) ≡ enumerate_from start items ++ (start + length items, item) ∷ []
enumerate_more {X} start [] item =
    let place : start ≡ start + 0 = omega arith in
    ap (λ (k : ℕ). (k, item) ∷ []) place
enumerate_more {X} start (x ∷ items) item =
    let place : start + 1 + length items ≡ start + suc (length items) = omega arith in
    ap (λ (rest : List (ℕ × X)). (start, x) ∷ rest) (enumerate_more (start + 1) items item ∙ ap (λ (k : ℕ). enumerate_from (start + 1) items ++ (k, item) ∷ []) place)

pub kept_numbered_grows : {X Y Z : Type 0} (f : ℕ × Y → Option Z) (g : X → Y) (i : ℕ) (items : List X) (item : X) (old now new : List Z) → i < length items → item ≡ get_or items i item → now ≡ old ++ filter_map f (enumerate_from 0 (map g (take i items))) → new ≡ now ++ cons_option (f (i, g item)) [] → new ≡ old ++ filter_map f (enumerate_from 0 (map g (take (i + 1) items)))
kept_numbered_grows {X} {Y} {Z} f g i items item old now new lt is was grown =
    let first = enumerate_from 0 (map g (take i items)) in
    let count : length (map g (take i items)) ≡ i = length-map (take i items) g ∙ length-take-le i items (omega (arith, lt)) in
    let place : 0 + length (map g (take i items)) ≡ i = omega (arith, count) in
    let all : enumerate_from 0 (map g (take (i + 1) items)) ≡ first ++ (i, g item) ∷ [] =
    ap (λ (xs : List X). enumerate_from 0 (map g xs)) (take_more items i item lt ∙ ap (λ (x : X). take i items ++ x ∷ []) (sym is))
    ∙ ap (enumerate_from 0) (map-append g (take i items) (item ∷ []))
    ∙ enumerate_more 0 (map g (take i items)) (g item)
    ∙ ap (λ (k : ℕ). first ++ (k, g item) ∷ []) place in
    grown
    ∙ ap (λ (rows : List Z). rows ++ cons_option (f (i, g item)) []) was
    ∙ append_assoc old (filter_map f first) (cons_option (f (i, g item)) [])
    ∙ ap (λ (rows : List Z). old ++ rows) (sym (ap (filter_map f) all ∙ filter_map-append f first ((i, g item) ∷ [])))
