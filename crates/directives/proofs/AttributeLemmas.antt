-- Attributes one after another: what is taken in the end is what may stand together.
use Rattle.std.proofs.Common.{◌≡◌, ℕ, ◌+◌, ◌<◌, Bool, true, false, ◌&&◌, ◌||◌, leb, cond, List, [], ◌∷◌, map, length, take, drop, get_or, fold, Option, Some, None, is_some, option_map, refl, sym, ap, ◌∙◌, zero-add, arith}
use Rattle.std.proofs.Math.Bool.{or-false, or-true}
use Rattle.std.proofs.Math.ListN.{get_or-map, length-map}
use Rattle.std.specs.List.{take-map, count_by, list_all, list_any, filter_map, last_or, slice_split}
use Rattle.std.proofs.lemmas.Bool.{lt-leb, and_right, and_left}
use Rattle.std.proofs.lemmas.List.{take-append-drop}
use Rattle.std.proofs.lemmas.List.Sums.{fold-append, fold_more, sum_by-cons}
use Rattle.directives.specs.Text.{is_comma}
use Rattle.directives.specs.Attribute as rule
use Rattle.directives.specs.Attribute.{attribute_of, is_noname, is_data, is_constant, is_private, is_ordinal, ordinal_in, stand_together, say_together, attributes_of}
use Rattle.directives.specs.Taken.{attributes_said, none_taken, also}
use Rattle.directives.specs.declared.attributes.Attribute.{Attribute}
use Rattle.directives.specs.declared.attributes.Attribute.TheVariants.{NoName, DataItem, Constant, PrivateItem, Ordinal}
use Rattle.directives.specs.declared.attributes.Attributes.{Attributes}

-- ---- at most one of a kind

abbrev free : Bool → (Option Attribute → Bool) → List (Option Attribute) → Bool
free taken kind parts = leb (cond taken 1 0 + count_by kind parts) 1

free_none : (taken : Bool) (kind : Option Attribute → Bool) → free taken kind [] ≡ true
free_none true kind = refl
free_none false kind = refl

count_no : (kind : Option Attribute → Bool) (part : Option Attribute) (parts : List (Option Attribute)) → kind part ≡ false → count_by kind (part ∷ parts) ≡ count_by kind parts
count_no kind part parts e =
    sum_by-cons (λ (x : Option Attribute). cond (kind x) 1 0) part parts ∙ ap (λ (b : Bool). cond b 1 0 + count_by kind parts) e ∙ zero-add (count_by kind parts)

count_yes : (kind : Option Attribute → Bool) (part : Option Attribute) (parts : List (Option Attribute)) → kind part ≡ true → count_by kind (part ∷ parts) ≡ 1 + count_by kind parts
count_yes kind part parts e =
    sum_by-cons (λ (x : Option Attribute). cond (kind x) 1 0) part parts ∙ ap (λ (b : Bool). cond b 1 0 + count_by kind parts) e

free_other : (taken : Bool) (kind : Option Attribute → Bool) (part : Option Attribute) (parts : List (Option Attribute)) → kind part ≡ false → free taken kind (part ∷ parts) ≡ free taken kind parts
free_other taken kind part parts e = ap (λ (n : ℕ). leb (cond taken 1 0 + n) 1) (count_no kind part parts e)

free_first : (kind : Option Attribute → Bool) (part : Option Attribute) (parts : List (Option Attribute)) → kind part ≡ true → free false kind (part ∷ parts) ≡ free true kind parts
free_first kind part parts e =
    ap (λ (n : ℕ). leb n 1) (zero-add (count_by kind (part ∷ parts)) ∙ count_yes kind part parts e)

free_second : (kind : Option Attribute → Bool) (part : Option Attribute) (parts : List (Option Attribute)) → kind part ≡ true → free true kind (part ∷ parts) ≡ false
free_second kind part parts e =
    ap (λ (n : ℕ). leb (1 + n) 1) (count_yes kind part parts e) ∙ lt-leb _ _ (omega arith)

free_of_none : (kind : Option Attribute → Bool) (parts : List (Option Attribute)) → free false kind parts ≡ rule.once kind parts
free_of_none kind parts = ap (λ (n : ℕ). leb n 1) (zero-add (count_by kind parts))

-- ---- what is taken, and parts that join it

abbrev made : Option ℕ → Bool → Bool → Bool → Bool → Attributes
made o a b c p = record { ordinal = o; noname = a; data_item = b; constant = c; private_item = p }

abbrev fits : Option ℕ → Bool → Bool → Bool → Bool → List (Option Attribute) → Bool
fits o a b c p parts =
    list_all is_some parts && (free a is_noname parts && (free b is_data parts && (free c is_constant parts && (free p is_private parts && free (is_some o) is_ordinal parts))))

abbrev says : Option ℕ → Bool → Bool → Bool → Bool → rule.Attributes
says o a b c p = record { ordinal = o; noname = a; form = rule.form_by b c; private = p }

abbrev joined : Option ℕ → Bool → Bool → Bool → Bool → List (Option Attribute) → rule.Attributes
joined o a b c p parts =
    says (last_or o (filter_map ordinal_in parts)) (list_any is_noname parts || a) (list_any is_data parts || b) (list_any is_constant parts || c) (list_any is_private parts || p)

abbrev Joins : Option ℕ → Bool → Bool → Bool → Bool → List (Option Attribute) → Type 0
Joins o a b c p parts =
    option_map attributes_said (fold also (Some (made o a b c p)) parts) ≡ cond (fits o a b c p parts) (Some (joined o a b c p parts)) None

refused : (parts : List (Option Attribute)) → fold also None parts ≡ None
refused [] = refl
refused (part ∷ parts) = refused parts

five : (l a a' b b' c c' d d' e e' : Bool) → a ≡ a' → b ≡ b' → c ≡ c' → d ≡ d' → e ≡ e' → (l && (a && (b && (c && (d && e))))) ≡ (l && (a' && (b' && (c' && (d' && e')))))
five l a a' b b' c c' d d' e e' p q r s t = cc

-- a part that is refused, and a part that is taken
module _ (x : Attribute) (parts : List (Option Attribute)) where
  stops : (fit : Bool) (said : rule.Attributes) → fit ≡ false → option_map attributes_said (fold also None parts) ≡ cond fit (Some said) None
  stops fit said e = ap (option_map attributes_said) (refused parts) ∙ sym (ap (λ (t : Bool). cond t (Some said) None) e)

goes_on : (left : Option rule.Attributes) (fit fit' : Bool) (said said' : rule.Attributes) → left ≡ cond fit (Some said) None → fit' ≡ fit → said' ≡ said → left ≡ cond fit' (Some said') None
goes_on left fit fit' says says' h e f = cc

joins : (o : Option ℕ) (a b c p : Bool) (parts : List (Option Attribute)) → Joins o a b c p parts
joins o a b c p [] = rw (free_none a is_noname, free_none b is_data, free_none c is_constant, free_none p is_private, free_none (is_some o) is_ordinal) refl
joins o a b c p (None ∷ parts) = ap (option_map attributes_said) (refused parts)
joins o true b c p (Some NoName ∷ parts) =
    stops NoName parts (fits o true b c p (Some NoName ∷ parts)) (joined o true b c p (Some NoName ∷ parts)) (and_right (list_all is_some parts) _ (and_left _ _ (free_second is_noname (Some NoName) parts refl)))
joins o false b c p (Some NoName ∷ parts) =
    goes_on _ _ _ _ _ (joins o true b c p parts) (five (list_all is_some parts) _ _ _ _ _ _ _ _ _ _ (free_first is_noname (Some NoName) parts refl) (free_other b is_data (Some NoName) parts refl) (free_other c is_constant (Some NoName) parts refl) (free_other p is_private (Some NoName) parts refl) (free_other (is_some o) is_ordinal (Some NoName) parts refl)) (ap (λ (t : Bool). says (last_or o (filter_map ordinal_in parts)) t (list_any is_data parts || b) (list_any is_constant parts || c) (list_any is_private parts || p)) (sym (or-true (list_any is_noname parts))))
joins o a true c p (Some DataItem ∷ parts) =
    stops DataItem parts (fits o a true c p (Some DataItem ∷ parts)) (joined o a true c p (Some DataItem ∷ parts)) (and_right (list_all is_some parts) _ (and_right (free a is_noname (Some DataItem ∷ parts)) _ (and_left _ _ (free_second is_data (Some DataItem) parts refl))))
joins o a false c p (Some DataItem ∷ parts) =
    goes_on _ _ _ _ _ (joins o a true c p parts) (five (list_all is_some parts) _ _ _ _ _ _ _ _ _ _ (free_other a is_noname (Some DataItem) parts refl) (free_first is_data (Some DataItem) parts refl) (free_other c is_constant (Some DataItem) parts refl) (free_other p is_private (Some DataItem) parts refl) (free_other (is_some o) is_ordinal (Some DataItem) parts refl)) (ap (λ (t : Bool). says (last_or o (filter_map ordinal_in parts)) (list_any is_noname parts || a) t (list_any is_constant parts || c) (list_any is_private parts || p)) (sym (or-true (list_any is_data parts))))
joins o a b true p (Some Constant ∷ parts) =
    stops Constant parts (fits o a b true p (Some Constant ∷ parts)) (joined o a b true p (Some Constant ∷ parts)) (and_right (list_all is_some parts) _ (and_right (free a is_noname (Some Constant ∷ parts)) _ (and_right (free b is_data (Some Constant ∷ parts)) _ (and_left _ _ (free_second is_constant (Some Constant) parts refl)))))
joins o a b false p (Some Constant ∷ parts) =
    goes_on _ _ _ _ _ (joins o a b true p parts) (five (list_all is_some parts) _ _ _ _ _ _ _ _ _ _ (free_other a is_noname (Some Constant) parts refl) (free_other b is_data (Some Constant) parts refl) (free_first is_constant (Some Constant) parts refl) (free_other p is_private (Some Constant) parts refl) (free_other (is_some o) is_ordinal (Some Constant) parts refl)) (ap (λ (t : Bool). says (last_or o (filter_map ordinal_in parts)) (list_any is_noname parts || a) (list_any is_data parts || b) t (list_any is_private parts || p)) (sym (or-true (list_any is_constant parts))))
joins o a b c true (Some PrivateItem ∷ parts) =
    stops PrivateItem parts (fits o a b c true (Some PrivateItem ∷ parts)) (joined o a b c true (Some PrivateItem ∷ parts)) (and_right (list_all is_some parts) _ (and_right (free a is_noname (Some PrivateItem ∷ parts)) _ (and_right (free b is_data (Some PrivateItem ∷ parts)) _ (and_right (free c is_constant (Some PrivateItem ∷ parts)) _ (and_left _ _ (free_second is_private (Some PrivateItem) parts refl))))))
joins o a b c false (Some PrivateItem ∷ parts) =
    goes_on _ _ _ _ _ (joins o a b c true parts) (five (list_all is_some parts) _ _ _ _ _ _ _ _ _ _ (free_other a is_noname (Some PrivateItem) parts refl) (free_other b is_data (Some PrivateItem) parts refl) (free_other c is_constant (Some PrivateItem) parts refl) (free_first is_private (Some PrivateItem) parts refl) (free_other (is_some o) is_ordinal (Some PrivateItem) parts refl)) (ap (λ (t : Bool). says (last_or o (filter_map ordinal_in parts)) (list_any is_noname parts || a) (list_any is_data parts || b) (list_any is_constant parts || c) t) (sym (or-true (list_any is_private parts))))
joins (Some m) a b c p (Some (Ordinal n) ∷ parts) =
    stops (Ordinal n) parts (fits (Some m) a b c p (Some (Ordinal n) ∷ parts)) (joined (Some m) a b c p (Some (Ordinal n) ∷ parts)) (and_right (list_all is_some parts) _ (and_right (free a is_noname (Some (Ordinal n) ∷ parts)) _ (and_right (free b is_data (Some (Ordinal n) ∷ parts)) _ (and_right (free c is_constant (Some (Ordinal n) ∷ parts)) _ (and_right (free p is_private (Some (Ordinal n) ∷ parts)) _ (free_second is_ordinal (Some (Ordinal n)) parts refl))))))
joins None a b c p (Some (Ordinal n) ∷ parts) =
    goes_on _ _ _ _ _ (joins (Some n) a b c p parts) (five (list_all is_some parts) _ _ _ _ _ _ _ _ _ _ (free_other a is_noname (Some (Ordinal n)) parts refl) (free_other b is_data (Some (Ordinal n)) parts refl) (free_other c is_constant (Some (Ordinal n)) parts refl) (free_other p is_private (Some (Ordinal n)) parts refl) (free_first is_ordinal (Some (Ordinal n)) parts refl)) refl

none_more : (parts : List (Option Attribute)) → say_together parts ≡ joined None false false false false parts
unfolding say_together
none_more parts =
    let ordinal = last_or None (filter_map ordinal_in parts) in
    let a = list_any is_noname parts in
    let b = list_any is_data parts in
    let c = list_any is_constant parts in
    let p = list_any is_private parts in
    ap (λ (t : Bool). says ordinal t b c p) (sym (or-false a))
    ∙ ap (λ (t : Bool). says ordinal (a || false) t c p) (sym (or-false b))
    ∙ ap (λ (t : Bool). says ordinal (a || false) (b || false) t p) (sym (or-false c))
    ∙ ap (λ (t : Bool). says ordinal (a || false) (b || false) (c || false) t) (sym (or-false p))

-- parts that may stand together are taken, and others are not
together : (parts : List (Option Attribute)) → option_map attributes_said (fold also (Some none_taken) parts) ≡ cond (stand_together parts) (Some (say_together parts)) None
unfolding stand_together say_together
together parts =
    goes_on _ _ _ _ _ (joins None false false false false parts) (five (list_all is_some parts) _ _ _ _ _ _ _ _ _ _ (sym (free_of_none is_noname parts)) (sym (free_of_none is_data parts)) (sym (free_of_none is_constant parts)) (sym (free_of_none is_private parts)) (sym (free_of_none is_ordinal parts))) (none_more parts)

-- ---- a text of parts, one after another

pub attributes_all : (text : List ℕ) (parts : List (List ℕ)) (taken : Attributes) → fold also (Some none_taken) (map attribute_of parts) ≡ Some taken → parts ≡ slice_split is_comma text → Some (attributes_said taken) ≡ attributes_of text
unfolding attributes_of
attributes_all text parts taken h e =
    let whole : fold also (Some none_taken) (map attribute_of (slice_split is_comma text)) ≡ Some taken = ap (λ (p : List (List ℕ)). fold also (Some none_taken) (map attribute_of p)) (sym e) ∙ h in
    ap (option_map attributes_said) (sym whole) ∙ together (map attribute_of (slice_split is_comma text))

pub attributes_refused : (text : List ℕ) (k : ℕ) (parts : List (List ℕ)) (part : List ℕ) (taken : Attributes) → fold also (Some none_taken) (map attribute_of parts) ≡ Some taken → parts ≡ take k (slice_split is_comma text) → (k < length (slice_split is_comma text)) × (part ≡ get_or (slice_split is_comma text) k part) → also (Some taken) (attribute_of part) ≡ None → None ≡ attributes_of text
unfolding attributes_of
attributes_refused text k parts part taken h e at refuses =
    let split : List (List ℕ) = slice_split is_comma text in
    let all : List (Option Attribute) = map attribute_of split in
    let so_far : fold also (Some none_taken) (map attribute_of (take k split)) ≡ Some taken = ap (λ (p : List (List ℕ)). fold also (Some none_taken) (map attribute_of p)) (sym e) ∙ h in
    let front : fold also (Some none_taken) (take k all) ≡ Some taken = ap (fold also (Some none_taken)) (take-map attribute_of k split) ∙ so_far in
    let lt : k < length all = omega (arith, at.0, length-map {A = List ℕ} split attribute_of) in
    let found : get_or all k (attribute_of part) ≡ attribute_of part = get_or-map attribute_of split k part ∙ ap attribute_of (sym at.1) in
    let here : fold also (Some none_taken) (take (k + 1) all) ≡ None =
    fold_more also (Some none_taken) all k (attribute_of part) lt ∙ ap (λ (o : Option Attributes). also o (get_or all k (attribute_of part))) front ∙ ap (also (Some taken)) found ∙ refuses in
    let none : fold also (Some none_taken) all ≡ None = ap (fold also (Some none_taken)) (sym (take-append-drop (k + 1) all)) ∙ fold-append also (Some none_taken) (take (k + 1) all) (drop (k + 1) all) ∙ ap (λ (o : Option Attributes). fold also o (drop (k + 1) all)) here ∙ refused (drop (k + 1) all) in
    sym (ap (option_map attributes_said) none) ∙ together all
