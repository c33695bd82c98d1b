-- The places of the sections of each group, in a loop over sections.
use Rattle.std.proofs.Common.{◌≡◌, ℕ, zero, suc, ◌+◌, ◌<◌, ◌≤◌, Bool, true, false, cond, eqb, List, [], ◌∷◌, ◌++◌, length, get_or, set, take, filter, map, Vec, refl, sym, ap, ◌∙◌, inl, inr, eq-eqb, add-one, arith}
use Rattle.std.specs.declared.alloc.Global.{Global}
use Rattle.std.specs.List.{All}
use Rattle.std.proofs.Math.ListN.{length-set}
use Rattle.std.proofs.lemmas.Bool.{ne_eqb, cases_eq, eqb-true}
use Rattle.std.proofs.lemmas.List.{append-nil, get_or-set_other, get_or-set_same, map-append, map-id, take_all}
use Rattle.std.proofs.lemmas.List.Elements.{All-weaker, filter_more}
use Rattle.link_base.specs.NameText.{same_name}
use Rattle.link_base.proofs.RangeLemmas.{Passes, range_passes, kept_more}
use Rattle.comdat.specs.declared.candidate.Candidate.{Candidate}
use Rattle.comdat.specs.Groups.{Named, no_named, name_at, has_name, candidate_of, group_of}
use Rattle.comdat.specs.Numbering.{AreNumbers, AreLists, places_of, candidate_at, candidates_at}

-- ---- in a loop

-- those of a number among one more
places_more : (numbers : List ℕ) (done number : ℕ) → places_of numbers (done + 1) number ≡ places_of numbers done number ++ cond (eqb (get_or numbers done 0) number) (done ∷ []) []
places_more numbers done number =
    let has = λ (k : ℕ). eqb (get_or numbers k 0) number in
    sym (map-id (places_of numbers (done + 1) number))
    ∙ kept_more (λ k. k) has 0 done done (omega arith)
    ∙ ap (λ (places : List ℕ). places ++ cond (has done) (done ∷ []) []) (map-id (places_of numbers done number))

-- one more section
pub lists_more : (numbers : List ℕ) (done count at place : ℕ) (lists : List (Vec ℕ Global)) (old more : Vec ℕ Global) → AreLists numbers done count lists → get_or numbers done 0 ≡ at → at < count → old ≡ get_or lists at old → place ≡ done → more.items ≡ old.items ++ place ∷ [] → AreLists numbers (done + 1) count (set lists at more)
lists_more numbers done count at place lists old more are is_at within is_old is_place pushed = record {
  same_length = length-set lists at more ∙ are.same_length;
  each = λ number d lt. elim (cases_eq number at) [
    | inl same ↦
        ap (λ (k : ℕ). (get_or (set lists at more) k d).items) same
        ∙ ap (λ (v : Vec ℕ Global). v.items) (get_or-set_same lists at more d (omega (arith, are.same_length)))
        ∙ pushed
        ∙ ap (λ (places : List ℕ). places ++ place ∷ []) (ap (λ (v : Vec ℕ Global). v.items) is_old ∙ are.each at old within)
        ∙ ap (λ (k : ℕ). places_of numbers done at ++ k ∷ []) is_place
        ∙ sym (places_more numbers done at ∙ ap (λ (b : Bool). places_of numbers done at ++ cond b (done ∷ []) []) (eq-eqb (get_or numbers done 0) at is_at))
        ∙ ap (places_of numbers (done + 1)) (sym same)
    | inr apart ↦
        ap (λ (v : Vec ℕ Global). v.items) (get_or-set_other lists at number more d apart)
        ∙ are.each number d lt
        ∙ sym (places_more numbers done number ∙ ap (λ (b : Bool). places_of numbers done number ++ cond b (done ∷ []) []) (ne_eqb (get_or numbers done 0) number (λ e. apart (sym e ∙ is_at))) ∙ append-nil (places_of numbers done number))
  ];
}

-- ---- the list of a number

-- each of its places is that of a section, which has the number
pub record HasPlace (numbers : List ℕ) (done number k : ℕ) : Type 0 where
  pub within : k < done
  pub has : get_or numbers k 0 ≡ number

pub places_are : (numbers : List ℕ) (done number : ℕ) → All (HasPlace numbers done number) (places_of numbers done number)
places_are numbers done number =
    let has = λ (k : ℕ). eqb (get_or numbers k 0) number in
    All-weaker (Passes has 0 done) (HasPlace numbers done number) (λ k h. record { within = omega (arith, h.high); has = eqb-true (get_or numbers k 0) number h.passes }) (places_of numbers done number) (range_passes has 0 done)

-- where sections have the number exactly where they have a name, they are those of the name
candidates_are : (numbers : List ℕ) (number : ℕ) (name : List ℕ) (entries : List Named) → ((k : ℕ) → k < length entries → eqb (get_or numbers k 0) number ≡ same_name (name_at entries k) name) → candidates_at entries (places_of numbers (length entries) number) ≡ group_of entries name
candidates_are numbers number name entries alike =
    up_to (length entries) (omega arith)
    ∙ ap (λ (es : List Named). map candidate_of (filter (has_name name) es)) (take_all (length entries) entries (omega arith))
  where
    single : (b : Bool) (entry : Named) → map candidate_of (cond b (entry ∷ []) []) ≡ cond b (candidate_of entry ∷ []) []
    single true entry = refl
    single false entry = refl

    up_to : (n : ℕ) → n ≤ length entries → candidates_at entries (places_of numbers n number) ≡ map candidate_of (filter (has_name name) (take n entries))
    up_to zero le = refl
    up_to (suc n) le =
        let before = map candidate_of (filter (has_name name) (take n entries)) in
        let here = get_or entries n no_named in
        ap (λ (m : ℕ). candidates_at entries (places_of numbers m number)) (sym (add-one n))
        ∙ kept_more (candidate_at entries) (λ k. eqb (get_or numbers k 0) number) 0 n n (omega arith)
        ∙ ap (λ (cs : List Candidate). cs ++ cond (eqb (get_or numbers n 0) number) (candidate_of here ∷ []) []) (up_to n (omega arith))
        ∙ ap (λ (b : Bool). before ++ cond b (candidate_of here ∷ []) []) (alike n (omega arith))
        ∙ sym (ap (map candidate_of) (filter_more (has_name name) entries n no_named (omega arith))
        ∙ map-append candidate_of (filter (has_name name) (take n entries)) (cond (has_name name here) (here ∷ []) [])
        ∙ ap (λ (cs : List Candidate). before ++ cs) (single (has_name name here) here))
        ∙ ap (λ (m : ℕ). map candidate_of (filter (has_name name) (take m entries))) (add-one n)

-- the list of a number is the group of each section that has it
pub list_is_group : (entries : List Named) (numbers firsts : List ℕ) (number k : ℕ) → AreNumbers entries numbers firsts → k < length entries → get_or numbers k 0 ≡ number → candidates_at entries (places_of numbers (length numbers) number) ≡ group_of entries (name_at entries k)
list_is_group entries numbers firsts number k are in_k has =
    ap (λ (n : ℕ). candidates_at entries (places_of numbers n number)) are.same_length
    ∙ candidates_are numbers number (name_at entries k) entries (λ j in_j. ap (eqb (get_or numbers j 0)) (sym has) ∙ are.alike j k in_j in_k)
