-- The definitions on small inputs: two functions that call each other fold, and two that read different data do not.
use Rattle.std.proofs.Common.{◌≡◌, ℕ, zero, suc, ◌<◌, ◌≤◌, inl, inr, lit<, true, List, [], ◌∷◌, length, get_or, Vec, Some, Ok, refl, sym, ap, ◌∙◌, subst, arith}
use Rattle.std.specs.declared.alloc.Global.{Global}
use Rattle.std.specs.Borrow.{Bor}
use Rattle.std.specs.List.{AllPairs, Contains}
use Rattle.section_group.specs.declared.piece.Piece.{Piece}
use Rattle.relocate.specs.declared.fix.Fix.{Fix}
use Rattle.relocate.specs.declared.fix.Target.{Target}
use Rattle.relocate.specs.declared.fix.Target.TheVariants as target
use Rattle.icf.specs.declared.candidate.FoldCandidate.{FoldCandidate}
use Rattle.icf.specs.Sections.{Input, input_from, fields_at, HasSection, IsFoldable}
use Rattle.icf.specs.Alike.{Meant, Agree, AreAlikeFields, AreAlikeSections, AreAlike}
use Rattle.icf.specs.Folding.{KeepsAlike, RelatedBy}

-- a list of a few items, in some place of memory
abbrev of_items : {X : Type 0} → Vec X Global → (items : List X) → length items ≤ 4 → Vec X Global
of_items place items few = record { ptr = place.ptr; len = length items; cap = 4; alloc = place.alloc; items = items; ok = (refl, few); small = lit< tt }

-- a relocation of type REL32 one byte behind the start, to the start of a piece
abbrev call : ℕ → Fix
call piece = record { index = 0; at = 1; kind = 4; target = Some (Ok (target.Piece piece 0)) }

abbrev code : Bor (List ℕ) → ℕ → Piece
code bytes number = record {
  «module» = 0;
  number = number;
  name = 46 ∷ 116 ∷ 101 ∷ 120 ∷ 116 ∷ [];
  flags = 0x60501020;
  size = 6;
  align = 16;
  body = Some bytes;
  init = true;
  named = true;
}

module _ (numbers : Vec ℕ Global) (bytes other_bytes : Bor (List ℕ)) (same : bytes.now ≡ other_bytes.now) where
  abbrev function : ℕ → FoldCandidate
  function piece = record { piece = piece; children = of_items numbers [] (omega arith) }

  abbrev functions : List FoldCandidate
  functions = function 0 ∷ function 1 ∷ []

  -- two functions, each with a field that names a piece
  abbrev two : ℕ → ℕ → Input
  two first second = input_from (code bytes 1 ∷ code other_bytes 2 ∷ []) ((call first ∷ []) ∷ (call second ∷ []) ∷ []) functions

  one_section_each : (number rank piece : ℕ) → HasSection functions number rank piece → (piece ≡ number) × ((rank ≡ 0) × (number < 2))
  one_section_each zero zero piece is = let e : 0 ≡ piece = cc in (sym e, (refl, lit< tt))
  one_section_each zero (suc rank) piece is = absurd cc
  one_section_each (suc zero) zero piece is = let e : 1 ≡ piece = cc in (sym e, (refl, lit< tt))
  one_section_each (suc zero) (suc rank) piece is = absurd cc
  one_section_each (suc (suc number)) rank piece is = absurd cc

  -- ---- each calls the other

  pairs : List (ℕ × ℕ)
  pairs = (0, 1) ∷ (1, 0) ∷ []

  calls_alike : AreAlikeFields (two 1 0) (RelatedBy pairs) (call 1) (call 0)
  unfolding pairs
  calls_alike = record {
    place = refl;
    kind = refl;
    targets = inr (record { candidate = 1; other = 0; related = (1, lit< tt, refl); rank = 0; piece = 1; other_piece = 0; value = 0; section = refl; other_section = refl; stands = refl; other_stands = refl });
  }

  calls_alike_back : AreAlikeFields (two 1 0) (RelatedBy pairs) (call 0) (call 1)
  unfolding pairs
  calls_alike_back = record {
    place = refl;
    kind = refl;
    targets = inr (record { candidate = 0; other = 1; related = (0, lit< tt, refl); rank = 0; piece = 0; other_piece = 1; value = 0; section = refl; other_section = refl; stands = refl; other_stands = refl });
  }

  -- the only field of a function
  only_call : (callee : ℕ) (fix : Fix) → Contains (call callee ∷ []) fix → call callee ≡ fix
  only_call callee fix (zero, lt, is) = is
  only_call callee fix (suc k, lt, is) = absurd (omega arith)

  f_like_g : AreAlikeSections (two 1 0) (RelatedBy pairs) 0 1
  f_like_g = record {
    names = refl;
    flags = refl;
    sizes = refl;
    contents = ap Some same;
    left_fields = λ fix there. (call 0, ((0, lit< tt, refl), subst (λ (f : Fix). AreAlikeFields (two 1 0) (RelatedBy pairs) f (call 0)) (only_call 1 fix there) calls_alike));
    right_fields = λ fix there. (call 1, ((0, lit< tt, refl), subst (AreAlikeFields (two 1 0) (RelatedBy pairs) (call 1)) (only_call 0 fix there) calls_alike));
  }

  g_like_f : AreAlikeSections (two 1 0) (RelatedBy pairs) 1 0
  g_like_f = record {
    names = refl;
    flags = refl;
    sizes = refl;
    contents = ap Some (sym same);
    left_fields = λ fix there. (call 1, ((0, lit< tt, refl), subst (λ (f : Fix). AreAlikeFields (two 1 0) (RelatedBy pairs) f (call 1)) (only_call 0 fix there) calls_alike_back));
    right_fields = λ fix there. (call 0, ((0, lit< tt, refl), subst (AreAlikeFields (two 1 0) (RelatedBy pairs) (call 0)) (only_call 1 fix there) calls_alike_back));
  }

  pieces_alike : (left right : ℕ) → AreAlikeSections (two 1 0) (RelatedBy pairs) left right → (rank piece other : ℕ) → HasSection functions left rank piece → HasSection functions right rank other
      → AreAlikeSections (two 1 0) (RelatedBy pairs) piece other
  pieces_alike left right alike rank piece other has has' =
      subst (λ (p : ℕ). AreAlikeSections (two 1 0) (RelatedBy pairs) p other) (sym (one_section_each left rank piece has).0)
      (subst (AreAlikeSections (two 1 0) (RelatedBy pairs) left) (sym (one_section_each right rank other has').0) alike)

  -- so the relation of both pairs keeps alike, and the two have equal answers
  callers_fold : KeepsAlike (two 1 0) (RelatedBy pairs)
  unfolding pairs
  callers_fold left right (zero, lt, is) =
      subst (λ (pair : ℕ × ℕ). AreAlike (two 1 0) (RelatedBy pairs) pair.0 pair.1) is (record { as_many = refl; pairwise = pieces_alike 0 1 f_like_g })
  callers_fold left right (suc zero, lt, is) =
      subst (λ (pair : ℕ × ℕ). AreAlike (two 1 0) (RelatedBy pairs) pair.0 pair.1) is (record { as_many = refl; pairwise = pieces_alike 1 0 g_like_f })
  callers_fold left right (suc (suc k), lt, is) = absurd (omega arith)

  -- ---- one reads one piece, the other another

  abbrev spot : ℕ → ℕ → Meant
  spot piece value = Some (Ok (target.Piece piece value))

  one_piece : (p q v w : ℕ) → spot p v ≡ spot q w → p ≡ q
  one_piece p q v w e = cc

  readers_apart : (E : ℕ → ℕ → Type 0) → AreAlike (two 2 3) E 0 1 → ⊥
  readers_apart E alike = by (only_call 3 partner.0 partner.1.0) partner.1.1.targets
    where
      sections : AreAlikeSections (two 2 3) E 0 1
      sections = alike.pairwise 0 0 1 refl refl

      partner : (other : Fix) × (Contains (call 3 ∷ []) other × AreAlikeFields (two 2 3) E (call 2) other)
      partner = sections.left_fields (call 2) (0, lit< tt, refl)

      by : call 3 ≡ partner.0 → Agree (two 2 3) E (call 2).target partner.0.target → ⊥
      by is (inl one) = let e = one_piece 2 3 0 0 (one ∙ sym (ap (λ (f : Fix). f.target) is)) in absurd (omega arith)
      by is (inr stand) =
          let e = one_piece 2 stand.piece 0 stand.value stand.stands in
          let own = one_section_each stand.candidate stand.rank stand.piece stand.section in
          let lt = own.1.1 in
          let place = own.0 in
          absurd (omega arith)

  -- ---- and both can be asked for

  fixes_known : (first second piece : ℕ) (fix : Fix) → Contains (fields_at (two first second).fixes piece) fix → (meant : Target) × (fix.target ≡ Some (Ok meant))
  fixes_known first second zero fix there = (target.Piece first 0, sym (ap (λ (f : Fix). f.target) (only_call first fix there)))
  fixes_known first second (suc zero) fix there = (target.Piece second 0, sym (ap (λ (f : Fix). f.target) (only_call second fix there)))
  fixes_known first second (suc (suc piece)) fix there = absurd (omega (arith, there.1))

  fields_ascend : (first second piece : ℕ) → AllPairs (λ left right. left.at < right.at) (fields_at (two first second).fixes piece)
  fields_ascend first second zero i j d lt within = absurd (omega arith)
  fields_ascend first second (suc zero) i j d lt within = absurd (omega arith)
  fields_ascend first second (suc (suc piece)) i j d lt within = absurd (omega arith)

  ascending : (i j : ℕ) (d : FoldCandidate) → i < j → j < 2 → (get_or functions i d).piece < (get_or functions j d).piece
  ascending zero (suc zero) d lt within = lit< tt
  ascending zero zero d lt within = absurd (omega arith)
  ascending (suc i) (suc zero) d lt within = absurd (omega arith)
  ascending (suc i) zero d lt within = absurd (omega arith)
  ascending i (suc (suc j)) d lt within = absurd (omega arith)

  can_fold : (first second : ℕ) → IsFoldable (two first second)
  can_fold first second = record {
    every_piece = omega arith;
    candidates = record {
      within = λ number rank piece has. let own = one_section_each number rank piece has in let place = own.0 in let lt = own.1.1 in omega arith;
      distinct = λ number rank other other_rank piece has has'.
          let own = one_section_each number rank piece has in
          let own' = one_section_each other other_rank piece has' in
          (sym own.0 ∙ own'.0, own.1.0 ∙ sym own'.1.0);
      ascending = ascending;
    };
    ascending = fields_ascend first second;
    targets = fixes_known first second;
  }
