-- Where the symbols of commons stand, and how their pieces are aligned.
use Rattle.std.proofs.Common.{◌≡◌, ℕ, ◌<◌, Bool, true, false, cond, eqb, List, length, filter, Option, Some, None, inl, inr, refl, subst, arith}
use Rattle.std.specs.Prelude.{unwrap_or, nat_le}
use Rattle.std.specs.List.{All, Contains}
use Rattle.std.proofs.lemmas.Bool.Decides.{eqb_tells}
use Rattle.std.proofs.lemmas.List.Elements.{All-map, All-weaker, All-contains, All-filter}
use Rattle.coff_records.specs.ObjectFile.{SymbolEntry, symbol_entry, symbols_of, symbol_entries, record_total, starts_symbol}
use Rattle.coff_object.proofs.CallerLemmas.{starts_below}
use Rattle.address_layout.specs.Layout.{IsAlignment}
use Rattle.module_view.specs.SymbolLists.{is_common, common_of, commons_of}
use Rattle.module_view.specs.declared.definition.Common.{Common}
use Rattle.module_view.proofs.CallerLemmas.{symbols_start}
use Rattle.link_pieces.specs.Commons.{common_alignment}
use Rattle.link_pieces.specs.Rows.{common_places}

-- ---- symbols

-- a common's symbol is a record
pub commons_recorded : (bytes : List ℕ) → All (λ common. common.symbol < record_total bytes) (commons_of bytes)
unfolding commons_of
commons_recorded bytes =
    let below = λ (entry : SymbolEntry). entry.0 < record_total bytes in
    All-map (λ (common : Common). common.symbol < record_total bytes) common_of (filter (λ (entry : SymbolEntry). is_common entry.1) (symbol_entries bytes))
    (All-filter (λ (entry : SymbolEntry). is_common entry.1) below (symbol_entries bytes)
    (All-map below (symbol_entry bytes) (symbols_of bytes)
    (All-weaker (λ i. starts_symbol bytes i ≡ true) (λ i. below (symbol_entry bytes i)) (λ i starts. starts_below bytes i starts) (symbols_of bytes) (symbols_start bytes))))

-- a module with a common has a place for it
pub common_place : (bytes : List ℕ) (common : Common) → Contains (commons_of bytes) common → common.symbol < common_places bytes
common_place bytes common own =
    let below = All-contains (λ (c : Common). c.symbol < record_total bytes) (commons_of bytes) common (commons_recorded bytes) own in
    subst (λ (n : ℕ). common.symbol < n) (some (length (commons_of bytes)) (record_total bytes) (omega (arith, own.1))) below
  where
    some : (n places : ℕ) → 0 < n → places ≡ cond (eqb n 0) 0 places
    some n places lt =
        elim (eqb_tells n 0) [
          | inl none ↦ absurd (omega (arith, lt, none.1))
          | inr one ↦ rw one.0 refl
        ]

-- ---- alignments

pub common_aligned : (size : ℕ) → IsAlignment (common_alignment size)
unfolding common_alignment
common_aligned size =
    one_of (nat_le size 1) 1 _ (record { positive = omega arith; divides = refl })
    (one_of (nat_le size 2) 2 _ (record { positive = omega arith; divides = refl })
    (one_of (nat_le size 4) 4 _ (record { positive = omega arith; divides = refl })
    (one_of (nat_le size 8) 8 _ (record { positive = omega arith; divides = refl })
    (one_of (nat_le size 16) 16 None (record { positive = omega arith; divides = refl }) (record { positive = omega arith; divides = refl })))))
  where
    one_of : (b : Bool) (here : ℕ) (rest : Option ℕ) → IsAlignment here → IsAlignment (unwrap_or rest 32) → IsAlignment (unwrap_or (cond b (Some here) rest) 32)
    one_of true here rest aligned others = aligned
    one_of false here rest aligned others = others
