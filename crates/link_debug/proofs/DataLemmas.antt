-- The lengths of what an image says of its PDB.
use Rattle.std.proofs.Common.{◌≡◌, ℕ, ◌+◌, ◌<◌, Bool, true, false, cond, eqb, List, [], ◌∷◌, ◌++◌, length, length-append, refl, sym, ◌∙◌, arith}
use Rattle.std.proofs.lemmas.Bool.{eqb-true}
use Rattle.link_base.specs.Bytes.{number_bytes}
use Rattle.link_base.proofs.NumberLemmas.{above_zero}
use Rattle.address_layout.specs.declared.layout.Placed.{Placed}
use Rattle.debug_entry.specs.DebugDirectory.{debug_entry, debug_data}
use Rattle.link_words.specs.Outcome.{LinkOptions}
use Rattle.link_debug.specs.LinkDebug.{DebugView, no_identifier, data_size, debug_of, file_place, entry_bytes, data_bytes}

pub length-data : (identifier pdb : List ℕ) → length identifier ≡ 16 → length (debug_data identifier pdb) ≡ 25 + length pdb
unfolding debug_data number_bytes
length-data identifier pdb sixteen =
    omega (arith, sixteen, length-append identifier (1 ∷ 0 ∷ 0 ∷ 0 ∷ (pdb ++ 0 ∷ [])), length-append pdb (0 ∷ []))

-- it is the same for each identifier
pub one_size : (identifier pdb : List ℕ) → length identifier ≡ 16 → length (debug_data identifier pdb) ≡ data_size pdb
unfolding data_size
one_size identifier pdb sixteen = length-data identifier pdb sixteen ∙ sym (length-data no_identifier pdb refl)

-- ---- where a PDB is asked for, and where not

-- the size is that of the data
abbrev pub IsSized : DebugView → Type 0
IsSized debug = 0 < debug.size → debug.size ≡ data_size debug.pdb

pub sized : (options : LinkOptions) → IsSized (debug_of options)
sized options some = by options.debug some
  where
    by : (b : Bool) → 0 < cond b (data_size options.pdb) 0 → cond b (data_size options.pdb) 0 ≡ data_size options.pdb
    by true some = refl
    by false some = absurd (omega (arith, some))

pub length-entry : (debug : DebugView) (sections : List Placed) (rva : ℕ) → length (entry_bytes debug sections rva) ≡ cond (eqb debug.size 0) 0 28
unfolding entry_bytes debug_entry number_bytes
length-entry debug sections rva = by (eqb debug.size 0)
  where
    by : (b : Bool) → length (cond b [] (debug_entry debug.time debug.size rva (file_place sections rva))) ≡ cond b 0 28
    by true = refl
    by false = refl

pub length-bytes : (debug : DebugView) (identifier : List ℕ) → length identifier ≡ 16 → IsSized debug → length (data_bytes debug identifier) ≡ debug.size
unfolding data_bytes
length-bytes debug identifier sixteen sized = by (eqb debug.size 0) refl
  where
    by : (b : Bool) → eqb debug.size 0 ≡ b → length (cond b [] (debug_data identifier debug.pdb)) ≡ debug.size
    by true none = sym (eqb-true debug.size 0 none)
    by false some = one_size identifier debug.pdb sixteen ∙ sym (sized (above_zero debug.size some))
