-- What the symbols of an object mean, one symbol more at a time.
use Rattle.std.proofs.Common.{◌≡◌, ℕ, zero, suc, Bool, true, false, ◌||◌, cond, eqb, List, [], ◌∷◌, map, get_or, replicate, Option, Some, None, option_map, Result, Ok, Err, inl, inr, refl, sym, ap, ◌∙◌}
use Rattle.std.specs.List.{find, list_any}
use Rattle.std.specs.Option.{option_or}
use Rattle.std.specs.Result.{result_ok}
use Rattle.std.proofs.lemmas.Bool.Decides.{eqb_tells}
use Rattle.coff_records.specs.ObjectFile.{SymbolEntry, symbols_of, symbol_entry, symbol_entries, starts_symbol}
use Rattle.link_pieces.specs.LinkParts.{LinkParts}
use Rattle.symbol_table.specs.declared.meaning.Meaning.{Meaning}
use Rattle.symbol_table.specs.declared.meaning.NoMeaning.{NoMeaning}
use Rattle.link_fields.specs.Targets.{is_record, known_target, meant_target}

-- nothing is noted at first
abbrev none : (A : Type 0) → Option A
none A = None

pub nothing_noted : {A : Type 0} (row : List (Option A)) (n other : ℕ) → row ≡ replicate n None → get_or row other None ≡ None
nothing_noted {A} row n other is = ap (λ (r : List (Option A)). get_or r other None) is ∙ each n other
  where
    each : (n other : ℕ) → get_or (replicate n (none A)) other None ≡ None
    each zero other = refl
    each (suc n) zero = refl
    each (suc n) (suc other) = each n other

grown : {A : Type 0} (f : SymbolEntry → A) (b : Bool) (old : Option A) (entry : SymbolEntry) (later : Option SymbolEntry) → option_or (option_or old (cond b (Some (f entry)) None)) (option_map f later) ≡ option_or old (option_map f (cond b (Some entry) later))
grown f true None entry later = refl
grown f true (Some x) entry later = refl
grown f false None entry later = refl
grown f false (Some x) entry later = refl

-- what is noted and what is still to come, after one more symbol
pub noted_more : {A : Type 0} (f : SymbolEntry → A) (before after : List SymbolEntry) (entry : SymbolEntry) (at : ℕ) (old new whole : Option A) → before ≡ entry ∷ after → new ≡ option_or old (cond (eqb entry.0 at) (Some (f entry)) None) → option_or old (option_map f (find (is_record at) before)) ≡ whole → option_or new (option_map f (find (is_record at) after)) ≡ whole
noted_more f before after entry at old new whole is noted was =
    ap (λ o. option_or o (option_map f (find (is_record at) after))) noted
    ∙ grown f (eqb entry.0 at) old entry (find (is_record at) after)
    ∙ ap (λ (es : List SymbolEntry). option_or old (option_map f (find (is_record at) es))) (sym is)
    ∙ was

-- the symbol that starts at a record is the one that is found there
pub found_start : (bytes : List ℕ) (at : ℕ) → starts_symbol bytes at ≡ true → find (is_record at) (symbol_entries bytes) ≡ Some (symbol_entry bytes at)
unfolding starts_symbol
found_start bytes at starts = among (symbols_of bytes) starts
  where
    among : (indexes : List ℕ) → list_any (λ start. eqb start at) indexes ≡ true → find (is_record at) (map (symbol_entry bytes) indexes) ≡ Some (symbol_entry bytes at)
    among [] e = absurd cc
    among (first ∷ later) e =
        elim (eqb_tells first at) [
          | inl here ↦ rw here.0 (ap (λ i. Some (symbol_entry bytes i)) here.1)
          | inr apart ↦
              rw apart.0 (among later (sym (ap (λ b. b || list_any (λ start. eqb start at) later) apart.0) ∙ e))
        ]

-- a name means to a relocation what is known of its meaning
pub known_is : (link : LinkParts) (meaning : Result Meaning NoMeaning) → known_target link (result_ok meaning) ≡ meant_target link meaning
known_is link (Ok meant) = refl
known_is link (Err none) = refl
