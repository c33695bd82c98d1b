-- One more section in a loop, and what a section shows whose name is none that is looked for.
use Rattle.std.proofs.Common.{◌≡◌, ℕ, ◌+◌, ◌<◌, Bool, true, false, ◌||◌, ◌&&◌, not, List, take, sym, ap, ◌∙◌, arith}
use Rattle.std.proofs.Math.Bool.{or-false}
use Rattle.std.specs.List.{list_any, range_with_len}
use Rattle.std.proofs.lemmas.List.Folds.{list_any_at}
use Rattle.std.proofs.lemmas.List.FromFn.{length-range_with_len, get_or-range_with_len}
use Rattle.link_base.proofs.RangeLemmas.{range_more}
use Rattle.coff_aux.proofs.CallerLemmas.{any_more}
use Rattle.coff_records.specs.ObjectFile.{section_name_of, is_uninitialised}
use Rattle.coff_aux.specs.Comdats.{is_comdat}
use Rattle.section_rules.specs.SoughtNames.{BeginsOtherwise}
use Rattle.section_rules.proofs.SoughtLemmas.{no_linker, no_directives, no_resources}
use Rattle.module_view.specs.Opening.{is_long}
use Rattle.module_view.specs.Steps.{Shows}

pub any_section : (test : ℕ → Bool) (n section : ℕ) (before here : Bool) → 1 + n ≡ section → before ≡ list_any test (range_with_len 1 n) → here ≡ test section → (before || here) ≡ list_any test (range_with_len 1 (n + 1))
any_section test n section before here place was is =
    ap (λ (b : Bool). b || here) was
    ∙ sym (any_more test (range_with_len 1 n) section here is)
    ∙ ap (list_any test) (sym (range_more 1 n section place))

-- one that fails changes nothing
pub same_sections : (test : ℕ → Bool) (n section : ℕ) (before : Bool) → 1 + n ≡ section → before ≡ list_any test (range_with_len 1 n) → test section ≡ false → before ≡ list_any test (range_with_len 1 (n + 1))
same_sections test n section before place was fails =
    sym (or-false before) ∙ any_section test n section before false place was (sym fails)

pub no_section : (test : ℕ → Bool) (n section : ℕ) → 1 + n ≡ section → list_any test (range_with_len 1 n) ≡ false → test section ≡ false → list_any test (range_with_len 1 (n + 1)) ≡ false
no_section test n section place none fails =
    sym (same_sections test n section false place (sym none) fails)

-- one of the sections passes: a section passes
pub some_section : (test : ℕ → Bool) (n count section : ℕ) → 1 + n ≡ section → n < count → test section ≡ true → list_any test (range_with_len 1 count) ≡ true
some_section test n count section place lt passes =
    list_any_at test (range_with_len 1 count) n 0 (omega (arith, length-range_with_len 1 count)) (ap test (get_or-range_with_len 1 count n 0 lt ∙ place) ∙ passes)

-- a name that begins otherwise shows nothing
pub plain_shows : (bytes : List ℕ) (section : ℕ) (marked : Bool) → is_long (section_name_of bytes section) ≡ false → BeginsOtherwise (take 3 (section_name_of bytes section)) → marked ≡ is_comdat bytes section → Shows bytes section (record { is_linker = false; is_long = false; is_comdat = marked; holds_directives = false; holds_resources = false })
plain_shows bytes section marked short start is =
    let name = section_name_of bytes section in
    record {
      linker = sym (no_linker name start);
      long = sym short;
      comdat = λ known. is;
      directives = λ known. sym (ap (λ (named : Bool). named && not (is_uninitialised bytes section)) (no_directives name start));
      resources = λ known. sym (no_resources name start);
    }
