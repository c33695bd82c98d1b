-- A name is cut after its import prefix.
use Rattle.std.proofs.Common.{◌≡◌, ℕ, ◌+◌, ◌≤◌, Bool, true, false, cond, List, [], ◌++◌, length, take, drop, Some, None, refl, sym, ap, ◌∙◌, subst, arith}
use Rattle.std.specs.List.{position_or_len}
use Rattle.std.proofs.lemmas.List.{take-append-drop, take_all, drop_all, drop-drop}
use Rattle.std.proofs.Math.Seq.{take-append-add, drop-append-add}
use Rattle.std.proofs.lemmas.Slice.Eq.{bytes_eq-Decides}
use Rattle.memchr.specs.Find.{IsFirstByte, is_byte}
use Rattle.link_base.specs.NameText.{import_prefix, begins_import, behind_import, with_import}
use Rattle.link_base.specs.SectionName.{base_name, suffix, is_cut}
use Rattle.link_base.proofs.FoundLemmas.{found_at, not_found}

made : (b : Bool) (text : List ℕ) → begins_import text ≡ b → text ≡ with_import b (cond b (drop 6 text) text)
made true text e =
    let front : take 6 text ≡ import_prefix = (bytes_eq-Decides (take 6 text) import_prefix).0 e in
    sym (take-append-drop 6 text) ∙ ap (λ (p : List ℕ). p ++ drop 6 text) front
made false text e = refl

-- a name is its prefix and what is behind it
pub text_made : (text : List ℕ) → text ≡ with_import (begins_import text) (behind_import text)
text_made text = made (begins_import text) text refl

-- the cut is behind the prefix
pub base_behind : (b : Bool) (rest : List ℕ) → base_name (with_import b rest) ≡ with_import b (base_name rest)
base_behind true rest =
    let p = position_or_len is_cut rest in
    let at : position_or_len is_cut (import_prefix ++ rest) ≡ 6 + p = omega arith in
    ap (λ (k : ℕ). take k (import_prefix ++ rest)) at ∙ take-append-add import_prefix rest p
base_behind false rest = refl

pub suffix_behind : (b : Bool) (rest : List ℕ) → suffix (with_import b rest) ≡ suffix rest
suffix_behind true rest =
    let p = position_or_len is_cut rest in
    let at : position_or_len is_cut (import_prefix ++ rest) + 1 ≡ 6 + (p + 1) = omega arith in
    ap (λ (k : ℕ). drop k (import_prefix ++ rest)) at ∙ drop-append-add import_prefix rest (p + 1)
suffix_behind false rest = refl

-- ---- the first cut byte

-- a name with no cut byte is its own base name
pub base_whole : (text rest : List ℕ) → rest ≡ behind_import text → IsFirstByte (is_byte 36) rest None → text ≡ base_name text
base_whole text rest e none =
    let h = subst (λ (r : List ℕ). IsFirstByte (is_byte 36) r None) e none in
    let b = begins_import text in
    let r = behind_import text in
    text_made text ∙ ap (with_import b) (sym (take_all (position_or_len is_cut r) r (not_found is_cut r h))) ∙ sym (base_behind b r)
    ∙ ap base_name (sym (text_made text))

pub suffix_none : (text rest : List ℕ) → rest ≡ behind_import text → IsFirstByte (is_byte 36) rest None → [] ≡ suffix text
suffix_none text rest e none =
    let h = subst (λ (r : List ℕ). IsFirstByte (is_byte 36) r None) e none in
    let b = begins_import text in
    let r = behind_import text in
    let past : length r ≤ position_or_len is_cut r + 1 = omega (arith, not_found is_cut r h) in
    sym (drop_all (position_or_len is_cut r + 1) r past) ∙ sym (suffix_behind b r) ∙ ap suffix (sym (text_made text))

-- the base name of a name that is cut
pub base_cut : (b : Bool) (text rest front : List ℕ) (k : ℕ) → begins_import text ≡ b → rest ≡ behind_import text → IsFirstByte (is_byte 36) rest (Some k) → front ≡ take k rest → with_import b front ≡ base_name text
base_cut b text rest front k is e found is_front =
    let at = found_at is_cut rest k found in
    let parts : text ≡ with_import b rest = text_made text ∙ ap (λ (c : Bool). with_import c (behind_import text)) is ∙ ap (with_import b) (sym e) in
    ap (with_import b) (is_front ∙ ap (λ (p : ℕ). take p rest) (sym at)) ∙ sym (base_behind b rest) ∙ ap base_name (sym parts)

pub suffix_cut : (text rest back behind : List ℕ) (k : ℕ) → rest ≡ behind_import text → IsFirstByte (is_byte 36) rest (Some k) → back ≡ drop k rest → behind ≡ drop 1 back → behind ≡ suffix text
suffix_cut text rest back behind k e found is_back is_behind =
    let at = found_at is_cut rest k found in
    let b = begins_import text in
    let parts : text ≡ with_import b rest = text_made text ∙ ap (with_import b) (sym e) in
    is_behind ∙ ap (drop 1) (is_back ∙ ap (λ (p : ℕ). drop p rest) (sym at)) ∙ drop-drop _ _ rest ∙ sym (suffix_behind b rest) ∙ ap suffix (sym parts)
