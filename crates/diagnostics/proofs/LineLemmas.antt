-- A name is escaped part by part.
use Rattle.std.proofs.Common.{◌≡◌, ℕ, Bool, true, false, cond, List, [], ◌++◌, take, drop, append_assoc, Result, Ok, Err, OnOk, refl, sym, ap, ◌∙◌}
use Rattle.std.proofs.lemmas.List.{take-append-drop}
use Rattle.std.proofs.lemmas.Grind.{flat_map-append}
use Rattle.std.proofs.lemmas.Slice.Eq.{bytes_eq-Decides}
use Rattle.link_base.specs.NameText.{import_prefix, begins_import, behind_import, import_prefix_of}
use Rattle.diagnostics.specs.LineText.{escaped, escaped_byte}

split : (b : Bool) (text : List ℕ) → begins_import text ≡ b → escaped text ≡ cond b import_prefix [] ++ escaped (cond b (drop 6 text) text)
split true text e =
    let front : take 6 text ≡ import_prefix = (bytes_eq-Decides (take 6 text) import_prefix).0 e in
    ap escaped (sym (take-append-drop 6 text)) ∙ flat_map-append escaped_byte (take 6 text) (drop 6 text) ∙ ap (λ (p : List ℕ). escaped p ++ escaped (drop 6 text)) front
split false text e = refl

pub escaped_parts : (text : List ℕ) → escaped text ≡ import_prefix_of text ++ escaped (behind_import text)
escaped_parts text = split (begins_import text) text refl

-- what appending the parts of a name leaves
pub appends_parts : {T E : Type 0} (r : Result T E) (new mid old rest name : List ℕ) → mid ≡ old ++ import_prefix_of name → rest ≡ behind_import name → OnOk r (new ≡ mid ++ escaped rest) → OnOk r (new ≡ old ++ escaped name)
appends_parts (Ok x) new mid old rest name front back h =
    h ∙ ap (λ (m : List ℕ). m ++ escaped rest) front ∙ append_assoc old (import_prefix_of name) (escaped rest) ∙ ap (λ (t : List ℕ). old ++ t) (ap (λ (t : List ℕ). import_prefix_of name ++ escaped t) back ∙ sym (escaped_parts name))
appends_parts (Err e) new mid old rest name front back h = tt
