-- What is kept of the resource files that were opened, with one resource more.
use Rattle.std.proofs.Common.{◌≡◌, ◌≤◌, ◌<◌, ◌^◌, Bool, true, false, not, cond, List, [], ◌∷◌, ◌++◌, length, map, sym, ap, subst, ◌∙◌, arith}
use Rattle.std.specs.List.{list_any, IsDistinct}
use Rattle.std.proofs.lemmas.List.{map-append}
use Rattle.std.proofs.lemmas.List.Elements.{All-nil, All-push}
use Rattle.indexmap.specs.IndexSet.{contains, insert_key}
use Rattle.res_merge.specs.declared.resource.Resource.{Resource}
use Rattle.res_merge.specs.Entries.{Entry, entry_of}
use Rattle.res_merge.specs.Order.{RESOURCE_LIMIT}
use Rattle.res_merge.specs.Found.{IsSmallKey, AreNumbered}
use Rattle.resource_files.specs.contracts.key.ResourceKeyPartialEq.TheImpl.{eq-value}
use Rattle.resource_files.specs.declared.key.ResourceKey.{ResourceKey}
use Rattle.resource_files.specs.declared.files.ResourceFiles.{ResourceFiles}
use Rattle.resource_files.specs.Held.{same_entry, is_again}
use Rattle.resource_files.specs.Parts.{known_by, IsSmall, KeepsResources}
use Rattle.resource_files.proofs.KeyLemmas.{known_again}
use Rattle.resource_files.proofs.MergeLemmas.{distinct_push}

turned : (b c : Bool) → b ≡ not c → c ≡ not b
turned b true e = sym (ap not e)
turned b false e = sym (ap not e)

-- no file was opened
pub kept_none : (files : ResourceFiles) → files.resources.items ≡ [] → files.keys.keys ≡ [] → KeepsResources files
unfolding IsDistinct
kept_none files none keys = record {
  few = let count = ap (λ (rs : List Resource). length rs) none in omega (arith, count);
  apart = subst (λ (rs : List Resource). IsDistinct same_entry (map entry_of rs)) (sym none) tt;
  numbered =
      subst (λ (rs : List Resource). AreNumbered (map entry_of rs)) (sym none)
      (record {
        keys = All-nil (λ (e : Entry). IsSmallKey e.kind × IsSmallKey e.name);
        languages = All-nil (λ (e : Entry). e.language < 2 ^ 16);
      });
  keys_are = keys ∙ sym (ap (λ (rs : List Resource). map known_by (map entry_of rs)) none);
}

-- ---- one more

module _ (files : ResourceFiles) (entry : Entry) (key : ResourceKey) where
  known : KeepsResources files → key ≡ known_by entry → list_any (eq-value.it key) files.keys.keys ≡ is_again (map entry_of files.resources.items) entry
  known kept key_is =
      ap (λ (k : ResourceKey). list_any (eq-value.it k) files.keys.keys) key_is
      ∙ ap (list_any (eq-value.it (known_by entry))) kept.keys_are
      ∙ known_again entry (map entry_of files.resources.items)

  pub is_new : (added : Bool) → KeepsResources files → key ≡ known_by entry → added ≡ not (contains eq-value.it files.keys key) → added ≡ true → is_again (map entry_of files.resources.items) entry ≡ false
  is_new added kept key_is was fresh =
      sym (known kept key_is) ∙ turned added (contains eq-value.it files.keys key) was ∙ ap not fresh

  pub is_old : (added : Bool) → KeepsResources files → key ≡ known_by entry → added ≡ not (contains eq-value.it files.keys key) → added ≡ false → is_again (map entry_of files.resources.items) entry ≡ true
  is_old added kept key_is was old =
      sym (known kept key_is) ∙ turned added (contains eq-value.it files.keys key) was ∙ ap not old

pub kept_more : (before after : ResourceFiles) (entry : Entry) (key : ResourceKey) → KeepsResources before → map entry_of after.resources.items ≡ map entry_of before.resources.items ++ entry ∷ [] → length after.resources.items ≤ RESOURCE_LIMIT → key ≡ known_by entry → IsSmall entry → after.keys.keys ≡ insert_key eq-value.it before.keys.keys key → is_again (map entry_of before.resources.items) entry ≡ false → KeepsResources after
kept_more before after entry key kept entries few key_is small keys fresh =
    let old = map entry_of before.resources.items in
    let unknown : list_any (eq-value.it key) before.keys.keys ≡ false = known before entry key kept key_is ∙ fresh in
    record {
      few = few;
      apart = subst (IsDistinct same_entry) (sym entries) (distinct_push same_entry old entry kept.apart fresh);
      numbered =
          subst AreNumbered (sym entries)
          (record {
            keys = All-push (λ (e : Entry). IsSmallKey e.kind × IsSmallKey e.name) old entry kept.numbered.keys (small.kind, small.name);
            languages = All-push (λ (e : Entry). e.language < 2 ^ 16) old entry kept.numbered.languages small.language;
          });
      keys_are =
          keys
          ∙ ap (λ (b : Bool). cond b before.keys.keys (before.keys.keys ++ key ∷ [])) unknown
          ∙ ap (λ (ks : List ResourceKey). ks ++ key ∷ []) kept.keys_are
          ∙ ap (λ (k : ResourceKey). map known_by old ++ k ∷ []) key_is
          ∙ sym (map-append known_by old (entry ∷ []))
          ∙ ap (map known_by) (sym entries);
    }
