-- What is kept in any case, one root more at a time.
use Rattle.std.proofs.Common.{◌≡◌, ℕ, ◌+◌, ◌<◌, List, [], ◌∷◌, ◌++◌, length, map, filter, take, get_or, cond, Option, Some, None, option_and_then, refl, sym, ap, ◌∙◌, append_assoc, arith}
use Rattle.std.specs.Prelude.{filter_map, codes}
use Rattle.std.specs.List.{cons_option, flat_map, range_with_len}
use Rattle.std.proofs.lemmas.List.{take_more, map-append, get_or_default}
use Rattle.std.proofs.lemmas.List.Elements.{filter-append, filter_map-append}
use Rattle.link_base.proofs.RangeLemmas.{range_more}
use Rattle.directives.specs.Said.{said}
use Rattle.directives.specs.declared.item.Directive.{Directive}
use Rattle.section_group.specs.declared.piece.Piece.{Piece}
use Rattle.section_group.specs.BarePieces.{bare}
use Rattle.section_group.specs.SectionOrder.{no_piece}
use Rattle.link_pieces.specs.LinkParts.{LinkParts}
use Rattle.link_pieces.specs.Pieces.{link_pieces}
use Rattle.link_pieces.proofs.CallerLemmas.{bare_at}
use Rattle.link_fields.specs.Fixes.{piece_at}
use Rattle.relocate.specs.declared.fix.Target.{Target}
use Rattle.link_words.specs.Outcome.{LinkOptions}
use Rattle.link_fields.specs.declared.entry.EntryPlace.{EntryPlace}
use Rattle.link_fields.specs.Entry.{entry_place, piece_of_place}
use Rattle.link_fields.specs.ExportTargets.{export_targets}
use Rattle.link_fields.specs.Targets.{piece_in}
use Rattle.link_keeping.specs.Reach.{included, included_by, is_plain, plain_sections, name_node, loader_names, named_nodes, link_roots}

-- one directive more
pub included_next : (node : List ℕ → Option ℕ) (xs : List Directive) (i : ℕ) (x : Directive) (old now after : List ℕ) → i < length xs → x ≡ get_or xs i x → now ≡ old ++ filter_map node (filter_map included (map said (take i xs))) → after ≡ now ++ filter_map node (cons_option (included (said x)) []) → after ≡ old ++ filter_map node (filter_map included (map said (take (i + 1) xs)))
included_next node xs i x old now after lt read is grown =
    let names = λ (ds : List Directive). filter_map included (map said ds) in
    grown
    ∙ ap (λ (ns : List ℕ). ns ++ filter_map node (names (x ∷ []))) is
    ∙ append_assoc old (filter_map node (names (take i xs))) (filter_map node (names (x ∷ [])))
    ∙ ap (λ (ns : List ℕ). old ++ ns)
    (sym (ap (λ (ds : List Directive). filter_map node (names ds)) (take_more xs i x lt ∙ ap (λ (d : Directive). take i xs ++ d ∷ []) (sym read))
    ∙ ap (filter_map node) (ap (filter_map included) (map-append said (take i xs) (x ∷ [])) ∙ filter_map-append included (map said (take i xs)) (map said (x ∷ [])))
    ∙ filter_map-append node (names (take i xs)) (names (x ∷ []))))

-- a piece as it was read
pub piece_read : (link : LinkParts) (pieces : List Piece) (k : ℕ) (piece : Piece) → map bare pieces ≡ link_pieces link → k < length pieces → piece ≡ get_or pieces k piece → bare piece ≡ piece_at link k
piece_read link pieces k piece are lt read =
    ap bare (read ∙ get_or_default pieces k piece no_piece lt) ∙ bare_at link pieces k are

-- one piece more
pub plain_next : (link : LinkParts) (k : ℕ) (old now after : List ℕ) → now ≡ old ++ filter (is_plain link) (range_with_len 0 k) → after ≡ now ++ cond (is_plain link k) (k ∷ []) [] → after ≡ old ++ filter (is_plain link) (range_with_len 0 (k + 1))
plain_next link k old now after is grown =
    let plain = filter (is_plain link) (range_with_len 0 k) in
    grown
    ∙ ap (λ (ns : List ℕ). ns ++ cond (is_plain link k) (k ∷ []) []) is
    ∙ append_assoc old plain (cond (is_plain link k) (k ∷ []) [])
    ∙ ap (λ (ns : List ℕ). old ++ ns) (sym (ap (filter (is_plain link)) (range_more 0 k k (omega arith)) ∙ filter-append (is_plain link) (range_with_len 0 k) (k ∷ [])))

-- ---- all of them

-- as the code appends them
pub named_so : (options : LinkOptions) (link : LinkParts) (entry : Option EntryPlace) (exported : List (Option Target)) (none with_entry with_exports with_tls all : List ℕ) → entry ≡ entry_place link options.entry_name → exported ≡ export_targets link → none ≡ [] → with_entry ≡ none ++ cons_option (piece_of_place entry) [] → with_exports ≡ with_entry ++ filter_map (option_and_then piece_in) exported → with_tls ≡ with_exports ++ cons_option (name_node link (codes "_tls_used")) [] → all ≡ with_tls ++ cons_option (name_node link (codes "_load_config_used")) [] → all ≡ named_nodes options link
named_so options link entry exported none with_entry with_exports with_tls all entry_is exported_is empty one two three four =
    let exports = filter_map (option_and_then piece_in) (export_targets link) in
    let tls = cons_option (name_node link (codes "_tls_used")) [] in
    let config = cons_option (name_node link (codes "_load_config_used")) [] in
    let first = cons_option (piece_of_place (entry_place link options.entry_name)) [] in
    let start : with_entry ≡ first = one ∙ ap (λ (ns : List ℕ). ns ++ cons_option (piece_of_place entry) []) empty ∙ ap (λ (place : Option EntryPlace). cons_option (piece_of_place place) []) entry_is in
    four
    ∙ ap (λ (ns : List ℕ). ns ++ config) (three ∙ ap (λ (ns : List ℕ). ns ++ tls) (two ∙ ap (λ (ns : List ℕ). ns ++ filter_map (option_and_then piece_in) exported) start ∙ ap (λ (ts : List (Option Target)). first ++ filter_map (option_and_then piece_in) ts) exported_is))
    ∙ append_assoc (first ++ exports) tls config
    ∙ append_assoc first exports (tls ++ config)
    ∙ ap (λ (ns : List ℕ). first ++ (exports ++ ns)) (sym (filter_map-append (name_node link) (codes "_tls_used" ∷ []) (codes "_load_config_used" ∷ [])))
    ∙ before (piece_of_place (entry_place link options.entry_name)) (exports ++ filter_map (name_node link) loader_names)
  where
    before : (o : Option ℕ) (ns : List ℕ) → cons_option o [] ++ ns ≡ cons_option o ns
    before None ns = refl
    before (Some n) ns = refl

pub roots_so : (options : LinkOptions) (link : LinkParts) (named with_names with_included all : List ℕ) → named ≡ named_nodes options link → with_names ≡ named ++ filter_map (name_node link) options.includes → with_included ≡ with_names ++ filter_map (name_node link) (flat_map included_by link.modules) → all ≡ with_included ++ plain_sections link → all ≡ link_roots options link
roots_so options link named with_names with_included all is one two three =
    let words = filter_map (name_node link) options.includes in
    let directives = filter_map (name_node link) (flat_map included_by link.modules) in
    let first = named_nodes options link in
    three
    ∙ ap (λ (ns : List ℕ). ns ++ plain_sections link) (two ∙ ap (λ (ns : List ℕ). ns ++ directives) (one ∙ ap (λ (ns : List ℕ). ns ++ words) is))
    ∙ append_assoc (first ++ words) directives (plain_sections link)
    ∙ append_assoc first words (directives ++ plain_sections link)
    ∙ ap (λ (ns : List ℕ). first ++ ns) (sym (append_assoc words directives (plain_sections link)))
    ∙ ap (λ (ns : List ℕ). first ++ (ns ++ plain_sections link)) (sym (filter_map-append (name_node link) options.includes (flat_map included_by link.modules)))
