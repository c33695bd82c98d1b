-- Which pieces of a plan are used: those with fields, and as the code lists them.
use Rattle.std.proofs.Common.{◌≡◌, ℕ, ◌+◌, ◌-◌, ◌<◌, ◌≤◌, Bool, true, false, ltb, List, ◌++◌, length, take, get_or, replicate, Some, inl, inr, sym, ap, ◌∙◌, arith}
use Rattle.std.specs.List.{Contains}
use Rattle.std.proofs.lemmas.Bool.{cases_lt, and_parts, ltb-true}
use Rattle.std.proofs.lemmas.List.{length-append}
use Rattle.link_words.specs.Outcome.{LinkOptions}
use Rattle.link_pieces.specs.Pieces.{link_pieces}
use Rattle.link_pieces.specs.TablePieces.{KeptParts, tables_of}
use Rattle.link_fields.specs.declared.entry.EntryPlace.{EntryPlace}
use Rattle.link_fields.specs.LoaderPlaces.{TLS_NAME, LOAD_CONFIG_NAME}
use Rattle.link_keeping.specs.Reach.{loader_names}
use Rattle.link_keeping.specs.Standing.{AreStanding}
use Rattle.link_plan.specs.Planned.{used_pieces, planned_fixes, planned_loader}
use Rattle.link_plan.specs.declared.planning.LinkPlan.{LinkPlan}
use Rattle.link_plan.specs.Plan.{IsPlanOf, kept_parts}
use Rattle.link_plan.proofs.CallerLemmas.{standing_length, used_first, used_last, fixes_kept, entry_used, loader_used, tls_sought, load_config_sought}
use Rattle.link_image.proofs.HeldLemmas.{piece_count, names_count}

-- a piece with a relocation is used
pub fields_used : (options : LinkOptions) (link : KeptParts) (k : ℕ) → AreStanding options link → 0 < length (planned_fixes link k) → get_or (used_pieces link) k false ≡ true
fields_used options link k kept some =
    let both = and_parts (ltb k (length (link_pieces link.parts))) (get_or link.kept k false) (fixes_kept link k some) in
    used_first options link k kept (ltb-true k (length (link_pieces link.parts)) both.0) ∙ both.1

-- ---- of a plan

module _ (options : LinkOptions) (plan : LinkPlan) (planned : IsPlanOf options plan.modules.items plan) where
  -- the piece in which the image begins is
  pub place_used : (place : EntryPlace) → place.piece < length plan.pieces.items → plan.entry ≡ Some place → get_or (used_pieces (kept_parts plan)) place.piece false ≡ true
  place_used place within is =
      let kept = planned.link_is.kept_are in
      elim (cases_lt place.piece (length (link_pieces plan.names))) [
        | inl inside ↦ (entry_used options (kept_parts plan) place kept inside (sym planned.entry_is ∙ is)).0
        | inr behind ↦
            used_last options (kept_parts plan) place.piece kept behind (omega (arith, within, piece_count options plan planned))
      ]

  -- and so are those that a loader looks for
  loader_place_used : (name : List ℕ) (place : EntryPlace) → Contains loader_names name → place.piece < length plan.pieces.items → planned_loader (kept_parts plan) name ≡ Some place → get_or (used_pieces (kept_parts plan)) place.piece false ≡ true
  loader_place_used name place among within is =
      let kept = planned.link_is.kept_are in
      elim (cases_lt place.piece (length (link_pieces plan.names))) [
        | inl inside ↦ (loader_used options (kept_parts plan) name place among kept inside is).0
        | inr behind ↦
            used_last options (kept_parts plan) place.piece kept behind (omega (arith, within, piece_count options plan planned))
      ]

  pub tls_used : (place : EntryPlace) → plan.loader.tls ≡ Some place → get_or (used_pieces (kept_parts plan)) place.piece false ≡ true
  tls_used place is = loader_place_used TLS_NAME place tls_sought (planned.tls_stands place is).within (sym planned.tls_is ∙ is)

  pub load_config_used : (place : EntryPlace) → plan.loader.load_config ≡ Some place → get_or (used_pieces (kept_parts plan)) place.piece false ≡ true
  load_config_used place is = loader_place_used LOAD_CONFIG_NAME place load_config_sought (planned.load_config_stands place is).within (sym planned.load_config_is ∙ is)

  -- ---- as they are listed

  -- the list says it of the pieces of the link, and behind them of as many imports as there are modules
  pub kept_length : length plan.kept.items ≡ length (link_pieces plan.names) + length plan.modules.items
  kept_length = let count = names_count options plan planned in omega (arith, standing_length options (kept_parts plan) planned.link_is.kept_are, count)

  pub first_fits : length (link_pieces plan.names) ≤ length plan.pieces.items
  first_fits =
      omega (arith, piece_count options plan planned, length-append (link_pieces plan.names) (tables_of (kept_parts plan)))

  pub used_are : (first count : ℕ) (used : List Bool) → first ≡ length plan.kept.items - length plan.modules.items → count ≡ length plan.pieces.items → used ≡ take first plan.kept.items ++ replicate (count - first) true → used ≡ used_pieces (kept_parts plan)
  used_are first count used starts ends is =
      let n = length (link_pieces plan.names) in
      let here : first ≡ n = omega (arith, starts, kept_length) in
      let rest : count - first ≡ length (tables_of (kept_parts plan)) =
      omega (arith, here, ends, piece_count options plan planned, length-append (link_pieces plan.names) (tables_of (kept_parts plan))) in
      is
      ∙ ap (λ (m : ℕ). take m plan.kept.items ++ replicate (count - first) true) here
      ∙ ap (λ (m : ℕ). take n plan.kept.items ++ replicate m true) rest
