use Rattle.std.proofs.Common.{◌≡◌, true, List, ℕ, Some, cond, option_map, sym, ap, subst, ◌∙◌}
use Rattle.std.specs.Result.{result_ok}
use Rattle.coff_records.specs.ObjectFile.{SymbolEntry, symbol_at, name_in, starts_symbol}
use Rattle.link_pieces.specs.NameMeaning.{name_meaning}
use Rattle.link_fields.specs.Targets.{known_target, meant_target, has_meaning, local_target, symbol_target}
use Rattle.link_fields.proofs.TargetLemmas.{found_start, known_is}
use Rattle.link_fields.proofs.targets.noted_target.Goals as goal

pub returns : goal.returns
returns c =
    let link = c.args.names.now in
    let position = c.args.position in
    let at = c.args.at in
    let bytes = c.args.object.now in
    let symbol = symbol_at bytes at in
    let noted = c.in_ok-meant.ensures in
    let starts : starts_symbol bytes at ≡ true = subst (λ (b : List ℕ). starts_symbol b at ≡ true) (sym c.requires.here) noted.starts in
    let has : has_meaning symbol ≡ true =
    ap has_meaning (sym c.symbol_record.ensures) ∙ sym c.has_meaning.ensures ∙ c.if-not-has_meaning.false in
    ap (option_map (λ (entry : SymbolEntry). symbol_target link position entry.1)) (found_start bytes at starts)
    ∙ ap (λ b. Some (cond b (meant_target link (name_meaning link (name_in symbol))) (local_target link position symbol))) has
    ∙ ap Some (sym (c.known_target.ensures link c.requires.indexed
    ∙ ap (known_target link) (noted.means ∙ ap (λ (b : List ℕ). result_ok (name_meaning link (name_in (symbol_at b at)))) (sym c.requires.here))
    ∙ known_is link (name_meaning link (name_in symbol))))
