use Rattle.std.proofs.Common.{◌∙◌, ap, sym, map, length}
use Rattle.std.specs.Char.{to_ascii_lowercase}
use Rattle.std.proofs.lemmas.List.{length-map}
use Rattle.pdb_publics.proofs.PartLemmas.{written_back, lowered_joined}
use Rattle.pdb_publics.proofs.keys.lowered_names.Goals as goal

pub returns : goal.returns
returns c =
    let names = c.in_ok-names.names.items in
    let lowered = c.make_ascii_lowercase.ensures.after ∙ ap (map to_ascii_lowercase) c.as_mut_slice.ensures.value in
    written_back names c.make_ascii_lowercase.new.self c.in_ok-names.names.len (sym c.in_ok-names.names.ok.0) (ap length lowered ∙ length-map names to_ascii_lowercase)
    ∙ lowered ∙ ap (map to_ascii_lowercase) c.in_ok-names.ensures ∙ lowered_joined c.args.rows.now
