use Rattle.std.proofs.Common.{◌≡◌, ℕ, List, ◌∙◌, sym, subst}
use Rattle.link_files.specs.Outside.{files_of}
use Rattle.input_arena.specs.Loaded.{LoadsFile}
use Rattle.file_search.specs.FileNames.{in_folder}
use Rattle.file_search.specs.Reading.{TriesName}
use Rattle.file_search.proofs.find.load_in_folder.Goals as goal

pub returns-in-Ok-text : goal.returns-in-Ok-text
returns-in-Ok-text g c =
    let before = files_of g.F.Files.store g.F.Files.read_faults g.F.Files.write_faults c.args.files.now in
    let after = files_of g.F.Files.store g.F.Files.read_faults g.F.Files.write_faults c.load-loaded.new.files in
    let kept = c.in-Ok-text.kept.now in
    let kept_is : kept ≡ in_folder c.args.name.now c.args.folder.now = c.in-Ok-text.ensures.copied ∙ c.as_str-2.ensures.value ∙ c.in-Ok.ensures in
    let tried : c.as_str.result.now ≡ kept = c.as_str.ensures.value ∙ sym (c.in-Ok-text.ensures.copied ∙ c.as_str-2.ensures.value) in
    let loads = subst (λ (name : List ℕ). LoadsFile name c.args.inputs.now c.load-loaded.new.self before after c.load-loaded.result) tried c.load-loaded.ensures in
    let counted = subst (λ (total : ℕ). LoadsFile kept c.args.inputs.now total before after c.load-loaded.result) (sym c.in-Ok-text.ensures.total_kept) loads in
    subst (λ (name : List ℕ). TriesName name c.args.inputs.now c.text.new.self before after c.found_by.result) kept_is
    (c.found_by.ensures c.args.inputs.now c.text.new.self before after counted)
