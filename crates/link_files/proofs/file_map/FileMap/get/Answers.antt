use Rattle.std.proofs.Common.{ap, sym, ◌∙◌, Some, option_map}
use Rattle.link_files.specs.Store.{Store, file_of}
use Rattle.link_files.proofs.StoreLemmas.{file_of-store_of}
use Rattle.link_files.proofs.file_map.FileMap.get.Goals as goal

pub returns-in-Some : goal.returns-in-Some
returns-in-Some c =
    ap Some c.as_slice.ensures.value
    ∙ ap (option_map (λ v. v.items)) c.in-Some.ensures.value
    ∙ sym (file_of-store_of c.self.inside.files c.args.name.now)
    ∙ ap (λ (files : Store). file_of files c.args.name.now) c.self.view_is

pub returns-in-None : goal.returns-in-None
returns-in-None c =
    ap (option_map (λ v. v.items)) c.in-None.ensures.value
    ∙ sym (file_of-store_of c.self.inside.files c.args.name.now)
    ∙ ap (λ (files : Store). file_of files c.args.name.now) c.self.view_is
