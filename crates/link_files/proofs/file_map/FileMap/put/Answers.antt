use Rattle.std.proofs.Common.{ap, ◌∙◌, List, ℕ}
use Rattle.link_files.specs.Store.{Store, with_file, store_of}
use Rattle.link_files.proofs.StoreLemmas.{store_of-insert}
use Rattle.link_files.proofs.file_map.FileMap.put.Goals as goal

pub returns-clause-ok : goal.returns-clause-ok
returns-clause-ok c =
    let before = store_of c.self.inside.files.entries in
    store_of-insert c.self.inside.files c.insert.new.self c.in_ok-name.name c.in_ok-bytes.bytes c.in_ok-insert.ensures.updates
    ∙ ap (λ (name : List ℕ). with_file before name c.in_ok-bytes.bytes.items) c.in_ok-name.ensures.ok
    ∙ ap (λ (bytes : List ℕ). with_file before c.args.name.now bytes) c.in_ok-bytes.ensures.items
    ∙ ap (λ (files : Store). with_file files c.args.name.now c.args.bytes.now) c.self.view_is
