use Rattle.std.proofs.Common.{ℕ, ◌++◌, List, sym, ap, ◌∙◌, arith}
use Rattle.link_base.specs.Bytes.{bytes_at}
use Rattle.link_base.specs.NameText.{import_prefix}
use Rattle.short_import.proofs.CallerLemmas.{import_read}
use Rattle.module_view.proofs.import.entry_name.Goals as goal

-- the symbol stands behind the header
pub slice_in-requires : goal.slice_in-requires
slice_in-requires c =
    let read = import_read c.args.bytes.now c.requires.well_formed in
    omega (arith, read.ended, read.whole, c.requires.len)

pub returns : goal.returns
returns c =
    let read = import_read c.args.bytes.now c.requires.well_formed in
    c.import.ensures
    ∙ ap (λ (part : List ℕ). import_prefix ++ part)
    (c.slice_in.ensures.part ∙ ap (bytes_at c.args.bytes.now 20) c.requires.len ∙ sym read.symbol)
