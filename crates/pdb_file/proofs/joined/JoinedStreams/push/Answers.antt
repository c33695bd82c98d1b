use Rattle.std.proofs.Common.{ℕ, List, [], ◌∷◌, ◌++◌, ap, ◌∙◌}
use Rattle.pdb_msf.specs.WrittenFile.{parted}
use Rattle.pdb_file.proofs.PartedLemmas.{parted_more}
use Rattle.pdb_file.proofs.joined.JoinedStreams.push.Goals as goal

pub returns : goal.returns
returns c =
    let bytes = c.self.inside.bytes.items in
    let lengths = c.self.inside.lengths.items in
    let stream = c.args.stream.now in
    ap (λ (joined : List ℕ). parted joined c.push.new.self.items) c.in_ok-extend_from_slice.ensures.items
    ∙ ap (parted (bytes ++ stream))
    (c.in_ok-push.ensures.items ∙ ap (λ (ls : List ℕ). ls ++ c.in-Ok.len ∷ []) c.in_ok-reserve.ensures.items ∙ ap (λ (len : ℕ). lengths ++ len ∷ []) c.in-Ok.ensures.1)
    ∙ parted_more bytes lengths stream c.self.invariant
    ∙ ap (λ (streams : List (List ℕ)). streams ++ stream ∷ []) c.self.view_is
