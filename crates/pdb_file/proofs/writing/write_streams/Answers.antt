use Rattle.std.proofs.Common.{◌≡◌, ℕ, List, length, refl, sym, ap, ◌∙◌, subst, arith}
use Rattle.std.specs.Prelude.{IfErr}
use Rattle.pdb_msf.specs.WrittenFile.{parted, Writes}
use Rattle.pdb_msf.proofs.WritingLemmas.{parted_sizes}
use Rattle.pdb_file.specs.PdbFile.{database, pdb_streams, IsTooLarge}
use Rattle.pdb_file.proofs.PartedLemmas.{length-parted, too_large}
use Rattle.pdb_file.proofs.writing.write_streams.Goals as goal

pub write_msf-requires-clause-few : goal.write_msf-requires-clause-few
unfolding pdb_streams
write_msf-requires-clause-few c =
    let bytes = c.streams.inside.bytes.items in
    let lengths = c.streams.inside.lengths.items in
    let nine : length (pdb_streams (database c.args.parts.now)) ≡ 9 = refl in
    let count : length lengths ≡ 9 = sym (length-parted bytes lengths) ∙ ap (λ (streams : List (List ℕ)). length streams) (c.streams.view_is ∙ c.in-Ok.ensures) ∙ nine in
    omega (arith, ap (λ (ls : List ℕ). length ls) c.deref-in-Ok.ensures.value, count)

pub returns-in-Ok-clause-too_large : goal.returns-in-Ok-clause-too_large
returns-in-Ok-clause-too_large c =
    let bytes = c.streams.inside.bytes.items in
    let lengths = c.streams.inside.lengths.items in
    let are : parted bytes lengths ≡ pdb_streams (database c.args.parts.now) = c.streams.view_is ∙ c.in-Ok.ensures in
    let writes : Writes lengths (parted bytes lengths) c.write_msf.result =
    subst (λ (ls : List ℕ). Writes ls (parted bytes ls) c.write_msf.result) c.deref-in-Ok.ensures.value
    (subst (λ (bs : List ℕ). Writes c.deref-in-Ok.result.now (parted bs c.deref-in-Ok.result.now) c.write_msf.result) c.deref.ensures.value c.write_msf.ensures) in
    subst (λ (streams : List (List ℕ)). IfErr c.write_msf.result (IsTooLarge streams)) are
    (too_large lengths (parted bytes lengths) c.write_msf.result (parted_sizes bytes lengths c.streams.invariant) writes)
