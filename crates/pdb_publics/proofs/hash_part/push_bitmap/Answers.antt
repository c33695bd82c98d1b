use Rattle.std.proofs.Common.{◌≡◌, ◌∙◌, ◌++◌, ap, arith, List, ℕ, map, replicate, append_assoc}
use Rattle.std.specs.List.{range_with_len}
use Rattle.std.proofs.lemmas.Result.{IfOk-equal}
use Rattle.pdb_publics.specs.PublicStreams.{bitmap_byte, bitmap}
use Rattle.pdb_publics.proofs.PartLemmas.{bitmap_made}
use Rattle.pdb_publics.proofs.hash_part.push_bitmap.Goals as goal

pub loop-place-preserved : goal.loop-place-preserved
loop-place-preserved c =
    bitmap_made c.args.counts.now c.loop-place.place c.bitmap_byte.result c.args.out.now.items c.loop-place.out.items _ c.loop-place.invariant c.bitmap_byte.ensures c.in_ok-push.ensures.items

pub returns : goal.returns
unfolding bitmap
returns c =
    let all : c.loop-place.place ≡ 512 = omega (arith, c.loop-place-test.false, c.loop-place.auto.place-end) in
    let before = c.args.out.now.items in
    IfOk-equal c.push_zeros.result c.push_zeros.new.out.items (c.loop-place.out.items ++ replicate 4 0) (before ++ bitmap c.args.counts.now) c.push_zeros.ensures
    (ap (λ (xs : List ℕ). xs ++ replicate 4 0) (c.loop-place.invariant ∙ ap (λ (n : ℕ). before ++ map (bitmap_byte c.args.counts.now) (range_with_len 0 n)) all)
    ∙ append_assoc before (map (bitmap_byte c.args.counts.now) (range_with_len 0 512)) (replicate 4 0))
