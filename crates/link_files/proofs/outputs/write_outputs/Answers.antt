use Rattle.std.proofs.Common.{ℕ, ◌<◌, List, length, map, subst, arith}
use Rattle.std.proofs.lemmas.List.{length-map}
use Rattle.link_files.specs.Outside.{files_of}
use Rattle.link_files.specs.Outputs.{named_bytes}
use Rattle.link_files.specs.Writing.{PutsFile}
use Rattle.link_files.proofs.OutputLemmas.{nothing_written, one_written, named_at}
use Rattle.link_files.proofs.outputs.write_outputs.Goals as goal

pub loop-index-init : goal.loop-index-init
loop-index-init g c =
    nothing_written (files_of g.F.Files.store g.F.Files.read_faults g.F.Files.write_faults c.args.files.now) (map named_bytes c.args.outputs.now)

pub loop-index-preserved : goal.loop-index-preserved
loop-index-preserved g c =
    let F = g.F.Files in
    let outputs = c.args.outputs.now in
    let k = c.loop-index.index in
    let output = c.index-outputs-index.result in
    let inside : k < length outputs = omega arith in
    let within : k < length (map named_bytes outputs) = omega (arith, length-map outputs named_bytes) in
    let put = subst (λ (bytes : List ℕ). PutsFile (F.store c.loop-index.files) (F.store c.write.new.self) output.name.now bytes (F.write_faults c.loop-index.files) (F.write_faults c.write.new.self)) c.deref.ensures.value c.in-Ok.ensures.writes in
    one_written (files_of F.store F.read_faults F.write_faults c.args.files.now) (files_of F.store F.read_faults F.write_faults c.loop-index.files) (files_of F.store F.read_faults F.write_faults c.write.new.self) (map named_bytes outputs) k (named_bytes output) within (named_at named_bytes outputs k output inside c.index-outputs-index.is) c.loop-index.invariant put c.in-Ok.ensures.reads_kept
