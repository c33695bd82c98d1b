-- Outputs that are written one after the other.
use Rattle.std.proofs.Common.{◌≡◌, ℕ, ◌+◌, ◌<◌, Option, List, [], ◌∷◌, ◌++◌, length, take, map, get_or, refl, sym, ap, ◌∙◌, arith}
use Rattle.std.proofs.lemmas.List.{take_more, get_or-map}
use Rattle.link_files.specs.Store.{Store, told_with_file}
use Rattle.link_files.specs.Outside.{FilesView}
use Rattle.link_files.specs.Outputs.{NamedBytes, no_output, output_at, told_with_files, FirstWritten}
use Rattle.link_files.specs.Writing.{PutsFile}

-- one output more
files_push : (store : Option Store) (outputs : List NamedBytes) (last : NamedBytes) → told_with_files store (outputs ++ last ∷ []) ≡ told_with_file (told_with_files store outputs) last.name last.bytes
unfolding told_with_files
files_push store [] last = refl
files_push store (output ∷ rest) last = files_push (told_with_file store output.name output.bytes) rest last

pub nothing_written : (files : FilesView) (outputs : List NamedBytes) → FirstWritten files files outputs 0
unfolding told_with_files
nothing_written files outputs = record { within = omega arith; store = refl; reads = refl; writes = refl }

pub one_written : (before now later : FilesView) (outputs : List NamedBytes) (k : ℕ) (output : NamedBytes) → k < length outputs → output ≡ output_at outputs k → FirstWritten before now outputs k → PutsFile now.store later.store output.name output.bytes now.write_faults later.write_faults → later.read_faults ≡ now.read_faults → FirstWritten before later outputs (k + 1)
one_written before now later outputs k output lt is first put reads = record {
  within = omega arith;
  store =
      put.stored
      ∙ ap (λ (s : Option Store). told_with_file s output.name output.bytes) first.store
      ∙ sym (files_push before.store (take k outputs) output)
      ∙ ap (λ (o : NamedBytes). told_with_files before.store (take k outputs ++ o ∷ [])) is
      ∙ ap (told_with_files before.store) (sym (take_more outputs k no_output lt));
  reads = reads ∙ first.reads;
  writes = put.none_failed ∙ first.writes;
}

-- an output of the list, by its index
pub named_at : {X : Type 0} (named : X → NamedBytes) (outputs : List X) (k : ℕ) (output : X) → k < length outputs → output ≡ get_or outputs k output → named output ≡ output_at (map named outputs) k
named_at {X} named outputs k output lt is = ap named is ∙ sym (get_or-map named outputs k output no_output lt)
