-- Writing part by part, where the bytes of the writer are known.
use Rattle.std.proofs.Common.{◌≡◌, ℕ, List, ◌++◌, length, take, drop, Option, Result, Ok, Err, IfErr, sym, ap, subst, ◌∙◌, append_assoc, take-append-drop}
use Rattle.std.proofs.Math.Seq.{take-append_seam}
use Rattle.std.proofs.lemmas.List.{append-nil, nil_from_length}
use Rattle.std.specs.Io.KnownBytes.{Appends}
use Rattle.link_files.specs.declared.sink.PutError.{PutError}
use Rattle.link_files.specs.declared.sink.PutError.TheVariants.{Fault, Memory}
use Rattle.link_files.specs.HostWrites.{WritesWhole}

-- a part that stands in front is the first bytes
pub first_bytes : (all done rest : List ℕ) (old new : Option (List ℕ)) → all ≡ done ++ rest → Appends old new done → (len : ℕ) × Appends old new (take len all)
first_bytes all done rest old new split appended =
    (length done, subst (Appends old new) (sym (take-append_seam done rest) ∙ ap (take (length done)) (sym split)) appended)

-- the next bytes go over from the rest to what is done
pub moves_over : (all done rest : List ℕ) (n : ℕ) → all ≡ done ++ rest → all ≡ (done ++ take n rest) ++ drop n rest
moves_over all done rest n split =
    split ∙ ap (λ (l : List ℕ). done ++ l) (sym (take-append-drop n rest)) ∙ sym (append_assoc done (take n rest) (drop n rest))

-- nothing is left to write, and the flush succeeded or was a fault
pub flushed_whole : {T : Type 0} (all done rest : List ℕ) (old new : Option (List ℕ)) (answer : Result T PutError) → all ≡ done ++ rest → length rest ≡ 0 → Appends old new done → IfErr answer (λ error. error ≡ Fault) → WritesWhole old new all answer
flushed_whole all done rest old new (Ok _) split none appended is =
    subst (Appends old new) (sym (split ∙ ap (λ (l : List ℕ). done ++ l) (nil_from_length rest none) ∙ append-nil done)) appended
flushed_whole all done rest old new (Err Fault) split none appended is = first_bytes all done rest old new split appended
flushed_whole all done rest old new (Err Memory) split none appended is = absurd (cc is)
