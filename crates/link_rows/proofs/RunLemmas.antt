-- A run of the linker, by the words that were asked for.
use Rattle.std.proofs.Common.{◌≡◌, ℕ, List, subst}
use Rattle.link_files.specs.Outside.{FilesView, SinkView}
use Rattle.linker_program.specs.LinkRun.{Ran, IsOwed}
use Rattle.link_rows.specs.Runs.{silent, IsRun}

pub is_run : (words asked : List (List ℕ)) (before after : FilesView) (printed_before printed : SinkView) (status : ℕ) → words ≡ asked → printed_before ≡ silent → Ran words before after printed_before printed status → IsOwed words before after printed_before printed status → IsRun asked before after printed status
is_run words asked before after printed_before printed status same nothing ran owed = record {
  ran =
      subst (λ (w : List (List ℕ)). Ran w before after silent printed status) same
      (subst (λ (s : SinkView). Ran words before after s printed status) nothing ran);
  owed =
      subst (λ (w : List (List ℕ)). IsOwed w before after silent printed status) same
      (subst (λ (s : SinkView). IsOwed words before after s printed status) nothing owed);
}
