use Rattle.std.proofs.Common.{◌≡◌, ◌≤◌, length, drop, sym, ap, ◌∙◌}
use Rattle.std.specs.List.{after_last}
use Rattle.directives.specs.Text.{has, is_dot}
use Rattle.link_words.specs.Extension.{is_slash}
use Rattle.link_words.proofs.ExtensionLemmas.{after_slash, no_slash}
use Rattle.file_search.proofs.FindLemmas.{has_by_place}
use Rattle.file_search.proofs.library_name.has_extension.Goals.{in-Some, in-None}
use Rattle.file_search.proofs.library_name.has_extension.Goals as goal

pub returns : goal.returns
returns c =
    let bytes = c.as_bytes-bytes.result.now in
    let start = c.match-memrchr2.start in
    let after : (start ≤ length bytes) × (after_last is_slash bytes ≡ drop start bytes) = elim c.match-memrchr2.branch [
      | in-Some w ↦ after_slash bytes start w.in-Some.slash w.in-Some.ensures w.start-is
      | in-None w ↦ no_slash bytes start w.in-None.ensures w.start-is
    ] in
    has_by_place is_dot c.split_at.result.1.now c.memchr.result c.is_some.result c.is_some.ensures c.memchr.ensures
    ∙ ap (has is_dot) (c.split_at.ensures.back ∙ sym after.1 ∙ ap (after_last is_slash) c.as_bytes-bytes.ensures.value)
