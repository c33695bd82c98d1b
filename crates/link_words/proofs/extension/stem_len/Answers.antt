use Rattle.std.proofs.Common.{◌≡◌, drop, length, ◌≤◌}
use Rattle.std.specs.List.{after_last}
use Rattle.link_words.specs.Extension.{is_slash}
use Rattle.link_words.proofs.ExtensionLemmas.{after_slash, no_slash, stem_at, stem_whole}
use Rattle.link_words.proofs.extension.stem_len.Goals.{in-Some, in-None}
use Rattle.link_words.proofs.extension.stem_len.Goals as goal

pub returns-in-Some-memrchr-clause-is : goal.returns-in-Some-memrchr-clause-is
returns-in-Some-memrchr-clause-is c =
    let after : (c.match-memrchr2.start ≤ length c.args.name.now) × (after_last is_slash c.args.name.now ≡ drop c.match-memrchr2.start c.args.name.now) = elim c.match-memrchr2.branch [
      | in-Some w ↦ after_slash c.args.name.now _ w.in-Some.slash w.in-Some.ensures w.start-is
      | in-None w ↦ no_slash c.args.name.now _ w.in-None.ensures w.start-is
    ] in
    stem_at c.args.name.now _ c.match-memrchr2.start c.in-Some-memrchr.dot after.0 after.1 c.split_at.ensures.back c.in-Some-memrchr.ensures

pub returns-in-None-memrchr-clause-is : goal.returns-in-None-memrchr-clause-is
returns-in-None-memrchr-clause-is c =
    let after : (c.match-memrchr2.start ≤ length c.args.name.now) × (after_last is_slash c.args.name.now ≡ drop c.match-memrchr2.start c.args.name.now) = elim c.match-memrchr2.branch [
      | in-Some w ↦ after_slash c.args.name.now _ w.in-Some.slash w.in-Some.ensures w.start-is
      | in-None w ↦ no_slash c.args.name.now _ w.in-None.ensures w.start-is
    ] in
    stem_whole c.args.name.now _ c.match-memrchr2.start after.1 c.split_at.ensures.back c.in-None-memrchr.ensures
