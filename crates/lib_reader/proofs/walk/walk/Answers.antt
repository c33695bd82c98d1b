use Rattle.std.proofs.Common.{ℕ, List, Option, unwrap_or, [], refl, ap, sym, ◌∙◌, arith}
use Rattle.std.proofs.lemmas.Result.{err_from_is_err_and}
use Rattle.link_base.specs.Bytes.{first_below}
use Rattle.lib_reader.specs.MemberName.{names_special}
use Rattle.lib_reader.specs.Listing.{Entry}
use Rattle.lib_reader.specs.LibraryWalk.{header_at, second_listed, first_directory, second_directory, first_long_names}
use Rattle.lib_reader.proofs.WalkLemmas.{other_first, other_second, text_tested}
use Rattle.lib_reader.proofs.EndLemmas.{header_next, goes_behind, ends_past, past_well, ends_badly, ends_there, there_well, no_directory}
use Rattle.lib_reader.proofs.walk.walk.Goals as goal

pub loop-at-init : goal.loop-at-init
unfolding header_at first_below first_directory second_directory first_long_names
loop-at-init c = record {
  place = refl;
  room = omega arith;
  near = omega arith;
  goes_on = refl;
  first = refl;
  second = refl;
  long_names = refl;
}

pub returns-in_err-directories-clause-refused : goal.returns-in_err-directories-clause-refused
returns-in_err-directories-clause-refused c =
    let before = c.loop-at.invariant in
    let fault = ends_badly c.args.bytes.now c.loop-at.at c.loop-at.position _ c.requires.magic before.place c.loop-at-test.true (omega arith) before.goes_on c.in_err-directories.ensures.refused in
    let given = err_from_is_err_and c.from_residual.result c.from_residual.ensures.1 in
    rw (given.1, given.2) fault

pub returns-then-not-names_special-clause-passes : goal.returns-then-not-names_special-clause-passes
returns-then-not-names_special-clause-passes c =
    let bytes = c.args.bytes.now in
    let before = c.loop-at.invariant in
    let other = text_tested bytes c.loop-at.at c.loop-at.position c.name_text.result.now names_special c.names_special.result before.place c.name_text.ensures.text c.names_special.ensures ∙ c.if-not-names_special.true in
    (ends_there bytes c.loop-at.position c.requires.magic (omega arith) before.goes_on other).fault
    ∙ there_well bytes c.loop-at.at c.loop-at.position before.place c.loop-at-test.true c.in_ok-directories.ensures.passes

pub returns-then-not-names_special-clause-listings : goal.returns-then-not-names_special-clause-listings
returns-then-not-names_special-clause-listings c =
    let bytes = c.args.bytes.now in
    let before = c.loop-at.invariant in
    let other = text_tested bytes c.loop-at.at c.loop-at.position c.name_text.result.now names_special c.names_special.result before.place c.name_text.ensures.text c.names_special.ensures ∙ c.if-not-names_special.true in
    let none = no_directory bytes c.loop-at.position other in
    let first = c.in_ok-directories.ensures.first ∙ other_first bytes c.loop-at.position none in
    let second = c.in_ok-directories.ensures.second ∙ other_second bytes c.loop-at.position none in
    c.start_of.ensures.listings
    ∙ (ap (λ (listed : Option (List Entry)). unwrap_or listed (unwrap_or c.in_ok-directories.directories.first [])) second
    ∙ (ap (λ (listed : Option (List Entry)). unwrap_or (second_listed bytes c.loop-at.position) (unwrap_or listed [])) first
    ∙ sym (ends_there bytes c.loop-at.position c.requires.magic (omega arith) before.goes_on other).listings))

pub returns-then-not-names_special-clause-long_names : goal.returns-then-not-names_special-clause-long_names
returns-then-not-names_special-clause-long_names c =
    let bytes = c.args.bytes.now in
    let before = c.loop-at.invariant in
    let other = text_tested bytes c.loop-at.at c.loop-at.position c.name_text.result.now names_special c.names_special.result before.place c.name_text.ensures.text c.names_special.ensures ∙ c.if-not-names_special.true in
    c.start_of.ensures.long_names
    ∙ (ap (λ (names : Option (List ℕ)). unwrap_or names []) before.long_names
    ∙ sym (ends_there bytes c.loop-at.position c.requires.magic (omega arith) before.goes_on other).long_names)

pub loop-at-preserved : goal.loop-at-preserved
loop-at-preserved c =
    let bytes = c.args.bytes.now in
    let before = c.loop-at.invariant in
    let special = text_tested bytes c.loop-at.at c.loop-at.position c.name_text.result.now names_special c.names_special.result before.place c.name_text.ensures.text c.names_special.ensures ∙ c.if-not-names_special.false in
    record {
      place = c.next_header-at.ensures.place ∙ header_next bytes c.loop-at.at c.loop-at.position before.place;
      room = omega arith;
      near = c.next_header-at.ensures.near;
      goes_on = goes_behind bytes c.loop-at.at c.loop-at.position before.place c.loop-at-test.true c.in_ok-directories.ensures.passes special before.goes_on;
      first = c.in_ok-directories.ensures.first;
      second = c.in_ok-directories.ensures.second;
      long_names = c.long_names_behind-long_names.ensures;
    }

pub returns-clause-passes : goal.returns-clause-passes
returns-clause-passes c =
    let bytes = c.args.bytes.now in
    let before = c.loop-at.invariant in
    (ends_past bytes c.loop-at.at c.loop-at.position c.requires.magic before.place c.loop-at-test.false (omega arith) before.goes_on).fault
    ∙ past_well bytes c.loop-at.at c.loop-at.position before.place c.loop-at-test.false

pub returns-clause-listings : goal.returns-clause-listings
returns-clause-listings c =
    let bytes = c.args.bytes.now in
    let before = c.loop-at.invariant in
    c.start_of-2.ensures.listings
    ∙ (ap (λ (listed : Option (List Entry)). unwrap_or listed (unwrap_or c.loop-at.directories.first [])) before.second
    ∙ (ap (λ (listed : Option (List Entry)). unwrap_or (second_listed bytes c.loop-at.position) (unwrap_or listed [])) before.first
    ∙ sym (ends_past bytes c.loop-at.at c.loop-at.position c.requires.magic before.place c.loop-at-test.false (omega arith) before.goes_on).listings))

pub returns-clause-long_names : goal.returns-clause-long_names
returns-clause-long_names c =
    let bytes = c.args.bytes.now in
    let before = c.loop-at.invariant in
    c.start_of-2.ensures.long_names
    ∙ (ap (λ (names : Option (List ℕ)). unwrap_or names []) before.long_names
    ∙ sym (ends_past bytes c.loop-at.at c.loop-at.position c.requires.magic before.place c.loop-at-test.false (omega arith) before.goes_on).long_names)
