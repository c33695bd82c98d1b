use Rattle.std.proofs.Common.{List, length, ap, sym, ◌∙◌, arith}
use Rattle.implib.specs.declared.listing.Listing.{Listing}
use Rattle.implib.specs.Listings.{listings_from, headers_from, by_name, first_directory, second_directory}
use Rattle.implib.proofs.SizeLemmas.{length-listings_from, length-by_name, length-first_directory, length-second_directory}
use Rattle.implib.proofs.LibraryLemmas.{small_library, linkers_written}
use Rattle.implib.proofs.linker_members.push_linker_members.Goals as goal

pub overflow_cast-start : goal.overflow_cast-start
overflow_cast-start c = omega (arith, c.requires.sizes.rows_place, (small_library c.args.rows.now c.args.dll.now c.requires.fits).whole)

pub listings-requires-clause-fits : goal.listings-requires-clause-fits
listings-requires-clause-fits c = omega (arith, c.requires.sizes.rows_place, (small_library c.args.rows.now c.args.dll.now c.requires.fits).whole)

pub push_first-requires-clause-count : goal.push_first-requires-clause-count
push_first-requires-clause-count c =
    let count = ap length (c.deref-2.ensures.value ∙ c.in_ok-listings.ensures) in
    omega (arith, count, length-listings_from c.args.dll.now 1 c.args.sizes.rows_place c.args.rows.now, (small_library c.args.rows.now c.args.dll.now c.requires.fits).count)

pub push_first-requires-clause-size : goal.push_first-requires-clause-size
push_first-requires-clause-size c =
    c.requires.sizes.first
    ∙ sym (length-first_directory c.args.dll.now 1 c.args.sizes.rows_place c.args.rows.now)
    ∙ ap (λ (listings : List Listing). length (first_directory listings)) (sym (c.deref-2.ensures.value ∙ c.in_ok-listings.ensures))

pub push_first-requires-clause-small : goal.push_first-requires-clause-small
push_first-requires-clause-small c = omega (arith, c.requires.sizes.first, (small_library c.args.rows.now c.args.dll.now c.requires.fits).first)

pub push_second-requires-clause-fits : goal.push_second-requires-clause-fits
push_second-requires-clause-fits c = omega (arith, c.requires.sizes.rows_place, (small_library c.args.rows.now c.args.dll.now c.requires.fits).whole)

pub push_second-requires-clause-count : goal.push_second-requires-clause-count
push_second-requires-clause-count c =
    let count = ap length (c.deref-3.ensures.value ∙ c.sort.ensures ∙ ap by_name c.in_ok-listings.ensures) in
    omega (arith, count, length-by_name (listings_from c.args.dll.now 1 c.args.sizes.rows_place c.args.rows.now), length-listings_from c.args.dll.now 1 c.args.sizes.rows_place c.args.rows.now, (small_library c.args.rows.now c.args.dll.now c.requires.fits).count)

pub push_second-requires-clause-size : goal.push_second-requires-clause-size
push_second-requires-clause-size c =
    c.requires.sizes.second
    ∙ sym (length-second_directory c.args.dll.now 1 c.args.sizes.rows_place c.args.sizes.rows_place c.args.rows.now)
    ∙ ap (λ (listings : List Listing). length (second_directory (headers_from c.args.dll.now c.args.sizes.rows_place c.args.rows.now) listings)) (sym (c.deref-3.ensures.value ∙ c.sort.ensures ∙ ap by_name c.in_ok-listings.ensures))

pub push_second-requires-clause-small : goal.push_second-requires-clause-small
push_second-requires-clause-small c = omega (arith, c.requires.sizes.second, (small_library c.args.rows.now c.args.dll.now c.requires.fits).second)

pub returns : goal.returns
returns c =
    linkers_written c.args.rows.now c.args.dll.now c.args.time c.args.sizes.rows_place c.deref-2.result.now c.deref-3.result.now c.args.out.now.items c.push_first.new.out.items c.push_second.new.out.items c.requires.sizes.rows_place
    (c.deref-2.ensures.value ∙ c.in_ok-listings.ensures) (c.deref-3.ensures.value ∙ c.sort.ensures ∙ ap by_name (sym c.deref-2.ensures.value)) c.in_ok-push_first.ensures c.in_ok-push_second.ensures
