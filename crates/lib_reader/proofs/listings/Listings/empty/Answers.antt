use Rattle.std.proofs.Common.{refl, lit<, lit≤}
use Rattle.lib_reader.specs.Texts.{texts_end}
use Rattle.lib_reader.specs.FirstDirectory.{big_u32_at, first_table_leaves}
use Rattle.lib_reader.specs.Listing.{table_leaves, listed_count}
use Rattle.lib_reader.proofs.listings.Listings.empty.Goals as goal

pub invariant_of-result : goal.invariant_of-result
unfolding table_leaves listed_count first_table_leaves big_u32_at texts_end
invariant_of-result c = record { table = refl; there = lit≤ tt; fits = lit< tt; names_end = refl }
