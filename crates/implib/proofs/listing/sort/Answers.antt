use Rattle.implib.proofs.OrderLemmas.{listings_one_order}
use Rattle.implib.proofs.listing.sort.Goals as goal

pub returns : goal.returns
returns c = listings_one_order c.args.listings.now.items c.sort_unstable.new.self.items c.sort_unstable.ensures.permutation c.sort_unstable.ensures.sorted
