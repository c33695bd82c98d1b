-- What callers may cite of what is kept: where pieces stand, that what is kept leads to what is kept, that there is no other answer,
-- and what pieces that are marked are besides.
pub use Rattle.link_keeping.proofs.StandingLemmas.{length_standing, place_inside, place_as_long, place_behind, place_from, next_stands, root_stands}
pub use Rattle.link_keeping.proofs.KeepLemmas.{one_standing}
pub use Rattle.link_keeping.proofs.NamedLemmas.{AreNamed, count_named, contents_named, aligned_named, bodies_named}
