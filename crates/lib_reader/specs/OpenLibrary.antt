-- What an opened library holds beside its bytes. Own.
use Rattle.std.specs.Prelude.{◌≡◌, ℕ, List, None}
use Rattle.lib_reader.specs.Listing.{Entry}
use Rattle.lib_reader.specs.LibraryWalk.{library_fault, listing_of, long_names_of}

pub record IsOpen (bytes : List ℕ) (listings : List Entry) (long_names : List ℕ) : Type 0 where
  pub well_formed : library_fault bytes ≡ None
  pub listings_are : listings ≡ listing_of bytes
  pub long_names_are : long_names ≡ long_names_of bytes
