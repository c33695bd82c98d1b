-- What callers may cite: an image with no byte besides those that it loads is settled by its memory.
pub use Rattle.pe_loader.proofs.OneImage.{one_image}
