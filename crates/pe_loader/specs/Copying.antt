-- The memory of an image before fields are raised, as far as it is made: the headers, and sections one after the other. Own.
use Rattle.std.specs.Prelude.{◌≡◌, ◌<◌, ℕ, zero, suc, ◌+◌, List, length, slice_index}
use Rattle.pe_loader.specs.LoadedImage.{headers_size, virtual_address, copied_len, copied_byte}

-- where what is copied before a section ends: the bytes of the section before it, or the headers
abbrev pub copied_end : List ℕ → ℕ → ℕ
copied_end image zero = headers_size image
copied_end image (suc index) = virtual_address image index + copied_len image index

-- the memory of the headers and of the sections before one
pub record IsCopiedBefore (image : List ℕ) (index : ℕ) (memory : List ℕ) : Type 0 where
  pub ends : length memory ≡ copied_end image index
  pub bytes : (rva : ℕ) → rva < length memory → slice_index memory rva ≡ copied_byte image rva
