-- What is read of a member where it stands.
use Rattle.std.proofs.Common.{◌≡◌, ◌≢◌, ℕ, zero, suc, ◌+◌, ◌-◌, ◌%◌, ◌^◌, ◌<◌, ◌≤◌, Bool, false, ◌||◌, not, ltb, List, [], ◌++◌, length, take, drop, slice_index, Option, Some, unwrap_or, refl, sym, ap, ◌∙◌, append_assoc, le-ltb, length-append, lit<, arith}
use Rattle.std.specs.Prelude.{nat_eq, codes, decimal, replicate, is_none}
use lib.Pointwise.{pointwise}
use Rattle.std.proofs.lemmas.Fmt.{length-decimal-le}
use Rattle.std.proofs.lemmas.List.{take_at, drop_at, drop-drop, length-drop, length-replicate, get_or_append_left, get_or-append_right, get_or-replicate}
use Rattle.link_base.specs.Bytes.{bytes_at}
use Rattle.link_base.specs.Decimal.{decimal_number}
use Rattle.lib_reader.specs.Constants.{ARCHIVE_END}
use Rattle.lib_reader.specs.ArchiveMember.{trimmed_length, trimmed, name_text, size_number, size_of, header_is_bad, size_is_bad, data_of, even_from, next_header}
use Rattle.lib_reader.proofs.HeaderLemmas.{trimmed_length-blank, trimmed_length-kept}
use Rattle.implib.specs.ArchiveMember.{padded, member_header, line_end, member, member_size}
use Rattle.implib.proofs.SizeLemmas.{length-padded, length-member}
use Rattle.implib.proofs.DecimalLemmas.{decimal_writes, decimal_reads}

-- ---- the blanks behind a text

blank_at : (text : List ℕ) (n k : ℕ) → length text ≤ k → k < length text + n → slice_index (text ++ replicate n 32) k ≡ 32
blank_at text n k low high = get_or-append_right text (replicate n 32) (length text) k 0 refl low ∙ get_or-replicate n (k - length text) 32 0 (omega (arith, low, high))

blanks_left_out : (text : List ℕ) (n k : ℕ) → k ≤ n → trimmed_length (text ++ replicate n 32) (length text + k) ≡ trimmed_length (text ++ replicate n 32) (length text)
blanks_left_out text n zero le = ap (trimmed_length (text ++ replicate n 32)) (omega arith)
blanks_left_out text n (suc k) le =
    let before : length text + suc k - 1 ≡ length text + k = omega arith in
    trimmed_length-blank (text ++ replicate n 32) (length text + suc k) (omega arith) (ap (slice_index (text ++ replicate n 32)) before ∙ blank_at text n (length text + k) (omega arith) (omega (arith, le)))
    ∙ ap (trimmed_length (text ++ replicate n 32)) before
    ∙ blanks_left_out text n k (omega (arith, le))

-- a text that stands in a field: it has some bytes, and the last is no blank
pub record IsFieldText (text : List ℕ) : Type 0 where
  pub some : 0 < length text
  pub last : slice_index text (length text - 1) ≢ 32

pub padding_trimmed : (width : ℕ) (text : List ℕ) → IsFieldText text → trimmed (padded width text) ≡ text
unfolding trimmed
padding_trimmed width text is =
    let n = width - length text in
    let whole = padded width text in
    let long : length whole ≡ length text + n = omega (arith, length-append text (replicate n 32), length-replicate {A = ℕ} n 32) in
    let kept : trimmed_length whole (length text) ≡ length text =
    trimmed_length-kept whole (length text) is.some (λ e. is.last (sym (get_or_append_left text (replicate n 32) 0 (length text - 1) (omega (arith, is.some))) ∙ e)) in
    ap (λ (k : ℕ). take (trimmed_length whole k) whole) long
    ∙ ap (λ (k : ℕ). take k whole) (blanks_left_out text n n (omega arith) ∙ kept)
    ∙ take_at text (replicate n 32) (length text) refl

-- ---- the fields of a header

-- what stands behind the name, the date, the users and the mode
abbrev behind_name : ℕ → ℕ → List ℕ → List ℕ
behind_name time size rest =
    padded 12 (decimal time) ++ (padded 6 [] ++ (padded 6 [] ++ (padded 8 (codes "0") ++ (padded 10 (decimal size) ++ (ARCHIVE_END ++ rest)))))

abbrev behind_mode : ℕ → List ℕ → List ℕ
behind_mode size rest = padded 10 (decimal size) ++ (ARCHIVE_END ++ rest)

-- a header stands at a place, and this behind it
pub record StandsAt (bytes : List ℕ) (at : ℕ) (name : List ℕ) (time : ℕ) (content rest : List ℕ) : Type 0 where
  pub here : drop at bytes ≡ member name time content ++ rest
  pub short : length name ≤ 16
  pub text : IsFieldText name
  pub early : time < 2 ^ 32
  pub small : length content < 10 ^ 10

fields_here : (bytes : List ℕ) (at : ℕ) (name : List ℕ) (time : ℕ) (content rest : List ℕ) → StandsAt bytes at name time content rest → drop at bytes ≡ padded 16 name ++ behind_name time (length content) (content ++ (line_end (length content) ++ rest))
unfolding member member_header
fields_here bytes at name time content rest is = is.here ∙ simp append_assoc

name_long : (name : List ℕ) → length name ≤ 16 → length (padded 16 name) ≡ 16
name_long name short = length-padded 16 name short

mode_here : (bytes : List ℕ) (at : ℕ) (name : List ℕ) (time : ℕ) (content rest : List ℕ) → StandsAt bytes at name time content rest → drop (at + 48) bytes ≡ behind_mode (length content) (content ++ (line_end (length content) ++ rest))
mode_here bytes at name time content rest is =
    let behind = content ++ (line_end (length content) ++ rest) in
    let date : length (decimal time) ≤ 12 = length-decimal-le 12 time (lit< tt) (let e = is.early in omega (arith, e)) (let e = is.early in omega (arith, e)) in
    sym (drop-drop 48 at bytes)
    ∙ ap (drop 48) (fields_here bytes at name time content rest is)
    ∙ sym (drop-drop 32 16 (padded 16 name ++ behind_name time (length content) behind))
    ∙ ap (drop 32) (drop_at (padded 16 name) (behind_name time (length content) behind) 16 (name_long name is.short))
    ∙ sym (drop-drop 20 12 (behind_name time (length content) behind))
    ∙ ap (drop 20) (drop_at (padded 12 (decimal time)) (padded 6 [] ++ (padded 6 [] ++ (padded 8 (codes "0") ++ behind_mode (length content) behind))) 12 (length-padded 12 (decimal time) date))

pub content_here : (bytes : List ℕ) (at : ℕ) (name : List ℕ) (time : ℕ) (content rest : List ℕ) → StandsAt bytes at name time content rest → drop (at + 60) bytes ≡ content ++ (line_end (length content) ++ rest)
content_here bytes at name time content rest is =
    let behind = content ++ (line_end (length content) ++ rest) in
    let digits : length (decimal (length content)) ≤ 10 = length-decimal-le 10 (length content) (lit< tt) is.small (let e = is.small in omega (arith, e)) in
    let place : at + 60 ≡ at + 48 + 12 = omega arith in
    ap (λ (k : ℕ). drop k bytes) place
    ∙ sym (drop-drop 12 (at + 48) bytes)
    ∙ ap (drop 12) (mode_here bytes at name time content rest is)
    ∙ sym (drop-drop 2 10 (behind_mode (length content) behind))
    ∙ ap (drop 2) (drop_at (padded 10 (decimal (length content))) (ARCHIVE_END ++ behind) 10 (length-padded 10 (decimal (length content)) digits))

end_here : (bytes : List ℕ) (at : ℕ) (name : List ℕ) (time : ℕ) (content rest : List ℕ) → StandsAt bytes at name time content rest → bytes_at bytes (at + 58) 2 ≡ ARCHIVE_END
end_here bytes at name time content rest is =
    let behind = content ++ (line_end (length content) ++ rest) in
    let digits : length (decimal (length content)) ≤ 10 = length-decimal-le 10 (length content) (lit< tt) is.small (let e = is.small in omega (arith, e)) in
    let place : at + 58 ≡ at + 48 + 10 = omega arith in
    ap (λ (k : ℕ). bytes_at bytes k 2) place
    ∙ ap (take 2) (sym (drop-drop 10 (at + 48) bytes) ∙ ap (drop 10) (mode_here bytes at name time content rest is) ∙ drop_at (padded 10 (decimal (length content))) (ARCHIVE_END ++ behind) 10 (length-padded 10 (decimal (length content)) digits))

-- ---- what is read of the member

pub record IsMember (bytes : List ℕ) (at : ℕ) (name content : List ℕ) : Type 0 where
  pub inside : at < length bytes
  pub header : header_is_bad bytes at ≡ false
  pub size : size_is_bad bytes at ≡ false
  pub name_is : name_text bytes at ≡ name
  pub content_is : data_of bytes at ≡ content
  pub next : at % 2 ≡ 0 → next_header bytes at ≡ at + member_size (length content)

whole_member : (bytes : List ℕ) (at : ℕ) (name : List ℕ) (time : ℕ) (content rest : List ℕ) → StandsAt bytes at name time content rest → at + 60 + length content ≤ length bytes
whole_member bytes at name time content rest is =
    omega (arith, ap length is.here, length-append (member name time content) rest, length-member name time content is.short is.early is.small, length-drop at bytes)

size_here : (bytes : List ℕ) (at : ℕ) (name : List ℕ) (time : ℕ) (content rest : List ℕ) → StandsAt bytes at name time content rest → size_number bytes at ≡ Some (length content)
unfolding size_number
size_here bytes at name time content rest is =
    let behind = content ++ (line_end (length content) ++ rest) in
    let digits : length (decimal (length content)) ≤ 10 = length-decimal-le 10 (length content) (lit< tt) is.small (let e = is.small in omega (arith, e)) in
    let number = decimal_writes (length content) (let e = is.small in omega (arith, e)) in
    let field : bytes_at bytes (at + 48) 10 ≡ padded 10 (decimal (length content)) =
    ap (take 10) (mode_here bytes at name time content rest is) ∙ take_at (padded 10 (decimal (length content))) (ARCHIVE_END ++ behind) 10 (length-padded 10 (decimal (length content)) digits) in
    ap (λ (text : List ℕ). decimal_number (trimmed text)) field
    ∙ ap decimal_number (padding_trimmed 10 (decimal (length content)) (record { some = number.some; last = number.last }))
    ∙ decimal_reads (length content) (let e = is.small in omega (arith, e))

pub member_here : (bytes : List ℕ) (at : ℕ) (name : List ℕ) (time : ℕ) (content rest : List ℕ) → StandsAt bytes at name time content rest → IsMember bytes at name content
unfolding header_is_bad size_is_bad name_text next_header
member_here bytes at name time content rest is =
    let behind = content ++ (line_end (length content) ++ rest) in
    let size = size_here bytes at name time content rest is in
    let whole = whole_member bytes at name time content rest is in
    let count : size_of bytes at ≡ length content = ap (λ (n : Option ℕ). unwrap_or n 0) size in
    let header_in : ltb (length bytes) (at + 60) ≡ false = le-ltb _ _ (omega (arith, whole)) in
    let data_in : ltb (length bytes) (at + 60 + size_of bytes at) ≡ false = le-ltb _ _ (omega (arith, whole, count)) in
    record {
      inside = omega (arith, whole);
      header = rw (header_in) (ap (λ (text : List ℕ). not (pointwise nat_eq text ARCHIVE_END)) (end_here bytes at name time content rest is));
      size = ap (λ (b : Bool). is_none (size_number bytes at) || b) data_in ∙ ap (λ (n : Option ℕ). is_none n || false) size;
      name_is = ap (λ (xs : List ℕ). trimmed (take 16 xs)) (fields_here bytes at name time content rest is)
          ∙ ap trimmed (take_at (padded 16 name) (behind_name time (length content) behind) 16 (name_long name is.short))
          ∙ padding_trimmed 16 name is.text;
      content_is = ap (bytes_at bytes (at + 60)) count
          ∙ ap (take (length content)) (content_here bytes at name time content rest is)
          ∙ take_at content (line_end (length content) ++ rest) (length content) refl;
      next = λ even. ap (λ (n : ℕ). even_from (at + 60 + n)) count ∙ omega (arith, even);
    }
