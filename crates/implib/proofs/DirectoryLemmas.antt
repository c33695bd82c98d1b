-- What is read of the linker members.
use Rattle.std.proofs.Common.{◌≡◌, ℕ, suc, ◌+◌, ◌-◌, ◌*◌, ◌^◌, ◌<◌, ◌≤◌, Bool, true, false, ◌||◌, not, ltb, leb, List, [], ◌∷◌, ◌++◌, length, map, take, drop, get_or, slice_index, refl, sym, ap, ◌∙◌, append_assoc, le-ltb, lt-ltb, le-leb, length-append, arith}
use Rattle.std.proofs.lemmas.Bool.{and_from}
use Rattle.std.specs.Prelude.{is_some}
use Rattle.std.specs.List.{All, list_any, flat_map}
use Rattle.std.proofs.lemmas.List.{drop_at, drop_more, drop-drop, take-append-drop, length-take-le}
use Rattle.std.proofs.lemmas.List.Concat.{flat_map-append}
use Rattle.std.proofs.lemmas.List.Elements.{All-tail}
use Rattle.byteorder.specs.Endian.{big_bytes}
use Rattle.byteorder.specs.Numbers.{big_number-reads_back, length-bytes_high_first}
use Rattle.link_base.specs.Bytes.{is_nul, text_at, number_bytes, u16_at, u32_at}
use Rattle.link_base.proofs.CallerLemmas.{length-number_bytes, all_below-from_each}
use Rattle.lib_reader.specs.Texts.{first_text, behind_text, texts_end}
use Rattle.lib_reader.specs.FirstDirectory.{big_u32_at, first_count, first_table_leaves}
use Rattle.lib_reader.specs.SecondDirectory.{member_count, name_count_place, second_count, member_index, second_offset, second_names_place, second_counts_leave, has_member, second_table_leaves}
use Rattle.lib_reader.specs.Listing.{Entry, listed_count, listed_offset, names_place, table_leaves, directory_is_bad, listings_from as entries_from, listings_in}
use Rattle.implib.specs.declared.listing.Listing.{Listing}
use Rattle.implib.specs.Listings.{listed_names, first_directory, second_directory}
use Rattle.implib.proofs.TextLemmas.{text_here, first_here, behind_here, number_here}
use Rattle.implib.proofs.SearchLemmas.{entry}

-- ---- a table of items of one width

table_long : {X : Type 0} (f : X → List ℕ) (width : ℕ) → ((x : X) → length (f x) ≡ width) → (xs : List X) → length (flat_map f xs) ≡ width * length xs
table_long f width each [] = omega arith
table_long f width each (x ∷ xs) = omega (arith, length-append (f x) (flat_map f xs), each x, table_long f width each xs)

table_there : {X : Type 0} (f : X → List ℕ) (width : ℕ) → ((x : X) → length (f x) ≡ width) → (xs : List X) (k : ℕ) (d : X) (rest : List ℕ) → k < length xs → drop (width * k) (flat_map f xs ++ rest) ≡ f (get_or xs k d) ++ (flat_map f (drop (k + 1) xs) ++ rest)
table_there {X} f width each xs k d rest lt =
    let before = take k xs in
    let long : length (flat_map f before) ≡ width * k = table_long f width each before ∙ ap (λ (n : ℕ). width * n) (length-take-le k xs (omega (arith, lt))) in
    ap (λ (ys : List X). drop (width * k) (flat_map f ys ++ rest)) (sym (take-append-drop k xs))
    ∙ ap (λ (ys : List ℕ). drop (width * k) (ys ++ rest)) (flat_map-append f before (drop k xs))
    ∙ ap (drop (width * k)) (append_assoc (flat_map f before) (flat_map f (drop k xs)) rest)
    ∙ drop_at (flat_map f before) (flat_map f (drop k xs) ++ rest) (width * k) long
    ∙ ap (λ (ys : List X). flat_map f ys ++ rest) (drop_more xs k d lt)
    ∙ append_assoc (f (get_or xs k d)) (flat_map f (drop (k + 1) xs)) rest

-- ---- the names

-- what is written of a listing is read back
pub record IsListed (headers : List ℕ) (listing : Listing) : Type 0 where
  pub first : 0 < listing.member
  pub last : listing.member ≤ length headers
  pub small : listing.member < 2 ^ 16
  pub header : slice_index headers (listing.member - 1) ≡ listing.header
  pub fits : listing.header < 2 ^ 32
  pub plain : list_any is_nul listing.name ≡ false

names_apart : (listing : Listing) (listings : List Listing) → listed_names (listing ∷ listings) ≡ listing.name ++ 0 ∷ listed_names listings
names_apart listing listings = append_assoc listing.name (0 ∷ []) (listed_names listings)

names_end : (listings : List Listing) → All (λ listing. list_any is_nul listing.name ≡ false) listings → texts_end (length listings) (listed_names listings) ≡ true
unfolding texts_end
names_end [] plain = refl
names_end (listing ∷ listings) plain =
    let here = plain 0 listing (omega arith) in
    let parts = names_apart listing listings in
    let there : is_some (text_at (listed_names (listing ∷ listings)) 0) ≡ true = ap (λ (text : List ℕ). is_some (text_at text 0)) parts ∙ ap is_some (text_here listing.name (listed_names listings) here) in
    let behind : behind_text (listed_names (listing ∷ listings)) ≡ listed_names listings = ap behind_text parts ∙ behind_here listing.name (listed_names listings) here in
    rw (there) (ap (texts_end (length listings)) behind ∙ names_end listings (All-tail (λ (l : Listing). list_any is_nul l.name ≡ false) listing listings plain))

entries_read : (offset : ℕ → ℕ) (index : ℕ) (listings : List Listing) → All (λ listing. list_any is_nul listing.name ≡ false) listings → ((k : ℕ) (d : Listing) → k < length listings → offset (index + k) ≡ (get_or listings k d).header) → entries_from offset index (length listings) (listed_names listings) ≡ map entry listings
unfolding entries_from
entries_read offset index [] plain each = refl
entries_read offset index (listing ∷ listings) plain each =
    let here = plain 0 listing (omega arith) in
    let parts = names_apart listing listings in
    let name : first_text (listed_names (listing ∷ listings)) ≡ listing.name = ap first_text parts ∙ first_here listing.name (listed_names listings) here in
    let behind : behind_text (listed_names (listing ∷ listings)) ≡ listed_names listings = ap behind_text parts ∙ behind_here listing.name (listed_names listings) here in
    let same : index ≡ index + 0 = omega arith in
    let at : offset index ≡ listing.header = ap offset same ∙ each 0 listing (omega arith) in
    let later = entries_read offset (suc index) listings (All-tail (λ (l : Listing). list_any is_nul l.name ≡ false) listing listings plain) (λ k d lt. ap offset (omega arith) ∙ each (suc k) d (omega (arith, lt))) in
    ap (λ (text : List ℕ). (text, offset index) ∷ entries_from offset (suc index) (length listings) (behind_text (listed_names (listing ∷ listings)))) name
    ∙ ap (λ (n : ℕ). (listing.name, n) ∷ entries_from offset (suc index) (length listings) (behind_text (listed_names (listing ∷ listings)))) at
    ∙ ap (λ (text : List ℕ). entry listing ∷ entries_from offset (suc index) (length listings) text) behind
    ∙ ap (λ (entries : List Entry). entry listing ∷ entries) later

-- ---- the first linker member

first_counted : (listings : List Listing) → length listings < 2 ^ 32 → first_count (first_directory listings) ≡ length listings
unfolding first_directory big_u32_at
first_counted listings few =
    big_number-reads_back 4 (length listings) (flat_map (λ (listing : Listing). big_bytes 4 listing.header) listings ++ listed_names listings) few

pub first_well : (listings : List Listing) → length listings < 2 ^ 32 → All (λ listing. list_any is_nul listing.name ≡ false) listings → directory_is_bad false (first_directory listings) ≡ false
unfolding directory_is_bad table_leaves listed_count names_place first_table_leaves first_directory
first_well listings few plain =
    let headers = flat_map (λ (listing : Listing). big_bytes 4 listing.header) listings in
    let count = first_counted listings few in
    let directory = first_directory listings in
    let table = table_long (λ (listing : Listing). big_bytes 4 listing.header) 4 (λ listing. length-bytes_high_first 4 listing.header) listings in
    let head = length-bytes_high_first 4 (length listings) in
    let long : length directory ≡ 4 + (4 * length listings + length (listed_names listings)) =
    omega (arith, length-append (big_bytes 4 (length listings)) (headers ++ listed_names listings), length-append headers (listed_names listings), table, head) in
    let no_count : ltb (length directory) 4 ≡ false = le-ltb _ _ (omega (arith, long)) in
    let no_offsets : ltb (length directory) (4 + 4 * length listings) ≡ false = le-ltb _ _ (omega (arith, long)) in
    let names : drop (4 + 4 * length listings) directory ≡ listed_names listings =
    sym (drop-drop (4 * length listings) 4 directory) ∙ ap (drop (4 * length listings)) (drop_at (big_bytes 4 (length listings)) (headers ++ listed_names listings) 4 head) ∙ drop_at headers (listed_names listings) (4 * length listings) table in
    rw (no_count, count, no_offsets) (ap (λ (text : List ℕ). not (texts_end (length listings) text)) names ∙ ap not (names_end listings plain))

-- ---- the second linker member

abbrev offsets : List ℕ → List ℕ
offsets headers = flat_map (number_bytes 4) headers

abbrev indices : List Listing → List ℕ
indices listings = flat_map (λ (listing : Listing). number_bytes 2 listing.member) listings

behind_members : (headers : List ℕ) (listings : List Listing) → drop 4 (second_directory headers listings) ≡ offsets headers ++ (number_bytes 4 (length listings) ++ (indices listings ++ listed_names listings))
unfolding second_directory
behind_members headers listings = drop_at (number_bytes 4 (length headers)) (offsets headers ++ (number_bytes 4 (length listings) ++ (indices listings ++ listed_names listings))) 4 (length-number_bytes 4 (length headers))

offsets_long : (headers : List ℕ) → length (offsets headers) ≡ 4 * length headers
offsets_long headers = table_long (number_bytes 4) 4 (λ n. length-number_bytes 4 n) headers

indices_long : (listings : List Listing) → length (indices listings) ≡ 2 * length listings
indices_long listings = table_long (λ (listing : Listing). number_bytes 2 listing.member) 2 (λ listing. length-number_bytes 2 listing.member) listings

behind_offsets : (headers : List ℕ) (listings : List Listing) → drop (4 + 4 * length headers) (second_directory headers listings) ≡ number_bytes 4 (length listings) ++ (indices listings ++ listed_names listings)
behind_offsets headers listings =
    sym (drop-drop (4 * length headers) 4 (second_directory headers listings))
    ∙ ap (drop (4 * length headers)) (behind_members headers listings)
    ∙ drop_at (offsets headers) (number_bytes 4 (length listings) ++ (indices listings ++ listed_names listings)) (4 * length headers) (offsets_long headers)

behind_count : (headers : List ℕ) (listings : List Listing) → drop (4 + 4 * length headers + 4) (second_directory headers listings) ≡ indices listings ++ listed_names listings
behind_count headers listings =
    sym (drop-drop 4 (4 + 4 * length headers) (second_directory headers listings))
    ∙ ap (drop 4) (behind_offsets headers listings)
    ∙ drop_at (number_bytes 4 (length listings)) (indices listings ++ listed_names listings) 4 (length-number_bytes 4 (length listings))

behind_indices : (headers : List ℕ) (listings : List Listing) → drop (4 + 4 * length headers + 4 + 2 * length listings) (second_directory headers listings) ≡ listed_names listings
behind_indices headers listings =
    sym (drop-drop (2 * length listings) (4 + 4 * length headers + 4) (second_directory headers listings))
    ∙ ap (drop (2 * length listings)) (behind_count headers listings)
    ∙ drop_at (indices listings) (listed_names listings) (2 * length listings) (indices_long listings)

second_long : (headers : List ℕ) (listings : List Listing) → length (second_directory headers listings) ≡ 8 + 4 * length headers + 2 * length listings + length (listed_names listings)
unfolding second_directory
second_long headers listings =
    omega (arith, length-append (number_bytes 4 (length headers)) (offsets headers ++ (number_bytes 4 (length listings) ++ (indices listings ++ listed_names listings))), length-append (offsets headers) (number_bytes 4 (length listings) ++ (indices listings ++ listed_names listings)), length-append (number_bytes 4 (length listings)) (indices listings ++ listed_names listings), length-append (indices listings) (listed_names listings), length-number_bytes 4 (length headers), length-number_bytes 4 (length listings), offsets_long headers, indices_long listings)

members_counted : (headers : List ℕ) (listings : List Listing) → length headers < 2 ^ 32 → member_count (second_directory headers listings) ≡ length headers
unfolding second_directory
members_counted headers listings few =
    number_here 4 0 (length headers) (second_directory headers listings) (offsets headers ++ (number_bytes 4 (length listings) ++ (indices listings ++ listed_names listings))) refl few

second_counted : (headers : List ℕ) (listings : List Listing) → length headers < 2 ^ 32 → length listings < 2 ^ 32 → second_count (second_directory headers listings) ≡ length listings
second_counted headers listings few short =
    ap (λ (n : ℕ). u32_at (second_directory headers listings) (4 + 4 * n)) (members_counted headers listings few)
    ∙ number_here 4 (4 + 4 * length headers) (length listings) (second_directory headers listings) (indices listings ++ listed_names listings) (behind_offsets headers listings) short

index_read : (headers : List ℕ) (listings : List Listing) (k : ℕ) (d : Listing) → length headers < 2 ^ 32 → All (IsListed headers) listings → k < length listings → member_index (second_directory headers listings) k ≡ (get_or listings k d).member
index_read headers listings k d few are lt =
    let place = 4 + 4 * length headers + 4 in
    let there = table_there (λ (listing : Listing). number_bytes 2 listing.member) 2 (λ listing. length-number_bytes 2 listing.member) listings k d (listed_names listings) lt in
    ap (λ (n : ℕ). u16_at (second_directory headers listings) (4 + 4 * n + 4 + 2 * k)) (members_counted headers listings few)
    ∙ number_here 2 (place + 2 * k) (get_or listings k d).member (second_directory headers listings) (indices (drop (k + 1) listings) ++ listed_names listings)
    (sym (drop-drop (2 * k) place (second_directory headers listings)) ∙ ap (drop (2 * k)) (behind_count headers listings) ∙ there) (are k d lt).small

offset_read : (headers : List ℕ) (listings : List Listing) (j : ℕ) → slice_index headers j < 2 ^ 32 → j < length headers → u32_at (second_directory headers listings) (4 + 4 * j) ≡ slice_index headers j
offset_read headers listings j fits lt =
    let rest = number_bytes 4 (length listings) ++ (indices listings ++ listed_names listings) in
    let there = table_there (number_bytes 4) 4 (λ n. length-number_bytes 4 n) headers j 0 rest lt in
    number_here 4 (4 + 4 * j) (slice_index headers j) (second_directory headers listings) (offsets (drop (j + 1) headers) ++ rest)
    (sym (drop-drop (4 * j) 4 (second_directory headers listings)) ∙ ap (drop (4 * j)) (behind_members headers listings) ∙ there) fits

listed_read : (headers : List ℕ) (listings : List Listing) (k : ℕ) (d : Listing) → length headers < 2 ^ 32 → All (IsListed headers) listings → k < length listings → second_offset (second_directory headers listings) k ≡ (get_or listings k d).header
listed_read headers listings k d few are lt =
    let is = are k d lt in
    let small : slice_index headers ((get_or listings k d).member - 1) < 2 ^ 32 = omega (arith, is.header, is.fits) in
    ap (λ (n : ℕ). u32_at (second_directory headers listings) (4 + 4 * (n - 1))) (index_read headers listings k d few are lt)
    ∙ offset_read headers listings ((get_or listings k d).member - 1) small (omega (arith, is.first, is.last))
    ∙ is.header

none_of_three : (a b c : Bool) → a ≡ false → b ≡ false → c ≡ false → (a || (b || c)) ≡ false
none_of_three a b c first second third = rw (first, second, third) refl

counts_stay : (headers : List ℕ) (listings : List Listing) → length headers < 2 ^ 32 → length listings < 2 ^ 32 → second_counts_leave (second_directory headers listings) ≡ false
unfolding second_counts_leave
counts_stay headers listings few short =
    let directory = second_directory headers listings in
    let long = second_long headers listings in
    let members = members_counted headers listings few in
    let count = second_counted headers listings few short in
    none_of_three (ltb (length directory) 4) (ltb (length directory) (name_count_place directory + 4)) (ltb (length directory) (second_names_place directory))
    (le-ltb _ _ (omega (arith, long))) (le-ltb _ _ (omega (arith, long, members))) (le-ltb _ _ (omega (arith, long, members, count)))

member_there : (headers : List ℕ) (listings : List Listing) (k : ℕ) → length headers < 2 ^ 32 → All (IsListed headers) listings → k < length listings → has_member (second_directory headers listings) k ≡ true
unfolding has_member
member_there headers listings k few are lt =
    let directory = second_directory headers listings in
    let any : Listing = record { name = []; member = 0; header = 0 } in
    let is = are k any lt in
    let index = index_read headers listings k any few are lt in
    let members = members_counted headers listings few in
    and_from (ltb 0 (member_index directory k)) (leb (member_index directory k) (member_count directory))
    (lt-ltb _ _ (omega (arith, index, is.first))) (le-leb _ _ (omega (arith, index, members, is.last)))

table_stays : (headers : List ℕ) (listings : List Listing) → length headers < 2 ^ 32 → length listings < 2 ^ 32 → All (IsListed headers) listings → second_table_leaves (second_directory headers listings) ≡ false
unfolding second_table_leaves
table_stays headers listings few short are =
    let directory = second_directory headers listings in
    let count = second_counted headers listings few short in
    let all = all_below-from_each (second_count directory) (has_member directory) (λ k lt. member_there headers listings k few are (omega (arith, lt, count))) in
    rw (counts_stay headers listings few short) (ap not all)

names_of_second : (headers : List ℕ) (listings : List Listing) → length headers < 2 ^ 32 → length listings < 2 ^ 32 → drop (second_names_place (second_directory headers listings)) (second_directory headers listings) ≡ listed_names listings
names_of_second headers listings few short =
    let directory = second_directory headers listings in
    let members = members_counted headers listings few in
    let count = second_counted headers listings few short in
    let place : second_names_place directory ≡ 4 + 4 * length headers + 4 + 2 * length listings = omega (arith, members, count) in
    ap (λ (n : ℕ). drop n directory) place ∙ behind_indices headers listings

all_plain : (headers : List ℕ) (listings : List Listing) → All (IsListed headers) listings → All (λ listing. list_any is_nul listing.name ≡ false) listings
all_plain headers listings are = λ k d lt. (are k d lt).plain

pub second_well : (headers : List ℕ) (listings : List Listing) → length headers < 2 ^ 32 → length listings < 2 ^ 32 → All (IsListed headers) listings → directory_is_bad true (second_directory headers listings) ≡ false
unfolding directory_is_bad table_leaves listed_count names_place
second_well headers listings few short are =
    let directory = second_directory headers listings in
    rw (table_stays headers listings few short are)
    (ap (λ (n : ℕ). not (texts_end n (drop (second_names_place directory) directory))) (second_counted headers listings few short)
    ∙ ap (λ (text : List ℕ). not (texts_end (length listings) text)) (names_of_second headers listings few short)
    ∙ ap not (names_end listings (all_plain headers listings are)))

pub second_listed : (headers : List ℕ) (listings : List Listing) → length headers < 2 ^ 32 → length listings < 2 ^ 32 → All (IsListed headers) listings → listings_in true (second_directory headers listings) ≡ map entry listings
unfolding listings_in listed_offset listed_count names_place
second_listed headers listings few short are =
    let directory = second_directory headers listings in
    ap (λ (n : ℕ). entries_from (second_offset directory) 0 n (drop (second_names_place directory) directory)) (second_counted headers listings few short)
    ∙ ap (entries_from (second_offset directory) 0 (length listings)) (names_of_second headers listings few short)
    ∙ entries_read (second_offset directory) 0 listings (all_plain headers listings are) (λ k d lt. ap (second_offset directory) (omega arith) ∙ listed_read headers listings k d few are lt)
