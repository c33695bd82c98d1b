-- What the words of `gen` promise of its number, and which command the words of a link are.
use Rattle.std.proofs.Common.{◌≡◌, ℕ, ◌≤◌, Bool, true, false, cond, ◌&&◌, ◌==◌, ◌||◌, not, leb, List, [], ◌∷◌, length, Option, Some, None, Result, Ok, Err, refl}
use Rattle.std.specs.Prelude.{codes, drop, option_and_then, nat_eq, slice_index}
use Rattle.std.specs.List.{starts_with}
use Rattle.std.specs.Option.{ok_or}
use Rattle.std.specs.Str.{bytes_eq, byte}
use Rattle.std.proofs.lemmas.Bool.{and_parts, leb-true}
use Rattle.directives.specs.Number.{digits_value, are_digits, digits_up_to, decimal_up_to, number_up_to}
use Rattle.link_words.specs.Outcome.{LinkOptions, CommandSaid, Link, At, Show, Gen, Refused, command_said}
use Rattle.link_words.specs.LinkWords.{word_at, link_refusal, unless_refused, link_says}
use Rattle.link_words.specs.Commands.{◌>>=◌, at_least, text_word, number_word, at_says, show_says, gen_says, words_say, wrong_command}
use Rattle.link_words.specs.declared.options.Options.{Options}
use Rattle.link_words.specs.declared.options.Command.{Command}
use Rattle.link_words.specs.declared.options.Command.TheVariants as commands
use Rattle.generated_world.specs.GeneratedWorld.{generated_words}

-- ---- a number within bounds

bound_by : (test : Bool) (value limit n : ℕ) → (test ≡ true → value ≤ limit) → cond test (Some value) None ≡ Some n → n ≤ limit
bound_by true value limit n small e = let same : value ≡ n = cc in rw (← same) (small refl)
bound_by false value limit n small e = absurd cc

digits_bound : (base limit : ℕ) (text : List ℕ) (n : ℕ) → digits_up_to base limit text ≡ Some n → n ≤ limit
unfolding digits_up_to
digits_bound base limit text n e =
    bound_by (are_digits base text && leb (digits_value base text) limit) (digits_value base text) limit n
    (λ passes. leb-true (digits_value base text) limit (and_parts (are_digits base text) (leb (digits_value base text) limit) passes).1) e

where_tested : (test : Bool) (found : Option ℕ) (limit n : ℕ) → (found ≡ Some n → n ≤ limit) → cond test found None ≡ Some n → n ≤ limit
where_tested true found limit n bound e = bound e
where_tested false found limit n bound e = absurd cc

either_way : (test : Bool) (one other : Option ℕ) (limit n : ℕ) → (one ≡ Some n → n ≤ limit) → (other ≡ Some n → n ≤ limit) → cond test one other ≡ Some n → n ≤ limit
either_way true one other limit n bound bound_too e = bound e
either_way false one other limit n bound bound_too e = bound_too e

number_bound : (limit : ℕ) (text : List ℕ) (n : ℕ) → number_up_to limit text ≡ Some n → n ≤ limit
unfolding number_up_to decimal_up_to
number_bound limit text n e =
    either_way (starts_with nat_eq text (codes "0x")) _ _ limit n
    (where_tested (leb (length text) 18) (digits_up_to 16 limit (drop 2 text)) limit n (digits_bound 16 limit (drop 2 text) n))
    (where_tested ((length text == 1) || not (slice_index text 0 == byte "0")) (digits_up_to 10 limit text) limit n (digits_bound 10 limit text n)) e

-- a number that is read, and is not too small
read_within : (read : Option ℕ) (low high n : ℕ) (refused : Refused) → ((m : ℕ) → read ≡ Some m → m ≤ high) → ok_or (option_and_then (at_least low) read) refused ≡ Ok n → (low ≤ n) × (n ≤ high)
read_within None low high n refused bound e = absurd cc
read_within (Some m) low high n refused bound e =
    by (leb low m) (λ passes. leb-true low m passes) e
  where
    by : (test : Bool) → (test ≡ true → low ≤ m) → ok_or (cond test (Some m) None) refused ≡ Ok n → (low ≤ n) × (n ≤ high)
    by true enough is = let same : m ≡ n = cc in (rw (← same) (enough refl), rw (← same) (bound m refl))
    by false enough is = absurd cc

number_within : (words : List (List ℕ)) (index low high n : ℕ) → number_word words index low high ≡ Ok n → (low ≤ n) × (n ≤ high)
unfolding number_word
number_within words index low high n e =
    read_within (number_up_to high (word_at words index)) low high n _ (λ m is. number_bound high (word_at words index) m is) e

-- ---- the commands

link_alone : (refused : Option Refused) (options : LinkOptions) (said : CommandSaid) → unless_refused refused (Link options) ≡ Ok said → said ≡ Link options
link_alone None options said e = cc
link_alone (Some refused) options said e = absurd cc

link_no_gen : (words : List (List ℕ)) (n : ℕ) → link_says words ≡ Ok (Gen n) → ⊥
unfolding link_says
link_no_gen words n e = let is = link_alone (link_refusal words) _ (Gen n) e in absurd cc

at_no_gen : (words : List (List ℕ)) (n : ℕ) → at_says words ≡ Ok (Gen n) → ⊥
unfolding at_says
at_no_gen words n e = by (text_word words 1) (number_word words 2 0 18446744073709551615) (number_word words 3 0 4294967295) (number_word words 4 0 65536) e
  where
    by : (image : Result (List ℕ) Refused) (base rva len : Result ℕ Refused) → (image >>= (λ i. base >>= (λ b. rva >>= (λ r. len >>= (λ l. Ok (At i b r l)))))) ≡ Ok (Gen n) → ⊥
    by (Err r) base rva len is = absurd cc
    by (Ok i) (Err r) rva len is = absurd cc
    by (Ok i) (Ok b) (Err r) len is = absurd cc
    by (Ok i) (Ok b) (Ok a) (Err r) is = absurd cc
    by (Ok i) (Ok b) (Ok a) (Ok l) is = absurd cc

show_no_gen : (words : List (List ℕ)) (n : ℕ) → show_says words ≡ Ok (Gen n) → ⊥
unfolding show_says
show_no_gen words n e = by (text_word words 1) (text_word words 2) (number_word words 3 0 18446744073709551615) (text_word words 4) (number_word words 5 0 65536) e
  where
    by : (image pdb : Result (List ℕ) Refused) (base : Result ℕ Refused) (symbol : Result (List ℕ) Refused) (len : Result ℕ Refused) → (image >>= (λ i. pdb >>= (λ p. base >>= (λ b. symbol >>= (λ s. len >>= (λ l. Ok (Show i p b s l))))))) ≡ Ok (Gen n) → ⊥
    by (Err r) pdb base symbol len is = absurd cc
    by (Ok i) (Err r) base symbol len is = absurd cc
    by (Ok i) (Ok p) (Err r) symbol len is = absurd cc
    by (Ok i) (Ok p) (Ok b) (Err r) len is = absurd cc
    by (Ok i) (Ok p) (Ok b) (Ok s) (Err r) is = absurd cc
    by (Ok i) (Ok p) (Ok b) (Ok s) (Ok l) is = absurd cc

gen_within : (words : List (List ℕ)) (n : ℕ) → gen_says words ≡ Ok (Gen n) → (1 ≤ n) × (n ≤ 2000)
unfolding gen_says
gen_within words n e = by (number_word words 1 1 2000) (λ m is. number_within words 1 1 2000 m is) e
  where
    by : (read : Result ℕ Refused) → ((m : ℕ) → read ≡ Ok m → (1 ≤ m) × (m ≤ 2000)) → (read >>= (λ m. Ok (Gen m))) ≡ Ok (Gen n) → (1 ≤ n) × (n ≤ 2000)
    by (Err r) within is = absurd cc
    by (Ok m) within is = let same : m ≡ n = cc in rw (← same) (within m refl)

by_command : (links ats shows gens : Bool) (link at show gen : Result CommandSaid Refused) (n : ℕ)
    → (link ≡ Ok (Gen n) → ⊥) → (at ≡ Ok (Gen n) → ⊥) → (show ≡ Ok (Gen n) → ⊥) → (gen ≡ Ok (Gen n) → (1 ≤ n) × (n ≤ 2000))
    → cond links link (cond ats at (cond shows show (cond gens gen wrong_command))) ≡ Ok (Gen n) → (1 ≤ n) × (n ≤ 2000)
by_command true ats shows gens link at show gen n no_link no_at no_show within e = absurd (no_link e)
by_command false true shows gens link at show gen n no_link no_at no_show within e = absurd (no_at e)
by_command false false true gens link at show gen n no_link no_at no_show within e = absurd (no_show e)
by_command false false false true link at show gen n no_link no_at no_show within e = within e
by_command false false false false link at show gen n no_link no_at no_show within e = absurd cc

-- the number of `gen`
pub gen_bounds : (words : List (List ℕ)) (n : ℕ) → words_say words ≡ Ok (Gen n) → (1 ≤ n) × (n ≤ 2000)
unfolding words_say
gen_bounds [] n e = absurd cc
gen_bounds (word ∷ words) n e =
    by_command (bytes_eq word (codes "link")) (bytes_eq word (codes "at") && (length words == 4)) (bytes_eq word (codes "show") && (length words == 5)) (bytes_eq word (codes "gen") && (length words == 1))
    (link_says words) (at_says (word ∷ words)) (show_says (word ∷ words)) (gen_says (word ∷ words)) n
    (link_no_gen words n) (at_no_gen (word ∷ words) n) (show_no_gen (word ∷ words) n) (gen_within (word ∷ words) n) e

-- ---- the words of a generated program

link_said : (words : List (List ℕ)) (said : CommandSaid) → link_says words ≡ Ok said → (options : LinkOptions) × (said ≡ Link options)
unfolding link_says
link_said words said e = (_, link_alone (link_refusal words) _ said e)

world_said : (count : ℕ) (said : CommandSaid) → words_say (generated_words count) ≡ Ok said → (options : LinkOptions) × (said ≡ Link options)
unfolding words_say generated_words
world_said count said e = link_said _ said e

is_link : (command : Command) (options : LinkOptions) → command_said command ≡ Link options → (own : Options) × (command ≡ commands.Link own)
is_link (commands.Link own) options e = (own, refl)
is_link (commands.At image base rva len) options e = absurd cc
is_link (commands.Show image pdb base symbol len) options e = absurd cc
is_link (commands.Gen n) options e = absurd cc

-- they are a link
pub world_links : (count : ℕ) (command : Command) → words_say (generated_words count) ≡ Ok (command_said command) → (options : Options) × (command ≡ commands.Link options)
world_links count command e =
    let said = world_said count (command_said command) e in
    is_link command said.0 said.1
