use Rattle.std.proofs.Common.{arith, refl, sym, ap, ◌∙◌, ◌++◌, List, ℕ, get_or, length, length-append}
use Rattle.std.proofs.lemmas.List.{append-nil, drop_all}
use Rattle.std.proofs.lemmas.List.Sums.{sum_by_more}
use Rattle.pdb_publics.specs.PublicStreams.{word_of, words}
use Rattle.pdb_publics.proofs.PartLemmas.{no_words, word_made, length_word}
use Rattle.pdb_publics.proofs.hash_part.bucket_words.Goals as goal

pub loop-count-preserved : goal.loop-count-preserved
loop-count-preserved c =
    let i = c.loop-count.count-index in
    let counts = c.args.counts.now in
    let count = get_or counts i 0 in
    let more = sum_by_more (λ (n : ℕ). n) counts i 0 c.loop-count-test.true in
    let grown = ap (λ (xs : List ℕ). length xs) c.in_ok-push_word.ensures.word in
    let both = length-append c.loop-count.words.items (word_of c.loop-count.first count) in
    let word = length_word c.loop-count.first count in
    record {
      before = omega (arith, more, c.loop-count.invariant.before);
      made = word_made c.loop-count.first i count 0 counts c.loop-count.words.items c.push_word.new.words.items c.loop-count-test.true refl c.loop-count.invariant.made c.in_ok-push_word.ensures.word;
      small = omega (arith, grown, both, word, c.loop-count.invariant.small);
    }

pub returns-clause-words : goal.returns-clause-words
returns-clause-words c =
    sym (append-nil c.loop-count.words.items)
    ∙ ap (λ (xs : List ℕ). c.loop-count.words.items ++ xs) (sym (no_words c.loop-count.first))
    ∙ ap (λ (xs : List ℕ). c.loop-count.words.items ++ words c.loop-count.first xs) (sym (drop_all c.loop-count.count-index c.args.counts.now c.loop-count-test.false))
    ∙ c.loop-count.invariant.made
