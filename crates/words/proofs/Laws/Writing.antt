-- The word with an index as the code takes it from the store, an index that names no word, a word put into lent bytes, and how
-- long words are.
-- Relies on the walk along the store; the proofs of letters_of and write_named and those who write words rely on it.
use Rattle.model.proofs.Kit.{◌≡◌, sym, ap, ◌∙◌, true, false, List, [], ℕ, ◌+◌, ◌-◌, ◌≤◌, ◌<◌}
use Rattle.model.proofs.Kit.{ltb-true, ltb-false, leb, ltb, leb→le, T}
use Rattle.model.proofs.Kit.{length, take, drop, get_or, arith}
use lib.ListN.{get_or-eq_default}
use Rattle.model.specs.Bytes.{every, splice}
use Rattle.model.specs.Show.{text, text_from}
use Rattle.model.proofs.Basics.Splices.{splice_none}
use Rattle.model.proofs.Basics.Tests.{every_at, by_test}
use Rattle.std.specs.Prelude.{sum}
use Rattle.line_writer.proofs.LentBytes.{part_back}
use Rattle.words.specs.Store.{words, word_text, Packed}
use Rattle.words.proofs.Laws.Walking.{words_count, part_is}

-- ---- the text of an index

-- the part of the letters that the code puts, k bytes from `from` on
pub word_is : {lengths letters : List ℕ} (packed : Packed lengths letters words) {i from k : ℕ} → i < length words
    → from ≡ sum (take i lengths)
    → k ≡ get_or lengths i 0
    → take (from + k - from) (drop from letters) ≡ word_text i
unfolding word_text
word_is {letters = letters} packed {from = from} h at long =
    (λ j. take (from + long j - from) (drop from letters)) ∙ part_is packed h at

pub no_word : {i : ℕ} → length words ≤ i → word_text i ≡ []
unfolding word_text
no_word {i} h = get_or-eq_default words [] {n = i} h

-- ---- a text put into lent bytes

-- where no word has the index nothing is put
pub none_put : {i : ℕ} → length words ≤ i → (at : ℕ) (b : List ℕ) → b ≡ splice at (word_text i) b
none_put h at b = sym (splice_none at b) ∙ ap (λ (t : List ℕ). splice at t b) (sym (no_word h))

-- what the code finds by itself of both
pub ruleset putting = (part_back, none_put, no_word, words_count)

-- ---- how long a word is

short_table : T (every (length words) (λ i. leb (length (get_or words i [])) 8))
unfolding words text text_from every
short_table = tt

pub word_short : (i : ℕ) → length (word_text i) ≤ 8
unfolding word_text
word_short i = by_test (ltb i (length words)) inside outside
  where
    inside : ltb i (length words) ≡ true → length (get_or words i []) ≤ 8
    inside e = leb→le _ 8 (every_at (length words) _ short_table i (ltb-true i (length words) e))

    outside : ltb i (length words) ≡ false → length (get_or words i []) ≤ 8
    outside e =
        omega (arith, ap length (no_word (ltb-false i (length words) e)))
