-- Any words laid end to end beside their lengths are packed, if a test over the table passes: each has a letter, and is
-- the first word of its text. So one computed test shows the store packed, and nothing is said word by word.
-- Relies on the definitions of the store; the proof of packed and the laws of indices rely on it.
use Rattle.model.proofs.Kit.{◌≡◌, refl, sym, ap, subst, ◌∙◌, Bool, ◌&&◌, List, [], ◌∷◌, ◌++◌, map, ℕ, zero, suc, ◌+◌, ◌<◌}
use Rattle.model.proofs.Kit.{length}
use Rattle.model.proofs.Kit.{take, drop, get_or, eqb, ltb, ltb→lt, eqb→eq, length-append, T, arith}
use mathlib.Core.List.{flatten}
use lib.ListN.{length-map, get_or-map}
use lib.Seq.{take-append_seam, drop-append-add}
use Rattle.model.specs.Bytes.{every}
use Rattle.model.specs.Forms.{same}
use Rattle.model.specs.Show.{text, text_from}
use Rattle.model.proofs.Basics.Tests.{every_at, and_l, and_r}
use Rattle.std.specs.Prelude.{sum}
use Rattle.std.proofs.lemmas.List.Sums.{sum_by-cons}
use Rattle.words.specs.Store.{words, index_in, Packed}

-- the test of one word: it has a letter, and no word before it has its text
unfoldable pub lettered : List (List ℕ) → ℕ → Bool
lettered ws i = ltb 0 (get_or (map length ws) i 0)

unfoldable pub new : List (List ℕ) → ℕ → Bool
new ws i = eqb (index_in ws (get_or ws i [])) i

unfoldable pub fit : List (List ℕ) → ℕ → Bool
fit ws i = lettered ws i && new ws i

letters_from : (ws : List (List ℕ)) (i : ℕ) → i < length ws
    → take (get_or (map length ws) i 0) (drop (sum (take i (map length ws))) (flatten ws)) ≡ get_or ws i []
unfolding flatten
letters_from [] i h = absurd (omega arith)
letters_from (w ∷ ws) zero h = take-append_seam w (flatten ws)
letters_from (w ∷ ws) (suc i) h =
    ap (λ (n : ℕ). take (get_or (map length ws) i 0) (drop n (w ++ flatten ws)))
    (sum_by-cons (λ (x : ℕ). x) (length w) (take i (map length ws)))
    ∙ ap (take (get_or (map length ws) i 0)) (drop-append-add w (flatten ws) (sum (take i (map length ws))))
    ∙ letters_from ws i (omega arith)

all_letters : (ws : List (List ℕ)) → sum (map length ws) ≡ length (flatten ws)
unfolding flatten
all_letters [] = refl
all_letters (w ∷ ws) =
    sum_by-cons (λ (x : ℕ). x) (length w) (map length ws)
    ∙ ap (λ (n : ℕ). length w + n) (all_letters ws)
    ∙ sym (length-append w (flatten ws))

module _ (ws : List (List ℕ)) (t : T (every (length ws) (fit ws))) where
  first : (i : ℕ) → i < length ws → index_in ws (get_or ws i []) ≡ i
  unfolding fit new
  first i h = eqb→eq _ _ (and_r (lettered ws i) (new ws i) (every_at (length ws) (fit ws) t i h))

  laid : Packed (map length ws) (flatten ws) ws
  unfolding fit lettered
  laid = record {
    counted = length-map ws length;
    begins = letters_from ws;
    long = λ i h. sym (get_or-map length ws i []);
    some = λ i h. ltb→lt _ _ (and_l (lettered ws i) (new ws i) (every_at (length ws) (fit ws) t i h));
    ends = all_letters ws;
    once = λ i j h l e. sym (first i h) ∙ ap (index_in ws) e ∙ first j l;
  }

  pub packed_words : {lengths letters : List ℕ} → map length ws ≡ lengths → flatten ws ≡ letters
      → Packed lengths letters ws
  packed_words {lengths} {letters} p q =
      subst (λ (x : List ℕ). Packed x letters ws) p (subst (λ (y : List ℕ). Packed (map length ws) y ws) q laid)

-- the words of the store pass the test, which is computed here
pub packed_store : {lengths letters : List ℕ} → map length words ≡ lengths → flatten words ≡ letters
    → Packed lengths letters words
unfolding words text text_from every fit lettered new index_in same
packed_store p q = packed_words words tt p q
