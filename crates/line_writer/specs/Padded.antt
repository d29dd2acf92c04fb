-- The bytes of a line: its text, with zeros after it.
-- Relies on the library's laws on parts of lists; the line's model and the proofs of its methods rely on it.
use Rattle.std.specs.Prelude.{◌≡◌, List, ◌++◌, ℕ, ◌+◌, ◌-◌, ◌≤◌, length, take, drop, replicate}
use Rattle.std.proofs.Common.{sym, ap, ◌∙◌, arith, length-take-le, drop-drop, take-append-drop}
use Rattle.std.proofs.lemmas.List.{drop-replicate}

module _ (n : ℕ) (b : List ℕ) (within : n ≤ 512) (size : length b ≡ 512) (zeros : drop n b ≡ replicate (512 - n) 0) where
  pub padded : take n b ++ replicate (512 - length (take n b)) 0 ≡ b
  padded =
      ap (λ (k : ℕ). take n b ++ replicate (512 - k) 0) (length-take-le n b (omega (arith, size, within)))
      ∙ ap (λ (z : List ℕ). take n b ++ z) (sym zeros)
      ∙ take-append-drop n b

  -- what is left of the zeros behind k more bytes
  pub fewer : (k : ℕ) → drop (n + k) b ≡ replicate (512 - (n + k)) 0
  fewer k = sym (drop-drop k n b) ∙ ap (drop k) zeros ∙ drop-replicate k (512 - n) 0 ∙ ap (λ (m : ℕ). replicate m 0) (omega arith)
