-- Lines that are handed back in a lent buffer, and their answers as numbers.
-- Relies on the model's lines; the contracts of the calls for C rely on it.
use Rattle.std.specs.Prelude.{ℕ, ◌+◌, ◌*◌, ◌-◌, cond, ◌&&◌, List, ◌++◌, leb, length, drop, replicate}
use Rattle.std.proofs.Math.Option.{none, some}
use Rattle.model.specs.Show.{Shown}
use Rattle.model.specs.Sheet.{Played}
use Rattle.packing.specs.Packing.{pack_verdict}

-- the 512 bytes of a line at the front of a buffer, and the rest as it was
unfoldable pub handed : (line buffer : List ℕ) → List ℕ
handed l d = l ++ drop 512 d

-- "A refusal answers its number only and changes no byte": what a shown line leaves in the buffer
unfoldable pub shown_in : Shown → (buffer : List ℕ) → List ℕ
shown_in s d = elim s.refusal [ none ↦ handed s.line d | some k ↦ d ]

-- "zeros after the line"
unfoldable pub filled : List ℕ → List ℕ
filled l = l ++ replicate (512 - length l) 0

module _ {A : Type 0} where
  -- what a call gives that has room for its line, and what one without it gives
  unfoldable pub in_room : (buffer : List ℕ) → A → A → A
  in_room d given other = cond (leb 512 (length d)) given other

  -- and one whose board's length is a number of 32 bits besides
  unfoldable pub playable : (laid : ℕ) (buffer : List ℕ) → A → A → A
  playable laid d given other = cond (leb 512 (length d) && leb laid 4294967295) given other

  -- and one whose rounds are at most as many as a number of 32 bits tells, since they are no more than the bytes that
  -- list them
  unfoldable pub countable : (named : List ℕ) → A → A → A
  countable named given other = cond (leb (length named) 4294967295) given other

-- bits 0 to 7 the refusal's number, 16 to 31 the line's length
unfoldable pub pack_show : Shown → ℕ
pack_show s = pack_verdict s.refusal + s.len * 65536

-- bits 0 to 15 the length of what is printed, 16 to 63 how many bytes of the memory are the board that was laid last
unfoldable pub pack_played : Played → ℕ
pack_played p = length p.printed + p.laid * 65536
