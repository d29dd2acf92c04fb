-- Five of 02: how many filled registers a collect has met, and what an answer tells of it. All of it stands beside the
-- listing, which never looks at the count.
-- Relies on the listing's values; the calls and what their answers mean rely on it.
use Rattle.std.specs.Prelude.{ℕ, ◌+◌}
use Rattle.model.specs.Listing.{Register, empty, filled, Stage, writing, reading, has_decided, is_spent, Answer}
use Rattle.model.specs.Listing.{wrote, read, went, marked, adopted, decided, spent, refused}

-- What a step answers: the listing's answer, and the number that is its "last field".
pub record Report (F : Type 0) : Type 0 where
  pub did : Answer F
  pub met : ℕ

module _ {F : Type 0} where
  -- "whether it met a filled one": 1 for a filled register, 0 for an empty one
  unfoldable pub filled_in : Register F → ℕ
  filled_in empty = 0
  filled_in (filled f k x) = 1

  -- "how many registers of that collect were filled": k before a station at stage s accessed the register r, and this
  -- many with it. A write meets none: the collect behind it begins.
  unfoldable pub met_with : Stage F → Register F → (k : ℕ) → ℕ
  met_with (writing t c x) r k = 0
  met_with (reading t c x p a) r k = k + filled_in r
  met_with (has_decided c x) r k = 0
  met_with (is_spent c x) r k = 0

  -- "record byte 6 counts these in phases 2, 4 and 6 .. zero elsewhere": what is kept of k by a station at stage s. So
  -- the end of a collect clears it.
  unfoldable pub met_kept_at : Stage F → (k : ℕ) → ℕ
  met_kept_at (writing t c x) k = 0
  met_kept_at (reading t c x p a) k = k
  met_kept_at (has_decided c x) k = 0
  met_kept_at (is_spent c x) k = 0

  -- "A *read* answer reports whether it met a filled one", here, "and *went*, *marked*, *adopted*, *decided* and
  -- *spent* carry the total", to which the last read has added
  unfoldable pub reported : Answer F → (here total : ℕ) → ℕ
  reported wrote here total = 0
  reported read here total = here
  reported (went c x) here total = total
  reported (marked f x) here total = total
  reported (adopted c x) here total = total
  reported (decided c x) here total = total
  reported (spent c x) here total = total
  reported (refused k) here total = 0

  abbrev pub report : Answer F → (here total : ℕ) → Report F
  report a here total = record { did = a; met = reported a here total }

  -- "A refusal answers its number only"
  abbrev pub refusal : (number : ℕ) → Report F
  refusal k = record { did = refused k; met = 0 }
