-- What a caller of the crate needs beside its contracts: how long a status and the line of `show` can be, and how the
-- line of `show` is made of statuses.
-- Relies on Decimals and Statuses; the call that shows a board relies on it.
use Rattle.model.proofs.Kit.{◌≡◌, ap, List, ◌++◌, append_assoc, ℕ, zero, suc, ◌≤◌, ◌<◌, ◌*◌, length}
use Rattle.model.proofs.Kit.{length-append, arith}
use Rattle.model.specs.Figure.{Figure}
use Rattle.model.specs.Listing.{writing, reading, has_decided, is_spent, Station, idle, active}
use Rattle.model.specs.Layout.{station_of}
use Rattle.model.specs.Standing.{standing_of}
use Rattle.model.specs.Show.{text, text_from, worded, standing_text, status, statuses, shown_line}
use Rattle.model.specs.Calls.{stations, islands}
use Rattle.model.proofs.Board.Good.{GoodStation, GoodStage}
use Rattle.shown.specs.Texts.{status_of, standing_bytes, island_shown}
use Rattle.line_writer.proofs.Decimals.{length_two, length_signed}
use Rattle.shown.proofs.Statuses.{length_standing, length_status}

-- ---- one status

standing_short : (w : List ℕ) (c : ℕ) (v : Figure) → length w ≤ 7 → c < 100 → length (standing_bytes w c v) ≤ 22
standing_short w c v h l = omega (arith, length_standing w c v, length_two c l, length_signed v)

idle_short : length (text "idle") ≤ 22
unfolding text text_from
idle_short = omega arith

module _ (c : ℕ) (x : Figure) (h : c < 100) where
  going_short : length (worded "going" c x) ≤ 22
  unfolding worded standing_bytes text text_from
  going_short = standing_short (text "going") c x (omega arith) h

  decided_short : length (worded "decided" c x) ≤ 22
  unfolding worded standing_bytes text text_from
  decided_short = standing_short (text "decided") c x (omega arith) h

  spent_short : length (worded "spent" c x) ≤ 22
  unfolding worded standing_bytes text text_from
  spent_short = standing_short (text "spent") c x (omega arith) h

-- "decided", two digits and eleven bytes of a figure are the longest
pub status_short : (s : Station Figure) → island_shown s < 100 → length (status s) ≤ 22
unfolding status standing_text standing_of island_shown
status_short idle h = idle_short
status_short (active v (writing t c x)) h = going_short c x h
status_short (active v (reading t c x p a)) h = going_short c x h
status_short (active v (has_decided c x)) h = decided_short c x h
status_short (active v (is_spent c x)) h = spent_short c x h

pub status_bound : (i : ℕ) (s : Station Figure) → i < 100 → island_shown s < 100 → length (status_of i s) ≤ 28
status_bound i s h l = omega (arith, length_status i s, length_two i h, status_short s l)

pub good_island : (n K : ℕ) (s : Station Figure) → 0 < K → GoodStation n K s → island_shown s < K
unfolding GoodStation GoodStage island_shown
good_island n K idle h g = h
good_island n K (active v (writing t c x)) h g = g
good_island n K (active v (reading t c x p a)) h g = g.0
good_island n K (active v (has_decided c x)) h g = g
good_island n K (active v (is_spent c x)) h g = g

-- ---- the line of `show`

pub statuses_more : (k n K : ℕ) (b : List ℕ)
    → statuses (suc k) n K b ≡ statuses k n K b ++ status_of (suc k) (station_of n K k b)
unfolding statuses status_of
statuses_more k n K b = simp append_assoc

no_statuses : (n K : ℕ) (b : List ℕ) → length (statuses 0 n K b) ≤ 0
unfolding statuses
no_statuses n K b = omega arith

pub statuses_bound : (k n K : ℕ) (b : List ℕ) → k < 100 → ((j : ℕ) → j < k → island_shown (station_of n K j b) < 100)
    → length (statuses k n K b) ≤ 28 * k
statuses_bound zero n K b h f = no_statuses n K b
statuses_bound (suc k) n K b h f =
    omega (
      arith,
      ap length (statuses_more k n K b),
      length-append (statuses k n K b) (status_of (suc k) (station_of n K k b)),
      statuses_bound k n K b (omega arith) (λ j l. f j (omega arith)),
      status_bound (suc k) (station_of n K k b) h (f k (omega arith)),
    )

pub line_bound : (b : List ℕ) → stations b ≤ 16
    → ((j : ℕ) → j < stations b → island_shown (station_of (stations b) (islands b) j b) < 100)
    → length (shown_line b) ≤ 458
unfolding shown_line text text_from
line_bound b h f =
    simp length-append (omega (arith, statuses_bound (stations b) (stations b) (islands b) b (omega arith) f))
