-- Three of 02: what holds of the order of figures.
-- Relies on the order and on what the listing needs of one; proofs/Listing/Order.antt proves the one claim.
use Rattle.std.specs.Prelude.{true, ℕ, suc, ◌*◌, ltb, pos, negsuc, ◌⊎◌, ◌≡◌}
use Rattle.std.specs.Int.{w32}
use Rattle.std.proofs.Common.{SFits}
use Rattle.model.specs.Figure.{Figure, above, figures}
use Rattle.model.specs.Collects.{Strict}

-- "So 0, −1, 1, −2, 2 rise": a figure's place in that row, counted from 0
unfoldable pub rank : Figure → ℕ
rank (pos n) = 2 * n
rank (negsuc n) = suc (2 * n)

pub record BySize : Type 0 where
  -- "The paper needs only some total order": a strict one, total, that agrees with equality
  pub ordered : Strict figures
  -- of two figures the one that stands later in the row is above the other
  pub in_row : (x y : Figure) → above x y ≡ ltb (rank y) (rank x)
  -- every other figure is above 0
  pub least : (x : Figure) → (pos 0 ≡ x) ⊎ (above x (pos 0) ≡ true)
  -- "−2,147,483,648 being the largest figure of all"
  pub greatest : (x : Figure) → SFits w32 x → (x ≡ negsuc 2147483647) ⊎ (above (negsuc 2147483647) x ≡ true)
