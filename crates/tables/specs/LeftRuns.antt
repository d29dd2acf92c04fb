-- Six of 02 as worked runs: a station left alone that needs all three passes, and the same one where m leaves no room.
-- Relies on the calls and on the claim of Six; proofs/LeftRuns.antt proves `LeftRuns`.
use Rattle.std.specs.Prelude.{List, [], ◌∷◌, ◌++◌, ℕ, replicate, pos, negsuc, ◌≡◌}
use Rattle.model.specs.Listing.{decided, spent, refused}
use Rattle.model.specs.Calls.{step}
use Rattle.model.specs.Runs.{after}
use Rattle.model.specs.AnyList.{until}
use Rattle.model.specs.FilledRuns.{begun}
use Rattle.model.specs.LeftRunning.{RoomAbove}

-- Stations 1, 2 and 3 with 15, −20 and 40 on K islands. Station 3 has written to m and read one register there. Behind
-- its back 2 has brought −20 to A of island 0 and gone no further, so that 1, which met both figures there, has adopted
-- −20 and brought it to A of island 1.
unfoldable pub stale : (K : ℕ) → List ℕ
stale K =
    after step (begun 3 K (pos 15 ∷ negsuc 19 ∷ pos 40 ∷ []))
    (replicate 4 1 ++ replicate 4 2 ++ (3 ∷ 3 ∷ 2 ∷ replicate 13 1))

pub record LeftRuns : Type 0 where
  -- on three islands the highest in m is K − 2
  pub room : RoomAbove (stale 3)
  -- Two passes, 6(n + 1) steps, are not enough for station 3, nor are 33: `until` has run out of steps, for which its
  -- number is 0.
  pub two_passes : (until 24 3 (stale 3)).answer.did ≡ refused 0
  pub not_yet : (until 33 3 (stale 3)).answer.did ≡ refused 0
  -- The step of number 9(n + 1) − 2 decides: after the rest of a stale pass on island 0 and one on island 1, its third
  -- pass is alone on island 2.
  pub decides : (until 34 3 (stale 3)).answer.did ≡ decided 2 (pos 40)
  -- on two islands the highest is K − 1: there is no room, and the same station alone is spent
  pub no_room : RoomAbove (stale 2) → ⊥
  pub is_spent : (until 36 3 (stale 2)).answer.did ≡ spent 1 (pos 40)
