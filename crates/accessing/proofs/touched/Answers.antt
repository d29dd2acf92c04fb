-- `touched` meets its contract:
-- at each phase the row and the column are those of the stage that the record stands for.
use Rattle.model.proofs.Kit.{refl, ap, ℕ, ◌+◌, ◌*◌, arith}
use Rattle.model.specs.Listing.{turn_m, turn_a, turn_b, writing, reading, array, place_array, place_column}
use Rattle.model.specs.Layout.{row_of, writing_of, reading_of, of_phase}
use Rattle.accessing.proofs.Laws.Touching.{touch}
use Rattle.accessing.proofs.touched.Goals as goal

pub returns-in-1 : goal.returns-in-1
unfolding of_phase writing_of reading_of row_of place_array place_column array
returns-in-1 c =
    touch _ _ _ 1 (writing turn_m _ _) _ _ _ _ (omega arith) refl c.from-stations.ensures refl refl
    c.register_offset.ensures

pub returns-in-2 : goal.returns-in-2
unfolding of_phase writing_of reading_of row_of place_array place_column array
returns-in-2 c =
    touch _ _ _ 2 (reading turn_m _ _ _ _) _ _ _ _ (omega arith) refl c.from-stations.ensures refl c.from-next.ensures
    c.register_offset-in-2.ensures

pub returns-in-3 : goal.returns-in-3
unfolding of_phase writing_of reading_of row_of place_array place_column array
returns-in-3 c =
    touch _ _ _ 3 (writing turn_a _ _) _ _ _ _ (omega arith) refl c.from-stations.ensures
    (ap (λ (x : ℕ). 1 + 2 * x) c.from-island.ensures) refl c.register_offset-in-3.ensures

pub returns-in-4 : goal.returns-in-4
unfolding of_phase writing_of reading_of row_of place_array place_column array
returns-in-4 c =
    touch _ _ _ 4 (reading turn_a _ _ _ _) _ _ _ _ (omega arith) refl c.from-stations.ensures
    (ap (λ (x : ℕ). 1 + 2 * x) c.from-island.ensures) c.from-next.ensures c.register_offset-in-4.ensures

pub returns-in-5 : goal.returns-in-5
unfolding of_phase writing_of reading_of row_of place_array place_column array
returns-in-5 c =
    touch _ _ _ 5 (writing (turn_b _) _ _) _ _ _ _ (omega arith) refl c.from-stations.ensures
    (ap (λ (x : ℕ). 2 + 2 * x) c.from-island.ensures) refl c.register_offset-in-5.ensures

pub returns-in_default : goal.returns-in_default
unfolding of_phase writing_of reading_of row_of place_array place_column array
returns-in_default c =
    touch _ _ _ 6 (reading (turn_b _) _ _ _ _) _ _ _ _ (omega arith) refl c.from-stations.ensures
    (ap (λ (x : ℕ). 2 + 2 * x) c.from-island.ensures) c.from-next.ensures c.register_offset-in_default.ensures
