-- The stages that have a next step.
-- Relies on the listing; the laws of accepted steps rely on it, on bytes and on states.
use Rattle.model.specs.Listing.{Stage, writing, reading, has_decided, is_spent}

abbrev pub Going : {F : Type 0} → Stage F → Type 0
Going (writing t c x) = Unit {0}
Going (reading t c x p a) = Unit {0}
Going (has_decided c x) = ⊥
Going (is_spent c x) = ⊥
