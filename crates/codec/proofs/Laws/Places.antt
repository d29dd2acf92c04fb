-- What a product in the place of a part of a board comes to at most.
-- Relies on the kit alone; the proofs of the places rely on it.
use Rattle.model.proofs.Kit.{ℕ, ◌≤◌, ◌*◌, mul-le-mul, arith}

pub product : (n k : ℕ) → n ≤ 255 → k ≤ 255 → n * k ≤ 65025
product n k h l = omega (arith, mul-le-mul h l)
