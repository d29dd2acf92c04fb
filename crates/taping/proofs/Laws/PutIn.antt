-- Some bytes copied into a buffer from a place on, as the code lends the part of it.
-- Relies on the law of a text put into lent bytes; the proof of `put_in` relies on it.
use Rattle.model.proofs.Kit.{◌≡◌, ap, List, ℕ, ◌+◌, ◌-◌, length}
use borrow.Rule.Slice.PartMut.{put_mid}
use Rattle.model.specs.Bytes.{splice}
use Rattle.line_writer.proofs.LentBytes.{part_back}

-- the lent part of the buffer, back in its place, is a splice
pub put_back : (at n : ℕ) (b v y : List ℕ) → n ≡ length v → y ≡ v → put_mid at (at + n - at) b y ≡ splice at v b
put_back at n b v y h e = part_back at b {end = at + n} {y = y} {t = v} (ap (λ (k : ℕ). at + k) h) e
