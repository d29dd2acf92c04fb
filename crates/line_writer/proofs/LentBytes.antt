-- A text put into lent bytes by a part of them.
-- Relies on the kit's laws on parts of lists; who puts a line or a word into lent bytes relies on it.
use Rattle.model.proofs.Kit.{◌≡◌, sym, ap, ◌∙◌, List, ◌++◌, append_assoc, ℕ, ◌+◌, ◌-◌, length, take, drop, arith}
use borrow.Rule.Slice.PartMut.{put_mid, Post-is}
use Rattle.model.specs.Bytes.{splice}

-- the part of the bytes from `at` on, back in its place with the text
pub part_back : (at : ℕ) (b : List ℕ) {end : ℕ} {y t : List ℕ} → end ≡ at + length t → y ≡ t
    → put_mid at (end - at) b y ≡ splice at t b
unfolding splice
part_back at b {end} {y} {t} h e =
    ap (λ (r : List ℕ). take at b ++ (y ++ r)) (Post-is at end b (omega (arith, h)))
    ∙ ap (λ (x : List ℕ). take at b ++ (x ++ drop end b)) e
    ∙ sym (append_assoc (take at b) t (drop end b))
    ∙ ap (λ (k : ℕ). take at b ++ t ++ drop k b) h
