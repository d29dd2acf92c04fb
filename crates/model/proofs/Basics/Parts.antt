-- A list of bytes by its parts: a part byte by byte, parts joined, and parts of bytes.
-- Relies on Bytes and Splices; the form of sound registers and records relies on it, and so do the code's proofs.
use Rattle.model.proofs.Kit.{◌≡◌, refl, sym, ap, ◌∙◌, List, [], ◌∷◌, ◌++◌, ℕ, zero, suc, ◌+◌, ◌≤◌, ◌<◌, T}
use Rattle.model.proofs.Kit.{length, take, drop, replicate, drop-drop, take_all, arith}
use lib.ListN.{get_or-replicate}
use lib.Seq.{take-add}
use Rattle.model.specs.Bytes.{byte, part, zeros}
use Rattle.model.proofs.Basics.Tests.{zeros_is}
use Rattle.model.proofs.Basics.Numbers.{Bytes}
use Rattle.model.proofs.Basics.Splices.{length_part, byte_part, part_is}

-- the values of f at 0, 1, .., k − 1
unfoldable pub listed : ℕ → (ℕ → ℕ) → List ℕ
listed zero f = []
listed (suc k) f = f 0 ∷ listed k (λ i. f (suc i))

length_listed : (k : ℕ) (f : ℕ → ℕ) → length (listed k f) ≡ k
unfolding listed
length_listed zero f = refl
length_listed (suc k) f = ap suc (length_listed k (λ i. f (suc i)))

byte_listed : (k : ℕ) (f : ℕ → ℕ) (i : ℕ) → i < k → byte (listed k f) i ≡ f i
unfolding listed
byte_listed zero f i h = absurd (omega arith)
byte_listed (suc k) f zero h = refl
byte_listed (suc k) f (suc i) h = byte_listed k (λ j. f (suc j)) i (omega arith)

-- a part that is inside, byte by byte
pub part_listed : (at len : ℕ) (b : List ℕ) → at + len ≤ length b → part at len b ≡ listed len (λ i. byte b (at + i))
part_listed at len b h =
    part_is at len b _ h (length_listed len _) (λ i l. sym (byte_listed len (λ k. byte b (at + k)) i l))

pub part_join : (at a c : ℕ) (b : List ℕ) → part at (a + c) b ≡ part at a b ++ part (at + a) c b
unfolding part
part_join at a c b = take-add a c (drop at b) ∙ rw (drop-drop a at b)

pub part_whole : (b : List ℕ) (len : ℕ) → length b ≡ len → part 0 len b ≡ b
unfolding part
part_whole b len e = take_all len b (omega arith)

drop-Bytes : (k : ℕ) (l : List ℕ) → Bytes l → Bytes (drop k l)
unfolding Bytes
drop-Bytes zero l q = q
drop-Bytes (suc k) [] q = q
drop-Bytes (suc k) (x ∷ xs) q = drop-Bytes k xs q.1

take-Bytes : (k : ℕ) (l : List ℕ) → Bytes l → Bytes (take k l)
unfolding Bytes
take-Bytes zero l q = tt
take-Bytes (suc k) [] q = q
take-Bytes (suc k) (x ∷ xs) q = (q.0, take-Bytes k xs q.1)

pub part-Bytes : (at len : ℕ) (b : List ℕ) → Bytes b → Bytes (part at len b)
unfolding part
part-Bytes at len b h = take-Bytes len (drop at b) (drop-Bytes at b h)

-- a part that passes the test of zeros
pub part_zeros : (at len : ℕ) (b : List ℕ) → at + len ≤ length b → T (zeros (part at len b))
    → part at len b ≡ replicate len 0
part_zeros at len b h t = zeros_is (part at len b) t ∙ rw (length_part at len b h)

pub zero_at_lem : (at len : ℕ) (b : List ℕ) → at + len ≤ length b → T (zeros (part at len b)) → (i : ℕ) → i < len
    → byte b (at + i) ≡ 0
zero_at_lem at len b h t i l = sym (byte_part at len b i l) ∙ rw (part_zeros at len b h t) (get_or-replicate len i 0 0 l)
