-- Soundness as facts: what the test says of each register and each record of a board, and the values there.
-- Relies on the tests' laws, Boards and Good; that calls keep a board sound and the code's proofs rely on it.
use Rattle.model.proofs.Kit.{◌≡◌, Bool, ◌&&◌, List, ℕ, ◌<◌, T, length}
use Rattle.model.specs.Bytes.{part, every}
use Rattle.model.specs.Listing.{Array, in_m, in_a, in_b}
use Rattle.model.specs.Layout.{board_length, register_at, record_of}
use Rattle.model.specs.Sound.{head_sound, register_sound, array_sound, registers_sound, record_sound, sound}
use Rattle.model.proofs.Basics.Tests.{and_l, and_r, and_i, every_at, every_all}
use Rattle.model.proofs.Board.Places.{InBoard}
use Rattle.model.proofs.Board.Boards.{register_part}

-- the marks and the islands that the registers of an array may hold
unfoldable pub marks_in : Array → ℕ
marks_in in_m = 1
marks_in (in_a c) = 1
marks_in (in_b c) = 2

unfoldable pub islands_in : (K : ℕ) → Array → ℕ
islands_in K in_m = K
islands_in K (in_a c) = 1
islands_in K (in_b c) = 1

-- the test of a register's bytes, by its array
unfoldable pub register_test : (K : ℕ) → Array → List ℕ → Bool
register_test K a r = register_sound (marks_in a) (islands_in K a) r

-- All but the record of station index i: what holds while that record and its registers change.
pub record SoundBut (i n K : ℕ) (b : List ℕ) : Type 0 where
  pub len : length b ≡ board_length n K
  pub head : T (head_sound b)
  pub registers : (a : Array) → InBoard K a → (j : ℕ) → j < n → T (register_test K a (register_part n a j b))
  pub others : (j : ℕ) → j < n → (i ≡ j → ⊥) → T (record_sound n K j b (record_of n K j b))

pub record SoundBoard (n K : ℕ) (b : List ℕ) : Type 0 where
  pub len : length b ≡ board_length n K
  pub head : T (head_sound b)
  pub registers : (a : Array) → InBoard K a → (j : ℕ) → j < n → T (register_test K a (register_part n a j b))
  pub records : (j : ℕ) → j < n → T (record_sound n K j b (record_of n K j b))

array_at : (n K : ℕ) (b : List ℕ) (a : Array) → T (array_sound n (marks_in a) (islands_in K a) b a) → (j : ℕ) → j < n
    → T (register_test K a (register_part n a j b))
unfolding array_sound register_test register_part
array_at n K b a t j h =
    every_at n (λ (i : ℕ). register_sound (marks_in a) (islands_in K a) (part (register_at n a i) 8 b)) t j h

array_all : (n K : ℕ) (b : List ℕ) (a : Array) → ((j : ℕ) → j < n → T (register_test K a (register_part n a j b)))
    → T (array_sound n (marks_in a) (islands_in K a) b a)
unfolding array_sound register_test register_part
array_all n K b a f = every_all n (λ (i : ℕ). register_sound (marks_in a) (islands_in K a) (part (register_at n a i) 8 b)) f

arrays_at : (n K : ℕ) (b : List ℕ) → T (registers_sound n K b) → (a : Array) → InBoard K a
    → T (array_sound n (marks_in a) (islands_in K a) b a)
unfolding registers_sound InBoard marks_in islands_in
arrays_at n K b t in_m h =
    and_l (array_sound n 1 K b in_m) (every K (λ (c : ℕ). array_sound n 1 1 b (in_a c) && array_sound n 2 1 b (in_b c))) t
arrays_at n K b t (in_a c) h =
    and_l (array_sound n 1 1 b (in_a c)) (array_sound n 2 1 b (in_b c))
    (every_at K (λ (k : ℕ). array_sound n 1 1 b (in_a k) && array_sound n 2 1 b (in_b k))
    (and_r (array_sound n 1 K b in_m) _ t) c h)
arrays_at n K b t (in_b c) h =
    and_r (array_sound n 1 1 b (in_a c)) (array_sound n 2 1 b (in_b c))
    (every_at K (λ (k : ℕ). array_sound n 1 1 b (in_a k) && array_sound n 2 1 b (in_b k))
    (and_r (array_sound n 1 K b in_m) _ t) c h)

arrays_all : (n K : ℕ) (b : List ℕ) → ((a : Array) → InBoard K a → T (array_sound n (marks_in a) (islands_in K a) b a))
    → T (registers_sound n K b)
unfolding registers_sound InBoard marks_in islands_in
arrays_all n K b f =
    and_i (array_sound n 1 K b in_m) (every K (λ (c : ℕ). array_sound n 1 1 b (in_a c) && array_sound n 2 1 b (in_b c)))
    (f in_m tt)
    (every_all K (λ (c : ℕ). array_sound n 1 1 b (in_a c) && array_sound n 2 1 b (in_b c))
    (λ (c : ℕ) (h : c < K). and_i (array_sound n 1 1 b (in_a c)) (array_sound n 2 1 b (in_b c)) (f (in_a c) h)
    (f (in_b c) h)))

module _ (n K : ℕ) (b : List ℕ) where
  each_record : Bool
  each_record = every n λ i. record_sound n K i b (record_of n K i b)

  pub sound_facts : length b ≡ board_length n K → T (sound n K b) → SoundBoard n K b
  unfolding sound each_record
  sound_facts l t = record {
    len = l;
    head = and_l (head_sound b) (registers_sound n K b) (and_l (head_sound b && registers_sound n K b) each_record t);
    registers =
        λ a h. array_at n K b a
        (arrays_at n K b
        (and_r (head_sound b) (registers_sound n K b) (and_l (head_sound b && registers_sound n K b) each_record t)) a h);
    records =
        every_at n (λ (i : ℕ). record_sound n K i b (record_of n K i b))
        (and_r (head_sound b && registers_sound n K b) each_record t);
  }

  pub facts_sound : SoundBoard n K b → T (sound n K b)
  unfolding sound each_record
  facts_sound s =
      and_i (head_sound b && registers_sound n K b) each_record
      (and_i (head_sound b) (registers_sound n K b) s.head
      (arrays_all n K b (λ a h. array_all n K b a (s.registers a h))))
      (every_all n (λ (i : ℕ). record_sound n K i b (record_of n K i b)) s.records)
