-- What is said of one register, and of what a collect has seen so far. Relies on the listing's values alone; the facts
-- about one read and every clause of the invariant are stated in these words.
use Rattle.model.proofs.Kit.{◌≡◌, sym, ◌∙◌, ℕ, ◌≤◌, arith}
use Rattle.model.specs.Listing.{Flag, adopt, commit, Register, empty, filled, Turn, turn_m, turn_a, turn_b, first}
use Rattle.model.specs.Listing.{second, third, Seen, nothing, seen, Array, in_m, in_a, in_b}
use Rattle.model.proofs.Listing.Collect.{Filled}

-- the island of a figure that stands in array a beside the island k: only m writes islands into its registers
abbrev pub isle : Array → ℕ → ℕ
isle in_m k = k
isle (in_a c) k = c
isle (in_b c) k = c

module _ {F : Type 0} where
  abbrev pub Says : Register F → F → Type 0
  Says empty x = ⊥
  Says (filled f k y) x = y ≡ x

  abbrev pub Marked : Flag → Register F → Type 0
  Marked f empty = ⊥
  Marked f (filled g k y) = g ≡ f

  abbrev pub AtLeast : ℕ → Register F → Type 0
  AtLeast c empty = ⊥
  AtLeast c (filled f k y) = c ≤ k

  -- the register of array a holds the figure y at island k
  abbrev pub Figure : Array → Register F → ℕ → F → Type 0
  Figure a empty k y = ⊥
  Figure a (filled f j x) k y = (isle a j ≡ k) × (x ≡ y)

  -- the best of a collect of array a is y, at island k
  abbrev pub Best : Array → Seen F → ℕ → F → Type 0
  Best a nothing k y = ⊥
  Best a (seen g j x) k y = (isle a j ≡ k) × (x ≡ y)

  -- a collect of B has met a commit, and keeps its figure y
  abbrev pub Met : Seen F → F → Type 0
  Met nothing y = ⊥
  Met (seen first j x) y = ⊥
  Met (seen second j x) y = x ≡ y
  Met (seen third j x) y = x ≡ y

  -- the station's own register once the turn has written x on island c
  abbrev pub Left : Turn → ℕ → F → Register F → Type 0
  Left turn_m c x r = AtLeast c r
  Left turn_a c x r = Says r x
  Left (turn_b f) c x r = Marked f r × Says r x

  -- what a collect shows once it has read such a register: in m an island of at least c; in A only x, or several
  -- figures; in B the station's own flag, alone or beside others
  abbrev pub Brought : Turn → ℕ → F → Seen F → Type 0
  Brought t c x nothing = ⊥
  Brought turn_m c x (seen g k y) = c ≤ k
  Brought turn_a c x (seen first k y) = y ≡ x
  Brought turn_a c x (seen second k y) = Unit {0}
  Brought turn_a c x (seen third k y) = Unit {0}
  Brought (turn_b adopt) c x (seen first k y) = Unit {0}
  Brought (turn_b adopt) c x (seen second k y) = ⊥
  Brought (turn_b adopt) c x (seen third k y) = Unit {0}
  Brought (turn_b commit) c x (seen first k y) = ⊥
  Brought (turn_b commit) c x (seen second k y) = y ≡ x
  Brought (turn_b commit) c x (seen third k y) = Unit {0}

  -- nothing met so far speaks against x in A, against adopting in B, against committing x in B
  abbrev pub Clean : Turn → F → Seen F → Type 0
  Clean t x nothing = Unit {0}
  Clean turn_m x (seen g k y) = Unit {0}
  Clean turn_a x (seen first k y) = y ≡ x
  Clean turn_a x (seen second k y) = ⊥
  Clean turn_a x (seen third k y) = ⊥
  Clean (turn_b adopt) x (seen first k y) = Unit {0}
  Clean (turn_b adopt) x (seen second k y) = ⊥
  Clean (turn_b adopt) x (seen third k y) = ⊥
  Clean (turn_b commit) x (seen first k y) = ⊥
  Clean (turn_b commit) x (seen second k y) = y ≡ x
  Clean (turn_b commit) x (seen third k y) = ⊥

  -- a register is empty, or has Q of its mark, island and figure
  abbrev pub Holds : (Flag → ℕ → F → Type 0) → Register F → Type 0
  Holds Q empty = Unit {0}
  Holds Q (filled f k y) = Q f k y

  -- the register does not speak against it either
  abbrev pub Agrees : Turn → F → Flag → ℕ → F → Type 0
  Agrees turn_m x f k y = Unit {0}
  Agrees turn_a x f k y = y ≡ x
  Agrees (turn_b adopt) x f k y = f ≡ adopt
  Agrees (turn_b commit) x f k y = (f ≡ commit) × (y ≡ x)

  abbrev pub Harmless : Turn → F → Register F → Type 0
  Harmless t x r = Holds (Agrees t x) r

  pub harmless_says : (x z : F) (r : Register F) → Harmless turn_a x r → Says r z → z ≡ x
  harmless_says x z empty h s = absurd s
  harmless_says x z (filled f k y) h s = sym s ∙ h

  pub harmless_marked : (e f : Flag) (x : F) (r : Register F) → Harmless (turn_b e) x r → Marked f r → f ≡ e
  harmless_marked e f x empty h m = absurd m
  harmless_marked adopt f x (filled g k y) h m = sym m ∙ h
  harmless_marked commit f x (filled g k y) h m = sym m ∙ h.0

  pub marked_filled : (f : Flag) (r : Register F) → Marked f r → Filled r
  marked_filled f empty h = h
  marked_filled f (filled g k y) h = tt

  pub says_one : (r : Register F) (x y : F) → Says r x → Says r y → x ≡ y
  says_one empty x y h k = absurd h
  says_one (filled g k z) x y p q = cc

pub adopt≢commit : adopt ≡ commit → ⊥
adopt≢commit e = let z : ◌≡◌ {A = ℕ} 0 1 = cc in omega arith
