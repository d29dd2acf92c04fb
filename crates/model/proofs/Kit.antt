-- What the proofs of all crates take from the kit's libraries.
-- Relies on the kit alone; nearly every proof relies on it.
pub use mathlib.Core.Path.{◌≡◌, refl, sym, ap, subst, ◌∙◌, subst₂}
pub use mathlib.Core.Bool.{Bool, true, false, cond, ◌&&◌, ◌||◌, not}
pub use mathlib.Core.Logic.{inl, inr, ⊎_elim, ◌⊎◌}
pub use mathlib.Core.List.{List, [], ◌∷◌, ◌++◌, append_assoc, append-nil, map}
pub use mathlib.Core.Option.{none, some, Option}
pub use Prim.Native.Nat.{ℕ, zero, suc, ◌+◌, ◌-◌, ◌≤◌, ◌<◌, ◌/◌, ◌%◌, ◌*◌}
pub use borrow.Author.Rules.{rules}
pub use borrow.Author.Tests.{le-leb, lt-leb, lt-ltb, le-ltb, leb-true, leb-false, eqb-true, eqb-false, eq-eqb, ne_eqb}
pub use borrow.Author.Tests.{ltb-true, ltb-false}
pub use lib.Dec.{eqb, leb, ltb, le→leb, leb→le, lit<, T, eqb→eq, eqb_refl, lit≤, ltb→lt, lt→ltb}
pub use lib.IntN.{ℤ, pos, negsuc}
pub use lib.ListN.{length, take, drop, replicate, length-drop, drop_of_length-le, set, length-replicate, length-set}
pub use lib.ListN.{get_or, length-append, take-append-drop}
pub use lib.Seq.{drop-drop, take_all}
pub use lib.Signed.{lt_z}
pub use mir.Facts.{to_z-of_z}
pub use mir.Syntax.{w8, w32, w64}
pub use mir.Val.{Fits, to_z, of_z, SFits}
pub use native.Mathlib.Decide.{ℕ_discrete}
pub use native.Mathlib.Nat.{mul-le-mul, add-zero, lt_of_not-le, zero-add, eq-or-lt_of_le}
pub use native.Mathlib.Numerals.{add-one}
pub use native.Mathlib.Omega.{arith}
