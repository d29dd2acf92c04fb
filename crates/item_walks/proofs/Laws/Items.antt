-- Items as they stand in a line: that they stand inside of it, how an item begins, and an item that is a station.
-- Relies on Fuel and on the laws of items and of a known number; Repeats, Passing and the crates that go over items
-- rely on it.
use Rattle.model.proofs.Kit.{◌≡◌, refl, sym, ap, ◌∙◌, subst₂, List, [], ◌∷◌, some, Option, ℕ, zero, suc, ◌≤◌, ◌<◌}
use Rattle.model.proofs.Kit.{length, drop, drop_of_length-le, get_or, w8, Fits, lt_of_not-le, arith}
use Rattle.model.specs.Forms.{Item, station, expand_item, Read, found, and_then, spaced, number_in, natural, item_in}
use Rattle.model.specs.Forms.{items_in}
use Rattle.lexer.specs.declared.At.{At}
use Rattle.lexer.specs.Known.{NumberStands, KnownIs}
use Rattle.model.proofs.Basics.Tests.{never}
use Rattle.lexer.proofs.Laws.Given.{found_one, through}
use Rattle.lexer.proofs.Laws.Known.{stands_there, known_found, known_range}
use Rattle.item_reader.proofs.Laws.Items.{as_number}
use Rattle.item_walks.specs.ItemWalks.{RanPart, PartDone, ItemReads, ItemsRead, ItemDone}
use Rattle.item_walks.proofs.Laws.Fuel.{agree}

-- ---- what was read

module _ (line : List ℕ) (at : ℕ) where
  pub item_inside : ItemReads line at → at < length line
  unfolding item_in number_in natural and_then found
  item_inside r =
      lt_of_not-le (λ (l : length line ≤ at). nothing r.fuel (rw (drop_of_length-le line l) at r.read))
    where
      nothing : (k : ℕ) → item_in k [] ≡ found r.value r.rest → ⊥
      nothing zero e = never _ e
      nothing (suc k) e = never _ e

  pub items_inside : ItemsRead line at → at < length line
  unfolding items_in spaced and_then found
  items_inside r =
      lt_of_not-le (λ (l : length line ≤ at). nothing r.fuel (rw (drop_of_length-le line l) at r.read))
    where
      nothing : (k : ℕ) → items_in k [] ≡ found r.value r.rest → ⊥
      nothing zero e = never _ e
      nothing (suc k) e = never _ e

  -- two reads of the same items
  pub same_items : (r s : ItemsRead line at) → (r.value ≡ s.value) × (r.rest ≡ s.rest)
  unfolding found
  same_items r s =
      found_one _ _ _ _ (ap some (agree r.fuel s.fuel (drop at line) _ _ r.read s.read))

-- ---- an item

-- an item that is read the same at every fuel
runs_as : (Done : List ℕ → Type 0) (line : List ℕ) (at next : ℕ) (a : Item) (rest : List ℕ)
    → ((k : ℕ) → item_in (suc k) (drop at line) ≡ found a rest)
    → RanPart Done line at (expand_item a) rest next → ItemDone Done line at next
unfolding PartDone item_in found
runs_as Done line at next a rest reads ran zero c l e = never _ e
runs_as Done line at next a rest reads ran (suc k) c l e =
    let same : (a ≡ c) × (rest ≡ l) = found_one a c rest l (sym (reads k) ∙ e) in
    subst₂ (λ (x : Item) (y : List ℕ). RanPart Done line at (expand_item x) y next) same.0 same.1 ran

-- what an item that was read begins with was read too
pub begins : (line : List ℕ) (at : ℕ) → ItemReads line at
    → {A : Type 0} (o : Option (Read A)) (go : ℕ → A → List ℕ → Option (Read Item))
    → ((k : ℕ) → item_in (suc k) (drop at line) ≡ and_then o (go k)) → (r : Read A) × (o ≡ some r)
unfolding item_in found
begins line at reads {A = A} o go starts = by reads.fuel reads.read
  where
    by : (k : ℕ) → item_in k (drop at line) ≡ found reads.value reads.rest → (r : Read A) × (o ≡ some r)
    by zero e = never _ e
    by (suc k) e =
        let t = through o (go k) _ (sym (starts k) ∙ e) in (record { value = t.value; rest = t.rest }, t.read)

module _ (line : List ℕ) (at : ℕ) (no_bracket : get_or line at 0 ≡ 40 → ⊥) (reads : ItemReads line at) where
  station_read : (r : Read ℕ) × (number_in 0 99 (drop at line) ≡ some r)
  station_read = begins line at reads (number_in 0 99 (drop at line)) _ (as_number line at no_bracket)

  pub station_stands : NumberStands line at
  station_stands = stands_there line at 0 99 (omega arith) station_read.0 station_read.1

  module _ (n : At ℕ) (is : KnownIs line at n) where
    pub station-fits : Fits w8 n.value
    station-fits =
        record {
          fits = omega (
            arith,
            (known_range line at 0 99 (omega arith) station_read.0 station_read.1 n is).1,
          );
        }

    pub one_step : (Done : List ℕ → Type 0) → Done (n.value ∷ []) → ItemDone Done line at n.next
    unfolding and_then found expand_item
    one_step Done ran =
        runs_as Done line at n.next (station n.value) (drop n.next line)
        (λ k. as_number line at no_bracket k
        ∙ rw (known_found line at 0 99 (omega arith) station_read.0 station_read.1 n is))
        (record {
          ran = ran;
          follows = refl;
          behind = is.inside.0;
          inside = is.inside.1;
        })
