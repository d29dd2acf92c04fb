-- The bytes after an accepted step: a write puts in its register and its record, a read its record alone.
-- Relies on Written; whatever is shown of the bytes after a step relies on it.
use Rattle.model.proofs.Kit.{◌≡◌, refl, ap, List, some, Option, ℕ, ◌+◌}
use Rattle.model.specs.declared.Record.{Record}
use Rattle.model.specs.Figure.{Figure, figures}
use Rattle.model.specs.Listing.{Turn, Register, Seen, nothing, writing, reading, array, entry}
use Rattle.model.specs.Listing.{move, place_array, place_column}
use Rattle.model.specs.Filled.{filled_in, met_with}
use Rattle.model.specs.Layout.{register_of, fields_of}
use Rattle.model.specs.Calls.{put_record, put_register, stepped_record, access}
use Rattle.model.proofs.Listing.Written.{read_writes}

module _ (n K i : ℕ) (v : Figure) (b : List ℕ) where
  pub write_bytes : (t : Turn) (c : ℕ) (x : Figure)
      → (access n K i v (writing t c x) b).bytes
      ≡ put_record n K i (stepped_record n K i v (reading t c x 0 nothing) 0 b)
      (put_register n (array t c) i (some (entry t c x)) b)
  unfolding access move place_array place_column met_with
  write_bytes t c x = refl

  -- the record that a read leaves
  abbrev pub read_record_of : (t : Turn) (c : ℕ) (x : Figure) (p : ℕ) → Seen Figure → Record
  read_record_of t c x p a =
      let r = register_of n (array t c) p b in
      stepped_record n K i v (move figures n K (reading t c x p a) r).stage ((fields_of n K i b).met + filled_in r) b

  pub read_bytes : (t : Turn) (c : ℕ) (x : Figure) (p : ℕ) (a : Seen Figure)
      → (access n K i v (reading t c x p a) b).bytes ≡ put_record n K i (read_record_of t c x p a) b
  unfolding access place_array place_column put_register met_with
  read_bytes t c x p a = ap
      (λ (w : Option (Register Figure)).
      put_record n K i (read_record_of t c x p a) (put_register n (array t c) i w b))
      (read_writes K figures n t c x p a (register_of n (array t c) p b))
