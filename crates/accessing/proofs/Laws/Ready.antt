-- What a step needs beside the contract of `advance`: the record of a sound board whose phase is 1 to 6 is ready, and
-- what is written is put where the move says. Relies on the model's laws of sound records; Accessing and Stepping rely
-- on it.
use Rattle.model.proofs.Kit.{◌≡◌, refl, sym, ap, ◌∙◌, List, none, some, Option, ℕ, ◌≤◌, T, length}
use Rattle.std.specs.Prelude.{Some, None}
use Rattle.model.specs.declared.Record.{Record}
use Rattle.model.specs.declared.Register as Fields
use Rattle.model.specs.Bytes.{byte, splice}
use Rattle.model.specs.Figure.{Figure}
use Rattle.model.specs.Listing.{Array, Register, Station}
use Rattle.model.specs.Layout.{read_record, record_fields, record_value, changed, with_counts, lay_register, register_fields}
use Rattle.model.specs.Layout.{register_at}
use Rattle.model.specs.Calls.{put_register}
use Rattle.model.specs.Sound.{fields_sound}
use Rattle.model.proofs.Board.Good.{position_fact, island_fact}
use Rattle.model.proofs.Board.Canon.{fields_station}
use Rattle.model.proofs.Board.Codec.{counts_beside, value_beside}
use Rattle.codec.specs.Parts.{meeting}
use Rattle.archipelago.specs.declared.Moved.{Moved}
use Rattle.archipelago.specs.Advanced.{Ready, Written}

pub ready : (n K : ℕ) (r : List ℕ) → T (fields_sound n K (byte r 0) r) → length r ≡ 24 → 1 ≤ byte r 0
    → byte r 0 ≤ 6
    → Ready n K (read_record r)
unfolding read_record
ready n K r t e l h = record {
  whole = fields_station n K r e t;
  begun = l;
  going = h;
  position = position_fact n K _ r t;
  island = island_fact n K _ r t;
}

-- and so it is with nothing met, which a move does not look at
pub ready_unmet : (n K : ℕ) (f : Record) → Ready n K f → Ready n K (meeting 0 f)
unfolding changed
ready_unmet n K f h = record {
  whole =
      ap (λ (s : Station Figure). record_fields s (meeting 0 f)) (value_beside f.steps 0 f)
      ∙ sym (counts_beside (record_value f) f.steps 0 f) ∙ ap (with_counts f.steps 0) h.whole;
  begun = h.begun;
  going = h.going;
  position = h.position;
  island = h.island;
}

-- a move writes or it does not
pub never_both : {X : Type 0} (r : Moved) (w : Fields.Register) → r.written ≡ None → r.written ≡ Some w → X
never_both r w n e = absurd (cc)

module _ (n : ℕ) (a : Array) (j : ℕ) (b : List ℕ) (r : Moved) where
  pub put_written_lem : (o : Option (Register Figure)) → Written o r → (w : Fields.Register) → r.written ≡ Some w
      → put_register n a j o b ≡ splice (register_at n a j) (lay_register w) b
  unfolding Written put_register
  put_written_lem none q w e = never_both r w q e
  put_written_lem (some g) q w e =
      let same : register_fields g ≡ w = cc in
      ap (λ (f : Fields.Register). splice (register_at n a j) (lay_register f) b) same

  pub put_nothing : (o : Option (Register Figure)) → Written o r → r.written ≡ None → put_register n a j o b ≡ b
  unfolding Written put_register
  put_nothing none q e = refl
  put_nothing (some g) q e = never_both r (register_fields g) e q
