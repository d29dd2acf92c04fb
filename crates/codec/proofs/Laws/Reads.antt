-- The fields of a register and of a record, read where they stand in a longer list.
-- Relies on Signs and the laws on parts of the crate model; the proofs of register_at and record_at rely on it.
use Rattle.model.proofs.Kit.{◌≡◌, sym, ap, ◌∙◌, List, ℕ, ◌+◌, ◌≤◌, ◌<◌, lit<, ℤ, length, w32, to_z, of_z, add-zero, arith}
use lib.Seq.{ext_get_or}
use Rattle.model.specs.Bytes.{byte, number, part}
use Rattle.model.specs.Figure.{figure}
use Rattle.model.specs.declared.Record.{Record}
use Rattle.model.specs.Layout.{read_register, read_record, changed}
use Rattle.codec.specs.Parts.{meeting}
use Rattle.model.proofs.Basics.Splices.{length_part, byte_part}
use Rattle.figures.proofs.Laws.Signs.{returned}

-- a part of a part
pub part_part : (at len i k : ℕ) (b : List ℕ) → at + len ≤ length b → i + k ≤ len
    → part (at + i) k b ≡ part i k (part at len b)
part_part at len i k b h l =
    ext_get_or 0 (part (at + i) k b) (part i k (part at len b)) (outer ∙ sym inner)
    (λ (j : ℕ) (q : j < length (part (at + i) k b)).
    let m : j < k = omega (arith, outer) in
    byte_part (at + i) k b j m ∙ ap (byte b) (omega arith) ∙ sym (byte_part at len b (i + j) (omega arith))
    ∙ sym (byte_part i k (part at len b) j m))
  where
    outer : length (part (at + i) k b) ≡ k
    outer = length_part (at + i) k b (omega arith)

    inner : length (part i k (part at len b)) ≡ k
    inner = length_part i k (part at len b) (omega (arith, length_part at len b h))

module _ (at len : ℕ) (b : List ℕ) where
  pub first_byte : 0 < len → byte b at ≡ byte (part at len b) 0
  first_byte l = ap (byte b) (sym (add-zero at)) ∙ sym (byte_part at len b 0 l)

  pub byte_at : (i : ℕ) → i < len → byte b (at + i) ≡ byte (part at len b) i
  byte_at i l = sym (byte_part at len b i l)

  figure_in_lem : at + len ≤ length b → (i : ℕ) (v : ℤ) → i + 4 ≤ len → v ≡ figure (part (at + i) 4 b)
      → to_z w32 (of_z w32 v) ≡ figure (part i 4 (part at len b))
  figure_in_lem h i v l e = returned v (part i 4 (part at len b)) (e ∙ ap figure (part_part at len i 4 b h l))

pub register_read : (b : List ℕ) (at : ℕ) (v : ℤ) → at + 8 ≤ length b → v ≡ figure (part (at + 4) 4 b)
    → record { mark = byte b at; island = byte b (at + 1); figure = to_z w32 (of_z w32 v) } ≡ read_register (part at 8 b)
unfolding read_register
register_read b at v h e = λ i. record {
  mark = first_byte at 8 b (lit< tt) i;
  island = byte_at at 8 b 1 (lit< tt) i;
  figure = figure_in_lem at 8 b h 4 v (omega arith) e i;
}

pub station_read : (b : List ℕ) (at : ℕ) (v x y : ℤ) (s : ℕ) → at + 24 ≤ length b → v ≡ figure (part (at + 8) 4 b)
    → x ≡ figure (part (at + 12) 4 b)
    → y ≡ figure (part (at + 16) 4 b) → s ≡ number (part (at + 20) 2 b)
    → record {
      phase = byte b at;
      position = byte b (at + 1);
      island = byte b (at + 2);
      seen = byte b (at + 3);
      highest = byte b (at + 4);
      flag = byte b (at + 5);
      proposal = to_z w32 (of_z w32 v);
      carried = to_z w32 (of_z w32 x);
      best = to_z w32 (of_z w32 y);
      steps = s;
      met = 0;
    } ≡ meeting 0 (read_record (part at 24 b))
unfolding read_record changed
station_read b at v x y s h ev ex ey es = λ i. record {
  phase = first_byte at 24 b (lit< tt) i;
  position = byte_at at 24 b 1 (lit< tt) i;
  island = byte_at at 24 b 2 (lit< tt) i;
  seen = byte_at at 24 b 3 (lit< tt) i;
  highest = byte_at at 24 b 4 (lit< tt) i;
  flag = byte_at at 24 b 5 (lit< tt) i;
  proposal = figure_in_lem at 24 b h 8 v (omega arith) ev i;
  carried = figure_in_lem at 24 b h 12 x (omega arith) ex i;
  best = figure_in_lem at 24 b h 16 y (omega arith) ey i;
  steps = (es ∙ ap number (part_part at 24 20 2 b h (omega arith))) i;
  met = 0;
}

pub record_read : (b : List ℕ) (at : ℕ) (f : Record) → f ≡ meeting 0 (read_record (part at 24 b))
    → record {
      phase = f.phase;
      position = f.position;
      island = f.island;
      seen = f.seen;
      highest = f.highest;
      flag = f.flag;
      proposal = to_z w32 (of_z w32 f.proposal);
      carried = to_z w32 (of_z w32 f.carried);
      best = to_z w32 (of_z w32 f.best);
      steps = f.steps;
      met = byte b (at + 6);
    } ≡ read_record (part at 24 b)
unfolding read_record changed
record_read b at f e = λ i. record {
  phase = (e i).phase;
  position = (e i).position;
  island = (e i).island;
  seen = (e i).seen;
  highest = (e i).highest;
  flag = (e i).flag;
  proposal = returned f.proposal (part 8 4 (part at 24 b)) (ap (λ (g : Record). g.proposal) e) i;
  carried = returned f.carried (part 12 4 (part at 24 b)) (ap (λ (g : Record). g.carried) e) i;
  best = returned f.best (part 16 4 (part at 24 b)) (ap (λ (g : Record). g.best) e) i;
  steps = (e i).steps;
  met = byte_at at 24 b 6 (lit< tt) i;
}
