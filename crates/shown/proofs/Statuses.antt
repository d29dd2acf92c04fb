-- A station's status: its text by how it stands, and how many bytes it has.
-- Relies on the model's `status`; the proofs of src/status.rt and the bounds rely on it.
use Rattle.model.proofs.Kit.{◌≡◌, sym, ap, ◌∙◌, List, ℕ, ◌+◌, length, length-append}
use Rattle.model.specs.declared.Record.{Record}
use Rattle.model.specs.declared.Standing.{Standing}
use Rattle.model.specs.declared.Standing.TheVariants.{Idle, Going, Decided, Spent}
use Rattle.model.specs.Figure.{Figure}
use Rattle.model.specs.Listing.{Station}
use Rattle.model.specs.Layout.{record_value}
use Rattle.model.specs.Standing.{standing_of}
use Rattle.model.specs.Told.{standing_told}
use Rattle.model.specs.Show.{text, text_from, decimal, signed, worded, standing_text, status}
use Rattle.shown.specs.Texts.{status_of, standing_bytes}

-- ---- how many bytes

pub length_standing : (w : List ℕ) (c : ℕ) (v : Figure)
    → length (standing_bytes w c v) ≡ length w + 1 + length (decimal c) + 1 + length (signed v)
unfolding standing_bytes text text_from
length_standing w c v = simp length-append

pub length_status : (i : ℕ) (s : Station Figure)
    → length (status_of i s) ≡ 2 + length (decimal i) + 1 + length (status s) + 1
unfolding status_of text text_from
length_status i s = simp length-append

-- ---- the words by how the station stands, s as the code told it

module _ (f : Record) (s : Standing) (told : standing_told s ≡ standing_of (record_value f)) where
  as_told : (t : Standing) → s ≡ t → status (record_value f) ≡ standing_text (standing_told t)
  unfolding status
  as_told t e = ap standing_text (sym told ∙ ap standing_told e)

  pub idle_text : s ≡ Idle → status (record_value f) ≡ text "idle"
  unfolding standing_told standing_text
  idle_text e = as_told Idle e

  pub going_text : (c : ℕ) (v : Figure) → s ≡ Going c v → status (record_value f) ≡ standing_bytes (text "going") c v
  unfolding standing_told standing_text worded standing_bytes
  going_text c v e = as_told (Going c v) e

  pub decided_text : (c : ℕ) (v : Figure) → s ≡ Decided c v
      → status (record_value f) ≡ standing_bytes (text "decided") c v
  unfolding standing_told standing_text worded standing_bytes
  decided_text c v e = as_told (Decided c v) e

  pub spent_text : (c : ℕ) (v : Figure) → s ≡ Spent c v → status (record_value f) ≡ standing_bytes (text "spent") c v
  unfolding standing_told standing_text worded standing_bytes
  spent_text c v e = as_told (Spent c v) e

pub ruleset words = (idle_text, going_text, decided_text, spent_text)
