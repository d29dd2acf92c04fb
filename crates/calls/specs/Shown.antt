-- A shown line that is handed back as 512 bytes and a length.
-- Relies on the model's answers; the contract of `show_by_value` relies on it.
use Rattle.model.specs.Show.{Shown}
use Rattle.model.specs.Told.{verdict}
use Rattle.calls.specs.declared.showing.ShownLine.{ShownLine}

-- "by value as 512 bytes, zeros after the line, and its length": the bytes as they are
unfoldable pub shown_bytes : ShownLine → Shown
shown_bytes s = record { refusal = verdict s.verdict; line = s.bytes; len = s.len }
