-- A move of `archipelago` put together of the record that was lent, as it stands afterwards, and what was handed back.
-- Relies on the declared types; the contract of `advance_record` relies on it.
use Rattle.model.specs.declared.Record.{Record}
use Rattle.archipelago.specs.declared.Moved.{Moved}
use Rattle.stepper.specs.declared.Access.{Access}

abbrev pub with_station : Record → Access → Moved
with_station f a = record { station = f; written = a.written; answer = a.answer }
