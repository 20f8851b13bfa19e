-- A head with its generation, as the program reads it.
use Rattle.journal_sides.specs.declared.head_reading.Opening.{Opening}
use Rattle.journal_sides.specs.Heads.{Opening as OpeningValue, head_value}

abbrev pub opening_value : Opening → OpeningValue
opening_value opening = record { generation = opening.generation; head = head_value opening.head }
