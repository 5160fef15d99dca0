-- THE FIELDS OF A RECORD that the marker reads. Only the contracts of private functions speak of them. Assumes nothing.
use Rattle.word.specs.Record.{Record}
use Rattle.marker.specs.declared.Fields.{Fields}

abbrev pub fields_read : Record → Fields
fields_read x = record { level = x.level; lower = x.lower; upper = x.upper; first = x.first }

-- A record with these fields: no test asks for more.
abbrev pub record_in : Fields → Record
record_in x = record { level = x.level; lower = x.lower; upper = x.upper; first = x.first; entering = 0 }
