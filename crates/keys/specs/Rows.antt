-- A row of the code's tables as the field that it says.
use Rattle.keys.specs.Keys.{Entry}
use Rattle.keys.specs.declared.Row.{Row}

abbrev pub entry_of : Row → Entry
entry_of r = record { key = r.key.now; form = r.form }
