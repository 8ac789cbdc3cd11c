-- The states of csv's machine that the four states are, and what its actions are.
use Rattle.csv.specs.declared.parser.State.{State}
use Rattle.csv.specs.declared.parser.State.TheVariants as st
use Rattle.csv.specs.declared.parser.Action.{Action}
use Rattle.csv.specs.declared.parser.Action.TheVariants as act
use Rattle.csv_records.specs.declared.mark.Mark.{Mark}
use Rattle.csv_records.specs.declared.mark.Mark.TheVariants.{FieldStart, Plain, Quoted, QuoteSeen}
use Rattle.csv_records.specs.declared.fields.Part.{Part}
use Rattle.csv_records.specs.declared.fields.Part.TheVariants.{Skip, Copy, EndField}

abbrev pub csv_state : Mark → State
csv_state FieldStart = st.StartField
csv_state Plain = st.InField
csv_state Quoted = st.InQuoted
csv_state QuoteSeen = st.AfterQuote

abbrev pub csv_action : Part → Action
csv_action Skip = act.Skip
csv_action Copy = act.Copy
csv_action EndField = act.EndField
