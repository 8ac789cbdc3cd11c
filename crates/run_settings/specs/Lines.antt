-- The line that a run ends with.
use Rattle.std.specs.Prelude.{ℕ, List, [], ◌++◌, codes, decimal, if◌then◌else◌, ◌==◌}
use Rattle.ooc_types.specs.declared.refusal.RefusalKind.{RefusalKind}
use Rattle.ooc_types.specs.declared.refusal.RefusalKind.TheVariants as kind
use Rattle.row_image.specs.declared.image.Damage.{Damage}
use Rattle.row_image.specs.declared.image.DamageField.{DamageField}
use Rattle.row_image.specs.declared.image.DamageField.TheVariants as field
use Rattle.run_settings.specs.declared.status.Status.{Status}
use Rattle.run_settings.specs.declared.status.Status.TheVariants.{Done, Refused, Usage, ReadFault, WriteFault, SpillFault, SpillDamaged, OutOfMemory}
use Rattle.run_settings.specs.declared.status.UsageFault.{UsageFault}
use Rattle.run_settings.specs.declared.status.UsageFault.TheVariants.{Words, TooFewFrames, TooManyFrames}
use Rattle.run_settings.specs.declared.status.Place.{Place}
use Rattle.run_settings.specs.declared.status.Place.TheVariants.{Whole, Byte, Record}
use Rattle.run_settings.specs.declared.status.Refusal.{Refusal}

-- the words of a refusal's kind
abbrev pub kind_text : RefusalKind → List ℕ
kind_text kind.BadToken = codes "bad token"
kind_text kind.Syntax = codes "syntax"
kind_text kind.TooDeep = codes "too deep"
kind_text kind.ScriptTooLong = codes "too long"
kind_text kind.NoFile = codes "no file"
kind_text kind.NoTable = codes "no table"
kind_text kind.TableExists = codes "table exists"
kind_text kind.NoColumn = codes "no column"
kind_text kind.Ambiguous = codes "ambiguous"
kind_text kind.DuplicateName = codes "duplicate name"
kind_text kind.NoType = codes "no type"
kind_text kind.NoFunction = codes "no function"
kind_text kind.TypeMismatch = codes "type mismatch"
kind_text kind.AggregateHere = codes "aggregate here"
kind_text kind.NotGrouped = codes "not grouped"
kind_text kind.SumTooWide = codes "sum too wide"
kind_text kind.DecimalTooWide = codes "decimal too wide"
kind_text kind.TooManyColumns = codes "too many columns"
kind_text kind.TooManyTables = codes "too many tables"
kind_text kind.BadOption = codes "bad option"
kind_text kind.BadPosition = codes "bad position"
kind_text kind.ColumnCount = codes "column count"
kind_text kind.InHere = codes "in here"
kind_text kind.DistinctMix = codes "distinct mix"
kind_text kind.BadDate = codes "bad date"
kind_text kind.NotInSession = codes "not in session"
kind_text kind.TextTooLong = codes "text too long"
kind_text kind.FileTooLong = codes "file too long"
kind_text kind.RecordTooLong = codes "record too long"
kind_text kind.OpenQuote = codes "open quote"
kind_text kind.FieldCount = codes "field count"
kind_text kind.NullRefused = codes "null refused"
kind_text kind.BadUtf8 = codes "bad utf8"
kind_text kind.BadValue = codes "bad value"
kind_text kind.Overflow = codes "overflow"
kind_text kind.CountOverflow = codes "count overflow"
kind_text kind.ResultTooLarge = codes "result too large"
kind_text kind.NotBuilt = codes "not built"

abbrev pub place_text : Place → List ℕ
place_text Whole = []
place_text (Byte at) = codes " at " ++ decimal at
place_text (Record number column) = codes " record " ++ (decimal number ++ (codes " column " ++ decimal column))

-- the script, whose refusals have the number 0, or a statement
abbrev pub subject_text : ℕ → List ℕ
subject_text statement = if statement == 0 then codes "script" else codes "statement " ++ decimal statement

abbrev pub refusal_line : Refusal → List ℕ
refusal_line r = codes "error: " ++ (subject_text r.statement ++ (place_text r.place ++ (codes ": " ++ (kind_text r.kind ++ codes "\n"))))

abbrev pub usage_line : UsageFault → List ℕ
usage_line Words = codes "usage: oocsql [--threads N] [--limit BYTES] [--page BYTES] SCRIPT\n"
usage_line (TooFewFrames frames) = codes "usage: " ++ (decimal frames ++ codes " frames, 24 needed\n")
usage_line (TooManyFrames frames) = codes "usage: " ++ (decimal frames ++ codes " frames, at most 16777216\n")

-- the name of the rule that a page breaks
abbrev pub field_text : DamageField → List ℕ
field_text field.Kind = codes "Kind"
field_text field.Width = codes "Width"
field_text field.Rows = codes "Rows"
field_text field.Parts = codes "Parts"
field_text field.PartFirst = codes "PartFirst"
field_text field.PartRows = codes "PartRows"
field_text field.PartBase = codes "PartBase"
field_text field.CellBit = codes "CellBit"
field_text field.CellLength = codes "CellLength"
field_text field.CellPad = codes "CellPad"
field_text field.CellAddress = codes "CellAddress"
field_text field.HeapUsed = codes "HeapUsed"

abbrev pub damage_line : Damage → List ℕ
damage_line d = codes "error: spill damaged: " ++ (field_text d.field ++ (codes " found " ++ (decimal d.found ++ (codes " bound " ++ (decimal d.bound ++ codes "\n")))))

-- nothing for a run that is done, or whose output failed
abbrev pub line_of : Status → List ℕ
line_of Done = []
line_of (Refused r) = refusal_line r
line_of (Usage fault) = usage_line fault
line_of ReadFault = codes "error: read fault\n"
line_of WriteFault = []
line_of SpillFault = codes "error: spill fault\n"
line_of (SpillDamaged damage) = damage_line damage
line_of OutOfMemory = codes "error: out of memory\n"
