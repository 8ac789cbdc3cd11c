-- Why a record gives no row.
use Rattle.std.specs.Prelude.{ℕ, Bool, true, false}
use Rattle.ooc_types.specs.declared.refusal.RefusalKind.{RefusalKind}
use Rattle.ooc_types.specs.declared.refusal.RefusalKind.TheVariants.{FieldCount}
use Rattle.csv_load.specs.declared.fault.Reason.{Reason}

-- why a record is refused whose column doesn't take its field: where the fields are too many or too few, that comes first
abbrev pub reason_at : Bool → ℕ → RefusalKind → Reason
reason_at true column kind = record { column = column; kind = kind }
reason_at false column kind = record { column = 0; kind = FieldCount }
