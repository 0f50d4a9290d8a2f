use Rattle.tcap_laws.proofs.Rows.ClassTables.{class-tables}
use Rattle.tcap_laws.proofs.invoking.class_tables_agree.Goals as goal

pub returns : goal.returns
returns c = class-tables
