use Rattle.class_table.proofs.TableLemmas.{first_table}
use Rattle.class_table.proofs.table.ClassTable.new.Goals as goal

pub invariant_of-result : goal.invariant_of-result
invariant_of-result c = record {
  by_name = c.in_ok-insert.ensures.by_name;
  is_table = rw (c.in_ok-insert.ensures.values, c.new-classes.ensures.empty, c.in_ok-class.ensures) first_table;
}
