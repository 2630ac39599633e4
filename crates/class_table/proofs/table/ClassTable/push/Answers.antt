use Rattle.std.specs.Map.{values_of}
use Rattle.class_table.specs.Sound.{FitsBehind}
use Rattle.class_table.proofs.TableLemmas.{IsTable-push}
use Rattle.class_table.proofs.table.ClassTable.push.Goals as goal

pub insert-requires : goal.insert-requires
insert-requires c =
    let fits : FitsBehind (values_of c.self.inside.classes.entries) c.args.class = rw c.self.view_is c.requires.fits in
    record { by_name = c.self.invariant.by_name; is_new = fits.is_new }

pub invariant_of-self-2 : goal.invariant_of-self-2
invariant_of-self-2 c =
    let fits : FitsBehind (values_of c.self.inside.classes.entries) c.args.class = rw c.self.view_is c.requires.fits in
    record {
      by_name = c.in_ok-insert.ensures.by_name;
      is_table = rw c.in_ok-insert.ensures.values
          (IsTable-push (values_of c.self.inside.classes.entries) c.args.class c.self.invariant.is_table (rw c.self.view_is c.requires.room) fits);
    }

pub returns : goal.returns
returns c = record { ok = rw (c.in_ok-insert.ensures.values, c.self.view_is); err = tt }
