use Rattle.std.proofs.Common.{◌≡◌, ◌∙◌, string_bytes}
use Rattle.class_table.proofs.EntryLemmas.{entries-push, names-push, values-push}
use Rattle.class_table.proofs.table.insert.Goals as goal

pub returns : goal.returns
returns c =
    let entries = c.args.classes.now.entries in
    let named : string_bytes c.in_ok-name.name ≡ c.args.class.name = c.in_ok-name.ensures.ok ∙ c.as_str.ensures in
    let e = c.in_ok-insert.ensures.entries ∙ entries-push entries c.in_ok-name.name c.args.class c.requires.by_name named c.requires.is_new in
    record {
      kept = tt;
      by_name = rw e (names-push entries c.in_ok-name.name c.args.class c.requires.by_name named);
      values = rw e (values-push entries c.in_ok-name.name c.args.class);
    }
