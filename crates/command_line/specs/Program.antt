-- The command line of metad as clap sees it.
use Rattle.std.specs.Prelude.{Some, true, codes, pos}
use Rattle.clap.specs.Words.{App, Rule, new_app, new_rule, with_rule}
use Rattle.clap.specs.Simple.{on_top}
use Rattle.clap.specs.declared.builder.value_parser.ValueParser.TheVariants.{Signed}

-- The path.
abbrev pub classes_rule : Rule
classes_rule = record (new_rule (codes "classes")) { value_names = 1 }

-- `--turns N`, a whole number from 1 to 1,000,000.
abbrev pub turns_rule : Rule
turns_rule = record (new_rule (codes "turns")) {
  long = Some (codes "turns");
  value_names = 1;
  parser = Some (Signed (pos 1) (pos 1000000));
}

-- `--slice NAME`, any text.
abbrev pub slice_rule : Rule
slice_rule = record (new_rule (codes "slice")) { long = Some (codes "slice"); value_names = 1 }

-- `metad [OPTIONS] [CLASSES]`, read from the words after the program's name.
abbrev pub metad : App
metad = with_rule (with_rule (with_rule (on_top (λ s. record s { no_binary_name = true }) (new_app (codes "metad"))) classes_rule) turns_rule) slice_rule
