use Rattle.std.proofs.Common.{◌≡◌, ◌∙◌, ap, get_or, sym, arith}
use Rattle.std.proofs.lemmas.Grind.{common_steps}
use Rattle.shared_rows.specs.Rows.{Keyed}
use Rattle.property_store.specs.declared.row.Row.{Row}
use Rattle.property_store.specs.Inside.{limited, shown}
use Rattle.property_store.specs.Store.{Properties}
use Rattle.property_store.specs.Table.{store_at}
use Rattle.property_store.proofs.PlaceLemmas.{at_there, shelves_seen}
use Rattle.property_store.proofs.stores.Stores.object_at.Goals as goal

pub at-requires-clause-place : goal.at-requires-clause-place
at-requires-clause-place c = grind (arith, common_steps)

pub at-requires-clause-stands : goal.at-requires-clause-stands
at-requires-clause-stands c = grind (arith, common_steps)

pub returns : goal.returns
returns c = record {
  object = λ default. ap (λ (of : Properties). of.object) (sym (there default));
  fields = λ default. c.fields_in.ensures
      ∙ ap (λ (of : Properties). of.fields) (sym (there default));
}
  where
    keyed : Keyed Row
    keyed = record { key = c.at.result.0; row = c.at.result.1.now }

    there : (default : Properties) → get_or (store_at c.args.self.now.shelves c.args.place) c.args.position default
        ≡ shown c.self.inside.layouts c.at.result.1.now
    there default = at_there (limited c.self.inside.rows c.self.inside.heads.room)
        (shelves_seen c.self.view_is) c.args.place c.requires.place c.args.position c.requires.stands keyed (c.at.ensures keyed) default
