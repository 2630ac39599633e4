use Rattle.std.proofs.Common.{◌≡◌, ◌∙◌, false, IfNone, Option, None, Some, is_some, sym}
use Rattle.property_store.specs.Table.{store_at}
use Rattle.binding_values.specs.Stored.{scene_of}
use Rattle.binding_values.proofs.SettlingLemmas.{apart_so}
use Rattle.binding_values.proofs.kept_index.KeptIndex.is_apart.Goals as goal

none_so : {A P : Type 0} (o : Option A) → IfNone o P → is_some o ≡ false → P
none_so None holds none = holds
none_so (Some a) holds none = absurd (cc)

pub returns : goal.returns
returns c = λ on. apart_so (scene_of (store_at c.args.stores.now.shelves c.args.place) c.args.bindings.now) c.args.at c.args.self.now
    (none_so _ c.bound_at.ensures.none (sym c.is_some.ensures ∙ c.if-is_some.false)) (c.reaches_nothing.ensures on)
