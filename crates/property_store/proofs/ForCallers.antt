-- What other crates prove by.
pub use Rattle.property_store.proofs.DynamicLemmas.{with_dynamic_sound, without_dynamic_sound}
pub use Rattle.property_store.proofs.KindLemmas.{converted_fits, default_kind, default_short, kind_there, ok_or_none}
pub use Rattle.property_store.proofs.KindLemmas.{ok_or_some, with_value_sound}
pub use Rattle.property_store.proofs.ListLemmas.{filter_all, find_over_map, found, mapped, none_passes, position_some}
pub use Rattle.property_store.proofs.ListLemmas.{unmapped}
pub use Rattle.property_store.proofs.PendingLemmas.{both_marked}
pub use Rattle.property_store.proofs.SoundLemmas.{added_found, added_others, changed_fields, objects, objects_added}
pub use Rattle.property_store.proofs.SoundLemmas.{objects_changed, objects_without, sound_added, sound_changed}
pub use Rattle.property_store.proofs.SoundLemmas.{sound_empty, sound_without, without_others}
