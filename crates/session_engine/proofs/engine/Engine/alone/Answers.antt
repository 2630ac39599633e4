use Rattle.std.proofs.Common.{◌+◌, ◌++◌, suc, List, Some, None, drop, position, map, take, refl, sym, ap, subst, ◌∙◌, arith}
use Rattle.std.specs.Prelude.{bytes_eq}
use Rattle.std.proofs.lemmas.List.{take_all}
use Rattle.session_engine.proofs.Common.{EngineState, seen_by_name, Coming, HaveCome, item_of, AreSound, seen_engine}
use Rattle.session_engine.specs.Items.{RunsAlone}
use Rattle.session_engine.proofs.EngineLemmas.{sound_by_name}
use Rattle.session_engine.proofs.ItemsLemmas.{come_last, come_more, items_more, items_split, none_of_err, runs_alone}
use Rattle.session_engine.proofs.engine.Engine.alone.Goals as goal

pub items-init : goal.items-init
items-init g c = record { come = λ name there. (refl, ap Some c.new-told.ensures); places = record { names = refl; there = c.requires.there } }

pub returns-in_err-come-clause-alone : goal.returns-in_err-come-clause-alone
returns-in_err-come-clause-alone g c = λ name there.
    let here = ap (λ names. position (bytes_eq name) names) c.items.invariant.places.names ∙ there in
    let list = c.args.items.now in
    let come = come_last (seen_by_name c.args.self.now.core) (seen_by_name c.items.self.core) (seen_by_name c.come.new.self.core) name
    (map item_of (take c.items.item-index list)) (item_of c.item-item.result) (map item_of (drop (suc c.items.item-index) list)) c.items.told
    (c.items.invariant.come name there) (c.in_err-come.ensures.err name here) in
    subst (RunsAlone (seen_by_name c.args.self.now.core) (seen_by_name c.come.new.self.core) name (map item_of list))
    (sym (none_of_err c.from_residual.result c.from_residual.ensures.0))
    (runs_alone _ _ name _ None (subst (λ (engine : EngineState). AreSound (seen_by_name engine)) (ap seen_engine c.self.view_is)
    (sound_by_name _ c.self.invariant))
    (subst (λ (items : List Coming). HaveCome (seen_by_name c.args.self.now.core) (seen_by_name c.come.new.self.core) name items None)
    (sym (items_split list c.items.item-index c.item-item.result (omega arith) c.item-item.is)) come))

pub items-preserved : goal.items-preserved
items-preserved g c = record {
  come = λ name there.
      let here = ap (λ names. position (bytes_eq name) names) c.items.invariant.places.names ∙ there in
      let list = c.args.items.now in
      let added = c.in_ok-come.ensures.ok name here in
      subst (λ told. HaveCome (seen_by_name c.args.self.now.core) (seen_by_name c.come.new.self.core) name (map item_of (take (c.items.item-index + 1) list))
      (Some told)) (sym added.2)
      (subst (λ (items : List Coming). HaveCome (seen_by_name c.args.self.now.core) (seen_by_name c.come.new.self.core) name items
      (Some (c.items.told ++ added.0))) (sym (items_more list c.items.item-index c.item-item.result (omega arith) c.item-item.is))
      (come_more (seen_by_name c.args.self.now.core) (seen_by_name c.items.self.core) (seen_by_name c.come.new.self.core) name
      (map item_of (take c.items.item-index list)) (item_of c.item-item.result) c.items.told added.0 (c.items.invariant.come name there) added.1));
  places = record {
    names = c.in_ok-come.ensures.places.names ∙ c.items.invariant.places.names;
    there = c.in_ok-come.ensures.places.there;
  };
}

pub returns-clause-alone : goal.returns-clause-alone
returns-clause-alone g c = λ name there.
    runs_alone _ _ name _ _ (subst (λ (engine : EngineState). AreSound (seen_by_name engine)) (ap seen_engine c.self.view_is)
    (sound_by_name _ c.self.invariant))
    (subst (λ (items : List Coming). HaveCome (seen_by_name c.args.self.now.core) (seen_by_name c.items.self.core) name items (Some c.items.told))
    (ap (map item_of) (take_all c.items.item-index c.args.items.now (omega arith))) (c.items.invariant.come name there))
