use Rattle.std.proofs.Common.{◌≡◌, ◌∙◌, ◌+◌, ◌++◌, ◌∷◌, [], suc, drop, sym, ap, ap₂, append_assoc, arith}
use Rattle.class_table.specs.Lookup.{properties}
use Rattle.session_model.specs.PropertyDescriptions.{declared_description, descriptions_from}
use Rattle.session_queries.specs.Views.{its_settings, its_state}
use Rattle.session_queries.proofs.QueriesLemmas.{drop_at}
use Rattle.session_queries.proofs.descriptions.properties.add_declared.Goals as goal

pub properties-preserved : goal.properties-preserved
properties-preserved c =
    let settings = its_settings c.args.session in
    let state = its_state c.args.session in
    let row = c.args.row in
    let number = c.properties.number in
    let all = properties settings.classes row.class in
    let property = c.in-Some.property.now in
    let one : suc number ≡ number + 1 = omega arith in
    let rest = descriptions_from settings state row (suc number) (drop (suc number) all) in
    ap₂ (λ described next. described ++ descriptions_from settings state row next (drop next all))
    (c.in_ok-push.ensures.ok ∙ ap (λ one. c.properties.described ++ one ∷ []) c.in_ok-declared_description.ensures) (sym one)
    ∙ (append_assoc c.properties.described (declared_description settings state row number property ∷ []) rest
    ∙ (ap (λ left. c.properties.described ++ descriptions_from settings state row number left) (sym (drop_at all number property c.in-Some.ensures.value))
    ∙ c.properties.invariant))
