-- The answers to the commands that change nothing, or why they are refused.
use Rattle.std.specs.Prelude.{List, Ok, map}
use Rattle.std.specs.Option.{unwrap_or}
use Rattle.binding_values.specs.Scene.{term_at}
use Rattle.object_tree.specs.Rows.{children}
use Rattle.property_store.specs.Store.{dynamic_names}
use Rattle.variant_value.specs.declared.value.Value.TheVariants.{Invalid}
use Rattle.session_model.specs.declared.line.Answer.{Answer}
use Rattle.session_model.specs.declared.line.Answer.TheVariants as a
use Rattle.session_model.specs.declared.query.Query.{Query}
use Rattle.session_model.specs.declared.query.Query.TheVariants.{Children, Find, Get, DynamicNames, Meta, BindingError, Status}
use Rattle.session_model.specs.declared.query.Query.TheVariants.{Parent, FindAll, Classes, Functors, Publications, Joins}
use Rattle.session_model.specs.declared.query.Query.TheVariants.{Object, Describe, Connections, Properties}
use Rattle.session_model.specs.declared.query.Query.TheVariants.{Bindings, Binding}
use Rattle.session_model.specs.Absence.{absence, named_absence}
use Rattle.session_model.specs.Binding.{asked_property}
use Rattle.session_model.specs.Classes.{class_index, class_refusal, described, named_class_refusal}
use Rattle.session_model.specs.Operations.{behind}
use Rattle.session_model.specs.Events.{status}
use Rattle.session_model.specs.Methods.{Found, ◌>>=◌}
use Rattle.session_model.specs.Settings.{Settings}
use Rattle.session_model.specs.Showing.{named_value}
use Rattle.session_model.specs.State.{State, shown}
use Rattle.session_model.specs.BindingDescriptions.{binding_descriptions}
use Rattle.session_model.specs.ClassDescriptions.{class_description}
use Rattle.session_model.specs.ConnectionDescriptions.{connection_descriptions}
use Rattle.session_model.specs.FunctorDescriptions.{functor_description}
use Rattle.session_model.specs.ObjectDescriptions.{asked_row, object_description}
use Rattle.session_model.specs.PropertyDescriptions.{property_descriptions}
use Rattle.session_model.specs.SharingDescriptions.{join_description, publication_description}
use Rattle.session_model.specs.Trees.{all_found_in, found_in}

-- The answer to a query in a session with this state, or its refusal.
abbrev pub query_answer : Settings → State → Query → Found Answer
query_answer settings state (Children target) = behind (named_absence state target) (Ok (a.Numbers (children state.forest.rows target)))
query_answer settings state (Find target title class) =
    behind (absence state target) (
    behind (named_class_refusal settings.classes class)
    (Ok (a.Found (found_in settings.classes state target title class))))
query_answer settings state (Get target property) = behind (absence state target) (Ok (a.Value (unwrap_or (named_value state target property) Invalid)))
query_answer settings state (DynamicNames target) = behind (absence state target) (Ok (a.Names (dynamic_names state.store target)))
query_answer settings state (Meta class) =
    behind (class_refusal settings.classes class) (Ok (a.Meta (described settings.classes (class_index settings.classes class))))
query_answer settings state (BindingError target property) =
    asked_property state target property >>= λ at.
    Ok (a.BindingError (shown state at.object at.number).1)
query_answer settings state Status = Ok (a.Status (status state))
query_answer settings state (Parent target) = asked_row state target >>= λ row. Ok (a.Found row.parent)
query_answer settings state (FindAll target title class) =
    behind (absence state target) (
    behind (named_class_refusal settings.classes class)
    (Ok (a.Numbers (all_found_in settings.classes state target title class))))
query_answer settings state Classes = Ok (a.Names (map (λ class. class.name) settings.classes))
query_answer settings state Functors = Ok (a.Functors (map functor_description settings.functors))
query_answer settings state Publications = Ok (a.Publications (map (publication_description settings state) state.desk.publications))
query_answer settings state Joins = Ok (a.Joins (map (join_description settings state) state.desk.joins))
query_answer settings state (Object target) = asked_row state target >>= λ row. Ok (a.Object (object_description settings state row))
query_answer settings state (Describe class) =
    behind (class_refusal settings.classes class) (Ok (a.Class (class_description settings.classes (class_index settings.classes class))))
query_answer settings state (Connections target after) =
    behind (named_absence state target) (Ok (a.Connections (connection_descriptions settings state target after)))
query_answer settings state (Properties target) = asked_row state target >>= λ row. Ok (a.Properties (property_descriptions settings state row))
query_answer settings state (Bindings after) = Ok (a.Bindings (binding_descriptions settings state after))
query_answer settings state (Binding target property) =
    asked_property state target property >>= λ at.
    Ok (a.Binding (term_at state.graph.bindings at))
