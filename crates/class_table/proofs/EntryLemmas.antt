-- The entries of a table: each class by its name.
use Rattle.std.proofs.Common.{◌≡◌, ◌∙◌, sym, ap, List, [], ◌∷◌, ◌++◌, None, map, string_bytes, position, bytes_eq, ℕ}
use Rattle.std.specs.Map.{keys_of, values_of}
use Rattle.std.specs.declared.alloc.Global.{Global}
use Rattle.std.specs.Prelude.{String}
use Rattle.std.specs.String.{string_eq}
use Rattle.std.proofs.lemmas.List.{map-append}
use Rattle.indexmap.specs.IndexMap.{insert_entry}
use Rattle.indexmap.proofs.MapLemmas.{insert_entry-absent, Missing-position}
use Rattle.class_table.specs.declared.class.Class.{Class}
use Rattle.class_table.specs.Lookup.{index_of}
use Rattle.class_table.proofs.ListLemmas.{position-map}

-- the names are the keys
pub by_keys : (name : List ℕ) (keys : List (String Global)) (classes : List Class) → map (λ key. string_bytes key) keys ≡ map (λ class. class.name) classes
    → position (λ key. bytes_eq name (string_bytes key)) keys ≡ index_of name classes
by_keys name keys classes e =
    sym (position-map (bytes_eq name) (λ key. string_bytes key) keys)
    ∙ (ap (position (bytes_eq name)) e ∙ position-map (bytes_eq name) (λ class. class.name) classes)

module _ (entries : List (String Global × Class)) (key : String Global) (class : Class)
    (by_name : map (λ key. string_bytes key) (keys_of entries) ≡ map (λ class. class.name) (values_of entries)) (named : string_bytes key ≡ class.name) where
  -- a class of a new name goes last
  pub entries-push : index_of class.name (values_of entries) ≡ None → insert_entry (string_eq {Z = Global}) entries key class ≡ entries ++ (key, class) ∷ []
  entries-push new =
      let absent : position (string_eq key) (keys_of entries) ≡ None = by_keys (string_bytes key) (keys_of entries) (values_of entries) by_name
      ∙ ((λ i. index_of (named i) (values_of entries)) ∙ new) in
      insert_entry-absent string_eq key class entries (Missing-position (string_eq key) entries absent).absent

  pub names-push : map (λ key. string_bytes key) (keys_of (entries ++ (key, class) ∷ [])) ≡ map (λ class. class.name) (values_of (entries ++ (key, class) ∷ []))
  names-push =
      let keys = ap (map (λ k. string_bytes k)) (map-append (λ e. e.0) entries ((key, class) ∷ []))
      ∙ map-append (λ k. string_bytes k) (keys_of entries) (key ∷ []) in
      let names = ap (map (λ c. c.name)) (map-append (λ e. e.1) entries ((key, class) ∷ [])) ∙ map-append (λ c. c.name) (values_of entries) (class ∷ []) in
      keys ∙ ((λ i. by_name i ++ named i ∷ []) ∙ sym names)

pub values-push : (entries : List (String Global × Class)) (key : String Global) (class : Class)
    → values_of (entries ++ (key, class) ∷ []) ≡ values_of entries ++ class ∷ []
values-push entries key class = map-append (λ e. e.1) entries ((key, class) ∷ [])
