use Rattle.std.proofs.Common.{◌≡◌, ◌++◌, drop, filter, map}
use Rattle.session_model.specs.ClassDescriptions.{is_wanted, declared_method}
use Rattle.session_queries.proofs.descriptions.classes.add_methods.Given as goal

-- those so far, and then those to come
abbrev pub invariant-methods : goal.invariant-methods
invariant-methods l = l.described ++ map (declared_method l.row.name) (filter (is_wanted l.signals) (drop l.method-index l.row.methods)) ≡ l.fn.described
    ++ map (declared_method l.row.name) (filter (is_wanted l.signals) l.row.methods)
