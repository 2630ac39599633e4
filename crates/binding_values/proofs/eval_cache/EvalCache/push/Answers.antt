use Rattle.std.proofs.Common.{◌≡◌, ◌∙◌, ◌++◌, ◌∷◌, [], List, ap, length, subst, sym, arith}
use Rattle.binding_values.specs.declared.eval_result.CacheEntry.{CacheEntry}
use Rattle.binding_values.specs.Listed.{IsListed}
use Rattle.binding_values.specs.Order.{IsOrdered}
use Rattle.binding_values.proofs.EvalCacheLemmas.{ordered_more}
use Rattle.binding_values.proofs.eval_cache.EvalCache.push.Goals as goal

pub invariant_of-self-2 : goal.invariant_of-self-2
invariant_of-self-2 c =
    let count : c.len.result ≡ length c.self.inside.rows.items =
    omega (arith, c.len.ensures, c.reserve.new.self.ok, ap (length {A = CacheEntry}) c.in_ok-reserve.ensures.items) in
    subst (λ (rows : List CacheEntry). IsOrdered rows c.enter.new.order.items)
    (sym (c.push_reserved.ensures.items ∙ ap (λ rows. rows ++ c.args.row ∷ []) c.in_ok-reserve.ensures.items))
    (ordered_more c.self.inside.rows.items c.self.inside.order.items c.enter.new.order.items c.self.invariant c.args.row
    (subst (IsListed c.self.inside.order.items c.enter.new.order.items c.args.row.at) count c.in_ok-enter.ensures.ok))
