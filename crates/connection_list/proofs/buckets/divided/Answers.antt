use Rattle.std.proofs.Common.{◌∙◌, ◌<◌, ◌≤◌, ap, arith, get_or, length}
use Rattle.connection_list.proofs.BucketLemmas.{held_all, held_more}
use Rattle.connection_list.proofs.buckets.divided.Goals as goal

pub links-preserved : goal.links-preserved
links-preserved c =
    let within : c.links.at < length c.args.few.now.links =
    omega (arith, ap length c.as_buffer-all.ensures.links) in
    held_more c.links.invariant within
    (λ default. c.get-link.ensures default ∙ ap (λ list. get_or list c.links.at default) c.as_buffer-all.ensures.links)
    c.bucket_number-number.ensures.number c.bucket_number-number.ensures.bound c.index_mut-bucket.result.now c.insert.new.self
    c.index_mut-bucket.ensures.value c.in_ok-insert.ensures.ok

pub returns : goal.returns
returns c =
    let past : length c.args.few.now.links ≤ c.links.at =
    omega (arith, ap length c.as_buffer-all.ensures.links) in
    held_all c.args.few.now.links c.links.at c.links.many.items past c.links.invariant
