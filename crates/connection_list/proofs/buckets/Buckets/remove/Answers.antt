use Rattle.std.proofs.Common.{◌<◌, ◌≤◌, ap, arith, length}
use Rattle.shared_rows.specs.Links.{Linked, without_link}
use Rattle.connection_list.specs.declared.link.Link.{Link}
use Rattle.connection_list.specs.Routes.{link_cmp}
use Rattle.connection_list.proofs.BucketLemmas.{changes_few, changes_many}
use Rattle.connection_list.proofs.buckets.Buckets.remove.Goals as goal

pub returns-then-number-len : goal.returns-then-number-len
returns-then-number-len c =
    let within : c.bucket_number-number.result < length c.self.inside.many.items = omega arith in
    changes_many c.self.view_is c.args.link.object c.bucket_number-number.ensures.number (λ links. without_link link_cmp links c.args.link)
    c.index_mut-bucket.result.now c.remove.new.self within c.index_mut-bucket.ensures.value (ap (λ (l : Linked Link). l.links) c.remove.ensures)

pub returns-else-number-len : goal.returns-else-number-len
returns-else-number-len c =
    let past : length c.self.inside.many.items ≤ c.bucket_number-number.result = omega arith in
    changes_few c.self.view_is c.args.link.object c.bucket_number-number.ensures.number (λ links. without_link link_cmp links c.args.link)
    c.remove-else-number-len.new.self past (ap (λ (l : Linked Link). l.links) c.remove-else-number-len.ensures)
