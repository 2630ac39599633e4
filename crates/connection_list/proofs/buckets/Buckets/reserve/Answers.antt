use Rattle.std.proofs.Common.{◌<◌, ◌≤◌, arith, length, set}
use Rattle.connection_list.proofs.BucketLemmas.{same_few, same_many, same_twice}
use Rattle.connection_list.proofs.buckets.Buckets.reserve.Goals as goal

pub returns-then-number-len-clause-same : goal.returns-then-number-len-clause-same
returns-then-number-len-clause-same c =
    let within : c.bucket_number-number.result < length c.self.inside.many.items = omega arith in
    same_twice c.args.self.now c.divide.new.self
    (record { few = c.self.inside.few; many = set c.self.inside.many.items c.bucket_number-number.result c.reserve.new.self }) c.divide.ensures
    (same_many c.self.view_is c.args.object c.bucket_number-number.ensures.number c.index_mut-bucket.result.now c.reserve.new.self within
    c.index_mut-bucket.ensures.value c.reserve.ensures.links)

pub returns-else-number-len-clause-same : goal.returns-else-number-len-clause-same
returns-else-number-len-clause-same c =
    let past : length c.self.inside.many.items ≤ c.bucket_number-number.result = omega arith in
    same_twice c.args.self.now c.divide.new.self (record { few = c.reserve-else-number-len.new.self; many = c.self.inside.many.items }) c.divide.ensures
    (same_few c.self.view_is c.args.object c.bucket_number-number.ensures.number c.reserve-else-number-len.new.self past
    c.reserve-else-number-len.ensures.links)
