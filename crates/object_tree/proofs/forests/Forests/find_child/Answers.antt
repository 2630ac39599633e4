use Rattle.std.proofs.Common.{◌≡◌, ℕ, Option}
use Rattle.std.proofs.lemmas.Result.{IfOk-weaker}
use Rattle.object_tree.specs.Finding.{IsNearest, found_below}
use Rattle.object_tree.specs.Table.{forest_at}
use Rattle.object_tree.proofs.NearestLemmas.{finds_nearest}
use Rattle.object_tree.proofs.forests.Forests.find_child.Goals as goal

pub returns-clause-nearest : goal.returns-clause-nearest
returns-clause-nearest g c = λ passes by.
    let rows = (forest_at c.args.self.now c.args.place).rows in
    IfOk-weaker c.find_below.result (λ (found : Option ℕ). found ≡ found_below rows c.args.object passes)
    (λ (found : Option ℕ). IsNearest rows c.args.object passes found)
    (λ found is. (let found_is : found ≡ found_below rows c.args.object passes = is in rw found_is
    (finds_nearest (forest_at c.args.self.now c.args.place) c.law_sound.ensures c.args.object passes)))
    (c.find_below.ensures passes by)
