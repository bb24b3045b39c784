use Rattle.std.proofs.Common.{Ok, map, subst}
use Rattle.std.specs.List.Sorted.{IsPermutation}
use Rattle.std.proofs.lemmas.List.Sorted.{All-permutation, IsPermutation-map}
use Rattle.cite_sorting.proofs.ties.sorted_rows.Given as given
use Rattle.cite_sorting.proofs.ties.sorted_rows.Goals as goal

pub returns-clause-same : goal.returns-clause-same
returns-clause-same g c =
    subst (λ indexes. IsPermutation indexes (map (λ row. row.index) c.sort.new.self.items))
    c.in_ok-rows.ensures.same (IsPermutation-map (λ row. row.index) _ _ c.sort.ensures.permutation)

pub returns-clause-values : goal.returns-clause-values
returns-clause-values g c =
    All-permutation (λ row. given.F-post g c.args.value.now c.args.key row.index (Ok row.value)) c.in_ok-rows.rows.items c.sort.new.self.items c.sort.ensures.permutation c.in_ok-rows.ensures.values
