use Rattle.std.proofs.Common.{◌≡◌, ℕ, ◌+◌, ◌<◌, List, [], ◌∷◌, ◌++◌, ap, get_or, length, map, sym, take, ◌∙◌}
use Rattle.std.specs.List.{enumerate_from}
use Rattle.std.proofs.lemmas.List.{get_or_default}
use Rattle.mentions_blocks.specs.declared.years.BlockYear.{BlockYear}
use Rattle.list_lemmas.proofs.Stepping.{enumerate-all, made-next}
use Rattle.mentions_arranging.specs.Collapsing.{whole_in_part}
use Rattle.mentions_arranging.proofs.years.whole_in_parts.Goals as goal

years-next : (parts : List ℕ) (k d : ℕ) → k < length parts → (found all : List BlockYear) (y : BlockYear) → found ≡ map whole_in_part (take k (enumerate_from 0 parts)) → y ≡ whole_in_part (k, get_or parts k d) → all ≡ found ++ y ∷ []
    → all ≡ map whole_in_part (take (k + 1) (enumerate_from 0 parts))
years-next parts k d within found all y so_far is pushed =
    let part = get_or parts k d in
    pushed ∙ (λ i. so_far i ++ is i ∷ []) ∙ sym (made-next parts k part within (get_or_default parts k d part within) whole_in_part)

pub loop-place-preserved : goal.loop-place-preserved
loop-place-preserved c =
    years-next c.args.parts.now c.loop-place.place 0 c.loop-place-test.true c.loop-place.years.items c.push.new.self.items c.whole_in_part.result c.loop-place.invariant c.whole_in_part.ensures c.in_ok-push.ensures.items

pub returns : goal.returns
returns c = c.loop-place.invariant ∙ ap (map whole_in_part) (enumerate-all c.args.parts.now c.loop-place.place c.loop-place-test.false)
