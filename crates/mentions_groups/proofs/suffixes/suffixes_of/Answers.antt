use Rattle.std.proofs.Common.{ap, subst, sym, IfOk, ◌≡◌, ◌∙◌}
use Rattle.mentions_groups.specs.Suffixes.{suffixes_by}
use Rattle.mentions_groups.proofs.suffixes.suffixes_of.Goals as goal

pub returns : goal.returns
returns c =
    subst (λ es. IfOk c.suffixes_by.result (λ v. v.items ≡ suffixes_by es)) (c.deref-6.ensures.value ∙ c.in_ok-entries.ensures) c.suffixes_by.ensures
