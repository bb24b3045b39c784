use Rattle.std.proofs.Common.{ap}
use Rattle.value_styles.proofs.Seen.{elements_seen}
use Rattle.value_sources.proofs.Told.{strings_told}
use Rattle.value_styles.proofs.ToldElements.{element_told, arm_told}
use Rattle.value_sources.specs.Finds.{both, and-true}
use Rattle.value_styles.proofs.laws.element_equality_decides.Goals as goal

pub returns-clause-element : goal.returns-clause-element
returns-clause-element c =
    let formatting = c.formatting_equality_decides.ensures in
    let chosen = c.choice_equality_decides.ensures in
    let options = c.options_equality_decides.ensures in
    element_told options.target options.affixes options.options formatting.asked formatting.display chosen.condition chosen.matching

pub returns-clause-branch : goal.returns-clause-branch
returns-clause-branch c =
    let formatting = c.formatting_equality_decides.ensures in
    let chosen = c.choice_equality_decides.ensures in
    let options = c.options_equality_decides.ensures in
    arm_told options.target options.affixes options.options formatting.asked formatting.display chosen.condition chosen.matching

pub returns-clause-named : goal.returns-clause-named
returns-clause-named c a b =
    let children = elements_seen (returns-clause-element c) a.children.items b.children.items in (
      λ e. let p = both _ _ e in λ i. record { name = (strings_told a.name b.name).0 p.0 i; children = children.0 p.1 i },
      λ e. and-true _ _ ((strings_told a.name b.name).1 (ap (λ m. m.name) e)) (children.1 (ap (λ m. m.children) e)),
    )
