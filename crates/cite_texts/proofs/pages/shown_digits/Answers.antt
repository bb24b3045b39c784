-- A reader knows the whole number by the digits that are shown.
use Rattle.std.proofs.Common.{◌≡◌, List, ℕ, ap, ◌∙◌}
use Rattle.cite_texts.specs.Pages.{changed_digits, whole_number}
use Rattle.cite_texts.proofs.Ranges.{read-back}
use Rattle.cite_texts.proofs.pages.shown_digits.Goals as goal

pub returns-clause-read_back : goal.returns-clause-read_back
returns-clause-read_back c =
    let shown : c.changed_digits.result.now ≡ changed_digits c.args.first.now c.args.whole.now c.least_digits.result = c.changed_digits.ensures in
    ap (λ (s : List ℕ). whole_number c.args.first.now s) shown
    ∙ read-back c.args.first.now c.args.whole.now c.least_digits.result c.requires.not_longer
