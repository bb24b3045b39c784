use Rattle.std.proofs.Common.{◌≡◌, ◌∙◌, ◌∷◌, ap}
use Rattle.std.specs.Prelude.{unwrap_or}
use Rattle.write_html.specs.Page.{with_characters}
use Rattle.write_html.specs.Shown.{base}
use Rattle.write_html.proofs.html.Page.push_char.Goals as goal

pub returns-clause-text : goal.returns-clause-text
returns-clause-text c more =
    let same : c.unwrap_or.result ≡ base c.args.c = c.unwrap_or.ensures ∙ ap (λ o. unwrap_or o c.args.c) c.base_of-base.ensures in
    c.in_ok-push.ensures more
    ∙ (c.in_ok-open_tags_after.ensures.text (c.unwrap_or.result ∷ more)
    ∙ ap (λ x. with_characters c.args.self.now (x ∷ more)) same)
