use Rattle.std.proofs.Common.{◌∙◌, refl}
use Rattle.write_html.proofs.Streams.{same_continued}
use Rattle.write_html.proofs.html.Page.open_link.Goals as goal

pub returns-in_ok-open_link-in-Some-clause-text : goal.returns-in_ok-open_link-in-Some-clause-text
returns-in_ok-open_link-in-Some-clause-text c =
    (refl, λ m. same_continued _ _ _ _ c.in_ok-open_link-in-Some.ensures.text c.open_link.ensures.takes_space m ∙ c.in_ok-open_tags-in-Some.ensures.text m)
