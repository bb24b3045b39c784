use Rattle.std.proofs.Common.{◌∙◌, refl, sym}
use Rattle.write_html.proofs.Texts.{letter_of_line}
use Rattle.write_html.proofs.markup.Markup.push.Goals as goal

pub returns : goal.returns
returns c more =
    letter_of_line c.args.self.now.takes_space c.args.c more _ _ _ (sym c.is_control.ensures ∙ c.if-is_control.false) refl c.in_ok-push_shown.ensures.text
