use Rattle.std.proofs.Common.{◌∙◌, ◌∷◌, ◌++◌, ap, map, sym}
use Rattle.std.specs.Str.{chars}
use Rattle.write_html.specs.Page.{are_quotes, with_characters, with_pieces}
use Rattle.write_html.specs.Shown.{base, spoken}
use Rattle.write_html.proofs.Streams.{on_ok_map, text_piece}
use Rattle.write_html.proofs.html.Page.push.Goals as goal

pub returns-in-Text : goal.returns-in-Text
returns-in-Text c =
    on_ok_map c.push_text.result
    (λ h more. text_piece c.args.self.now c.push_text.new.self c.as_str.result.now c.push_text.ensures.marks c.push_text.ensures.wraps h more
    ∙ (ap (λ t. with_characters c.args.self.now (map base (chars t ++ spoken c.args.self.now.marks (are_quotes c.args.self.now.wraps.items) more))) c.as_str.ensures.value
    ∙ ap (λ p. with_pieces c.args.self.now (p ∷ more)) (sym c.in-Text.is)))
    c.push_text.ensures.text
