use Rattle.std.proofs.Common.{◌∙◌, ◌∷◌, ap, refl}
use Rattle.write_html.specs.Page.{are_quotes, with_pieces_in}
use Rattle.write_html.specs.Shown.{inside, is_quotes}
use Rattle.write_html.proofs.Streams.{if_ok_map, inside_is, other_begun, quotes_begun, same_continued}
use Rattle.write_html.proofs.html.Page.begin.Goals as goal

pub returns-in-Formatting-clause-text : goal.returns-in-Formatting-clause-text
returns-in-Formatting-clause-text c = other_begun c.args.self.now c.args.self.now c.args.wrap.now (ap is_quotes c.in-Formatting.is) refl (λ m. refl)

pub returns-in-Markup-clause-text : goal.returns-in-Markup-clause-text
returns-in-Markup-clause-text c = other_begun c.args.self.now c.args.self.now c.args.wrap.now (ap is_quotes c.in-Markup.is) refl (λ m. refl)

pub returns-in-Mark-clause-text : goal.returns-in-Mark-clause-text
returns-in-Mark-clause-text c = other_begun c.args.self.now c.args.self.now c.args.wrap.now (ap is_quotes c.in-Mark.is) refl (λ m. refl)

pub returns-in_ok-push_text-in-Quotes-clause-text : goal.returns-in_ok-push_text-in-Quotes-clause-text
returns-in_ok-push_text-in-Quotes-clause-text c =
    quotes_begun c.args.self.now (record c.push_text.new.self { marks = c.inside-self.result }) c.args.wrap.now (ap is_quotes c.in-Quotes.is)
    (inside_is c.push_text.new.self.marks c.inside-self.result c.inside-self.ensures.opens c.inside-self.ensures.closes c.inside-self.ensures.opens_inside c.inside-self.ensures.closes_inside
    ∙ ap inside c.push_text.ensures.marks)
    c.in_ok-push_text-in-Quotes.ensures.text

pub returns-in-Link-clause-text : goal.returns-in-Link-clause-text
returns-in-Link-clause-text c =
    if_ok_map _ _ c.open_link.result
    (λ begun p more. ap (λ b. with_pieces_in c.open_link.new.self (b ∷ are_quotes c.args.self.now.wraps.items) more) p.0
    ∙ other_begun c.args.self.now c.open_link.new.self c.args.wrap.now (ap is_quotes c.in-Link.is) c.open_link.ensures.marks p.1 more)
    c.open_link.ensures.text

pub returns-in_ok-open_block-in-Display-clause-text : goal.returns-in_ok-open_block-in-Display-clause-text
returns-in_ok-open_block-in-Display-clause-text c =
    other_begun c.args.self.now (record c.open_tags.new.self { markup = c.open_block.new.self }) c.args.wrap.now (ap is_quotes c.in-Display.is) c.open_tags.ensures.marks
    (λ m. same_continued _ _ _ _ c.in_ok-open_block-in-Display.ensures.text c.open_block.ensures.takes_space m ∙ c.in_ok-open_tags-in-Display.ensures.text m)
