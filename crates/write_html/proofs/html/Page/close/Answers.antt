use Rattle.std.proofs.Common.{◌≡◌, ◌-◌, ◌∙◌, ◌++◌, ap, arith, length, map, Some, vec_len}
use Rattle.std.specs.Prelude.{slice_get}
use Rattle.std.specs.Str.{chars}
use Rattle.write_html.specs.Page.{open_quotes, with_characters}
use Rattle.write_html.specs.Shown.{base}
use Rattle.write_html.proofs.Pushed.{popped}
use Rattle.write_html.proofs.Streams.{inside_is, on_ok_map, quotes_closed}
use Rattle.write_html.proofs.html.Page.close.Goals as goal

pub returns-in-Some-Quotes : goal.returns-in-Some-Quotes
returns-in-Some-Quotes c =
    let ws = c.args.self.now.wraps.items in
    let last : slice_get ws (length ws - 1) ≡ Some c.in-Some-Quotes.field-0 =
    rw (← c.deref.ensures.value) (cc (c.last.ensures.value, c.copied.ensures, c.in-Some-Quotes.is)) in
    let long : vec_len c.args.self.now.wraps ≡ length ws =
    omega (arith, ap length c.deref.ensures.value, c.deref.ensures.len) in
    on_ok_map c.push_text.result
    (λ h. quotes_closed c.args.self.now c.push_text.new.self c.pop.new.self.items c.in-Some-Quotes.field-0
    (popped ws _ _ c.pop.result c.in-Some-Quotes.field-0 long last c.pop.ensures.items c.pop.ensures.value)
    (ap open_quotes c.in-Some-Quotes.field-0-is)
    (ap (λ v. v.items) c.push_text.ensures.wraps)
    (c.push_text.ensures.marks
    ∙ inside_is c.args.self.now.marks c.inside-self.result c.inside-self.ensures.opens c.inside-self.ensures.closes c.inside-self.ensures.opens_inside c.inside-self.ensures.closes_inside)
    (λ m. h m ∙ ap (λ mark. with_characters c.args.self.now (map base (chars mark.now) ++ m)) c.inside-self.ensures.closes))
    c.push_text.ensures.text
