use Rattle.write_html.proofs.Links.{begins}
use Rattle.write_html.proofs.addresses.begins_with.Goals as goal

pub returns-in-Some : goal.returns-in-Some
returns-in-Some c t =
    begins c.in-Some.head.now c.args.text.now c.args.beginning.now c.in-Some.ensures.front
    (c.eq_ignore_ascii_case.ensures.test.0 t)
