use Rattle.std.proofs.Common.{◌≡◌, ◌-◌, ap, arith, length, Some, vec_len}
use Rattle.std.specs.Prelude.{slice_get}
use Rattle.write_html.proofs.Pushed.{Leads-closed, popped}
use Rattle.write_html.proofs.Texts.{text_same}
use Rattle.write_html.proofs.markup.Markup.close_last.Goals as goal

pub invariant_of-self-in-Some : goal.invariant_of-self-in-Some
invariant_of-self-in-Some c =
    let ts = c.args.self.now.tags.items in
    let last : slice_get ts (length ts - 1) ≡ Some c.in-Some.tag =
    rw (← c.deref.ensures.value) (cc (c.last.ensures.value, c.copied.ensures, c.in-Some.is)) in
    let long : vec_len c.args.self.now.tags ≡ length ts =
    omega (arith, ap length c.deref.ensures.value, c.deref.ensures.len) in
    record {
      nested = Leads-closed _ _ _ ts _ c.in-Some.tag _ c.in_ok-push_str-in-Some.ensures.bytes
          (popped ts _ _ c.pop.result c.in-Some.tag long last c.pop.ensures.items c.pop.ensures.value)
          c.args.self.now.nested c.closing.ensures.closes;
    }

pub returns-in_ok-push_str-in-Some-clause-text : goal.returns-in_ok-push_str-in-Some-clause-text
returns-in_ok-push_str-in-Some-clause-text c = text_same _ _ _ _ _ c.in_ok-push_str-in-Some.ensures.bytes c.args.self.now.nested c.closing.ensures.no_text
