use Rattle.std.proofs.Common.{◌≡◌, true, refl, arith}
use Rattle.std.specs.Prelude.{is_ok}
use Rattle.std.proofs.lemmas.Bool.Decides.{nat_tests}
use Rattle.write_html.proofs.Pushed.{Leads-char, Leads-written, is_plain}
use Rattle.write_html.proofs.Texts.{reads_38, reads_60, reads_62, text_in-char, text_written}
use Rattle.write_html.proofs.markup.Markup.push_shown.Goals as goal

pub invariant_of-self : goal.invariant_of-self
invariant_of-self c = record { nested = Leads-written (is_ok c.push_str.result) _ _ _ _ _ c.push_str.ensures.bytes c.args.self.now.nested (record { ends = refl; nests = refl }) }

pub invariant_of-self-in-60 : goal.invariant_of-self-in-60
invariant_of-self-in-60 c = record { nested = Leads-written (is_ok c.push_str-in-60.result) _ _ _ _ _ c.push_str-in-60.ensures.bytes c.args.self.now.nested (record { ends = refl; nests = refl }) }

pub invariant_of-self-in-62 : goal.invariant_of-self-in-62
invariant_of-self-in-62 c = record { nested = Leads-written (is_ok c.push_str-in-62.result) _ _ _ _ _ c.push_str-in-62.ensures.bytes c.args.self.now.nested (record { ends = refl; nests = refl }) }

pub invariant_of-self-in_default : goal.invariant_of-self-in_default
invariant_of-self-in_default c =
    let plain : is_plain c.args.c ≡ true = grind (arith, nat_tests) in
    record { nested = Leads-written (is_ok c.push.result) _ _ _ _ _ c.push.ensures.bytes c.args.self.now.nested (Leads-char c.args.c _ plain) }

pub returns-in-38-clause-text : goal.returns-in-38-clause-text
returns-in-38-clause-text c =
    let e : c.args.c ≡ 38 = omega arith in
    rw e (text_written c.push_str.result _ _ _ _ _ _ c.push_str.ensures.bytes c.args.self.now.nested reads_38)

pub returns-in-60-clause-text : goal.returns-in-60-clause-text
returns-in-60-clause-text c =
    let e : c.args.c ≡ 60 = omega arith in
    rw e (text_written c.push_str-in-60.result _ _ _ _ _ _ c.push_str-in-60.ensures.bytes c.args.self.now.nested reads_60)

pub returns-in-62-clause-text : goal.returns-in-62-clause-text
returns-in-62-clause-text c =
    let e : c.args.c ≡ 62 = omega arith in
    rw e (text_written c.push_str-in-62.result _ _ _ _ _ _ c.push_str-in-62.ensures.bytes c.args.self.now.nested reads_62)

pub returns-in_default-clause-text : goal.returns-in_default-clause-text
returns-in_default-clause-text c =
    let plain : is_plain c.args.c ≡ true = grind (arith, nat_tests) in
    text_written c.push.result _ _ _ _ _ _ c.push.ensures.bytes c.args.self.now.nested (text_in-char c.args.c plain)
